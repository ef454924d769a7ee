use Rattle.std.proofs.Common.{◌≡◌, ℕ, List, ◌++◌, OnOk, subst}
use Rattle.std.specs.List.{flat_map}
use Rattle.job_print.specs.Texts.{hex_byte, word_digits}
use Rattle.job_print.proofs.put.put_word_digits.Goals as goal

pub returns : goal.returns
unfolding word_digits
returns c =
    let P : List ℕ → Type 0 = λ bytes. OnOk c.put_hex.result
    (c.put_hex.new.out.items ≡ c.args.out.now.items ++ flat_map hex_byte bytes) in
    subst P c.to_be_bytes.ensures c.put_hex.ensures
