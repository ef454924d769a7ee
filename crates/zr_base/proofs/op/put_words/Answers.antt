use Rattle.std.proofs.Common.{◌≡◌, ℕ, ◌+◌, ◌*◌, ◌^◌, ◌%◌, ◌∙◌, arith, take, sym, ap, subst}
use Rattle.std.proofs.Math.Nat.{add-mod-mod}
use Rattle.std.specs.Int.{w64, to_le_bytes}
use Rattle.std.proofs.lemmas.List.{take_all}
use Rattle.zr_base.specs.Plain.{words_from}
use Rattle.zr_base.proofs.Words.{words_put, length_put}
use Rattle.zr_base.proofs.op.put_words.Goals as goal

pub loop-i-preserved : goal.loop-i-preserved
loop-i-preserved c =
    let f : ℕ → ℕ = λ j. (c.args.base + j * c.args.step) % 2 ^ 64 in
    let l = c.loop-i in
    let bytes = c.copy_from_slice.new.self in
    let here : bytes ≡ to_le_bytes w64 (f (c.args.from + l.i)) =
    c.copy_from_slice.ensures.after ∙ c.to_le_bytes.ensures
    ∙ ap (to_le_bytes w64) (add-mod-mod _ _ _) in
    let below = c.loop-i-test.true in (
      length_put f c.args.from l.i l.out bytes l.invariant.0 below here,
      words_put f c.args.from l.i l.out bytes l.invariant.0 below here l.invariant.1,
    )

pub returns : goal.returns
returns c =
    let all : c.loop-i.i ≡ 64 = omega arith in
    let f : ℕ → ℕ = λ j. (c.args.base + j * c.args.step) % 2 ^ 64 in
    let P : ℕ → Type 0 = λ n. take (8 * n) c.loop-i.out ≡ words_from f c.args.from n in
    sym (take_all 512 c.loop-i.out (omega (arith, c.loop-i.invariant.0)))
    ∙ subst P all c.loop-i.invariant.1
