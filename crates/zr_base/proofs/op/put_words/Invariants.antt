use Rattle.std.proofs.Common.{◌≡◌, ◌+◌, ◌*◌, ◌^◌, ◌%◌, length, take}
use Rattle.zr_base.specs.Plain.{words_from}
use Rattle.zr_base.proofs.op.put_words.Given as goal

abbrev pub invariant-loop-i : goal.invariant-loop-i
invariant-loop-i l =
    (length l.out ≡ 512)
    × (take (8 * l.i) l.out ≡ words_from (λ j. (l.fn.base + j * l.fn.step) % 2 ^ 64) l.fn.from l.i)
