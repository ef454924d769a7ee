-- Words that were put one after the other.
use Rattle.std.proofs.Common.{◌≡◌, ℕ, ◌+◌, ◌-◌, ◌*◌, ◌^◌, ◌%◌, ◌<◌, List, ◌++◌, length, take, refl, sym, ap, ◌∙◌, arith}
use Rattle.std.specs.Int.{w64, to_le_bytes}
use Rattle.std.proofs.lemmas.Slice.{take-put_mid}
use borrow.Rule.Slice.PartMut.{put_mid, mid_len, same_len_mid}
use Rattle.zr_base.specs.Plain.{words_from}
use Rattle.zr_base.proofs.Ranges.{flat_map-range_push}
use mathlib.Core.Path.{fun_ext}

-- word i was put after those before it, into a sector
module _ (f : ℕ → ℕ) (from i : ℕ) (out bytes : List ℕ) (size : length out ≡ 512) (below : i < 64)
    (here : bytes ≡ to_le_bytes w64 (f (from + i))) where
  width : length bytes ≡ 8
  width = ap length here ∙ refl

  pub words_put : take (8 * i) out ≡ words_from f from i
      → take (8 * (i + 1)) (put_mid (8 * i) (8 * i + 8 - 8 * i) out bytes)
      ≡ words_from f from (i + 1)
  words_put before =
      take-put_mid (8 * i) (8 * i + 8 - 8 * i) out bytes (8 * (i + 1))
      (omega (arith, width)) (omega arith)
      ∙ ap (λ (xs : List ℕ). xs ++ bytes) before
      ∙ ap (λ (xs : List ℕ). words_from f from i ++ xs) here
      ∙ sym (flat_map-range_push (λ j. to_le_bytes w64 (f j)) from i (from + i) refl)

  pub length_put : length (put_mid (8 * i) (8 * i + 8 - 8 * i) out bytes) ≡ 512
  length_put =
      let n : 8 * i + 8 - 8 * i ≡ 8 = omega arith in
      same_len_mid (8 * i) (8 * i + 8 - 8 * i) out bytes
      (width ∙ sym n ∙ sym (mid_len (8 * i) (8 * i + 8) out (omega arith)))
      ∙ size

-- words of one value
pub words-fill : (word from n : ℕ) → word < 2 ^ 64
    → words_from (λ j. (word + j * 0) % 2 ^ 64) from n ≡ words_from (λ j. word) from n
words-fill word from n fits =
    ap (λ (f : ℕ → ℕ). words_from f from n) (fun_ext (λ j. same j))
  where
    same : (j : ℕ) → (word + j * 0) % 2 ^ 64 ≡ word
    same j = omega arith
