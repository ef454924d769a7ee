-- A sector of a page before and after a sector was put.
use Rattle.std.proofs.Common.{◌≡◌, ◌≢◌, ◌⊎◌, ℕ, ◌+◌, ◌*◌, ◌<◌, ◌≤◌, List, ◌++◌, length, take, drop, sym, ap, ◌∙◌, inl, inr, subst, arith, length-take-le}
use Rattle.std.proofs.Math.Seq.{drop-append_seam}
use Rattle.std.proofs.lemmas.List.{drop-take}
use Rattle.std.proofs.lemmas.Slice.{take-put_mid, take-put_mid_below, drop-put_mid}
use borrow.Rule.Slice.PartMut.{put_mid}
use Rattle.zr_base.specs.Sectors.{page_sector}

-- what stands after the front of a list
drop-front : (a : ℕ) (xs ys : List ℕ) → a ≤ length xs → drop a (take a xs ++ ys) ≡ ys
drop-front a xs ys fits =
    let n : length (take a xs) ≡ a = length-take-le a xs fits in
    let P : ℕ → Type 0 = λ k. drop k (take a xs ++ ys) ≡ ys in
    subst P n (drop-append_seam (take a xs) ys)

below_or_above : (a b : ℕ) → a ≢ b → (a < b) ⊎ (b < a)
below_or_above a b h = grind arith

-- the part from a on was written, which is sector `at`
module _ (a n at : ℕ) (xs ys : List ℕ) (whole : n ≡ 512) (start : a ≡ 512 * at)
    (fits : a + 512 ≤ length xs) (size : length ys ≡ 512) where
  pub page_sector-put : page_sector (put_mid a n xs ys) at ≡ ys
  page_sector-put =
      let first : 512 * at ≡ a = sym start in
      rw first (sym (drop-take a 512 (put_mid a n xs ys))
      ∙ ap (drop a) (take-put_mid a n xs ys (a + 512) (omega arith) (omega arith))
      ∙ drop-front a xs ys (omega arith))

  pub page_sector-put_other : (k : ℕ) → k ≢ at
      → page_sector (put_mid a n xs ys) k ≡ page_sector xs k
  page_sector-put_other k other =
      elim (below_or_above k at other) [
        | inl below ↦
            sym (drop-take (512 * k) 512 (put_mid a n xs ys))
            ∙ ap (drop (512 * k))
            (take-put_mid_below a n xs ys (512 * k + 512) (omega arith) (omega arith))
            ∙ drop-take (512 * k) 512 xs
        | inr above ↦
            ap (take 512)
            (drop-put_mid a n xs ys (512 * k) (omega arith) (omega arith) (omega arith))
      ]
