-- The sectors of a piece.
use Rattle.std.proofs.Common.{◌≡◌, ℕ, zero, suc, ◌+◌, ◌-◌, ◌*◌, ◌≤◌, min, max, List, ◌∷◌, map, take, drop, refl, ap, ◌∙◌, arith}
use Rattle.std.proofs.lemmas.List.{drop-drop}
use Rattle.std.specs.Simd.{first_chunks}
use Rattle.std.specs.List.{range_with_len}
use Rattle.zr_base.specs.declared.op.Op.TheVariants.{Read}
use Rattle.zr_base.specs.Sectors.{page_sector}
use Rattle.call_history.specs.Parts.{got_by}

-- counted from another number on
map_range_shift : {X : Type 0} (f : ℕ → X) (c a b n : ℕ) → a ≡ c + b
    → map f (range_with_len b n) ≡ map (λ s. f (s - c)) (range_with_len a n)
map_range_shift f c a b zero e = refl
map_range_shift {X} f c a b (suc n) e =
    λ i. f ((let q : b ≡ a - c = omega arith in q) i) ∷ map_range_shift f c (a + 1) (b + 1) n
    (omega arith) i

-- the sectors that a read gets, by its piece
pub got_read : (start count page first n : ℕ) (old : List ℕ)
    → first ≡ max start (8 * page) - 8 * page
    → n ≡ min (start + count) (8 * page + 8) - max start (8 * page)
    → map (page_sector old) (range_with_len first n)
    ≡ got_by (Read start count) page (λ s. page_sector old (s - 8 * page))
got_read start count page first n old first_is n_is =
    map_range_shift (page_sector old) (8 * page) (max start (8 * page)) first n (omega arith)
    ∙ ap (λ (m : ℕ). map (λ s. page_sector old (s - 8 * page))
    (range_with_len (max start (8 * page)) m)) n_is

-- ---- sectors as chunks of a page

-- the sectors of the rest of a page
sector_next : (page : List ℕ) (k : ℕ) → page_sector (drop 512 page) k ≡ page_sector page (k + 1)
sector_next page k =
    ap (take 512) (drop-drop (512 * k) 512 page
    ∙ ap (λ n. drop n page) (let q : 512 + 512 * k ≡ 512 * (k + 1) = omega arith in q))

sectors_next : (page : List ℕ) (f c : ℕ) → map (page_sector (drop 512 page)) (range_with_len f c)
    ≡ map (page_sector page) (range_with_len (f + 1) c)
sectors_next page f zero = refl
sectors_next page f (suc c) = λ i. sector_next page f i ∷ sectors_next page (f + 1) c i

-- some of a page's chunks are its sectors
pub chunks_are : (c f n : ℕ) (page : List ℕ) → f + c ≤ n
    → take c (drop f (first_chunks 512 n page)) ≡ map (page_sector page) (range_with_len f c)
chunks_are zero f n page le = refl
chunks_are (suc c) f zero page le = absurd (omega arith)
chunks_are (suc c) zero (suc n) page le = λ i. take 512 page
    ∷ (chunks_are c zero n (drop 512 page) (omega arith) ∙ sectors_next page 0 c) i
chunks_are (suc c) (suc f) (suc n) page le =
    chunks_are (suc c) f n (drop 512 page) (omega arith)
    ∙ sectors_next page f (suc c)
    ∙ ap (λ m. map (page_sector page) (range_with_len m (suc c)))
    (let q : f + 1 ≡ suc f = omega arith in q)
