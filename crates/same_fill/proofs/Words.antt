-- Words as parts of a page.
use Rattle.std.proofs.Common.{◌≡◌, ℕ, ◌+◌, ◌-◌, ◌*◌, ◌/◌, ◌%◌, ◌^◌, ◌<◌, ◌≤◌, List, length, get_or, take, drop, Bool, not, map, eqb, replicate, refl, sym, ap, ◌∙◌, arith}
use Rattle.std.proofs.lemmas.Bool.{eqb-true, eq-eqb, not-false}
use Rattle.std.proofs.lemmas.Grind.{same_number_lists}
use Rattle.std.proofs.lemmas.Simd.{get_or_wider, length-chunk, get_or-chunk, length-put_chunk, get_or-put_chunk_at, get_or-put_chunk_below, chunk-fits, below_from_Fits, none_from_empty_mask}
use Rattle.std.proofs.lemmas.List.{get_or-replicate, drop-take, take-take, drop-drop}
use Rattle.std.proofs.Math.Seq.{take-length}
use Rattle.std.specs.Simd.Lanes.{mask_l, number_l, digits_l, chunk, put_chunk}
use Rattle.std.specs.Int.{w8, bytes_low_first}
use mir.Val.{Fits}
use Rattle.zr_base.specs.Sectors.{page_sector}
use Rattle.same_fill.specs.Filled.{word_at}

chunk_in : (xs : List ℕ) (i n j k : ℕ) → j + k ≤ n → i + n ≤ length xs
    → chunk j k (chunk i n xs) ≡ chunk (i + j) k xs
chunk_in xs i n j k le within =
    ap (λ m. chunk j k (take m (drop i xs))) (let e : n ≡ j + (n - j) = omega arith in e)
    ∙ ap (take k) (drop-take j (n - j) (drop i xs))
    ∙ take-take k (n - j) (drop j (drop i xs)) (omega arith)
    ∙ ap (take k) (drop-drop j i xs)

-- a lane of a line is a word of the page
pub word_in_line : (page : List ℕ) (i j : ℕ) → length page ≡ 4096
    → ((k : ℕ) → Fits w8 (get_or page k 0)) → i < 64 → j < 8
    → get_or (digits_l (2 ^ 64) 8 (number_l 256 (chunk (64 * i) 64 page))) j 0
    ≡ word_at page (8 * i + j)
word_in_line page i j long fits inside lt =
    get_or_wider 256 8 (2 ^ 64) 8 (chunk (64 * i) 64 page) j refl
    (below_from_Fits w8 _ (chunk-fits w8 (64 * i) 64 page fits)) lt
    ∙ ap (number_l 256) (chunk_in page (64 * i) 64 (8 * j) 8 (omega arith) (omega arith)
    ∙ ap (λ a. chunk a 8 page) (let e : 64 * i + 8 * j ≡ 8 * (8 * i + j) = omega arith in e))

-- where each sector is this one, each word of the page is that of a sector
pub word_in_sector : (page sector : List ℕ) (word j : ℕ) → length page ≡ 4096 → j < 512
    → ((k : ℕ) → k < 8 → page_sector page k ≡ sector)
    → ((k : ℕ) → k < 64 → word_at sector k ≡ word) → word_at page j ≡ word
word_in_sector page sector word j long lt same words =
    let k = j / 64 in
    let m = j % 64 in
    let place : 512 * k + 8 * m ≡ 8 * j = omega arith in
    ap (number_l 256) (ap (λ a. chunk a 8 page) (sym place)
    ∙ sym (chunk_in page (512 * k) 512 (8 * m) 8 (omega arith) (omega arith))
    ∙ ap (chunk (8 * m) 8) (same k (omega arith)))
    ∙ words m (omega arith)

-- what was written is read, and the words before it stay
pub word_written : (bytes ys : List ℕ) (k : ℕ) → 8 * k + 8 ≤ length bytes → length ys ≡ 8
    → word_at (put_chunk (8 * k) bytes ys) k ≡ number_l 256 ys
word_written bytes ys k within eight =
    let written = put_chunk (8 * k) bytes ys in
    let len : length (chunk (8 * k) 8 written) ≡ 8 =
    length-chunk (8 * k) 8 written (omega (arith, length-put_chunk (8 * k) bytes ys)) in
    ap (number_l 256) (same_number_lists (chunk (8 * k) 8 written) ys (len ∙ sym eight) (λ m small.
    get_or-chunk (8 * k) 8 written m 0 (omega arith)
    ∙ get_or-put_chunk_at (8 * k) bytes ys m 0 (omega arith) (omega arith)))

pub word_kept : (bytes ys : List ℕ) (j k : ℕ) → 8 * k + 8 ≤ length bytes → j < k
    → word_at (put_chunk (8 * k) bytes ys) j ≡ word_at bytes j
word_kept bytes ys j k within before =
    let written = put_chunk (8 * k) bytes ys in
    let len : length (chunk (8 * j) 8 written) ≡ 8 =
    length-chunk (8 * j) 8 written (omega (arith, length-put_chunk (8 * k) bytes ys)) in
    ap (number_l 256) (same_number_lists _ _
    (len ∙ sym (length-chunk (8 * j) 8 bytes (omega arith))) (λ m lt.
    let small : m < 8 = omega arith in
    get_or-chunk (8 * j) 8 written m 0 small
    ∙ get_or-put_chunk_below (8 * k) bytes ys (8 * j + m) 0 (omega arith)
    ∙ sym (get_or-chunk (8 * j) 8 bytes m 0 small)))

-- no lane differs from y where the mask of the lanes that do is empty
pub all_lanes : (y : ℕ) (xs : List ℕ) → length xs ≡ 8 →
    let differs : ℕ → Bool = λ x. not (eqb x y) in
    (mask_l (map differs xs) ≡ 0 → (j : ℕ) → j < 8 → get_or xs j 0 ≡ y)
    × (((j : ℕ) → j < 8 → get_or xs j 0 ≡ y) → mask_l (map differs xs) ≡ 0)
all_lanes y xs long =
    let differs : ℕ → Bool = λ x. not (eqb x y) in (
      (λ empty j lt.
          let whole : take 8 xs ≡ xs = ap (λ n. take n xs) (sym long) ∙ take-length xs in
          let none : mask_l (map differs (take 8 xs)) ≡ 0 = ap (λ l. mask_l (map differs l)) whole
          ∙ empty in
          eqb-true (get_or xs j 0) y (not-false _
          (none_from_empty_mask differs xs 0 8 0 (omega arith) none j (omega arith)
          (omega arith)))),
      (λ same.
          let all : xs ≡ replicate 8 y = same_number_lists xs (replicate 8 y) long
          (λ j lt. same j (omega arith) ∙ sym (get_or-replicate 8 j y 0 (omega arith))) in
          ap (λ l. mask_l (map differs l)) all
          ∙ ap (λ b. mask_l (replicate 8 (not b))) (eq-eqb y y refl)),
    )

pub word_back : (w : ℕ) → w < 2 ^ 64 → number_l 256 (bytes_low_first 0 8 w) ≡ w
word_back w lt = omega arith
