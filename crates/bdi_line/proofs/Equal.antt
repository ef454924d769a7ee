-- Equal words: a word is kept of them, or nothing where they are 0.
use Rattle.std.proofs.Common.{◌≡◌, ◌≢◌, ℕ, ◌^◌, ◌<◌, List, [], ◌∷◌, length, get_or, take, replicate, Bool, true, false, not, eqb, ◌&&◌, inl, inr, refl, sym, ap, subst, ◌∙◌, arith, lit<, length-take}
use Rattle.std.proofs.Math.Nat.{mod-eq_of_lt}
use Rattle.std.proofs.lemmas.Bool.{cases_Bool, eqb-true}
use Rattle.std.proofs.lemmas.Grind.{same_number_lists, get_or_default_zero}
use Rattle.std.specs.Prelude.{cond, slice_index}
use Rattle.std.proofs.lemmas.List.{take_all, get_or-replicate}
use Rattle.std.proofs.lemmas.Simd.{get_or_wider, Each1-chunk, Each1-get_or, Each1-replicate}
use Rattle.std.specs.Simd.Lanes.{number_l, digits_l, chunk, Each1}
use Rattle.bdi_line.specs.Line.{values}
use Rattle.bdi_line.specs.Coded.{code_number, FitsCode, IsCoded, IsByteLine}
use Rattle.bdi_line.specs.Packed.{is_all, fits, wider, first_code, code_of, payload_under}
use Rattle.bdi_line.specs.declared.codes.Code.{Code}
use Rattle.bdi_line.specs.declared.codes.Code.TheVariants.{Zeros, Repeated, B8D1}
use Rattle.bdi_line.proofs.Digits.{digits-number, number-digits, number_lt, digits_below, length-digits, length-values, bytes_back}
use Rattle.bdi_line.proofs.Least.{coded_line, both, true_fits, fits_true}
use Rattle.bdi_line.proofs.Unique.{bytes_of_line, zero_line, repeated_line, coded_unique, under}

-- ---- the code of such a line

zeros_code : (line : List ℕ) → is_all 0 line ≡ true → code_of line ≡ Zeros
unfolding code_of
zeros_code line full =
    ap (λ b. cond b Zeros (first_code (λ c. fits c line) (Repeated ∷ B8D1 ∷ wider))) full

repeated_code : (line : List ℕ) → is_all 0 line ≡ false → fits Repeated line ≡ true
    → code_of line ≡ Repeated
unfolding code_of
repeated_code line part full =
    ap (λ b. cond b Zeros (first_code (λ c. fits c line) (Repeated ∷ B8D1 ∷ wider))) part
    ∙ ap (λ b. cond b Repeated (first_code (λ c. fits c line) (B8D1 ∷ wider))) full

coded_by : (line p : List ℕ) (c : Code) → length line ≡ 64 → code_of line ≡ c
    → p ≡ payload_under c line → IsCoded line c p
coded_by line p c long is e =
    let P : List ℕ → Type 0 = IsCoded line c in
    subst P (ap (λ (x : Code). payload_under x line) is ∙ sym e)
    (under line _ _ c is (coded_line line long))

not_both : (line p : List ℕ) → length line ≡ 64 → IsCoded line Repeated p → is_all 0 line ≡ true → ⊥
not_both line p long k full =
    let e : 1 ≡ 0 = ap code_number ((coded_unique line p Repeated long k).0 ∙ zeros_code line full) in
    absurd (omega (arith, e))

not_true : (b : Bool) → (b ≡ true → ⊥) → b ≡ false
not_true true h = absurd (h refl)
not_true false h = refl

pub tells_more : (v : ℕ) → v ≢ 0 → not (eqb v 0) ≡ true
tells_more v more = ap not (not_true (eqb v 0) (λ e. more (eqb-true v 0 e)))

-- ---- zeros

pub empty_of : (p : List ℕ) → length p ≡ 0 → p ≡ []
empty_of [] e = refl
empty_of (x ∷ p) e = absurd (omega (arith, e))

pub zeros_are_bytes : IsByteLine (replicate 64 0)
zeros_are_bytes =
    (refl, λ k d lt. let e = get_or-replicate 64 k 0 d lt in omega (arith, e))

pub zeros_coded : (p : List ℕ) → p ≡ [] → IsCoded (replicate 64 0) Zeros p
zeros_coded p e = coded_by (replicate 64 0) p Zeros refl (zeros_code (replicate 64 0) refl) e

-- equal words of which the first is 0
zero_words : (line : List ℕ) → IsByteLine line → FitsCode Repeated line
    → slice_index (values 8 8 line) 0 ≡ 0 → replicate 64 0 ≡ line
zero_words line bytes repeated none =
    let zeros : replicate 8 0 ≡ values 8 8 line =
    same_number_lists (replicate 8 0) (values 8 8 line) (sym (length-values 8 8 line)) (λ j lt.
    get_or-replicate 8 j 0 0 lt ∙ sym none ∙ sym (repeated j lt)) in
    ap (λ l. digits_l 256 64 (number_l (2 ^ 64) l)) zeros
    ∙ bytes_back 8 8 line bytes.0 (bytes_of_line line bytes) (lit< tt) refl

-- a line is of zeros exactly where its words are equal and the first is 0
zeros_by_word : (line : List ℕ) → IsByteLine line
    → is_all 0 line ≡ (fits Repeated line && eqb (slice_index (values 8 8 line) 0) 0)
unfolding values
zeros_by_word line bytes = elim (cases_Bool (is_all 0 line)) [
  | inl full ↦
      full ∙ ap (λ l. fits Repeated l && eqb (slice_index (values 8 8 l) 0) 0)
      (zero_line line bytes (true_fits Zeros line full))
  | inr part ↦
      part ∙ sym (not_true _ (λ e.
      let is = both _ _ e in
      let same = zero_words line bytes (true_fits Repeated line is.0) (eqb-true _ 0 is.1) in
      let no : true ≡ false = ap (is_all 0) same ∙ part in
      absurd (cc)))
]

by_two : (a b : Bool) (x y z : Code) → cond (a && b) x (cond a y z) ≡ cond a (cond b x y) z
by_two true b x y z = refl
by_two false b x y z = refl

-- so the code of a line is told by its words
pub code_by_words : (line : List ℕ) → length line ≡ 64 → ((k : ℕ) → slice_index line k < 256)
    → code_of line
    ≡ cond (fits Repeated line) (cond (eqb (slice_index (values 8 8 line) 0) 0) Zeros Repeated)
    (first_code (λ c. fits c line) (B8D1 ∷ wider))
unfolding code_of
code_by_words line long below =
    let bytes : IsByteLine line = (
      long,
      λ k d lt.
          let e = get_or_default_zero line k d lt in
          let b = below k in
          omega (arith, e, b),
    ) in
    ap (λ b. cond b Zeros (first_code (λ c. fits c line) (Repeated ∷ B8D1 ∷ wider)))
    (zeros_by_word line bytes)
    ∙ by_two (fits Repeated line) (eqb (slice_index (values 8 8 line) 0) 0) Zeros Repeated _

-- ---- a word

-- 8 bytes that spell the line's first word are its first
same_front : (p line : List ℕ) → Each1 (λ x. x < 256) (chunk 0 8 p)
    → Each1 (λ x. x < 256) (chunk 0 8 line) → length p ≡ 8 → length line ≡ 64
    → number_l 256 (chunk 0 8 p) ≡ number_l 256 (chunk 0 8 line) → p ≡ take 8 line
same_front p line some bytes short long e =
    let lens : length (chunk 0 8 p) ≡ length (chunk 0 8 line) =
    omega (arith, length-take 8 p, length-take 8 line) in
    sym (take_all 8 p (omega arith))
    ∙ sym (digits-number 256 (chunk 0 8 p) some)
    ∙ ap (digits_l 256 (length (chunk 0 8 p))) e
    ∙ ap (λ n. digits_l 256 n (number_l 256 (chunk 0 8 line))) lens
    ∙ digits-number 256 (chunk 0 8 line) bytes

abbrev number_of : ℕ → ℕ
number_of v = number_l (2 ^ 64) (replicate 8 v)

-- the line of a word
abbrev pub word_line : ℕ → List ℕ
word_line v = digits_l 256 64 (number_of v)

word_bytes : (v : ℕ) → Each1 (λ x. x < 256) (word_line v)
word_bytes v = digits_below 256 64 (number_of v) (lit< tt)

word_values : (v : ℕ) → v < 2 ^ 64 → values 8 8 (word_line v) ≡ replicate 8 v
unfolding values
word_values v lt =
    let each = Each1-replicate (λ x. x < 2 ^ 64) 8 v lt in
    let below : number_of v < 256 ^ 64 = number_lt (2 ^ 64) (replicate 8 v) each in
    ap (digits_l (256 ^ 8) 8) (number-digits 256 64 (number_of v) (lit< tt) ∙ mod-eq_of_lt below)
    ∙ digits-number (2 ^ 64) (replicate 8 v) each

pub word_is_bytes : (v : ℕ) → IsByteLine (word_line v)
word_is_bytes v = (length-digits 256 64 (number_of v), λ k d lt. Each1-get_or (λ x. x < 256) (word_line v) k d lt (word_bytes v))

module _ (p : List ℕ) (v : ℕ) (short : length p ≡ 8)
    (some : Each1 (λ x. x < 256) (chunk 0 8 p)) (is : v ≡ number_l 256 (chunk 0 8 p)) where
  pub word_coded : v < 2 ^ 64 → v ≢ 0 → IsCoded (word_line v) Repeated p
  unfolding values
  word_coded lt more =
      let line = word_line v in
      let long : length line ≡ 64 = length-digits 256 64 (number_of v) in
      let vs = word_values v lt in
      let first : v ≡ number_l 256 (chunk 0 8 line) =
      sym (ap (λ l. get_or l 0 0) vs)
      ∙ get_or_wider 256 8 (256 ^ 8) 8 line 0 refl (word_bytes v) (lit< tt) in
      let front : p ≡ take 8 line =
      same_front p line some (Each1-chunk (λ x. x < 256) 0 8 line (word_bytes v)) short long
      (sym is ∙ first) in
      let part : is_all 0 line ≡ false = not_true _ (λ full.
      more (first ∙ ap (λ l. number_l 256 (chunk 0 8 l))
      (sym (zero_line line (word_is_bytes v) (true_fits Zeros line full))))) in
      let equal : FitsCode Repeated line = λ j lt. ap (λ l. slice_index l j) vs
      ∙ get_or-replicate 8 j v 0 lt ∙ sym (ap (λ l. slice_index l 0) vs) in
      coded_by line p Repeated long (repeated_code line part (fits_true Repeated line equal)) front

  pub coded_word : (line : List ℕ) → IsByteLine line → IsCoded line Repeated p → v ≢ 0
  coded_word line bytes k = λ none.
      let same : line ≡ replicate 64 0 =
      sym (bytes_back 8 8 line bytes.0 (bytes_of_line line bytes) (lit< tt) refl)
      ∙ ap (λ l. digits_l 256 64 (number_l (2 ^ 64) l))
      (sym (repeated_line line p v bytes k.fits k.payload_is is))
      ∙ ap word_line none in
      not_both line p bytes.0 k (ap (is_all 0) same)
