-- The three forms of a page that was written.
use Rattle.std.proofs.Common.{◌≡◌, ℕ, ◌<◌, ◌≤◌, inl, inr, List, [], ◌∷◌, Bool, true, false, eqb, leb, length, refl, sym, ap, ◌∙◌, subst, arith}
use Rattle.std.specs.Prelude.{if◌then◌else◌}
use Rattle.std.proofs.lemmas.Bool.{cases_Bool, eqb-true, eq-eqb, leb-true, leb-false}
use Rattle.mem_account.specs.declared.weight.Weight.{Weight}
use Rattle.mem_account.specs.declared.weight.Weight.TheVariants as weight
use Rattle.same_fill.specs.Filled.{word_at, IsFilled}
use Rattle.bdi_page.specs.Packing.{packed, IsPage, IsPacking, HasOnePacking}
use Rattle.slot_entry.specs.Forms.{PageForm, Blank, Word, Pooled, same_list, is_same, filled_page, form_of, form_weight, page_weight, IsSame, PacksIn, HasForm, IsPacked}
use Rattle.slot_entry.specs.declared.limits.TheConstants.{MOST_PACKED}
use Rattle.slot_entry.proofs.Words.{AreBytes, filled_one, filled_words, first_low}

-- ---- lists with the same elements

pub same_lists : (xs ys : List ℕ) → same_list xs ys ≡ true → xs ≡ ys
same_lists [] [] e = refl
same_lists [] (y ∷ ys) e = absurd (cc)
same_lists (x ∷ xs) [] e = absurd (cc)
same_lists (x ∷ xs) (y ∷ ys) e = elim (cases_Bool (eqb x y)) [
  | inl on ↦
      let first = eqb-true x y on in
      let rest = same_lists xs ys (rw on at e) in
      λ i. first i ∷ rest i
  | inr off ↦ absurd (let no : false ≡ true = rw off at e in cc)
]

same_self : (xs : List ℕ) → same_list xs xs ≡ true
same_self [] = refl
same_self (x ∷ xs) = rw (eq-eqb x x refl) (same_self xs)

pub lists_same : (xs ys : List ℕ) → xs ≡ ys → same_list xs ys ≡ true
lists_same xs ys e = subst (λ l. same_list xs l ≡ true) e (same_self xs)

-- ---- forms

-- what a page's form can be
pub data Kind (page : List ℕ) (form : PageForm) : Type 0 where
  of_word : (w : ℕ) → form ≡ Word w → IsFilled page w → Kind page form
  of_packed : form ≡ Pooled (packed page) false → (IsSame page → ⊥)
      → length (packed page) ≤ MOST_PACKED → Kind page form
  of_huge : form ≡ Pooled page true → (IsSame page → ⊥) → MOST_PACKED < length (packed page)
      → Kind page form

-- the form goes by whether all words are one, and then by the packing's length
form_by : (page : List ℕ) (same short : Bool) → is_same page ≡ same
    → leb (length (packed page)) MOST_PACKED ≡ short
    → form_of page ≡ (if same then Word (word_at page 0)
    else (if short then Pooled (packed page) false else Pooled page true))
unfolding form_of
form_by page same short a b =
    λ i. if a i then Word (word_at page 0)
    else (if b i then Pooled (packed page) false else Pooled page true)

not_same : (page : List ℕ) → IsPage page → is_same page ≡ false → IsSame page → ⊥
not_same page is off (w, words) =
    let e : page ≡ filled_page (word_at page 0) =
    filled_one page w is words ∙ ap filled_page (sym (words 0 (omega arith))) in
    let yes : is_same page ≡ true = lists_same page _ e in
    cc

kind_by : (page : List ℕ) (same short : Bool) → is_same page ≡ same
    → leb (length (packed page)) MOST_PACKED ≡ short → IsPage page → Kind page (form_of page)
kind_by page true fits a b is =
    let w : ℕ = word_at page 0 in
    let e : page ≡ filled_page w = same_lists page (filled_page w) a in
    let P : List ℕ → Type 0 = λ p. IsFilled p w in
    of_word w (form_by page true fits a b) (subst P (sym e) (filled_words w (first_low page is)))
kind_by page false true a b is =
    of_packed (form_by page false true a b) (not_same page is a) (leb-true _ _ b)
kind_by page false false a b is =
    of_huge (form_by page false false a b) (not_same page is a) (leb-false _ _ b)

pub kind : (page : List ℕ) → IsPage page → Kind page (form_of page)
kind page is = kind_by page _ _ refl refl is

pub not_blank : (page : List ℕ) → IsPage page → form_of page ≡ Blank → ⊥
not_blank page is e = elim (kind page is) [
  | of_word w f words ↦ (cc)
  | of_packed f other le ↦ (cc)
  | of_huge f other lt ↦ (cc)
]

pub word_is : (page : List ℕ) (w : ℕ) → IsPage page → form_of page ≡ Word w → IsFilled page w
word_is page w is e = elim (kind page is) [
  | of_word v f words ↦
      let same : v ≡ w = cc in
      let P : ℕ → Type 0 = IsFilled page in
      subst P same words
  | of_packed f other le ↦ absurd (cc)
  | of_huge f other lt ↦ absurd (cc)
]

pub packed_by : (page bytes : List ℕ) → IsPage page → form_of page ≡ Pooled bytes false
    → (bytes ≡ packed page) × (IsSame page → ⊥) × (length (packed page) ≤ MOST_PACKED)
packed_by page bytes is e = elim (kind page is) [
  | of_word w f words ↦ absurd (cc)
  | of_packed f other le ↦ (let same : bytes ≡ packed page = cc in (same, other, le))
  | of_huge f other lt ↦ absurd (let no : Pooled bytes false ≡ Pooled page true = sym e ∙ f in cc)
]

pub huge_by : (page bytes : List ℕ) → IsPage page → form_of page ≡ Pooled bytes true
    → (bytes ≡ page) × (IsSame page → ⊥) × (MOST_PACKED < length (packed page))
huge_by page bytes is e = elim (kind page is) [
  | of_word w f words ↦ absurd (cc)
  | of_packed f other le ↦
      absurd (let no : Pooled bytes true ≡ Pooled (packed page) false = sym e ∙ f in cc)
  | of_huge f other lt ↦ (let same : bytes ≡ page = cc in (same, other, lt))
]

-- no object is longer than a page
pub kept_long : (page bytes : List ℕ) (huge : Bool) → IsPage page
    → form_of page ≡ Pooled bytes huge → length bytes ≤ 4096
kept_long page bytes true is e = omega (arith, ap length (huge_by page bytes is e).0, is.0)
kept_long page bytes false is e =
    let p = packed_by page bytes is e in omega (arith, ap length p.0, p.2)

pub is_word : (page : List ℕ) (w : ℕ) → IsPage page → IsFilled page w → form_of page ≡ Word w
is_word page w is words = elim (kind page is) [
  | of_word v f others ↦
      let same : v ≡ w = sym (others 0 (omega arith)) ∙ words 0 (omega arith) in
      f ∙ ap Word same
  | of_packed f other le ↦ absurd (other (w, words))
  | of_huge f other lt ↦ absurd (other (w, words))
]

-- ---- packings

module _ (law : (page : List ℕ) → length page ≡ 4096 → HasOnePacking page) (page : List ℕ)
    (is : IsPage page) (bytes : List ℕ) (k : IsPacking page bytes) (other : IsSame page → ⊥) where
  packing_is : bytes ≡ packed page
  packing_is = (law page is.0).one bytes k

  pub is_short : length bytes ≤ MOST_PACKED → form_of page ≡ Pooled bytes false
  is_short le = elim (kind page is) [
    | of_word w f words ↦ absurd (other (w, words))
    | of_packed f differ low ↦ f ∙ ap (λ l. Pooled l false) (sym packing_is)
    | of_huge f differ lt ↦ absurd (let e = ap length packing_is in omega arith)
  ]

  pub is_long : MOST_PACKED < length bytes → form_of page ≡ Pooled page true
  is_long gt = elim (kind page is) [
    | of_word w f words ↦ absurd (other (w, words))
    | of_packed f differ low ↦ absurd (let e = ap length packing_is in omega arith)
    | of_huge f differ lt ↦ f
  ]

module _ (law : (page : List ℕ) → length page ≡ 4096 → HasOnePacking page)
    (some : (page : List ℕ) → 32 ≤ length (packed page))
    (bytes_law : (page : List ℕ) → IsPage page → AreBytes (packed page)) where
  pub packed_is : (page bytes : List ℕ) → IsPage page → form_of page ≡ Pooled bytes false
      → IsPacked page bytes
  packed_is page bytes is e =
      let p = packed_by page bytes is e in
      let P : List ℕ → Type 0 = IsPacked page in
      subst P (sym p.0) record {
        packing = (law page is.0).packing;
        some = some page;
        short = p.2;
        below = bytes_law page is;
      }

  -- ---- weights

  packs_in : (page : List ℕ) → IsPage page → (IsSame page → ⊥) → PacksIn page (length (packed page))
  packs_in page is other = record {
    other = other;
    bytes = packed page;
    packing = (law page is.0).packing;
    len_is = refl;
  }

  pub has_weight : (page : List ℕ) → IsPage page → HasForm (page_weight page) page
  has_weight page is =
      let P : PageForm → Type 0 = λ f. HasForm (form_weight f) page in
      elim (kind page is) [
        | of_word w f words ↦ subst P (sym f) (w, words)
        | of_packed f other le ↦ subst P (sym f) (packs_in page is other, le)
        | of_huge f other lt ↦ subst P (sym f) (length (packed page), packs_in page is other, lt)
      ]

  pub one_weight : (page : List ℕ) (w : Weight) → IsPage page → HasForm w page
      → w ≡ page_weight page
  one_weight page weight.Empty is h = absurd h
  one_weight page weight.Same is (w, words) = ap form_weight (sym (is_word page w is words))
  one_weight page (weight.Packed len) is (p, le) =
      ap weight.Packed (sym p.len_is)
      ∙ ap form_weight (sym (is_short law page is p.bytes p.packing p.other
      (let e = p.len_is in omega arith)))
  one_weight page weight.Huge is (len, p, lt) =
      ap form_weight (sym (is_long law page is p.bytes p.packing p.other
      (let e = p.len_is in omega arith)))
  one_weight page weight.Back is h = absurd h
