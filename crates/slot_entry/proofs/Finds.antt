-- The page that is found for kept bytes.
use Rattle.std.proofs.Common.{◌≡◌, ℕ, zero, suc, ◌<◌, inl, inr, List, [], ◌∷◌, Bool, true, false, length, refl, sym, ap, ◌∙◌, subst, arith, Option, Some, None}
use Rattle.std.proofs.lemmas.Bool.{cases_Bool, cases_lt}
use Rattle.bdi_page.specs.Packing.{IsPage, IsPacking, HasOnePacking}
use Rattle.slot_entry.specs.Forms.{PageForm, Blank, Word, Pooled, form_of, has_bytes, with_byte, first_there, found_below, find_bytes, or_nothing, page_kept_as}
use Rattle.slot_entry.proofs.Words.{AreBytes}
use Rattle.slot_entry.proofs.Forms.{same_lists, lists_same, packed_by, huge_by}

-- ---- what is found passes, and something is found where something passes

-- found: bytes, so many, that pass
record Passes (test : List ℕ → Bool) (n : ℕ) (xs : List ℕ) : Type 0 where
  yes : test xs ≡ true
  long : length xs ≡ n
  bytes : AreBytes xs

byte_first : (b : ℕ) (bytes : List ℕ) → b < 256 → AreBytes bytes → AreBytes (b ∷ bytes)
byte_first b bytes low rest zero d lt = low
byte_first b bytes low rest (suc k) d lt = rest k d (omega arith)

no_bytes : AreBytes []
no_bytes k d lt = absurd (omega arith)

-- what holds of each answer holds of the first that is there
below_holds : (P : List ℕ → Type 0) (f : ℕ → Option (List ℕ)) (n : ℕ)
    → ((b : ℕ) → b < n → (xs : List ℕ) → f b ≡ Some xs → P xs)
    → (xs : List ℕ) → found_below f n ≡ Some xs → P xs
unfolding found_below
below_holds P f zero each xs e = absurd (cc)
below_holds P f (suc n) each xs e =
    there_holds (f n) (found_below f n) (each n (omega arith))
    (below_holds P f n (λ b lt. each b (omega arith))) xs e
  where
    there_holds : (x y : Option (List ℕ)) → ((xs : List ℕ) → x ≡ Some xs → P xs)
        → ((xs : List ℕ) → y ≡ Some xs → P xs) → (xs : List ℕ) → first_there x y ≡ Some xs → P xs
    there_holds None y p q xs e = q xs e
    there_holds (Some z) y p q xs e = p xs e

-- where nothing is found, no answer is there
below_none : (f : ℕ → Option (List ℕ)) (n : ℕ) → found_below f n ≡ None → (b : ℕ) → b < n
    → f b ≡ None
unfolding found_below
below_none f zero e b lt = absurd (omega arith)
below_none f (suc n) e b lt = elim (cases_lt b n) [
  | inl low ↦ below_none f n (none_there (f n) (found_below f n) e).1 b low
  | inr high ↦ ap f (let same : b ≡ n = omega arith in same) ∙ (none_there (f n) (found_below f n) e).0
]
  where
    none_there : (x y : Option (List ℕ)) → first_there x y ≡ None → (x ≡ None) × (y ≡ None)
    none_there None y e = (refl, e)
    none_there (Some z) y e = absurd (cc)

-- what passes after a byte passes with it
byte_passes : (n : ℕ) (test : List ℕ → Bool) (b : ℕ) → b < 256 → (o : Option (List ℕ))
    → ((zs : List ℕ) → o ≡ Some zs → Passes (λ bytes. test (b ∷ bytes)) n zs)
    → (ys : List ℕ) → with_byte b o ≡ Some ys → Passes test (suc n) ys
byte_passes n test b lt None found ys e = absurd (cc)
byte_passes n test b lt (Some zs) found ys e =
    let r = found zs refl in
    let same : b ∷ zs ≡ ys = cc in
    let P : List ℕ → Type 0 = Passes test (suc n) in
    subst P same record {
      yes = r.yes;
      long = ap suc r.long;
      bytes = byte_first b zs lt r.bytes;
    }

found_passes : (n : ℕ) (test : List ℕ → Bool) (xs : List ℕ) → find_bytes test n ≡ Some xs
    → Passes test n xs
unfolding find_bytes
found_passes zero test xs e = elim (cases_Bool (test [])) [
  | inl on ↦
      let some : Some [] ≡ Some xs = rw on at e in
      let same : [] ≡ xs = cc in
      let P : List ℕ → Type 0 = Passes test 0 in
      subst P same record { yes = on; long = refl; bytes = no_bytes }
  | inr off ↦ absurd (let none : None ≡ Some xs = rw off at e in cc)
]
found_passes (suc n) test xs e =
    below_holds (Passes test (suc n)) _ 256
    (λ b lt. byte_passes n test b lt _ (found_passes n (λ bytes. test (b ∷ bytes)))) xs e

none_passes : (n : ℕ) (test : List ℕ → Bool) (xs : List ℕ) → find_bytes test n ≡ None
    → Passes test n xs → ⊥
unfolding find_bytes
none_passes zero test [] e p = (let none : Some [] ≡ None = rw p.yes at e in cc)
none_passes zero test (x ∷ xs) e p = (let l = p.long in omega arith)
none_passes (suc n) test [] e p = (let l = p.long in omega arith)
none_passes (suc n) test (x ∷ xs) e p =
    let low : x < 256 = p.bytes 0 0 (omega arith) in
    none_passes n (λ bytes. test (x ∷ bytes)) xs
    (no_byte x _ (below_none _ 256 e x low))
    record {
      yes = p.yes;
      long = (let l = p.long in omega arith);
      bytes = λ k d lt. p.bytes (suc k) d (omega arith);
    }
  where
    no_byte : (b : ℕ) (o : Option (List ℕ)) → with_byte b o ≡ None → o ≡ None
    no_byte b None e = refl
    no_byte b (Some ys) e = absurd (cc)

found_one : (n : ℕ) (test : List ℕ → Bool) (xs : List ℕ) → Passes test n xs
    → ((ys : List ℕ) → Passes test n ys → ys ≡ xs) → or_nothing (find_bytes test n) ≡ xs
found_one n test xs p one = by (find_bytes test n) refl
  where
    by : (o : Option (List ℕ)) → find_bytes test n ≡ o → or_nothing o ≡ xs
    by None e = absurd (none_passes n test xs e p)
    by (Some ys) e = one ys (found_passes n test ys e)

-- ---- a form with these bytes

has_its : (bytes : List ℕ) (huge : Bool) → has_bytes bytes huge (Pooled bytes huge) ≡ true
has_its bytes true = lists_same bytes bytes refl
has_its bytes false = lists_same bytes bytes refl

its_has : (bytes : List ℕ) (huge : Bool) (form : PageForm) → has_bytes bytes huge form ≡ true
    → form ≡ Pooled bytes huge
its_has bytes huge Blank e = absurd (cc)
its_has bytes huge (Word w) e = absurd (cc)
its_has bytes true (Pooled b true) e = ap (λ l. Pooled l true) (same_lists b bytes e)
its_has bytes false (Pooled b true) e = absurd (cc)
its_has bytes true (Pooled b false) e = absurd (cc)
its_has bytes false (Pooled b false) e = ap (λ l. Pooled l false) (same_lists b bytes e)

module _ (packing : (page : List ℕ) → length page ≡ 4096 → HasOnePacking page)
    (page_of : (bytes page other : List ℕ) → IsPage page → IsPage other → IsPacking page bytes
    → IsPacking other bytes → page ≡ other) where
  -- two pages with the same object are one
  forms_same : (page other bytes : List ℕ) (huge : Bool) → IsPage page → IsPage other
      → form_of page ≡ Pooled bytes huge → form_of other ≡ Pooled bytes huge → page ≡ other
  forms_same page other bytes true is also e f =
      sym (huge_by page bytes is e).0 ∙ (huge_by other bytes also f).0
  forms_same page other bytes false is also e f =
      let P : List ℕ → Type 0 = IsPacking page in
      let Q : List ℕ → Type 0 = IsPacking other in
      page_of bytes page other is also
      (subst P (sym (packed_by page bytes is e).0) (packing page is.0).packing)
      (subst Q (sym (packed_by other bytes also f).0) (packing other also.0).packing)

  pub kept_as : (page bytes : List ℕ) (huge : Bool) → IsPage page
      → form_of page ≡ Pooled bytes huge → page_kept_as bytes huge ≡ page
  unfolding page_kept_as
  kept_as page bytes huge is e =
      found_one 4096 (λ p. has_bytes bytes huge (form_of p)) page
      record {
        yes = ap (has_bytes bytes huge) e ∙ has_its bytes huge;
        long = is.0;
        bytes = is.1;
      }
      (λ other p. forms_same other page bytes huge (p.long, p.bytes) is
      (its_has bytes huge (form_of other) p.yes) e)
