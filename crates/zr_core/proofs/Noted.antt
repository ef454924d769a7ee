-- Lists of pages.
use Rattle.std.proofs.Common.{◌≡◌, ◌≢◌, ◌⊎◌, ℕ, ◌<◌, Bool, true, false, eqb, ◌||◌, List, [], ◌∷◌, ◌++◌, Option, Some, None, refl, sym, ap, ◌∙◌, subst, arith, inl, inr}
use Rattle.std.specs.Prelude.{IfSome, IsSome, unwrap_or}
use Rattle.std.specs.BTreeMap.{BTreeMap, IsOrdered, get, is_at, keys}
use Rattle.std.specs.Cmp.{eq_by_cmp_equiv}
use Rattle.std.specs.List.{AllByRecursion}
use Rattle.std.specs.List.Sorted.{IsStrictlySortedBy}
use Rattle.std.specs.Map.{keys_of, lookup}
use Rattle.std.specs.Ordering.{nat_cmp}
use Rattle.std.specs.declared.cmp.Ordering.TheVariants.{Less}
use Rattle.std.proofs.lemmas.Bool.{cases_Bool, eqb-true, eq-eqb}
use Rattle.std.proofs.lemmas.Cmp.{nat_cmp_total, ranked}
use Rattle.std.proofs.lemmas.List.Elements.{recursion_from_All}
use Rattle.std.proofs.lemmas.Map.Entries.{lookup_tail}
use Rattle.std.proofs.lemmas.Map.Keys.{sorted_head, sorted_tail}
use Rattle.std.proofs.lemmas.Map.Views.{All-keys_from_lookup}
use Rattle.actor_steps.specs.Counts.{HasOnlyCounts}
use Rattle.zr_core.specs.Noted.{is_in, IsRising, AreCounted}

-- a page is in a longer list where it was or is the new one
is_in-push : (xs : List ℕ) (n p : ℕ) → is_in (xs ++ n ∷ []) p ≡ (is_in xs p || eqb n p)
is_in-push [] n p = elim (cases_Bool (eqb n p)) [ inl on ↦ rw on refl | inr off ↦ rw off refl ]
is_in-push (x ∷ xs) n p = elim (cases_Bool (eqb x p)) [
  | inl on ↦ rw on refl
  | inr off ↦ rw off (is_in-push xs n p)
]

or_true : (x y : Bool) → (x || y) ≡ true → (x ≡ true) ⊎ (y ≡ true)
or_true true y e = inl refl
or_true false y e = inr e

pub or_false : (x y : Bool) → (x || y) ≡ false → (x ≡ false) × (y ≡ false)
or_false true y e = absurd (cc)
or_false false y e = (refl, e)

pub was_in : (xs : List ℕ) (n p : ℕ) → is_in (xs ++ n ∷ []) p ≡ true → (is_in xs p ≡ true) ⊎ (p ≡ n)
was_in xs n p e = elim (or_true (is_in xs p) (eqb n p) (sym (is_in-push xs n p) ∙ e)) [
  | inl old ↦ inl old
  | inr new ↦ inr (sym (eqb-true n p new))
]

pub wasn_t_in : (xs : List ℕ) (n p : ℕ) → is_in (xs ++ n ∷ []) p ≡ false
    → (is_in xs p ≡ false) × (p ≢ n)
wasn_t_in xs n p e =
    let o = or_false (is_in xs p) (eqb n p) (sym (is_in-push xs n p) ∙ e) in
    (o.0, λ same. let none : ⊥ = (let q = sym (eq-eqb n p (sym same)) ∙ o.1 in cc) in none)

-- ---- the pages with a count

rising : (ps : List ℕ) → IsStrictlySortedBy nat_cmp ps → IsRising ps
rising [] s = tt
rising (p ∷ ps) s = (above ps (sorted_head nat_cmp p ps s), rising ps (sorted_tail nat_cmp p ps s))
  where
    above : (qs : List ℕ) → AllByRecursion (λ q. nat_cmp p q ≡ Less) qs
        → AllByRecursion (λ q. p < q) qs
    above [] all = tt
    above (q ∷ qs) all = (ranked p q Less (sym all.0), above qs all.1)

-- a page that isn't among the keys has no count
none_for : (es : List (ℕ × ℕ)) (p : ℕ) → is_in (keys_of es) p ≡ false
    → unwrap_or (lookup (is_at (nat_cmp p)) es) 0 ≡ 0
none_for [] p off = refl
none_for (e ∷ es) p off =
    let o = or_false (eqb e.0 p) (is_in (keys_of es) p) off in
    ap (λ (v : Option ℕ). unwrap_or v 0) (lookup_tail (is_at (nat_cmp p)) e es (apart o.0))
    ∙ none_for es p o.1
  where
    apart : eqb e.0 p ≡ false → is_at (nat_cmp p) e.0 ≡ false
    apart ne = grind arith

-- the keys are the pages with a count
pub are_counted : (size : ℕ) (counts : BTreeMap ℕ ℕ) (noted : List ℕ) → noted ≡ keys counts
    → IsOrdered nat_cmp counts → HasOnlyCounts size counts → AreCounted size counts noted
are_counted size counts noted is ordered only = subst (AreCounted size counts) (sym is) record {
  listed = record {
    rising = rising (keys counts) ordered;
    within = recursion_from_All (λ p. p < size) (keys counts)
        (All-keys_from_lookup (eq_by_cmp_equiv nat_cmp_total) (λ p. p < size) counts.entries
        (λ p some. low p (get nat_cmp counts p) (only p) some));
  };
  others = λ p lt off. none_for counts.entries p off;
} where
  low : (p : ℕ) (count : Option ℕ) → IfSome count (λ n. (p < size) × (0 < n)) → IsSome count → p < size
  low p (Some n) both some = both.0
  low p None both some = absurd (cc)
