-- The first row of a list by an order, one more row at a time, and what a plan does to the next.
use Rattle.std.proofs.Common.{◌≡◌, ℕ, ◌+◌, ◌<◌, ◌≤◌, ◌≢◌, ◌⊎◌, List, [], ◌∷◌, ◌++◌, Option, None, Some, length, take, take_all, get_or, refl, sym, ◌∙◌, ap, subst, inl, inr, arith, Contains, AllPairs}
use Rattle.std.proofs.lemmas.List.Elements.{Contains-append_left, Contains-push, Contains-push_cases}
use Rattle.std.proofs.lemmas.List.{get_or_default, take_more}
use Rattle.std.proofs.lemmas.Bool.{cases_order, cases_eq}
use Rattle.zs_plan.specs.declared.Row.{Row}
use Rattle.zs_plan.specs.Plan.{IsFuller, IsEmptier, IsPartial, IsFirst, IsBest, HasMovable, IsDestination, IsSource, IsPlan, HasNoPlan, IsMove}

-- ---- one more row

-- a row that does not fit changes nothing
pub best_passes : (Before : Row → Row → Type 0) (Fits : Row → Type 0) (rows : List Row) (x : Row)
    (best : Option Row)
    → (Fits x → ⊥) → IsBest Before Fits rows best → IsBest Before Fits (rows ++ x ∷ []) best
best_passes Before Fits rows x None not best = λ r among fits.
    elim (Contains-push_cases rows x r among)
    [ inl before ↦ best r before fits | inr here ↦ not (subst Fits (sym here) fits) ]
best_passes Before Fits rows x (Some b) not best = record {
  among = Contains-append_left rows (x ∷ []) b best.among;
  fits = best.fits;
  before = λ s among fits.
      elim (Contains-push_cases rows x s among) [
        | inl before ↦ best.before s before fits
        | inr here ↦ absurd (not (subst Fits (sym here) fits))
      ];
}

-- the only row that fits is the first
pub best_alone : (Before : Row → Row → Type 0) (Fits : Row → Type 0) (rows : List Row) (x : Row)
    → Fits x → Before x x → ((r : Row) → Contains rows r → Fits r → ⊥)
    → IsFirst Before Fits (rows ++ x ∷ []) x
best_alone Before Fits rows x fits itself none = record {
  among = Contains-push rows x;
  fits = fits;
  before = λ s among fit.
      elim (Contains-push_cases rows x s among) [
        | inl before ↦ absurd (none s before fit)
        | inr here ↦ subst (λ r. Before x r) here itself
      ];
}

-- of the first so far and one more that fits, one is before both
pub best_of_both : (Before : Row → Row → Type 0) (Fits : Row → Type 0) (rows : List Row)
    (x found r : Row)
    → ((a b c : Row) → Before a b → Before b c → Before a c)
    → Fits x → IsFirst Before Fits rows found → (r ≡ found) ⊎ (r ≡ x) → Before r found → Before r x
    → IsFirst Before Fits (rows ++ x ∷ []) r
best_of_both Before Fits rows x found r along fits first one over_found over_x = record {
  among = elim one [
    | inl e ↦ subst (λ q. Contains (rows ++ x ∷ []) q) (sym e)
        (Contains-append_left rows (x ∷ []) found first.among)
    | inr e ↦ subst (λ q. Contains (rows ++ x ∷ []) q) (sym e) (Contains-push rows x)
  ];
  fits = elim one [ inl e ↦ subst Fits (sym e) first.fits | inr e ↦ subst Fits (sym e) fits ];
  before = λ s among fit.
      elim (Contains-push_cases rows x s among) [
        | inl before ↦ along r found s over_found (first.before s before fit)
        | inr here ↦ subst (λ q. Before r q) here over_x
      ];
}

-- ---- the two orders

pub IsFuller-along : (a b c : Row) → IsFuller a b → IsFuller b c → IsFuller a c
IsFuller-along a b c ab bc = grind arith

pub IsEmptier-along : (a b c : Row) → IsEmptier a b → IsEmptier b c → IsEmptier a c
IsEmptier-along a b c ab bc = grind arith

pub IsFuller-itself : (a : Row) → IsFuller a a
IsFuller-itself a = inr (refl, omega arith)

pub IsEmptier-itself : (a : Row) → IsEmptier a a
IsEmptier-itself a = inr (refl, omega arith)

-- ---- the plan

-- rows of one id are one row
pub same_row : (rows : List Row) (a b : Row) → AllPairs (λ x y. x.id ≢ y.id) rows
    → Contains rows a → Contains rows b → a.id ≡ b.id → a ≡ b
same_row rows a b apart (i, low_i, at_i) (j, low_j, at_j) same =
    let b_there : get_or rows j a ≡ b = get_or_default rows j a b low_j ∙ at_j in
    elim (cases_order i j) [
      | inl e ↦ sym at_i ∙ ap (λ k. get_or rows k a) e ∙ b_there
      | inr o ↦ absurd (elim o [
        | inl lt ↦ apart i j a lt low_j (ap (λ r. r.id) at_i ∙ same ∙ sym (ap (λ r. r.id) b_there))
        | inr gt ↦ apart j i a gt low_i (ap (λ r. r.id) b_there ∙ sym same
            ∙ sym (ap (λ r. r.id) at_i))
      ])
    ]

-- the best source is the source where it isn't the destination
pub source_is : (per : ℕ) (rows : List Row) (s d : Row)
    → IsFirst IsEmptier (HasMovable per) rows s → s.id ≢ d.id
    → IsSource per d.id rows s
source_is per rows s d first other = record {
  among = first.among;
  fits = (first.fits.0, first.fits.1, other);
  before = λ r among fits. first.before r among (fits.0, fits.1);
}

pub plan_is : (per : ℕ) (rows : List Row) (s d : Row) → IsFirst IsEmptier (HasMovable per) rows s
    → IsDestination per rows d
    → s.id ≢ d.id → IsPlan per rows s.id d.id
plan_is per rows s d first destination other = record {
  destination = (d, destination, refl);
  source = (s, source_is per rows s d first other, refl);
}

-- where the best source is the destination, no other row has a movable object
pub no_plan : (per : ℕ) (rows : List Row) (s d : Row) → AllPairs (λ x y. x.id ≢ y.id) rows
    → IsFirst IsEmptier (HasMovable per) rows s → IsDestination per rows d → s.id ≡ d.id
    → HasNoPlan per rows
no_plan per rows s d apart first destination same =
    let one : s ≡ d = same_row rows s d apart first.among destination.among same in
    inr (
      d,
      destination,
      λ r among gives.
          let less : IsEmptier s r = first.before r among (gives.0, gives.1) in
          let more : IsFuller d r = destination.before r among gives.0 in
          let less_d : IsEmptier d r = subst (λ q. IsEmptier q r) one less in
          let e : r.id ≡ d.id = grind arith in
          gives.2 e,
    )

-- ---- after the move

-- the zspage that gained the object is full, or the fullest partial one
pub goes_on : (per : ℕ) (rows after : List Row) (s d e : Row) → AllPairs (λ x y. x.id ≢ y.id) rows
    → Contains rows s → IsPartial per s → IsDestination per rows d
    → s.id ≢ d.id → IsMove rows after s.id d.id → Contains after e → e.id ≡ d.id → (e.used ≡ per)
    ⊎ IsDestination per after e
goes_on per rows after s d e apart source partial_source destination other move among is =
    let was : (x : Row) × Contains rows x × (x.id ≡ d.id)
    × (e.used ≡ x.used + 1) = move.gained e among is in
    let one : was.0 ≡ d = same_row rows was.0 d apart was.1 destination.among was.2 in
    let grown : e.used ≡ d.used + 1 = was.3 ∙ ap (λ r. r.used + 1) one in
    elim (cases_eq e.used per) [
      | inl full ↦ inl full
      | inr room ↦ inr (record {
        among = among;
        fits = (omega arith, omega (arith, destination.fits.1));
        before = λ t there partial.
            elim (cases_eq t.id d.id) [
              | inl same ↦
                  let t_was : (x : Row) × Contains rows x × (x.id ≡ d.id)
                  × (t.used ≡ x.used + 1) = move.gained t there same in
                  let t_one : t_was.0 ≡ d =
                  same_row rows t_was.0 d apart t_was.1 destination.among t_was.2 in
                  let t_grown : t.used ≡ d.used + 1 = t_was.3 ∙ ap (λ r. r.used + 1) t_one in
                  inr (omega arith, omega arith)
              | inr off ↦
                  elim (cases_eq t.id s.id) [
                    | inl same ↦
                        let t_was : (x : Row) × Contains rows x × (x.id ≡ s.id)
                        × (t.used + 1 ≡ x.used) = move.lost t there same in
                        let t_one : t_was.0 ≡ s =
                        same_row rows t_was.0 s apart t_was.1 source t_was.2 in
                        let t_less : t.used + 1 ≡ s.used = t_was.3 ∙ ap (λ r. r.used) t_one in
                        let below : IsFuller d s =
                        destination.before s source partial_source in
                        inl (grind arith)
                    | inr away ↦
                        let t_was : (x : Row) × Contains rows x × (x.id ≡ t.id)
                        × (x.used ≡ t.used) = move.others t there off away in
                        let below : IsFuller d t_was.0 = destination.before t_was.0 t_was.1
                        (omega (arith, t_was.3, partial.0), omega (arith, t_was.3, partial.1))
                        in
                        inl (grind arith)
                  ]
            ];
      })
    ]

-- ---- over the prefix of a loop

-- at the end of a loop the prefix is the list
pub best_whole : (Before : Row → Row → Type 0) (Fits : Row → Type 0) (rows : List Row) (i : ℕ)
    (best o : Option Row)
    → length rows ≤ i → best ≡ o → IsBest Before Fits (take i rows) best → IsBest Before Fits rows o
best_whole Before Fits rows i best o all is part =
    let whole : IsBest Before Fits rows best =
    subst (λ xs. IsBest Before Fits xs best) (take_all i rows all) part in
    subst (λ b. IsBest Before Fits rows b) is whole

-- a step of the loop
pub best_next : (Before : Row → Row → Type 0) (Fits : Row → Type 0) (rows : List Row) (i : ℕ)
    (d : Row) (best : Option Row)
    → i < length rows → IsBest Before Fits (take i rows ++ get_or rows i d ∷ []) best
    → IsBest Before Fits (take (i + 1) rows) best
best_next Before Fits rows i d best low part =
    subst (λ xs. IsBest Before Fits xs best) (sym (take_more rows i d low)) part

-- no source, no plan
pub no_source : (per : ℕ) (rows : List Row) (d : Row) → IsDestination per rows d
    → ((r : Row) → Contains rows r → HasMovable per r → ⊥) → HasNoPlan per rows
no_source per rows d destination none =
    inr (d, destination, λ r among gives. none r among (gives.0, gives.1))
