-- Each list of rows has a first one by an order, if any fits, and so a plan or none.
use Rattle.std.proofs.Common.{◌≡◌, ℕ, zero, suc, ◌⊎◌, List, [], ◌∷◌, Option, None, Some, refl, sym, ◌∙◌, subst, inl, inr, arith, Contains}
use Rattle.std.proofs.lemmas.Bool.{cases_lt, cases_eq, cases_Bool}
use Rattle.zs_plan.specs.declared.Row.{Row}
use Rattle.zs_plan.specs.Plan.{IsPartial, IsFuller, IsEmptier, IsFirst, IsBest, HasMovable, IsPlan, HasNoPlan, HaveOwnIds, IsMove, GoesOn}
use Rattle.zs_plan.proofs.Best.{IsFuller-along, IsEmptier-along, IsFuller-itself, IsEmptier-itself, no_source, no_plan, plan_is, goes_on}

contains_cases : (x : Row) (rows : List Row) (r : Row) → Contains (x ∷ rows) r
    → (x ≡ r) ⊎ Contains rows r
contains_cases x rows r (zero, low, at) = inl at
contains_cases x rows r (suc k, low, at) = inr (k, omega arith, at)

contains_here : (x : Row) (rows : List Row) → Contains (x ∷ rows) x
contains_here x rows = (0, omega arith, refl)

contains_later : (x : Row) (rows : List Row) (r : Row) → Contains rows r → Contains (x ∷ rows) r
contains_later x rows r (k, low, at) = (suc k, omega (arith, low), at)

-- ---- the first row

module _ (Before : Row → Row → Type 0) (Fits : Row → Type 0)
    (along : (a b c : Row) → Before a b → Before b c → Before a c)
    (itself : (a : Row) → Before a a)
    (either : (a b : Row) → Before a b ⊎ Before b a)
    (fits_or_not : (r : Row) → Fits r ⊎ (Fits r → ⊥)) where
  -- one row more, that comes first
  first_here : (x : Row) (rows : List Row) → Fits x
      → ((s : Row) → Contains rows s → Fits s → Before x s) → IsFirst Before Fits (x ∷ rows) x
  first_here x rows fits before = record {
    among = contains_here x rows;
    fits = fits;
    before = λ s among fit.
        elim (contains_cases x rows s among) [
          | inl here ↦ subst (λ q. Before x q) here (itself x)
          | inr later ↦ before s later fit
        ];
  }

  -- one row more, that doesn't
  first_later : (x d : Row) (rows : List Row) → (Fits x → Before d x)
      → IsFirst Before Fits rows d → IsFirst Before Fits (x ∷ rows) d
  first_later x d rows over first = record {
    among = contains_later x rows d first.among;
    fits = first.fits;
    before = λ s among fit.
        elim (contains_cases x rows s among) [
          | inl here ↦ subst (λ q. Before d q) here (over (subst Fits (sym here) fit))
          | inr later ↦ first.before s later fit
        ];
  }

  with_row : (x : Row) (rows : List Row) (best : Option Row) → IsBest Before Fits rows best
      → (new : Option Row) × IsBest Before Fits (x ∷ rows) new
  with_row x rows None none =
      elim (fits_or_not x) [
        | inl fits ↦ (Some x, first_here x rows fits (λ s among fit. absurd (none s among fit)))
        | inr not ↦ (
          None,
          λ r among fits. elim (contains_cases x rows r among) [
            | inl here ↦ not (subst Fits (sym here) fits)
            | inr later ↦ none r later fits
          ],
        )
      ]
  with_row x rows (Some d) first =
      elim (fits_or_not x) [
        | inl fits ↦ elim (either x d) [
          | inl over ↦ (
            Some x,
            first_here x rows fits
                (λ s among fit. along x d s over (first.before s among fit)),
          )
          | inr under ↦ (Some d, first_later x d rows (λ f. under) first)
        ]
        | inr not ↦ (Some d, first_later x d rows (λ f. absurd (not f)) first)
      ]

  pub best_there : (rows : List Row) → (best : Option Row) × IsBest Before Fits rows best
  best_there [] = (None, λ r (k, low, at) fits. omega (arith, low))
  best_there (x ∷ rows) =
      let rest = best_there rows in with_row x rows rest.0 rest.1

-- ---- the two orders

fuller_either : (a b : Row) → IsFuller a b ⊎ IsFuller b a
fuller_either a b =
    elim (cases_lt b.used a.used) [
      | inl more ↦ inl (inl more)
      | inr most ↦ elim (cases_lt a.used b.used) [
        | inl less ↦ inr (inl less)
        | inr same ↦ elim (cases_lt b.id a.id) [
          | inl after ↦ inr (inr (omega arith, omega arith))
          | inr before ↦ inl (inr (omega arith, before))
        ]
      ]
    ]

emptier_either : (a b : Row) → IsEmptier a b ⊎ IsEmptier b a
emptier_either a b =
    elim (cases_lt a.used b.used) [
      | inl less ↦ inl (inl less)
      | inr most ↦ elim (cases_lt b.used a.used) [
        | inl more ↦ inr (inl more)
        | inr same ↦ elim (cases_lt a.id b.id) [
          | inl before ↦ inr (inr (omega arith, omega arith))
          | inr after ↦ inl (inr (omega arith, after))
        ]
      ]
    ]

partial_or_not : (per : ℕ) (r : Row) → IsPartial per r ⊎ (IsPartial per r → ⊥)
partial_or_not per r =
    elim (cases_lt r.used per) [
      | inl room ↦ elim (cases_lt 0 r.used) [
        | inl some ↦ inl (omega arith, room)
        | inr none ↦ inr (λ p. omega (arith, p.0))
      ]
      | inr full ↦ inr (λ p. omega (arith, p.1))
    ]

movable_or_not : (per : ℕ) (r : Row) → HasMovable per r ⊎ (HasMovable per r → ⊥)
movable_or_not per r =
    elim (partial_or_not per r) [
      | inl p ↦ elim (cases_Bool r.movable) [
        | inl some ↦ inl (p, some)
        | inr none ↦ inr (λ m. let some = m.1 in cc (none, some))
      ]
      | inr not ↦ inr (λ m. not m.0)
    ]

-- ---- plans

plan_by : (per : ℕ) (rows : List Row) (source destination : Option Row) → HaveOwnIds rows
    → IsBest IsEmptier (HasMovable per) rows source
    → IsBest IsFuller (IsPartial per) rows destination
    → HasNoPlan per rows ⊎ ((from : ℕ) × (to : ℕ) × IsPlan per rows from to)
plan_by per rows source None own s none = inl (inl none)
plan_by per rows None (Some d) own none first = inl (no_source per rows d first none)
plan_by per rows (Some s) (Some d) own least first =
    elim (cases_eq s.id d.id) [
      | inl same ↦ inl (no_plan per rows s d own least first same)
      | inr other ↦ inr (s.id, d.id, plan_is per rows s d least first other)
    ]

pub plan_there : (per : ℕ) (rows : List Row) → HaveOwnIds rows
    → HasNoPlan per rows ⊎ ((from : ℕ) × (to : ℕ) × IsPlan per rows from to)
plan_there per rows own =
    let s = best_there IsEmptier (HasMovable per) IsEmptier-along IsEmptier-itself emptier_either
    (movable_or_not per) rows in
    let d = best_there IsFuller (IsPartial per) IsFuller-along IsFuller-itself fuller_either
    (partial_or_not per) rows in
    plan_by per rows s.0 d.0 own s.1 d.1

pub plan_goes_on : (per : ℕ) (rows : List Row) (from to : ℕ) → HaveOwnIds rows
    → IsPlan per rows from to → GoesOn per rows from to
plan_goes_on per rows from to own plan after e move among is =
    let s = plan.source in
    let d = plan.destination in
    goes_on per rows after s.0 d.0 e own s.1.among s.1.fits.0 d.1
    (λ same. s.1.fits.2 (same ∙ d.2))
    (subst (λ (n : ℕ). IsMove rows after n d.0.id) (sym s.2)
    (subst (λ (n : ℕ). IsMove rows after from n) (sym d.2) move))
    among (is ∙ sym d.2)
