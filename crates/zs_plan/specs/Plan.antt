-- The plan of compaction: which zspage an object moves from, and which it moves to.
use Rattle.std.specs.Prelude.{ℕ, ◌≡◌, ◌≢◌, ◌+◌, ◌<◌, ◌≤◌, ◌⊎◌, List, Option, IsTrue, Contains, AllPairs, MatchOption}
use Rattle.zs_plan.specs.declared.Row.{Row}

-- some of the zspage's cells are used, and some are not
abbrev pub IsPartial : ℕ → Row → Type 0
IsPartial per r = (1 ≤ r.used) × (r.used < per)

-- r has more used cells than s, or as many and no greater id
abbrev pub IsFuller : Row → Row → Type 0
IsFuller r s = (s.used < r.used) ⊎ ((s.used ≡ r.used) × (r.id ≤ s.id))

-- r has fewer used cells than s, or as many and no smaller id
abbrev pub IsEmptier : Row → Row → Type 0
IsEmptier r s = (r.used < s.used) ⊎ ((r.used ≡ s.used) × (s.id ≤ r.id))

-- r is the first by an order of those rows that a condition holds of
pub record IsFirst (Before : Row → Row → Type 0) (Fits : Row → Type 0) (rows : List Row) (r : Row)
    : Type 0 where
  pub among : Contains rows r
  pub fits : Fits r
  pub before : (s : Row) → Contains rows s → Fits s → Before r s

-- the destination: the fullest partial zspage
abbrev pub IsDestination : ℕ → List Row → Row → Type 0
IsDestination per rows r = IsFirst IsFuller (IsPartial per) rows r

-- some object of the zspage can be moved to another zspage than the one named
abbrev pub CanGive : ℕ → ℕ → Row → Type 0
CanGive per to r = IsPartial per r × IsTrue r.movable × (r.id ≢ to)

-- the source: the emptiest partial zspage with a movable object, beside the destination
abbrev pub IsSource : ℕ → ℕ → List Row → Row → Type 0
IsSource per to rows r = IsFirst IsEmptier (CanGive per to) rows r

-- source and destination, by their ids
pub record IsPlan (per : ℕ) (rows : List Row) (from to : ℕ) : Type 0 where
  pub destination : (d : Row) × IsDestination per rows d × (d.id ≡ to)
  pub source : (s : Row) × IsSource per to rows s × (s.id ≡ from)

-- no zspage is partial, or none beside the destination can give an object
abbrev pub HasNoPlan : ℕ → List Row → Type 0
HasNoPlan per rows =
    ((r : Row) → Contains rows r → IsPartial per r → ⊥)
    ⊎ ((d : Row) × IsDestination per rows d
    × ((r : Row) → Contains rows r → CanGive per d.id r → ⊥))

-- one object went from a zspage to another, and no other zspage changed its count of used cells
pub record IsMove (before after : List Row) (from to : ℕ) : Type 0 where
  pub gained : (e : Row) → Contains after e → e.id ≡ to → (d : Row) × Contains before d
      × (d.id ≡ to) × (e.used ≡ d.used + 1)
  pub lost : (e : Row) → Contains after e → e.id ≡ from → (s : Row) × Contains before s
      × (s.id ≡ from) × (e.used + 1 ≡ s.used)
  pub others : (e : Row) → Contains after e → e.id ≢ to → e.id ≢ from → (r : Row)
      × Contains before r × (r.id ≡ e.id) × (r.used ≡ e.used)

-- after a move between two zspages, the one that gained the object is full, or it is the
-- destination of the next move
abbrev pub GoesOn : ℕ → List Row → ℕ → ℕ → Type 0
GoesOn per rows from to =
    (after : List Row) (e : Row) → IsMove rows after from to → Contains after e → e.id ≡ to
    → (e.used ≡ per) ⊎ IsDestination per after e

-- no two rows have one id
abbrev pub HaveOwnIds : List Row → Type 0
HaveOwnIds rows = AllPairs (λ a b. a.id ≢ b.id) rows

-- a partial zspage some of whose objects can be moved
abbrev pub HasMovable : ℕ → Row → Type 0
HasMovable per r = IsPartial per r × IsTrue r.movable

-- the first row of a list that a condition holds of, or None where it holds of none
abbrev pub IsBest : (Row → Row → Type 0) → (Row → Type 0) → List Row → Option Row → Type 0
IsBest Before Fits rows best = MatchOption best ((r : Row) → Contains rows r → Fits r → ⊥)
    (λ r. IsFirst Before Fits rows r)

-- the best source of some rows, not minding the destination, and the best destination, each where
-- there is one
pub record AreBest (per : ℕ) (rows : List Row) (source destination : Option Row) : Type 0 where
  pub own : HaveOwnIds rows
  pub emptiest : IsBest IsEmptier (HasMovable per) rows source
  pub fullest : IsBest IsFuller (IsPartial per) rows destination

-- ---- what holds of every plan

-- of zspages with ids of their own there is a plan, or there is none
abbrev pub HasPlanOrNone : Type 0
HasPlanOrNone =
    (per : ℕ) (rows : List Row) → HaveOwnIds rows
    → HasNoPlan per rows ⊎ ((from : ℕ) × (to : ℕ) × IsPlan per rows from to)

-- after the move of any plan its destination is full, or it is the destination of the next move
abbrev pub PlansGoOn : Type 0
PlansGoOn =
    (per : ℕ) (rows : List Row) (from to : ℕ) → HaveOwnIds rows → IsPlan per rows from to
    → GoesOn per rows from to
