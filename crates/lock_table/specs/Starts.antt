-- How a row is made for a phase.
use Rattle.std.specs.Prelude.{◌≡◌, ℕ, suc, ◌≤◌, List, [], ◌∷◌, map, length, Option, Some, slice_get, replicate, ◌<◌}
use Rattle.atomic_table.specs.Seated.{TableId}
use Rattle.lock_row.specs.declared.names.LockNo.{LockNo}
use Rattle.lock_row.specs.declared.names.Local.{Local}
use Rattle.lock_row.specs.declared.names.State.{State}
use Rattle.lock_row.specs.Rules.{RowRule}
use Rattle.lock_table.specs.declared.view.View.{View}
use Rattle.lock_table.specs.declared.view.View.TheVariants.{Blank, Open}
use Rattle.lock_table.specs.declared.view.Seated.{Seated}
use Rattle.lock_table.specs.Plays.{Mine}
use Rattle.lock_table.specs.Sittings.{Sitting}

module _ {V : Type 0} where
  -- the cells of a row whose values are all at home
  abbrev pub all_home : List (LockNo × V) → List (Option V)
  all_home values = map (λ x. Some x.1) values

  -- the values stand where the rule has their locks
  abbrev pub StandAt : (LockNo → ℕ) → List (LockNo × V) → Type 0
  StandAt spot values = (i : ℕ) (x : LockNo × V) → slice_get values i ≡ Some x → spot x.0 ≡ i

  -- The rule allows this start, its row has these values, and its actors hold nothing.
  pub record MayBegin (r : RowRule V) (start : State V) (values : List (LockNo × V))
      (actors : ℕ) : Type 0 where
    pub may : r.may_start start
    pub row : start.row ≡ all_home values
    pub count : length start.locals ≡ actors
    pub free : (a : ℕ) (l : Local V) → slice_get start.locals a ≡ Some l → l.held ≡ []

  -- These are the names, the words and the slots of values that may begin.
  pub record CanOpen (r : RowRule V) (start : State V) (names : List LockNo) (words : List ℕ)
      (slots : List (Option V)) : Type 0 where
    pub values : List (LockNo × V)
    pub some : 0 < length values
    pub names_are : names ≡ map (λ x. x.0) values
    pub words_are : words ≡ replicate (length values) 0
    pub slots_are : slots ≡ all_home values
    pub placed : StandAt r.spot values
    pub begins : MayBegin r start values (length start.locals)

  -- a hand that has seen nothing
  abbrev pub fresh : TableId → State V → ℕ → Local V → Sitting V
  fresh id start a l = record { id = id; start = start; actor = a; local = l; seen = [] }

  -- one hand for each actor, in their order
  abbrev pub fresh_from : TableId → State V → ℕ → List (Local V) → List (Sitting V)
  fresh_from id start a [] = []
  fresh_from id start a (l ∷ ls) = fresh id start a l ∷ fresh_from id start (suc a) ls

  -- an actor that has seen nothing
  abbrev pub newly : ℕ → Local V → Seated V
  newly a l = record { actor = a; local = l; seen = [] }

  -- the actors from one on, each at its local
  abbrev pub seats_from : ℕ → List (Local V) → List (Seated V)
  seats_from a [] = []
  seats_from a (l ∷ ls) = newly a l ∷ seats_from (suc a) ls

  -- the actor is the first for which the seat stands, and holds nothing
  abbrev pub IsFirst : ℕ → Mine V → Type 0
  IsFirst a me = (start : State V) × (l : Local V) × (xs : List (Seated V))
      × (me ≡ (Open start (newly a l ∷ xs), [])) × (l.held ≡ [])

  -- the view of the first actor alone, and that of the others
  abbrev pub first_of : View V → View V
  first_of (Open start (x ∷ xs)) = Open start (x ∷ [])
  first_of view = Blank

  -- a view without its first seat
  abbrev pub others_of : View V → View V
  others_of (Open start (x ∷ xs)) = Open start xs
  others_of view = view

-- A list of hands, and how many hands and locks its row has.
pub record Hands (V : Type 0) : Type 0 where
  pub list : List (Sitting V)
  pub most : ℕ
  pub locks : ℕ

-- There is room for all hands, and for all values in the list where they come back, which is
-- empty.
pub record HasRoom {V : Type 0} (most spare locks : ℕ) (back : List (LockNo × V))
    (room : ℕ) : Type 0 where
  pub hands : most ≤ spare
  pub empty : back ≡ []
  pub values : locks ≤ room
