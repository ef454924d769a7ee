-- The rule of a table of locks: each lock has a word and a slot.
use Rattle.std.specs.Prelude.{◌≡◌, ◌≢◌, ◌⊎◌, ℕ, ◌+◌, ◌<◌, List, [], ◌∷◌, map, length, slice_index, Option, Some, None, slice_get, replicate, ⊤}
use mathlib.Core.Option.{some, none}
use mathlib.Core.Option as maybe
use lib.ListN.{get_elem?}
use Rattle.atomic_table.specs.Table.{State as Words}
use Rattle.lock_row.specs.declared.names.State.{State}
use Rattle.lock_row.specs.Rules.{RowRule}
use Rattle.lock_table.specs.declared.view.View.{View}
use Rattle.lock_table.specs.declared.view.View.TheVariants.{Blank, Closed, Open}
use Rattle.lock_table.specs.declared.view.Seated.{Seated}
use Rattle.lock_table.specs.Phases.{IsReached, Holds, Begin}

-- the words, the slots and the views of all seats
abbrev pub Table : Type 0 → Type 0
Table V = Words (Option V) (View V)

module _ {V : Type 0} where
  -- the actor has none of these seats
  abbrev pub NotAmong : ℕ → List (Seated V) → Type 0
  NotAmong a [] = ⊤
  NotAmong a (x ∷ xs) = (a ≢ x.actor) × NotAmong a xs

  -- no actor has been seated: all words are free, and all values are at home
  pub record IsClosed (values : List (Option V)) (s : Table V) : Type 0 where
    pub words : s.words ≡ replicate (length values) 0
    pub homes : s.homes ≡ map some values
    pub views : s.views ≡ Closed ∷ []

module _ {V : Type 0} (r : RowRule V) where
  -- The word of the place k is 0 and its value is in the slot, or the value is out, and the word
  -- has the number of the actor that holds it: 1 for actor 0.
  pub data IsPlace (words : List ℕ) (homes : List (maybe.Option (Option V))) (w : State V)
      (k : ℕ) : Type 0 where
    free : (v : V) → slice_index words k ≡ 0 → get_elem? homes k ≡ some (some (Some v))
        → slice_get w.row k ≡ Some (Some v) → IsPlace words homes w k
    out : (a : ℕ) → slice_index words k ≡ a + 1 → get_elem? homes k ≡ some none
        → slice_get w.row k ≡ Some None → Holds r w a k → IsPlace words homes w k

  -- The actor is at this local, this seat alone stands for it, and what it saw begins the orders
  -- of now.
  pub record Stands (w : State V) (owner : ℕ → ℕ) (seat : ℕ) (x : Seated V) : Type 0 where
    pub at : slice_get w.locals x.actor ≡ Some x.local
    pub own : owner x.actor ≡ seat
    pub seen : Begin r x.seen w

  -- all seats stand in this state, and each actor has one
  abbrev pub AllStand : State V → (ℕ → ℕ) → ℕ → List (Seated V) → Type 0
  AllStand w owner seat [] = ⊤
  AllStand w owner seat (x ∷ xs) = Stands w owner seat x × NotAmong x.actor xs
      × AllStand w owner seat xs

  -- what a seat's view says of the table
  abbrev pub Knows : State V → State V → (ℕ → ℕ) → ℕ → View V → Type 0
  Knows start w owner seat Blank = ⊤
  Knows start w owner seat Closed = ⊥
  Knows start w owner seat (Open begun xs) = (begun ≡ start) × AllStand w owner seat xs

  -- The words, the slots and the locals of the views make a state that is reached from the start.
  pub record IsOpen (s : Table V) : Type 0 where
    pub start : State V
    pub now : State V
    pub owner : ℕ → ℕ
    pub reached : IsReached r start now
    pub wide : length s.words ≡ length now.row
    pub deep : length s.homes ≡ length now.row
    pub each_place : (k : ℕ) → k < length now.row → IsPlace s.words s.homes now k
    pub each_seat : (j : ℕ) (d : View V) → get_elem? s.views j ≡ some d → Knows start now owner j d

  -- the table is closed over these values, or open
  abbrev pub IsTable : List (Option V) → Table V → Type 0
  IsTable values s = IsClosed values s ⊎ IsOpen s
