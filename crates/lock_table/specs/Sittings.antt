-- What a row and a hand of it are to contracts.
use Rattle.std.specs.Prelude.{ℕ, List, [], ◌∷◌, map, Option, None}
use Rattle.atomic_table.specs.Seated.{TableId}
use Rattle.zr_base.specs.declared.op.Tag.{Tag}
use Rattle.lock_row.specs.declared.names.LockNo.{LockNo}
use Rattle.lock_row.specs.declared.names.At.TheVariants.{Start}
use Rattle.lock_row.specs.declared.names.Local.{Local}
use Rattle.lock_row.specs.declared.names.State.{State}
use Rattle.lock_table.specs.declared.view.View.{View}
use Rattle.lock_table.specs.declared.view.View.TheVariants.{Open}
use Rattle.lock_table.specs.declared.view.Seated.{Seated}

-- A row: which table it has, and the names of its locks in the order of their places.
pub record Ground : Type 0 where
  pub id : TableId
  pub names : List LockNo

-- A hand: its table, the phase's start, its actor with the actor's local, and the orders that it
-- has seen, each with its place, the last first.
pub record Sitting (V : Type 0) : Type 0 where
  pub id : TableId
  pub start : State V
  pub actor : ℕ
  pub local : Local V
  pub seen : List (ℕ × List Tag)

module _ {V : Type 0} where
  -- the actor of a hand, as a view has it
  abbrev pub seated : Sitting V → Seated V
  seated h = record { actor = h.actor; local = h.local; seen = h.seen }

  -- an actor without a number and without work
  abbrev pub nobody : Seated V
  nobody = record {
    actor = 0;
    local =
        record {
          actor = 0;
          at = Start;
          todo = [];
          held = [];
          done = [];
          fresh = None;
          pin = None;
          owed = 0;
          ahead = None;
          behind = None;
          page = None;
          fail = None;
        };
    seen = [];
  }

  -- the first actor of a view
  abbrev pub first_in : List (Seated V) → Seated V
  first_in [] = nobody
  first_in (x ∷ xs) = x

  -- the actor of a view of one seat
  abbrev pub actor_of : View V → Seated V
  actor_of (Open start xs) = first_in xs
  actor_of view = nobody

  -- the start that a view has
  abbrev pub start_of : View V → State V
  start_of (Open start xs) = start
  start_of view = record { row = []; locals = [] }

  -- the slots of what is held, each without its value, which is in the actor's hand
  abbrev pub emptied : (LockNo → ℕ) → List (LockNo × V) → List (ℕ × Option V)
  emptied spot xs = map (λ x. (spot x.0, None)) xs
