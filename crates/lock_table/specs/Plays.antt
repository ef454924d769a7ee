-- What a step on a lock's word tells the hand that makes it.
use Rattle.std.specs.Prelude.{◌≡◌, ◌≢◌, ℕ, List, [], ◌∷◌, Option, Some, ⊤}
use Rattle.atomic_table.specs.Table.{Me, Step}
use Rattle.zr_base.specs.declared.op.Tag.{Tag}
use Rattle.lock_row.specs.declared.names.Local.{Local}
use Rattle.lock_row.specs.declared.names.State.{State}
use Rattle.lock_row.specs.Rules.{RowRule}
use Rattle.lock_table.specs.declared.view.View.{View}
use Rattle.lock_table.specs.declared.view.View.TheVariants.{Open}
use Rattle.lock_table.specs.declared.view.Seated.{Seated}
use Rattle.lock_table.specs.Phases.{Finds, FindsHeld}

-- a seat's view, and the slots that it holds
abbrev pub Mine : Type 0 → Type 0
Mine V = Me (Option V) (View V)

module _ {V : Type 0} where
  -- the seat stands for one actor
  abbrev pub alone : State V → ℕ → Local V → List (ℕ × List Tag) → View V
  alone start a l seen = Open start (record { actor = a; local = l; seen = seen } ∷ [])

module _ {V : Type 0} (r : RowRule V) (next : Local V → V → Local V) where
  -- the lock was free: its value comes to the actor, whose local is the one that was named
  abbrev pub Took : State V → Seated V → ℕ → List (ℕ × Option V) → Mine V → Type 0
  Took start x k carried after = (v : V)
      × (after ≡ (
        alone start x.actor (next x.local v) ((k, r.order v) ∷ x.seen),
        (k, Some v) ∷ carried,
      )) × Finds r start x.actor x.local x.seen k (Some v)

  -- it was held, and nothing changes
  abbrev pub Missed : State V → Seated V → ℕ → List (ℕ × Option V) → Mine V → Type 0
  Missed start x k carried after = (after ≡ (alone start x.actor x.local x.seen, carried))
      × FindsHeld r start x.actor x.local x.seen k

  -- what follows of an exchange of a lock's word by what was found there
  abbrev pub tried_at : ℕ → List (ℕ × Option V) → View V → ℕ → Mine V → Type 0
  tried_at k carried (Open start (x ∷ [])) found after = (found ≡ 0 → Took start x k carried after)
      × (found ≢ 0 → Missed start x k carried after)
  tried_at k carried view found after = ⊤

  -- what a try to take tells, by the number found in the word
  abbrev pub tried : Step (Option V) → Mine V → ℕ → Mine V → Type 0
  tried step me found after = tried_at step.word me.1 me.0 found after

  -- what a giving leaves of a view
  abbrev pub gave_at : View V → List (ℕ × Option V) → Mine V → Type 0
  gave_at (Open start (x ∷ [])) ((k, Some v) ∷ carried) after =
      after ≡ (alone start x.actor (next x.local v) ((k, r.order v) ∷ x.seen), carried)
  gave_at view carried after = ⊤

  -- what the giving of the slot that the seat took last tells
  abbrev pub gave : Step (Option V) → Mine V → ℕ → Mine V → Type 0
  gave step me found after = gave_at me.0 me.1 after
