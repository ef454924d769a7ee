-- How a row is shut.
use Rattle.std.specs.Prelude.{◌≡◌, ℕ, ◌+◌, ◌<◌, List, [], ◌∷◌, length, Some, slice_get}
use Rattle.std.specs.List.{sum_by}
use Rattle.zr_base.specs.declared.op.Tag.{Tag}
use Rattle.lock_row.specs.declared.names.LockNo.{LockNo}
use Rattle.lock_row.specs.declared.names.State.{State}
use Rattle.lock_row.specs.Rules.{RowRule}
use Rattle.lock_table.specs.declared.view.View.{View}
use Rattle.lock_table.specs.declared.view.View.TheVariants.{Open}
use Rattle.lock_table.specs.Phases.{IsReached, Begin, told, noted}
use Rattle.lock_table.specs.Sittings.{Ground, Sitting}
use Rattle.lock_table.specs.Starts.{all_home}

module _ {V : Type 0} where
  -- the view of a seat that takes in another's actor
  abbrev pub joined : View V → View V → View V
  joined (Open start xs) (Open begun (x ∷ [])) = Open start (x ∷ xs)
  joined view other = view

  -- All hands of the row are here, from one start, and none holds a lock.
  pub record AllHands (g : Ground) (start : State V) (hands : List (Sitting V)) : Type 0 where
    pub some : 0 < length hands
    pub own : (i : ℕ) (h : Sitting V) → slice_get hands i ≡ Some h → h.id ≡ g.id
    pub one_start : (i : ℕ) (h : Sitting V) → slice_get hands i ≡ Some h → h.start ≡ start
    pub free : (i : ℕ) (h : Sitting V) → slice_get hands i ≡ Some h → h.local.held ≡ []
    pub all : (a : ℕ) → a < length start.locals → (i : ℕ) × (h : Sitting V)
        × (slice_get hands i ≡ Some h) × (h.actor ≡ a)

  -- A reached state: each hand's actor is at the hand's local, all values are at home, and each
  -- order that a hand saw begins that of now.
  pub record Left (r : RowRule V) (start : State V) (hands : List (Sitting V))
      (values : List (LockNo × V)) : Type 0 where
    pub now : State V
    pub reached : IsReached r start now
    pub locals : (i : ℕ) (h : Sitting V) → slice_get hands i ≡ Some h
        → slice_get now.locals h.actor ≡ Some h.local
    pub seen : (i : ℕ) (h : Sitting V) → slice_get hands i ≡ Some h → Begin r h.seen now
    pub row : now.row ≡ all_home values
    -- for each weight of tags: the values' orders have those of the start, and what the actors
    -- have noted since
    pub tags : (c : Tag → ℕ)
        → sum_by (λ x. sum_by c (r.order x.1)) values + noted r c start ≡ told r c start + noted r
        c now
