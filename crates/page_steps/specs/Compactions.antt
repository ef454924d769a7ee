-- The events of a compaction: for each class that stands for itself, in rising order, one object moves
-- at a time; the frames that a move frees are given back before the next one.
use Rattle.std.specs.Prelude.{◌≡◌, ◌⊎◌, ℕ, zero, suc, ◌+◌, ◌-◌, ◌==◌, Bool, true, false, length, List, [], ◌∷◌, Some, None, unwrap_or}
use Rattle.zr_base.specs.declared.op.OpEnd.TheVariants as ends
use Rattle.size_class.specs.Classes.{stands_of}
use Rattle.zs_plan.specs.Plan.{IsPlan, HasNoPlan}
use Rattle.class_pool.specs.Pool.{PoolState, IsPool, objects}
use Rattle.class_pool.specs.Rows.{rows}
use Rattle.class_pool.specs.Moves.{Move, Moves}
use Rattle.mem_account.specs.Counters.{Counters, counted}
use Rattle.mem_account.specs.declared.weight.Delta.TheVariants as delta
use Rattle.call_history.specs.declared.part.Part.{Part}
use Rattle.call_history.specs.declared.part.PartEnd.TheVariants as over
use Rattle.lock_row.specs.declared.names.LockNo.TheVariants as lock
use Rattle.lock_row.specs.declared.names.Held.TheVariants as holds
use Rattle.lock_row.specs.declared.names.At.{At}
use Rattle.lock_row.specs.declared.names.At.TheVariants as at
use Rattle.lock_row.specs.declared.names.Compaction.{Compaction}
use Rattle.page_steps.specs.Steps.{Terms, DiskHeld, Here, on, first_class}
use Rattle.page_steps.specs.Nexts.{Next, ending_by, tail_of}

-- so many frames are given back
abbrev pub repaid : Counters → ℕ → Counters
repaid c frames = record c { pages = c.pages - frames }

-- ---- where a compaction stands

-- the compaction that a stage is of
abbrev pub compaction_at : At → Compaction
compaction_at (at.Sweeping x) = x
compaction_at (at.Moving x) = x
compaction_at (at.Shrunk x) = x
compaction_at (at.Shrinking x) = x
compaction_at s = first_class

-- how many objects of its class it may still move: at first as many as the pool has
abbrev pub budget_in : Compaction → PoolState → ℕ
budget_in x q = unwrap_or x.budget (length (objects q))

-- it has moved one object more, and may move so many
abbrev pub with_move : Compaction → ℕ → Compaction
with_move x budget = record x { budget = Some budget; moves = x.moves + 1 }

-- it has given so many frames back
abbrev pub with_frames : Compaction → ℕ → Compaction
with_frames x frames = record x { frames = x.frames + frames }

-- it goes on to the next class that stands for itself
abbrev pub with_next : ℕ → Compaction → Compaction
with_next chain x = record x { class = stands_of chain (x.class + 1); budget = None }

-- the stage after a move that freed so many frames
abbrev pub moved_at : ℕ → Compaction → At
moved_at zero x = at.Sweeping x
moved_at (suc n) x = at.Shrunk x

-- ---- the locals that follow

-- an object was moved: so many may still move, and so many frames are free
abbrev pub moving : ℕ → ℕ → Next
moving budget frames l v =
    on l (moved_at frames (with_move (compaction_at l.at) budget)) (tail_of l.held) l.fresh l.pin
    frames l.ahead l.behind l.page l.fail

-- nothing is left to move in the last class, or in another one
abbrev pub resting_by : ℕ → Compaction → Bool → Next
resting_by chain x true l v =
    ending_by l (over.Whole (ends.Compacted x.moves x.frames)) (λ p. []) l.todo
resting_by chain x false l v =
    on l (at.Sweeping (with_next chain x)) (tail_of l.held) l.fresh l.pin l.owed l.ahead l.behind
    l.page l.fail

-- nothing is left to move in its class
abbrev pub resting : ℕ → Next
resting chain l v =
    resting_by chain (compaction_at l.at) ((compaction_at l.at).class == 254) l v

-- the frames are given back
abbrev pub shrinking : Next
shrinking l v =
    on l (at.Sweeping (with_frames (compaction_at l.at) l.owed)) (tail_of l.held) l.fresh l.pin 0
    l.ahead l.behind l.page l.fail

-- ---- the givings

-- One object moved by the plan, and so many frames are free.
pub record MovesOne (p q : PoolState) (frames : ℕ) : Type 0 where
  pub move : Move
  pub plan : IsPlan p.per (rows p.zspages) move.from move.to
  pub moves : Moves p q move frames
  pub pool : IsPool q

-- The giving of the value v by a compaction, after which the local is m.
pub data Compacts (t : Terms) (l : Here) (v : DiskHeld) (m : Here) : Type 0 where
  -- an object moves
  moves : (p : Part) (rest : List Part) (x : Compaction) (q q' : PoolState) (budget frames : ℕ)
      → l.todo ≡ p ∷ rest → l.at ≡ at.Moving x
      → l.held ≡ (lock.Class x.class, holds.Class q) ∷ []
      → budget_in x q ≡ suc budget → MovesOne q q' frames
      → v ≡ holds.Class q' → m ≡ moving budget frames l v → Compacts t l v m
  -- nothing moves: as many have moved as may, or the plan has none
  rests : (p : Part) (rest : List Part) (x : Compaction) (q : PoolState)
      → l.todo ≡ p ∷ rest → l.at ≡ at.Moving x
      → l.held ≡ (lock.Class x.class, holds.Class q) ∷ []
      → (budget_in x q ≡ 0) ⊎ HasNoPlan q.per (rows q.zspages)
      → v ≡ holds.Class q → m ≡ resting t.chain l v → Compacts t l v m
  -- the frames that a move freed are given back and counted
  shrinks : (p : Part) (rest : List Part) (x : Compaction) (c : Counters)
      → l.todo ≡ p ∷ rest → l.at ≡ at.Shrinking x
      → l.held ≡ (lock.Account, holds.Account c) ∷ []
      → v ≡ holds.Account (counted (repaid c l.owed) (delta.Compacted l.owed))
      → m ≡ shrinking l v → Compacts t l v m
