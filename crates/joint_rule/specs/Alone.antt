-- What the rule says of a phase's only actor: what its compactions have done and which pages are
-- marked, and where the operation in work stands.
use Rattle.std.specs.Prelude.{◌≡◌, ℕ, ◌+◌, ◌<◌, ◌≤◌, Bool, true, false, nat_lt, if◌then◌else◌, List, [], ◌∷◌, Option, Some, None, slice_get, ⊤}
use Rattle.zr_base.specs.declared.op.Op.{Op}
use Rattle.zr_base.specs.declared.op.Op.TheVariants.{Read}
use Rattle.zr_base.specs.declared.op.OpEnd.TheVariants as ends
use Rattle.class_pool.specs.Pool.{PoolState}
use Rattle.class_pool.specs.Compaction.{MayMove}
use Rattle.plain_disk.specs.Compactions.{loose}
use Rattle.call_history.specs.declared.part.Part.{Part}
use Rattle.call_history.specs.declared.part.Done.{Done}
use Rattle.plain_disk.specs.Idles.{Aged, may_write, passed, IsMarked}
use Rattle.call_history.specs.Alone.{tight_over, MoveNoneOver, moves_over, pages_over, AreMarkedOver}
use Rattle.lock_row.specs.declared.names.LockNo.TheVariants as lock
use Rattle.lock_row.specs.declared.names.Held.TheVariants as holds
use Rattle.lock_row.specs.declared.names.At.{At}
use Rattle.lock_row.specs.declared.names.At.TheVariants.{Start, Scanning, Marking, Sweeping, Moving, Shrunk, Shrinking}
use Rattle.lock_row.specs.declared.names.Compaction.{Compaction}
use Rattle.lock_row.specs.declared.names.State.{State}
use Rattle.lock_row.specs.Totals.{total}
use Rattle.page_steps.specs.Steps.{DiskHeld, Here, spot}
use Rattle.slot_entry.specs.Forms.{page_weight}
use Rattle.slot_entry.specs.Entries.{EntryState}
use Rattle.page_steps.specs.Scans.{scan_at}
use Rattle.joint_rule.specs.Begins.{Begin, found, found_after, back_at}
use Rattle.joint_rule.specs.Weights.{HeldAll, none, Weigh, each_one, stored, used_each, loose_pools}

-- ---- stages

-- whether an operation is a read
abbrev pub is_read : Op → Bool
is_read (Read start count) = true
is_read _ = false

-- whether a stage is one of no write and no discard, by the operation
abbrev pub is_calm_at : At → Op → Bool
is_calm_at Start op = true
is_calm_at (Scanning x) op = true
is_calm_at (Marking x) op = true
is_calm_at (Sweeping x) op = true
is_calm_at (Moving x) op = true
is_calm_at (Shrunk x) op = true
is_calm_at (Shrinking x) op = true
is_calm_at at op = is_read op

-- whether no write and no discard is in work
abbrev pub is_calm : List Part → At → Bool
is_calm [] at = true
is_calm (p ∷ ps) at = is_calm_at at p.op

-- the compaction of a stage
abbrev pub compacting_at : At → Option Compaction
compacting_at (Sweeping x) = Some x
compacting_at (Moving x) = Some x
compacting_at (Shrunk x) = Some x
compacting_at (Shrinking x) = Some x
compacting_at at = None

-- the compaction in work
abbrev pub compacting : List Part → At → Option Compaction
compacting [] at = None
compacting (p ∷ ps) at = compacting_at at

-- ---- between two changes

-- Where the classes are known to be tight, they are; and there are as many objects as the compaction
-- moved that moved most.
pub record IsCalm (g : Begin) (w : State DiskHeld) (done : List Done) : Type 0 where
  pub tight : tight_over g.tight done ≡ true → total (spot g.given.size) loose_pools none w ≡ 0
  pub few : moves_over 0 done ≤ total (spot g.given.size) (stored each_one) none w

-- ---- a compaction

-- 1 for the objects of the classes below one
abbrev pub below : ℕ → Weigh
below c d h b = if nat_lt d c then 1 else 0

-- the classes of which a compaction has moved objects, or may move them, are those below this one
abbrev pub reached : Option ℕ → ℕ → ℕ
reached None c = c
reached (Some b) c = c + 1

-- how many objects it may still move of its class, where it has begun with it
abbrev pub spare : Option ℕ → ℕ
spare None = 0
spare (Some b) = b

-- of its class no more objects can move than may
abbrev pub Within : Option ℕ → PoolState → Type 0
Within None q = ⊤
Within (Some b) q = (n : ℕ) → MayMove q n → n ≤ b

-- The classes below that of a compaction are tight, and it has moved nothing where all were tight
-- before; it moves no more objects than there are; and its budget is enough for its class, at home
-- or in hand.
pub record Sweeps (g : Begin) (w : State DiskHeld) (l : Here) (x : Compaction) : Type 0 where
  pub tight : (k : ℕ) (p : PoolState) → slice_get w.row k ≡ Some (Some (holds.Class p))
      → p.class < x.class → loose p.per (used_each p.zspages) ≡ 0
  pub still : tight_over g.tight l.done ≡ true → x.moves ≡ 0
  pub moves : x.moves + spare x.budget
      ≤ total (spot g.given.size) (stored (below (reached x.budget x.class))) none w
  pub home : (q : PoolState) → slice_get w.row (g.given.size + x.class)
      ≡ Some (Some (holds.Class q)) → Within x.budget q
  pub hand : (q : PoolState) → l.held ≡ (lock.Class x.class, holds.Class q) ∷ []
      → Within x.budget q

-- ---- marks

-- page p as the phase finds it
abbrev pub aged_at : Begin → ℕ → Aged
aged_at g p =
    record { found = found g p; back = g.back p; touched = g.touched p; idle = g.idle p }

-- it by its entry
abbrev pub aged_in : Begin → ℕ → EntryState → Aged
aged_in g p e = record {
  found = found_after g p e.order;
  back = back_at g p e.order;
  touched = e.touched;
  idle = e.idle;
}

-- it after the pieces that are over
abbrev pub aged_done : Begin → List Done → ℕ → Aged
aged_done g done = pages_over page_weight g.clock g.given.finds (aged_at g) done

-- the scan in work has passed the pages below the one that it is at
abbrev pub scanned_by : Begin → List Part → At → ℕ → Aged → Aged
scanned_by g [] at p s = s
scanned_by g (q ∷ qs) at p s =
    if nat_lt p (scan_at at).page then passed page_weight g.clock p q.op s else s

-- page p as the pieces that are over and the scan in work leave it
abbrev pub aged_now : Begin → Here → ℕ → Aged
aged_now g l p = scanned_by g l.todo l.at p (aged_done g l.done p)

-- the scan in work has counted the marks that are new, among the pages below the one that it is at
abbrev pub CountsSo : Begin → List Part → At → List Done → Type 0
CountsSo g [] at done = ⊤
CountsSo g (q ∷ qs) at done = IsMarked page_weight g.clock (scan_at at).page (aged_done g done) q.op
    (ends.Marked (scan_at at).marked)

-- an entry is as the actor has left its page
abbrev pub IsAged : Begin → Here → ℕ → DiskHeld → Type 0
IsAged g l p (holds.Slot e) = aged_in g p e ≡ aged_now g l p
IsAged g l p v = ⊤

-- Each mark that was new was counted, and each page is as the actor has left it, at home or in hand.
pub record Ages (g : Begin) (w : State DiskHeld) (l : Here) : Type 0 where
  pub marks : AreMarkedOver page_weight g.clock g.given.finds g.given.size (aged_at g)
      l.done
  pub counts : CountsSo g l.todo l.at l.done
  pub home : (p : ℕ) (v : DiskHeld) → slice_get w.row p ≡ Some (Some v) → IsAged g l p v
  pub hand : HeldAll g.given.size (IsAged g l) l.held

-- ---- the only actor

-- What its pieces that are over say, and what stands while it is at this one; of marks where nothing is
-- written back.
pub record IsOnly (g : Begin) (w : State DiskHeld) (l : Here) : Type 0 where
  pub still : MoveNoneOver g.tight l.done
  pub calm : is_calm l.todo l.at ≡ true → IsCalm g w l.done
  pub ages : may_write g.given.backed g.given.actors ≡ false → Ages g w l
  pub sweeps : (x : Compaction) → compacting l.todo l.at ≡ Some x → Sweeps g w l x

-- where an actor is the only one of its phase
abbrev pub Alone : Begin → State DiskHeld → Type 0
Alone g w = (l : Here) → w.locals ≡ l ∷ [] → IsOnly g w l
