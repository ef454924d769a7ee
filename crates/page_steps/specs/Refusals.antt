-- A piece that is refused leaves what it found.
use Rattle.std.specs.Prelude.{◌≡◌, ⊤, false, List, [], ◌∷◌, ◌++◌, None}
use Rattle.class_pool.specs.Pool.{PoolState, objects}
use Rattle.mem_account.specs.Counters.{counted}
use Rattle.mem_account.specs.declared.weight.Delta.TheVariants as delta
use Rattle.call_history.specs.declared.part.PartEnd.{PartEnd}
use Rattle.call_history.specs.declared.part.PartEnd.TheVariants as over
use Rattle.call_history.specs.declared.part.Done.{Done}
use Rattle.call_history.specs.Parts.{is_read}
use Rattle.zr_base.specs.declared.op.Op.{Op}
use Rattle.backing_dev.specs.Dev.{DeviceState}
use Rattle.lock_row.specs.declared.names.LockNo.{LockNo}
use Rattle.lock_row.specs.declared.names.Held.TheVariants as holds
use Rattle.lock_row.specs.declared.names.At.TheVariants as at
use Rattle.lock_row.specs.declared.names.Plan.TheVariants.{Take, Give}
use Rattle.page_steps.specs.Steps.{Terms, DiskHeld, Here, plan, took}
use Rattle.page_steps.specs.Givings.{Works}
use Rattle.page_steps.specs.Nexts.{tail_of}

-- An event of an actor: it takes a value, or it gives one and is then at a local.
pub data Event : Type 0 where
  Takes : DiskHeld → Event
  Gives : DiskHeld → Here → Event

-- a piece of an operation that ended so was refused; where the device fails a read, that is noted
abbrev pub IsRefusedEnd : Op → PartEnd → Type 0
IsRefusedEnd op (over.AtLimit pages need limit) = ⊤
IsRefusedEnd op over.NoMemory = ⊤
IsRefusedEnd op (over.Eio fault) = is_read op ≡ false
IsRefusedEnd op end = ⊥

-- one more piece is over, which was refused
abbrev pub EndsRefused : Here → Here → Type 0
EndsRefused l m = (d : Done) × (m.done ≡ l.done ++ d ∷ []) × IsRefusedEnd d.part.op d.end

-- these are an actor's next events, of which the last one ends its piece by a refusal
abbrev pub AreRefused : Terms → List Event → Here → Type 0
AreRefused t [] l = ⊥
AreRefused t (Takes v ∷ es) l = (k : LockNo) × (plan t l ≡ Take k) × AreRefused t es (took t l v)
AreRefused t (Gives v m ∷ []) l =
    (k : LockNo) × (plan t l ≡ Give k) × Works t l v m × EndsRefused l m
AreRefused t (Gives v m ∷ e ∷ es) l =
    (k : LockNo) × (plan t l ≡ Give k) × Works t l v m × (m.done ≡ l.done)
    × AreRefused t (e ∷ es) m

-- what is given is what was held: the very entry; a pool with the same objects; the account, with
-- one failed write more; the device with the same contents
abbrev pub IsGivenBack : DiskHeld → DiskHeld → Type 0
IsGivenBack (holds.Slot e) v = v ≡ holds.Slot e
IsGivenBack (holds.Class q) v = (q' : PoolState) × (v ≡ holds.Class q') × (objects q' ≡ objects q)
IsGivenBack (holds.Account c) v = v ≡ holds.Account (counted c delta.FailedWrite)
IsGivenBack (holds.Device d) v =
    (d' : DeviceState) × (v ≡ holds.Device d') × (d'.contents ≡ d.contents)
IsGivenBack u v = ⊥

-- the value that was taken last is given back
abbrev pub GivesLast : List (LockNo × DiskHeld) → DiskHeld → Type 0
GivesLast [] v = ⊥
GivesLast (x ∷ xs) v = IsGivenBack x.1 v

-- each giving is of the value that was taken last, and the others stay as they were taken
abbrev pub GiveBack : Terms → List Event → Here → Type 0
GiveBack t [] l = ⊤
GiveBack t (Takes v ∷ es) l = GiveBack t es (took t l v)
GiveBack t (Gives v m ∷ es) l =
    GivesLast l.held v × (m.held ≡ tail_of l.held) × GiveBack t es m

-- a piece that is refused gives back all that it took as it was
abbrev pub RefusalsLeaveAll : Type 0
RefusalsLeaveAll = (t : Terms) (es : List Event) (l : Here) → l.at ≡ at.Start → l.fail ≡ None
    → AreRefused t es l → GiveBack t es l
