-- How operations may end, the sectors that they then have to tell, and counts of them by their
-- ends.
use Rattle.std.specs.Prelude.{◌≡◌, ◌⊎◌, ℕ, ◌+◌, ◌-◌, ◌*◌, ◌/◌, ◌<◌, ◌≤◌, ◌==◌, min, Bool, true, false, ◌||◌, List, [], ◌∷◌, map, if◌then◌else◌, ⊤}
use Rattle.std.specs.List.{flat_map, range_with_len}
use Rattle.zr_base.specs.declared.op.Stuff.{Stuff}
use Rattle.zr_base.specs.declared.op.Op.{Op}
use Rattle.zr_base.specs.declared.op.Op.TheVariants.{Write, Read}
use Rattle.zr_base.specs.declared.op.OpEnd.{OpEnd}
use Rattle.zr_base.specs.declared.op.OpEnd.TheVariants as ends
use Rattle.zr_base.specs.Pieces.{first_page, pages_of}
use Rattle.zr_base.specs.Plain.{stuff_sector, has_whole, is_beyond, is_maintenance, is_marking, is_writeback, is_void, is_compaction}
use Rattle.mem_account.specs.declared.weight.Weight.{Weight}
use Rattle.size_class.specs.Classes.{chain_of}
use Rattle.plain_disk.specs.Forms.{is_pooled, in_class}

-- ---- what ends are measured by

-- What ends are measured by from the phase's start on: the form of a page by its bytes, the disk's
-- pages, the most frames of a chain, the limit in frames, where 0 is none, whether the disk has a
-- backing, how many blocks of the device it uses, whether writebacks have a limit, which pages may be
-- on the backing device, and how many of its calls have failed.
pub record Ground : Type 0 where
  pub form : List ℕ → Weight
  pub size : ℕ
  pub chain : ℕ
  pub limit : ℕ
  pub backed : Bool
  pub blocks : ℕ
  pub budgeted : Bool
  pub back : ℕ → Bool
  pub faults : ℕ

-- What the ends of an actor's operations are measured by at the phase's end: the number of pages
-- that have a form of the pool at some moment, with that of actors; how many calls of the backing
-- device have failed; how many blocks pages and actors can have had, those of the pages that were on
-- the device before the phase or were written back, and one for each actor; and how many tags of other
-- actors stand in the orders.
pub record Bounds : Type 0 where
  pub reach : ℕ
  pub faults : ℕ
  pub taken : ℕ
  pub others : ℕ

-- ---- the ends of an operation

-- whether an operation on a disk of so many pages is over in one piece, which stands in no order: it
-- is no request, or one beyond the disk
abbrev pub is_single : ℕ → Op → Bool
is_single pages op = is_maintenance op || is_beyond pages op

-- the bytes that a write of all sectors of a page puts there
abbrev pub page_put : ℕ → Stuff → ℕ → List ℕ
page_put start stuff page =
    flat_map (λ s. stuff_sector stuff (s - start)) (range_with_len (8 * page) 8)

-- a refused piece is one of a write; where it has all sectors of its page, the page that they make
-- is one for the pool
abbrev pub MayWant : (List ℕ → Weight) → Op → ℕ → Type 0
MayWant form (Write start count stuff) page =
    has_whole start count page ≡ true → is_pooled (form (page_put start stuff page)) ≡ true
MayWant form _ page = ⊥

-- where a write has all sectors of the page, class k has the page that they make
abbrev pub IsOfClass : Ground → Op → ℕ → ℕ → Type 0
IsOfClass t (Write start count stuff) page k = has_whole start count page ≡ true
    → in_class t.chain k (t.form (page_put start stuff page)) ≡ true
IsOfClass t _ page k = ⊥

-- the need of an allocation is none, or the chain of its class
abbrev pub IsNeed : Ground → Op → ℕ → ℕ → Type 0
IsNeed t op page need =
    (need ≡ 0) ⊎ ((k : ℕ) × (k < 255) × (need ≡ chain_of t.chain k) × IsOfClass t op page k)

-- The piece may be refused with these frames charged, this need and this limit: there is a limit,
-- and together they pass it.
pub record MayBeAtLimit (t : Ground) (op : Op) (page charged need limit : ℕ) : Type 0 where
  pub wants : MayWant t.form op page
  pub is : limit ≡ t.limit
  pub some : 0 < limit
  pub past : limit < charged + need
  pub needs : IsNeed t op page need

-- The device may have failed at a read of the page, with this count of faults after it: the page
-- may be there, and the count has risen since the phase's start.
pub record IsFaultAt (t : Ground) (page fault : ℕ) : Type 0 where
  pub back : t.back page ≡ true
  pub rose : t.faults < fault

-- the piece of a read may end so, and that of a write which has only a part of its page
abbrev pub MayFault : Ground → Op → ℕ → ℕ → Type 0
MayFault t (Write start count stuff) page fault =
    IsFaultAt t page fault × (has_whole start count page ≡ false)
MayFault t (Read start count) page fault = IsFaultAt t page fault
MayFault t _ page fault = ⊥

-- an operation tried to write so many pages back, of a disk of so many
abbrev pub WritesBack : Op → ℕ → ℕ → Type 0
WritesBack op pages size = (is_writeback op ≡ true) × (pages ≤ size)

-- the ends of an operation that is over in one piece: `range` where it lies beyond the disk; new marks
-- of at most the disk's pages; at most as many pages written back, and fewer where it was cut, by the
-- limit on writebacks only where there is one; and a compaction's numbers, which frees at most a
-- chain's frames with each move
abbrev pub MayBeSingle : Ground → Op → OpEnd → Type 0
MayBeSingle t op ends.Range = is_beyond t.size op ≡ true
MayBeSingle t op (ends.Marked pages) = (is_marking op ≡ true) × (pages ≤ t.size)
MayBeSingle t op (ends.Written wrote lost) = WritesBack op (wrote + lost) t.size
MayBeSingle t op (ends.Budget wrote lost) =
    WritesBack op (wrote + lost + 1) t.size × (t.budgeted ≡ true)
MayBeSingle t op (ends.NoBlock wrote lost) = WritesBack op (wrote + lost + 1) t.size
MayBeSingle t op (ends.WriteEio fault wrote lost) =
    WritesBack op (wrote + lost + 1) t.size × (t.faults < fault)
MayBeSingle t op (ends.Compacted moves frames) =
    (is_compaction op ≡ true) × (frames ≤ t.chain * moves)
MayBeSingle t op _ = ⊥

-- so many pieces of an operation on the disk were carried out, and not all
abbrev pub IsCutAt : ℕ → Op → ℕ → Type 0
IsCutAt pages op done = (is_single pages op ≡ false) × (done < pages_of op)

-- what the end of an operation that is over in one piece says of the whole phase: a writeback lost no
-- more pages than there are tags of other actors; no block was free only where the disk uses fewer
-- than pages and actors can have had; and the count of faults that is told is at most the one at the
-- phase's end
abbrev pub IsWithin : Ground → Bounds → OpEnd → Type 0
IsWithin t b (ends.Written wrote lost) = lost ≤ b.others
IsWithin t b (ends.Budget wrote lost) = lost ≤ b.others
IsWithin t b (ends.NoBlock wrote lost) =
    (lost ≤ b.others) × (t.blocks < b.reach) × (t.blocks < b.taken)
IsWithin t b (ends.WriteEio fault wrote lost) = (lost ≤ b.others) × (fault ≤ b.faults)
IsWithin t b _ = ⊤

-- The ends that an operation may have that does something. A refused piece is the next one after those
-- that were carried out. At a refusal the limit is below the frames that the pages in the pool and the
-- actors can have. The count of faults that is told is at most the one at the phase's end.
abbrev pub MayEndSo : Ground → Bounds → Op → OpEnd → Type 0
MayEndSo t b op ends.Ok = is_single t.size op ≡ false
MayEndSo t b op (ends.AtLimit charged need limit done) = IsCutAt t.size op done
    × MayBeAtLimit t op (first_page op + done) charged need limit × (limit < t.chain * b.reach)
MayEndSo t b op (ends.NoMemory done) = IsCutAt t.size op done
    × MayWant t.form op (first_page op + done)
MayEndSo t b op (ends.Eio fault done) = IsCutAt t.size op done
    × MayFault t op (first_page op + done) fault × (fault ≤ b.faults)
MayEndSo t b op end = MayBeSingle t op end × IsWithin t b end

-- where it does nothing, a writeback has its own end
abbrev pub MayEndBy : Bool → Ground → Bounds → Op → OpEnd → Type 0
MayEndBy true t b op end = end ≡ ends.NoBacking
MayEndBy false t b op end = MayEndSo t b op end

-- the ends that an operation may have: a writeback without a backing does nothing
abbrev pub MayEnd : Ground → Bounds → Op → OpEnd → Type 0
MayEnd t b op end = MayEndBy (is_void t.backed op) t b op end

-- those of an actor's operations
abbrev pub MayEndAll : Ground → Bounds → List Op → List OpEnd → Type 0
MayEndAll t b [] [] = ⊤
MayEndAll t b (op ∷ ops) (end ∷ es) = MayEnd t b op end × MayEndAll t b ops es
MayEndAll t b [] (end ∷ es) = ⊥
MayEndAll t b (op ∷ ops) [] = ⊥

-- those of the actors from the a-th on, each by bounds of its own
abbrev pub MayEndEach : Ground → (ℕ → Bounds) → ℕ → List (List Op) → List (List OpEnd) → Type 0
MayEndEach t b a [] [] = ⊤
MayEndEach t b a (ops ∷ more) (es ∷ others) = MayEndAll t (b a) ops es
    × MayEndEach t b (a + 1) more others
MayEndEach t b a [] (es ∷ others) = ⊥
MayEndEach t b a (ops ∷ more) [] = ⊥

-- ---- the sectors that are told

-- how many sectors a request has on its first so many pages
abbrev pub sectors_before : ℕ → ℕ → ℕ → ℕ
sectors_before start count done = min count (8 * (start / 8 + done) - start)

-- the sectors that an operation with its end tells, where a sector holds these bytes
abbrev pub read_by : Op → OpEnd → (ℕ → List ℕ) → List (List ℕ)
read_by (Read start count) ends.Ok bytes = map bytes (range_with_len start count)
read_by (Read start count) (ends.Eio fault done) bytes =
    map bytes (range_with_len start (sectors_before start count done))
read_by _ _ bytes = []

-- those of an actor's operations from the nr-th on, where each has bytes of its own
abbrev pub due_from : ℕ → List Op → List OpEnd → (ℕ → ℕ → List ℕ) → List (List (List ℕ))
due_from nr [] es bytes = []
due_from nr (op ∷ ops) [] bytes = []
due_from nr (op ∷ ops) (end ∷ es) bytes = read_by op end (bytes nr) ∷ due_from (nr + 1) ops es bytes

-- ---- counts by ends

-- the sum of what each operation with its end gives
abbrev pub ops_sum : (Op → OpEnd → ℕ) → List Op → List OpEnd → ℕ
ops_sum f [] es = 0
ops_sum f (op ∷ ops) [] = 0
ops_sum f (op ∷ ops) (end ∷ es) = f op end + ops_sum f ops es

-- the sum over all actors
abbrev pub ends_sum : (Op → OpEnd → ℕ) → List (List Op) → List (List OpEnd) → ℕ
ends_sum f [] es = 0
ends_sum f (ops ∷ more) [] = 0
ends_sum f (ops ∷ more) (es ∷ others) = ops_sum f ops es + ends_sum f more others

-- one for a write that was refused
abbrev pub failed_write : Op → OpEnd → ℕ
failed_write (Write start count stuff) (ends.AtLimit charged need limit done) = 1
failed_write (Write start count stuff) (ends.NoMemory done) = 1
failed_write (Write start count stuff) (ends.Eio fault done) = 1
failed_write _ _ = 0

-- one for a read that failed
abbrev pub failed_read : Op → OpEnd → ℕ
failed_read (Read start count) (ends.Eio fault done) = 1
failed_read _ _ = 0

-- one for a write that was refused for memory: its page may have been read from the device before
abbrev pub starved : Op → OpEnd → ℕ
starved (Write start count stuff) (ends.AtLimit charged need limit done) = 1
starved (Write start count stuff) (ends.NoMemory done) = 1
starved _ _ = 0

-- one for an end that tells this count of faults
abbrev pub tells_fault : ℕ → Op → OpEnd → ℕ
tells_fault n op (ends.Eio fault done) = if fault == n then 1 else 0
tells_fault n op (ends.WriteEio fault wrote lost) = if fault == n then 1 else 0
tells_fault n op _ = 0

-- the pages that a writeback left on the device
abbrev pub left_back : Op → OpEnd → ℕ
left_back op (ends.Written wrote lost) = wrote
left_back op (ends.Budget wrote lost) = wrote
left_back op (ends.NoBlock wrote lost) = wrote
left_back op (ends.WriteEio fault wrote lost) = wrote
left_back op _ = 0

-- its writes of the device that succeeded
abbrev pub written : Op → OpEnd → ℕ
written op (ends.Written wrote lost) = wrote + lost
written op (ends.Budget wrote lost) = wrote + lost
written op (ends.NoBlock wrote lost) = wrote + lost
written op (ends.WriteEio fault wrote lost) = wrote + lost
written op _ = 0

-- the writes of the device that it tried: one that failed is the last
abbrev pub tried : Op → OpEnd → ℕ
tried op (ends.Written wrote lost) = wrote + lost
tried op (ends.Budget wrote lost) = wrote + lost
tried op (ends.NoBlock wrote lost) = wrote + lost
tried op (ends.WriteEio fault wrote lost) = wrote + lost + 1
tried op _ = 0

-- one for a writeback that its limit has cut
abbrev pub cut_short : Op → OpEnd → ℕ
cut_short op (ends.Budget wrote lost) = 1
cut_short op _ = 0

-- the frames that a compaction freed
abbrev pub compacted : Op → OpEnd → ℕ
compacted op (ends.Compacted moves frames) = frames
compacted op _ = 0

-- one for a request beyond the disk
abbrev pub beyond : Op → OpEnd → ℕ
beyond op ends.Range = 1
beyond op _ = 0
