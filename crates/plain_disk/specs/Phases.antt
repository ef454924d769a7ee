-- What a phase may print, and the rest that it leaves: its ends, for each page an order of the
-- calls on it, and for each read the bytes that the calls before it left.
use Rattle.std.specs.Prelude.{◌≡◌, ℕ, ◌+◌, ◌*◌, ◌-◌, ◌/◌, ◌<◌, ◌≤◌, ◌==◌, ◌&&◌, ◌||◌, not, Bool, true, false, List, [], ◌∷◌, length, get_or, take, sum_by, count_by, Some, slice_get, cond, if◌then◌else◌}
use Rattle.std.specs.List.{range_with_len}
use Rattle.zr_base.specs.declared.op.Tag.{Tag}
use Rattle.zr_base.specs.declared.op.Op.{Op}
use Rattle.zr_base.specs.declared.op.OpEnd.{OpEnd}
use Rattle.zr_base.specs.Plain.{Finds, IsSector, PageCalls, content, order_before, IsOrder}
use Rattle.mem_account.specs.declared.weight.Weight.{Weight}
use Rattle.mem_account.specs.Counters.{at_most_end}
use Rattle.backing_dev.specs.Dev.{DeviceState, IsHonestDevice}
use Rattle.plain_disk.specs.Ends.{Ground, Bounds, MayEndEach, due_from, ends_sum, failed_read, failed_write, starved, tells_fault, left_back, written, tried, cut_short, beyond, compacted}
use Rattle.plain_disk.specs.Output.{OutLine, phase_lines}
use Rattle.plain_disk.specs.Calls.{Found, kept_as, leave_page, after_all, ever_pooled, calls_sum, made_huge, freed, may_fetch}
use Rattle.plain_disk.specs.Compactions.{IsAlone}
use Rattle.plain_disk.specs.Idles.{is_marked_in, may_write, KeepsMark}
use Rattle.plain_disk.specs.Forms.{page_bytes, is_pooled}
use Rattle.plain_disk.specs.Rests.{SoFar, Settings, Rest, is_backed, page_of, kept_at, kept_pages, frames_of, AreUsed}

-- ---- orders and contents

-- what a phase begins with: the disk's pages, whether it has a backing, the operations of its actors,
-- and what each sector holds; and what calls find on each page
pub record Given : Type 0 where
  pub size : ℕ
  pub backed : Bool
  pub actors : List (List Op)
  pub before : ℕ → List ℕ
  pub finds : ℕ → Finds

-- the calls that page p may have
abbrev pub calls_on : Given → ℕ → PageCalls
calls_on g p = record { actors = g.actors; finds = g.finds p }

-- what a sector of page p holds after the calls of an order
abbrev pub held_after : Given → ℕ → List Tag → ℕ → List ℕ
held_after g p order s = content (calls_on g p) s (g.before s) order

-- the order of a page
abbrev pub nth_order : List (List Tag) → ℕ → List Tag
nth_order orders p = get_or orders p []

-- what a call finds in a sector of page p, after the calls of an order
abbrev pub found_in : Given → ℕ → Tag → List Tag → ℕ → List ℕ
found_in g p tag order s = g.finds p tag s (held_after g p order s)

-- a sector that an operation reads: what it finds after the calls before it in the page's order
abbrev pub sector_read : Given → List (List Tag) → ℕ → ℕ → ℕ → List ℕ
sector_read g orders a k s =
    found_in g (s / 8) (record { actor = a; op = k })
    (order_before (record { actor = a; op = k }) (nth_order orders (s / 8))) s

-- the sectors that the operations of the actors from the a-th on have to tell
abbrev pub due : Given → List (List Tag) → ℕ → List (List Op) → List (List OpEnd)
    → List (List (List (List ℕ)))
due g orders a [] es = []
due g orders a (ops ∷ more) [] = []
due g orders a (ops ∷ more) (es ∷ others) =
    due_from 0 ops es (sector_read g orders a) ∷ due g orders (a + 1) more others

-- ---- what a phase is measured by

-- a phase of these actors begins, whose calls find so much
abbrev pub begun : Rest → List (List Op) → (ℕ → Finds) → Given
begun r actors finds = record {
  size = r.size;
  backed = is_backed r;
  actors = actors;
  before = r.holds;
  finds = finds;
}

-- whether a page is on the device after the calls of an order: it was before the phase, and they are
-- reads alone
abbrev pub back_after : Rest → List (List Op) → ℕ → List Tag → Bool
back_after r actors p order = r.back p && leave_page actors order

-- Calls find sectors: what is held, over an honest device; and over any other, where their page isn't
-- on it and none is written back.
pub record FindsHeld (r : Rest) (actors : List (List Op)) (orders : List (List Tag))
    (finds : ℕ → Finds) : Type 0 where
  pub sectors : (p : ℕ) (tag : Tag) (s : ℕ) (old : List ℕ) → IsSector old
      → IsSector (finds p tag s old)
  pub honest : IsHonestDevice r.device → (p : ℕ) (tag : Tag) (s : ℕ) (old : List ℕ)
      → finds p tag s old ≡ old
  pub pooled : may_write (is_backed r) actors ≡ false → (p at : ℕ) (tag : Tag) → p < r.size
      → slice_get (nth_order orders p) at ≡ Some tag
      → back_after r actors p (take at (nth_order orders p)) ≡ false
      → (s : ℕ) (old : List ℕ) → finds p tag s old ≡ old

-- what its ends are measured by from its start on
abbrev pub phase_ground : (List ℕ → Weight) → Rest → List (List Op) → Ground
phase_ground form r actors = record {
  form = form;
  size = r.size;
  chain = r.set.chain;
  limit = r.set.limit;
  backed = is_backed r;
  blocks = r.set.backing;
  budgeted = r.set.budgeted;
  back = λ p. r.back p || may_write (is_backed r) actors;
  faults = r.device.faults;
}

-- the pages that have a form of the pool before the phase or after some first calls of their orders
abbrev pub ever : (List ℕ → Weight) → Rest → Given → List (List Tag) → ℕ
ever form r g orders =
    count_by (λ p. ever_pooled form p (calls_on g p) (page_of r p) (nth_order orders p))
    (range_with_len 0 r.size)

-- those pages and the actors: each has the frames of one chain at most
abbrev pub reach : (List ℕ → Weight) → Rest → Given → List (List Tag) → ℕ
reach form r g orders = ever form r g orders + length g.actors

-- the blocks that pages and actors can have had, where so many pages were written back
abbrev pub taken : Rest → Given → ℕ → ℕ
taken r g wrote = count_by r.back (range_with_len 0 r.size) + wrote + length g.actors

-- how many tags of actors other than this one stand in an order
abbrev pub foreign : ℕ → List Tag → ℕ
foreign a [] = 0
foreign a (t ∷ ts) = cond (t.actor == a) 0 1 + foreign a ts

-- what the ends of an actor's operations are measured by at the phase's end, where so many calls of
-- the device have failed, and so many pages were written back
abbrev pub bounds : (List ℕ → Weight) → Rest → Given → List (List Tag) → ℕ → ℕ → ℕ → Bounds
bounds form r g orders faults wrote a = record {
  reach = reach form r g orders;
  faults = faults;
  taken = taken r g wrote;
  others = sum_by (foreign a) orders;
}

-- ---- the rest after a phase

-- a sum over the orders of all pages
abbrev pub phase_sum : (ℕ → Found → List Tag → ℕ) → Rest → List (List Tag) → ℕ
phase_sum w r orders =
    sum_by (λ p. w p (page_of r p) (nth_order orders p)) (range_with_len 0 r.size)

-- what has happened so far after a phase with these ends and orders
abbrev pub so_far_after : (List ℕ → Weight) → Rest → Given → List (List OpEnd)
    → List (List Tag) → SoFar
so_far_after form r g ends orders = record r.so_far {
  huge = at_most_end
      (r.so_far.huge + phase_sum (λ p. calls_sum (made_huge form p) (calls_on g p)) r orders);
  compacted = at_most_end (r.so_far.compacted + ends_sum compacted g.actors ends);
  failed_reads = at_most_end (r.so_far.failed_reads + ends_sum failed_read g.actors ends);
  failed_writes = at_most_end (r.so_far.failed_writes + ends_sum failed_write g.actors ends);
  beyond = at_most_end (r.so_far.beyond + ends_sum beyond g.actors ends);
  freed = at_most_end (r.so_far.freed + phase_sum (λ p. calls_sum freed (calls_on g p)) r orders);
}

-- when a page is touched last: by the clock, where some call stands in its order
abbrev pub touched_by : List Tag → ℕ → ℕ → ℕ
touched_by [] clock touched = touched
touched_by (tag ∷ tags) clock touched = clock

-- The greatest number of frames after a phase: it hasn't fallen, and where it rose it is within the
-- limit, and within the chains of the pages that have a form of the pool at some moment and of the
-- actors.
pub record IsMost (r : Rest) (reached most : ℕ) (used : ℕ → List ℕ) : Type 0 where
  pub now : frames_of r.set.chain used ≤ most
  pub before : r.most ≤ most
  pub within : r.most < most → 0 < r.set.limit → most ≤ r.set.limit
  pub few : r.most < most → most ≤ r.set.chain * reached

-- how often a phase may have read the device: once for each read and write in the orders, and for
-- each write that was refused for memory
abbrev pub fetches : Rest → Given → List (List OpEnd) → List (List Tag) → ℕ
fetches r g ends orders =
    phase_sum (λ p. calls_sum may_fetch (calls_on g p)) r orders + ends_sum starved g.actors ends

-- What a phase leaves of the device: it is the same, with as many blocks, honest where it was; its
-- count of faults hasn't fallen; it has read at most so often; and it has written so often.
pub record LeavesDevice (d e : DeviceState) (most written : ℕ) : Type 0 where
  pub same : e.references ≡ d.references
  pub blocks : e.blocks ≡ d.blocks
  pub honest : IsHonestDevice d → IsHonestDevice e
  pub faults : d.faults ≤ e.faults
  pub reads : d.reads ≤ e.reads
  pub few : e.reads ≤ d.reads + most
  pub writes : e.writes ≡ at_most_end (d.writes + written)

-- Which page is on the device after a phase: one that was and stays there by the calls of its order;
-- where nothing is written back no other one; and only one that has a form of the pool.
pub record KeepsBack (stays writes pooled is : Bool) : Type 0 where
  pub there : stays ≡ true → is ≡ true
  pub only : writes ≡ false → is ≡ stays
  pub pooled_one : is ≡ true → pooled ≡ true

-- The rest that a phase with these orders leaves, but for what has happened so far.
pub record LeavesPages (form : List ℕ → Weight) (r : Rest) (g : Given)
    (orders : List (List Tag)) (m : Rest) : Type 0 where
  pub size : m.size ≡ r.size
  pub holds : (s : ℕ) → s < 8 * r.size
      → m.holds s ≡ held_after g (s / 8) (nth_order orders (s / 8)) s
  pub blank : (p : ℕ) → p < r.size
      → m.blank p ≡ (after_all (calls_on g p) (page_of r p) (nth_order orders p)).blank
  pub back : (p : ℕ) → p < r.size → KeepsBack (back_after r g.actors p (nth_order orders p))
      (may_write g.backed g.actors) (is_pooled (kept_as form p (page_of m p))) (m.back p)
  pub idle : (p : ℕ) → p < r.size → KeepsMark (is_pooled (kept_at form m p)) (r.idle p)
      (is_marked_in g.actors) (m.back p) (nth_order orders p) (m.idle p)
  pub touched : (p : ℕ) → p < r.size
      → m.touched p ≡ touched_by (nth_order orders p) r.set.clock (r.touched p)
  pub used : AreUsed r.set.chain (kept_pages form m) m.used
  pub most : IsMost r (reach form r g orders) m.most m.used

-- the pages that are on the device and weren't, or were given up by a call of their order
abbrev pub new_back : Rest → List (List Op) → List (List Tag) → Rest → ℕ
new_back r actors orders m = count_by
    (λ p. m.back p && not (back_after r actors p (nth_order orders p))) (range_with_len 0 r.size)

-- what a phase that tried so many writes of the device leaves of what is set: they are no longer left
-- of a limit on writebacks that is on
abbrev pub set_after : Settings → ℕ → Settings
set_after s n = record s { budget = if s.budgeted then s.budget - n else s.budget }

-- A phase tried so many writes of the device: a limit on writebacks that is on had as many left, and
-- none is left where it cut one.
pub record KeepsBudget (s : Settings) (n cut : ℕ) : Type 0 where
  pub within : s.budgeted ≡ true → n ≤ s.budget
  pub whole : 0 < cut → n ≡ s.budget

-- Blocks of their own have the bytes of the pages that are on the device.
pub record HaveBlocks (r : Rest) (blocks : List (List ℕ)) : Type 0 where
  pub block : ℕ → ℕ
  pub apart : (p q : ℕ) → p < r.size → q < r.size → r.back p ≡ true → r.back q ≡ true
      → block p ≡ block q → p ≡ q
  pub bytes : (p : ℕ) → p < r.size → r.back p ≡ true
      → slice_get blocks (block p) ≡ Some (page_bytes r.holds p)

-- where the device is honest and tells the bytes of its blocks, the pages that are there have blocks
-- of their own
abbrev pub IsOnDevice : Rest → Type 0
IsOnDevice r = (blocks : List (List ℕ)) → IsHonestDevice r.device
    → r.device.contents ≡ Some blocks → HaveBlocks r blocks

-- The rest that a phase with these ends and orders leaves.
pub record Leaves (form : List ℕ → Weight) (r : Rest) (g : Given)
    (ends : List (List OpEnd)) (orders : List (List Tag)) (m : Rest) : Type 0 where
  pub pages : LeavesPages form r g orders m
  pub so_far : m.so_far ≡ so_far_after form r g ends orders
  pub device : LeavesDevice r.device m.device (fetches r g ends orders)
      (ends_sum written g.actors ends)
  -- the pages that are new on the device are at most those that were written back
  pub few_back : new_back r g.actors orders m ≤ ends_sum left_back g.actors ends
  pub on_device : IsOnDevice m
  pub budget : KeepsBudget r.set (ends_sum tried g.actors ends) (ends_sum cut_short g.actors ends)
  pub set : m.set ≡ set_after r.set (ends_sum tried g.actors ends)

-- ---- phases

-- Lines that a phase of these actors may print between two rests.
pub record IsPhase (form : List ℕ → Weight) (r : Rest) (actors : List (List Op))
    (lines : List OutLine) (m : Rest) : Type 0 where
  pub ends : List (List OpEnd)
  pub orders : List (List Tag)
  -- what calls find on each page
  pub finds : ℕ → Finds
  pub held : FindsHeld r actors orders finds
  pub may : MayEndEach (phase_ground form r actors)
      (bounds form r (begun r actors finds) orders m.device.faults (ends_sum left_back actors ends)) 0
      actors ends
  -- no two lines tell the same count of faults
  pub faults_differ : (f : ℕ) → ends_sum (tells_fault f) actors ends ≤ 1
  pub every_page : length orders ≡ r.size
  pub each : (p : ℕ) → p < r.size → IsOrder actors ends p (nth_order orders p)
  pub lines_are : lines ≡ phase_lines ends (due (begun r actors finds) orders 0 actors ends) orders
  pub leaves : Leaves form r (begun r actors finds) ends orders m
  pub alone : (ops : List Op) (es : List OpEnd) → actors ≡ ops ∷ [] → ends ≡ es ∷ []
      → IsAlone form r finds ops es m
