-- The whole rule of a phase: the joint rule, orders and replies, and the counters of the account.
use Rattle.std.specs.Prelude.{◌≡◌, ℕ, ◌+◌, ◌*◌, ◌<◌, ◌≤◌, true, false, cond, List, [], length, take, Option, Some, None, slice_get, ⊤}
use Rattle.zr_base.specs.declared.op.Tag.{Tag}
use Rattle.mem_account.specs.Counters.{at_most_end}
use Rattle.plain_disk.specs.Ends.{Bounds}
use Rattle.plain_disk.specs.Idles.{may_write}
use Rattle.call_history.specs.declared.part.Done.{Done}
use Rattle.call_history.specs.declared.part.PartEnd.{PartEnd}
use Rattle.call_history.specs.Parts.{KeepsTo}
use Rattle.call_history.specs.Shows.{ShowsPage}
use Rattle.lock_row.specs.declared.names.Held.TheVariants as holds
use Rattle.lock_row.specs.declared.names.State.{State}
use Rattle.lock_row.specs.Totals.{locals_sum, total}
use Rattle.page_steps.specs.Steps.{DiskHeld, Here, spot}
use Rattle.zr_base.specs.Plain.{Finds}
use Rattle.joint_rule.specs.Begins.{Begin, FindsRight, finding, ground_of, content, back_at, pieces_on, pieces_each}
use Rattle.joint_rule.specs.Weights.{HeldAll, Each, none, one, pages, device_faults, device_reads, device_writes, map_size, map_budgeted, map_budget, reserves_told, cuts_told, foreign_at, met_at, lost_in, passed_in, was_back, writes_told, wrote_told, new_back_at, faults_told, fetches_told, fetches_noted, ever_at, mosts, Refusal, refusal_count, refusal_counter, refusals, compactions, freed_by, News, noted, told_ahead, news_count, news_counter}
use Rattle.joint_rule.specs.Joint.{Joint}
use Rattle.joint_rule.specs.Alone.{Alone}

-- ---- orders

-- the pieces of an actor that are over, or none where there is no such actor
abbrev pub done_by : Option Here → List Done
done_by None = []
done_by (Some l) = l.done

-- the pieces of each actor that are over
abbrev pub dones : List Here → ℕ → List Done
dones ls a = done_by (slice_get ls a)

-- an actor's pieces on a page that are left
abbrev pub owed_by : ℕ → ℕ → Here → ℕ
owed_by size page l = pieces_on size page l.todo

-- those of all actors
abbrev pub owed : ℕ → List Here → ℕ → ℕ
owed size ls page = locals_sum (owed_by size page) ls

-- the calls of an order find what is held, where their page isn't on the device and nothing is written
-- back
abbrev pub FindHeld : Begin → ℕ → List Tag → Type 0
FindHeld g p order = may_write g.given.backed g.given.actors ≡ false → (at : ℕ) (t : Tag) → slice_get order at ≡ Some t
    → back_at g p (take at order) ≡ false → (s : ℕ) (old : List ℕ) → g.given.finds p t s old ≡ old

-- An order shows what its calls leave, and has spare room for the pieces that are left; with these
-- it has no more than the phase has on the page.
pub record ShowsOrder (g : Begin) (ls : List Here) (p : ℕ) (order : List Tag) (room : ℕ)
    : Type 0 where
  pub shows : ShowsPage g.given (dones ls) p (content g p order) order
  pub finds : FindHeld g p order
  pub spare : owed g.given.size ls p ≤ room
  pub few : length order + owed g.given.size ls p ≤ pieces_each g.given.size g.given.backed g.given.actors p

-- what the order of an entry is
abbrev pub OfOrder : (ℕ → List Tag → ℕ → Type 0) → ℕ → DiskHeld → Type 0
OfOrder P j (holds.Slot e) = P j e.order e.room
OfOrder P j (holds.Class x) = ⊤
OfOrder P j (holds.Account x) = ⊤
OfOrder P j (holds.Blocks x) = ⊤
OfOrder P j (holds.Device x) = ⊤

-- each order, at home and in hand, shows what its calls leave, and has spare room
abbrev pub Told : Begin → State DiskHeld → Type 0
Told g w = Each (OfOrder (ShowsOrder g w.locals))
    (λ a l. HeldAll g.given.size (OfOrder (ShowsOrder g w.locals)) l.held) w

-- ---- the account

-- The maximum hasn't fallen; and where it rose, it is within the limit, and within what pages and
-- actors can have made.
pub record Most (g : Begin) (w : State DiskHeld) : Type 0 where
  pub now : total (spot g.given.size) pages none w ≤ total (spot g.given.size) mosts none w
  pub before : g.was.most ≤ total (spot g.given.size) mosts none w
  pub within : g.was.most < total (spot g.given.size) mosts none w → 0 < g.was.limit
      → total (spot g.given.size) mosts none w ≤ g.was.limit
  pub few : g.was.most < total (spot g.given.size) mosts none w
      → total (spot g.given.size) mosts none w
      ≤ g.chain * total (spot g.given.size) (ever_at g) one w

-- a counter of refusals has risen since the phase's start by what actors tell, up to its end
abbrev pub CountsRefusals : Begin → Refusal → State DiskHeld → Type 0
CountsRefusals g q w = total (spot g.given.size) (refusal_counter q) none w
    ≡ at_most_end (refusal_count q g.was + locals_sum (refusals q) w.locals)

-- the frames that compactions freed have risen since the phase's start by what actors tell, up to
-- the counter's end
abbrev pub CountsFreed : Begin → State DiskHeld → Type 0
CountsFreed g w = total (spot g.given.size) compactions none w
    ≡ at_most_end (g.was.compacted + locals_sum freed_by w.locals)

-- a counter of calls has risen since the phase's start by what the calls of the orders give, and by
-- what was counted and isn't noted yet, up to its end
abbrev pub CountsNews : Begin → News → State DiskHeld → Type 0
CountsNews g q w = total (spot g.given.size) (news_counter q) none w
    ≡ at_most_end (news_count q g.was + total (spot g.given.size) (noted g q) (told_ahead q) w)

-- ---- limits

-- what the ends of an actor's pieces are measured by at a state: the pages that were in the pool, with
-- actors; how many calls of the device have failed; the pages that were on the device before the phase
-- or were written back, with actors; and the tags of others
abbrev pub reach_at : Begin → State DiskHeld → ℕ → Bounds
reach_at g w a = record {
  reach = total (spot g.given.size) (ever_at g) one w;
  faults = total (spot g.given.size) device_faults none w;
  taken = total (spot g.given.size) (was_back g) one w + locals_sum wrote_told w.locals;
  others = total (spot g.given.size) (foreign_at a) none w;
}

-- a refusal is within these bounds
abbrev pub FailKeeps : Begin → Bounds → Option PartEnd → Type 0
FailKeeps g b None = ⊤
FailKeeps g b (Some end) = KeepsTo (ground_of g) b end

-- An actor's refusals are within these bounds, that of the piece in work too.
pub record KeepsLimits (g : Begin) (b : Bounds) (l : Here) : Type 0 where
  pub over : (i : ℕ) (d : Done) → slice_get l.done i ≡ Some d → KeepsTo (ground_of g) b d.end
  pub now : FailKeeps g b l.fail

-- each refusal at the limit had a limit below what pages and actors can have made
abbrev pub Limits : Begin → State DiskHeld → Type 0
Limits g w = (a : ℕ) (l : Here) → slice_get w.locals a ≡ Some l → KeepsLimits g (reach_at g w a) l

-- ---- the device

-- each count of faults is told once at most
abbrev pub FaultsDiffer : State DiskHeld → Type 0
FaultsDiffer w = (n : ℕ) → locals_sum (faults_told n) w.locals ≤ 1

-- the device was read at most once for each read and write in the orders, for each write that was
-- refused for memory, and for each piece in work that may have read it
abbrev pub FewFetches : Begin → State DiskHeld → Type 0
FewFetches g w = total (spot g.given.size) device_reads none w
    ≤ g.device.reads + total (spot g.given.size) (fetches_noted g) fetches_told w

-- the device has written once for each page that writebacks have left there or lost, and for each
-- page in work that was written
abbrev pub CountsWrites : Begin → State DiskHeld → Type 0
CountsWrites g w = total (spot g.given.size) device_writes none w
    ≡ at_most_end (g.device.writes + locals_sum writes_told w.locals)

-- the pages that are new on the device are at most those that writebacks have left there
abbrev pub FewBack : Begin → State DiskHeld → Type 0
FewBack g w = total (spot g.given.size) (new_back_at g) none w ≤ locals_sum wrote_told w.locals

-- ---- the limit on writebacks

-- The map has the blocks that are used, and the limit is on or off as at the phase's start. Where it is
-- on, the writes that it has left and the blocks that actors tell to have reserved are together what
-- it had left; where it is off, it has as many left. Where it has cut a writeback, it is on, and none
-- is left.
pub record CountsBudget (g : Begin) (w : State DiskHeld) : Type 0 where
  pub size : total (spot g.given.size) map_size none w ≡ g.blocks
  pub on : total (spot g.given.size) map_budgeted none w ≡ cond g.budgeted 1 0
  pub spent : g.budgeted ≡ true
      → total (spot g.given.size) map_budget none w + locals_sum reserves_told w.locals ≡ g.budget
  pub same : g.budgeted ≡ false → total (spot g.given.size) map_budget none w ≡ g.budget
  pub none : 0 < locals_sum cuts_told w.locals
      → (g.budgeted ≡ true) × (total (spot g.given.size) map_budget none w ≡ 0)

-- a writeback in work has met no more pages whose mark was gone than the pages that it has passed and
-- whose orders have tags of others
abbrev pub FewLost : Begin → State DiskHeld → Type 0
FewLost g w = (a : ℕ) (l : Here) → slice_get w.locals a ≡ Some l
    → lost_in l.at l.fail ≤ total (spot g.given.size) (met_at a (passed_in l.at l.fail)) none w

-- ---- the rule

-- The rule that each state of a phase has, by what its calls find.
pub record Ruled (g : Begin) (w : State DiskHeld) : Type 0 where
  pub finds : FindsRight g
  pub joint : Joint g w
  pub told : Told g w
  pub most : Most g w
  pub refusals : (q : Refusal) → CountsRefusals g q w
  pub freed : CountsFreed g w
  pub news : (q : News) → CountsNews g q w
  pub limits : Limits g w
  pub faults : FaultsDiffer w
  pub fetches : FewFetches g w
  pub writes : CountsWrites g w
  pub back : FewBack g w
  pub budget : CountsBudget g w
  pub lost : FewLost g w
  pub alone : Alone g w

-- There is something that the calls find by which the state has the rule.
pub record Rule (g : Begin) (w : State DiskHeld) : Type 0 where
  pub finds : ℕ → Finds
  pub ruled : Ruled (finding g finds) w
