-- The givings of a writeback, by what they do to sums over pools.
use Rattle.std.proofs.Common.{◌≡◌, ◌∷◌, ◌∙◌, ◌==◌, ℕ, Bool, true, false, List, [], Option, Some, None, refl, ap}
use Rattle.backing_dev.specs.Dev.{DeviceState, FailsToWrite, WritesBlock}
use Rattle.block_map.specs.BlockMap.{AnswersReserve, BlockMap, reserved, with_state}
use Rattle.block_map.specs.declared.blocks.Reserve.{Reserve}
use Rattle.block_map.specs.declared.blocks.Reserve.TheVariants.{Got}
use Rattle.block_map.specs.declared.state.BlockState.TheVariants.{Free, Owned}
use Rattle.call_history.specs.declared.part.Part.{Part}
use Rattle.call_history.specs.declared.part.PartEnd.{PartEnd}
use Rattle.call_history.specs.declared.part.PartEnd.TheVariants.{Whole}
use Rattle.class_pool.specs.Pool.{PoolState}
use Rattle.joint_rule.proofs.Facts.{Known}
use Rattle.joint_rule.proofs.Pools.{GivesUp, Swaps, drops_weigh, lends_weigh, returns_weigh}
use Rattle.joint_rule.specs.Begins.{Begin, terms}
use Rattle.lock_row.specs.declared.names.At.{At}
use Rattle.lock_row.specs.declared.names.At.TheVariants.{Visiting}
use Rattle.lock_row.specs.declared.names.LockNo.{LockNo}
use Rattle.lock_row.specs.declared.names.Step.TheVariants as step
use Rattle.lock_row.specs.declared.names.Trip.{Trip}
use Rattle.mem_account.specs.Counters.{Counters, counted}
use Rattle.mem_account.specs.declared.weight.Weight.{Weight}
use Rattle.mem_account.specs.declared.weight.Weight.TheVariants.{Back}
use Rattle.mem_account.specs.declared.weight.Delta.TheVariants as delta
use Rattle.page_steps.specs.Compactions.{repaid}
use Rattle.page_steps.specs.Nexts.{emptied, ending_by, pin_of, tail_of}
use Rattle.page_steps.specs.Pages.{page_in_cell}
use Rattle.page_steps.specs.Steps.{DiskHeld, Here, on, piece_over, slot}
use Rattle.page_steps.specs.Visits.{Visits, ending_with, lost_page, onward, onward_by, passed_page, put_back, refused_end, trip_at, undoing_by, unmarked, with_block, wrote_page}
use Rattle.slot_entry.specs.Entries.{EntryState, weight_of}
use Rattle.slot_entry.specs.declared.kept.Stored.{Stored}
use Rattle.zr_base.specs.declared.op.OpEnd.{OpEnd}
use Rattle.zr_base.specs.declared.op.OpEnd.TheVariants as ends
use Rattle.zspage.specs.Cells.{CellState, IsStored, UsedCell}
use Rattle.lock_row.specs.declared.names.LockNo.TheVariants as lock
use Rattle.lock_row.specs.declared.names.Held.TheVariants as holds
use Rattle.slot_entry.specs.declared.kept.Kept.TheVariants as kept
use Rattle.page_steps.specs.Visits as visit

-- The visit of a page is over: another page is left, or none.
pub data Onward (g : Begin) (l : Here) (p : Part) (rest : List Part) (y : Trip) (m : Here)
    : Type 0 where
  next : (y.page == g.given.size) ≡ false
      → m ≡ on l (Visiting step.Arriving y) [] None None 0 None None None None
      → Onward g l p rest y m
  last : (y.page == g.given.size) ≡ true
      → m ≡ piece_over l p (Whole (ends.Written y.wrote y.lost)) [] rest → Onward g l p rest y m

-- The giving of the value v, after which the local is m.
pub data VisitEvent (g : Begin) (l : Here) (v : DiskHeld) (m : Here) : Type 0 where
  passes : (p : Part) (rest : List Part) (x : Trip) (e : EntryState) → l.todo ≡ p ∷ rest
      → l.at ≡ Visiting step.Passing x → l.held ≡ (slot x.page, holds.Slot e) ∷ []
      → v ≡ holds.Slot e → Onward g l p rest (passed_page x) m → VisitEvent g l v m
  reserves : (p : Part) (rest : List Part) (x : Trip) (e : EntryState) (y : BlockMap) (b : ℕ)
      → l.todo ≡ p ∷ rest → l.at ≡ Visiting step.Reserving x
      → l.held ≡ (lock.Blocks, holds.Blocks y) ∷ (slot x.page, holds.Slot e) ∷ []
      → AnswersReserve y (Got b) → v ≡ holds.Blocks (reserved y (Got b))
      → m ≡ on l (Visiting step.Seen (with_block x b)) ((slot x.page, holds.Slot e) ∷ []) l.fresh
      l.pin l.owed l.ahead l.behind l.page l.fail
      → VisitEvent g l v m
  refrains : (p : Part) (rest : List Part) (x : Trip) (e : EntryState) (y : BlockMap) (r : Reserve)
      (end : OpEnd) → l.todo ≡ p ∷ rest → l.at ≡ Visiting step.Reserving x
      → l.held ≡ (lock.Blocks, holds.Blocks y) ∷ (slot x.page, holds.Slot e) ∷ []
      → AnswersReserve y r → refused_end r x ≡ Some end → v ≡ holds.Blocks y
      → m ≡ on l (Visiting step.Quitting x) ((slot x.page, holds.Slot e) ∷ []) l.fresh l.pin l.owed
      l.ahead l.behind l.page (Some (Whole end))
      → VisitEvent g l v m
  quits : (p : Part) (rest : List Part) (x : Trip) (e : EntryState) (end : PartEnd)
      → l.todo ≡ p ∷ rest → l.at ≡ Visiting step.Quitting x
      → l.held ≡ (slot x.page, holds.Slot e) ∷ [] → l.fail ≡ Some end → v ≡ holds.Slot e
      → m ≡ piece_over l p end [] rest → VisitEvent g l v m
  pins : (p : Part) (rest : List Part) (x : Trip) (e : EntryState) (o : Stored) (q q' : PoolState)
      (u u' : UsedCell) (cell : CellState) → l.todo ≡ p ∷ rest → l.at ≡ Visiting step.Pinning x
      → l.held ≡ (lock.Class o.class, holds.Class q) ∷ (slot x.page, holds.Slot e) ∷ []
      → e.kept ≡ kept.Obj o → Swaps q q' u u' → u.handle ≡ o.handle.0 → u.out ≡ false
      → u'.out ≡ true → u.cell ≡ cell → IsStored o.handle.0 u.bytes cell → v ≡ holds.Class q'
      → m ≡ on l (Visiting step.Pinned x) ((slot x.page, holds.Slot e) ∷ []) l.fresh
      (Some (pin_of o cell)) l.owed l.ahead l.behind (Some (page_in_cell o cell)) l.fail
      → VisitEvent g l v m
  unpins : (p : Part) (rest : List Part) (x : Trip) (e : EntryState) (o : Stored) (q q' : PoolState)
      (u u' : UsedCell) → l.todo ≡ p ∷ rest → l.at ≡ Visiting step.Unpinning x
      → l.held ≡ (lock.Class o.class, holds.Class q) ∷ (slot x.page, holds.Slot e) ∷ []
      → e.kept ≡ kept.Obj o → Swaps q q' u u' → u.handle ≡ o.handle.0 → u.out ≡ true
      → u'.out ≡ false → v ≡ holds.Class q'
      → m ≡ on l (Visiting step.Marking x) ((slot x.page, holds.Slot e) ∷ []) l.fresh None l.owed
      l.ahead l.behind l.page l.fail
      → VisitEvent g l v m
  marks : (p : Part) (rest : List Part) (x : Trip) (e : EntryState) (b : ℕ) → l.todo ≡ p ∷ rest
      → l.at ≡ Visiting step.Marking x → l.held ≡ (slot x.page, holds.Slot e) ∷ []
      → x.block ≡ Some b → v ≡ holds.Slot (record e { under = Some b })
      → m ≡ on l (Visiting step.Flying x) [] l.fresh l.pin l.owed l.ahead l.behind l.page l.fail
      → VisitEvent g l v m
  stores : (p : Part) (rest : List Part) (x : Trip) (b : ℕ) (page : List ℕ) (d d' : DeviceState)
      → l.todo ≡ p ∷ rest → l.at ≡ Visiting step.Storing x
      → l.held ≡ (lock.Device, holds.Device d) ∷ [] → x.block ≡ Some b → l.page ≡ Some page
      → WritesBlock d d' b page → v ≡ holds.Device d'
      → m ≡ on l (Visiting step.Landing x) [] l.fresh l.pin l.owed l.ahead l.behind l.page l.fail
      → VisitEvent g l v m
  spoils : (p : Part) (rest : List Part) (x : Trip) (b : ℕ) (d d' : DeviceState) (fault : ℕ)
      → l.todo ≡ p ∷ rest → l.at ≡ Visiting step.Storing x
      → l.held ≡ (lock.Device, holds.Device d) ∷ [] → x.block ≡ Some b → FailsToWrite d d' b fault
      → v ≡ holds.Device d'
      → m ≡ on l (Visiting step.Landing x) [] l.fresh l.pin l.owed l.ahead l.behind l.page
      (Some (Whole (ends.WriteEio fault x.wrote x.lost)))
      → VisitEvent g l v m
  frees : (p : Part) (rest : List Part) (x : Trip) (e : EntryState) (o : Stored) (q q' : PoolState)
      (u : UsedCell) (frames : ℕ) → l.todo ≡ p ∷ rest → l.at ≡ Visiting step.Freeing x
      → l.held ≡ (lock.Class o.class, holds.Class q) ∷ (slot x.page, holds.Slot e) ∷ []
      → e.kept ≡ kept.Obj o → GivesUp q q' u frames → u.handle ≡ o.handle.0 → u.out ≡ false
      → v ≡ holds.Class q'
      → m ≡ on l (Visiting step.Backing x) ((slot x.page, holds.Slot (emptied e)) ∷ []) l.fresh
      l.pin frames (Some (weight_of e.kept)) l.behind l.page l.fail
      → VisitEvent g l v m
  commits : (p : Part) (rest : List Part) (x : Trip) (e : EntryState) (b : ℕ) (y : BlockMap)
      → l.todo ≡ p ∷ rest → l.at ≡ Visiting step.Committing x
      → l.held ≡ (lock.Blocks, holds.Blocks y) ∷ (slot x.page, holds.Slot e) ∷ []
      → x.block ≡ Some b → v ≡ holds.Blocks (with_state y b Owned)
      → m ≡ on l (Visiting step.Owing x) ((slot x.page, holds.Slot e) ∷ []) l.fresh l.pin l.owed
      l.ahead l.behind l.page l.fail
      → VisitEvent g l v m
  pays : (p : Part) (rest : List Part) (x : Trip) (e : EntryState) (c : Counters) (was : Weight)
      → l.todo ≡ p ∷ rest → l.at ≡ Visiting step.Paying x
      → l.held ≡ (lock.Account, holds.Account c) ∷ (slot x.page, holds.Slot e) ∷ []
      → l.ahead ≡ Some was → v ≡ holds.Account (counted (repaid c l.owed) (delta.Kept was Back))
      → m ≡ on l (Visiting step.Putting x) ((slot x.page, holds.Slot e) ∷ []) l.fresh l.pin 0
      (Some Back) (Some (weight_of e.kept)) l.page l.fail
      → VisitEvent g l v m
  puts : (p : Part) (rest : List Part) (x : Trip) (e : EntryState) (b : ℕ) → l.todo ≡ p ∷ rest
      → l.at ≡ Visiting step.Putting x → l.held ≡ (slot x.page, holds.Slot e) ∷ []
      → x.block ≡ Some b → v ≡ holds.Slot (put_back b e) → Onward g l p rest (wrote_page x) m
      → VisitEvent g l v m
  loses : (p : Part) (rest : List Part) (x : Trip) (e : EntryState) → l.todo ≡ p ∷ rest
      → l.at ≡ Visiting step.Losing x → l.held ≡ (slot x.page, holds.Slot e) ∷ []
      → v ≡ holds.Slot (unmarked x.block e)
      → m ≡ on l (Visiting step.Undoing x) [] l.fresh l.pin l.owed l.ahead l.behind None l.fail
      → VisitEvent g l v m
  -- the block is freed, and the page is lost
  releases : (p : Part) (rest : List Part) (x : Trip) (b : ℕ) (y : BlockMap) → l.todo ≡ p ∷ rest
      → l.at ≡ Visiting step.Releasing x → l.held ≡ (lock.Blocks, holds.Blocks y) ∷ []
      → x.block ≡ Some b → l.fail ≡ None → v ≡ holds.Blocks (with_state y b Free)
      → Onward g l p rest (lost_page x) m → VisitEvent g l v m
  -- or the writeback is over
  stops : (p : Part) (rest : List Part) (x : Trip) (b : ℕ) (y : BlockMap) (end : PartEnd)
      → l.todo ≡ p ∷ rest → l.at ≡ Visiting step.Releasing x
      → l.held ≡ (lock.Blocks, holds.Blocks y) ∷ [] → x.block ≡ Some b → l.fail ≡ Some end
      → v ≡ holds.Blocks (with_state y b Free) → m ≡ piece_over l p end [] rest
      → VisitEvent g l v m

module _ (g : Begin) (ok : Known g) (l : Here) (v : DiskHeld) (m : Here) where
  -- the visit of a page is over, where these locks were left
  onward_of : (p : Part) (rest : List Part) (y : Trip) → l.todo ≡ p ∷ rest → tail_of l.held ≡ []
      → (last_one : Bool) → (y.page == g.given.size) ≡ last_one → m ≡ onward_by y last_one l v
      → Onward g l p rest y m
  onward_of p rest y todo left true on m_is =
      last on (m_is ∙ ap (ending_by l (Whole (ends.Written y.wrote y.lost)) (λ q. [])) todo)
  onward_of p rest y todo left false off m_is =
      next off (m_is ∙ ap (λ (h : List (LockNo × DiskHeld)). on l (Visiting step.Arriving y) h None None 0
      None None None None) left)

  undone : (p : Part) (rest : List Part) (x : Trip) (b : ℕ) (y : BlockMap) → l.todo ≡ p ∷ rest
      → l.at ≡ Visiting step.Releasing x → l.held ≡ (lock.Blocks, holds.Blocks y) ∷ []
      → x.block ≡ Some b → v ≡ holds.Blocks (with_state y b Free) → (fail : Option PartEnd)
      → l.fail ≡ fail → m ≡ undoing_by g.given.size fail l v → VisitEvent g l v m
  undone p rest x b y todo at held block v_is None well m_is =
      releases p rest x b y todo at held block well v_is
      (onward_of p rest (lost_page x) todo (ap tail_of held) _ refl
      (m_is ∙ ap (λ (s : At). onward g.given.size (lost_page (trip_at s)) l v) at))
  undone p rest x b y todo at held block v_is (Some end) bad m_is =
      stops p rest x b y end todo at held block bad v_is
      (m_is ∙ ap (ending_by l end (λ q. [])) todo)

  pub visit_of : Visits (terms g) l v m → VisitEvent g l v m
  visit_of (visit.passes p rest x e todo at held v_is m_is) =
      passes p rest x e todo at held v_is
      (onward_of p rest (passed_page x) todo (ap tail_of held) _ refl
      (m_is ∙ ap (λ (s : At). onward g.given.size (passed_page (trip_at s)) l v) at))
  visit_of (visit.reserves p rest x e y b todo at held answer v_is m_is) =
      reserves p rest x e y b todo at held answer v_is
      (m_is ∙ (λ i. on l (Visiting step.Seen (with_block (trip_at (at i)) b)) (tail_of (held i))
      l.fresh l.pin l.owed l.ahead l.behind l.page l.fail))
  visit_of (visit.refrains p rest x e y r end todo at held answer is v_is m_is) =
      refrains p rest x e y r end todo at held answer is v_is
      (m_is ∙ (λ i. on l (Visiting step.Quitting (trip_at (at i))) (tail_of (held i)) l.fresh l.pin
      l.owed l.ahead l.behind l.page (Some (Whole end))))
  visit_of (visit.quits p rest x e end todo at held bad v_is m_is) =
      quits p rest x e end todo at held bad v_is
      (m_is ∙ ap (ending_with l) bad ∙ ap (ending_by l end (λ q. [])) todo)
  visit_of (visit.pins p rest x e o q q' cell todo at held is d v_is m_is) =
      pins p rest x e o q q' d.object (record d.object { out = true }) cell todo at held is
      (lends_weigh ok.facts q q' o.handle.0 cell d) d.place.handle_is d.home refl d.is d.stored v_is
      (m_is ∙ (λ i. on l (Visiting step.Pinned (trip_at (at i))) (tail_of (held i)) l.fresh
      (Some (pin_of o cell)) l.owed l.ahead l.behind (Some (page_in_cell o cell)) l.fail))
  visit_of (visit.unpins p rest x e o q q' todo at held is d v_is m_is) =
      unpins p rest x e o q q' d.object (record d.object { out = false }) todo at held is
      (returns_weigh ok.facts q q' o.handle.0 d) d.place.handle_is d.lent refl v_is
      (m_is ∙ (λ i. on l (Visiting step.Marking (trip_at (at i))) (tail_of (held i)) l.fresh None
      l.owed l.ahead l.behind l.page l.fail))
  visit_of (visit.marks p rest x e b todo at held block v_is m_is) =
      marks p rest x e b todo at held block v_is
      (m_is ∙ (λ i. on l (Visiting step.Flying (trip_at (at i))) (tail_of (held i)) l.fresh l.pin
      l.owed l.ahead l.behind l.page l.fail))
  visit_of (visit.stores p rest x b page d d' todo at held block is write v_is m_is) =
      stores p rest x b page d d' todo at held block is write v_is
      (m_is ∙ (λ i. on l (Visiting step.Landing (trip_at (at i))) (tail_of (held i)) l.fresh l.pin
      l.owed l.ahead l.behind l.page l.fail))
  visit_of (visit.spoils p rest x b d d' fault todo at held block failed v_is m_is) =
      spoils p rest x b d d' fault todo at held block failed v_is
      (m_is ∙ (λ i. on l (Visiting step.Landing (trip_at (at i))) (tail_of (held i)) l.fresh l.pin
      l.owed l.ahead l.behind l.page
      (Some (Whole (ends.WriteEio fault (trip_at (at i)).wrote (trip_at (at i)).lost)))))
  visit_of (visit.frees p rest x e o q q' frames todo at held is d v_is m_is) =
      frees p rest x e o q q' d.object frames todo at held is
      (drops_weigh ok.facts q q' o.handle.0 frames d) d.place.handle_is d.home v_is
      (m_is ∙ (λ i. on l (Visiting step.Backing (trip_at (at i)))
      ((slot (trip_at (at i)).page, holds.Slot (emptied e)) ∷ []) l.fresh l.pin frames
      (Some (weight_of e.kept)) l.behind l.page l.fail))
  visit_of (visit.commits p rest x e b y todo at held block v_is m_is) =
      commits p rest x e b y todo at held block v_is
      (m_is ∙ (λ i. on l (Visiting step.Owing (trip_at (at i))) (tail_of (held i)) l.fresh l.pin
      l.owed l.ahead l.behind l.page l.fail))
  visit_of (visit.pays p rest x e c was todo at held is v_is m_is) =
      pays p rest x e c was todo at held is v_is
      (m_is ∙ (λ i. on l (Visiting step.Putting (trip_at (at i))) (tail_of (held i)) l.fresh l.pin 0
      (Some Back) (Some (weight_of e.kept)) l.page l.fail))
  visit_of (visit.puts p rest x e b todo at held block v_is m_is) =
      puts p rest x e b todo at held block v_is
      (onward_of p rest (wrote_page x) todo (ap tail_of held) _ refl
      (m_is ∙ ap (λ (s : At). onward g.given.size (wrote_page (trip_at s)) l v) at))
  visit_of (visit.loses p rest x e todo at held v_is m_is) =
      loses p rest x e todo at held v_is
      (m_is ∙ (λ i. on l (Visiting step.Undoing (trip_at (at i))) (tail_of (held i)) l.fresh l.pin
      l.owed l.ahead l.behind None l.fail))
  visit_of (visit.releases p rest x b y todo at held block v_is m_is) =
      undone p rest x b y todo at held block v_is l.fail refl m_is
