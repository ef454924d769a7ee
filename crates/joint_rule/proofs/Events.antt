-- The givings of an actor, by what they do to sums over pools.
use Rattle.joint_rule.proofs.Visits.{VisitEvent, visit_of}
use Rattle.std.proofs.Common.{◌≡◌, ◌∷◌, ◌∙◌, ◌==◌, ◌⊎◌, ℕ, suc, Bool, true, false, List, [], Option, Some, None, refl, ap, subst, ◌+◌}
use Rattle.zr_base.specs.declared.op.Op.TheVariants.{Idle}
use Rattle.lock_row.specs.declared.names.Scan.{Scan}
use Rattle.page_steps.specs.Scans.{Marks, marking_by, scan_at, with_page}
use Rattle.backing_dev.specs.Dev.{DeviceState, FailsToRead, ReadsBlock}
use Rattle.bdi_page.specs.Packing.{IsPage}
use Rattle.block_map.specs.BlockMap.{BlockMap, with_state}
use Rattle.block_map.specs.declared.state.BlockState.TheVariants.{Free}
use Rattle.call_history.specs.Parts.{is_read}
use Rattle.call_history.specs.Shows.{got_from, tag_by}
use Rattle.call_history.specs.declared.part.Part.{Part}
use Rattle.call_history.specs.declared.part.PartEnd.{PartEnd}
use Rattle.call_history.specs.declared.part.PartEnd.TheVariants.{AtLimit, Carried, Eio, NoMemory, Whole}
use Rattle.class_pool.specs.Pool.{PoolState}
use Rattle.class_pool.specs.Rows.{rows}
use Rattle.joint_rule.proofs.Facts.{Known}
use Rattle.joint_rule.proofs.Pools.{Allocates, GivesUp, Shifts, Swaps, adds_weigh, drops_weigh, lends_weigh, moves_weigh, returns_weigh, some_cell}
use Rattle.joint_rule.proofs.Zspages.{used_with}
use Rattle.joint_rule.specs.Begins.{Begin, terms}
use Rattle.joint_rule.specs.Facts.{Facts}
use Rattle.joint_rule.specs.Joint.{Sound}
use Rattle.joint_rule.specs.Weights.{HeldAll, used_each}
use Rattle.lock_row.specs.declared.names.At.{At}
use Rattle.lock_row.specs.declared.names.At.TheVariants.{Both, Counting, Failing, Fetching, Freeing, Giving, Leaving, Made, Missed, Owing, Pinning, Ready, Refusing, Releasing, Unpinning, Sweeping, Moving, Shrinking, Scanning, Marking}
use Rattle.lock_row.specs.declared.names.Compaction.{Compaction}
use Rattle.lock_row.specs.declared.names.Pin.{Pin}
use Rattle.mem_account.specs.Counters.{Counters, IsPastLimit, IsWithinLimit, charged, counted}
use Rattle.page_steps.specs.Compactions.{Compacts, MovesOne, budget_in, compaction_at, moved_at, repaid, resting_by, with_frames, with_move, with_next}
use Rattle.page_steps.specs.Givings.{Notes, Works, fails_by, kept_by, old_weight, settled}
use Rattle.page_steps.specs.Nexts.{emptied, ending_by, failing_by, fetch_at, pin_at, pin_of, slot_by, tail_of}
use Rattle.page_steps.specs.Pages.{next_form, page_in, page_in_cell}
use Rattle.page_steps.specs.Pools.{DropsPinned, IsNeed, ReturnsBy}
use Rattle.page_steps.specs.Steps.{DiskHeld, Here, entry_in, fetched_at, on, piece_over, pinned_at, quit_at, settle_at, slot}
use Rattle.slot_entry.specs.Entries.{EntryState, weight_of, is_new_mark, marked}
use Rattle.slot_entry.specs.Forms.{Pooled, form_weight, object_class}
use Rattle.slot_entry.specs.declared.kept.Stored.{Stored}
use Rattle.zs_plan.specs.Plan.{HasNoPlan}
use Rattle.zspage.specs.Cells.{CellState, IsStored, UsedCell}
use Rattle.lock_row.specs.declared.names.LockNo.TheVariants as lock
use Rattle.lock_row.specs.declared.names.Held.TheVariants as holds
use Rattle.slot_entry.specs.declared.kept.Kept.TheVariants as kept
use Rattle.mem_account.specs.declared.weight.Delta.TheVariants as delta
use Rattle.zr_base.specs.declared.op.OpEnd.TheVariants as ends
use Rattle.page_steps.specs.Givings as work
use Rattle.page_steps.specs.Compactions as compact
use Rattle.page_steps.specs.Scans as scan

-- The pinned cell, if there is one, is back.
abbrev pub BackBy : Option Pin → PoolState → PoolState → Type 0
BackBy None p q = q ≡ p
BackBy (Some x) p q = (u : UsedCell) × (v : UsedCell) × Swaps p q u v × (u.handle ≡ x.handle)
    × (u.out ≡ true) × (v.out ≡ false)

-- The object is unpinned where it was pinned, and gone.
pub record FreesPinned (pin : Option Pin) (p q : PoolState) (handle frames : ℕ) : Type 0 where
  pub between : PoolState
  pub back : BackBy pin p between
  pub object : UsedCell
  pub gone : GivesUp between q object frames
  pub named : object.handle ≡ handle
  pub home : object.out ≡ false

-- as many objects of the class have moved as may, or there is no plan
abbrev pub IsStuck : Compaction → PoolState → Type 0
IsStuck x q = (budget_in x q ≡ 0) ⊎ HasNoPlan q.per (rows q.zspages)

-- The giving of the value v, after which the local is m.
pub data Event (g : Begin) (l : Here) (v : DiskHeld) (m : Here) : Type 0 where
  refuses : (p : Part) (rest : List Part) (c : Counters) → l.todo ≡ p ∷ rest → l.at ≡ Refusing
      → l.held ≡ (lock.Account, holds.Account c) ∷ []
      → v ≡ holds.Account (counted c delta.InvalidIo)
      → m ≡ piece_over l p (Whole ends.Range) [] rest → Event g l v m
  pins : (p : Part) (rest : List Part) (e : EntryState) (o : Stored) (q q' : PoolState)
      (u u' : UsedCell) (cell : CellState) → l.todo ≡ p ∷ rest → l.at ≡ Pinning
      → l.held ≡ (lock.Class o.class, holds.Class q) ∷ (slot p.page, holds.Slot e) ∷ []
      → e.kept ≡ kept.Obj o → Swaps q q' u u' → u.handle ≡ o.handle.0 → u.out ≡ false
      → u'.out ≡ true → u.cell ≡ cell → IsStored o.handle.0 u.bytes cell
      → used_each q'.zspages ≡ used_each q.zspages → v ≡ holds.Class q'
      → m ≡ on l (pinned_at p.op (next_form p (Some (page_in_cell o cell)) e.kept) e.kept)
      ((slot p.page, holds.Slot e) ∷ []) l.fresh (Some (pin_of o cell)) l.owed l.ahead l.behind
      (Some (page_in_cell o cell)) l.fail
      → Event g l v m
  unpins : (p : Part) (rest : List Part) (e : EntryState) (o : Stored) (q q' : PoolState)
      (u u' : UsedCell) → l.todo ≡ p ∷ rest → l.at ≡ Unpinning
      → l.held ≡ (lock.Class o.class, holds.Class q) ∷ (slot p.page, holds.Slot e) ∷ []
      → e.kept ≡ kept.Obj o → Swaps q q' u u' → u.handle ≡ o.handle.0 → u.out ≡ true
      → u'.out ≡ false → used_each q'.zspages ≡ used_each q.zspages → v ≡ holds.Class q'
      → m ≡ on l Leaving ((slot p.page, holds.Slot e) ∷ []) l.fresh None l.owed l.ahead l.behind
      l.page l.fail
      → Event g l v m
  charges : (p : Part) (rest : List Part) (e : EntryState) (c : Counters) (q q' : PoolState)
      (cl h need : ℕ) (bytes : List ℕ) (huge : Bool) → l.todo ≡ p ∷ rest → l.at ≡ Both
      → l.held ≡ (lock.Account, holds.Account c) ∷ (lock.Class cl, holds.Class q)
      ∷ (slot p.page, holds.Slot e) ∷ []
      → next_form p l.page e.kept ≡ Pooled bytes huge → cl ≡ object_class g.chain bytes huge
      → IsWithinLimit c need → Allocates q q' h bytes need → v ≡ holds.Account (charged c need)
      → m ≡ on l Made ((lock.Class cl, holds.Class q') ∷ (slot p.page, holds.Slot e) ∷ [])
      (Some (record { class = cl; handle = h; bytes = bytes })) l.pin l.owed l.ahead l.behind l.page
      l.fail
      → Event g l v m
  limits : (p : Part) (rest : List Part) (e : EntryState) (c : Counters) (q : PoolState)
      (cl need : ℕ) → l.todo ≡ p ∷ rest → l.at ≡ Both
      → l.held ≡ (lock.Account, holds.Account c) ∷ (lock.Class cl, holds.Class q)
      ∷ (slot p.page, holds.Slot e) ∷ []
      → IsNeed q need → IsPastLimit c need → v ≡ holds.Account (counted c delta.FailedWrite)
      → m ≡ on l Made ((lock.Class cl, holds.Class q) ∷ (slot p.page, holds.Slot e) ∷ []) l.fresh
      l.pin l.owed l.ahead l.behind l.page (Some (AtLimit c.pages need c.limit))
      → Event g l v m
  starves : (p : Part) (rest : List Part) (e : EntryState) (c : Counters) (q : PoolState) (cl : ℕ)
      → l.todo ≡ p ∷ rest → l.at ≡ Both
      → l.held ≡ (lock.Account, holds.Account c) ∷ (lock.Class cl, holds.Class q)
      ∷ (slot p.page, holds.Slot e) ∷ []
      → v ≡ holds.Account (counted c delta.FailedWrite)
      → m ≡ on l Made ((lock.Class cl, holds.Class q) ∷ (slot p.page, holds.Slot e) ∷ []) l.fresh
      l.pin l.owed l.ahead l.behind l.page (Some NoMemory)
      → Event g l v m
  stows : (p : Part) (rest : List Part) (e : EntryState) (q : PoolState) (cl : ℕ)
      → l.todo ≡ p ∷ rest → l.at ≡ Made
      → l.held ≡ (lock.Class cl, holds.Class q) ∷ (slot p.page, holds.Slot e) ∷ []
      → l.fail ≡ None → v ≡ holds.Class q
      → m ≡ on l (settle_at e.kept) ((slot p.page, holds.Slot e) ∷ []) l.fresh l.pin l.owed l.ahead
      l.behind l.page l.fail
      → Event g l v m
  quits : (p : Part) (rest : List Part) (e : EntryState) (q : PoolState) (cl : ℕ) (x : PartEnd)
      → l.todo ≡ p ∷ rest → l.at ≡ Made
      → l.held ≡ (lock.Class cl, holds.Class q) ∷ (slot p.page, holds.Slot e) ∷ []
      → l.fail ≡ Some x → v ≡ holds.Class q
      → m ≡ on l (quit_at l.pin) ((slot p.page, holds.Slot e) ∷ []) l.fresh l.pin l.owed l.ahead
      l.behind l.page l.fail
      → Event g l v m
  frees : (p : Part) (rest : List Part) (e : EntryState) (o : Stored) (q q' : PoolState)
      (frames : ℕ) → l.todo ≡ p ∷ rest → l.at ≡ Freeing
      → l.held ≡ (lock.Class o.class, holds.Class q) ∷ (slot p.page, holds.Slot e) ∷ []
      → e.kept ≡ kept.Obj o → FreesPinned l.pin q q' o.handle.0 frames → v ≡ holds.Class q'
      → m ≡ on l Owing ((slot p.page, holds.Slot (emptied e)) ∷ []) l.fresh None frames
      (Some (weight_of e.kept)) l.behind l.page l.fail
      → Event g l v m
  repays : (p : Part) (rest : List Part) (e : EntryState) (c : Counters) → l.todo ≡ p ∷ rest
      → l.at ≡ Giving
      → l.held ≡ (lock.Account, holds.Account c) ∷ (slot p.page, holds.Slot e) ∷ []
      → v ≡ holds.Account (settled p.op l.owed (old_weight l.ahead e.kept)
      (form_weight (next_form p l.page e.kept)) c)
      → m ≡ on l Ready ((slot p.page, holds.Slot e) ∷ []) l.fresh l.pin 0
      (Some (form_weight (next_form p l.page e.kept))) (Some (weight_of e.kept)) l.page l.fail
      → Event g l v m
  puts : (p : Part) (rest : List Part) (e f : EntryState) → l.todo ≡ p ∷ rest → l.at ≡ Ready
      → l.held ≡ (slot p.page, holds.Slot e) ∷ []
      → Notes g.clock e f (kept_by (next_form p l.page e.kept) l.fresh) (tag_by l.actor p)
      → v ≡ holds.Slot f → m ≡ piece_over l p Carried [] rest → Event g l v m
  reads : (p : Part) (rest : List Part) (e f : EntryState) → l.todo ≡ p ∷ rest → l.at ≡ Leaving
      → l.held ≡ (slot p.page, holds.Slot e) ∷ [] → l.fail ≡ None
      → Notes g.clock e f e.kept (tag_by l.actor p) → v ≡ holds.Slot f
      → m ≡ piece_over l p Carried (got_from (page_in l.page e.kept) p) rest → Event g l v m
  fails : (p : Part) (rest : List Part) (e : EntryState) (x : PartEnd) → l.todo ≡ p ∷ rest
      → l.at ≡ Leaving
      → l.held ≡ (slot p.page, holds.Slot e) ∷ [] → l.fail ≡ Some x → v ≡ holds.Slot e
      → m ≡ piece_over l p x [] rest → Event g l v m
  -- the page is read from its block
  fetches : (p : Part) (rest : List Part) (e : EntryState) (b : ℕ) (d d' : DeviceState)
      (page : List ℕ) → l.todo ≡ p ∷ rest → l.at ≡ Fetching
      → l.held ≡ (lock.Device, holds.Device d) ∷ (slot p.page, holds.Slot e) ∷ []
      → e.kept ≡ kept.Wb b → ReadsBlock d d' b page → IsPage page → v ≡ holds.Device d'
      → m ≡ on l (fetched_at p.op (next_form p (Some page) e.kept) e.kept)
      ((slot p.page, holds.Slot e) ∷ []) l.fresh l.pin l.owed l.ahead l.behind (Some page) l.fail
      → Event g l v m
  -- or the device fails
  misses : (p : Part) (rest : List Part) (e : EntryState) (b : ℕ) (d d' : DeviceState) (fault : ℕ)
      → l.todo ≡ p ∷ rest → l.at ≡ Fetching
      → l.held ≡ (lock.Device, holds.Device d) ∷ (slot p.page, holds.Slot e) ∷ []
      → e.kept ≡ kept.Wb b → FailsToRead d d' fault → v ≡ holds.Device d'
      → m ≡ on l Failing ((slot p.page, holds.Slot e) ∷ []) l.fresh l.pin l.owed l.ahead l.behind
      l.page (Some (Eio fault))
      → Event g l v m
  -- that is counted
  counts : (p : Part) (rest : List Part) (e : EntryState) (c : Counters) → l.todo ≡ p ∷ rest
      → l.at ≡ Counting → l.held ≡ (lock.Account, holds.Account c) ∷ (slot p.page, holds.Slot e) ∷ []
      → v ≡ holds.Account (fails_by p.op c)
      → m ≡ on l Missed ((slot p.page, holds.Slot e) ∷ []) l.fresh l.pin l.owed l.ahead l.behind
      l.page l.fail
      → Event g l v m
  -- a read of which the device failed is noted
  errs : (p : Part) (rest : List Part) (e f : EntryState) (x : PartEnd) → l.todo ≡ p ∷ rest
      → l.at ≡ Missed → l.held ≡ (slot p.page, holds.Slot e) ∷ [] → l.fail ≡ Some x
      → is_read p.op ≡ true → Notes g.clock e f e.kept (tag_by l.actor p) → v ≡ holds.Slot f
      → m ≡ piece_over l p x [] rest → Event g l v m
  -- a write of which it failed isn't
  leaves : (p : Part) (rest : List Part) (e : EntryState) (x : PartEnd) → l.todo ≡ p ∷ rest
      → l.at ≡ Missed → l.held ≡ (slot p.page, holds.Slot e) ∷ [] → l.fail ≡ Some x
      → is_read p.op ≡ false → v ≡ holds.Slot e → m ≡ piece_over l p x [] rest → Event g l v m
  -- the page's block is freed
  releases : (p : Part) (rest : List Part) (e : EntryState) (b : ℕ) (x : BlockMap)
      → l.todo ≡ p ∷ rest → l.at ≡ Releasing
      → l.held ≡ (lock.Blocks, holds.Blocks x) ∷ (slot p.page, holds.Slot e) ∷ []
      → e.kept ≡ kept.Wb b → v ≡ holds.Blocks (with_state x b Free)
      → m ≡ on l Owing ((slot p.page, holds.Slot (emptied e)) ∷ []) l.fresh None 0
      (Some (weight_of e.kept)) l.behind l.page l.fail
      → Event g l v m
  -- a scan marks a page where it may be, and goes on to the next page
  scans : (p : Part) (rest : List Part) (age : Option ℕ) (x : Scan) (e : EntryState)
      → l.todo ≡ p ∷ rest → p.op ≡ Idle age → l.at ≡ Marking x
      → l.held ≡ (slot x.page, holds.Slot e) ∷ [] → ((x.page + 1) == g.given.size) ≡ false
      → v ≡ holds.Slot (marked g.clock age e)
      → m ≡ on l (Scanning (with_page x (is_new_mark g.clock age e))) [] l.fresh l.pin l.owed l.ahead
      l.behind l.page l.fail
      → Event g l v m
  -- or there is none
  stops : (p : Part) (rest : List Part) (age : Option ℕ) (x : Scan) (e : EntryState)
      → l.todo ≡ p ∷ rest → p.op ≡ Idle age → l.at ≡ Marking x
      → l.held ≡ (slot x.page, holds.Slot e) ∷ [] → ((x.page + 1) == g.given.size) ≡ true
      → v ≡ holds.Slot (marked g.clock age e)
      → m ≡ piece_over l p (Whole (ends.Marked (with_page x (is_new_mark g.clock age e)).marked)) []
      rest
      → Event g l v m
  -- a compaction moves an object
  moves : (p : Part) (rest : List Part) (x : Compaction) (q q' : PoolState) (u u' : UsedCell)
      (budget frames : ℕ) → l.todo ≡ p ∷ rest → l.at ≡ Moving x
      → l.held ≡ (lock.Class x.class, holds.Class q) ∷ [] → Shifts q q' u u' frames
      → budget_in x q ≡ suc budget → MovesOne q q' frames → v ≡ holds.Class q'
      → m ≡ on l (moved_at frames (with_move x budget)) [] l.fresh l.pin frames l.ahead l.behind
      l.page l.fail
      → Event g l v m
  -- it moves nothing, and goes on to the next class
  sweeps : (p : Part) (rest : List Part) (x : Compaction) (q : PoolState) → l.todo ≡ p ∷ rest
      → l.at ≡ Moving x → l.held ≡ (lock.Class x.class, holds.Class q) ∷ [] → IsStuck x q
      → (x.class == 254) ≡ false → v ≡ holds.Class q
      → m ≡ on l (Sweeping (with_next g.chain x)) [] l.fresh l.pin l.owed l.ahead l.behind l.page
      l.fail
      → Event g l v m
  -- or there is none
  closes : (p : Part) (rest : List Part) (x : Compaction) (q : PoolState) → l.todo ≡ p ∷ rest
      → l.at ≡ Moving x → l.held ≡ (lock.Class x.class, holds.Class q) ∷ [] → IsStuck x q
      → (x.class == 254) ≡ true → v ≡ holds.Class q
      → m ≡ piece_over l p (Whole (ends.Compacted x.moves x.frames)) [] rest → Event g l v m
  -- it gives frames back
  shrinks : (p : Part) (rest : List Part) (x : Compaction) (c : Counters) → l.todo ≡ p ∷ rest
      → l.at ≡ Shrinking x → l.held ≡ (lock.Account, holds.Account c) ∷ []
      → v ≡ holds.Account (counted (repaid c l.owed) (delta.Compacted l.owed))
      → m ≡ on l (Sweeping (with_frames x l.owed)) [] l.fresh l.pin 0 l.ahead l.behind l.page l.fail
      → Event g l v m
  -- it is a giving of a writeback
  visits : VisitEvent g l v m → Event g l v m

module _ (facts : Facts) where
  back_by : (pin : Option Pin) (p q : PoolState) → ReturnsBy pin p q → BackBy pin p q
  back_by None p q r = r
  back_by (Some x) p q r = (
    r.object,
    record r.object { out = false },
    returns_weigh facts p q x.handle r,
    r.place.handle_is,
    r.lent,
    refl,
  )

  frees_pinned : (pin : Option Pin) (p q : PoolState) (h n : ℕ) → DropsPinned pin p q h n
      → FreesPinned pin p q h n
  frees_pinned pin p q h n d = record {
    between = d.between;
    back = back_by pin p d.between d.back;
    object = d.drops.object;
    gone = drops_weigh facts d.between q h n d.drops;
    named = d.drops.place.handle_is;
    home = d.drops.home;
  }

module _ (g : Begin) (ok : Known g) (l : Here) (sound : HeldAll g.given.size (Sound g) l.held)
    (v : DiskHeld) (m : Here) where
  -- a class has nothing to move
  rest_of : (p : Part) (rest : List Part) (x : Compaction) (q : PoolState) → l.todo ≡ p ∷ rest
      → l.at ≡ Moving x → l.held ≡ (lock.Class x.class, holds.Class q) ∷ [] → IsStuck x q
      → v ≡ holds.Class q → (last : Bool) → (x.class == 254) ≡ last
      → m ≡ resting_by g.chain x last l v → Event g l v m
  rest_of p rest x q todo at held stuck v_is true last m_is =
      closes p rest x q todo at held stuck last v_is
      (m_is ∙ ap (ending_by l (Whole (ends.Compacted x.moves x.frames)) (λ q. [])) todo)
  rest_of p rest x q todo at held stuck v_is false other m_is =
      sweeps p rest x q todo at held stuck other v_is
      (m_is ∙ (λ i. on l (Sweeping (with_next g.chain x)) (tail_of (held i)) l.fresh l.pin l.owed
      l.ahead l.behind l.page l.fail))

  -- a page was scanned
  scanned : (p : Part) (rest : List Part) (age : Option ℕ) (x : Scan) (e : EntryState)
      → l.todo ≡ p ∷ rest → p.op ≡ Idle age → l.at ≡ Marking x
      → l.held ≡ (slot x.page, holds.Slot e) ∷ [] → v ≡ holds.Slot (marked g.clock age e)
      → (last : Bool) → ((x.page + 1) == g.given.size) ≡ last
      → m ≡ marking_by (with_page x (is_new_mark g.clock age e)) last l v → Event g l v m
  scanned p rest age x e todo op at held v_is true last m_is =
      stops p rest age x e todo op at held last v_is
      (m_is ∙ ap (ending_by l (Whole (ends.Marked (with_page x (is_new_mark g.clock age e)).marked))
      (λ q. [])) todo)
  scanned p rest age x e todo op at held v_is false other m_is =
      scans p rest age x e todo op at held other v_is
      (m_is ∙ (λ i. on l (Scanning (with_page x (is_new_mark g.clock age e))) (tail_of (held i))
      l.fresh l.pin l.owed l.ahead l.behind l.page l.fail))

  scan_of : Marks (terms g) l v m → Event g l v m
  scan_of (scan.scans p rest age x e todo op at held v_is m_is) =
      scanned p rest age x e todo op at held v_is ((x.page + 1) == g.given.size) refl
      (m_is ∙ ap (λ (s : At). marking_by (with_page (scan_at s) (is_new_mark g.clock age e))
      (((scan_at s).page + 1) == g.given.size) l v) at)

  compact_of : Compacts (terms g) l v m → Event g l v m
  compact_of (compact.moves p rest x q q' budget frames todo at held some d v_is m_is) =
      moves p rest x q q' d.move.object _ budget frames todo at held
      (moves_weigh ok.facts q q' frames d) some d v_is
      (m_is ∙ (λ i. on l (moved_at frames (with_move (compaction_at (at i)) budget))
      (tail_of (held i)) l.fresh l.pin frames l.ahead l.behind l.page l.fail))
  compact_of (compact.rests p rest x q todo at held nothing v_is m_is) =
      rest_of p rest x q todo at held nothing v_is (x.class == 254) refl
      (m_is ∙ ap (λ (s : At). resting_by g.chain (compaction_at s) ((compaction_at s).class == 254) l
      v) at)
  compact_of (compact.shrinks p rest x c todo at held v_is m_is) =
      shrinks p rest x c todo at held v_is
      (m_is ∙ (λ i. on l (Sweeping (with_frames (compaction_at (at i)) l.owed)) (tail_of (held i))
      l.fresh l.pin 0 l.ahead l.behind l.page l.fail))

  -- what the step of a giving says of pools
  pub event_of : Works (terms g) l v m → Event g l v m
  event_of (work.refuses p rest c todo at held v_is m_is) =
      refuses p rest c todo at held v_is
      (m_is ∙ ap (ending_by l (Whole ends.Range) (λ q. [])) todo)
  event_of (work.pins p rest e o q q' cell todo at held is d v_is m_is) =
      pins p rest e o q q' d.object (record d.object { out = true }) cell todo at held is
      (lends_weigh ok.facts q q' o.handle.0 cell d) d.place.handle_is d.home refl d.is d.stored
      (used_with q q' o.handle.0 d.id d.ix d.cells d.object (record d.object { out = true }) d.place
      d.after) v_is
      (m_is ∙ (λ i. on l (pin_at (todo i) (page_in_cell o cell) (entry_in (held i)).kept)
      (tail_of (held i)) l.fresh (Some (pin_of o cell)) l.owed l.ahead l.behind
      (Some (page_in_cell o cell)) l.fail))
  event_of (work.unpins p rest e o q q' todo at held is d v_is m_is) =
      unpins p rest e o q q' d.object (record d.object { out = false }) todo at held is
      (returns_weigh ok.facts q q' o.handle.0 d) d.place.handle_is d.lent refl
      (used_with q q' o.handle.0 d.id d.ix d.cells d.object (record d.object { out = false }) d.place
      d.after) v_is
      (m_is ∙ (λ i. on l Leaving (tail_of (held i)) l.fresh None l.owed l.ahead l.behind l.page
      l.fail))
  event_of (work.charges p rest e c q q' cl h need bytes huge todo at held form class within a v_is
      m_is) =
      let fits = (subst (HeldAll g.given.size (Sound g)) held sound).1.0.1 in
      charges p rest e c q q' cl h need bytes huge todo at held form class within
      (adds_weigh ok.facts q q' h bytes need (some_cell g.chain q fits) a) v_is
      (m_is ∙ (λ i. on l Made ((lock.Class cl, holds.Class q') ∷ slot_by (todo i)
      (entry_in (held i)))
      (Some (record { class = cl; handle = h; bytes = bytes })) l.pin l.owed l.ahead l.behind l.page
      l.fail))
  event_of (work.limits p rest e c q cl need todo at held is past v_is m_is) =
      limits p rest e c q cl need todo at held is past v_is
      (m_is ∙ (λ i. on l Made (tail_of (held i)) l.fresh l.pin l.owed l.ahead l.behind l.page
      (Some (AtLimit c.pages need c.limit))))
  event_of (work.starves p rest e c q cl todo at held full within v_is m_is) =
      starves p rest e c q cl todo at held v_is
      (m_is ∙ (λ i. on l Made (tail_of (held i)) l.fresh l.pin l.owed l.ahead l.behind l.page
      (Some NoMemory)))
  event_of (work.stows p rest e q cl todo at held well v_is m_is) =
      stows p rest e q cl todo at held well v_is
      (m_is ∙ (λ i. on l (settle_at (entry_in (held i)).kept)
      (tail_of (held i)) l.fresh l.pin l.owed
      l.ahead l.behind l.page l.fail))
  event_of (work.quits p rest e q cl x todo at held bad v_is m_is) =
      quits p rest e q cl x todo at held bad v_is
      (m_is ∙ (λ i. on l (quit_at l.pin) (tail_of (held i)) l.fresh l.pin l.owed l.ahead l.behind
      l.page l.fail))
  event_of (work.frees p rest e o q q' frames todo at held is d v_is m_is) =
      frees p rest e o q q' frames todo at held is
      (frees_pinned ok.facts l.pin q q' o.handle.0 frames d) v_is
      (m_is ∙ (λ i. on l Owing (slot_by (todo i) (emptied (entry_in (held i)))) l.fresh None frames
      (Some (weight_of (entry_in (held i)).kept)) l.behind l.page l.fail))
  event_of (work.repays p rest e c todo at held v_is m_is) =
      repays p rest e c todo at held v_is
      (m_is ∙ (λ i. on l Ready (tail_of (held i)) l.fresh l.pin 0
      (Some (form_weight (next_form p l.page e.kept))) (Some (weight_of (entry_in (held i)).kept))
      l.page l.fail))
  event_of (work.puts p rest e f todo at held notes v_is m_is) =
      puts p rest e f todo at held notes v_is (m_is ∙ ap (ending_by l Carried (λ q. [])) todo)
  event_of (work.reads p rest e f todo at held well notes v_is m_is) =
      reads p rest e f todo at held well notes v_is
      (m_is ∙ (λ i. ending_by l Carried
      (λ q. got_from (page_in l.page (entry_in (held i)).kept) q) (todo i)))
  event_of (work.fails p rest e x todo at held bad v_is m_is) =
      fails p rest e x todo at held bad v_is
      (m_is ∙ ap (failing_by l) bad ∙ ap (ending_by l x (λ q. [])) todo)
  event_of (work.fetches p rest e b d d' page todo at held is read is_page v_is m_is) =
      fetches p rest e b d d' page todo at held is read is_page v_is
      (m_is ∙ (λ i. on l (fetch_at (todo i) page (entry_in (held i)).kept) (tail_of (held i)) l.fresh
      l.pin l.owed l.ahead l.behind (Some page) l.fail))
  event_of (work.misses p rest e b d d' fault todo at held is failed v_is m_is) =
      misses p rest e b d d' fault todo at held is failed v_is
      (m_is ∙ (λ i. on l Failing (tail_of (held i)) l.fresh l.pin l.owed l.ahead l.behind l.page
      (Some (Eio fault))))
  event_of (work.counts p rest e c todo at held v_is m_is) =
      counts p rest e c todo at held v_is
      (m_is ∙ (λ i. on l Missed (tail_of (held i)) l.fresh l.pin l.owed l.ahead l.behind l.page
      l.fail))
  event_of (work.errs p rest e f x todo at held bad a_read notes v_is m_is) =
      errs p rest e f x todo at held bad a_read notes v_is
      (m_is ∙ ap (failing_by l) bad ∙ ap (ending_by l x (λ q. [])) todo)
  event_of (work.leaves p rest e x todo at held bad other v_is m_is) =
      leaves p rest e x todo at held bad other v_is
      (m_is ∙ ap (failing_by l) bad ∙ ap (ending_by l x (λ q. [])) todo)
  event_of (work.releases p rest e b x todo at held is v_is m_is) =
      releases p rest e b x todo at held is v_is
      (m_is ∙ (λ i. on l Owing (slot_by (todo i) (emptied (entry_in (held i)))) l.fresh None 0
      (Some (weight_of (entry_in (held i)).kept)) l.behind l.page l.fail))
  event_of (work.marks c) = scan_of c
  event_of (work.visits c) = visits (visit_of g ok l v m c)
  event_of (work.compacts c) = compact_of c
