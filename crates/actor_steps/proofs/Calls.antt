-- The turns of a call are those of its kind.
use Rattle.std.proofs.Common.{◌≡◌, ℕ, ◌||◌, [], refl, ap, ◌∙◌, subst}
use Rattle.zr_base.specs.Plain.{is_beyond}
use Rattle.plain_disk.specs.Ends.{is_single}
use Rattle.lock_row.specs.declared.names.LockNo.{LockNo}
use Rattle.page_steps.specs.declared.call.PageCall.{PageCall}
use Rattle.page_steps.specs.declared.stage.Head.{Head}
use Rattle.page_steps.specs.declared.stage.Scratch.{Scratch}
use Rattle.page_steps.specs.declared.stage.Stage.{Stage}
use Rattle.page_steps.specs.declared.stage.Progress.{Progress}
use Rattle.page_steps.specs.declared.stage.Progress.TheVariants as progress
use Rattle.page_steps.specs.Steps.{DiskHeld, Here, plan}
use Rattle.page_steps.specs.Nexts.{Next}
use Rattle.page_steps.specs.Calls.{Frame, got_of}
use Rattle.page_steps.specs.Calls.{here as page_here, next_event as page_event, IsWork as IsPageWork, IsFit as IsPageFit, IsGoing as IsPageGoing}
use Rattle.page_steps.specs.Turns.{Turned}
use Rattle.page_steps.specs.Turns.{Allows as PageAllows, after as after_page, Advanced as PageAdvanced}
use Rattle.post_steps.specs.declared.compact.CompactCall.{CompactCall}
use Rattle.post_steps.specs.declared.compact.CompactStage.{CompactStage}
use Rattle.post_steps.specs.Compact.{here as compact_here, next_event as compact_event, IsWork as IsCompactWork, IsGoing as IsCompactGoing}
use Rattle.post_steps.specs.declared.idle.IdleCall.{IdleCall}
use Rattle.post_steps.specs.declared.idle.IdleHead.{IdleHead}
use Rattle.post_steps.specs.declared.idle.IdleStage.{IdleStage}
use Rattle.post_steps.specs.Idle.{here as idle_here, next_event as idle_event, IsWork as IsIdleWork, IsGoing as IsIdleGoing}
use Rattle.post_steps.specs.declared.writeback.WritebackCall.{WritebackCall}
use Rattle.post_steps.specs.declared.writeback.WritebackHead.{WritebackHead}
use Rattle.post_steps.specs.declared.writeback.WritebackStage.{WritebackStage}
use Rattle.post_steps.specs.Writeback.{here as writeback_here, next_event as writeback_event, IsWork as IsWritebackWork, IsFit as IsWritebackFit, IsGoing as IsWritebackGoing}
use Rattle.post_steps.specs.Turns.{Allows, after as after_alone, Advanced as AloneAdvanced}
use Rattle.actor_steps.specs.declared.call.Call.{Call}
use Rattle.actor_steps.specs.declared.call.Call.TheVariants as call
use Rattle.actor_steps.specs.Calls.{Does, local, next_event, IsFit, IsGoing, is_alone, after, Advanced}

-- ---- plans

-- what a page's call does next is what its actor's plan says
abbrev pub PagePlans : Type 0 → Type 0
PagePlans D = (c : Head) (r : Scratch) (s : Stage D) (x : Frame) → IsPageFit c r s → IsPageGoing s
    → IsPageWork c r x → plan x.terms (page_here x r s) ≡ page_event c s

-- and so for a compaction
abbrev pub CompactPlans : Type 0
CompactPlans = (chain : ℕ) (s : CompactStage) (x : Frame) → IsCompactGoing s → IsCompactWork chain x
    → plan x.terms (compact_here x s) ≡ compact_event s

-- and for a call that marks pages
abbrev pub ScanPlans : Type 0
ScanPlans = (c : IdleHead) (s : IdleStage) (x : Frame) → IsIdleGoing s → IsIdleWork c x
    → plan x.terms (idle_here x s) ≡ idle_event s

-- and for a writeback
abbrev pub VisitPlans : Type 0 → Type 0
VisitPlans D = (c : WritebackHead) (r : Scratch) (s : WritebackStage D) (x : Frame)
    → IsWritebackFit c s → IsWritebackGoing s → IsWritebackWork c x
    → plan x.terms (writeback_here x r s) ≡ writeback_event s

pub plan_is : {D : Type 0} → PagePlans D → CompactPlans → ScanPlans → VisitPlans D → (c : Call D)
    (r : Scratch) (x : Frame) → IsFit c r → IsGoing c → Does c r x → plan x.terms (local c r x) ≡ next_event c
plan_is pages compacts scans visits (call.Page c) r x fit on does = pages c.head r c.stage x fit on does
plan_is pages compacts scans visits (call.Idle c) r x fit on does = scans c.head c.stage x on does
plan_is pages compacts scans visits (call.Writeback c) r x fit on does =
    visits c.head r c.stage x fit on does
plan_is pages compacts scans visits (call.Compact c) r x fit on does = compacts r.table c.stage x on does

-- an operation is over in one piece exactly where its call counts it, marks pages, writes pages back,
-- or compacts
pub alone_is : {D : Type 0} (c : Call D) (r : Scratch) (x : Frame) → Does c r x
    → is_single x.terms.size x.part.op ≡ is_alone c
alone_is (call.Page c) r x does =
    ap (λ b. b || is_beyond x.terms.size x.part.op) does.request ∙ does.beyond
alone_is (call.Idle c) r x does = ap (is_single x.terms.size) does.op
alone_is (call.Writeback c) r x does = ap (is_single x.terms.size) does.op
alone_is (call.Compact c) r x does = ap (is_single x.terms.size) does.op

-- ---- turns

after_page_is : {D : Type 0} (x : Frame) (l : Here) (r : Scratch) (s : Stage D) (p : Progress)
    → after_page x l r s p ≡ after l (page_here x r s) (λ end. got_of end r.page) p
after_page_is x l r s progress.Moved = refl
after_page_is x l r s (progress.Waits k) = refl
after_page_is x l r s (progress.Done end) = refl

after_alone_is : (l m : Here) (p : Progress)
    → after_alone l m p ≡ after l m (λ end q. []) p
after_alone_is l m progress.Moved = refl
after_alone_is l m (progress.Waits k) = refl
after_alone_is l m (progress.Done end) = refl

-- what the hand allows a page's call, as the page's crate says it
pub page_allows : {D X : Type 0} {can_take : X → LockNo → Next → Type 0}
    {takes : X → LockNo → Next → DiskHeld → X → Type 0}
    {can_give : X → LockNo → Next → DiskHeld → Type 0} {h : X} (c : PageCall D) (r : Scratch)
    → Allows can_take takes can_give (Does (call.Page c) r) (local (call.Page c) r)
    (next_event (call.Page c)) h
    → PageAllows can_take takes can_give c.head r c.stage h
page_allows c r a = record { take = a.take; fits = a.fits; give = a.give }

module _ {X : Type 0} {takes : X → LockNo → Next → DiskHeld → X → Type 0}
    {misses : X → LockNo → X → Type 0} {gives : X → LockNo → Next → DiskHeld → X → Type 0} {h g : X}
    (r s : Scratch) (p : Progress) where
  pub page_turn : {D : Type 0} (c d : PageCall D) → PageAdvanced takes misses gives c.head r c.stage h s d.stage g p
      → Advanced takes misses gives (call.Page c) r h (call.Page d) s g p
  page_turn c d turns x does =
      subst (λ (m : Here). Turned takes misses gives x.terms (page_here x r c.stage) h m g p)
      (after_page_is x (page_here x r c.stage) s d.stage p) (turns x does)

  pub idle_turn : (D : Type 0) (c d : IdleCall)
      → AloneAdvanced takes misses gives (IsIdleWork c.head) (λ x. idle_here x c.stage) h
      (λ x. idle_here x d.stage) g p
      → Advanced takes misses gives {D = D} (call.Idle c) r h (call.Idle d) s g p
  idle_turn D c d turns x does =
      subst (λ (m : Here). Turned takes misses gives x.terms (idle_here x c.stage) h m g p)
      (after_alone_is (idle_here x c.stage) (idle_here x d.stage) p) (turns x does)

  pub writeback_turn : {D : Type 0} (c d : WritebackCall D)
      → AloneAdvanced takes misses gives (IsWritebackWork c.head)
      (λ x. writeback_here x r c.stage) h (λ x. writeback_here x s d.stage) g p
      → Advanced takes misses gives (call.Writeback c) r h (call.Writeback d) s g p
  writeback_turn c d turns x does =
      subst (λ (m : Here). Turned takes misses gives x.terms (writeback_here x r c.stage) h m g p)
      (after_alone_is (writeback_here x r c.stage) (writeback_here x s d.stage) p) (turns x does)

  pub compact_turn : (D : Type 0) (c d : CompactCall)
      → AloneAdvanced takes misses gives (IsCompactWork r.table) (λ x. compact_here x c.stage) h
      (λ x. compact_here x d.stage) g p
      → Advanced takes misses gives {D = D} (call.Compact c) r h (call.Compact d) s g p
  compact_turn D c d turns x does =
      subst (λ (m : Here). Turned takes misses gives x.terms (compact_here x c.stage) h m g p)
      (after_alone_is (compact_here x c.stage) (compact_here x d.stage) p) (turns x does)
