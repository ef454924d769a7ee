-- What a call knows of its next event is what its actor's plan is.
use Rattle.std.proofs.Common.{◌≡◌, ◌⊎◌, ℕ, true, false, List, Option, refl, sym, ap, ◌∙◌, inl, inr}
use Rattle.zr_base.specs.declared.op.Op.{Op}
use Rattle.zr_base.specs.declared.op.Op.TheVariants.{Write, Read, Discard}
use Rattle.zr_base.specs.declared.op.Piece.{Piece}
use Rattle.call_history.specs.declared.part.Part.{Part}
use Rattle.lock_row.specs.declared.names.LockNo.TheVariants as lock
use Rattle.lock_row.specs.declared.names.Plan.TheVariants.{Take, Give}
use Rattle.mem_account.specs.Counters.{Counters}
use Rattle.slot_entry.specs.declared.kept.Kept.{Kept}
use Rattle.slot_entry.specs.Forms.{form_of, class_in, object_class}
use Rattle.page_steps.specs.Pages.{next_by, next_form, page_in}
use Rattle.page_steps.specs.Steps.{slot, plan, start_plan, class_by}
use Rattle.call_history.specs.Parts.{is_read}
use Rattle.page_steps.specs.Givings.{tells, fails_by}
use Rattle.page_steps.specs.Calls.{Frame, here, next_event, IsCallOf, IsWork, IsFit, IsGoing, Asks, IsDue, is_count, form_by, bytes_by, tells_by, page_if, fails_by as fails_as}
use Rattle.page_steps.specs.declared.stage.Work.{Work}
use Rattle.page_steps.specs.declared.stage.Work.TheVariants as work
use Rattle.page_steps.specs.declared.stage.Head.{Head}
use Rattle.page_steps.specs.declared.stage.Scratch.{Scratch}
use Rattle.page_steps.specs.declared.stage.Stage.{Stage}
use Rattle.page_steps.specs.declared.stage.Stage.TheVariants as stage
use Rattle.page_steps.proofs.Merges.{page_after_is, fresh_rest}

-- What a call at a stage stands for doesn't depend on the device's type: what holds over this one
-- holds over any.
abbrev pub AnyDevice : Type 0
AnyDevice = Unit {0}

-- ---- by the kind of the call

next_by_is : (w : Work) (op : Op) (q : Piece) (p : Part) (fresh : List ℕ) (page : Option (List ℕ))
    (k : Kept) → p.op ≡ op → q.page.0 ≡ p.page → Asks w q fresh op → IsDue w q fresh page k
    → next_by op p (page_in page k) ≡ form_by w fresh
next_by_is work.Reads (Read start count) q p fresh page k e at a d = refl
next_by_is work.Writes (Write start count stuff) q p fresh page k e at a d =
    ap form_of (page_after_is p q start count stuff fresh (page_in page k) e at a
    (fresh_rest q fresh page k a.cut.within d) d.long)
next_by_is work.Discards (Discard start count) q p fresh page k e at a d = refl
next_by_is w op q p fresh page k e at a d = absurd a

-- the form that the piece leaves is the one that was found
pub next_is : (c : Head) (r : Scratch) (x : Frame) → IsWork c r x → is_count c.work ≡ false
    → (page : Option (List ℕ)) (k : Kept) → IsDue c.work c.piece r.fresh page k
    → next_form x.part page k ≡ form_by c.work r.fresh
next_is c r x w piece page k due =
    let of = w.call piece in
    next_by_is c.work x.part.op c.piece x.part r.fresh page k refl of.page of.asks due

tells_is : (w : Work) (q : Piece) (fresh : List ℕ) (op : Op) → Asks w q fresh op → (a : Counters)
    → tells_by w a ≡ tells op a
tells_is work.Reads q fresh (Read start count) k a = refl
tells_is work.Writes q fresh (Write start count stuff) k a = refl
tells_is work.Discards q fresh (Discard start count) k a = refl
tells_is w q fresh op k a = absurd k

-- what the account counts beside
pub told_is : (c : Head) (r : Scratch) (x : Frame) → IsCallOf c r x → (a : Counters)
    → tells_by c.work a ≡ tells x.part.op a
told_is c r x of a = tells_is c.work c.piece r.fresh x.part.op of.asks a

fails_is : (w : Work) (q : Piece) (fresh : List ℕ) (op : Op) → Asks w q fresh op → (a : Counters)
    → fails_as w a ≡ fails_by op a
fails_is work.Reads q fresh (Read start count) k a = refl
fails_is work.Writes q fresh (Write start count stuff) k a = refl
fails_is work.Discards q fresh (Discard start count) k a = refl
fails_is w q fresh op k a = absurd k

-- what the account counts where the device failed
pub failed_is : (c : Head) (r : Scratch) (x : Frame) → IsCallOf c r x → (a : Counters)
    → fails_as c.work a ≡ fails_by x.part.op a
failed_is c r x of a = fails_is c.work c.piece r.fresh x.part.op of.asks a

reads_is : (w : Work) (q : Piece) (fresh : List ℕ) (op : Op) → Asks w q fresh op
    → ((w ≡ work.Reads) × (is_read op ≡ true)) ⊎ ((w ≡ work.Reads → ⊥) × (is_read op ≡ false))
reads_is work.Reads q fresh (Read start count) k = inl (refl, refl)
reads_is work.Writes q fresh (Write start count stuff) k = inr (λ e. cc, refl)
reads_is work.Discards q fresh (Discard start count) k = inr (λ e. cc, refl)
reads_is w q fresh op k = absurd k

-- a call reads exactly where its piece is one of a read
pub read_is : (c : Head) (r : Scratch) (x : Frame) → IsCallOf c r x
    → ((c.work ≡ work.Reads) × (is_read x.part.op ≡ true))
    ⊎ ((c.work ≡ work.Reads → ⊥) × (is_read x.part.op ≡ false))
read_is c r x of = reads_is c.work c.piece r.fresh x.part.op of.asks

-- ---- plans

pub plan_is : {D : Type 0} (c : Head) (r : Scratch) (x : Frame) (s : Stage D) → IsFit c r s
    → IsGoing s → IsWork c r x → plan x.terms (here x r s) ≡ next_event c s
plan_is c r x stage.Start fit on w =
    (λ i. start_plan (w.request i) ((w.beyond ∙ fit.0) i) x.part)
    ∙ ap (λ n. Take (slot n)) (sym (w.call fit.0).page)
plan_is c r x stage.Beyond fit on w = λ i. start_plan (w.request i) ((w.beyond ∙ fit) i) x.part
plan_is c r x (stage.Refusing a) fit on w = refl
plan_is c r x (stage.Seen e o) fit on w = ap (λ k. Take (lock.Class (class_by k))) fit.kept
plan_is c r x (stage.Pinning e o q) fit on w = ap (λ k. Give (lock.Class (class_by k))) fit.0.kept
plan_is c r x (stage.Pinned e y end) fit on w =
    ap (λ k. Take (lock.Class (class_by k))) fit.0.kept
plan_is c r x (stage.Unpinning e y end q) fit on w =
    ap (λ k. Give (lock.Class (class_by k))) fit.0.kept
plan_is c r x (stage.Plain e) fit on w = ap (λ n. Give (slot n)) (sym (w.call fit.0).page)
plan_is c r x (stage.Leaving e) fit on w = ap (λ n. Give (slot n)) (sym (w.call fit.0).page)
plan_is c r x (stage.Refused e read end) fit on w =
    ap (λ n. Give (slot n)) (sym (w.call fit.0).page)
plan_is c r x (stage.Missed e fault) fit on w = ap (λ n. Give (slot n)) (sym (w.call fit.0).page)
plan_is c r x (stage.Away e b) fit on w = refl
plan_is c r x (stage.Fetching e b d) fit on w = refl
plan_is c r x (stage.Failing e fault) fit on w = refl
plan_is c r x (stage.Counting e fault a) fit on w = refl
plan_is c r x (stage.Wanting own new) fit on w =
    ap (λ f. Take (lock.Class (class_in x.terms.chain f)))
    (next_is c r x w fit.0.piece (page_if r own.read) own.entry.kept fit.0.due
    ∙ fit.1.form)
    ∙ ap (λ n. Take (lock.Class (object_class n (bytes_by r new.huge) new.huge))) (sym w.chain)
    ∙ ap (λ n. Take (lock.Class n)) (sym fit.1.class)
plan_is c r x (stage.Inside own new q) fit on w = refl
plan_is c r x (stage.Both own new q a) fit on w = refl
plan_is c r x (stage.Made own class q y) fit on w =
    ap (λ f. Give (lock.Class (class_in x.terms.chain f)))
    (next_is c r x w fit.0.piece (page_if r own.read) own.entry.kept fit.0.due)
    ∙ ap (λ n. Give (lock.Class (class_in n (form_by c.work r.fresh)))) (sym w.chain)
    ∙ ap (λ n. Give (lock.Class n)) fit.1
plan_is c r x (stage.Old own o next) fit on w = ap (λ k. Take (lock.Class (class_by k))) fit.1
plan_is c r x (stage.Freeing own o next q) fit on w =
    ap (λ k. Give (lock.Class (class_by k))) fit.1
plan_is c r x (stage.Backed own b next) fit on w = refl
plan_is c r x (stage.Releasing own b next y) fit on w = refl
plan_is c r x (stage.Owing due frames ahead) fit on w = refl
plan_is c r x (stage.Giving due frames ahead a) fit on w = refl
plan_is c r x (stage.Ready due ahead behind) fit on w =
    ap (λ n. Give (slot n)) (sym (w.call fit.piece).page)
plan_is c r x stage.Over fit on w = absurd on
