-- What a finished phase leaves is at rest.
use Rattle.lock_row.specs.declared.names.Step.TheVariants as step
use Rattle.std.proofs.lemmas.Bool.{eq-eqb}
use Rattle.joint_rule.proofs.Pools.{list_self}
use Rattle.slot_entry.specs.Entries.{EntryState}
use Rattle.lock_row.specs.declared.names.Trip.{Trip}
use Rattle.lock_row.specs.declared.names.Step.{Step}
use Rattle.joint_rule.proofs.Trips.{NoTrip, mark_carried, uses_none, written_none}
use Rattle.std.proofs.Common.{◌≡◌, ◌≤◌, ◌<◌, ◌∷◌, ◌∙◌, ◌^◌, ℕ, zero, suc, Bool, true, false, List, [], map, length, Option, Some, None, slice_get, refl, sym, ap, subst, arith}
use Rattle.call_history.specs.declared.part.Part.{Part}
use Rattle.joint_rule.proofs.Starts.{no_locals, none_first}
use Rattle.joint_rule.proofs.Sums.{row_nothing, row_le}
use Rattle.joint_rule.specs.Begins.{Begin, content}
use Rattle.joint_rule.specs.Ends.{AllFinished}
use Rattle.joint_rule.specs.Joint.{IsActor, Joint}
use Rattle.joint_rule.specs.Rule.{Ruled}
use Rattle.joint_rule.specs.Stages.{NoneOf, StageBy, locks_by}
use Rattle.joint_rule.specs.Starts.{AtRest}
use Rattle.joint_rule.specs.Weights.{ahead, at_place, behind, block_claims, chains, claims, compactions, counters, device_size, fresh_claim, lies_at, map_size, measure, mosts, news_counter, none, nothing, object_weight, outs, owing, pages, pinned, refusal_counter, shown, stored, stored_at, used_blocks, block_uses, written_at, mark_at, mark_by}
use Rattle.lock_row.specs.Totals.{by_option, row_sum, total}
use Rattle.lock_row.specs.declared.names.At.{At}
use Rattle.lock_row.specs.declared.names.At.TheVariants.{Start, Visiting}
use Rattle.lock_row.specs.declared.names.LockNo.{LockNo}
use Rattle.lock_row.specs.declared.names.Plan.TheVariants.{Finished}
use Rattle.lock_row.specs.declared.names.State.{State}
use Rattle.mem_account.specs.Counters.{at_most_end}
use Rattle.page_steps.specs.Pages.{new_class}
use Rattle.page_steps.specs.Steps.{DiskHeld, Here, class_by, entry_in, plan_at, plan_by, spot, start_plan, visit_plan}
use Rattle.zr_base.specs.Plain.{is_beyond, is_maintenance}
use Rattle.lock_row.specs.declared.names.Held.TheVariants as holds

-- ---- a finished phase

pub none_weigh : {X : Type 0} (f : X → ℕ) (x : Option X) → NoneOf x → by_option f x ≡ 0
none_weigh f None e = refl
none_weigh f (Some x) e = absurd e

pub no_held : (xs : List (LockNo × DiskHeld)) → map (λ (x : LockNo × DiskHeld). x.0) xs ≡ [] → xs ≡ []
no_held [] e = refl
no_held (x ∷ xs) e = absurd (cc)

never_visit : (s : Step) (x : Trip) (c : ℕ) → visit_plan s x c ≡ Finished → ⊥
never_visit step.Arriving x c e = cc
never_visit s x c e = cc

never_finished : (size : ℕ) (at : At) (p : Part) (c d : ℕ) → plan_at size at p c d ≡ Finished → ⊥
never_finished size Start p c d e = started (is_maintenance p.op) (is_beyond size p.op) e where
  started : (a b : Bool) → start_plan a b p ≡ Finished → ⊥
  started true b x = cc
  started false true x = cc
  started false false x = cc
never_finished size (Visiting s x) p c d e = never_visit s x c e
never_finished size at p c d e = cc

-- a counter stands still at its end
within_end : (a b : ℕ) → a ≡ at_most_end b → a < 2 ^ 64
within_end a b e = omega arith

pub no_todo : (size : ℕ) (ps : List Part) (at : At) (c d : ℕ) → plan_by size ps at c d ≡ Finished
    → ps ≡ []
no_todo size [] at c d e = refl
no_todo size (p ∷ ps) at c d e = absurd (never_finished size at p c d e)

module _ (g : Begin) (w : State DiskHeld) (r : Ruled g w) (fin : AllFinished g w) where
  abbrev j : Joint g w
  j = r.joint

  pub over : (a : ℕ) (l : Here) → slice_get w.locals a ≡ Some l → l.todo ≡ []
  over a l e = no_todo g.given.size l.todo l.at _ _ (fin a l e)

  ended : (a : ℕ) (l : Here) → slice_get w.locals a ≡ Some l → IsActor g a l
  ended a l e = j.each.in_local a l e

  pub held_none : (a : ℕ) (l : Here) → slice_get w.locals a ≡ Some l → l.held ≡ []
  held_none a l e = let f = ended a l e in no_held l.held (f.locks
      ∙ ap (λ (t : List Part). locks_by t l.at (class_by (entry_in l.held).kept)
      (new_class g.chain t l.page (entry_in l.held).kept)) (over a l e))

  pub quiet : (a : ℕ) (l : Here) → slice_get w.locals a ≡ Some l
      → StageBy g [] (entry_in l.held) l.at l.fresh l.pin l.owed l.ahead l.behind l.page l.fail
  quiet a l e = subst (λ (t : List Part). StageBy g t (entry_in l.held) l.at l.fresh l.pin l.owed
      l.ahead l.behind l.page l.fail) (over a l e) (ended a l e).stage

  pub left : (f : ℕ → DiskHeld → ℕ) (h : Here → ℕ) → ((a : ℕ) (l : Here)
      → slice_get w.locals a ≡ Some l → h l ≡ 0) → total (spot g.given.size) f h w ≡ row_sum f w.row
  left f h none = let r = no_locals g.given.size f h w.locals
      (λ a l e. (held_none a l e, none a l e)) in omega arith

  cell_there : (row : List (Option DiskHeld)) (k : ℕ) → k < length row
      → 1 ≤ row_sum (at_place k) row → (v : DiskHeld) × (slice_get row k ≡ Some (Some v))
  cell_there [] k lt some = absurd (omega arith)
  cell_there (None ∷ xs) zero lt some = absurd (let r = none_first xs in omega arith)
  cell_there (Some x ∷ xs) zero lt some = (x, refl)
  cell_there (None ∷ xs) (suc k) lt some = cell_there xs k (omega arith) (omega arith)
  cell_there (Some x ∷ xs) (suc k) lt some = cell_there xs k (omega arith) (omega arith)

  -- no actor is at a writeback
  pub at_start : (a : ℕ) (l : Here) → slice_get w.locals a ≡ Some l → NoTrip l.at
  at_start a l e = subst NoTrip (sym (quiet a l e).begun) tt

  -- so no page is marked for one
  unmarked : (k : ℕ) (e : EntryState) → slice_get w.row k ≡ Some (Some (holds.Slot e))
      → e.under ≡ None
  unmarked k e at = by_under e.under refl where
    by_under : (u : Option ℕ) → e.under ≡ u → u ≡ None
    by_under None is = refl
    by_under (Some b) is = absurd (
        let bytes = content g k e.order in
        let one : mark_by k b bytes k e.under bytes ≡ 1 =
        ap (λ (u : Option ℕ). mark_by k b bytes k u bytes) is
        ∙ rw (eq-eqb k k refl, eq-eqb b b refl, list_self bytes) refl in
        let z = row_le g.given.size (mark_at g k b bytes) w.row k (Some (holds.Slot e)) at in
        let c = mark_carried g w j k b bytes (omega arith) in
        let q : NoTrip (Visiting c.3.step c.3.trip) = subst NoTrip c.3.is (at_start c.0 c.1 c.2) in q)

  -- all values are at home, and the account's numbers are those of pools and entries
  pub at_rest : AtRest g w.row
  at_rest = record {
    whole = λ k lt. let r = left (at_place k) none (λ a l e. refl) in let q = j.found k lt in
        cell_there w.row k lt (omega arith);
    home = j.each.in_row;
    owners = λ f. let x = left (claims g f) (fresh_claim f)
        (λ a l e. none_weigh (object_weight f) l.fresh (quiet a l e).made) in
        let y = left (stored f) none (λ a l e. refl) in let z = j.owners f in omega arith;
    blocks = λ f. sym (left (block_claims f) (block_uses f)
        (λ a l e. uses_none f l (at_start a l e))) ∙ j.blocks f
        ∙ left (used_blocks f) none (λ a l e. refl);
    fits = let x = left map_size none (λ a l e. refl) in
        let y = left device_size none (λ a l e. refl) in let z = j.size in omega arith;
    disk = λ b bytes some. let x = left (lies_at g b bytes) (written_at b bytes)
        (λ a l e. written_none b bytes l (at_start a l e)) in
        let y = left (stored_at b bytes) none (λ a l e. refl) in
        let z = j.disk b bytes (omega arith) in omega arith;
    pins = λ f. let x = left (outs f) none (λ a l e. refl) in
        let y = left nothing (pinned f) (λ a l e. none_weigh f l.pin (quiet a l e).pins) in
        let z = j.pins f in let r = row_nothing g.given.size w.row in omega arith;
    unmarked = unmarked;
    frames = let x = left pages none (λ a l e. refl) in
        let y = left chains owing (λ a l e. (quiet a l e).owes) in let z = j.frames in omega arith;
    counts = λ q. let x = left (counters q) (behind q) (λ a l e.
        none_weigh (measure q) l.behind (quiet a l e).less) in
        let y = left (shown q) (ahead q) (λ a l e. none_weigh (measure q) l.ahead
        (quiet a l e).more) in let z = j.counts q in omega arith;
    size = j.row;
    most = let x = left mosts none (λ a l e. refl) in let y = left pages none (λ a l e. refl) in
        let z = r.most.now in omega arith;
    refusals = λ q. let x = left (refusal_counter q) none (λ a l e. refl) in
        let z = within_end _ _ (r.refusals q) in omega arith;
    compacted = let x = left compactions none (λ a l e. refl) in
        let z = within_end _ _ r.freed in omega arith;
    news = λ q. let x = left (news_counter q) none (λ a l e. refl) in
        let z = within_end _ _ (r.news q) in omega arith;
  }
