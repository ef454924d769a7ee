-- Whatever is over, no class has more objects than there are pages and actors in a phase that can go
-- on, and scans and writebacks are at pages of
-- the disk.
use Rattle.std.proofs.Common.{◌≡◌, ℕ, zero, suc, ◌+◌, ◌<◌, Bool, List, [], ◌∷◌, length, Some, slice_get, refl, ap, subst, arith}
use Rattle.std.proofs.lemmas.Option.{slice_get_within}
use Rattle.zr_base.specs.declared.op.Op.{Op}
use Rattle.call_history.specs.declared.part.Done.{Done}
use Rattle.call_history.specs.declared.part.Part.{Part}
use Rattle.lock_row.specs.declared.names.At.{At}
use Rattle.lock_row.specs.declared.names.At.TheVariants as at
use Rattle.lock_row.specs.declared.names.Step.{Step}
use Rattle.lock_row.specs.declared.names.Step.TheVariants as step
use Rattle.lock_row.specs.declared.names.State.{State}
use Rattle.page_steps.specs.Pages.{new_class}
use Rattle.page_steps.specs.Steps.{Terms, DiskHeld, Here, slot, class_by, entry_in, plan, plan_at, plan_by}
use Rattle.actor_steps.specs.declared.worker.Worker.{Worker}
use Rattle.actor_steps.specs.Workers.{here}
use Rattle.joint_rule.specs.Begins.{Begin, terms, Proper}
use Rattle.joint_rule.specs.Laws.{TakesLock, GivesLock, CompactedIsFew}
use Rattle.joint_rule.specs.Rule.{Rule}
use Rattle.zr_core.specs.Runs.{nothing_over, page_at, Few, IsOnDisk, AreFew}
use Rattle.zr_core.specs.States.{heres, Playing, state_of, HasKept, CanGoOn}
use Rattle.zr_core.proofs.Lists.{there_is}
use Rattle.zr_core.proofs.States.{heres_get}
use Rattle.zr_core.proofs.Worlds.{ruled_by}

-- an actor is that of a worker
pub of_here : {D : Type 0} (t : Terms) (backed : Bool) (actors : List (List Op)) (ws : List (Worker D))
    (dones : List (List Done))
    (a : ℕ) (l : Here) → slice_get (heres t backed actors ws dones) a ≡ Some l
    → (ops : List Op) × (w : Worker D) × (done : List Done)
    × ((slice_get actors a ≡ Some ops) × (slice_get ws a ≡ Some w)) × (here t.size backed ops w done ≡ l)
of_here t backed [] ws ds a l e = absurd (cc)
of_here t backed (x ∷ xs) [] ds a l e = absurd (cc)
of_here t backed (x ∷ xs) (y ∷ ys) [] a l e = absurd (cc)
of_here t backed (x ∷ xs) (y ∷ ys) (z ∷ zs) zero l e =
    (x, y, z, (refl, refl), (let q : Some (here t.size backed x y z) ≡ Some l = e in cc))
of_here t backed (x ∷ xs) (y ∷ ys) (z ∷ zs) (suc a) l e = of_here t backed xs ys zs a l e

-- there are as many, whatever is over
pub count_same : {D : Type 0} (t : Terms) (backed : Bool) (actors : List (List Op)) (ws : List (Worker D))
    (dones : List (List Done))
    → length dones ≡ length ws
    → length (heres t backed actors ws dones) ≡ length (heres t backed actors ws (nothing_over ws))
count_same t backed [] ws ds e = refl
count_same t backed (ops ∷ more) [] ds e = refl
count_same t backed (ops ∷ more) (w ∷ ws) [] e = absurd (let q : 0 ≡ suc (length ws) = e in
    let none : ⊥ = omega arith in none)
count_same t backed (ops ∷ more) (w ∷ ws) (d ∷ ds) e =
    ap (λ (k : ℕ). suc k) (count_same t backed more ws ds (omega arith))

-- no class has more objects than there are pages and actors, and scans are at pages of the disk
abbrev pub AllFew : {D : Type 0} → Playing D → Type 0
AllFew x = (dones : List (List Done)) → HasKept x dones
    → AreFew x.terms.size (state_of x dones)

module _ (takes : TakesLock) (gives : GivesLock) (g : Begin) (w : State DiskHeld) (a : ℕ) (l : Here)
    (p : Part) (rest : List Part) (proper : Proper g) (rule : Rule g w)
    (who : slice_get w.locals a ≡ Some l) (todo : l.todo ≡ p ∷ rest) (some : 0 < g.given.size) where
  -- the next event, by the stage
  planned : (at : At) → l.at ≡ at → (c : ℕ) × (d : ℕ)
      × (plan (terms g) l ≡ plan_at g.given.size at p c d)
  planned at stage = (
    class_by (entry_in l.held).kept,
    new_class g.chain l.todo l.page (entry_in l.held).kept,
    λ i. plan_by g.given.size (todo i) (stage i) (class_by (entry_in l.held).kept)
        (new_class g.chain l.todo l.page (entry_in l.held).kept),
  )

  -- the page that a scan or a writeback takes next is one of the disk
  page_low : (at : At) → l.at ≡ at → page_at at < g.given.size
  page_low at.Start stage = some
  page_low at.Refusing stage = some
  page_low at.Seen stage = some
  page_low at.Pinning stage = some
  page_low at.Pinned stage = some
  page_low at.Unpinning stage = some
  page_low at.Leaving stage = some
  page_low at.Away stage = some
  page_low at.Fetching stage = some
  page_low at.Failing stage = some
  page_low at.Counting stage = some
  page_low at.Missed stage = some
  page_low at.Wanting stage = some
  page_low at.Inside stage = some
  page_low at.Both stage = some
  page_low at.Made stage = some
  page_low at.Old stage = some
  page_low at.Freeing stage = some
  page_low at.Backed stage = some
  page_low at.Releasing stage = some
  page_low at.Owing stage = some
  page_low at.Giving stage = some
  page_low at.Ready stage = some
  page_low (at.Scanning x) stage =
      takes g w a l (slot x.page) proper rule who (planned (at.Scanning x) stage).2
  page_low (at.Marking x) stage =
      (gives g w a l (slot x.page) proper rule who (planned (at.Marking x) stage).2).0
  page_low (at.Visiting s x) stage = visited s stage where
    visited : (s : Step) → l.at ≡ at.Visiting s x → page_at (at.Visiting s x) < g.given.size
    visited step.Arriving stage =
        takes g w a l (slot x.page) proper rule who (planned (at.Visiting step.Arriving x) stage).2
    visited step.Passing stage = some
    visited step.Asking stage = some
    visited step.Reserving stage = some
    visited step.Quitting stage = some
    visited step.Seen stage = some
    visited step.Pinning stage = some
    visited step.Pinned stage = some
    visited step.Unpinning stage = some
    visited step.Marking stage = some
    visited step.Flying stage = some
    visited step.Storing stage = some
    visited step.Landing stage = some
    visited step.Won stage = some
    visited step.Freeing stage = some
    visited step.Backing stage = some
    visited step.Committing stage = some
    visited step.Owing stage = some
    visited step.Paying stage = some
    visited step.Putting stage = some
    visited step.Losing stage = some
    visited step.Undoing stage = some
    visited step.Releasing stage = some
  page_low (at.Sweeping x) stage = some
  page_low (at.Moving x) stage = some
  page_low (at.Shrunk x) stage = some
  page_low (at.Shrinking x) stage = some

pub can_few : {D : Type 0} → CompactedIsFew → TakesLock → GivesLock → (x : Playing D) → CanGoOn x
    → AllFew x
can_few law takes gives x can dones kept a l who =
    let o = of_here x.terms x.backed x.actors x.workers dones a l who in
    let r = ruled_by x a o.0 can.ruled o.3.0 in
    let j = r.1 in
    let d = there_is j.dones a (let n = j.kept.count in
    let q = slice_get_within x.workers a o.1 o.3.1 in omega arith) in
    let there = heres_get x.terms x.backed x.actors x.workers j.dones a o.0 o.1 d.0 o.3.0 o.3.1 d.1 in
    let size : r.0.given.size ≡ x.terms.size = ap (λ (u : Terms). u.size) j.of.goes_by in
    let long = count_same x.terms x.backed x.actors x.workers dones kept.count in
    let as_long = count_same x.terms x.backed x.actors x.workers j.dones j.kept.count in
    let few : Few (x.terms.size + length (state_of x dones).locals) (here x.terms.size x.backed o.0 o.1 o.2) =
    λ p rest y q todo at held.
    let z = law r.0 (state_of x j.dones) a (here x.terms.size x.backed o.0 o.1 d.0) p rest y q j.rule there todo
    at held in (z.0, (let b = z.1 in omega arith)) in
    let on : IsOnDisk x.terms.size (here x.terms.size x.backed o.0 o.1 o.2) = λ p rest todo.
    let some = j.of.some in
    let z = page_low takes gives r.0 (state_of x j.dones) a (here x.terms.size x.backed o.0 o.1 d.0) p rest
    j.of.proper j.rule there todo (omega arith) (here x.terms.size x.backed o.0 o.1 d.0).at refl in
    omega arith in
    subst (λ (m : Here). Few (x.terms.size + length (state_of x dones).locals) m
    × IsOnDisk x.terms.size m) o.4 (few, on)
