-- A turn of a worker over the world's row is a turn of the machine.
use Rattle.std.proofs.Common.{◌≡◌, ◌⊎◌, inl, inr, ℕ, ◌<◌, List, [], ◌∷◌, ◌++◌, length, Option, Some, None, slice_get, slice_set, sym, ap, ◌∙◌, subst, arith}
use Rattle.std.proofs.lemmas.Option.{slice_get_within}
use Rattle.zr_base.specs.declared.op.Op.{Op}
use Rattle.call_history.specs.declared.part.Done.{Done}
use Rattle.lock_row.specs.declared.names.LockNo.{LockNo}
use Rattle.lock_row.specs.declared.names.Plan.{Plan}
use Rattle.lock_row.specs.declared.names.Plan.TheVariants.{Take, Give}
use Rattle.lock_row.specs.declared.names.State.{State}
use Rattle.lock_row.specs.Laws.{NamesHavePlaces}
use Rattle.lock_row.specs.Machine as one
use Rattle.lock_row.specs.Rows.{Row, place_in, cell, with_cell}
use Rattle.page_steps.specs.Fits.{StageFits}
use Rattle.page_steps.specs.Nexts.{Next}
use Rattle.page_steps.specs.Pages.{new_class}
use Rattle.page_steps.specs.Steps.{Terms, DiskHeld, Here, spot, class_by, entry_in, plan_by, plan}
use Rattle.actor_steps.specs.declared.worker.Worker.{Worker}
use Rattle.actor_steps.specs.declared.worker.Turn.{Turn}
use Rattle.actor_steps.specs.declared.worker.Turn.TheVariants as turn
use Rattle.actor_steps.specs.Workers.{here, next_event, Keeps, Advanced}
use Rattle.joint_rule.specs.Begins.{Begin, terms}
use Rattle.joint_rule.specs.Laws.{IsLock, TurnKeepsRule, TakesLock, GivesLock, TakenValueFits}
use Rattle.zr_core.specs.Machines.{OneTurn, IsReached}
use Rattle.zr_core.specs.Rests.{names_of}
use Rattle.zr_core.specs.States.{heres, Playing, state_of, HasKept, HasRule, IsEmpty, IsOf, IsReachedFrom, taken, given, TurnIs, TurnsOnce}
use Rattle.zr_core.proofs.Lists.{there_is}
use Rattle.zr_core.proofs.Machines.{run_on}
use Rattle.zr_core.proofs.Names.{there, place, cell_at, names_long}
use Rattle.zr_core.proofs.States.{heres_get, heres_set, kept_set, turn_is, turn_keeps}

pub one_turn : (t : Terms) (a : ℕ) (w n : State DiskHeld) (r : Turn) → TurnIs t a w n r
    → OneTurn t a w n
one_turn t a w n turn.Went (taken l k v e) = one.taken l k v e
one_turn t a w n turn.Went (given l k v m e) = one.given l k v m e
one_turn t a w n (turn.Waited k) (l, who, what, out, same) = one.missed l k who what out same
one_turn t a w n turn.Finished (l, who, none, same) =
    one.finished l who (ap (λ ps. plan_by t.size ps l.at (class_by (entry_in l.held).kept)
    (new_class t.chain ps l.page (entry_in l.held).kept)) none) same

-- An actor of a phase, its worker, and the row as its hand sees it.
pub record Seat {D : Type 0} (x : Playing D) (a : ℕ) (ops : List Op) (w : Worker D) (r : Row DiskHeld)
    : Type 0 where
  pub places : NamesHavePlaces
  pub takes : TakesLock
  pub gives : GivesLock
  pub named : slice_get x.actors a ≡ Some ops
  pub worker : slice_get x.workers a ≡ Some w
  pub names : r.names ≡ names_of x.terms.size
  pub cells : r.cells ≡ x.cells
  pub begin : Begin
  pub rule : HasRule begin x

module _ {D : Type 0} (x : Playing D) (a : ℕ) (ops : List Op) (w : Worker D) (r : Row DiskHeld)
    (s : Seat x a ops w r) where
  done_of : (dones : List (List Done)) → HasKept x dones
      → (done : List Done) × (slice_get dones a ≡ Some done) × Keeps x.backed ops w done
  done_of dones kept =
      let d = there_is dones a
      (let n = kept.count in let q = slice_get_within x.workers a w s.worker in omega arith) in
      (d.0, d.1, kept.each a ops w d.0 s.named s.worker d.1)

  abbrev over : List Done
  over = (done_of s.rule.dones s.rule.kept).0

  abbrev local : Here
  local = here x.terms.size x.backed ops w over

  abbrev now : State DiskHeld
  now = state_of x s.rule.dones

  who : slice_get now.locals a ≡ Some local
  who = heres_get x.terms x.backed x.actors x.workers s.rule.dones a ops w over s.named s.worker
      (done_of s.rule.dones s.rule.kept).1

  same_size : s.begin.given.size ≡ x.terms.size
  same_size = ap (λ (t : Terms). t.size) s.rule.of.goes_by

  planned : {p : Plan} → next_event x.terms x.backed ops w ≡ p → plan (terms s.begin) local ≡ p
  planned what = ap (λ (t : Terms). plan t local) s.rule.of.goes_by ∙ what

  takes_here : (k : LockNo) → next_event x.terms x.backed ops w ≡ Take k → IsLock x.terms.size k
  takes_here k what = subst (λ (n : ℕ). IsLock n k) same_size
      (s.takes s.begin now a local k s.rule.of.proper s.rule.rule who (planned what))

  gives_here : (k : LockNo) → next_event x.terms x.backed ops w ≡ Give k
      → IsLock x.terms.size k × (slice_get x.cells (spot x.terms.size k) ≡ Some None)
  gives_here k what =
      subst (λ (n : ℕ). IsLock n k × (slice_get x.cells (spot n k) ≡ Some None)) same_size
      (s.gives s.begin now a local k s.rule.of.proper s.rule.rule who (planned what))

  cell_is : (k : LockNo) → IsLock x.terms.size k → cell r k ≡ slice_get x.cells (spot x.terms.size k)
  cell_is k is = cell_at x.terms.size s.places k is r s.names
      ∙ ap (λ (cs : List (Option DiskHeld)). slice_get cs (spot x.terms.size k)) s.cells

  place_is : (k : LockNo) → IsLock x.terms.size k → place_in r.names k ≡ spot x.terms.size k
  place_is k is = ap (λ ks. place_in ks k) s.names ∙ place x.terms.size s.places k is

  pub may_take : (k : LockNo) → next_event x.terms x.backed ops w ≡ Take k
      → (o : Option DiskHeld) × (cell r k ≡ Some o)
  may_take k what =
      let is = takes_here k what in
      let low = slice_get_within (names_of x.terms.size) (spot x.terms.size k) k
      (there x.terms.size k is) in
      let o = there_is x.cells (spot x.terms.size k)
      (let n = names_long x.terms.size in let row = s.rule.rule.ruled.joint.row in let size = same_size in
      omega arith) in
      (o.0, cell_is k is ∙ o.1)

  pub may_fit : TakenValueFits → (k : LockNo) (v : DiskHeld) → next_event x.terms x.backed ops w ≡ Take k
      → cell r k ≡ Some (Some v) → StageFits x.terms (here x.terms.size x.backed ops w []) v
  may_fit fits k v what at =
      subst (λ (t : Terms). StageFits t local v) s.rule.of.goes_by
      (fits s.begin now a local k v s.rule.of.proper s.rule.rule who (planned what)
      (ap (λ (n : ℕ). slice_get x.cells (spot n k)) same_size ∙ sym (cell_is k (takes_here k what))
      ∙ at))

  pub may_give : (k : LockNo) → next_event x.terms x.backed ops w ≡ Give k → cell r k ≡ Some None
  may_give k what = let out = gives_here k what in cell_is k out.0 ∙ out.1

  module _ {X : Type 0} {takes : X → LockNo → Next → DiskHeld → X → Type 0} {misses : X → LockNo
      → X → Type 0} {gives : X → LockNo → Next → DiskHeld → X → Type 0} (h m : X)
      (row_of : X → Row DiskHeld) (is : row_of h ≡ r)
      (took : (k : LockNo) (f : Next) (v : DiskHeld) → takes h k f v m
      → (cell (row_of h) k ≡ Some (Some v)) × (row_of m ≡ with_cell (row_of h) k None))
      (missed : (k : LockNo) → misses h k m
      → (cell (row_of h) k ≡ Some None) × (row_of m ≡ row_of h))
      (gave : (k : LockNo) (f : Next) (v : DiskHeld) → gives h k f v m
      → (cell (row_of h) k ≡ Some None) × (row_of m ≡ with_cell (row_of h) k (Some v)))
      (w' : Worker D) (res : Turn) (t : Terms) (same : t ≡ x.terms)
      (all : (done : List Done) → Keeps x.backed ops w done
      → Advanced takes misses gives t x.backed ops w h w' m res done) where
    abbrev after : Playing D
    after = record {
      terms = x.terms;
      limit = x.limit;
      backed = x.backed;
      spare = x.spare;
      noted = x.noted;
      actors = x.actors;
      cells = (row_of m).cells;
      workers = slice_set x.workers a w';
    }

    turned : (done : List Done) → Keeps x.backed ops w done
        → Advanced takes misses gives x.terms x.backed ops w h w' m res done
    turned done keeps =
        subst (λ (u : Terms). Advanced takes misses gives u x.backed ops w h w' m res done) same
        (all done keeps)

    at_name : (k : LockNo) → place_in (row_of h).names k ≡ place_in r.names k
    at_name k = ap (λ (y : Row DiskHeld). place_in y.names k) is

    pub turns_once : (dones : List (List Done)) → HasKept x dones
        → TurnsOnce a x after res dones
    turns_once dones kept =
        let lt : a < length x.workers = slice_get_within x.workers a w s.worker in
        let d = done_of dones kept in
        let adv = turned d.0 d.2 in
        let is_who = heres_get x.terms x.backed x.actors x.workers dones a ops w d.0 s.named s.worker d.1 in (
          slice_set dones a adv.0,
          kept_set x.backed x.actors x.workers dones a ops w w' d.0 adv.0 kept s.named s.worker d.1 adv.1,
          subst (λ (ls : List Here). TurnIs x.terms a (state_of x dones)
              (record { row = (row_of m).cells; locals = ls }) res)
              (sym (heres_set x.terms x.backed x.actors x.workers dones a ops w' adv.0 s.named lt
              (let q = kept.count in omega arith)))
              (turn_is row_of x.cells (heres x.terms x.backed x.actors x.workers dones) a is_who
              (ap (λ (y : Row DiskHeld). y.cells) is ∙ s.cells)
              (λ k what. at_name k ∙ place_is k (takes_here k what))
              (λ k what. at_name k ∙ place_is k (gives_here k what).0) took missed gave adv.2),
        )

    -- what each event keeps, the turn keeps
    pub keeps_name : {Y : Type 0} (name : X → Y)
        → ((k : LockNo) (f : Next) (v : DiskHeld) → takes h k f v m → name m ≡ name h)
        → ((k : LockNo) → misses h k m → name m ≡ name h)
        → ((k : LockNo) (f : Next) (v : DiskHeld) → gives h k f v m → name m ≡ name h)
        → name m ≡ name h
    keeps_name name y z u = let d = done_of s.rule.dones s.rule.kept in
        turn_keeps name y z u (turned d.0 d.2).2

-- where there is an actor the disk has its size, and the rule holds for some beginning
pub ruled_by : {D : Type 0} (x : Playing D) (a : ℕ) (ops : List Op) → IsEmpty x ⊎ ((g : Begin) × HasRule g x)
    → slice_get x.actors a ≡ Some ops → (g : Begin) × HasRule g x
ruled_by x a ops (inl none) e = absurd (let q : None ≡ Some ops = sym (ap (λ (xs : List (List Op)).
    slice_get xs a) none.1) ∙ e in cc)
ruled_by x a ops (inr ruled) e = ruled

-- ---- what a turn keeps

pub of_on : {D : Type 0} (x y : Playing D) → y.terms ≡ x.terms → y.backed ≡ x.backed → y.actors ≡ x.actors
    → (g : Begin) → IsOf g x → IsOf g y
of_on x y same backed ops g o = record {
  goes_by = o.goes_by ∙ sym same;
  backed = o.backed ∙ sym backed;
  actors = o.actors ∙ sym ops;
  some = let q = o.some in let e = ap (λ (u : Terms). u.size) same in omega arith;
  most = let q = o.most in let e = ap (λ (u : Terms). u.size) same in omega arith;
  proper = o.proper;
}

module _ {D : Type 0} (x y : Playing D) (same : y.terms ≡ x.terms) (backed : y.backed ≡ x.backed)
    (ops : y.actors ≡ x.actors) (a : ℕ) (t : Turn)
    (turn : (dones : List (List Done)) → HasKept x dones → TurnsOnce a x y t dones) where
  pub rule_on : TurnKeepsRule → (g : Begin) → HasRule g x → HasRule g y
  rule_on keeps g j = let n = turn j.dones j.kept in record {
    of = of_on x y same backed ops g j.of;
    dones = n.0;
    kept = n.1;
    rule = keeps g a (state_of x j.dones) (state_of y n.0) j.of.proper j.rule
        (subst (λ (u : Terms). OneTurn u a (state_of x j.dones) (state_of y n.0)) (sym j.of.goes_by)
        (one_turn x.terms a _ _ t n.2));
  }

  pub reached_on : (start : State DiskHeld) → IsReachedFrom start x → IsReachedFrom start y
  reached_on start r = let n = turn r.dones r.kept in record {
    dones = n.0;
    kept = n.1;
    reached = subst (λ (u : Terms). IsReached u start (state_of y n.0)) (sym same) (
      r.reached.0
          ++ a ∷ [],
      run_on x.terms r.reached.0 a start _ _ r.reached.1 (one_turn x.terms a _ _ t n.2),
    );
  }
