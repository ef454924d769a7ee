use Rattle.std.proofs.Common.{◌≡◌, List, [], Some, slice_get, slice_set, sym, ap, refl, ◌∙◌, subst, arith, inr}
use Rattle.call_history.specs.declared.part.Done.{Done}
use Rattle.lock_row.specs.declared.names.LockNo.{LockNo}
use Rattle.lock_row.specs.Rows.{Row}
use Rattle.lock_row.specs.declared.names.Plan.{Plan}
use Rattle.page_steps.specs.Steps.{Terms, DiskHeld}
use Rattle.page_steps.specs.Fits.{StageFits}
use Rattle.actor_steps.specs.Workers.{here, next_event, IsFit, terms_of}
use Rattle.joint_rule.specs.Begins.{Begin}
use Rattle.zr_core.specs.Playing.{playing}
use Rattle.zr_core.specs.Rests.{names_of}
use Rattle.zr_core.specs.States.{Playing, HasKept, HasRule, TurnsOnce}
use Rattle.zr_core.proofs.Lists.{at_index}
use Rattle.zr_core.proofs.Names.{names_some}
use Rattle.zr_core.proofs.States.{fit_set}
use Rattle.zr_core.proofs.Worlds.{Seat, ruled_by, may_take, may_fit, may_give, turns_once, rule_on, reached_on, keeps_name}
use Rattle.zr_core.proofs.disk.World.step.Goals as goal
use Rattle.zr_core.proofs.disk.World.step.Goals.{After-as_slice, After-advance}

-- ---- the actor's worker, its operations, and the row

abbrev before : (o : _) → After-as_slice o → Playing o.row.D.Denot
before o c = playing c.args.self.now c.args.phase.now c.args.actors.now

worker_at : (o : _) (c : After-as_slice o)
    → slice_get c.args.phase.now.workers.items c.args.actor ≡ Some c.index_mut-worker.result.now
worker_at o c = at_index c.args.phase.now.workers.items c.args.actor c.index_mut-worker.result.now
    (let q = c.requires.actor in let n = c.requires.can.fit.count in
    omega (arith, q, n)) c.index_mut-worker.ensures.value

ops_at : (o : _) (c : After-as_slice o)
    → slice_get c.args.actors.now c.args.actor ≡ Some c.as_slice.result.now
ops_at o c = at_index c.args.actors.now c.args.actor c.index-actors-actor.result c.requires.actor
    c.index-actors-actor.is
    ∙ ap Some (sym c.as_slice.ensures)

ruled : (o : _) (c : After-as_slice o) → (g : Begin) × HasRule g (before o c)
ruled o c = ruled_by (before o c) c.args.actor c.as_slice.result.now c.requires.can.ruled (ops_at o c)

names_are : (o : _) (c : After-as_slice o) → c.hand-hand.result.row.now.names ≡ names_of c.args.self.now.pages
names_are o c = ap (λ (r : Row DiskHeld). r.names) c.hand-hand.ensures.row ∙ c.args.self.now.names
    ∙ names_some c.args.self.now.pages (ruled o c).1.of.some

cells_are : (o : _) (c : After-as_slice o) → c.hand-hand.result.row.now.cells ≡ c.args.self.now.row.cells
cells_are o c = ap (λ (r : Row DiskHeld). r.cells) c.hand-hand.ensures.row

-- the worker's terms are the phase's
fit_at : (o : _) (c : After-as_slice o)
    → IsFit (before o c).terms (before o c).backed c.as_slice.result.now c.index_mut-worker.result.now
fit_at o c = c.requires.can.fit.each c.args.actor c.as_slice.result.now c.index_mut-worker.result.now
    (ops_at o c) (worker_at o c)

terms_are : (o : _) (c : After-as_slice o)
    → terms_of c.args.self.now.pages c.args.phase.now.clock c.index_mut-worker.result.now
    ≡ (before o c).terms
terms_are o c = λ i. record {
  size = c.args.self.now.pages;
  chain = (fit_at o c).chain i;
  clock = c.args.phase.now.clock;
}

seat : (o : _) (c : After-as_slice o) → Seat (before o c) c.args.actor c.as_slice.result.now
    c.index_mut-worker.result.now c.hand-hand.result.row.now
seat o c = record {
  places = c.names_have_places.ensures.there;
  takes = c.locks_are_of_the_disk.ensures.takes;
  gives = c.locks_are_of_the_disk.ensures.gives;
  named = ops_at o c;
  worker = worker_at o c;
  names = names_are o c;
  cells = cells_are o c;
  begin = (ruled o c).0;
  rule = (ruled o c).1;
}

pub advance-requires-clause-fit : goal.advance-requires-clause-fit
advance-requires-clause-fit o c = let a = (goal.at.advance-requires-clause-fit o c).After-as_slice in
    subst (λ (t : Terms). IsFit t c.args.self.now.backed c.as_slice.result.now c.index_mut-worker.result.now)
    (sym (terms_are o a)) (fit_at o a)

-- what is next by the worker's terms is next by the phase's
planned : (o : _) (c : After-as_slice o) {p : Plan}
    → next_event (terms_of c.args.self.now.pages c.args.phase.now.clock c.index_mut-worker.result.now)
    c.args.self.now.backed c.as_slice.result.now c.index_mut-worker.result.now ≡ p
    → next_event (before o c).terms c.args.self.now.backed c.as_slice.result.now c.index_mut-worker.result.now ≡ p
planned o c what = ap (λ (t : Terms). next_event t c.args.self.now.backed c.as_slice.result.now c.index_mut-worker.result.now)
    (sym (terms_are o c)) ∙ what

pub advance-requires-clause-allows : goal.advance-requires-clause-allows
advance-requires-clause-allows o c =
    let a = (goal.at.advance-requires-clause-allows o c).After-as_slice in
    let x = before o a in
    let w = c.index_mut-worker.result.now in record {
      take = λ k f what told. may_take x c.args.actor _ _ _ (seat o a) k (planned o a what);
      fits = λ k f v h what told takes.
          subst (λ (t : Terms). StageFits t (here t.size c.args.self.now.backed c.as_slice.result.now w []) v)
          (sym (terms_are o a))
          (may_fit x c.args.actor _ _ _ (seat o a) c.values_fit.ensures.fits k v (planned o a what)
          takes.2.home);
      give = λ k f v what told. may_give x c.args.actor _ _ _ (seat o a) k (planned o a what);
    }

-- ---- after the turn

pub shape_of-self : goal.shape_of-self
shape_of-self o c = let a = (goal.at.shape_of-self o c).After-as_slice in
    sym c.hand-hand.ensures.same ∙ sym (
    keeps_name (before o a) c.args.actor _ _ _ (seat o a) c.hand-hand.result c.advance.new.hand
    (λ h. h.row.now) refl
    (λ k f v t. (t.2.home, t.2.out)) (λ k t. (t.2.out, t.2.same)) (λ k f v t. (t.2.out, t.2.home))
    c.advance.new.self c.advance.result _ (terms_are o a) c.advance.ensures.turn
    (λ h. h.row.ghost_name) (λ k f v t. t.0) (λ k t. t.0) (λ k f v t. t.0))

pub invariant_of-self-clause-names : goal.invariant_of-self-clause-names
invariant_of-self-clause-names o c = let a = (goal.at.invariant_of-self-clause-names o c).After-as_slice in
    let names : Row DiskHeld → List LockNo = λ r. r.names in
    keeps_name (before o a) c.args.actor _ _ _ (seat o a) c.hand-hand.result c.advance.new.hand
    (λ h. h.row.now) refl
    (λ k f v t. (t.2.home, t.2.out)) (λ k t. (t.2.out, t.2.same)) (λ k f v t. (t.2.out, t.2.home))
    c.advance.new.self c.advance.result _ (terms_are o a) c.advance.ensures.turn
    (λ h. h.row.now.names)
    (λ k f v t. ap names t.2.out) (λ k t. ap names t.2.same) (λ k f v t. ap names t.2.home)
    ∙ ap names c.hand-hand.ensures.row ∙ c.args.self.now.names

-- the phase before and after
abbrev was : (o : _) → After-advance o → Playing o.row.D.Denot
was o c = playing c.args.self.now c.args.phase.now c.args.actors.now

abbrev is_now : (o : _) → After-advance o → Playing o.row.D.Denot
is_now o c = record {
  terms = (was o c).terms;
  limit = (was o c).limit;
  backed = (was o c).backed;
  spare = (was o c).spare;
  noted = (was o c).noted;
  actors = c.args.actors.now;
  cells = c.advance.new.hand.row.now.cells;
  workers = slice_set c.args.phase.now.workers.items c.args.actor c.advance.new.self;
}

turned : (o : _) (c : After-advance o) → Seat (was o c) c.args.actor c.as_slice.result.now
    c.index_mut-worker.result.now c.hand-hand.result.row.now
    → terms_of c.args.self.now.pages c.args.phase.now.clock c.index_mut-worker.result.now
    ≡ (was o c).terms
    → (dones : List (List Done)) → HasKept (was o c) dones
    → TurnsOnce c.args.actor (was o c) (is_now o c) c.advance.result dones
turned o c s same dones kept =
    turns_once (was o c) c.args.actor _ _ _ s c.hand-hand.result c.advance.new.hand
    (λ h. h.row.now) refl
    (λ k f v t. (t.2.home, t.2.out)) (λ k t. (t.2.out, t.2.same)) (λ k f v t. (t.2.out, t.2.home))
    c.advance.new.self c.advance.result _ same c.advance.ensures.turn dones kept

pub returns-clause-turn : goal.returns-clause-turn
returns-clause-turn o c dones kept =
    let at = goal.at.returns-clause-turn o c in
    turned o at.After-advance (seat o at.After-as_slice) (terms_are o at.After-as_slice) dones kept

pub returns-clause-rule : goal.returns-clause-rule
returns-clause-rule o c g j =
    let a = (goal.at.returns-clause-rule o c).After-advance in
    let s = (goal.at.returns-clause-rule o c).After-as_slice in
    rule_on (was o a) (is_now o a) refl refl refl c.args.actor c.advance.result
    (turned o a (seat o s) (terms_are o s)) c.rule_keeps.ensures.turn g j

pub returns-clause-reached : goal.returns-clause-reached
returns-clause-reached o c start r =
    let a = (goal.at.returns-clause-reached o c).After-advance in
    let s = (goal.at.returns-clause-reached o c).After-as_slice in
    reached_on (was o a) (is_now o a) refl refl refl c.args.actor c.advance.result
    (turned o a (seat o s) (terms_are o s)) start r

pub returns-clause-can : goal.returns-clause-can
returns-clause-can o c =
    let a = (goal.at.returns-clause-can o c).After-advance in
    let s = (goal.at.returns-clause-can o c).After-as_slice in record {
      fit = fit_set (was o a).terms c.args.self.now.backed c.args.actors.now
          c.args.phase.now.workers.items c.args.actor c.as_slice.result.now c.index_mut-worker.result.now c.advance.new.self c.requires.can.fit
          (ops_at o s) (worker_at o s)
          (subst (λ (t : Terms). IsFit t c.args.self.now.backed c.as_slice.result.now
          c.advance.new.self) (terms_are o s) c.advance.ensures.fit);
      pieces = c.requires.can.pieces;
      ruled = inr (
        (ruled o s).0,
        rule_on (was o a) (is_now o a) refl refl refl c.args.actor c.advance.result
            (turned o a (seat o s) (terms_are o s)) c.rule_keeps.ensures.turn (ruled o s).0 (ruled o s).1,
      );
    }
