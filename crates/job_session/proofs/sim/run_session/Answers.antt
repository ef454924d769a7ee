use Rattle.std.proofs.Common.{[], ◌∷◌, length, refl, sym, ap, ◌∙◌, subst, arith}
use Rattle.std.specs.Prelude.{⊤}
use Rattle.std.proofs.lemmas.Option.{slice_get_within}
use Rattle.job_session.specs.Sessions.{place, session_disk}
use Rattle.job_session.specs.Advances.{SessionRan}
use Rattle.job_session.proofs.Calls.{at_start, ran_by, ends_home, cut_ran, cut_home, cut_cause}
use Rattle.job_session.proofs.SoFar.{went_on}
use Rattle.job_session.proofs.sim.run_session.Goals as goal

pub phases-init : goal.phases-init
phases-init g c = record {
  between = c.requires.between;
  same = refl;
  later = omega arith;
  so_far = λ first stands bare.
      at_start first c.args.session.now _ stands bare c.requires.none c.requires.quiet;
}

pub returns-in-Ended-clause-runs : goal.returns-in-Ended-clause-runs
returns-in-Ended-clause-runs g c first stands bare =
    subst (SessionRan first c.args.session.now.job (session_disk c.next.new.self)
    (g.K.Sink.written c.args.sink.now) (g.K.Sink.written c.next.new.out)) (sym c.outcome.ensures)
    (ran_by c.phases.session c.next.new.self _ _ _ _ _ first c.args.session.now.job _
    c.phases.invariant.same (c.phases.invariant.so_far first stands bare) c.in-Ended.status
    c.in-Ended.ensures.goes)

pub returns-in-Ended-clause-home : goal.returns-in-Ended-clause-home
returns-in-Ended-clause-home g c =
    ends_home c.phases.session c.next.new.self _ _ _ _ _ c.in-Ended.status c.in-Ended.ensures.goes

pub returns-in-Err-clause-runs : goal.returns-in-Err-clause-runs
returns-in-Err-clause-runs g c first stands bare =
    let e = c.in-Phase.ensures.goes in
    let r = c.in-Err.ensures.runs e.0 e.1 e.2 in
    let so_far = went_on first (place c.phases.session) (session_disk c.phases.session) e.0 [] ⊤ _ _ _
    (c.phases.invariant.so_far first stands bare) tt (place c.next.new.self) e.3 in
    subst (SessionRan first c.args.session.now.job (session_disk c.run_phase.new.session)
    (g.K.Sink.written c.args.sink.now) (g.K.Sink.written c.run_phase.new.sink))
    (sym c.outcome-in-Err.ensures)
    (cut_ran (place c.next.new.self) c.run_phase.new.session _ _ _ _ _ e.0 e.1 r.0 first
    c.args.session.now.job _ (e.3.job ∙ c.phases.invariant.same) so_far r.1 c.in-Err.status r.2)

pub returns-in-Err-clause-home : goal.returns-in-Err-clause-home
returns-in-Err-clause-home g c =
    let e = c.in-Phase.ensures.goes in
    let r = c.in-Err.ensures.runs e.0 e.1 e.2 in
    cut_home (place c.next.new.self) c.run_phase.new.session _ _ _ _ _ e.0 e.1 r.0 c.in-Err.status r.2

pub returns-in-Err-clause-cause : goal.returns-in-Err-clause-cause
returns-in-Err-clause-cause g c =
    let e = c.in-Phase.ensures.goes in
    let r = c.in-Err.ensures.runs e.0 e.1 e.2 in
    rw c.outcome-in-Err.ensures
    (cut_cause (place c.next.new.self) c.run_phase.new.session (g.K.Sink.written c.next.new.out)
    (g.K.Sink.written c.run_phase.new.sink) (g.K.Sink.fault_count c.next.new.out)
    (g.K.Sink.fault_count c.run_phase.new.sink) (g.K.Sink.has_stopped c.run_phase.new.sink) e.0 e.1
    r.0 (g.K.Sink.fault_count c.args.sink.now)
    (omega (arith, c.phases.invariant.later, c.next.ensures.later)) c.in-Err.status r.2)

pub phases-smaller : goal.phases-smaller
phases-smaller g c =
    let e = c.in-Phase.ensures.goes in
    let r = c.in_default.ensures.runs e.0 e.1 e.2 in
    let next = e.2.2.item in
    omega (
      arith,
      e.3.on,
      r.2.2,
      slice_get_within c.next.new.self.job c.next.new.self.at _ next,
      ap length e.3.job,
      ap length r.2.0.job,
    )

pub phases-preserved : goal.phases-preserved
phases-preserved g c =
    let e = c.in-Phase.ensures.goes in
    let r = c.in_default.ensures.runs e.0 e.1 e.2 in
    record {
      between = r.2.1;
      same = r.2.0.job ∙ e.3.job ∙ c.phases.invariant.same;
      later = omega (
        arith,
        c.phases.invariant.later,
        c.next.ensures.later,
        c.run_phase.ensures.later,
      );
      so_far = λ first stands bare.
          went_on first (place c.next.new.self) e.0 (session_disk c.run_phase.new.session)
          (r.0 ∷ []) _ _ _ _
          (went_on first (place c.phases.session) (session_disk c.phases.session) e.0 [] ⊤ _ _ _
          (c.phases.invariant.so_far first stands bare) tt (place c.next.new.self) e.3)
          r.1 (place c.run_phase.new.session) r.2.0;
    }
