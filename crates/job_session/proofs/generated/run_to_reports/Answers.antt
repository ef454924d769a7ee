use Rattle.std.specs.Prelude.{⊤}
use Rattle.std.proofs.Common.{ℕ, Bool, false, List, Result, None, drop, refl, sym, ap, ◌∙◌, subst, arith, add-one}
use Rattle.std.proofs.lemmas.Result.{err_from_is_err_and}
use Rattle.job_text.specs.declared.job.Item.{Item}
use Rattle.job_text.specs.Jobs.{MayFollow, nothing_used}
use Rattle.job_session.specs.declared.stop.Stop.{Stop}
use Rattle.job_session.specs.Stands.{Stands}
use Rattle.job_session.specs.Sessions.{place, left_at, session_disk}
use Rattle.job_session.specs.Advances.{IsCutSoFar}
use Rattle.job_session.specs.Generated.{HasPhase, after_phase, after_phases, LastRan}
use Rattle.job_session.proofs.Calls.{at_start, ends_home}
use Rattle.job_session.proofs.Last.{last_ran, stops_short}
use Rattle.job_session.proofs.Passing.{has_phase, reports_left, no_phase_left}
use Rattle.job_session.proofs.generated.run_to_reports.Goals as goal

pub loop-done-init : goal.loop-done-init
loop-done-init g c = record {
  between = c.requires.between;
  same = refl;
  left = ap (λ (n : ℕ). drop n c.args.session.now.job) c.requires.none;
  led = λ first stands bare.
      at_start first c.args.session.now None stands bare c.requires.none c.requires.quiet;
}

pub pass_phase-requires-clause-phase : goal.pass_phase-requires-clause-phase
pass_phase-requires-clause-phase g c =
    let made = c.requires.generated in
    subst HasPhase (sym (c.loop-done.invariant.left
    ∙ ap (λ (job : List Item). after_phases c.loop-done._done job) made.2))
    (has_phase made.0 made.1 c.loop-done._done (omega (arith, c.loop-done-test.true)))

pub returns-in_err-pass_phase-clause-runs : goal.returns-in_err-pass_phase-clause-runs
returns-in_err-pass_phase-clause-runs g c first stands bare =
    let e = err_from_is_err_and c.from_residual.result c.from_residual.ensures.1 in
    let p = c.in_err-pass_phase.ensures.stops in
    stops_short first c.args.session.now.job (session_disk c.pass_phase.new.session) _ e.0
    c.from_residual.result e.1 (e.2 ∙ p.memory)
    (subst (λ (job : List Item). IsCutSoFar first job (session_disk c.pass_phase.new.session)
    (λ bytes. ⊤)) c.loop-done.invariant.same
    (p.led first (c.loop-done.invariant.led first stands bare)))

pub loop-done-preserved : goal.loop-done-preserved
loop-done-preserved g c =
    let n = c.loop-done._done in
    let p = c.in_ok-pass_phase.ensures.passes in
    let job = c.args.session.now.job in
    record {
      between = p.between;
      same = p.same ∙ c.loop-done.invariant.same;
      left = p.left ∙ ap after_phase c.loop-done.invariant.left
          ∙ ap (λ (k : ℕ). after_phases k job) (sym (add-one n));
      led = λ first stands bare. p.led first (c.loop-done.invariant.led first stands bare);
    }

pub unreachable-requires : goal.unreachable-requires
unreachable-requires g c =
    no_phase_left c.loop-done.session c.next.new.self (g.K.Sink.written c.args.sink.now)
    (g.K.Sink.written c.next.new.out) 0 0 false c.in-Phase.ensures.goes
    (reports_left c.args.session.now.job (left_at (place c.loop-done.session)) c.loop-done._done
    c.requires.generated c.loop-done-test.false c.loop-done.auto._done-end
    c.loop-done.invariant.left)

pub returns-clause-runs : goal.returns-clause-runs
returns-clause-runs g c first stands bare =
    let s = c.loop-done.session in
    let same = c.loop-done.invariant.same in
    let t = c.next.new.self in
    subst (λ (x : List Item × Result Bool Stop). LastRan first x.0 (session_disk t)
    (g.K.Sink.written c.args.sink.now) (g.K.Sink.written c.next.new.out) x.1)
    (λ i. (same i, sym c.outcome.ensures i))
    (last_ran c.jobs_are_legal.ensures.legal first s t (g.K.Sink.written c.args.sink.now)
    (g.K.Sink.written c.next.new.out) _ _ _
    (subst (MayFollow nothing_used) (sym same) c.requires.lawful)
    (subst (Stands first) bare stands) (c.loop-done.invariant.led first stands bare)
    (reports_left c.args.session.now.job (left_at (place s)) c.loop-done._done
    c.requires.generated c.loop-done-test.false c.loop-done.auto._done-end
    c.loop-done.invariant.left)
    c.in-Ended.status c.in-Ended.ensures.goes)

pub returns-clause-home : goal.returns-clause-home
returns-clause-home g c =
    ends_home c.loop-done.session c.next.new.self _ _ _ _ _ c.in-Ended.status c.in-Ended.ensures.goes
