use Rattle.std.proofs.Common.{◌≡◌, ℕ, ◌<◌, ◌≤◌, List, length, Some, slice_get, sym, ap, ◌∙◌, subst}
use Rattle.zr_base.specs.declared.limits.TheConstants.{MOST_ACTORS}
use Rattle.zr_base.specs.declared.op.Op.{Op}
use Rattle.zr_base.specs.declared.op.Turns.{Turns}
use Rattle.zr_core.specs.Playing.{playing}
use Rattle.zr_core.specs.States.{CanGoOn}
use Rattle.job_text.specs.declared.job.PhaseText.{PhaseText}
use Rattle.job_session.specs.Sessions.{Place, place, FinishIs}
use Rattle.job_session.proofs.Calls.{are_own, comes_back}
use Rattle.job_session.proofs.Extends.{next_may}
use Rattle.job_session.proofs.Lawful.{named}
use Rattle.job_session.proofs.sim.run_phase.Goals as goal

pub run-requires-clause-few : goal.run-requires-clause-few
run-requires-clause-few g c =
    let r = c.requires.ready in
    let at = (c.start.ensures.out r.0 r.1 r.2).1 in
    let may = (next_may (place c.start.new.self) r.1 _ _ at.item at.may).may.0 in
    subst (λ xs. length xs ≤ MOST_ACTORS)
    (sym (c.as_slice.ensures
    ∙ ap (λ (x : PhaseText). x.actors) (c.text-text.ensures.text r.1 at.item)))
    may.few_actors

pub run-requires-clause-actors : goal.run-requires-clause-actors
run-requires-clause-actors g c =
    let r = c.requires.ready in
    let at = (c.start.ensures.out r.0 r.1 r.2).1 in
    let may = (next_may (place c.start.new.self) r.1 _ _ at.item at.may).may.0 in
    let text = c.text-text.ensures.text r.1 at.item in
    let actors = c.as_slice.ensures ∙ ap (λ (x : PhaseText). x.actors) text in
    let schedule = c.as_slice-2.ensures ∙ ap (λ (x : PhaseText). x.schedule) text in
    let P : List (List Op) × List Turns → Type 0 = λ x. (k : ℕ) (t : Turns)
    → slice_get x.1 k ≡ Some t → t.actor < length x.0 in
    subst P (λ i. (sym actors i, sym schedule i))
    (named (length r.1.actors) r.1.schedule may.may_turn)

pub run-requires-clause-can : goal.run-requires-clause-can
run-requires-clause-can g c =
    let r = c.requires.ready in
    let at = (c.start.ensures.out r.0 r.1 r.2).1 in
    subst (λ xs. CanGoOn (playing c.in-Some.running.world c.in-Some.running.phase xs))
    (sym (c.as_slice.ensures
    ∙ ap (λ (x : PhaseText). x.actors) (c.text-text.ensures.text r.1 at.item)))
    (c.in-Some.ensures.ready r.0 r.1 r.2).can

pub finish-requires : goal.finish-requires
finish-requires g c =
    let r = c.requires.ready in
    let out = c.start.ensures.out r.0 r.1 r.2 in
    let text = c.text-text.ensures.text r.1 out.1.item in
    record {
      back = comes_back r.0 r.1 c.start.new.self c.in-Some.running.world c.run.new.self
          c.in-Some.running.phase c.run.new.phase c.as_slice.result.now c.as_slice-2.result.now
          (c.as_slice.ensures ∙ ap (λ (x : PhaseText). x.actors) text)
          (c.as_slice-2.ensures ∙ ap (λ (x : PhaseText). x.schedule) text) out
          (c.in-Some.ensures.ready r.0 r.1 r.2) c.run.ensures.same c.run.ensures.spare
          c.run.ensures.limit c.run.ensures.backed c.run.ensures.can c.run.ensures.over c.run.ensures.rest
          c.run.ensures.steps;
    }

pub returns-clause-runs : goal.returns-clause-runs
returns-clause-runs g c d t ready =
    let out = c.start.ensures.out d t ready in
    let text = c.text-text.ensures.text t out.1.item in
    let actors = c.as_slice.ensures ∙ ap (λ (x : PhaseText). x.actors) text in
    let schedule = c.as_slice-2.ensures ∙ ap (λ (x : PhaseText). x.schedule) text in
    let started = c.in-Some.ensures.ready d t ready in
    let run = c.run.ensures in
    let back = comes_back d t c.start.new.self c.in-Some.running.world c.run.new.self
    c.in-Some.running.phase c.run.new.phase c.as_slice.result.now c.as_slice-2.result.now actors
    schedule out started run.same run.spare run.limit run.backed run.can run.over run.rest run.steps in (
      back.turns,
      are_own d t c.start.new.self c.in-Some.running.world c.run.new.self c.in-Some.running.phase
          c.run.new.phase c.as_slice.result.now c.as_slice-2.result.now actors schedule out started
          run.same run.spare run.limit run.backed run.can run.over run.rest run.steps,
      subst (λ (p : Place). FinishIs p c.finish.new.self
          (g.K.Sink.written c.args.sink.now) (g.K.Sink.written c.finish.new.out)
          (g.K.Sink.fault_count c.args.sink.now) (g.K.Sink.fault_count c.finish.new.out)
          (g.K.Sink.has_stopped c.finish.new.out) d t back.turns c.finish.result)
          c.start.ensures.place (c.finish.ensures.goes back),
    )
