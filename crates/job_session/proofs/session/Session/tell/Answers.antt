use Rattle.std.proofs.Common.{◌≤◌, length, sym, ap, ◌∙◌, subst}
use Rattle.zr_base.specs.declared.limits.TheConstants.{MOST_ACTORS}
use Rattle.zr_core.specs.Runs.{AllOver}
use Rattle.job_text.specs.declared.job.PhaseText.{PhaseText}
use Rattle.job_session.specs.Sessions.{place}
use Rattle.job_session.proofs.Extends.{next_may}
use Rattle.job_session.proofs.session.Session.tell.Goals as goal

pub send_phase-requires-clause-few : goal.send_phase-requires-clause-few
send_phase-requires-clause-few g c =
    let back = c.requires.back in
    let at = back.out.1 in
    let may = next_may (place c.args.self.now) back.text _ _ at.item at.may in
    subst (λ xs. length xs ≤ MOST_ACTORS)
    (sym (c.as_slice.ensures
    ∙ ap (λ (x : PhaseText). x.actors) (c.text-text.ensures.text back.text at.item)))
    may.may.0.few_actors

pub send_phase-requires-clause-over : goal.send_phase-requires-clause-over
send_phase-requires-clause-over g c =
    let back = c.requires.back in
    subst (λ xs. AllOver xs c.args.phase.now.workers.items)
    (sym (c.as_slice.ensures
    ∙ ap (λ (x : PhaseText). x.actors) (c.text-text.ensures.text back.text back.out.1.item)))
    back.over.over
