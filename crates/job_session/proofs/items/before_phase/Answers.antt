use Rattle.std.proofs.Common.{[], ◌∷◌, ◌++◌, take, sym, ap, ◌∙◌, subst}
use Rattle.std.proofs.lemmas.List.{take_more}
use Rattle.job_text.specs.declared.job.Item.{Item}
use Rattle.job_session.specs.Telling.{NoPhases}
use Rattle.job_session.proofs.Extends.{none_more, no_phase}
use Rattle.job_session.proofs.items.before_phase.Goals as goal

pub loop-at-preserved : goal.loop-at-preserved
loop-at-preserved c =
    let job = c.args.job.now in
    let at = c.loop-at.at in
    let item = c.index-job-at.result in
    subst NoPhases
    (sym (take_more job at item c.loop-at-test.true
    ∙ ap (λ (x : Item). take at job ++ x ∷ []) (sym c.index-job-at.is)))
    (none_more (take at job) item c.loop-at.invariant (no_phase item c.in_default.not-Phase))
