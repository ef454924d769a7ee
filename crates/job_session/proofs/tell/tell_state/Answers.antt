use Rattle.std.proofs.Common.{◌≡◌, sym, ◌∙◌, subst}
use Rattle.slot_entry.specs.declared.kept.Kept.TheVariants.{Empty}
use Rattle.job_session.specs.Telling.{Tells}
use Rattle.job_session.proofs.Sending.{Tells-none}
use Rattle.job_session.proofs.Reports.{state_none, state_some, state_of_entry, line_of_entry}
use Rattle.job_session.proofs.tell.tell_state.Goals as goal

pub entry-entry-requires-clause-home : goal.entry-entry-requires-clause-home
entry-entry-requires-clause-home g c = c.requires.rest.entries.each c.args.page c.requires.page

pub returns-in-Empty : goal.returns-in-Empty
returns-in-Empty g c =
    subst (Tells _ _ _)
    (sym (state_none c.args.world.now.row.cells c.args.page c.entry-entry.result.now
    c.entry-entry.ensures (sym c.kept.ensures ∙ c.in-Empty.is)))
    (Tells-none c.args.out.now)

pub returns-in_default : goal.returns-in_default
returns-in_default g c =
    let e = c.entry-entry.result.now in
    let some : e.kept ≡ Empty → ⊥ = λ none. c.in_default.not-Empty (c.kept.ensures ∙ none) in
    subst (Tells _ _ _)
    (state_some c.args.world.now.row.cells c.args.page e c.entry-entry.ensures some)
    (c.tell_state.ensures (line_of_entry c.args.page e)
    (state_of_entry c.args.page e _ c.touched.result c.letters.ensures c.touched.ensures))
