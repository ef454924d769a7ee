use Rattle.std.proofs.Common.{ℕ, sym, subst}
use Rattle.job_session.specs.Telling.{Tells}
use Rattle.job_session.proofs.Sending.{Tells-none}
use Rattle.job_session.proofs.Reports.{class_with, class_without, summary}
use Rattle.job_session.proofs.tell.tell_class.Goals as goal

pub returns-in-Some : goal.returns-in-Some
returns-in-Some g c =
    let pages : ℕ = c.args.world.now.pages in
    subst (Tells _ _ _)
    (class_with pages c.args.world.now.row.cells c.args.class c.requires.class c.in-Some.stat
    c.in-Some.ensures.some c.pools_count.ensures c.requires.rest.rests)
    (c.tell_class.ensures _ (summary pages c.args.world.now.row.cells c.args.class c.requires.class
    c.in-Some.stat c.in-Some.ensures.some c.pools_count.ensures c.requires.rest.rests))

pub returns-in-None : goal.returns-in-None
returns-in-None g c =
    subst (Tells _ _ _)
    (sym (class_without c.args.world.now.pages c.args.world.now.row.cells c.args.class
    c.requires.class c.pools_count.ensures c.requires.rest.rests c.in-None.ensures.none))
    (Tells-none c.args.out.now)
