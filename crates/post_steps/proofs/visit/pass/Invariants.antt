use Rattle.page_steps.specs.Visits.{passing}
use Rattle.post_steps.proofs.visit.pass.Given as goal

abbrev pub ghosts-give_by : goal.ghosts-give_by
ghosts-give_by g a = record { next = passing a._x.now.pages }
