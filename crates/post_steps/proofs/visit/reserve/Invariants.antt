use Rattle.page_steps.specs.Visits.{reserving}
use Rattle.post_steps.proofs.visit.reserve.Given as goal

abbrev pub ghosts-give_by : goal.ghosts-give_by
ghosts-give_by g a = record { next = reserving a._x.now }
