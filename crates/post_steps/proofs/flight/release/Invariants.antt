use Rattle.page_steps.specs.Visits.{undoing}
use Rattle.post_steps.proofs.flight.release.Given as goal

abbrev pub ghosts-give_by : goal.ghosts-give_by
ghosts-give_by g a = record { next = undoing a._x.now.pages }
