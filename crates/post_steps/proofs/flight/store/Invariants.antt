use Rattle.page_steps.specs.Visits.{spoiling}
use Rattle.post_steps.proofs.flight.store.Given as goal

abbrev pub ghosts-give_by : goal.ghosts-give_by
ghosts-give_by g a = record { next = spoiling a._x.now }
