use Rattle.page_steps.specs.Visits.{evicting}
use Rattle.post_steps.proofs.evict.free.Given as goal

abbrev pub ghosts-give_by : goal.ghosts-give_by
ghosts-give_by g a = record { next = evicting a._x.now a._y.now }
