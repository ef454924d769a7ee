use Rattle.page_steps.specs.Visits.{paying}
use Rattle.post_steps.proofs.evict.pay.Given as goal

abbrev pub ghosts-give_by : goal.ghosts-give_by
ghosts-give_by g a = record { next = paying a._x.now }
