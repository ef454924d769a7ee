use Rattle.page_steps.specs.Visits.{putting_back}
use Rattle.post_steps.proofs.evict.put.Given as goal

abbrev pub ghosts-give_by : goal.ghosts-give_by
ghosts-give_by g a = record { next = putting_back a._x.now.pages }
