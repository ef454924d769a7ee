use Rattle.page_steps.specs.Visits.{copying}
use Rattle.post_steps.proofs.copy.pin.Given as goal

abbrev pub ghosts-give_by : goal.ghosts-give_by
ghosts-give_by g a = record { next = copying a._x.now a._y.now }
