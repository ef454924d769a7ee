use Rattle.page_steps.specs.Scans.{marking}
use Rattle.post_steps.proofs.idle.mark.Given as goal

abbrev pub ghosts-give_by : goal.ghosts-give_by
ghosts-give_by g a = record { next = marking a._x.now a._y.now }
