use Rattle.page_steps.specs.Compactions.{moving, resting}
use Rattle.post_steps.proofs.sweep.move_one.Given as goal

abbrev pub ghosts-give_by : goal.ghosts-give_by
ghosts-give_by g a = record { next = moving a._x.now a._y.now }

abbrev pub ghosts-give_by-2 : goal.ghosts-give_by-2
ghosts-give_by-2 g a = record { next = resting a._x.now }
