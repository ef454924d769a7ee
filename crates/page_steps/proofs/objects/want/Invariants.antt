use Rattle.page_steps.specs.Turns.{wanting}
use Rattle.page_steps.proofs.objects.want.Given as goal

abbrev pub ghosts-take_by : goal.ghosts-take_by
ghosts-take_by g a = record { next = wanting a._a.now.class }
