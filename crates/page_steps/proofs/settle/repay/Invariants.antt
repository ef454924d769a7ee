use Rattle.page_steps.specs.Nexts.{repaying}
use Rattle.page_steps.proofs.settle.repay.Given as goal

abbrev pub ghosts-give_by : goal.ghosts-give_by
ghosts-give_by g a = record { next = repaying a._x.now }
