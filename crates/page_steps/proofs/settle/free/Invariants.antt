use Rattle.page_steps.specs.Nexts.{freeing}
use Rattle.page_steps.proofs.settle.free.Given as goal

abbrev pub ghosts-give_by : goal.ghosts-give_by
ghosts-give_by g a = record { next = freeing a._x.now }
