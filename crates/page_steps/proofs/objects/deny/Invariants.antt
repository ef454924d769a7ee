use Rattle.page_steps.specs.Nexts.{denying}
use Rattle.page_steps.specs.Calls.{end_of}
use Rattle.page_steps.proofs.objects.deny.Given as goal

abbrev pub ghosts-give_by : goal.ghosts-give_by
ghosts-give_by g a = record { next = denying (end_of a._x.now) }
