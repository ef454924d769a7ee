use Rattle.page_steps.specs.Nexts.{fetching, missing}
use Rattle.page_steps.proofs.device.fetch.Given as goal

abbrev pub ghosts-give_by : goal.ghosts-give_by
ghosts-give_by g a = record { next = fetching a._x.now.page }

abbrev pub ghosts-give_by-2 : goal.ghosts-give_by-2
ghosts-give_by-2 g a = record { next = missing a._x.now }
