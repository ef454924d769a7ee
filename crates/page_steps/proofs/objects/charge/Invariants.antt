use Rattle.page_steps.specs.Nexts.{charging}
use Rattle.page_steps.specs.Calls.{bytes_by}
use Rattle.page_steps.proofs.objects.charge.Given as goal

abbrev pub ghosts-give_by : goal.ghosts-give_by
ghosts-give_by g a = record { next = charging a._x.now.class a._x.now.handle.0 (bytes_by a._z.now a._x.now.huge) a._y.now }
