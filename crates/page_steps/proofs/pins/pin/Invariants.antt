use Rattle.page_steps.specs.Nexts.{pinning}
use Rattle.page_steps.proofs.pins.pin.Given as goal

abbrev pub ghosts-give_by : goal.ghosts-give_by
ghosts-give_by g a = record { next = pinning a._x.now a._y.now }
