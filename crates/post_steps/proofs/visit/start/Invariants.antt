use Rattle.post_steps.specs.Writeback.{entering}
use Rattle.post_steps.proofs.visit.start.Given as goal

abbrev pub ghosts-take_by : goal.ghosts-take_by
ghosts-take_by g a = record { next = entering a._a.now.mode }
