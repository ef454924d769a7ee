use Rattle.page_steps.specs.Visits.{refraining}
use Rattle.post_steps.specs.Writeback.{without_block}
use Rattle.post_steps.proofs.visit.refrain.Given as goal

abbrev pub ghosts-give_by : goal.ghosts-give_by
ghosts-give_by g a = record { next = refraining (without_block a._x.now a._y.now) }
