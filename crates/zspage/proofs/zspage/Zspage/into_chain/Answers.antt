-- Where no cell is used all are at hand.
use Rattle.std.proofs.Common.{ap, ◌∙◌}
use Rattle.zspage.specs.Cells.{used_of}
use Rattle.zspage.proofs.MoveLaws.{here_free}
use Rattle.zspage.proofs.zspage.Zspage.into_chain.Goals as goal

pub gather-requires-clause-here : goal.gather-requires-clause-here
gather-requires-clause-here c =
    here_free c.self.inside.spots.items (ap (λ z. used_of z.cells) c.self.view_is ∙ c.requires)
