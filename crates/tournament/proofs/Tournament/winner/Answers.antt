-- The root is the winner.
use Rattle.std.proofs.Common.{◌<◌, ◌≡◌, length, arith, sym, subst, ◌∙◌}
use Rattle.std.proofs.lemmas.List.{get_or_default}
use Rattle.tournament.specs.Winner.{IsWinner}
use Rattle.tournament.specs.Tree.{node, blank}
use Rattle.tournament.proofs.TreeLaws.{root_wins}
use Rattle.tournament.proofs.Tournament.winner.Goals as goal

pub returns : goal.returns
returns c =
    let some : 0 < length c.self.inside.ranks.items =
    subst (λ xs. 0 < length xs) (sym c.self.view_is) c.requires in
    let low : 1 < length c.self.inside.nodes.items =
    omega (arith, c.self.invariant.long, c.self.invariant.fits) in
    let root : c.index.result.now ≡ node c.self.inside.nodes.items 1 =
    c.index.ensures ∙ get_or_default c.self.inside.nodes.items 1 c.index.result.now blank low in
    subst (λ xs. IsWinner xs c.index.result.now.first) c.self.view_is
    (subst (λ n. IsWinner c.self.inside.ranks.items n.first) (sym root)
    (root_wins _ c.self.inside.ranks.items c.self.inside.nodes.items c.self.invariant
    some))
