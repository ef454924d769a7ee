-- The root has the last winner.
use Rattle.std.proofs.Common.{◌<◌, ◌≡◌, length, arith, sym, subst, ◌∙◌}
use Rattle.std.proofs.lemmas.List.{get_or_default}
use Rattle.tournament.specs.Winner.{IsLastWinner}
use Rattle.tournament.specs.Tree.{node, blank}
use Rattle.tournament.proofs.TreeLaws.{root_wins_last}
use Rattle.tournament.proofs.Tournament.last_winner.Goals as goal

pub returns : goal.returns
returns c =
    let some : 0 < length c.self.inside.ranks.items =
    subst (λ xs. 0 < length xs) (sym c.self.view_is) c.requires in
    let low : 1 < length c.self.inside.nodes.items =
    omega (arith, c.self.invariant.long, c.self.invariant.fits) in
    let root : c.index.result.now ≡ node c.self.inside.nodes.items 1 =
    c.index.ensures ∙ get_or_default c.self.inside.nodes.items 1 c.index.result.now blank low in
    subst (λ xs. IsLastWinner xs c.index.result.now.last) c.self.view_is
    (subst (λ n. IsLastWinner c.self.inside.ranks.items n.last) (sym root)
    (root_wins_last _ c.self.inside.ranks.items c.self.inside.nodes.items c.self.invariant
    some))
