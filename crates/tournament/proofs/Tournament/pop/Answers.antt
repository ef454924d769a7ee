-- The leaf of the last place is a spare one again, and the others stay.
use Rattle.std.proofs.Common.{◌<◌, ◌∙◌, length, ap, sym, subst, arith}
use Rattle.tournament.specs.Tree.{node}
use Rattle.tournament.proofs.TreeLaws.{written, pop_placed, at_len, at_half}
use Rattle.tournament.proofs.Tournament.pop.Goals as goal

pub invariant_of-self : goal.invariant_of-self
invariant_of-self c =
    let some : 0 < length c.self.inside.ranks.items =
    subst (λ xs. 0 < length xs) (sym c.self.view_is) c.requires in
    rw (written c.self.inside.nodes.len c.put.new.nodes c.self.inside.nodes.items
    (omega (arith, c.self.inside.nodes.ok, c.put.ensures.len, c.self.invariant.long)))
    (rw (c.pop.ensures.rest, ← c.len-place.ensures)
    (at_half _ _ _ (pop_placed _ _ _ c.self.inside.nodes.items _
    (at_len _ _ _ c.self.invariant (c.len-room.ensures ∙ c.self.inside.nodes.ok.0))
    (omega (arith, some, c.len-place.ensures)) c.put.ensures.len c.put.ensures.tree
    (c.put.ensures.here ∙ c.spare.ensures)
    (λ k leaf high other. c.put.ensures.others k leaf high other
    ∙ ap (λ ns. node ns k) c.deref_mut.ensures.value))))
