-- What the tree's root says of the states.
use Rattle.block_map.proofs.Least.{least_found, none_found}
use Rattle.block_map.proofs.blocks.Blocks.least_free.Goals as goal

pub returns-clause-found : goal.returns-clause-found
returns-clause-found c =
    rw (← c.self.view_is) (least_found c.self.inside.tree.items c.self.inside.states.items
    c.least.result
    c.self.invariant.tree c.self.invariant.leaves
    (rw (← c.deref.ensures.value) c.least.ensures.found))

pub returns-clause-none : goal.returns-clause-none
returns-clause-none c =
    rw (← c.self.view_is) (none_found c.self.inside.tree.items c.self.inside.states.items
    c.least.result
    c.self.invariant.tree c.self.invariant.leaves c.self.invariant.few
    (rw (← c.deref.ensures.value) c.least.ensures.none))
