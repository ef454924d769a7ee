-- The tree and the count go with the state.
use Rattle.std.proofs.Common.{◌≡◌, ◌<◌, length, arith, ap, rules}
use Rattle.std.proofs.Math.ListN.{length-set}
use Rattle.std.proofs.lemmas.List.{with_items_is}
use Rattle.std.specs.Vec.{with_items}
use Rattle.block_map.specs.BlockMap.{BlockMap}
use Rattle.block_map.proofs.Changed.{owned_blocks-set, HasLeaves-set}
use Rattle.block_map.proofs.blocks.Blocks.set.Goals as goal

pub overflow_add-self : goal.overflow_add-self
overflow_add-self c =
    let states = c.self.inside.states.items in
    let same = ap (λ (m : BlockMap). length m.states) c.self.view_is in
    let within : c.args.b < length states = omega (arith, same) in
    let count =
    owned_blocks-set states c.args.b c.args.state c.index.result.now c.self.inside.owned
    c.owned.result
    c.owned-2.result within c.self.invariant.owned c.index.ensures c.owned.ensures c.owned-2.ensures
    in
    omega (arith, count.few, c.self.invariant.few)

pub invariant_of-self : goal.invariant_of-self
invariant_of-self c =
    let states = c.self.inside.states.items in
    let tree = c.self.inside.tree in
    let same = ap (λ (m : BlockMap). length m.states) c.self.view_is in
    let within : c.args.b < length states = omega (arith, same) in
    let count =
    owned_blocks-set states c.args.b c.args.state c.index.result.now c.self.inside.owned
    c.owned.result
    c.owned-2.result within c.self.invariant.owned c.index.ensures c.owned.ensures c.owned-2.ensures
    in
    let blocks : c.len.result ≡ length states = search rules in
    let whole : (with_items tree c.put.new.tree).items ≡ c.put.new.tree =
    with_items_is tree c.put.new.tree (search rules)
    in
    record {
      few = rw length-set c.self.invariant.few;
      tree = rw (length-set, whole, ← blocks) c.put.ensures.tree;
      leaves = rw whole (HasLeaves-set tree.items c.put.new.tree states c.args.b c.args.state
          c.self.invariant.leaves within
          (rw (← blocks, ← c.number.ensures) c.put.ensures.leaf)
          (rw (← blocks, ← c.deref_mut.ensures.value) c.put.ensures.others));
      owned = count.is;
    }
