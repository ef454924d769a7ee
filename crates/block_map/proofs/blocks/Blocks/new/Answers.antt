-- All blocks are free, so each leaf has its own number and no block is owned.
use Rattle.std.proofs.Common.{◌≡◌, arith, replicate}
use Rattle.std.proofs.lemmas.List.{length-replicate}
use Rattle.block_map.specs.declared.state.BlockState.TheVariants.{Free}
use Rattle.block_map.proofs.Changed.{HasLeaves-replicate, owned_blocks-replicate}
use Rattle.block_map.proofs.blocks.Blocks.new.Goals as goal

pub invariant_of-result : goal.invariant_of-result
invariant_of-result c =
    let clones = c.in_ok-states.ensures.items_if_clones_equal in
    let states : c.in_ok-states.states.items ≡ replicate c.args.blocks Free = clones (λ _ e. e) in
    record {
      few = rw (states, length-replicate c.args.blocks Free) (omega arith);
      tree = rw (states, length-replicate c.args.blocks Free) c.in_ok-tree.ensures.tree;
      leaves = rw states (HasLeaves-replicate c.in_ok-tree.tree.items c.args.blocks
          c.in_ok-tree.ensures.leaves);
      owned = rw states (owned_blocks-replicate c.args.blocks);
    }
