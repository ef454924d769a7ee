-- What holds of a block map's fields: the tree finds the free blocks, the count is that of the
-- owned ones.
use Rattle.std.specs.Prelude.{◌≡◌, ◌≤◌, length}
use Rattle.block_map.specs.declared.blocks.Blocks.TheInside.{Inside}
use Rattle.block_map.specs.declared.tree.TheConstants.{NONE}
use Rattle.block_map.specs.BlockMap.{BlockMap, owned_blocks}
use Rattle.block_map.specs.Tree.{IsBlockTree, HasLeaves}

-- no more blocks than there are numbers; the tree finds the free ones; the count is right
pub record IsInside (a : Inside) : Type 0 where
  pub few : length a.states.items ≤ NONE
  pub tree : IsBlockTree a.tree.items (length a.states.items)
  pub leaves : HasLeaves a.tree.items a.states.items
  pub owned : a.owned ≡ owned_blocks a.states.items

-- the map that the fields stand for
abbrev pub map_of : Inside → BlockMap
map_of a = record { states = a.states.items; budget = a.budget; enabled = a.enabled }
