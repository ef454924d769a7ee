-- A block's state changes: the tree's leaves and the count of owned blocks go with it.
use Rattle.std.proofs.Common.{◌≡◌, ℕ, ◌+◌, ◌-◌, ◌<◌, ◌≤◌, List, [], ◌∷◌, length, replicate, get_or, set, slice_index, arith, ◌∙◌, ap, inl, inr}
use Rattle.std.proofs.lemmas.Bool.{cases_eq}
use Rattle.std.proofs.lemmas.List.Sums.{sum_by-set, sum_by-cons, get_or-le-sum_by}
use Rattle.std.proofs.lemmas.List.{get_or-set_same, get_or-set_other, get_or-replicate, length-replicate}
use Rattle.std.proofs.lemmas.List.Folds.{sum_by-replicate}
use Rattle.std.proofs.Math.ListN.{length-set}
use Rattle.block_map.specs.declared.state.BlockState.{BlockState}
use Rattle.block_map.specs.declared.state.BlockState.TheVariants.{Free, Held, Owned, Left}
use Rattle.block_map.specs.BlockMap.{owned_of, owned_blocks}
use Rattle.block_map.specs.Tree.{HasLeaves, HasOwnNumbers, KeepsLeavesBut, block_number}

-- The count of owned blocks

owned_of-le : (s : BlockState) → owned_of s ≤ 1
owned_of-le Free = omega arith
owned_of-le Held = omega arith
owned_of-le Owned = omega arith
owned_of-le Left = omega arith

-- no more blocks are owned than there are
pub owned_blocks-le : (states : List BlockState) → owned_blocks states ≤ length states
owned_blocks-le [] = omega arith
owned_blocks-le (s ∷ states) = omega (
  arith,
  sum_by-cons owned_of s states,
  owned_of-le s,
  owned_blocks-le states,
)

-- the count after one block's change
pub record IsNewCount (states : List BlockState) (b : ℕ) (s : BlockState) (count : ℕ) : Type 0 where
  pub is : count ≡ owned_blocks (set states b s)
  pub few : count ≤ length states

pub owned_blocks-set : (states : List BlockState) (b : ℕ) (s was : BlockState) (owned gone come : ℕ)
    → b < length states
    → owned ≡ owned_blocks states → was ≡ get_or states b was → gone ≡ owned_of was
    → come ≡ owned_of s
    → IsNewCount states b s (owned - gone + come)
owned_blocks-set states b s was owned gone come within is there left put =
    let before : gone ≡ owned_of (get_or states b was) = left ∙ ap owned_of there in
    let all : owned - gone + come ≡ owned_blocks (set states b s) =
    omega (
      arith,
      before,
      is,
      put,
      sum_by-set owned_of states b s was within,
      get_or-le-sum_by owned_of
          states b was within,
    )
    in
    let most = owned_blocks-le (set states b s) in
    record { is = all; few = omega (arith, all, most, length-set states b s) }

-- The leaves

-- the leaves after one block's change
pub HasLeaves-set : (tree changed : List ℕ) (states : List BlockState) (b : ℕ) (s : BlockState)
    → HasLeaves tree states → b < length states
    → slice_index changed (length states + b) ≡ block_number s b
    → KeepsLeavesBut tree changed (length states) b
    → HasLeaves changed (set states b s)
HasLeaves-set tree changed states b s leaves within here others c inside =
    rw length-set (elim (cases_eq c b) [
      | inl same ↦ rw (same, get_or-set_same states b s Left within) here
      | inr other ↦
          let before : c < length states = omega (arith, length-set states b s) in
          rw (get_or-set_other states b c s Left other) (others c other ∙ leaves c before)
    ])

-- A new map

pub HasLeaves-replicate : (tree : List ℕ) (n : ℕ) → HasOwnNumbers tree n
    → HasLeaves tree (replicate n Free)
HasLeaves-replicate tree n leaves b within =
    let inside : b < n = omega (arith, length-replicate n Free) in
    rw (length-replicate n Free, get_or-replicate n b Free Left inside) (leaves b inside)

pub owned_blocks-replicate : (n : ℕ) → 0 ≡ owned_blocks (replicate n Free)
owned_blocks-replicate n = omega (arith, sum_by-replicate owned_of n Free)
