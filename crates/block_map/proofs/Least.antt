-- The root of the tournament is the least free block.
use Rattle.std.proofs.Common.{◌≡◌, ℕ, zero, suc, ◌+◌, ◌-◌, ◌*◌, ◌/◌, ◌<◌, ◌≤◌, ◌⊎◌, inl, inr, List, length, get_or, Option, None, Some, IfSome, IfNone, slice_get, slice_index, arith, ◌∙◌, refl, ap, subst}
use Rattle.std.proofs.lemmas.Bool.{cases_eq, cases_lt}
use Rattle.std.proofs.lemmas.Option.{slice_get-get_or, get_or_from_slice_get, slice_get_within}
use Rattle.block_map.specs.declared.state.BlockState.{BlockState}
use Rattle.block_map.specs.declared.state.BlockState.TheVariants.{Free, Held, Owned, Left}
use Rattle.block_map.specs.declared.tree.TheConstants.{NONE}
use Rattle.block_map.specs.BlockMap.{IsLeastFree, HasNoFree}
use Rattle.block_map.specs.Tree.{IsBlockTree, IsRoot, HasLeaves, block_number}

-- The root's number is at most that of each place

lesser_than_child : (tree : List ℕ) (n k p : ℕ) → IsBlockTree tree n → p ≡ k / 2 → 0 < p → k < 2 * n
    → slice_index tree p ≤ slice_index tree k
lesser_than_child tree n k p t half above within =
    let lesser = t.lesser p above (omega arith) in
    elim (cases_eq k (2 * p)) [
      | inl even ↦ rw even (omega (arith, lesser))
      | inr odd ↦ let after : k ≡ 2 * p + 1 = omega arith in rw after (omega (arith, lesser))
    ]

root_least_by : (tree : List ℕ) (n fuel k : ℕ) → IsBlockTree tree n → k ≤ fuel → 0 < k → k < 2 * n
    → slice_index tree 1 ≤ slice_index tree k
root_least_by tree n zero k t few above within = absurd (omega arith)
root_least_by tree n (suc fuel) k t few above within =
    elim (cases_lt 1 k) [
      | inl deeper ↦
          let above_half : 0 < k / 2 = omega arith in
          let half = root_least_by tree n fuel (k / 2) t (omega arith) above_half (omega arith) in
          omega (arith, half, lesser_than_child tree n k (k / 2) t refl above_half within)
      | inr first ↦ let root : k ≡ 1 = omega arith in rw root (omega arith)
    ]

pub root_least : (tree : List ℕ) (n k : ℕ) → IsBlockTree tree n → 0 < k → k < 2 * n
    → slice_index tree 1 ≤ slice_index tree k
root_least tree n k t above within = root_least_by tree n k k t (omega arith) above within

-- The root's number is that of a leaf

abbrev IsOfLeaf : List ℕ → ℕ → ℕ → Type 0
IsOfLeaf tree n j = (b : ℕ) × (b < n) × (slice_index tree j ≡ slice_index tree (n + b))

of_leaf_by : (tree : List ℕ) (n fuel j : ℕ) → IsBlockTree tree n → 2 * n ≤ j + fuel → 0 < j
    → j < 2 * n
    → IsOfLeaf tree n j
of_leaf_by tree n zero j t enough above within = absurd (omega arith)
of_leaf_by tree n (suc fuel) j t enough above within =
    elim (cases_lt j n) [
      | inl inner ↦
          let lesser = t.lesser j above inner in
          elim (cases_lt (slice_index tree (2 * j)) (slice_index tree (2 * j + 1))) [
            | inl left ↦
                let deeper : 0 < 2 * j = omega arith in
                let below = of_leaf_by tree n fuel (2 * j) t (omega arith) deeper (omega arith) in
                (below.0, below.1, omega (arith, lesser, below.2))
            | inr right ↦
                let deeper : 0 < 2 * j + 1 = omega arith in
                let below = of_leaf_by tree n fuel (2 * j + 1) t (omega arith) deeper
                (omega arith) in
                (below.0, below.1, omega (arith, lesser, below.2))
          ]
      | inr leaf ↦ let place : n + (j - n) ≡ j = omega arith in (j - n, omega arith, rw place refl)
    ]

-- Numbers of leaves

below_none_free : (s : BlockState) (b : ℕ) → block_number s b < NONE → s ≡ Free
below_none_free Free b h = refl
below_none_free Held b h = absurd (omega arith)
below_none_free Owned b h = absurd (omega arith)
below_none_free Left b h = absurd (omega arith)

own_number : (s : BlockState) (b : ℕ) → s ≡ Free → block_number s b ≡ b
own_number s b free = ap (λ (t : BlockState). block_number t b) free

-- no free block has a number below the root's
pub root_below : (tree : List ℕ) (states : List BlockState) (c : ℕ)
    → IsBlockTree tree (length states)
    → HasLeaves tree states
    → slice_get states c ≡ Some Free → (c < length states) × (slice_index tree 1 ≤ c)
root_below tree states c t leaves free =
    let within : c < length states = slice_get_within states c Free free in
    let state : get_or states c Left ≡ Free = get_or_from_slice_get states c Free Left free in
    let own : slice_index tree (length states + c) ≡ c = leaves c within ∙ own_number _ c state in (
      within,
      omega (
        arith,
        own,
        root_least tree (length states) (length states + c) t (omega arith)
            (omega arith),
      ),
    )

-- a root that isn't NONE is the least free block
pub least_free : (tree : List ℕ) (states : List BlockState) → IsBlockTree tree (length states)
    → HasLeaves tree states
    → 1 < length tree → slice_index tree 1 < NONE → IsLeastFree states (slice_index tree 1)
least_free tree states t leaves some small =
    let places = t.places in
    let leaf = of_leaf_by tree (length states) (2 * length states) 1 t (omega arith) (omega arith)
    (omega arith) in
    let state = get_or states leaf.0 Left in
    let there : slice_get states leaf.0 ≡ Some state = slice_get-get_or states leaf.0 Left leaf.1 in
    let number : slice_index tree (length states + leaf.0) ≡ block_number state leaf.0 =
    leaves leaf.0
    leaf.1 in
    let is_free : state ≡ Free = below_none_free state leaf.0 (omega (arith, leaf.2, number)) in
    let own = own_number state leaf.0 is_free in
    let is_block : leaf.0 ≡ slice_index tree 1 = omega (arith, leaf.2, number, own) in (
      subst (λ (b : ℕ). slice_get states b ≡ Some Free) is_block (there ∙ ap Some is_free),
      λ c below free. let bound = root_below tree states c t leaves free in omega (arith, bound.1),
    )

-- a root that is NONE leaves no block free
pub none_free : (tree : List ℕ) (states : List BlockState) → IsBlockTree tree (length states)
    → HasLeaves tree states
    → length states ≤ NONE → (NONE ≤ slice_index tree 1) ⊎ (length tree ≤ 1) → HasNoFree states
none_free tree states t leaves few root b free =
    let bound = root_below tree states b t leaves free in
    elim root [
      | inl high ↦ omega (arith, bound.0, bound.1)
      | inr short ↦ omega (arith, bound.0, t.places)
    ]

-- What the search in the tree answers

pub least_found : (tree : List ℕ) (states : List BlockState) (found : Option ℕ)
    → IsBlockTree tree (length states) → HasLeaves tree states
    → IfSome found (IsRoot tree)
    → IfSome found (IsLeastFree states)
least_found tree states None t leaves told = tt
least_found tree states (Some b) t leaves told =
    let small : slice_index tree 1 < NONE = omega (arith, told.0, told.1) in
    rw told.0 (least_free tree states t leaves told.2 small)

pub none_found : (tree : List ℕ) (states : List BlockState) (found : Option ℕ)
    → IsBlockTree tree (length states) → HasLeaves tree states
    → length states ≤ NONE → IfNone found ((NONE ≤ slice_index tree 1) ⊎ (length tree ≤ 1))
    → IfNone found (HasNoFree states)
none_found tree states None t leaves few told = none_free tree states t leaves few told
none_found tree states (Some b) t leaves few told = tt
