-- The size classes: how large the cells of a class are, how many frames a chain of cells has, how
-- many cells fit, and which classes share a pool. After zsmalloc's size classes. A frame has 4096
-- bytes.
use Rattle.std.specs.Prelude.{ℕ, ◌+◌, ◌-◌, ◌*◌, ◌/◌, ◌%◌, ◌<◌, ◌≤◌, ◌==◌, ◌&&◌, Bool, nat_lt, if◌then◌else◌, zero, suc}

-- the bytes of a cell of class k
abbrev pub class_size : ℕ → ℕ
class_size k = 32 + 16 * k

-- the bytes of a chain of so many frames that no cell of class k can use
abbrev pub waste : ℕ → ℕ → ℕ
waste frames k = (frames * 4096) % class_size k

-- the number of frames from 1 to m that wastes least in class k, the least such number on a tie
unfoldable pub chain_of : ℕ → ℕ → ℕ
chain_of zero k = 1
chain_of (suc m) k = if nat_lt (waste (suc m) k) (waste (chain_of m k) k)
    then suc m else chain_of m k

-- what makes a number of frames the chain of class k at the limit m
pub record IsChain (m k frames : ℕ) : Type 0 where
  pub some : 1 ≤ frames
  pub within : frames ≤ m
  pub least : (other : ℕ) → 1 ≤ other → other ≤ m → waste frames k ≤ waste other k
  pub first : (other : ℕ) → 1 ≤ other → other < frames → waste frames k < waste other k

-- the whole cells of a chain of class k at the limit m
abbrev pub per_of : ℕ → ℕ → ℕ
per_of m k = chain_of m k * 4096 / class_size k

-- class k and the next have chains of one length with as many cells
abbrev pub shares_next : ℕ → ℕ → Bool
shares_next m k = (chain_of m k == chain_of m (k + 1)) && (per_of m k == per_of m (k + 1))

-- what the class that lies so far below class 254 stands as
unfoldable pub stands_below : ℕ → ℕ → ℕ
stands_below m zero = 254
stands_below m (suc depth) = if shares_next m (253 - depth)
    then stands_below m depth else 253 - depth

-- the class whose pool serves class k: what class k + 1 stands as where both share chain and cells,
-- else k itself
abbrev pub stands_of : ℕ → ℕ → ℕ
stands_of m k = stands_below m (254 - k)

-- k is the least class whose cells have so many bytes
pub record IsLeastFitting (need k : ℕ) : Type 0 where
  pub fits : need ≤ class_size k
  pub least : (other : ℕ) → need ≤ class_size other → k ≤ other
