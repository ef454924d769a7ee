-- What is told of a disk's pools.
use Rattle.std.specs.Prelude.{◌≡◌, ℕ, ◌≤◌, Option, Some, None, length}
use Rattle.size_class.specs.declared.stat.ClassStat.{ClassStat}
use Rattle.zspage.specs.Cells.{used_of}
use Rattle.class_pool.specs.Pool.{PoolState, objects, AreGroups}

-- The statistics are those of the pool.
pub record IsStatOf (p : PoolState) (s : ClassStat) : Type 0 where
  pub class : s.class ≡ p.class
  pub size : s.size ≡ p.size
  pub chain : s.chain ≡ p.chain
  pub per : s.per ≡ p.per
  pub used : s.used ≡ length (objects p)
  pub zspages : s.zspages ≡ used_of p.zspages
  pub groups : AreGroups p s.groups

-- how many zspages there are, if there is a pool
abbrev pub zspages_of : Option PoolState → ℕ
zspages_of None = 0
zspages_of (Some p) = used_of p.zspages

-- The class has a pool with zspages, and these are its statistics.
pub record HasStat (x : Option PoolState) (s : ClassStat) : Type 0 where
  pub pool : PoolState
  pub there : x ≡ Some pool
  pub stat : IsStatOf pool s
  pub some : 1 ≤ s.zspages
