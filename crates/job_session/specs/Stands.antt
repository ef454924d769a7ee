-- The rest of the plain disk that a disk stands for.
use Rattle.std.specs.Prelude.{◌≡◌, ◌⊎◌, ◌^◌, ◌<◌, ◌≤◌, []}
use Rattle.zr_base.specs.declared.limits.TheConstants.{MOST_PAGES}
use Rattle.plain_disk.specs.Rests.{Rest, is_backed}
use Rattle.plain_disk.specs.Legal.{IsUnused}
use Rattle.joint_rule.specs.Starts.{IsMapOf}
use Rattle.joint_rule.specs.Ends.{begin_at}
use Rattle.disk_rest.specs.Resting.{StandsFor}
use Rattle.zr_core.specs.declared.limits.TheConstants.{MOST_CHAIN}
use Rattle.job_session.specs.Stepped.{Disk}

-- there is no disk yet, and nothing has happened; the device's count of writes isn't past its end
pub record IsBare (r : Rest) (d : Disk) : Type 0 where
  pub none : d.size ≡ 0
  pub empty : d.row ≡ []
  pub unused : IsUnused r
  pub writes : r.device.writes < 2 ^ 64

-- The disk has pages, and its row stands for the rest.
pub record HasRow (r : Rest) (d : Disk) : Type 0 where
  pub some : 1 ≤ d.size
  pub stands : StandsFor r d.row

-- The disk has the pages, the settings, the backing, the time, the device, the blocks and the writes
-- that are left of the rest, and its row stands for it, if there is one.
pub record Stands (r : Rest) (d : Disk) : Type 0 where
  pub size : r.size ≡ d.size
  pub most : d.size ≤ MOST_PAGES
  pub limit : r.set.limit ≡ d.limit
  pub backed : is_backed r ≡ d.backed
  pub clock : r.set.clock ≡ d.clock
  pub chain : r.set.chain ≡ MOST_CHAIN
  pub device : r.device ≡ d.device
  pub map : IsMapOf (begin_at r []) d.blocks
  pub row : IsBare r d ⊎ HasRow r d
