-- The disk of a new world, and the rest that it stands for.
use Rattle.std.proofs.Common.{◌≡◌, ◌^◌, ◌<◌, false, refl, inl, arith, []}
use Rattle.backing_dev.specs.Dev.{DeviceState}
use Rattle.plain_disk.specs.Legal.{IsFirst}
use Rattle.zr_core.specs.Rests.{no_blocks}
use Rattle.job_session.specs.Stands.{Stands}
use Rattle.job_session.specs.Stepped.{Disk, without_pages}
use Rattle.job_session.proofs.Legal.{first_rest}

-- the first rest is as it has to be
pub first_is : (device : DeviceState) → IsFirst device (first_rest device)
first_is device = record {
  no_disk = refl;
  unused = record { used = λ k lt. refl; most = refl; so_far = refl };
  set = refl;
  over = refl;
}

pub first_stands : (device : DeviceState) → device.writes < 2 ^ 64
    → Stands (first_rest device) (without_pages device)
first_stands device short = record {
  size = refl;
  most = omega arith;
  limit = refl;
  backed = refl;
  clock = refl;
  chain = refl;
  device = refl;
  map = record { blocks = refl; budget = refl; budgeted = refl };
  row = inl (record {
    none = refl;
    empty = refl;
    unused = (first_is device).unused;
    writes = short;
  });
}

-- the disk of a new world
pub bare_disk : (d : Disk) → d.size ≡ 0 → d.limit ≡ 0 → d.backed ≡ false → d.clock ≡ 0 → d.row ≡ []
    → d.blocks ≡ no_blocks → d ≡ without_pages d.device
bare_disk d size limit backed clock row blocks = λ i. record {
  size = size i;
  limit = limit i;
  backed = backed i;
  clock = clock i;
  row = row i;
  device = d.device;
  blocks = blocks i;
}
