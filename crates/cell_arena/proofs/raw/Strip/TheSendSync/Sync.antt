use denote.Param.Send.{IsSync, struct_sync, sendable}
use denote.Struct.Owning.{shape, to}
use Rattle.cell_arena.proofs.Strips.{lent_bytes-Common}
use Rattle.cell_arena.specs.contracts.raw.Strip.{the_row, the_type}

pub sync : IsSync the_row
sync = record {
  shared = λ s b o κ. (
    (struct_sync (shape the_type) (search sendable, tt)).shared (to the_type s) b o κ,
    lent_bytes-Common s.ptr s.bytes κ,
  );
}
