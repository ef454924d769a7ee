use denote.Param.Send.{IsSync, part_keyless}
use Rattle.cell_arena.specs.contracts.raw.Deed.{the_row}
use Rattle.cell_arena.proofs.raw.Deed.TheSendSync.Send.{send}

pub sync : IsSync the_row
sync = record { shared = λ d b o κ q. part_keyless the_row send q d b o }
