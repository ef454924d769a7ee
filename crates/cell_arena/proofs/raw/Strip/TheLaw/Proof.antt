-- A `&` to a strip reaches each byte. Assumes `Logic`.
use denote.Param.Shared.{copy_shared}
use denote.Struct.Field.{RawPtr-field}
use denote.Struct.Laws.{RawPtr-copy}
use denote.Struct.Lending.{of_Lends}
use Rattle.cell_arena.specs.contracts.raw.Strip as C
use Rattle.cell_arena.proofs.Strips.{lent_laws, Lends-bytes}
use Rattle.cell_arena.proofs.raw.Strip.TheLaw.Statement.{statement}

pub shares : statement
shares = of_Lends C.struct C.the_codes C.the_heap C.the_lent
    (λ s p. lent_laws s.ptr s.bytes) (copy_shared RawPtr-field RawPtr-copy, tt)
    (λ M 𝓤 𝓛 s p. Lends-bytes 𝓛 C.the_row.lives s.ptr s.bytes)
