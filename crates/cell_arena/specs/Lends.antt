-- What a strip ends as, once a `&mut` to its bytes has ended.
use Rattle.std.specs.Prelude.{ℕ, List}
use Rattle.std.specs.Borrow.{Fml, MutBor, Array, Lends, u8}
use Rattle.cell_arena.specs.declared.raw.Strip.{Strip}
use Rattle.cell_arena.specs.contracts.raw.Strip.{the_row}

-- the strip ends with the bytes that the slice has then
abbrev pub lends_bytes : MutBor Strip → MutBor (List ℕ) → Fml
lends_bytes s r = Lends the_row (Array u8 0) s r (λ ws. record s.now { bytes = ws })
