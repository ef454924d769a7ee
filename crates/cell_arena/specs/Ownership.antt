-- What a strip of bytes owns and lends.
use Rattle.std.specs.Prelude.{ℕ, List}
use Rattle.std.specs.Borrow.{u8}
use base.Fml.{Lft, Fml, ffalse}
use types.SemTy.{cells}
use denote.Memory.{mem}
use denote.Sharing.{said}
use denote.Slice.{elements_shared}
use denote.RawPtr.{Ptr, block_ptr, null_ptr}

-- the bytes xs, side by side from p on
abbrev pub bytes_own : Ptr → List ℕ → Fml
bytes_own (block_ptr b o) xs = cells (mem u8) xs b o
bytes_own null_ptr xs = ffalse

-- what a `&` to them holds
abbrev pub bytes_lent : Ptr → List ℕ → Lft → Fml
bytes_lent (block_ptr b o) xs κ = elements_shared u8 xs b o κ
bytes_lent null_ptr xs κ = said ffalse κ
