-- A strip's bytes may be shared, and cross threads. Assumes `Logic`.
use Rattle.std.specs.Prelude.{ℕ, ◌+◌, List, [], ◌∷◌}
use Rattle.std.specs.Borrow.{u8}
use seplogic.Ra.Ura.{Ura}
use base.Fraction.{full_share}
use base.Fml.{Lft, ftrue, ffalse}
use base.Shift.{Keyless}
use mir.Syntax.{w8}
use types.Logic.{Logic}
use types.SemTy.{cells}
use denote.Memory.{mem, shared_of, part_at}
use denote.Param.Send.{Common, IsSend, IsSync, part_keyless, sendable}
use denote.Copied.{uint_Copied}
use denote.Plain.{uint_row_laws}
use denote.RawPtr.{Ptr, block_ptr, null_ptr}
use denote.Sharing.{ShrLaws}
use denote.SharingLaws.{said_shr_laws}
use denote.Slice.{elements_shared, elements_shr_laws}
use denote.Struct.Lending.{Lends, Lends-both, Lends-nothing, Lends-false}
use Rattle.cell_arena.specs.Ownership.{bytes_own, bytes_lent}

pub lent_laws : (p : Ptr) (xs : List ℕ) → ShrLaws (bytes_lent p xs)
lent_laws (block_ptr b o) xs = elements_shr_laws u8 (uint_row_laws w8) xs b o
lent_laws null_ptr xs = said_shr_laws ffalse tt

module _ {M : Type 1} {𝓤 : Ura M} (𝓛 : Logic 𝓤) (l : Lft) where
  Lends-cells : (xs : List ℕ) (b o : ℕ)
      → Lends 𝓛 (cells (mem u8) xs b o) (elements_shared u8 xs b o) l
  Lends-cells [] b o = Lends-nothing 𝓛 ftrue l
  Lends-cells (x ∷ xs) b o = Lends-both 𝓛 (part_at u8 full_share x b o)
      (cells (mem u8) xs b (o + 1)) (shared_of u8 x b o) (elements_shared u8 xs b (o + 1)) l
      (λ κ ts. (uint_Copied 𝓛 w8).shares full_share l x κ ts b o) (Lends-cells xs b (o + 1))

  pub Lends-bytes : (p : Ptr) (xs : List ℕ) → Lends 𝓛 (bytes_own p xs) (bytes_lent p xs) l
  Lends-bytes (block_ptr b o) xs = Lends-cells xs b o
  Lends-bytes null_ptr xs = Lends-false 𝓛 (bytes_lent null_ptr xs) l

u8_send : IsSend u8
u8_send = search sendable

u8_sync : IsSync u8
u8_sync = search sendable

cells-Keyless : (xs : List ℕ) (b o : ℕ) → Keyless (cells (mem u8) xs b o)
cells-Keyless [] b o = tt
cells-Keyless (x ∷ xs) b o = (part_keyless u8 u8_send full_share x b o, cells-Keyless xs b (o + 1))

lent-Common : (xs : List ℕ) (b o : ℕ) → Common (elements_shared u8 xs b o)
lent-Common [] b o κ = tt
lent-Common (x ∷ xs) b o κ = (u8_sync.shared x b o κ, lent-Common xs b (o + 1) κ)

pub bytes-Keyless : (p : Ptr) (xs : List ℕ) → Keyless (bytes_own p xs)
bytes-Keyless (block_ptr b o) xs = cells-Keyless xs b o
bytes-Keyless null_ptr xs = tt

pub lent_bytes-Common : (p : Ptr) (xs : List ℕ) → Common (bytes_lent p xs)
lent_bytes-Common (block_ptr b o) xs κ = lent-Common xs b o κ
lent_bytes-Common null_ptr xs κ = tt
