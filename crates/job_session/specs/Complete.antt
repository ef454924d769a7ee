-- Jobs that ask for no more than there is: no line of their outputs tells a refusal, but for want of
-- memory.
use Rattle.std.specs.Prelude.{◌≡◌, ◌⊎◌, ℕ, ◌+◌, ◌*◌, ◌≤◌, true, false, List, [], ◌∷◌, length, ⊤}
use Rattle.std.specs.List.{AllByRecursion}
use Rattle.zr_base.specs.declared.op.Op.{Op}
use Rattle.zr_base.specs.declared.op.OpEnd.{OpEnd}
use Rattle.zr_base.specs.declared.op.OpEnd.TheVariants as ends
use Rattle.zr_base.specs.Plain.{is_beyond}
use Rattle.mem_account.specs.declared.weight.Weight.{Weight}
use Rattle.plain_disk.specs.Output.{OutLine, ended, is_refusal}
use Rattle.plain_disk.specs.Rests.{Settings, Rest}
use Rattle.plain_disk.specs.Idles.{is_written_in}
use Rattle.plain_disk.specs.Legal.{Item, disk, backing, limit_to, lower_most, budget_to, budgeted_to, clock_to, asks, phase, Legal}

-- each operation of each actor lies on a disk of so many pages
abbrev pub LieOn : ℕ → List (List Op) → Type 0
LieOn size actors = AllByRecursion (AllByRecursion (λ op. is_beyond size op ≡ false)) actors

-- A phase of these actors has all that it may need: its requests lie on the disk; there is no limit, or
-- one of a chain's frames for each page and each actor; writebacks have no limit; and where there are
-- some, the disk uses a block of the device for each page and each actor.
pub record HasRoom (size : ℕ) (s : Settings) (actors : List (List Op)) : Type 0 where
  pub lie : LieOn size actors
  pub frames : (s.limit ≡ 0) ⊎ (s.chain * (size + length actors) ≤ s.limit)
  pub unlimited : s.budgeted ≡ false
  pub blocks : is_written_in actors ≡ true → size + length actors ≤ s.backing

-- the items ask for no more than there is, on a disk of so many pages, none before its size is given,
-- over a device of so many blocks, where this is set
abbrev pub HaveRoom : ℕ → ℕ → Settings → List Item → Type 0
HaveRoom blocks size s [] = ⊤
HaveRoom blocks size s (disk n ∷ items) = (size ≡ 0) × HaveRoom blocks n s items
HaveRoom blocks size s (backing n ∷ items) = (size ≡ 0) × (n ≤ blocks)
    × HaveRoom blocks size (record s { backing = n }) items
HaveRoom blocks size s (limit_to n ∷ items) =
    HaveRoom blocks size (record s { limit = n }) items
HaveRoom blocks size s (lower_most ∷ items) = HaveRoom blocks size s items
HaveRoom blocks size s (budget_to n ∷ items) =
    HaveRoom blocks size (record s { budget = n }) items
HaveRoom blocks size s (budgeted_to on ∷ items) =
    HaveRoom blocks size (record s { budgeted = on }) items
HaveRoom blocks size s (clock_to n ∷ items) =
    HaveRoom blocks size (record s { clock = n }) items
HaveRoom blocks size s (asks q ∷ items) = HaveRoom blocks size s items
HaveRoom blocks size s (phase actors ∷ items) =
    HasRoom size s actors × HaveRoom blocks size s items

-- a write was refused for want of memory
abbrev pub IsNoMemory : OpEnd → Type 0
IsNoMemory (ends.NoMemory done) = ⊤
IsNoMemory _ = ⊥

-- the line of such a write
abbrev pub TellsNoMemory : OutLine → Type 0
TellsNoMemory (ended tag end) = IsNoMemory end
TellsNoMemory _ = ⊥

-- each line that tells a refusal tells one for want of memory
abbrev pub RefuseForMemory : List OutLine → Type 0
RefuseForMemory lines = AllByRecursion (λ line. is_refusal line ≡ true → TellsNoMemory line) lines

-- where items ask for no more than there is, and the device doesn't fail, each refusal that they print
-- is one for want of memory
abbrev pub IsComplete : Type 0
IsComplete = (form : List ℕ → Weight) (r : Rest) (items : List Item) (lines : List OutLine)
    (last : Rest) → Legal form r items lines last → HaveRoom r.device.blocks r.size r.set items
    → last.device.faults ≡ r.device.faults → RefuseForMemory lines
