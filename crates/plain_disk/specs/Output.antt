-- The lines of an output.
use Rattle.std.specs.Prelude.{ℕ, ◌+◌, Bool, true, false, ◌||◌, List, [], ◌∷◌, ◌++◌, map}
use Rattle.zr_base.specs.declared.op.Tag.{Tag}
use Rattle.zr_base.specs.declared.op.OpEnd.{OpEnd}
use Rattle.zr_base.specs.declared.op.OpEnd.TheVariants as ends
use Rattle.mem_account.specs.declared.account.MmStat.{MmStat}
use Rattle.mem_account.specs.declared.account.IoStat.{IoStat}
use Rattle.backing_dev.specs.declared.stat.BdStat.{BdStat}
use Rattle.mem_account.specs.declared.weight.Weight.{Weight}

-- a page that isn't empty: its number, how it is kept, whether it is marked idle, and when it was
-- touched
pub record StateLine : Type 0 where
  pub page : ℕ
  pub kept : Weight
  pub idle : Bool
  pub touched : ℕ

-- a class that has zspages: its number, the most frames of a chain, and how many cells of each
-- zspage are used
pub record ClassLine : Type 0 where
  pub class : ℕ
  pub chain : ℕ
  pub used : List ℕ

-- Why an attribute is refused.
pub data AttrRefusal : Type 0 where
  -- the disk's size is set already
  disksize_busy : AttrRefusal
  -- it is set, so that no backing can be
  backing_busy : AttrRefusal
  -- the device has fewer blocks
  backing_range : AttrRefusal

-- A line of an output.
pub data OutLine : Type 0 where
  -- how an operation ended
  ended : Tag → OpEnd → OutLine
  -- the bytes of a sector that was read
  sector : List ℕ → OutLine
  -- the order of a page
  ordered : ℕ → List Tag → OutLine
  -- the statistics of the memory
  memory : MmStat → OutLine
  -- those of what failed, was refused or was discarded
  calls : IoStat → OutLine
  -- those of the backing device
  device_calls : BdStat → OutLine
  -- an attribute that was refused
  refused : AttrRefusal → OutLine
  -- a page that isn't empty
  state : StateLine → OutLine
  -- a class of the pool
  class_of : ClassLine → OutLine

-- an operation's line, and those of the sectors that it tells
abbrev pub op_lines : Tag → OpEnd → List (List ℕ) → List OutLine
op_lines tag end got = ended tag end ∷ map sector got

-- the lines of actor a's operations from the k-th on
abbrev pub actor_lines : ℕ → ℕ → List OpEnd → List (List (List ℕ)) → List OutLine
actor_lines a k (end ∷ es) (got ∷ gots) =
    op_lines (record { actor = a; op = k }) end got ++ actor_lines a (k + 1) es gots
actor_lines a k [] gots = []
actor_lines a k (end ∷ es) [] = []

-- the lines of the actors from the a-th on
abbrev pub actors_lines : ℕ → List (List OpEnd) → List (List (List (List ℕ))) → List OutLine
actors_lines a (es ∷ more) (gots ∷ others) =
    actor_lines a 0 es gots ++ actors_lines (a + 1) more others
actors_lines a [] gots = []
actors_lines a (es ∷ more) [] = []

-- a page's order, where some call stands in it
abbrev pub order_line : ℕ → List Tag → List OutLine
order_line p [] = []
order_line p (tag ∷ tags) = ordered p (tag ∷ tags) ∷ []

-- the orders of the pages from the p-th on
abbrev pub order_lines : ℕ → List (List Tag) → List OutLine
order_lines p [] = []
order_lines p (order ∷ orders) = order_line p order ++ order_lines (p + 1) orders

-- the lines of a phase with these ends, sectors read and orders
abbrev pub phase_lines : List (List OpEnd) → List (List (List (List ℕ))) → List (List Tag)
    → List OutLine
phase_lines es gots orders = actors_lines 0 es gots ++ order_lines 0 orders

-- whether an operation with this end was refused
abbrev pub is_refused : OpEnd → Bool
is_refused ends.Ok = false
is_refused (ends.Marked pages) = false
is_refused (ends.Written wrote lost) = false
is_refused (ends.Compacted moves frames) = false
is_refused _ = true

-- whether a line says that something was refused; the status is 1 where some line of the output
-- does
abbrev pub is_refusal : OutLine → Bool
is_refusal (ended tag end) = is_refused end
is_refusal (refused why) = true
is_refusal _ = false

-- whether some line says that something was refused
abbrev pub any_refusal : List OutLine → Bool
any_refusal [] = false
any_refusal (line ∷ lines) = is_refusal line || any_refusal lines
