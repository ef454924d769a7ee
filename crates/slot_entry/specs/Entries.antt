-- What is seen of an entry, and what a kept form stands for.
use Rattle.std.specs.Prelude.{ℕ, Bool, true, false, ◌&&◌, ◌||◌, not, Option, None, is_none, List, cond, codes}
use Rattle.zr_base.specs.declared.op.Tag.{Tag}
use Rattle.zr_base.specs.declared.op.Mode.{Mode}
use Rattle.zr_base.specs.declared.op.Mode.TheVariants as mode
use Rattle.zr_base.specs.Plain.{is_older}
use Rattle.mem_account.specs.declared.weight.Weight.{Weight}
use Rattle.mem_account.specs.declared.weight.Weight.TheVariants as weight
use Rattle.slot_entry.specs.declared.kept.Kept.{Kept}
use Rattle.slot_entry.specs.declared.kept.Kept.TheVariants.{Empty, Same, Obj, Wb}
use Rattle.slot_entry.specs.Forms.{zero_page, filled_page}

-- the kept form, the order with its spare room, the block of the writeback that has marked the page,
-- whether it is marked idle, and the time of the last access
pub record EntryState : Type 0 where
  pub kept : Kept
  pub order : List Tag
  pub room : ℕ
  pub under : Option ℕ
  pub idle : Bool
  pub touched : ℕ

-- what the account counts of a kept form
abbrev pub weight_of : Kept → Weight
weight_of Empty = weight.Empty
weight_of (Same w) = weight.Same
weight_of (Obj o) = cond o.huge weight.Huge (weight.Packed o.len)
weight_of (Wb b) = weight.Back

-- the page of a form that needs no object and no block; another stands for no page by itself
abbrev pub plain_page : Kept → List ℕ
plain_page Empty = zero_page
plain_page (Same w) = filled_page w
plain_page (Obj o) = zero_page
plain_page (Wb b) = zero_page

-- the form needs no object and no block
abbrev pub IsPlain : Kept → Type 0
IsPlain Empty = Unit {0}
IsPlain (Same w) = Unit {0}
IsPlain (Obj o) = ⊥
IsPlain (Wb b) = ⊥

-- whether a page of this form is in the pool
abbrev pub is_obj : Kept → Bool
is_obj (Obj o) = true
is_obj _ = false

-- whether it is in a block of the device
abbrev pub is_wb : Kept → Bool
is_wb (Wb b) = true
is_wb _ = false

-- whether it is in the pool as its 4096 bytes
abbrev pub is_huge : Kept → Bool
is_huge (Obj o) = o.huge
is_huge _ = false

-- whether a page may be marked idle now, where its last access was more than so many seconds ago:
-- it is in the pool, and not under writeback
abbrev pub may_mark : ℕ → Option ℕ → EntryState → Bool
may_mark now age e = is_obj e.kept && (is_none e.under && is_older now age e.touched)

-- the entry after that
abbrev pub marked : ℕ → Option ℕ → EntryState → EntryState
marked now age e = record e { idle = e.idle || may_mark now age e }

-- whether the mark is new
abbrev pub is_new_mark : ℕ → Option ℕ → EntryState → Bool
is_new_mark now age e = may_mark now age e && not e.idle

-- whether a writeback of this mode takes a page, by its marks
abbrev pub is_meant : Mode → Kept → Bool → Bool
is_meant mode.Idle k idle = idle
is_meant mode.Huge k idle = is_huge k
is_meant mode.HugeIdle k idle = is_huge k && idle

-- whether a page may be written back: it is in the pool, not under writeback, and meant
abbrev pub is_eligible : Mode → EntryState → Bool
is_eligible m e = is_obj e.kept && (is_none e.under && is_meant m e.kept e.idle)

-- the entry after an access at this time: it has neither mark
abbrev pub touched_at : ℕ → EntryState → EntryState
touched_at now e = record e { under = None; idle = false; touched = now }

-- how a page is printed: one letter for a same-filled page, one for a page on the device, which has
-- no other, one for a huge one, and one for an idle one
abbrev pub letters_of : Kept → Bool → List ℕ
letters_of Empty idle = codes "...."
letters_of (Same w) idle = codes "s..."
letters_of (Obj o) idle =
    cond o.huge (cond idle (codes "..hi") (codes "..h.")) (cond idle (codes "...i") (codes "...."))
letters_of (Wb b) idle = codes ".w.."
