-- What a piece leaves of its page, and the form that it leaves.
use Rattle.std.specs.Prelude.{ℕ, zero, suc, ◌+◌, ◌*◌, List, [], ◌∷◌, ◌++◌, Option, Some, None}
use Rattle.zr_base.specs.declared.op.Op.{Op}
use Rattle.zr_base.specs.declared.op.Op.TheVariants.{Write, Read, Discard, Idle, Writeback, Compact}
use Rattle.zr_base.specs.Sectors.{page_sector}
use Rattle.zr_base.specs.Plain.{sector_after}
use Rattle.call_history.specs.declared.part.Part.{Part}
use Rattle.zspage.specs.Cells.{CellState, object_in}
use Rattle.slot_entry.specs.declared.kept.Stored.{Stored}
use Rattle.slot_entry.specs.declared.kept.Kept.{Kept}
use Rattle.slot_entry.specs.Entries.{plain_page}
use Rattle.slot_entry.specs.Forms.{PageForm, Blank, form_of, class_in, page_kept_as}

-- n lists joined, from one on
abbrev pub join : (ℕ → List ℕ) → ℕ → ℕ → List ℕ
join f a zero = []
join f a (suc n) = f a ++ join f (a + 1) n

-- the page after a piece
unfoldable pub page_after : Part → List ℕ → List ℕ
page_after p page = join (λ k. sector_after p.op (8 * p.page + k) (page_sector page k)) 0 8

-- the page whose object is in a cell
abbrev pub page_in_cell : Stored → CellState → List ℕ
page_in_cell o cell = page_kept_as (object_in o.len cell.bytes) o.huge

-- the page that an actor sees: the one that it read, or that of its entry
abbrev pub page_in : Option (List ℕ) → Kept → List ℕ
page_in (Some page) k = page
page_in None k = plain_page k

-- the form that an operation's piece leaves of a page
abbrev pub next_by : Op → Part → List ℕ → PageForm
next_by (Write start count stuff) p page = form_of (page_after p page)
next_by (Read start count) p page = Blank
next_by (Discard start count) p page = Blank
next_by (Idle age) p page = Blank
next_by (Writeback mode) p page = Blank
next_by Compact p page = Blank

-- the form that a piece leaves, by what its actor sees
abbrev pub next_form : Part → Option (List ℕ) → Kept → PageForm
next_form p page k = next_by p.op p (page_in page k)

-- the class of the new object of the piece in work, where chains have at most so many frames
abbrev pub new_class : ℕ → List Part → Option (List ℕ) → Kept → ℕ
new_class chain [] page k = 0
new_class chain (p ∷ ps) page k = class_in chain (next_form p page k)
