-- The events of a scan that marks pages idle: one page after the other, in rising order, is taken and
-- given back, with the mark where it may be marked.
use Rattle.std.specs.Prelude.{◌≡◌, ℕ, ◌+◌, ◌==◌, Bool, true, false, cond, List, [], ◌∷◌, Option}
use Rattle.zr_base.specs.declared.op.Op.TheVariants.{Idle}
use Rattle.zr_base.specs.declared.op.OpEnd.TheVariants as ends
use Rattle.call_history.specs.declared.part.Part.{Part}
use Rattle.call_history.specs.declared.part.PartEnd.TheVariants as over
use Rattle.lock_row.specs.declared.names.Held.TheVariants as holds
use Rattle.lock_row.specs.declared.names.At.{At}
use Rattle.lock_row.specs.declared.names.At.TheVariants as at
use Rattle.lock_row.specs.declared.names.Scan.{Scan}
use Rattle.slot_entry.specs.Entries.{EntryState, marked, is_new_mark}
use Rattle.page_steps.specs.Steps.{Terms, DiskHeld, Here, slot, on, first_scan}
use Rattle.page_steps.specs.Nexts.{Next, ending_by, tail_of}

-- the scan that a stage is of
abbrev pub scan_at : At → Scan
scan_at (at.Scanning x) = x
scan_at (at.Marking x) = x
scan_at s = first_scan

-- it goes on to the next page, with one mark more where it is new
abbrev pub with_page : Scan → Bool → Scan
with_page x new = record { page = x.page + 1; marked = x.marked + cond new 1 0 }

-- no page is left, or another one
abbrev pub marking_by : Scan → Bool → Next
marking_by x true l v = ending_by l (over.Whole (ends.Marked x.marked)) (λ p. []) l.todo
marking_by x false l v =
    on l (at.Scanning x) (tail_of l.held) l.fresh l.pin l.owed l.ahead l.behind l.page l.fail

-- a page of so many was scanned, and marked anew or not
abbrev pub marking : ℕ → Bool → Next
marking size new l v =
    marking_by (with_page (scan_at l.at) new) (((scan_at l.at).page + 1) == size) l v

-- The giving of the value v by such a scan, after which the local is m.
pub data Marks (t : Terms) (l : Here) (v : DiskHeld) (m : Here) : Type 0 where
  -- the page is marked where it may be
  scans : (p : Part) (rest : List Part) (age : Option ℕ) (x : Scan) (e : EntryState)
      → l.todo ≡ p ∷ rest → p.op ≡ Idle age → l.at ≡ at.Marking x
      → l.held ≡ (slot x.page, holds.Slot e) ∷ []
      → v ≡ holds.Slot (marked t.clock age e)
      → m ≡ marking t.size (is_new_mark t.clock age e) l v → Marks t l v m
