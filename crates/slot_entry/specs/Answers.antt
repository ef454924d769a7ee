-- What is answered of a page that was written.
use Rattle.std.specs.Prelude.{◌≡◌, ℕ, ◌<◌, ◌≤◌, false, true, List, length}
use Rattle.same_fill.specs.Filled.{IsFilled}
use Rattle.bdi_page.specs.Packing.{IsPacking}
use Rattle.slot_entry.specs.Forms.{Word, Pooled, form_of, IsSame}
use Rattle.slot_entry.specs.declared.form.Form.{Form}
use Rattle.slot_entry.specs.declared.form.Form.TheVariants.{Same, Packed, Huge}
use Rattle.slot_entry.specs.declared.limits.TheConstants.{MOST_PACKED}

-- What a form says of a page: all its words are this one; or some differ, and its packing, which
-- was left, is short enough; or some differ, and its packing is longer.
abbrev pub TellsForm : List ℕ → List ℕ → Form → Type 0
TellsForm page left (Same word) = IsFilled page word
TellsForm page left Packed =
    (IsSame page → ⊥) × IsPacking page left × (length left ≤ MOST_PACKED)
TellsForm page left Huge =
    (IsSame page → ⊥) × ((bytes : List ℕ) → IsPacking page bytes → MOST_PACKED < length bytes)

-- the form, with the packing that was left, is the page's form
abbrev pub IsFormOf : List ℕ → List ℕ → Form → Type 0
IsFormOf page left (Same word) = form_of page ≡ Word word
IsFormOf page left Packed = form_of page ≡ Pooled left false
IsFormOf page left Huge = form_of page ≡ Pooled page true
