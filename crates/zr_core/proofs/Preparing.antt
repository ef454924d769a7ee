-- Setting a phase up: one value of the row at a time.
use Rattle.std.proofs.Common.{◌≡◌, ℕ, ◌+◌, ◌≤◌, List, [], length, Option, Some, None, slice_get, slice_set, sym, ap, ◌∙◌, arith, length-set}
use Rattle.std.specs.Prelude.{Result, Ok, Err, OnOk, OnErr}
use Rattle.lock_row.specs.declared.names.LockNo.{LockNo}
use Rattle.lock_row.specs.declared.names.LockNo.TheVariants as lock
use Rattle.lock_row.specs.declared.names.Held.TheVariants as holds
use Rattle.lock_row.specs.Laws.{NamesHavePlaces}
use Rattle.lock_row.specs.Rows.{Row, IsIn, cell, with_cell}
use Rattle.slot_entry.specs.Entries.{EntryState}
use Rattle.page_steps.specs.Steps.{DiskHeld, spot}
use Rattle.joint_rule.specs.Laws.{IsLock}
use Rattle.zr_core.specs.Preparing.{IsReserved}
use Rattle.zr_core.specs.Rests.{names_of}
use Rattle.zr_core.proofs.Lists.{get_here, get_else, set_same, set_twice}
use Rattle.zr_core.proofs.Names.{cell_at, cells_with}

pub on_ok_both : {A E P Q R : Type 0} (r : Result A E) → (P → Q → R) → OnOk r P → OnOk r Q
    → OnOk r R
on_ok_both (Ok x) f p q = f p q
on_ok_both (Err e) f p q = tt

pub on_err_any : {A E P : Type 0} (r : Result A E) → P → OnErr r P
on_err_any (Ok x) p = tt
on_err_any (Err e) p = p

-- ---- a value that is taken and given back

module _ (places : NamesHavePlaces) (size : ℕ) (k : LockNo) (is : IsLock size k)
    (r : Row DiskHeld) (names : r.names ≡ names_of size) (v : DiskHeld) where
  abbrev at : ℕ
  at = spot size k

  pub cell_home : slice_get r.cells at ≡ Some (Some v) → cell r k ≡ Some (Some v)
  cell_home home = cell_at size places k is r names ∙ home

  pub is_in : slice_get r.cells at ≡ Some (Some v) → IsIn r k
  is_in home = (Some v, cell_home home)

  pub not_out : slice_get r.cells at ≡ Some (Some v) → cell r k ≡ Some None → ⊥
  not_out home out = let q : Some None ≡ Some (Some v) = sym out ∙ cell_home home in cc

  module _ (home : cell r k ≡ Some (Some v)) (r₁ : Row DiskHeld)
      (taken : r₁ ≡ with_cell r k None) where
    names₁ : r₁.names ≡ names_of size
    names₁ = ap (λ (x : Row DiskHeld). x.names) taken ∙ names

    cells₁ : r₁.cells ≡ slice_set r.cells at None
    cells₁ = ap (λ (x : Row DiskHeld). x.cells) taken ∙ cells_with size places k is r names None

    pub there : slice_get r.cells at ≡ Some (Some v)
    there = sym (cell_at size places k is r names) ∙ home

    pub is_out_now : cell r₁ k ≡ Some None
    is_out_now = cell_at size places k is r₁ names₁
        ∙ ap (λ (cs : List (Option DiskHeld)). slice_get cs at) cells₁
        ∙ get_here r.cells at None (Some v) there

    module _ (w : DiskHeld) (r₂ : Row DiskHeld) (given : r₂ ≡ with_cell r₁ k (Some w)) where
      pub cells_set : r₂.cells ≡ slice_set r.cells at (Some w)
      cells_set = ap (λ (x : Row DiskHeld). x.cells) given
          ∙ cells_with size places k is r₁ names₁ (Some w)
          ∙ ap (λ (cs : List (Option DiskHeld)). slice_set cs at (Some w)) cells₁
          ∙ set_twice r.cells at None (Some w)

      pub gives_back : w ≡ v → r₂.cells ≡ r.cells
      gives_back same = cells_set
          ∙ set_same r.cells at (Some w) (there ∙ ap (λ (x : DiskHeld). Some (Some x)) (sym same))

-- ---- the map of blocks and the device, which are out

module _ (places : NamesHavePlaces) (size : ℕ) (r : Row DiskHeld) (names : r.names ≡ names_of size)
    (b d : DiskHeld) (r₁ : Row DiskHeld) (first : r₁ ≡ with_cell r lock.Blocks (Some b)) where
  first_names : r₁.names ≡ names_of size
  first_names = ap (λ (x : Row DiskHeld). x.names) first ∙ names

  first_cells : r₁.cells ≡ slice_set r.cells (size + 256) (Some b)
  first_cells = ap (λ (x : Row DiskHeld). x.cells) first
      ∙ cells_with size places lock.Blocks tt r names (Some b)

  pub still_out : slice_get r.cells (size + 257) ≡ Some None → cell r₁ lock.Device ≡ Some None
  still_out out = cell_at size places lock.Device tt r₁ first_names
      ∙ ap (λ (cs : List (Option DiskHeld)). slice_get cs (size + 257)) first_cells
      ∙ get_else r.cells (size + 256) (size + 257) (Some b)
      (λ e. let none : ⊥ = omega arith in none) ∙ out

  pub both_set : (r₂ : Row DiskHeld) → r₂ ≡ with_cell r₁ lock.Device (Some d)
      → r₂.cells ≡ slice_set (slice_set r.cells (size + 256) (Some b)) (size + 257) (Some d)
  both_set r₂ then = ap (λ (x : Row DiskHeld). x.cells) then
      ∙ cells_with size places lock.Device tt r₁ first_names (Some d)
      ∙ ap (λ (cs : List (Option DiskHeld)). slice_set cs (size + 257) (Some d)) first_cells

-- ---- an entry whose order is emptied

module _ (size page : ℕ) (old new : List (Option DiskHeld)) (v w : DiskHeld)
    (there : slice_get old page ≡ Some (Some v)) (set : new ≡ slice_set old page (Some w)) where
  pub reserved_is : (n : ℕ) (e f : EntryState) → v ≡ holds.Slot e → w ≡ holds.Slot f
      → f ≡ record e { order = f.order; room = f.room } → f.order ≡ [] → n ≤ f.room
      → IsReserved page n old new
  reserved_is n e f was is kept order room = record {
    size = ap length set ∙ length-set old page (Some w);
    others = λ p ne. ap (λ (cs : List (Option DiskHeld)). slice_get cs p) set
        ∙ get_else old page p (Some w) ne;
    was = e;
    is = f;
    before = there ∙ ap (λ (x : DiskHeld). Some (Some x)) was;
    after = ap (λ (cs : List (Option DiskHeld)). slice_get cs page) set
        ∙ get_here old page (Some w) (Some v) there
        ∙ ap (λ (x : DiskHeld). Some (Some x)) is;
    kept = kept;
    order = order;
    room = room;
  }
