-- Rows compared place by place.
use Rattle.std.proofs.Common.{◌≡◌, ℕ, zero, suc, ◌<◌, List, [], ◌∷◌, length, Option, Some, None, slice_get, refl, sym, ap, ◌∙◌, subst, arith}
use Rattle.std.specs.Prelude.{option_map}
use Rattle.std.proofs.lemmas.List.{length-map}
use Rattle.std.proofs.lemmas.Option.{slice_get-map, get_or_from_slice_get}
use Rattle.lock_row.specs.declared.names.Held.TheVariants as holds
use Rattle.slot_entry.specs.Entries.{EntryState}
use Rattle.page_steps.specs.Steps.{DiskHeld}
use Rattle.joint_rule.specs.Starts.{Matched}
use Rattle.zr_core.specs.Machines.{order_in, order_at, without_calls, cell_without_calls, without_orders, IsKept, KeepsValues}

abbrev pub Row : Type 0
Row = List (Option DiskHeld)

-- each place has its value at home
abbrev pub IsWhole : Row → Type 0
IsWhole row = (k : ℕ) → k < length row → (v : DiskHeld) × (slice_get row k ≡ Some (Some v))

pub matched : (R : ℕ → DiskHeld → DiskHeld → Type 0) (xs ys : Row) → length ys ≡ length xs
    → IsWhole xs
    → ((k : ℕ) (v : DiskHeld) → slice_get xs k ≡ Some (Some v)
    → (u : DiskHeld) × (slice_get ys k ≡ Some (Some u)) × R k v u)
    → Matched R xs ys
matched R [] [] e whole each = tt
matched R [] (y ∷ ys) e whole each =
    absurd (let q : suc (length ys) ≡ 0 = e in let none : ⊥ = omega arith in none)
matched R (x ∷ xs) [] e whole each =
    absurd (let q : 0 ≡ suc (length xs) = e in let none : ⊥ = omega arith in none)
matched R (None ∷ xs) (y ∷ ys) e whole each =
    absurd (let v = whole 0 (omega arith) in let q : Some None ≡ Some (Some v.0) = v.1 in cc)
matched R (Some v ∷ xs) (None ∷ ys) e whole each =
    absurd (let u = each 0 v refl in let q : Some None ≡ Some (Some u.0) = u.1 in cc)
matched R (Some v ∷ xs) (Some u ∷ ys) e whole each =
    let m = each 0 v refl in
    let q : m.0 ≡ u = (let h : Some (Some u) ≡ Some (Some m.0) = m.1 in cc) in (
      subst (R 0 v) q m.2,
      matched (λ j. R (suc j)) xs ys (omega arith) (λ k lt. whole (suc k) (omega arith))
          (λ k w at. each (suc k) w at),
    )

-- ---- orders taken as empty

pub emptied_long : (row : Row) → length (without_orders row) ≡ length row
emptied_long row = length-map row cell_without_calls

pub emptied_at : (row : Row) (k : ℕ) (c : Option DiskHeld) → slice_get row k ≡ Some c
    → slice_get (without_orders row) k ≡ Some (cell_without_calls c)
emptied_at row k c e = slice_get-map cell_without_calls row k ∙ ap (option_map cell_without_calls) e

-- the value that stood where one without calls does
pub was_at : (row : Row) (k : ℕ) (v : DiskHeld) → slice_get (without_orders row) k ≡ Some (Some v)
    → (u : DiskHeld) × (slice_get row k ≡ Some (Some u)) × (without_calls u ≡ v)
was_at [] k v e = absurd (cc)
was_at (None ∷ row) zero v e = absurd (cc)
was_at (Some u ∷ row) zero v e = (
  u,
  refl,
  let q : Some (Some (without_calls u)) ≡ Some (Some v) = e
      in cc,
)
was_at (x ∷ row) (suc k) v e = was_at row k v e

pub was_whole : (row : Row) → IsWhole (without_orders row) → IsWhole row
was_whole row whole k lt =
    let v = whole k (let n = emptied_long row in omega arith) in
    let u = was_at row k v.0 v.1 in (u.0, u.1)

kept_same : (v u : DiskHeld) → IsKept v u → without_calls u ≡ without_calls v
kept_same (holds.Slot e) u is = ap without_calls is.1
    ∙ ap (λ (f : EntryState). without_calls (holds.Slot f)) is.2
kept_same (holds.Class q) u is = ap without_calls is
kept_same (holds.Account c) u is = ap without_calls is
kept_same (holds.Blocks x) u is = ap without_calls is
kept_same (holds.Device x) u is = ap without_calls is

-- rows that differ in their orders alone are one, where these are taken as empty
pub rows_same : (xs ys : Row) → IsWhole xs → KeepsValues xs ys
    → without_orders ys ≡ without_orders xs
rows_same [] [] whole keeps = refl
rows_same [] (y ∷ ys) whole keeps =
    absurd (let q = keeps.size in let none : ⊥ = omega arith in none)
rows_same (x ∷ xs) [] whole keeps =
    absurd (let q = keeps.size in let none : ⊥ = omega arith in none)
rows_same (x ∷ xs) (y ∷ ys) whole keeps =
    let v = whole 0 (omega arith) in
    let u = keeps.each 0 v.0 v.1 in
    let p : x ≡ Some v.0 = (let h : Some x ≡ Some (Some v.0) = v.1 in cc) in
    let q : y ≡ Some u.0 = (let h : Some y ≡ Some (Some u.0) = u.1 in cc) in
    let r : cell_without_calls y ≡ cell_without_calls x =
    ap cell_without_calls q ∙ ap (λ (w : DiskHeld). Some w) (kept_same v.0 u.0 u.2)
    ∙ sym (ap cell_without_calls p) in
    λ i. r i ∷ rows_same xs ys (λ k lt. whole (suc k) (omega arith)) (record {
      size = (let n = keeps.size in omega arith);
      each = λ k w at. keeps.each (suc k) w at;
    }) i

-- ---- orders

pub order_is : (row : Row) (p : ℕ) (e : EntryState) → slice_get row p ≡ Some (Some (holds.Slot e))
    → order_at row p ≡ e.order
order_is row p e at = ap order_in (get_or_from_slice_get row p (Some (holds.Slot e)) None at)
