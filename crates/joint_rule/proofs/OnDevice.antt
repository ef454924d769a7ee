-- Where all values are at home, the pages that are on the device have blocks of their own there.
use Rattle.std.proofs.Common.{◌≡◌, ◌<◌, ◌∙◌, ℕ, true, List, Option, Some, None, slice_get, refl, sym, ap, subst, arith, inl, inr}
use Rattle.backing_dev.specs.Dev.{DeviceState}
use Rattle.joint_rule.proofs.Blocks.{bit_is, lies_self}
use Rattle.joint_rule.proofs.Places.{IsEntry, entry_kind}
use Rattle.joint_rule.proofs.Pools.{same_lists, same_self}
use Rattle.joint_rule.proofs.Starts.{map_at, map_sum}
use Rattle.joint_rule.proofs.Sums.{row_le, row_two}
use Rattle.joint_rule.proofs.Trips.{used_once, using}
use Rattle.joint_rule.specs.Begins.{Begin, content}
use Rattle.joint_rule.specs.Ends.{back_in, value_at}
use Rattle.joint_rule.specs.Starts.{AtRest}
use Rattle.joint_rule.specs.Weights.{block_by, block_claims, has_block, lies_at, lies_by, on_device, same_bytes, used_from}
use Rattle.lock_row.specs.Totals.{by_option, row_sum}
use Rattle.page_steps.specs.Steps.{DiskHeld}
use Rattle.plain_disk.specs.Forms.{page_bytes}
use Rattle.plain_disk.specs.Phases.{IsOnDevice}
use Rattle.plain_disk.specs.Rests.{Rest}
use Rattle.slot_entry.specs.Entries.{EntryState, is_wb}
use Rattle.slot_entry.specs.Forms.{same_list}
use Rattle.slot_entry.specs.declared.kept.Kept.{Kept}
use Rattle.std.proofs.lemmas.Bool.{cases_eq}
use Rattle.std.proofs.lemmas.Option.{get_or_from_slice_get}
use Rattle.lock_row.specs.declared.names.Held.TheVariants as holds
use Rattle.slot_entry.specs.declared.kept.Kept.TheVariants as kept

-- the block of a page that is on the device
abbrev block_of : Kept → ℕ
block_of (kept.Wb b) = b
block_of _ = 0

abbrev block_in : Option DiskHeld → ℕ
block_in (Some (holds.Slot e)) = block_of e.kept
block_in _ = 0

kept_there : (k : Kept) → is_wb k ≡ true → k ≡ kept.Wb (block_of k)
kept_there kept.Empty e = absurd (cc)
kept_there (kept.Same w) e = absurd (cc)
kept_there (kept.Obj o) e = absurd (cc)
kept_there (kept.Wb b) e = refl

has_bytes : (bytes : List ℕ) (x : Option (List ℕ)) → 0 < by_option (same_bytes bytes) x
    → x ≡ Some bytes
has_bytes bytes None lt = absurd (omega arith)
has_bytes bytes (Some page) lt =
    ap Some (sym (same_lists bytes page (bit_is (same_list bytes page) lt)))

module _ (g : Begin) (row : List (Option DiskHeld)) (rest : AtRest g row) where
  -- The entry of a page that is on the device.
  record Lies (p b : ℕ) : Type 0 where
    entry : EntryState
    there : slice_get row p ≡ Some (Some (holds.Slot entry))
    is : entry.kept ≡ kept.Wb b

  lies_apart : (p q b : ℕ) → Lies p b → Lies q b → p ≡ q
  lies_apart p q b x y = elim (cases_eq p q) [
    | inl same ↦ same
    | inr ne ↦ absurd (
        let two = row_two g.given.size (block_claims (using b)) row p q _ _ x.there y.there ne in
        let u = ap (block_by (using b)) x.is in let v = ap (block_by (using b)) y.is in
        let one = same_self b in let all = rest.blocks (using b) in
        let map = map_sum g row rest.size rest.whole rest.home
        (λ i. used_from (using b) 0 i.states) in
        let once = used_once b 0 (map_at g row rest.size rest.whole rest.home).0.states in
        let no : ⊥ = omega arith in no)
  ]

  module _ (m : Rest) (size : m.size ≡ g.given.size)
      (backs : (p : ℕ) → m.back p ≡ back_in (value_at row p))
      (device : (f : DeviceState → ℕ) → row_sum (on_device f) row ≡ f m.device)
      (bytes : (p : ℕ) (e : EntryState) → p < m.size → value_at row p ≡ Some (holds.Slot e)
      → page_bytes m.holds p ≡ content g p e.order) where
    abbrev block : ℕ → ℕ
    block p = block_in (value_at row p)

    to_slot : (v : DiskHeld) → IsEntry v → (e : EntryState) × (v ≡ holds.Slot e)
    to_slot (holds.Slot e) i = (e, refl)
    to_slot (holds.Class p) i = absurd i
    to_slot (holds.Account c) i = absurd i
    to_slot (holds.Blocks x) i = absurd i
    to_slot (holds.Device x) i = absurd i

    lies : (p : ℕ) → p < m.size → m.back p ≡ true → Lies p (block p)
    lies p lt on =
        let long = rest.size in let v = rest.whole p (omega arith) in
        let e = to_slot v.0 (entry_kind g p (omega arith) v.0 (rest.home p v.0 v.1).sound) in
        let here = v.1 ∙ ap (λ (x : DiskHeld). Some (Some x)) e.1 in
        let value = get_or_from_slice_get row p (Some (holds.Slot e.0)) None here in record {
          entry = e.0;
          there = here;
          is = kept_there e.0.kept (sym (backs p ∙ ap back_in value) ∙ on)
              ∙ ap kept.Wb (sym (ap block_in value));
        }

    pub on_device_is : IsOnDevice m
    on_device_is blocks honest tells = record {
      block = block;
      apart = λ p q lt lt' on on' same. lies_apart p q (block p) (lies p lt on)
          (subst (Lies q) (sym same) (lies q lt' on'));
      bytes = λ p lt on.
          let x = lies p lt on in let page = content g p x.entry.order in
          let value = get_or_from_slice_get row p (Some (holds.Slot x.entry)) None x.there in
          let one = row_le g.given.size (lies_at g (block p) page) row p _ x.there in
          let is = ap (λ (k : Kept). lies_by (block p) page k page) x.is in
          let self = lies_self (block p) page in
          let some = rest.disk (block p) page (omega arith) in
          let has = device (λ d. has_block (block p) page d.contents) in
          let told = ap (has_block (block p) page) tells in
          has_bytes page (slice_get blocks (block p)) (omega arith)
          ∙ ap Some (sym (bytes p x.entry lt value));
    }
