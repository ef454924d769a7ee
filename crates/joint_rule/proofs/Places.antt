-- What kind of value a place has.
use Rattle.std.proofs.Common.{◌+◌, ◌≤◌, ◌<◌, ℕ, List, arith}
use Rattle.joint_rule.proofs.Pages.{ever_now}
use Rattle.joint_rule.specs.Begins.{Begin, form_at, image}
use Rattle.joint_rule.specs.Joint.{Sound, Stands}
use Rattle.joint_rule.specs.Stages.{IsForm}
use Rattle.joint_rule.specs.Weights.{claim_by, claims, each_one, ever_at}
use Rattle.page_steps.specs.Steps.{DiskHeld}
use Rattle.slot_entry.specs.Forms.{Blank, PageForm, Pooled, Word, pooled}
use Rattle.slot_entry.specs.declared.kept.Kept.{Kept}
use Rattle.std.specs.Prelude.{⊤}
use Rattle.lock_row.specs.declared.names.Held.TheVariants as holds
use Rattle.slot_entry.specs.declared.kept.Kept.TheVariants as kept

-- an entry at home claims no more than its page was pooled
pub form_claim : (chain : ℕ) (f : PageForm) (k : Kept) (b : List ℕ) → IsForm chain f k
    → claim_by each_one k b ≤ pooled f
form_claim chain f kept.Empty b i = omega arith
form_claim chain f (kept.Same w) b i = omega arith
form_claim chain f (kept.Wb x) b i = omega arith
form_claim chain Blank (kept.Obj o) b i = absurd i
form_claim chain (Word w) (kept.Obj o) b i = absurd i
form_claim chain (Pooled x h) (kept.Obj o) b i = omega arith

pub home_lean : (g : Begin) (j : ℕ) (v : DiskHeld) → Stands g j v
    → claims g each_one j v ≤ ever_at g j v
home_lean g j (holds.Slot e) s = let r = form_claim g.chain (form_at g j e.order) e.kept
    (image g j e.order) s in let q = ever_now g j e.order in omega arith
home_lean g j (holds.Class x) s = omega arith
home_lean g j (holds.Account x) s = omega arith
home_lean g j (holds.Blocks x) s = omega arith
home_lean g j (holds.Device x) s = omega arith

abbrev pub IsEntry : DiskHeld → Type 0
IsEntry (holds.Slot e) = ⊤
IsEntry (holds.Class x) = ⊥
IsEntry (holds.Account x) = ⊥
IsEntry (holds.Blocks x) = ⊥
IsEntry (holds.Device x) = ⊥

abbrev pub IsPoolOf : DiskHeld → Type 0
IsPoolOf (holds.Slot e) = ⊥
IsPoolOf (holds.Class x) = ⊤
IsPoolOf (holds.Account x) = ⊥
IsPoolOf (holds.Blocks x) = ⊥
IsPoolOf (holds.Device x) = ⊥

abbrev pub IsAccount : DiskHeld → Type 0
IsAccount (holds.Slot e) = ⊥
IsAccount (holds.Class x) = ⊥
IsAccount (holds.Account x) = ⊤
IsAccount (holds.Blocks x) = ⊥
IsAccount (holds.Device x) = ⊥

abbrev pub IsMap : DiskHeld → Type 0
IsMap (holds.Slot e) = ⊥
IsMap (holds.Class x) = ⊥
IsMap (holds.Account x) = ⊥
IsMap (holds.Blocks x) = ⊤
IsMap (holds.Device x) = ⊥

abbrev pub IsDevice : DiskHeld → Type 0
IsDevice (holds.Slot e) = ⊥
IsDevice (holds.Class x) = ⊥
IsDevice (holds.Account x) = ⊥
IsDevice (holds.Blocks x) = ⊥
IsDevice (holds.Device x) = ⊤

module _ (g : Begin) where
  abbrev size : ℕ
  size = g.given.size

  pub entry_kind : (p : ℕ) → p < size → (v : DiskHeld) → Sound g p v → IsEntry v
  entry_kind p lt (holds.Slot e) s = tt
  entry_kind p lt (holds.Class x) s = let q = s.0 in absurd (omega arith)
  entry_kind p lt (holds.Account x) s = absurd (omega arith)
  entry_kind p lt (holds.Blocks x) s = absurd (omega arith)
  entry_kind p lt (holds.Device x) s = let q = s.0 in absurd (omega arith)

  pub class_kind : (c : ℕ) → c < 255 → (v : DiskHeld) → Sound g (size + c) v → IsPoolOf v
  class_kind c lt (holds.Slot e) s = let q = s.page in absurd (omega arith)
  class_kind c lt (holds.Class x) s = tt
  class_kind c lt (holds.Account x) s = absurd (omega arith)
  class_kind c lt (holds.Blocks x) s = absurd (omega arith)
  class_kind c lt (holds.Device x) s = let q = s.0 in absurd (omega arith)

  pub account_kind : (v : DiskHeld) → Sound g (size + 255) v → IsAccount v
  account_kind (holds.Slot e) s = let q = s.page in absurd (omega arith)
  account_kind (holds.Class x) s = let q = s.0 in let r = s.1.class in absurd (omega arith)
  account_kind (holds.Account x) s = tt
  account_kind (holds.Blocks x) s = absurd (omega arith)
  account_kind (holds.Device x) s = let q = s.0 in absurd (omega arith)

  pub map_kind : (v : DiskHeld) → Sound g (size + 256) v → IsMap v
  map_kind (holds.Slot e) s = let q = s.page in absurd (omega arith)
  map_kind (holds.Class x) s = let q = s.0 in let r = s.1.class in absurd (omega arith)
  map_kind (holds.Account x) s = absurd (omega arith)
  map_kind (holds.Blocks x) s = tt
  map_kind (holds.Device x) s = let q = s.0 in absurd (omega arith)

  pub device_kind : (v : DiskHeld) → Sound g (size + 257) v → IsDevice v
  device_kind (holds.Slot e) s = let q = s.page in absurd (omega arith)
  device_kind (holds.Class x) s = let q = s.0 in let r = s.1.class in absurd (omega arith)
  device_kind (holds.Account x) s = absurd (omega arith)
  device_kind (holds.Blocks x) s = absurd (omega arith)
  device_kind (holds.Device x) s = tt
