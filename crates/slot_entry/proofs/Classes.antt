-- The classes of packed objects.
use Rattle.std.proofs.Common.{◌≡◌, ℕ, ◌+◌, ◌-◌, ◌*◌, ◌/◌, ◌<◌, ◌≤◌, ap, arith}
use Rattle.size_class.specs.Classes.{stands_of, IsLeastFitting}
use Rattle.slot_entry.specs.Forms.{class_for}

least_class : (len k : ℕ) → 32 ≤ len → IsLeastFitting (len + 8) k → (len - 9) / 16 ≡ k
least_class len k some l =
    let fits : len + 8 ≤ 32 + 16 * k = l.fits in
    let least = l.least ((len - 9) / 16) (omega arith) in
    omega arith

pub class_is : (chain len k : ℕ) → 32 ≤ len → IsLeastFitting (len + 8) k
    → class_for chain len ≡ stands_of chain k
unfolding class_for
class_is chain len k some l = ap (stands_of chain) (least_class len k some l)

pub class_low : ((limit k : ℕ) → 4 ≤ limit → limit ≤ 16 → k ≤ 202 → stands_of limit k < 254)
    → (chain len : ℕ) → 4 ≤ chain → chain ≤ 16 → len ≤ 3256 → class_for chain len < 254
unfolding class_for
class_low law chain len low high le = law chain ((len - 9) / 16) low high (omega arith)
