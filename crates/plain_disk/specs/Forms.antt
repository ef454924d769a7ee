-- The form in which a page is kept, by its bytes alone.
use Rattle.std.specs.Prelude.{ℕ, ◌+◌, ◌-◌, ◌*◌, ◌/◌, ◌==◌, Bool, true, false, List, if◌then◌else◌}
use Rattle.std.specs.List.{flat_map, range_with_len}
use Rattle.mem_account.specs.declared.weight.Weight.{Weight}
use Rattle.mem_account.specs.declared.weight.Weight.TheVariants.{Packed, Huge}
use Rattle.size_class.specs.Classes.{stands_of}

-- the bytes of page p, where the sectors hold these
abbrev pub page_bytes : (ℕ → List ℕ) → ℕ → List ℕ
page_bytes holds p = flat_map holds (range_with_len (8 * p) 8)

-- whether a page of this form is in the pool
abbrev pub is_pooled : Weight → Bool
is_pooled (Packed len) = true
is_pooled Huge = true
is_pooled _ = false

-- whether a page of this form is kept as its 4096 bytes
abbrev pub is_huge : Weight → Bool
is_huge Huge = true
is_huge _ = false

-- the least class whose cells have so many bytes
abbrev pub least_class : ℕ → ℕ
least_class need = (need - 17) / 16

-- whether class k has the object of a page of this form, where a chain has at most so many frames;
-- a packed page has eight bytes more, for its handle
abbrev pub in_class : ℕ → ℕ → Weight → Bool
in_class chain k (Packed len) = stands_of chain (least_class (len + 8)) == k
in_class chain k Huge = 254 == k
in_class chain k _ = false

-- one for a page of class k, else none
abbrev pub of_class : ℕ → ℕ → Weight → ℕ
of_class chain k w = if in_class chain k w then 1 else 0
