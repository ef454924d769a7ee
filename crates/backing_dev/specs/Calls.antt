-- How many calls of a device were made.
use Rattle.std.specs.Prelude.{◌≡◌, ℕ, ◌+◌, ◌-◌, ◌^◌, min, Option, Some, None}

-- a count that only rises stands still at its type's end
abbrev pub at_most_end : ℕ → ℕ
at_most_end n = min n (2 ^ 64 - 1)

-- one call more was made, where the device tells how many were
abbrev pub HasOneCallMore : Option ℕ → Option ℕ → Type 0
HasOneCallMore None now = now ≡ None
HasOneCallMore (Some n) now = now ≡ Some (at_most_end (n + 1))
