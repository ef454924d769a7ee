-- The words of a page, and a page whose words are all one.
use Rattle.std.specs.Prelude.{ℕ, ◌*◌, ◌<◌, ◌≡◌, List}
use Rattle.std.specs.Simd.Lanes.{number_l, chunk}

-- word j, little endian
abbrev pub word_at : List ℕ → ℕ → ℕ
word_at page j = number_l 256 (chunk (8 * j) 8 page)

-- all 512 words are equal to this one
abbrev pub IsFilled : List ℕ → ℕ → Type 0
IsFilled page word = (j : ℕ) → j < 512 → word_at page j ≡ word
