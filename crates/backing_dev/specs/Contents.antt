-- What a device tells of its blocks.
use Rattle.std.specs.Prelude.{◌≡◌, ◌≢◌, ℕ, ⊤, List, length, replicate, slice_get, Option, Some, None, IfSome, IsSomeAnd}

-- the block has these bytes, where the device tells its contents
abbrev pub HasBlock : Option (List (List ℕ)) → ℕ → List ℕ → Type 0
HasBlock contents b page = IfSome contents (λ pages. slice_get pages b ≡ Some page)

-- at most this block differs, and a device goes on telling its contents or not
abbrev pub ChangesOnly : Option (List (List ℕ)) → Option (List (List ℕ)) → ℕ → Type 0
ChangesOnly None None b = ⊤
ChangesOnly None (Some new) b = ⊥
ChangesOnly (Some old) None b = ⊥
ChangesOnly (Some old) (Some new) b =
    (length new ≡ length old) × ((c : ℕ) → c ≢ b → slice_get new c ≡ slice_get old c)

-- the device is honest: it tells its contents, a page for each block that it counts; so what is
-- read is what was written
abbrev pub IsHonest : Option (List (List ℕ)) → ℕ → Type 0
IsHonest contents blocks = IsSomeAnd contents (λ pages. length pages ≡ blocks)

-- a page full of one byte
unfoldable pub page_full_of : ℕ → List ℕ
page_full_of byte = replicate 4096 byte
