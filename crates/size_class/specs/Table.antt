-- What a table of the classes holds.
use Rattle.std.specs.Prelude.{ℕ, List, ◌≡◌, ◌<◌, ◌≤◌, slice_index}
use Rattle.size_class.specs.Classes.{stands_of}

-- the limit is one that is built, and the list says for each class what it stands as
pub record IsTable (limit : ℕ) (stands : List ℕ) : Type 0 where
  pub low : 4 ≤ limit
  pub high : limit ≤ 16
  pub right : (k : ℕ) → k < 255 → slice_index stands k ≡ stands_of limit k
