-- A page as eight sectors.
use Rattle.std.specs.Prelude.{ℕ, ◌*◌, List, take, drop}

-- the 512 bytes of a page's sector
abbrev pub page_sector : List ℕ → ℕ → List ℕ
page_sector page at = take 512 (drop (512 * at) page)
