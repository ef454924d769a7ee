-- The pieces with events on a page, counted.
use Rattle.std.specs.Prelude.{ℕ, Bool, ◌+◌, ◌==◌, ◌<◌, List, [], ◌∷◌, if◌then◌else◌, unwrap_or, IfSome}
use Rattle.std.specs.BTreeMap.{BTreeMap, get}
use Rattle.std.specs.Ordering.{nat_cmp}
use Rattle.zr_base.specs.declared.op.Op.{Op}
use Rattle.plain_disk.specs.Ends.{is_single}
use Rattle.call_history.specs.declared.part.Part.{Part}
use Rattle.call_history.specs.Parts.{program}

-- 1 for a piece on a page; an operation that is over in one piece is on none
abbrev pub piece_on : ℕ → ℕ → Part → ℕ
piece_on size page p = if is_single size p.op then 0 else if p.page == page then 1 else 0

-- the pieces on a page
abbrev pub pieces_on : ℕ → ℕ → List Part → ℕ
pieces_on size page [] = 0
pieces_on size page (p ∷ ps) = piece_on size page p + pieces_on size page ps

-- the pieces of all actors on a page, on a disk that has a backing or none
abbrev pub pieces_each : ℕ → Bool → List (List Op) → ℕ → ℕ
pieces_each size backed [] page = 0
pieces_each size backed (ops ∷ more) page =
    pieces_on size page (program size backed 0 ops) + pieces_each size backed more page

-- what is counted for a page
abbrev pub count_at : BTreeMap ℕ ℕ → ℕ → ℕ
count_at counts page = unwrap_or (get nat_cmp counts page) 0

-- Each count is above 0, and of a page of the disk.
abbrev pub HasOnlyCounts : ℕ → BTreeMap ℕ ℕ → Type 0
HasOnlyCounts size counts = (p : ℕ) → IfSome (get nat_cmp counts p) (λ n. (p < size) × (0 < n))
