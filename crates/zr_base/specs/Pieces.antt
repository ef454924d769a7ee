-- The pieces of a request: for each page that it touches, in rising order, the request's sectors
-- there.
use Rattle.std.specs.Prelude.{◌≡◌, ℕ, ◌+◌, ◌-◌, ◌*◌, ◌/◌, ◌<◌, ◌≤◌, ◌==◌, ◌&&◌, nat_le, nat_lt, min, max, List, map, if◌then◌else◌}
use Rattle.std.specs.List.{range_with_len}
use Rattle.zr_base.specs.declared.op.Piece.{Piece}
use Rattle.zr_base.specs.declared.op.Op.{Op}
use Rattle.zr_base.specs.Plain.{covers, start_of, count_of}

-- how many pages a request touches
abbrev pub pages_touched : ℕ → ℕ → ℕ
pages_touched start count = if count == 0 then 0 else (start + count - 1) / 8 + 1 - start / 8

-- the first page of an operation's request
abbrev pub first_page : Op → ℕ
first_page op = start_of op / 8

-- how many pages it touches
abbrev pub pages_of : Op → ℕ
pages_of op = pages_touched (start_of op) (count_of op)

-- the sectors of a request on a page that it touches: from the later beginning to the earlier end
abbrev pub piece_on : ℕ → ℕ → ℕ → Piece
piece_on start count page = record {
  page = record { 0 = page };
  first = max start (8 * page) - 8 * page;
  count = min (start + count) (8 * page + 8) - max start (8 * page);
}

-- a request's sectors on so many pages, from a page on
abbrev pub pieces_from : ℕ → ℕ → ℕ → ℕ → List Piece
pieces_from start count page n = map (piece_on start count) (range_with_len page n)

-- the pieces of a request, one for each page that it touches
abbrev pub pieces_of : ℕ → ℕ → List Piece
pieces_of start count = pieces_from start count (start / 8) (pages_touched start count)

-- The piece has the sectors that the request has on the page, and no others.
pub record IsPieceOf (start count page : ℕ) (piece : Piece) : Type 0 where
  pub page_is : piece.page.0 ≡ page
  pub some_sector : 1 ≤ piece.count
  pub within : piece.first + piece.count ≤ 8
  pub sectors : (k : ℕ) → k < 8
      → covers start count (8 * page + k)
      ≡ (nat_le piece.first k && nat_lt k (piece.first + piece.count))

-- the pages that a request touches are those from its first one on
pub record IsTouched (start count page : ℕ) : Type 0 where
  pub from_first : start / 8 ≤ page
  pub to_last : page < start / 8 + pages_touched start count
