-- What a piece needs, and the sectors that it reads.
use Rattle.std.specs.Prelude.{ℕ, ◌+◌, ◌-◌, ◌*◌, ◌<◌, ◌≤◌, min, max}
use Rattle.zr_base.specs.declared.op.Op.{Op}
use Rattle.zr_base.specs.declared.op.Op.TheVariants.{Write, Read, Discard, Idle, Writeback, Compact}
use Rattle.zr_base.specs.Plain.{IsRequest}
use Rattle.zr_base.specs.Pieces.{first_page, pages_of}

-- The operation touches the page.
pub record Touches (op : Op) (page : ℕ) : Type 0 where
  pub request : IsRequest op
  pub first : first_page op ≤ page
  pub last : page < first_page op + pages_of op

-- how many sectors an operation's piece on a page reads
abbrev pub reads : Op → ℕ → ℕ
reads (Write start count stuff) page = 0
reads (Read start count) page = min (start + count) (8 * page + 8) - max start (8 * page)
reads (Discard start count) page = 0
reads (Idle age) page = 0
reads (Writeback mode) page = 0
reads Compact page = 0
