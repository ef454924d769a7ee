-- What a job's calls do to a plain disk: a list of sectors, and for each page the order of the
-- calls on it.
use Rattle.std.specs.Prelude.{◌≡◌, ℕ, ◌+◌, ◌-◌, ◌*◌, ◌<◌, ◌≤◌, ◌^◌, ◌/◌, ◌%◌, Bool, true, false, ◌&&◌, not, nat_lt, nat_le, ◌==◌, List, [], ◌∷◌, length, All, take, drop, get_or, replicate, count_by, Option, Some, None, option_and_then, slice_get, if◌then◌else◌}
use Rattle.std.specs.List.{flat_map, range_with_len, AllByRecursion}
use Rattle.std.specs.Int.{w64, to_le_bytes}
use Rattle.zr_base.specs.declared.limits.TheConstants.{MOST_SECTORS}
use Rattle.zr_base.specs.declared.op.Tag.{Tag}
use Rattle.zr_base.specs.declared.op.Stuff.{Stuff}
use Rattle.zr_base.specs.declared.op.Stuff.TheVariants.{Fill, Seq, Hex}
use Rattle.zr_base.specs.declared.op.Op.{Op}
use Rattle.zr_base.specs.declared.op.Op.TheVariants.{Write, Read, Discard, Idle, Writeback, Compact}
use Rattle.zr_base.specs.declared.op.OpEnd.{OpEnd}
use Rattle.zr_base.specs.declared.op.OpEnd.TheVariants as ends

-- ---- what a write puts

-- the words from one on, in order of address, little endian
abbrev pub words_from : (ℕ → ℕ) → ℕ → ℕ → List ℕ
words_from word from n = flat_map (λ j. to_le_bytes w64 (word j)) (range_with_len from n)

-- the sector of what a write puts, counted over the request
unfoldable pub stuff_sector : Stuff → ℕ → List ℕ
stuff_sector (Fill word) k = words_from (λ j. word) (64 * k) 64
stuff_sector (Seq base step) k = words_from (λ j. (base + j * step) % 2 ^ 64) (64 * k) 64
stuff_sector (Hex bytes) k = take 512 (drop (512 * k) bytes)

-- whether so many sectors are there
abbrev pub HasSectors : Stuff → ℕ → Type 0
HasSectors (Fill word) count = Unit {0}
HasSectors (Seq base step) count = Unit {0}
HasSectors (Hex bytes) count = 512 * count ≤ length bytes

-- each of the bytes given is one
abbrev pub HasBytes : Stuff → Type 0
HasBytes (Fill word) = Unit {0}
HasBytes (Seq base step) = Unit {0}
HasBytes (Hex bytes) = (k : ℕ) → get_or bytes k 0 < 256

-- 512 bytes
abbrev pub IsSector : List ℕ → Type 0
IsSector s = (length s ≡ 512) × All (λ b. b < 256) s

-- a sector of zeros
unfoldable pub zero_sector : List ℕ
zero_sector = replicate 512 0

-- ---- requests

-- whether a request has a sector
abbrev pub covers : ℕ → ℕ → ℕ → Bool
covers start count s = nat_le start s && nat_lt s (start + count)

-- whether a request has a sector of a page
abbrev pub touches : ℕ → ℕ → ℕ → Bool
touches start count page =
    nat_lt 0 count && (nat_lt start (8 * page + 8) && nat_lt (8 * page) (start + count))

-- whether a request has all sectors of a page
abbrev pub has_whole : ℕ → ℕ → ℕ → Bool
has_whole start count page = nat_le start (8 * page) && nat_le (8 * page + 8) (start + count)

-- the first sector of a request
abbrev pub start_of : Op → ℕ
start_of (Write start count stuff) = start
start_of (Read start count) = start
start_of (Discard start count) = start
start_of (Idle age) = 0
start_of (Writeback mode) = 0
start_of Compact = 0

-- how many sectors it has; what is no request has none
abbrev pub count_of : Op → ℕ
count_of (Write start count stuff) = count
count_of (Read start count) = count
count_of (Discard start count) = count
count_of (Idle age) = 0
count_of (Writeback mode) = 0
count_of Compact = 0

-- whether an operation is no request: it marks pages or writes them back, or compacts the pools
abbrev pub is_maintenance : Op → Bool
is_maintenance (Write start count stuff) = false
is_maintenance (Read start count) = false
is_maintenance (Discard start count) = false
is_maintenance (Idle age) = true
is_maintenance (Writeback mode) = true
is_maintenance Compact = true

-- whether it marks pages idle
abbrev pub is_marking : Op → Bool
is_marking (Idle age) = true
is_marking _ = false

-- whether it writes pages back
abbrev pub is_writeback : Op → Bool
is_writeback (Writeback mode) = true
is_writeback _ = false

-- whether it does nothing: it writes pages back, and there is no backing
abbrev pub is_void : Bool → Op → Bool
is_void backed op = is_writeback op && not backed

-- whether it is a compaction
abbrev pub is_compaction : Op → Bool
is_compaction Compact = true
is_compaction _ = false

-- a request begins below sector 2 ^ 32, and has one sector at least and at most so many
abbrev pub InBounds : ℕ → ℕ → Type 0
InBounds start count = (start < 2 ^ 32) × (1 ≤ count) × (count ≤ MOST_SECTORS)

-- what an operation asks for lies in these bounds; a write has its bytes, and what is no request
-- asks for nothing
abbrev pub IsRequest : Op → Type 0
IsRequest (Write start count stuff) = InBounds start count × HasSectors stuff count × HasBytes stuff
IsRequest (Read start count) = InBounds start count
IsRequest (Discard start count) = InBounds start count
IsRequest (Idle age) = Unit {0}
IsRequest (Writeback mode) = Unit {0}
IsRequest Compact = Unit {0}

-- whether a request lies beyond a disk of so many pages
abbrev pub is_beyond : ℕ → Op → Bool
is_beyond pages op = nat_lt (8 * pages) (start_of op + count_of op)

-- whether an operation's piece on a page is carried out: that of a discard only where it has the
-- whole page; what is no request has none
abbrev pub has_event : Op → ℕ → Bool
has_event (Write start count stuff) page = true
has_event (Read start count) page = true
has_event (Discard start count) page = has_whole start count page
has_event (Idle age) page = false
has_event (Writeback mode) page = false
has_event Compact page = false

-- ---- ages

-- whether a page was last accessed more than so many seconds ago, where they are given
abbrev pub is_older : ℕ → Option ℕ → ℕ → Bool
is_older now None touched = true
is_older now (Some age) touched = nat_lt age (now - touched)

-- ---- contents

-- the sector that held these bytes, after an operation
abbrev pub sector_after : Op → ℕ → List ℕ → List ℕ
sector_after (Write start count stuff) s old =
    if covers start count s then stuff_sector stuff (s - start) else old
sector_after (Read start count) s old = old
sector_after (Discard start count) s old =
    if has_whole start count (s / 8) then zero_sector else old
sector_after (Idle age) s old = old
sector_after (Writeback mode) s old = old
sector_after Compact s old = old

-- the operation that a tag names
abbrev pub named : List (List Op) → Tag → Option Op
named actors tag = option_and_then (λ ops. slice_get ops tag.op) (slice_get actors tag.actor)

-- what a call finds in a sector, by the bytes that the sector holds
abbrev pub Look : Type 0
Look = ℕ → List ℕ → List ℕ

-- what each call finds, by its tag
abbrev pub Finds : Type 0
Finds = Tag → Look

-- a call finds what a sector holds
abbrev pub as_held : Finds
as_held tag s old = old

-- the calls that a page may have: the operations that tags name, and what each finds there
pub record PageCalls : Type 0 where
  pub actors : List (List Op)
  pub finds : Finds

-- what an operation starts from: a write leaves of its page what it finds, any other what is held
abbrev pub start_from : Op → Look → Look
start_from (Write start count stuff) look s old = look s old
start_from _ look s old = old

-- the sector that held these bytes, after the operation that is named, if there is one
abbrev pub sector_after_named : Option Op → Look → Look
sector_after_named None look s old = old
sector_after_named (Some op) look s old = sector_after op s (start_from op look s old)

-- the sector that held these bytes, after the calls of an order, one after the other
abbrev pub content : PageCalls → ℕ → List ℕ → List Tag → List ℕ
content c s old [] = old
content c s old (tag ∷ tags) =
    content c s (sector_after_named (named c.actors tag) (c.finds tag) s old) tags

-- ---- orders

-- whether a page is among so many from one on
abbrev pub is_among : ℕ → ℕ → ℕ → Bool
is_among first n page = nat_le first page && nat_lt page (first + n)

-- how many pieces of an operation stand in orders where so many were carried out before a read of
-- the device failed: a read's failed piece stands there too
abbrev pub pieces_noted : Op → ℕ → ℕ
pieces_noted (Write start count stuff) done = done
pieces_noted (Read start count) done = done + 1
pieces_noted (Discard start count) done = done
pieces_noted (Idle age) done = done
pieces_noted (Writeback mode) done = done
pieces_noted Compact done = done

-- whether an operation with its end stands in the order of a page: with all its pieces, or with
-- those that were carried out before one was refused
abbrev pub stands_on : Op → OpEnd → ℕ → Bool
stands_on op ends.Ok page = touches (start_of op) (count_of op) page && has_event op page
stands_on op ends.Range page = false
stands_on op (ends.AtLimit pages need limit done) page = is_among (start_of op / 8) done page
stands_on op (ends.NoMemory done) page = is_among (start_of op / 8) done page
stands_on op (ends.Eio fault done) page = is_among (start_of op / 8) (pieces_noted op done) page
stands_on op (ends.Marked pages) page = false
stands_on op (ends.Written wrote lost) page = false
stands_on op (ends.Budget wrote lost) page = false
stands_on op (ends.NoBlock wrote lost) page = false
stands_on op ends.NoBacking page = false
stands_on op (ends.WriteEio fault wrote lost) page = false
stands_on op (ends.Compacted moves frames) page = false

-- whether the operation that is named stands in the order of a page with its end, where there are both
abbrev pub stands_named : Option Op → Option OpEnd → ℕ → Bool
stands_named (Some op) (Some end) page = stands_on op end page
stands_named (Some op) None page = false
stands_named None end page = false

-- whether the operation that a tag names stands in the order of a page
abbrev pub is_noted : List (List Op) → List (List OpEnd) → ℕ → Tag → Bool
is_noted actors ends page tag =
    stands_named (named actors tag)
    (option_and_then (λ es. slice_get es tag.op) (slice_get ends tag.actor)) page

-- whether two tags are one
abbrev pub same_tag : Tag → Tag → Bool
same_tag s t = s.actor == t.actor && s.op == t.op

-- the operations of each actor rise
abbrev pub Rises : List Tag → Type 0
Rises [] = Unit {0}
Rises (tag ∷ tags) =
    AllByRecursion (λ later. tag.actor ≡ later.actor → tag.op < later.op) tags × Rises tags

-- The order of a page has the tag of each operation that stands in it once, no other tag, and each
-- actor's in turn.
pub record IsOrder
    (actors : List (List Op)) (ends : List (List OpEnd)) (page : ℕ) (order : List Tag)
    : Type 0 where
  pub once : (tag : Tag)
      → count_by (same_tag tag) order ≡ (if is_noted actors ends page tag then 1 else 0)
  pub rises : Rises order

-- the part of an order before a tag
abbrev pub order_before : Tag → List Tag → List Tag
order_before tag [] = []
order_before tag (t ∷ ts) = if same_tag tag t then [] else t ∷ order_before tag ts
