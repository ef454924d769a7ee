-- What a phase begins with, and what a page is after the calls of an order.
use Rattle.std.specs.Prelude.{◌≡◌, ℕ, ◌+◌, ◌-◌, ◌*◌, ◌^◌, ◌<◌, ◌≤◌, ◌==◌, ◌&&◌, ◌||◌, ⊤, Bool, true, List, [], ◌∷◌, length, Option, Some, None, if◌then◌else◌}
use Rattle.std.specs.List.{AllByRecursion}
use Rattle.zr_base.specs.declared.op.Tag.{Tag}
use Rattle.zr_base.specs.declared.op.Op.{Op}
use Rattle.zr_base.specs.Plain.{Finds, named, has_event, sector_after, zero_sector, IsSector, IsRequest}
use Rattle.mem_account.specs.Counters.{Counters}
use Rattle.backing_dev.specs.Dev.{DeviceState, IsHonestDevice}
use Rattle.plain_disk.specs.Forms.{page_bytes}
use Rattle.plain_disk.specs.Ends.{Ground, is_single}
use Rattle.plain_disk.specs.Calls.{Found, leave_page, after_all, ever_pooled}
use Rattle.plain_disk.specs.Phases.{Given, calls_on}
use Rattle.plain_disk.specs.Idles.{may_write}
use Rattle.call_history.specs.declared.part.Part.{Part}
use Rattle.call_history.specs.Parts.{program}
use Rattle.slot_entry.specs.Forms.{PageForm, Blank, form_of, bytes_in, page_weight}
use Rattle.page_steps.specs.Steps.{Terms}

-- What a phase begins with: a plain disk and its calls; the pages on which no write stands; those that
-- are on the device; those that are marked idle; when each page was touched; the most frames of a
-- chain; the time; the account's counters, the limit among them; the device; how many blocks of it are
-- used; how many writes the limit on writebacks has left, and whether it is on; and whether each class
-- is known to have at most one zspage with a free cell.
pub record Begin : Type 0 where
  pub given : Given
  pub blank : ℕ → Bool
  pub back : ℕ → Bool
  pub idle : ℕ → Bool
  pub touched : ℕ → ℕ
  pub chain : ℕ
  pub clock : ℕ
  pub was : Counters
  pub device : DeviceState
  pub blocks : ℕ
  pub budget : ℕ
  pub budgeted : Bool
  pub tight : Bool

-- the phase where its calls find this on each page
abbrev pub finding : Begin → (ℕ → Finds) → Begin
finding g finds = record g { given = record g.given { finds = finds } }

-- what the phase's steps go by
abbrev pub terms : Begin → Terms
terms g = record { size = g.given.size; chain = g.chain; clock = g.clock }

-- what the phase's ends are measured by
abbrev pub ground_of : Begin → Ground
ground_of g = record {
  form = page_weight;
  size = g.given.size;
  chain = g.chain;
  limit = g.was.limit;
  backed = g.given.backed;
  blocks = g.blocks;
  budgeted = g.budgeted;
  back = λ p. g.back p || may_write g.given.backed g.given.actors;
  faults = g.device.faults;
}

-- ---- pages

-- a page as the phase finds it
abbrev pub found : Begin → ℕ → Found
found g p = record { holds = g.given.before; blank = g.blank p }

-- it after the calls of an order
abbrev pub found_after : Begin → ℕ → List Tag → Found
found_after g p order = after_all (calls_on g.given p) (found g p) order

-- its bytes
unfoldable pub content : Begin → ℕ → List Tag → List ℕ
content g p order = page_bytes (found_after g p order).holds p

-- a page on which no write stands has the form of one that was never written
abbrev pub form_by : Bool → PageForm → PageForm
form_by b f = if b then Blank else f

-- the form in which it has to be kept
unfoldable pub form_at : Begin → ℕ → List Tag → PageForm
form_at g p order = form_by (found_after g p order).blank (form_of (content g p order))

-- the bytes of its object
abbrev pub image : Begin → ℕ → List Tag → List ℕ
image g p order = bytes_in (form_at g p order)

-- 1 where it is in the pool after some first calls of its order, or before them all
abbrev pub ever : Begin → ℕ → List Tag → ℕ
ever g p order = if ever_pooled page_weight p (calls_on g.given p) (found g p) order then 1 else 0

-- whether a page is on the device where nothing is written back: where it was before the phase, and
-- its order has reads alone
abbrev pub back_at : Begin → ℕ → List Tag → Bool
back_at g p order = g.back p && leave_page g.given.actors order

-- a call that is named is carried out on the page
abbrev pub HasEvent : ℕ → Option Op → Type 0
HasEvent p None = ⊤
HasEvent p (Some op) = has_event op p ≡ true

-- each call of an order is carried out on the page
abbrev pub AreCarried : Begin → ℕ → List Tag → Type 0
AreCarried g p order = AllByRecursion (λ t. HasEvent p (named g.given.actors t)) order

-- ---- pieces of pages

-- 1 for a piece on a page; one beyond the disk or a compaction is on none
abbrev pub piece_on : ℕ → ℕ → Part → ℕ
piece_on size page p = if is_single size p.op then 0 else if p.page == page then 1 else 0

-- the pieces on a page
abbrev pub pieces_on : ℕ → ℕ → List Part → ℕ
pieces_on size page [] = 0
pieces_on size page (p ∷ ps) = piece_on size page p + pieces_on size page ps

-- those of all actors
abbrev pub pieces_each : ℕ → Bool → List (List Op) → ℕ → ℕ
pieces_each size backed [] page = 0
pieces_each size backed (ops ∷ more) page =
    pieces_on size page (program size backed 0 ops) + pieces_each size backed more page

-- ---- what is known of a phase

-- what each actor asks for is a request
abbrev pub AreRequests : List (List Op) → Type 0
AreRequests actors = (t : Tag) (op : Op) → named actors t ≡ Some op → IsRequest op

-- Chains have a limit that classes know, there aren't too many pages, actors and pieces, and where
-- there are actors there is a page.
pub record IsRoomy (g : Begin) : Type 0 where
  pub some : 0 < length g.given.actors → 0 < g.given.size
  pub least : 4 ≤ g.chain
  pub most : g.chain ≤ 16
  pub few : g.given.size + length g.given.actors < 2 ^ 32 - 1
  pub pieces : (p : ℕ) → p < g.given.size → pieces_each g.given.size g.given.backed g.given.actors p < 2 ^ 32

-- Calls find sectors, and over an honest device what sectors hold.
pub record FindsRight (g : Begin) : Type 0 where
  pub sectors : (p : ℕ) (t : Tag) (s : ℕ) (old : List ℕ) → IsSector old
      → IsSector (g.given.finds p t s old)
  pub honest : IsHonestDevice g.device → (p : ℕ) (t : Tag) (s : ℕ) (old : List ℕ)
      → g.given.finds p t s old ≡ old

-- Each sector has 512 bytes and keeps so many at each call, and a blank page has zeros; calls find
-- sectors; no page was touched after the phase's time; chains have a limit that classes know; there
-- aren't too many pages, actors and pieces; and where there are actors there is a page.
pub record Proper (g : Begin) : Type 0 where
  pub some : 0 < length g.given.actors → 0 < g.given.size
  pub times : (p : ℕ) → p < g.given.size → g.touched p ≤ g.clock
  pub blanks : (p k : ℕ) → k < 8 → g.blank p ≡ true → g.given.before (8 * p + k) ≡ zero_sector
  pub before : (s : ℕ) → IsSector (g.given.before s)
  pub puts : (t : Tag) (op : Op) (s : ℕ) (old : List ℕ) → named g.given.actors t ≡ Some op
      → IsSector old → IsSector (sector_after op s old)
  pub finds : FindsRight g
  pub least : 4 ≤ g.chain
  pub most : g.chain ≤ 16
  pub few : g.given.size + length g.given.actors < 2 ^ 32 - 1
  pub pieces : (p : ℕ) → p < g.given.size → pieces_each g.given.size g.given.backed g.given.actors p < 2 ^ 32
