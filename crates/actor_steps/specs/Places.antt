-- Where an actor is among the pieces of its operations.
use Rattle.std.specs.Prelude.{◌≡◌, ◌⊎◌, ℕ, zero, suc, ◌+◌, ◌-◌, ◌*◌, ◌<◌, ◌≤◌, max, Bool, true, not, ◌&&◌, ◌||◌, List, [], ◌∷◌, ◌++◌, length, drop, Some, slice_get, if◌then◌else◌, ⊤}
use Rattle.zr_base.specs.declared.limits.TheConstants.{MOST_ACTORS, MOST_OPERATIONS}
use Rattle.zr_base.specs.declared.op.Op.{Op}
use Rattle.zr_base.specs.Plain.{is_void, has_event, IsRequest}
use Rattle.zr_base.specs.Pieces.{first_page, pages_of}
use Rattle.plain_disk.specs.Ends.{is_single}
use Rattle.call_history.specs.declared.part.Part.{Part}
use Rattle.call_history.specs.Parts.{program}
use Rattle.actor_steps.specs.declared.place.Place.{Place}

-- each operation is a request within its bounds
abbrev pub AreRequests : List Op → Type 0
AreRequests ops = (k : ℕ) (op : Op) → slice_get ops k ≡ Some op → IsRequest op

-- how many operations all actors have
abbrev pub operations : List (List Op) → ℕ
operations [] = 0
operations (ops ∷ more) = length ops + operations more

-- What a phase may have to do: at most so many actors, with at most so many requests in all.
pub record IsWork (actors : List (List Op)) : Type 0 where
  pub few : length actors ≤ MOST_ACTORS
  pub most : operations actors ≤ MOST_OPERATIONS
  pub requests : (a : ℕ) (ops : List Op) → slice_get actors a ≡ Some ops → AreRequests ops

-- whether an operation has a piece with events on a page, on a disk that has a backing or none; one
-- that is over in one piece is such a piece, where it does anything
abbrev pub is_part : ℕ → Bool → Op → ℕ → Bool
is_part size backed op page =
    not (is_void backed op) && (is_single size op || has_event op page)

-- the pieces with events of an operation on so many pages, from a page on
abbrev pub left_from : ℕ → Bool → ℕ → Op → ℕ → ℕ → List Part
left_from size backed nr op page zero = []
left_from size backed nr op page (suc n) =
    (if is_part size backed op page then record { nr = nr; op = op; page = page } ∷ [] else [])
    ++ left_from size backed nr op (page + 1) n

-- how many pages an operation has pieces on; one that is over in one piece has one, whose page says
-- nothing
abbrev pub pages_to_do : ℕ → Op → ℕ
pages_to_do size op = if is_single size op then 1 else pages_of op

-- so many pages of the first operation are left, from a page on, and then the later operations
abbrev pub todo_by : ℕ → Bool → ℕ → ℕ → ℕ → List Op → List Part
todo_by size backed nr page n [] = []
todo_by size backed nr page n (op ∷ later) =
    left_from size backed nr op page n ++ program size backed (nr + 1) later

-- the pieces that are left
abbrev pub todo_at : ℕ → Bool → List Op → Place → List Part
todo_at size backed ops pl = todo_by size backed pl.nr pl.page pl.left (drop pl.nr ops)

-- the piece of an operation at a place
abbrev pub part_at : Place → Op → Part
part_at pl op = record { nr = pl.nr; op = op; page = pl.page }

-- the place after the piece
abbrev pub behind : Place → Place
behind pl = record { nr = pl.nr; page = pl.page + 1; left = pl.left - 1 }

-- The pages that are left are some of the operation's last ones; one that has none is one piece.
pub record IsOn (op : Op) (page n : ℕ) : Type 0 where
  pub first : first_page op ≤ page
  pub last : page + n ≤ first_page op + max 1 (pages_of op)

-- so many pages of the first operation are left, from a page on, where there is one
abbrev pub IsPlaceBy : ℕ → ℕ → List Op → Type 0
IsPlaceBy page n [] = ⊤
IsPlaceBy page n (op ∷ later) = IsOn op page n

-- a place among an actor's operations
abbrev pub IsPlace : List Op → Place → Type 0
IsPlace ops pl = IsPlaceBy pl.page pl.left (drop pl.nr ops)

-- the next page has a piece with events, or no operation is left
abbrev pub IsSettledBy : ℕ → Bool → ℕ → ℕ → List Op → Type 0
IsSettledBy size backed page n [] = ⊤
IsSettledBy size backed page n (op ∷ later) = (1 ≤ n) × (is_part size backed op page ≡ true)

-- the place is at a piece with events, or past all operations
abbrev pub IsSettled : ℕ → Bool → List Op → Place → Type 0
IsSettled size backed ops pl = IsSettledBy size backed pl.page pl.left (drop pl.nr ops)

-- the second place isn't before the first
abbrev pub IsOnward : Place → Place → Type 0
IsOnward from to = (from.nr < to.nr) ⊎ ((from.nr ≡ to.nr) × (from.page ≤ to.page))

-- falls with each page and each operation that is passed; no operation has 1000 pages
abbrev pub steps_left : List Op → Place → ℕ
steps_left ops pl = (length ops - pl.nr) * 1000 + pl.left
