-- A small rule of a row: a lock guards a list of tags, and each actor has one lock, to which it
-- adds tags of its own.
use Rattle.std.specs.Prelude.{◌≡◌, ℕ, suc, List, [], ◌∷◌, ◌++◌, map, length, None}
use Rattle.zr_base.specs.declared.op.Tag.{Tag}
use Rattle.zr_base.specs.declared.op.Op.TheVariants.{Discard}
use Rattle.call_history.specs.declared.part.Part.{Part}
use Rattle.call_history.specs.declared.part.PartEnd.TheVariants.{Carried}
use Rattle.call_history.specs.declared.part.Done.{Done}
use Rattle.lock_row.specs.declared.names.LockNo.{LockNo}
use Rattle.lock_row.specs.declared.names.LockNo.TheVariants as lock
use Rattle.lock_row.specs.declared.names.At.TheVariants.{Start}
use Rattle.lock_row.specs.declared.names.Local.{Local}
use Rattle.lock_row.specs.declared.names.Plan.{Plan}
use Rattle.lock_row.specs.declared.names.Plan.TheVariants.{Take, Give}

-- an actor of the rule
abbrev pub Here : Type 0
Here = Local (List Tag)

-- the account stands before the slots
abbrev pub spot : LockNo → ℕ
spot (lock.Slot page) = suc page.0
spot (lock.Class c) = 0
spot lock.Account = 0
spot lock.Blocks = 0
spot lock.Device = 0

-- the piece that stands for a tag or a slot
abbrev pub piece : ℕ → ℕ → Part
piece nr page = record { nr = nr; op = Discard 0 0; page = page }

-- an actor's lock: the slot of its piece, or the account where it has none
abbrev pub lock_at : List Part → LockNo
lock_at [] = lock.Account
lock_at (p ∷ ps) = lock.Slot (record { 0 = p.page })

-- an actor's pieces by its lock
abbrev pub pieces_for : LockNo → List Part
pieces_for (lock.Slot page) = piece 0 page.0 ∷ []
pieces_for k = []

-- it takes its lock, and gives back what it took
abbrev pub plan_by : List Part → List (LockNo × List Tag) → Plan
plan_by ps [] = Take (lock_at ps)
plan_by ps (x ∷ xs) = Give x.0

-- what an actor does next
abbrev pub plan : Here → Plan
plan l = plan_by l.todo l.held

-- what is held but the last
abbrev pub rest_of : List (LockNo × List Tag) → List (LockNo × List Tag)
rest_of [] = []
rest_of (x ∷ xs) = xs

-- the local after a taking
abbrev pub took : Here → List Tag → Here
took l v = record l { held = (lock_at l.todo, v) ∷ l.held }

-- it gives the tags back as they were
abbrev pub gave : Here → List Tag → Here
gave l v = record l { held = rest_of l.held }

-- its next tag
abbrev pub next_tag : Here → Tag
next_tag l = record { actor = l.actor; op = length l.done }

-- it gives them back with that tag
abbrev pub tagged : Here → List Tag → Here
tagged l v = record l {
  held = rest_of l.held;
  done = l.done ++ record { part = piece (length l.done) 0; end = Carried; got = [] } ∷ [];
}

-- The givings of the rule: the tags as they were, or with one more.
pub data Works (l : Here) (v : List Tag) (m : Here) : Type 0 where
  as_was : (k : LockNo) (rest : List (LockNo × List Tag)) → l.held ≡ (k, v) ∷ rest → m ≡ gave l v
      → Works l v m
  one_more : (k : LockNo) (last : List Tag) (rest : List (LockNo × List Tag))
      → l.held ≡ (k, last) ∷ rest → v ≡ last ++ next_tag l ∷ [] → m ≡ tagged l v → Works l v m

-- the tags that an actor has noted
abbrev pub noted : Here → List Tag
noted l = map (λ (d : Done). record { actor = l.actor; op = d.part.nr }) l.done

-- an actor at the start
abbrev pub idle : ℕ → LockNo → Here
idle a k = record {
  actor = a;
  at = Start;
  todo = pieces_for k;
  held = [];
  done = [];
  fresh = None;
  pin = None;
  owed = 0;
  ahead = None;
  behind = None;
  page = None;
  fail = None;
}

-- actors at the start, from one on
abbrev pub idle_from : ℕ → List LockNo → List Here
idle_from a [] = []
idle_from a (k ∷ ks) = idle a k ∷ idle_from (suc a) ks
