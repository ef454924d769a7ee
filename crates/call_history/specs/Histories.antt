-- What the histories of all actors of a phase say, and when they agree with the orders of the
-- pages.
use Rattle.std.specs.Prelude.{◌≡◌, ℕ, ◌<◌, ◌≤◌, Bool, true, false, List, [], ◌∷◌, length, get_or, Some, slice_get}
use Rattle.std.specs.List.{AllByRecursion}
use Rattle.zr_base.specs.declared.op.Tag.{Tag}
use Rattle.zr_base.specs.declared.op.Op.{Op}
use Rattle.zr_base.specs.declared.op.OpEnd.{OpEnd}
use Rattle.zr_base.specs.Plain.{count_of, is_maintenance}
use Rattle.plain_disk.specs.Ends.{Ground, Bounds, tells_fault}
use Rattle.plain_disk.specs.Phases.{Given, nth_order}
use Rattle.call_history.specs.declared.part.Done.{Done}
use Rattle.call_history.specs.Parts.{program, EndsSo, KeepsTo, Follows, stands_so, noted_on, ops_of, ends_from, told_from, dones_sum}
use Rattle.call_history.specs.Shows.{IsTold}

-- the ends of the actors' operations, on a disk that has a backing or none
abbrev pub ends_each : Bool → List (List Op) → List (List Done) → List (List OpEnd)
ends_each backed [] dones = []
ends_each backed (ops ∷ more) [] = []
ends_each backed (ops ∷ more) (done ∷ dones) =
    ends_from backed 0 ops done ∷ ends_each backed more dones

-- the sectors that they tell
abbrev pub told_each : List (List Op) → List (List Done) → List (List (List (List ℕ)))
told_each [] dones = []
told_each (ops ∷ more) [] = []
told_each (ops ∷ more) (done ∷ dones) = told_from 0 ops done ∷ told_each more dones

-- the pieces of an actor that are over
abbrev pub history : List (List Done) → ℕ → List Done
history dones a = get_or dones a []

-- the operation is a request with a sector at least, or no request
abbrev pub HasSome : Op → Type 0
HasSome op = is_maintenance op ≡ false → 1 ≤ count_of op

-- each request has a sector at least
abbrev pub SomeEach : List Op → Type 0
SomeEach ops = AllByRecursion HasSome ops

-- each request of each actor has a sector at least
abbrev pub HasSomeEach : List (List Op) → Type 0
HasSomeEach actors = (a : ℕ) (ops : List Op) → slice_get actors a ≡ Some ops → SomeEach ops

-- All actors are finished, and their histories agree with the orders of the pages and with what
-- ends are measured by.
pub record Agree (t : Ground) (b : ℕ → Bounds) (g : Given) (dones : List (List Done))
    (orders : List (List Tag)) : Type 0 where
  pub count : length dones ≡ length g.actors
  pub follows : (a : ℕ) (ops : List Op) (done : List Done) → slice_get g.actors a ≡ Some ops
      → slice_get dones a ≡ Some done
      → Follows (EndsSo t) (program t.size t.backed 0 ops) done []
  pub every_page : length orders ≡ g.size
  pub turns : (p a : ℕ) → p < g.size → ops_of a (nth_order orders p) ≡ noted_on p (history dones a)
  pub reads : (a i : ℕ) (d : Done) → slice_get (history dones a) i ≡ Some d → d.part.page < g.size
      → stands_so d.part.op d.end ≡ true → IsTold g a d (nth_order orders d.part.page)
  pub faults_differ : (f : ℕ) → dones_sum (tells_fault f) dones ≤ 1
  pub keeps : (a i : ℕ) (d : Done) → slice_get (history dones a) i ≡ Some d
      → KeepsTo t (b a) d.end
