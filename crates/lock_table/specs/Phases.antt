-- The states that a phase reaches, where a state's values are, and what is known of their orders.
use Rattle.std.specs.Prelude.{◌≡◌, ◌≢◌, ℕ, ◌+◌, List, ◌++◌, length, Option, Some, None, slice_get}
use Rattle.std.specs.List.{sum_by}
use Rattle.zr_base.specs.declared.op.Tag.{Tag}
use Rattle.lock_row.specs.declared.names.LockNo.{LockNo}
use Rattle.lock_row.specs.declared.names.Local.{Local}
use Rattle.lock_row.specs.declared.names.State.{State}
use Rattle.lock_row.specs.Rules.{RowRule}
use Rattle.lock_row.specs.Machine.{Reached}
use Rattle.lock_row.specs.Values.{Exclusive}
use Rattle.lock_row.specs.Totals.{total, locals_sum}

-- the order begins with these tags
abbrev pub Begins : List Tag → List Tag → Type 0
Begins tags order = (more : List Tag) × (order ≡ tags ++ more)

module _ {V : Type 0} (r : RowRule V) where
  -- the tags of all orders, wherever their values are, each with a weight
  abbrev pub told : (Tag → ℕ) → State V → ℕ
  told c w = total r.spot (λ k v. sum_by c (r.order v)) (λ l. 0) w

  -- those that the actors have noted
  abbrev pub noted : (Tag → ℕ) → State V → ℕ
  noted c w = locals_sum (λ l. sum_by c (r.noted l)) w.locals

  -- Turns lead from the start to this state. The row and the actors are as many, each value is in
  -- the row or with
  -- one actor, and what was told in the orders since the start is what the actors have noted, each
  -- tag as often.
  pub record IsReached (start now : State V) : Type 0 where
    pub may : r.may_start start
    pub turns : Reached r.spot r.plan r.took r.works start now
    pub size : length now.row ≡ length start.row
    pub actors : length now.locals ≡ length start.locals
    pub apart : Exclusive r.spot now
    pub tags : (c : Tag → ℕ) → told c now + noted c start ≡ told c start + noted c now

  -- the actor holds the place k
  abbrev pub Holds : State V → ℕ → ℕ → Type 0
  Holds w a k = (l : Local V) × (i : ℕ) × (x : LockNo × V) × (slice_get w.locals a ≡ Some l)
      × (slice_get l.held i ≡ Some x) × (r.spot x.0 ≡ k)

  -- the value of the place k, at home or with the actor that holds it
  pub data IsAt (w : State V) (k : ℕ) (v : V) : Type 0 where
    home : slice_get w.row k ≡ Some (Some v) → IsAt w k v
    held : (a i : ℕ) (l : Local V) (x : LockNo) → slice_get w.locals a ≡ Some l
        → slice_get l.held i ≡ Some (x, v) → r.spot x ≡ k → IsAt w k v

  -- each order that was seen at a place begins the order that the place's value has
  abbrev pub Begin : List (ℕ × List Tag) → State V → Type 0
  Begin seen w = (i k : ℕ) (tags : List Tag) (v : V) → slice_get seen i ≡ Some (k, tags)
      → IsAt w k v → Begins tags (r.order v)

  -- In a state that is reached from the start the actor a is at l, the orders that it saw begin
  -- those of now, and
  -- the place k has x: the value at home, or nothing where it is out.
  pub record Finds (start : State V) (a : ℕ) (l : Local V) (seen : List (ℕ × List Tag)) (k : ℕ)
      (x : Option V) : Type 0 where
    pub now : State V
    pub reached : IsReached start now
    pub at : slice_get now.locals a ≡ Some l
    pub seen_begin : Begin seen now
    pub cell : slice_get now.row k ≡ Some x

  -- The place k is out, and another actor holds it.
  pub record FindsHeld (start : State V) (a : ℕ) (l : Local V) (seen : List (ℕ × List Tag))
      (k : ℕ) : Type 0 where
    pub found : Finds start a l seen k None
    pub by : ℕ
    pub other : by ≢ a
    pub holds : Holds found.now by k
