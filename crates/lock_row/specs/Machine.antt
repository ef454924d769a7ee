-- The machine of a row and its actors. The places of the locks, what an actor does next, and what
-- its events do to its local are the user's.
use Rattle.std.specs.Prelude.{◌≡◌, ℕ, List, [], ◌∷◌, Some, None, slice_get, slice_set}
use Rattle.lock_row.specs.declared.names.LockNo.{LockNo}
use Rattle.lock_row.specs.declared.names.Local.{Local}
use Rattle.lock_row.specs.declared.names.State.{State}
use Rattle.lock_row.specs.declared.names.Plan.{Plan}
use Rattle.lock_row.specs.declared.names.Plan.TheVariants.{Finished, Take, Give}

module _ {V : Type 0} (spot : LockNo → ℕ) (plan : Local V → Plan) (took : Local V → V → Local V)
    (works : Local V → V → Local V → Type 0) where
  -- the actor a, at l, takes the lock k, which has v
  pub record Taking (a : ℕ) (l : Local V) (k : LockNo) (v : V) (w w' : State V) : Type 0 where
    pub who : slice_get w.locals a ≡ Some l
    pub what : plan l ≡ Take k
    pub there : slice_get w.row (spot k) ≡ Some (Some v)
    pub after : w'
        ≡ record { row = slice_set w.row (spot k) None; locals = slice_set w.locals a (took l v) }

  -- it gives k back with v, and is then at l'
  pub record Giving (a : ℕ) (l : Local V) (k : LockNo) (v : V) (l' : Local V)
      (w w' : State V) : Type 0 where
    pub who : slice_get w.locals a ≡ Some l
    pub what : plan l ≡ Give k
    pub there : slice_get w.row (spot k) ≡ Some None
    pub work : works l v l'
    pub after : w'
        ≡ record { row = slice_set w.row (spot k) (Some v); locals = slice_set w.locals a l' }

  -- a turn of the actor a: nothing where it is finished, a miss where its next lock is out, else
  -- its next event
  pub data Turn (a : ℕ) (w w' : State V) : Type 0 where
    finished : (l : Local V) → slice_get w.locals a ≡ Some l → plan l ≡ Finished → w' ≡ w
        → Turn a w w'
    missed : (l : Local V) (k : LockNo) → slice_get w.locals a ≡ Some l → plan l ≡ Take k
        → slice_get w.row (spot k) ≡ Some None → w' ≡ w → Turn a w w'
    taken : (l : Local V) (k : LockNo) (v : V) → Taking a l k v w w' → Turn a w w'
    given : (l : Local V) (k : LockNo) (v : V) (l' : Local V) → Giving a l k v l' w w' → Turn a w w'

  -- the turns, one after the other
  abbrev pub Run : List ℕ → State V → State V → Type 0
  Run [] w w' = w' ≡ w
  Run (a ∷ rest) w w' = (m : State V) × Turn a w m × Run rest m w'

  -- a list of turns leads from the start to this state
  abbrev pub Reached : State V → State V → Type 0
  Reached start w = (turns : List ℕ) × Run turns start w
