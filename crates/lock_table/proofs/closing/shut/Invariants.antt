use Rattle.std.proofs.Common.{◌≡◌, List, [], ◌++◌, map}
use Rattle.lock_row.specs.declared.names.State.{State}
use Rattle.lock_table.specs.declared.view.View.TheVariants.{Open}
use Rattle.lock_table.specs.Sittings.{Sitting, seated}
use Rattle.lock_table.specs.Shut.{AllHands}
use Rattle.lock_table.proofs.closing.shut.Given as goal

abbrev pub invariant-loop-hand : goal.invariant-loop-hand
invariant-loop-hand g l = record {
  own : l.seat.table_id ≡ l.row.id;
  gone : (start : State _) → AllHands l.fn.row start l.fn.hands.list → (gone : List (Sitting _))
      × (l.fn.hands.list ≡ l.list.items ++ gone)
      × (l.seat.me ≡ (Open start (map seated gone), []));
}

abbrev pub decreases-loop-hand : goal.decreases-loop-hand
decreases-loop-hand g l = goal.left-loop-hand g l
