use Rattle.std.proofs.Common.{◌≡◌, ◌≤◌, [], ◌++◌, drop, map, vec_len, vec_capacity, length}
use Rattle.lock_row.specs.declared.names.LockNo.{LockNo}
use Rattle.lock_table.specs.declared.view.View.TheVariants.{Open}
use Rattle.lock_table.specs.Starts.{fresh_from, seats_from}
use Rattle.lock_table.proofs.row.TableRow.make.Given as goal

abbrev pub invariant-loop-actor : goal.invariant-loop-actor
invariant-loop-actor g l = record {
  own : l.seat.table_id ≡ l.row.id;
  named : l.row.names ≡ map (λ (x : LockNo × _). x.0) l.fn.values.items;
  count : length g.P.PhaseStart.start.locals ≡ l.actors;
  left : l.seat.me ≡ (
    Open g.P.PhaseStart.start
        (seats_from l.actor (drop l.actor g.P.PhaseStart.start.locals)),
    [],
  );
  made : l.hands.items ++ fresh_from l.row.id g.P.PhaseStart.start l.actor
      (drop l.actor g.P.PhaseStart.start.locals) ≡ fresh_from l.row.id g.P.PhaseStart.start 0
      g.P.PhaseStart.start.locals;
  len : vec_len l.hands ≡ l.actor;
  room : l.actors ≤ vec_capacity l.hands;
}
