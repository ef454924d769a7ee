use Rattle.std.proofs.Common.{◌≡◌, ℕ, ◌<◌, ◌^◌, ap, ◌∙◌, length, subst, sym, arith}
use Rattle.lock_row.specs.declared.names.LockNo.{LockNo}
use Rattle.lock_row.specs.Rows.{IsIn}
use Rattle.page_steps.specs.Steps.{slot}
use Rattle.device_faults.specs.OnePage.{Locks, HasRoom}
use Rattle.device_faults.proofs.Rows.{in_disk, out_after, room_after}
use Rattle.device_faults.proofs.tests.make_room.Goals as goal

pub try_take-requires : goal.try_take-requires
try_take-requires c = subst (λ (y : Locks). IsIn y (slot 0)) (sym c.hand-hand.ensures.row)
    (in_disk c.args.disk.now c.requires.disk (slot 0) (omega arith))

pub give-requires : goal.give-requires
give-requires c = out_after _ _ (slot 0) _ c.in-Some-Slot.ensures.outcome.2

pub returns-clause-room : goal.returns-clause-room
returns-clause-room c = subst HasRoom (sym (c.disk-2-1.given.1
    (sym c.hand-hand.ensures.same ∙ sym c.in-Some-Slot.ensures.outcome.0 ∙ sym c.give.ensures.0)))
    (room_after _ _ c.reserve_order.new.self (record {
      room = let q = c.in_ok-reserve_order.ensures.room in omega arith;
      few = subst (λ (n : ℕ). n < 2 ^ 32) (sym (ap length c.in_ok-reserve_order.ensures.emptied))
          (omega arith);
    }) c.give.ensures.2)
