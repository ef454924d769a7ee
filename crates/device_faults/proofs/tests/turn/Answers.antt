use Rattle.std.proofs.Common.{sym, subst, ◌∙◌}
use Rattle.device_faults.specs.OnePage.{Locks, IsDisk, CanGo}
use Rattle.device_faults.proofs.Rows.{disk_after, same_after}
use Rattle.device_faults.proofs.tests.turn.Goals as goal

pub advance-requires-clause-allows : goal.advance-requires-clause-allows
advance-requires-clause-allows c =
    let can = subst (λ (y : Locks). CanGo c.args.call.now.head c.args.scratch.now
    c.args.call.now.stage y) (sym c.hand-hand.ensures.row) c.requires.can in record {
      take = λ k f what told. can.take k what;
      fits = λ k f v g what told takes. can.fits k v what takes.2.home;
      give = λ k f v what told. can.give k what;
    }

pub returns-clause-disk : goal.returns-clause-disk
returns-clause-disk c =
    let turned = c.advance.ensures.turn c.requires.work.0 c.requires.work.1 in
    let name = same_after (λ h. h.row.ghost_name) (λ k f v t. t.0) (λ k t. t.0) (λ k f v t. t.0)
    turned in
    subst IsDisk (sym (c.disk-1.given.1 (sym c.hand-hand.ensures.same ∙ sym name)))
    (disk_after (λ h. h.row.now) (λ k f v t. t.2) (λ k t. t.2) (λ k f v t. t.2)
    (subst IsDisk (sym c.hand-hand.ensures.row) c.requires.disk) turned)
