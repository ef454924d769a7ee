use Rattle.std.proofs.Common.{false, refl}
use Rattle.lock_row.specs.declared.names.LockNo.{LockNo}
use Rattle.bench_lock_table.specs.declared.rows.Job.{Job}
use Rattle.bench_lock_table.proofs.Fours.{four_back}
use Rattle.bench_lock_table.proofs.tests.two_hands_exclude_one_another.Goals as goal

job : LockNo → Job
job k = record { lock = k; actor = 0; rounds = 0; adds = false }

pub shut-values-requires-clause-hands : goal.shut-values-requires-clause-hands
unfolding job
shut-values-requires-clause-hands g c =
    let m = c.in-Ok.made in
    let i = c.in-Ok.ensures in
    let e = c.probe-found.ensures in (
      _,
      four_back c.in_ok-values.values.items _ m i (job _) (job _) (job _)
          (job _) c.probe-found.new.one c.probe-found.new.two c.probe-found.new.three m.four refl
          refl refl refl
          (record { ready = e.one.0; same = e.one.1 }) (record { ready = e.two.0; same = e.two.1 })
          (record { ready = e.three.0; same = e.three.1 })
          (record {
            ready = i.four.ready;
            same =
                record { start = refl; actor = refl; number = refl };
          })
          m.hands.list c.push.new.self.list c.push-2.new.self.list c.push-3.new.self.list
          c.push-4.new.self.list
          i.empty c.push.ensures.hand c.push-2.ensures.hand c.push-3.ensures.hand
          c.push-4.ensures.hand,
    )
