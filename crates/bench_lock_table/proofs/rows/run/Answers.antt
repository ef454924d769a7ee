use Rattle.bench_lock_table.specs.Made.{start_of}
use Rattle.bench_lock_table.proofs.Fours.{four_back}
use Rattle.bench_lock_table.proofs.rows.run.Goals as goal

pub shut-requires-clause-hands : goal.shut-requires-clause-hands
shut-requires-clause-hands g c =
    let s = c.all_four-one.ensures in
    let r = c.all_four-one.result in
    let m = c.in_ok-row in (
      start_of c.args.values.items c.args.locks.now,
      four_back c.args.values.items c.args.locks.now m.field-0 m.ensures c.new_job.result
          c.new_job-2.result c.new_job-3.result c.new_job-4.result r.0.0.0 r.0.1.0 r.1.0.0 r.1.1.0
          c.new_job.ensures.0 c.new_job-2.ensures.0 c.new_job-3.ensures.0 c.new_job-4.ensures.0
          s.front.0 s.front.1 s.back.0 s.back.1
          m.field-0.hands.list c.push.new.self.list c.push-2.new.self.list c.push-3.new.self.list
          c.push-4.new.self.list
          m.ensures.empty c.push.ensures.hand c.push-2.ensures.hand c.push-3.ensures.hand
          c.push-4.ensures.hand,
    )

pub returns : goal.returns
returns g c =
    let s = c.all_four-one.ensures in
    let r = c.all_four-one.result in
    let m = c.in_ok-row in (
      _,
      c.shut.ensures.left (start_of c.args.values.items c.args.locks.now)
          (four_back c.args.values.items c.args.locks.now m.field-0 m.ensures c.new_job.result
          c.new_job-2.result c.new_job-3.result c.new_job-4.result r.0.0.0 r.0.1.0 r.1.0.0
          r.1.1.0
          c.new_job.ensures.0 c.new_job-2.ensures.0 c.new_job-3.ensures.0 c.new_job-4.ensures.0
          s.front.0 s.front.1 s.back.0 s.back.1
          m.field-0.hands.list c.push.new.self.list c.push-2.new.self.list c.push-3.new.self.list
          c.push-4.new.self.list
          m.ensures.empty c.push.ensures.hand c.push-2.ensures.hand c.push-3.ensures.hand
          c.push-4.ensures.hand),
    )
