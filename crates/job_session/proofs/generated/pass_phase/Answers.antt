use Rattle.std.proofs.Common.{false, None}
use Rattle.job_session.proofs.Passing.{stops_before, passes, stops_in}
use Rattle.job_session.proofs.generated.pass_phase.Goals as goal

pub returns-in-Ended-clause-stops : goal.returns-in-Ended-clause-stops
returns-in-Ended-clause-stops g c =
    stops_before c.args.session.now c.next.new.self None None 0 0 false c.in-Ended.field-0
    c.in-Ended.ensures.goes c.requires.phase

pub returns-in-Ok-clause-passes : goal.returns-in-Ok-clause-passes
returns-in-Ok-clause-passes g c =
    let e = c.in-Phase.ensures.goes in
    let r = c.in-Ok.ensures.runs e.0 e.1 e.2 in
    passes c.args.session.now c.next.new.self c.run_phase.new.session None None None 0 0 0 false false
    e r.0 r.1 r.2

pub returns-in-Err-clause-stops : goal.returns-in-Err-clause-stops
returns-in-Err-clause-stops g c =
    let e = c.in-Phase.ensures.goes in
    let r = c.in-Err.ensures.runs e.0 e.1 e.2 in
    stops_in c.args.session.now c.next.new.self c.run_phase.new.session None None None 0 0 0 false
    false e r.0 r.1 c.in-Err.field-0 r.2
