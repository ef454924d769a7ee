use Rattle.std.proofs.Common.{◌+◌, ◌||◌, refl}
use Rattle.std.proofs.lemmas.Result.{err_from_is_err_and}
use Rattle.job_session.specs.Stepped.{disk_of}
use Rattle.job_session.specs.Sessions.{Place, place}
use Rattle.job_session.proofs.Extends.{front_stands, front_sent, front_next, front_within, went_on, gave_up, may_after, some_after}
use Rattle.job_session.proofs.session.Session.go_on.Goals as goal

pub send_items-requires-clause-may : goal.send_items-requires-clause-may
send_items-requires-clause-may g c =
    front_stands (place c.args.self.now) _ _ c.as_slice.ensures _ _ c.requires.at.may

pub returns-in_err-refused-clause-goes : goal.returns-in_err-refused-clause-goes
returns-in_err-refused-clause-goes g c =
    let e = err_from_is_err_and c.from_residual.result c.from_residual.ensures.1 in
    let d = disk_of c.args.self.now.clock c.args.world.now in
    rw e.1
    (gave_up c.jobs_are_legal.ensures.legal (place c.args.self.now) c.before_phase-front.result d _
    _ _ c.requires.at.may _
    (front_sent (place c.args.self.now) _ _ c.as_slice.ensures d _ _ _ _
    c.in_err-refused.ensures.items))

pub returns-clause-goes : goal.returns-clause-goes
returns-clause-goes g c =
    let p = place c.args.self.now in
    let n = c.before_phase-front.result in
    let d = disk_of c.args.self.now.clock c.args.world.now in
    let q : Place = record { job = p.job; at = p.at + n; refused = p.refused || c.in_ok-refused.refused } in
    went_on c.jobs_are_legal.ensures.legal p n d _ _ _ c.requires.at.may _
    (front_sent p n _ c.as_slice.ensures d _ _ _ _ c.in_ok-refused.ensures.items) q refl refl refl

pub returns-clause-at : goal.returns-clause-at
returns-clause-at g c =
    let p = place c.args.self.now in
    let n = c.before_phase-front.result in
    let d = disk_of c.args.self.now.clock c.args.world.now in
    let q : Place = record { job = p.job; at = p.at + n; refused = p.refused || c.in_ok-refused.refused } in
    let sent = front_sent p n _ c.as_slice.ensures d _ _ _ _ c.in_ok-refused.ensures.items in
    let legal = c.jobs_are_legal.ensures.legal in
    record {
      within = front_within p n _ c.as_slice.ensures c.before_phase-front.ensures.most c.requires.at.within;
      rest = c.in_ok-refused.ensures.rest;
      may = may_after legal p n d _ _ _ c.requires.at.may _ sent q refl refl;
      stands = some_after legal p n d _ _ _ c.requires.at.may _ sent c.requires.at.stands;
    }

pub returns-clause-next : goal.returns-clause-next
returns-clause-next g c =
    let p = place c.args.self.now in
    let n = c.before_phase-front.result in
    let q : Place = record { job = p.job; at = p.at + n; refused = p.refused || c.in_ok-refused.refused } in
    front_next p n _ c.as_slice.ensures c.before_phase-front.ensures.next q refl refl
