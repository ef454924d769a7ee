use Rattle.std.proofs.Common.{◌<◌, ◌||◌, length, refl, sym, subst, arith}
use Rattle.std.proofs.lemmas.Option.{slice_get_within}
use Rattle.zr_core.specs.Playing.{playing, lines_shown}
use Rattle.job_session.specs.Stepped.{disk_of}
use Rattle.job_session.specs.declared.session.Stage.TheVariants as stages
use Rattle.job_session.specs.Sessions.{Place, place}
use Rattle.job_session.proofs.Calls.{over_steps, cut_by}
use Rattle.job_session.proofs.Extends.{phase_went_on, phase_gave_up, phase_may_after, phase_some_after}
use Rattle.job_session.proofs.session.Session.finish.Goals as goal

pub after-self-requires : goal.after-self-requires
after-self-requires g c =
    subst (λ xs. c.args.self.now.at < length xs) (sym c.as_slice.ensures)
    (slice_get_within _ _ _ c.requires.back.out.1.item)

pub returns-in-Ok-clause-goes : goal.returns-in-Ok-clause-goes
returns-in-Ok-clause-goes g c back =
    let s = c.args.self.now in
    let p = place s in
    let world = c.args.running.world in
    let phase = c.args.running.phase in
    let q : Place = record {
      job = p.job;
      at = c.after-self.result;
      refused = p.refused || c.in-Ok.refused;
    } in
    let legal = c.jobs_are_legal.ensures.legal in
    let d = back.disk in
    let m = disk_of s.clock world in
    let at = back.out.1 in
    let lines = lines_shown (playing world phase back.text.actors) in
    let stepped = over_steps d s.clock back.text back.start world phase back.turns back.started
    at.time back.over world.early in
    let sent = c.tell-told.ensures.lines back.text at.item in
    let u = g.K.Sink.written c.args.out.now in
    let next = slice_get_within p.job p.at _ at.item in
    let on = c.after-self.ensures in (
      phase_went_on legal p back.text d m back.turns lines _ _ at.item at.may stepped q
          c.in-Ok.refused refl on refl (rw (← c.in-Ok.is) sent),
      (
        world,
        refl,
        record {
          within = omega (arith, next, on);
          rest = back.over.rest;
          may = phase_may_after legal p back.text d m back.turns lines u u at.item at.may stepped q
              refl on;
          stands = phase_some_after legal p back.text d m back.turns lines u u at.item at.may
              stepped at.stands;
        },
      ),
      on,
    )

pub returns-clause-goes : goal.returns-clause-goes
returns-clause-goes g c back =
    let s = c.args.self.now in
    let p = place s in
    let world = c.args.running.world in
    let phase = c.args.running.phase in
    let d = back.disk in
    let m = disk_of s.clock world in
    let at = back.out.1 in
    let lines = lines_shown (playing world phase back.text.actors) in
    let stepped = over_steps d s.clock back.text back.start world phase back.turns back.started
    at.time back.over world.early in
    let sent = c.tell-told.ensures.lines back.text at.item in
    cut_by p (record s { stage = stages.Here world }) _ _ _ _ _ d back.text back.turns
    c.tell-told.result c.in-Err.stop c.stopped.result c.in-Err.is c.stopped.ensures (
      (world, refl, back.over.rest),
      phase_gave_up c.jobs_are_legal.ensures.legal p back.text d m back.turns lines _ _ at.item
          at.may stepped c.tell-told.result sent,
    )
    c.tell-told.ensures.cause
