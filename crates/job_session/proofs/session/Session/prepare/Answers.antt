use Rattle.std.proofs.Common.{refl, sym, subst}
use Rattle.actor_steps.specs.Places.{IsWork}
use Rattle.job_session.specs.Stepped.{disk_of}
use Rattle.job_session.specs.Sessions.{place}
use Rattle.job_session.proofs.Calls.{started_by}
use Rattle.job_session.proofs.Extends.{next_is, next_may}
use Rattle.job_session.proofs.Lawful.{work_by}
use Rattle.job_session.proofs.Times.{time_of}
use Rattle.job_session.proofs.session.Session.prepare.Goals as goal

pub prepare-requires-clause-work : goal.prepare-requires-clause-work
prepare-requires-clause-work g c =
    let p = place c.args.self.now in
    let text = c.in-Phase.text in
    let next = next_is p c.as_slice-items.result.now c.index-items-self.result text
    c.as_slice-items.ensures c.requires.at.within c.if-self-items.false c.index-items-self.is
    c.in-Phase.is in
    let may = (next_may p text _ _ next c.requires.at.may).may.0 in
    subst IsWork (sym c.as_slice.ensures) (work_by _ text.actors may.few_actors may.may_act)

pub prepare-requires-clause-time : goal.prepare-requires-clause-time
prepare-requires-clause-time g c =
    time_of (disk_of c.args.self.now.clock c.args.world.now) c.requires.at.stands

pub returns-clause-ready : goal.returns-clause-ready
returns-clause-ready g c =
    let p = place c.args.self.now in
    let text = c.in-Phase.text in
    let d = disk_of c.args.self.now.clock c.args.world.now in
    let next = next_is p c.as_slice-items.result.now c.index-items-self.result text
    c.as_slice-items.ensures c.requires.at.within c.if-self-items.false c.index-items-self.is
    c.in-Phase.is in
    let ready = c.in_ok-phase.ensures in (
      text,
      record { item = next; time = refl; may = c.requires.at.may; stands = c.requires.at.stands },
      started_by d c.prepare.new.self c.in_ok-phase.phase text.actors c.as_slice.result.now
          c.as_slice.ensures ready.pages ready.clock ready.limit ready.backed ready.device ready.blocks ready.can
          ready.set_up ready.start,
    )
