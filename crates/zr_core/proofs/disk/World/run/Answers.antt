use Rattle.std.proofs.Common.{◌++◌, ℕ, List, length, refl}
use Rattle.call_history.specs.declared.part.Done.{Done}
use Rattle.joint_rule.specs.Begins.{Begin}
use Rattle.zr_core.specs.Machines.{rounds_of, AllFinished}
use Rattle.zr_core.specs.Playing.{playing}
use Rattle.zr_core.specs.Runs.{turns_of, Plays}
use Rattle.zr_core.specs.States.{Playing, state_of, HasRule}
use Rattle.zr_core.proofs.Ended.{ended_as, rests_over, steps_over}
use Rattle.zr_core.proofs.Runs.{plays_on, plays_rule, plays_reached, runs_out, all_finished}
use Rattle.zr_core.proofs.disk.World.run.Goals as goal
use Rattle.zr_core.proofs.disk.World.run.Goals.{After-finish}

-- the phase before and after
abbrev first : (o : _) → After-finish o → Playing o.row.D.Denot
first o c = playing c.args.self.now c.args.phase.now c.args.actors.now

abbrev last : (o : _) → After-finish o → Playing o.row.D.Denot
last o c = playing c.finish.new.self c.finish.new.phase c.args.actors.now

-- the schedule's turns and the rounds
abbrev turns : (o : _) → After-finish o → List ℕ
turns o c = turns_of c.args.schedule.now
    ++ rounds_of (length c.args.actors.now) c.finish.ensures.plays.0

all_turns : (o : _) (c : After-finish o) → Plays (turns o c) (first o c) (last o c)
all_turns o c =
    plays_on (turns_of c.args.schedule.now)
    (rounds_of (length c.args.actors.now) c.finish.ensures.plays.0)
    _ _ _ c.play.ensures c.finish.ensures.plays.1

pub returns-clause-same : goal.returns-clause-same
returns-clause-same o c = (all_turns o (goal.at.returns-clause-same o c).After-finish).same

pub returns-clause-limit : goal.returns-clause-limit
returns-clause-limit o c = (all_turns o (goal.at.returns-clause-limit o c).After-finish).limit

pub returns-clause-backed : goal.returns-clause-backed
returns-clause-backed o c = (all_turns o (goal.at.returns-clause-backed o c).After-finish).backed

pub returns-clause-spare : goal.returns-clause-spare
returns-clause-spare o c = (all_turns o (goal.at.returns-clause-spare o c).After-finish).spare

pub returns-clause-can : goal.returns-clause-can
returns-clause-can o c = c.finish.ensures.plays.1.can

pub returns-clause-runs : goal.returns-clause-runs
returns-clause-runs o c dones kept = let a = (goal.at.returns-clause-runs o c).After-finish in
    runs_out _ _ (turns_of c.args.schedule.now) c.finish.ensures.plays.0
    (all_turns o a) c.finish.ensures.over dones kept

pub returns-clause-reached : goal.returns-clause-reached
returns-clause-reached o c start r = let a = (goal.at.returns-clause-reached o c).After-finish in
    plays_reached _ _ _ refl (all_turns o a) start r

rule_now : (o : _) (c : After-finish o) (g : Begin) → HasRule g (first o c) → HasRule g (last o c)
rule_now o c g j = plays_rule _ _ _ refl (all_turns o c) c.rule_keeps.ensures.turn g j

pub returns-clause-rule : goal.returns-clause-rule
returns-clause-rule o c g j = rule_now o (goal.at.returns-clause-rule o c).After-finish g j

finished : (o : _) (c : After-finish o) (dones : List (List Done)) → AllFinished (state_of (last o c) dones)
finished o c dones = let x = last o c in
    all_finished x.terms x.backed x.actors x.cells x.workers dones c.finish.ensures.over

pub returns-clause-ended : goal.returns-clause-ended
returns-clause-ended o c g j =
    let a = (goal.at.returns-clause-ended o c).After-finish in
    let n = rule_now o a g j in
    ended_as (last o a) c.finish.ensures.plays.1.can.fit g n (finished o a n.dones) refl
    c.phases_go_on.ensures.rest c.phases_go_on.ensures.next c.disks_begin.ensures.proper

pub returns-clause-rest : goal.returns-clause-rest
returns-clause-rest o c =
    let a = (goal.at.returns-clause-rest o c).After-finish in
    rests_over (last o a) c.finish.ensures.plays.1.can (λ dones. finished o a dones) refl
    c.phases_go_on.ensures.rest c.phases_go_on.ensures.next c.disks_begin.ensures.proper

pub returns-clause-steps : goal.returns-clause-steps
returns-clause-steps o c before up =
    let a = (goal.at.returns-clause-steps o c).After-finish in (
      c.finish.ensures.plays.0,
      steps_over (first o a) (last o a) (turns o a) (all_turns o a) c.finish.ensures.plays.1.can.fit refl
          before up (λ dones. finished o a dones),
    )
