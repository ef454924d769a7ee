use Rattle.std.proofs.Common.{Bool, List, Option, None}
use Rattle.zr_base.specs.declared.op.Op.{Op}
use Rattle.call_history.specs.declared.part.Done.{Done}
use Rattle.page_steps.specs.declared.stage.Progress.TheVariants as progress
use Rattle.actor_steps.specs.declared.call.Call.{Call}
use Rattle.actor_steps.specs.declared.worker.Worker.{Worker}
use Rattle.actor_steps.specs.declared.worker.Turn.TheVariants as turn
use Rattle.actor_steps.specs.Workers.{terms_of, with_call, Keeps}
use Rattle.actor_steps.proofs.Places.{there_is}
use Rattle.actor_steps.proofs.Turns.{gone_on, call_allows, goes_on, still_fit, fit_with, allows_with, advanced_with}
use Rattle.actor_steps.proofs.Overs.{ends_as, can_finish, ends_fit, ends_turn}
use Rattle.actor_steps.proofs.worker.Worker.go_on.Goals as goal

-- the worker without its call
abbrev beside : {D : Type 0} → Worker D → Worker D
beside w = with_call w None

keeps_with : {D : Type 0} (backed : Bool) (ops : List Op) (w : Worker D) (o : Option (Call D))
    (done : List Done) → Keeps backed ops w done → Keeps backed ops (with_call w o) done
keeps_with backed ops w o done keeps = record {
  ends = keeps.ends;
  sectors = keeps.sectors;
  count = keeps.count;
  carried = keeps.carried;
  later = keeps.later;
}

pub advance-requires-clause-going : goal.advance-requires-clause-going
advance-requires-clause-going g c =
    let w = c.args.self.now in
    (fit_with (terms_of c.args.size c.args.now w) c.args.backed c.args.ops.now w c.in-Some.call c.in-Some.is
    c.requires.fit).call.going

pub advance-requires-clause-fit : goal.advance-requires-clause-fit
advance-requires-clause-fit g c =
    let w = c.args.self.now in
    (fit_with (terms_of c.args.size c.args.now w) c.args.backed c.args.ops.now w c.in-Some.call c.in-Some.is
    c.requires.fit).call.fit

pub advance-requires-clause-allows : goal.advance-requires-clause-allows
advance-requires-clause-allows g c =
    let ops = c.args.ops.now in
    let w = c.args.self.now in
    let t = terms_of c.args.size c.args.now w in
    let call = c.in-Some.call in
    let fit = fit_with t c.args.backed ops w call c.in-Some.is c.requires.fit in
    let op = there_is ops w.place.nr c.requires.more in
    call_allows t c.args.backed ops (beside w) call fit op.0 op.1 g.H.Hand.can_take g.H.Hand.takes
    g.H.Hand.can_give c.args.hand.now c.calls_are_events.ensures.plan
    c.compactions_are_events.ensures.plan c.scans_are_events.ensures.plan
    c.writebacks_are_events.ensures.plan
    (allows_with t c.args.backed ops w call c.in-Some.is g.H.Hand.can_take g.H.Hand.takes g.H.Hand.can_give
    c.args.hand.now c.requires.allows)

pub finish-requires : goal.finish-requires
finish-requires g c =
    let ops = c.args.ops.now in
    let w = c.args.self.now in
    let t = terms_of c.args.size c.args.now w in
    let call = c.in-Some.call in
    let fit = fit_with t c.args.backed ops w call c.in-Some.is c.requires.fit in
    let v = with_call w c.clear.new.call in
    let op = there_is ops w.place.nr c.requires.more in
    can_finish t c.args.backed ops v call fit op.0 op.1 c.requires.more c.advance.new.scratch
    c.in-Done.end
    (ends_as t c.args.backed ops v call fit op.0 op.1 g.H.Hand.takes g.H.Hand.misses g.H.Hand.gives
    c.args.hand.now c.advance.new.hand c.advance.new.scratch c.in-Done.end c.in-Done.ensures.turn)

pub returns-in-Moved-clause-fit : goal.returns-in-Moved-clause-fit
returns-in-Moved-clause-fit g c =
    let ops = c.args.ops.now in
    let w = c.args.self.now in
    let t = terms_of c.args.size c.args.now w in
    let call = c.in-Some.call in
    let fit = fit_with t c.args.backed ops w call c.in-Some.is c.requires.fit in
    let op = there_is ops w.place.nr c.requires.more in
    let e = c.in-Moved.ensures in
    still_fit t c.args.backed ops (beside w) call fit op.0 op.1 c.advance.new.scratch c.advance.new.self e.over
    e.fit e.work e.table

pub returns-in-Moved-clause-turn : goal.returns-in-Moved-clause-turn
returns-in-Moved-clause-turn g c done keeps =
    let ops = c.args.ops.now in
    let w = c.args.self.now in
    let t = terms_of c.args.size c.args.now w in
    let call = c.in-Some.call in
    let fit = fit_with t c.args.backed ops w call c.in-Some.is c.requires.fit in
    let op = there_is ops w.place.nr c.requires.more in
    advanced_with t c.args.backed ops w call c.in-Some.is g.H.Hand.takes g.H.Hand.misses g.H.Hand.gives c.args.hand.now
    (gone_on (beside w) c.advance.new.scratch c.advance.new.self) c.advance.new.hand turn.Went done
    (goes_on t c.args.backed ops (beside w) call fit op.0 op.1 g.H.Hand.takes g.H.Hand.misses g.H.Hand.gives
    c.args.hand.now c.advance.new.hand c.advance.new.scratch c.advance.new.self progress.Moved
    c.in-Moved.ensures.turn done (keeps_with c.args.backed ops w None done keeps))

pub returns-in-Waits-clause-fit : goal.returns-in-Waits-clause-fit
returns-in-Waits-clause-fit g c =
    let ops = c.args.ops.now in
    let w = c.args.self.now in
    let t = terms_of c.args.size c.args.now w in
    let call = c.in-Some.call in
    let fit = fit_with t c.args.backed ops w call c.in-Some.is c.requires.fit in
    let op = there_is ops w.place.nr c.requires.more in
    let e = c.in-Waits.ensures in
    still_fit t c.args.backed ops (beside w) call fit op.0 op.1 c.advance.new.scratch c.advance.new.self e.over
    e.fit e.work e.table

pub returns-in-Waits-clause-turn : goal.returns-in-Waits-clause-turn
returns-in-Waits-clause-turn g c done keeps =
    let ops = c.args.ops.now in
    let w = c.args.self.now in
    let t = terms_of c.args.size c.args.now w in
    let call = c.in-Some.call in
    let fit = fit_with t c.args.backed ops w call c.in-Some.is c.requires.fit in
    let op = there_is ops w.place.nr c.requires.more in
    advanced_with t c.args.backed ops w call c.in-Some.is g.H.Hand.takes g.H.Hand.misses g.H.Hand.gives c.args.hand.now
    (gone_on (beside w) c.advance.new.scratch c.advance.new.self) c.advance.new.hand (turn.Waited c.in-Waits.lock) done
    (goes_on t c.args.backed ops (beside w) call fit op.0 op.1 g.H.Hand.takes g.H.Hand.misses g.H.Hand.gives
    c.args.hand.now c.advance.new.hand c.advance.new.scratch c.advance.new.self (progress.Waits c.in-Waits.lock)
    c.in-Waits.ensures.turn done (keeps_with c.args.backed ops w None done keeps))

pub returns-in-Done-clause-fit : goal.returns-in-Done-clause-fit
returns-in-Done-clause-fit g c =
    let ops = c.args.ops.now in
    let w = c.args.self.now in
    let t = terms_of c.args.size c.args.now w in
    let call = c.in-Some.call in
    let fit = fit_with t c.args.backed ops w call c.in-Some.is c.requires.fit in
    let v = with_call w c.clear.new.call in
    let op = there_is ops w.place.nr c.requires.more in
    ends_fit t c.args.backed ops v call fit op.0 op.1 c.requires.more c.advance.new.scratch c.in-Done.end
    (ends_as t c.args.backed ops v call fit op.0 op.1 g.H.Hand.takes g.H.Hand.misses g.H.Hand.gives
    c.args.hand.now c.advance.new.hand c.advance.new.scratch c.in-Done.end c.in-Done.ensures.turn) c.clear.ensures c.finish.new.self c.finish.ensures c.in-Done.ensures.table

pub returns-in-Done-clause-turn : goal.returns-in-Done-clause-turn
returns-in-Done-clause-turn g c done keeps =
    let ops = c.args.ops.now in
    let w = c.args.self.now in
    let t = terms_of c.args.size c.args.now w in
    let call = c.in-Some.call in
    let fit = fit_with t c.args.backed ops w call c.in-Some.is c.requires.fit in
    let v = with_call w c.clear.new.call in
    let op = there_is ops w.place.nr c.requires.more in
    advanced_with t c.args.backed ops w call c.in-Some.is g.H.Hand.takes g.H.Hand.misses g.H.Hand.gives c.args.hand.now
    c.finish.new.self c.advance.new.hand turn.Went done
    (ends_turn t c.args.backed ops v call fit op.0 op.1 c.requires.more c.advance.new.scratch
    c.in-Done.end
    (ends_as t c.args.backed ops v call fit op.0 op.1 g.H.Hand.takes g.H.Hand.misses g.H.Hand.gives
    c.args.hand.now c.advance.new.hand c.advance.new.scratch c.in-Done.end c.in-Done.ensures.turn) c.clear.ensures c.finish.new.self c.finish.ensures c.histories_go_on.ensures.got done
    (keeps_with c.args.backed ops w c.clear.new.call done keeps) g.H.Hand.takes g.H.Hand.misses g.H.Hand.gives c.args.hand.now c.advance.new.hand c.in-Done.ensures.turn)
