use Rattle.std.proofs.Common.{sym, subst}
use Rattle.post_steps.specs.Turns.{Allows}
use Rattle.actor_steps.specs.declared.call.Call.{Call}
use Rattle.actor_steps.specs.declared.call.Call.TheVariants as call
use Rattle.actor_steps.specs.Calls.{Does, local, next_event, Advanced}
use Rattle.actor_steps.proofs.Calls.{page_allows, page_turn, idle_turn, writeback_turn, compact_turn}
use Rattle.actor_steps.proofs.call.Call.advance.Goals as goal

pub advance-requires-clause-allows : goal.advance-requires-clause-allows
advance-requires-clause-allows g c =
    let r = c.args.scratch.now in
    page_allows c.in-Page.call r
    (subst (λ (d : Call _). Allows g.H.Hand.can_take g.H.Hand.takes g.H.Hand.can_give (Does d r) (local d r)
    (next_event d) c.args.hand.now) c.in-Page.is c.requires.allows)

pub advance-requires-in-Idle-clause-allows : goal.advance-requires-in-Idle-clause-allows
advance-requires-in-Idle-clause-allows g c =
    let r = c.args.scratch.now in
    subst (λ (d : Call _). Allows g.H.Hand.can_take g.H.Hand.takes g.H.Hand.can_give (Does d r) (local d r)
    (next_event d) c.args.hand.now) c.in-Idle.is c.requires.allows

pub advance-requires-in-Writeback-clause-allows : goal.advance-requires-in-Writeback-clause-allows
advance-requires-in-Writeback-clause-allows g c =
    let r = c.args.scratch.now in
    subst (λ (d : Call _). Allows g.H.Hand.can_take g.H.Hand.takes g.H.Hand.can_give (Does d r) (local d r)
    (next_event d) c.args.hand.now) c.in-Writeback.is c.requires.allows

pub advance-requires-in-Compact-clause-allows : goal.advance-requires-in-Compact-clause-allows
advance-requires-in-Compact-clause-allows g c =
    let r = c.args.scratch.now in
    subst (λ (d : Call _). Allows g.H.Hand.can_take g.H.Hand.takes g.H.Hand.can_give (Does d r) (local d r)
    (next_event d) c.args.hand.now) c.in-Compact.is c.requires.allows

pub returns-in-Page-clause-turn : goal.returns-in-Page-clause-turn
returns-in-Page-clause-turn g c =
    subst (λ (d : Call _). Advanced g.H.Hand.takes g.H.Hand.misses g.H.Hand.gives d c.args.scratch.now
    c.args.hand.now (call.Page c.advance.new.self) c.advance.new.scratch c.advance.new.hand
    c.advance.result) (sym c.in-Page.is)
    (page_turn c.args.scratch.now c.advance.new.scratch c.advance.result c.in-Page.call
    c.advance.new.self c.advance.ensures.turn)

pub returns-in-Idle-clause-turn : goal.returns-in-Idle-clause-turn
returns-in-Idle-clause-turn g c =
    let r = c.args.scratch.now in
    subst (λ (d : Call _). Advanced g.H.Hand.takes g.H.Hand.misses g.H.Hand.gives d r c.args.hand.now
    (call.Idle c.advance-in-Idle.new.self) r c.advance-in-Idle.new.hand
    c.advance-in-Idle.result) (sym c.in-Idle.is)
    (idle_turn r r c.advance-in-Idle.result g.row.D.Denot c.in-Idle.call c.advance-in-Idle.new.self
    c.advance-in-Idle.ensures.turn)

pub returns-in-Writeback-clause-turn : goal.returns-in-Writeback-clause-turn
returns-in-Writeback-clause-turn g c =
    subst (λ (d : Call _). Advanced g.H.Hand.takes g.H.Hand.misses g.H.Hand.gives d
    c.args.scratch.now c.args.hand.now (call.Writeback c.advance-in-Writeback.new.self)
    c.advance-in-Writeback.new.scratch c.advance-in-Writeback.new.hand
    c.advance-in-Writeback.result) (sym c.in-Writeback.is)
    (writeback_turn c.args.scratch.now c.advance-in-Writeback.new.scratch
    c.advance-in-Writeback.result c.in-Writeback.call c.advance-in-Writeback.new.self
    c.advance-in-Writeback.ensures.turn)

pub returns-in-Compact-clause-turn : goal.returns-in-Compact-clause-turn
returns-in-Compact-clause-turn g c =
    let r = c.args.scratch.now in
    subst (λ (d : Call _). Advanced g.H.Hand.takes g.H.Hand.misses g.H.Hand.gives d r c.args.hand.now
    (call.Compact c.advance-in-Compact.new.self) r c.advance-in-Compact.new.hand
    c.advance-in-Compact.result) (sym c.in-Compact.is)
    (compact_turn r r c.advance-in-Compact.result g.row.D.Denot c.in-Compact.call c.advance-in-Compact.new.self
    c.advance-in-Compact.ensures.turn)
