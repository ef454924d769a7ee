use Rattle.std.proofs.Common.{sym, subst}
use Rattle.post_steps.specs.Idle.{IsReady}
use Rattle.post_steps.specs.declared.idle.IdleStage.{IdleStage}
use Rattle.post_steps.proofs.ScanTurns.{from_stage}
use Rattle.post_steps.proofs.idle.IdleCall.advance.Goals as goal

pub step-next-requires-clause-ready : goal.step-next-requires-clause-ready
step-next-requires-clause-ready g c =
    subst (λ (s : IdleStage). IsReady g.H.Hand.can_take g.H.Hand.takes g.H.Hand.can_give
    c.args.self.now.head s c.args.hand.now) (sym c.replace-at.ensures.value)
    (record { fit = c.requires.fit; allows = c.requires.allows })

pub returns-clause-turn : goal.returns-clause-turn
returns-clause-turn g c = (from_stage c.replace-at.ensures.value c.step-next.ensures).turn
