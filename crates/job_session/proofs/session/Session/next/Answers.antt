use Rattle.std.proofs.Common.{Ok, refl, sym, ap, ◌∙◌}
use Rattle.job_session.proofs.Calls.{phase_next, ended_next, stopped_next}
use Rattle.job_session.proofs.session.Session.next.Goals as goal

pub returns-in-Ok-Some-clause-goes : goal.returns-in-Ok-Some-clause-goes
returns-in-Ok-Some-clause-goes g c =
    phase_next c.args.self.now _ _ _ (g.K.Sink.fault_count c.args.out.now)
    (g.K.Sink.fault_count c.advance-went.new.sink) (g.K.Sink.has_stopped c.advance-went.new.sink)
    c.in-Here.world
    (sym c.replace.ensures.value ∙ c.in-Here.is)
    (record { world = c.advance-went.new.world; phase = c.in-Ok-Some.phase })
    c.advance-went.result refl (c.in-Ok-Some.is ∙ ap Ok c.in-Ok-Some.field-0-is)
    c.advance-went.ensures.goes

pub returns-in-Ok-None-clause-goes : goal.returns-in-Ok-None-clause-goes
returns-in-Ok-None-clause-goes g c =
    ended_next c.args.self.now _ _ _ _ _ _ c.in-Here.world
    (sym c.replace.ensures.value ∙ c.in-Here.is) c.advance-went.new.world
    c.advance-went.result c.ended.result refl (c.in-Ok-None.is ∙ ap Ok c.in-Ok-None.field-0-is)
    c.ended.ensures c.advance-went.ensures.goes

pub returns-in-Err-clause-goes : goal.returns-in-Err-clause-goes
returns-in-Err-clause-goes g c =
    stopped_next c.args.self.now _ _ _ _ _ _ c.in-Here.world
    (sym c.replace.ensures.value ∙ c.in-Here.is) c.advance-went.new.world c.advance-went.result
    c.stopped.result c.in-Err.stop refl c.in-Err.is c.stopped.ensures
    c.advance-went.ensures.goes c.advance-went.ensures.cause
