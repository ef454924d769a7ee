use Rattle.std.proofs.Common.{sym, ap, ◌∙◌, rules}
use Rattle.std.proofs.lemmas.Result.{err_from_is_err_and}
use Rattle.job_session.specs.Telling.{OutputState}
use Rattle.job_session.proofs.Sent.{told_in_part, sent_in_part, all_sent}
use Rattle.job_session.proofs.items.send_phase.Goals as goal

pub returns-in_err-told-clause-lines : goal.returns-in_err-told-clause-lines
returns-in_err-told-clause-lines g c =
    let p = err_from_is_err_and c.from_residual.result c.from_residual.ensures.1 in
    let from = ap (λ (o : OutputState). o.sent) (sym c.new-out.ensures) in
    let none = ap (λ (o : OutputState). o.waits) c.new-out.ensures in
    let to = ap (λ (o : OutputState). o.sent) c.out.view_is in
    rw p.1
    (told_in_part _ c.new-out.result c.tell_phase-told.new.out _ from none _ _ _
    (search rules ∙ to) c.tell_phase-told.ensures)

pub returns-in_err-send-clause-lines : goal.returns-in_err-send-clause-lines
returns-in_err-send-clause-lines g c =
    let p = err_from_is_err_and c.from_residual-in_err-send.result
    c.from_residual-in_err-send.ensures.1 in
    let from = ap (λ (o : OutputState). o.sent) (sym c.new-out.ensures) in
    let none = ap (λ (o : OutputState). o.waits) c.new-out.ensures in
    let waits = c.deref.ensures.value ∙ ap (λ (o : OutputState). o.waits) c.out.view_is in
    let begun = c.in_err-send.ensures.some in
    rw p.1
    (sent_in_part _ c.new-out.result c.tell_phase-told.new.out _ from none c.deref.result.now waits
    (g.K.Sink.written c.send.new.out) _ (search rules) c.in_ok-told.ensures _
    (rw (← c.out.view_is) begun))

pub returns-clause-lines : goal.returns-clause-lines
returns-clause-lines g c =
    let from = ap (λ (o : OutputState). o.sent) (sym c.new-out.ensures) in
    let none = ap (λ (o : OutputState). o.waits) c.new-out.ensures in
    let waits = c.deref.ensures.value ∙ ap (λ (o : OutputState). o.waits) c.out.view_is in
    all_sent _ c.new-out.result c.tell_phase-told.new.out _ from none c.deref.result.now waits
    (g.K.Sink.written c.send.new.out) _ (search rules) c.in_ok-told.ensures c.out.inside.refused
    (rw (← c.out.view_is) c.in_ok-send.ensures.all)
    (ap (λ (o : OutputState). o.refused) c.out.view_is)
    (ap (λ (o : OutputState). o.refused) c.new-out.ensures)
