use Rattle.std.proofs.Common.{sym, ap, ◌∙◌, rules}
use Rattle.std.proofs.lemmas.Result.{err_from_is_err_and}
use Rattle.job_session.specs.Telling.{OutputState}
use Rattle.job_session.proofs.Sent.{told_in_part, sent_in_part, all_sent, items_in_part, items_sent}
use Rattle.job_session.proofs.items.send_items.Goals as goal

pub returns-in_err-run-clause-items : goal.returns-in_err-run-clause-items
returns-in_err-run-clause-items g c =
    let p = err_from_is_err_and c.from_residual.result c.from_residual.ensures.1 in
    let from = ap (λ (o : OutputState). o.sent) (sym c.new-out.ensures) in
    let none = ap (λ (o : OutputState). o.waits) c.new-out.ensures in
    let to = ap (λ (o : OutputState). o.sent) c.out.view_is in
    let told = c.run_items-run.ensures.items in
    rw p.1
    (items_in_part _ _ _ _ _ c.requires.none _ told _ _ _
    (told_in_part told.lines c.new-out.result c.run_items-run.new.out _ from none _ _ _
    (search rules ∙ to) told.told))

pub returns-in_err-send-clause-items : goal.returns-in_err-send-clause-items
returns-in_err-send-clause-items g c =
    let p = err_from_is_err_and c.from_residual-in_err-send.result
    c.from_residual-in_err-send.ensures.1 in
    let from = ap (λ (o : OutputState). o.sent) (sym c.new-out.ensures) in
    let none = ap (λ (o : OutputState). o.waits) c.new-out.ensures in
    let waits = c.deref.ensures.value ∙ ap (λ (o : OutputState). o.waits) c.out.view_is in
    let told = c.in_ok-run.ensures.items in
    let begun = c.in_err-send.ensures.some in
    rw p.1
    (items_in_part _ _ _ _ _ c.requires.none _ told _ _ _
    (sent_in_part told.lines c.new-out.result c.run_items-run.new.out _ from none
    c.deref.result.now waits (g.K.Sink.written c.send.new.out) _ (search rules) told.told _
    (rw (← c.out.view_is) begun)))

pub returns-clause-items : goal.returns-clause-items
returns-clause-items g c =
    let from = ap (λ (o : OutputState). o.sent) (sym c.new-out.ensures) in
    let none = ap (λ (o : OutputState). o.waits) c.new-out.ensures in
    let waits = c.deref.ensures.value ∙ ap (λ (o : OutputState). o.waits) c.out.view_is in
    let told = c.in_ok-run.ensures.items in
    items_sent _ _ _ _ _ c.requires.none told _ _ _
    (all_sent told.lines c.new-out.result c.run_items-run.new.out _ from none c.deref.result.now
    waits (g.K.Sink.written c.send.new.out) _ (search rules) told.told c.out.inside.refused
    (rw (← c.out.view_is) c.in_ok-send.ensures.all)
    (ap (λ (o : OutputState). o.refused) c.out.view_is)
    (ap (λ (o : OutputState). o.refused) c.new-out.ensures))
