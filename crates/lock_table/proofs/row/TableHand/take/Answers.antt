use Rattle.std.proofs.Common.{◌+◌, slice_get, sym, ap, ◌∙◌, subst, arith}
use Rattle.std.proofs.lemmas.Option.{slice_get_within}
use Rattle.lock_table.specs.Hands.{moved}
use Rattle.lock_table.proofs.Steps.{Sits, is_seen, closes, may_try, in_hand, out_of_it, missed_it, stayed, took_sits, took_it}
use Rattle.lock_table.proofs.row.TableHand.take.Goals as goal

pub compare_exchange-found-requires : goal.compare_exchange-found-requires
compare_exchange-found-requires g c =
    let r = g.V.RowValue.rule in
    let sits = subst (λ h. Sits r h c.self.inside.seat.me) c.self.view_is c.self.invariant in
    let below = slice_get_within c.row.inside.names.items c.place-at.result c.args.lock
    (ap (λ w. slice_get w.names c.place-at.result) c.row.view_is ∙ c.place-at.ensures.there) in (
      ap (λ h. h.id) c.self.view_is ∙ (c.requires.own ∙ sym (ap (λ w. w.id) c.row.view_is)),
      omega (arith, c.row.invariant.words),
      may_try r c.args.self.now c.args.lock g.N.NextLocal.next _ c.place-at.result
          c.place-at.ensures.spot c.laws.ensures _ _ _ c.self.inside.seat.me c.args.row.now sits
          c.requires (omega (arith, c.row.invariant.slots)) (ap (λ h. h.actor + 1) c.self.view_is),
    )

pub exchange-requires : goal.exchange-requires
exchange-requires g c =
    let r = g.V.RowValue.rule in
    let sits = subst (λ h. Sits r h c.self.inside.seat.me) c.self.view_is c.self.invariant in (
      c.compare_exchange-found.ensures.0
          ∙ (ap (λ h. h.id) c.self.view_is
          ∙ (c.requires.own ∙ sym (ap (λ w. w.id) c.row.view_is))),
      (
        _,
        in_hand r c.args.self.now c.args.lock g.N.NextLocal.next
            c.row.inside.table.shared.table_id.slots c.place-at.result c.place-at.ensures.spot
            (c.self.inside.actor + 1) c.compare_exchange-found.result c.self.inside.seat.me
            c.compare_exchange-found.new.seat.me sits c.compare_exchange-found.ensures.2
            c.if-found-ne0.false,
      ),
    )

pub unreachable-requires : goal.unreachable-requires
unreachable-requires g c =
    let r = g.V.RowValue.rule in
    let sits = subst (λ h. Sits r h c.self.inside.seat.me) c.self.view_is c.self.invariant in
    c.in_default.not-Some _
    (out_of_it r c.args.self.now c.args.lock g.N.NextLocal.next
    c.row.inside.table.shared.table_id.slots c.place-at.result c.place-at.ensures.spot
    (c.self.inside.actor + 1) c.compare_exchange-found.result c.self.inside.seat.me
    c.compare_exchange-found.new.seat.me sits c.compare_exchange-found.ensures.2
    c.if-found-ne0.false _ c.exchange.ensures.2)

pub invariant_of-self-2 : goal.invariant_of-self-2
invariant_of-self-2 g c =
    let r = g.V.RowValue.rule in
    let sits = subst (λ h. Sits r h c.self.inside.seat.me) c.self.view_is c.self.invariant in
    closes r c.self.inside.actor
    (moved r c.args.self.now c.args.lock g.N.NextLocal.next c.in-Some.value)
    c.exchange.new.seat.me (ap (λ h. h.actor) c.self.view_is)
    (took_sits r c.args.self.now c.args.lock g.N.NextLocal.next
    c.row.inside.table.shared.table_id.slots c.place-at.result c.place-at.ensures.spot
    (c.self.inside.actor + 1) c.compare_exchange-found.result c.self.inside.seat.me
    c.compare_exchange-found.new.seat.me sits c.compare_exchange-found.ensures.2 c.args.row.now
    c.requires c.if-found-ne0.false _ c.in-Some.value _ c.exchange.ensures.2
    c.exchange.ensures.3 c.in-Some.is)

pub invariant_of-self : goal.invariant_of-self
invariant_of-self g c =
    let r = g.V.RowValue.rule in
    let sits = subst (λ h. Sits r h c.self.inside.seat.me) c.self.view_is c.self.invariant in
    closes r c.self.inside.actor c.args.self.now c.compare_exchange-found.new.seat.me
    (ap (λ h. h.actor) c.self.view_is)
    (stayed r c.args.self.now c.args.lock g.N.NextLocal.next
    c.row.inside.table.shared.table_id.slots c.place-at.result c.place-at.ensures.spot
    (c.self.inside.actor + 1) c.compare_exchange-found.result c.self.inside.seat.me
    c.compare_exchange-found.new.seat.me sits c.compare_exchange-found.ensures.2
    c.if-found-ne0.true)

pub returns : goal.returns
returns g c =
    let r = g.V.RowValue.rule in
    let sits = subst (λ h. Sits r h c.self.inside.seat.me) c.self.view_is c.self.invariant in
    took_it r c.args.self.now c.args.lock g.N.NextLocal.next
    c.row.inside.table.shared.table_id.slots c.place-at.result c.place-at.ensures.spot
    (c.self.inside.actor + 1) c.compare_exchange-found.result c.self.inside.seat.me
    c.compare_exchange-found.new.seat.me sits c.compare_exchange-found.ensures.2 c.args.row.now
    c.requires c.if-found-ne0.false _ c.in-Some.value _ c.exchange.ensures.2
    c.exchange.ensures.3 c.in-Some.is _
    (is_seen r c.exchange.new.seat.table_id c.self.inside.actor
    (moved r c.args.self.now c.args.lock g.N.NextLocal.next c.in-Some.value)
    c.exchange.new.seat.me
    (c.exchange.ensures.0 ∙ (c.compare_exchange-found.ensures.0 ∙ ap (λ h. h.id) c.self.view_is))
    (ap (λ h. h.actor) c.self.view_is)
    (took_sits r c.args.self.now c.args.lock g.N.NextLocal.next
    c.row.inside.table.shared.table_id.slots c.place-at.result c.place-at.ensures.spot
    (c.self.inside.actor + 1) c.compare_exchange-found.result c.self.inside.seat.me
    c.compare_exchange-found.new.seat.me sits c.compare_exchange-found.ensures.2 c.args.row.now
    c.requires c.if-found-ne0.false _ c.in-Some.value _ c.exchange.ensures.2
    c.exchange.ensures.3 c.in-Some.is))

pub returns-then-found-ne0 : goal.returns-then-found-ne0
returns-then-found-ne0 g c =
    let r = g.V.RowValue.rule in
    let sits = subst (λ h. Sits r h c.self.inside.seat.me) c.self.view_is c.self.invariant in
    missed_it r c.args.self.now c.args.lock g.N.NextLocal.next
    c.row.inside.table.shared.table_id.slots c.place-at.result c.place-at.ensures.spot
    (c.self.inside.actor + 1) c.compare_exchange-found.result c.self.inside.seat.me
    c.compare_exchange-found.new.seat.me sits c.compare_exchange-found.ensures.2
    c.if-found-ne0.true _
    (is_seen r c.compare_exchange-found.new.seat.table_id c.self.inside.actor c.args.self.now
    c.compare_exchange-found.new.seat.me
    (c.compare_exchange-found.ensures.0 ∙ ap (λ h. h.id) c.self.view_is)
    (ap (λ h. h.actor) c.self.view_is)
    (stayed r c.args.self.now c.args.lock g.N.NextLocal.next
    c.row.inside.table.shared.table_id.slots c.place-at.result c.place-at.ensures.spot
    (c.self.inside.actor + 1) c.compare_exchange-found.result c.self.inside.seat.me
    c.compare_exchange-found.new.seat.me sits c.compare_exchange-found.ensures.2
    c.if-found-ne0.true))
