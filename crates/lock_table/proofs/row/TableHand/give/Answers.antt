use Rattle.std.proofs.Common.{None, slice_get, sym, ap, ◌∙◌, subst, arith}
use Rattle.std.proofs.lemmas.Option.{slice_get_within}
use Rattle.lock_table.specs.Hands.{moved}
use Rattle.lock_table.proofs.Steps.{Sits, is_seen, closes, last_taken, was_empty, may_give, gave_sits}
use Rattle.lock_table.proofs.row.TableHand.give.Goals as goal

pub exchange-old-requires : goal.exchange-old-requires
exchange-old-requires g c =
    let r = g.V.RowValue.rule in
    let sits = subst (λ h. Sits r h c.self.inside.seat.me) c.self.view_is c.self.invariant in (
      ap (λ h. h.id) c.self.view_is ∙ (c.requires.own ∙ sym (ap (λ w. w.id) c.row.view_is)),
      (
        None,
        last_taken r c.args.self.now c.args.lock g.N.NextLocal.next 0 c.place-at.result
            c.place-at.ensures.spot c.args.row.now c.args.value c.requires c.self.inside.seat.me
            sits,
      ),
    )

pub unreachable-requires : goal.unreachable-requires
unreachable-requires g c =
    let r = g.V.RowValue.rule in
    let sits = subst (λ h. Sits r h c.self.inside.seat.me) c.self.view_is c.self.invariant in
    c.in_default.not-None
    (was_empty r c.args.self.now c.args.lock g.N.NextLocal.next 0 c.place-at.result
    c.place-at.ensures.spot c.args.row.now c.args.value c.requires c.self.inside.seat.me sits _
    c.exchange-old.ensures.2)

pub store-requires : goal.store-requires
store-requires g c =
    let r = g.V.RowValue.rule in
    let sits = subst (λ h. Sits r h c.self.inside.seat.me) c.self.view_is c.self.invariant in
    let below = slice_get_within c.row.inside.names.items c.place-at.result c.args.lock
    (ap (λ w. slice_get w.names c.place-at.result) c.row.view_is ∙ c.place-at.ensures.there) in (
      c.exchange-old.ensures.0
          ∙ (ap (λ h. h.id) c.self.view_is
          ∙ (c.requires.own ∙ sym (ap (λ w. w.id) c.row.view_is))),
      omega (arith, c.row.invariant.words),
      may_give r c.args.self.now c.args.lock g.N.NextLocal.next _ c.place-at.result
          c.place-at.ensures.spot c.args.row.now c.args.value c.requires c.self.inside.seat.me sits
          c.exchange-old.new.seat.me c.exchange-old.ensures.3 c.laws.ensures _ _
          (omega (arith, c.row.invariant.slots)),
    )

pub invariant_of-self : goal.invariant_of-self
invariant_of-self g c =
    let r = g.V.RowValue.rule in
    let sits = subst (λ h. Sits r h c.self.inside.seat.me) c.self.view_is c.self.invariant in
    closes r c.self.inside.actor
    (moved r c.args.self.now c.args.lock g.N.NextLocal.next c.args.value) c.store.new.seat.me
    (ap (λ h. h.actor) c.self.view_is)
    (gave_sits r c.args.self.now c.args.lock g.N.NextLocal.next
    c.row.inside.table.shared.table_id.slots c.place-at.result c.place-at.ensures.spot
    c.args.row.now c.args.value c.requires c.self.inside.seat.me sits
    c.exchange-old.new.seat.me c.exchange-old.ensures.3 c.store.new.seat.me c.store.ensures.2)

pub returns : goal.returns
returns g c =
    let r = g.V.RowValue.rule in
    let sits = subst (λ h. Sits r h c.self.inside.seat.me) c.self.view_is c.self.invariant in
    is_seen r c.store.new.seat.table_id c.self.inside.actor
    (moved r c.args.self.now c.args.lock g.N.NextLocal.next c.args.value) c.store.new.seat.me
    (c.store.ensures.0 ∙ (c.exchange-old.ensures.0 ∙ ap (λ h. h.id) c.self.view_is))
    (ap (λ h. h.actor) c.self.view_is)
    (gave_sits r c.args.self.now c.args.lock g.N.NextLocal.next
    c.row.inside.table.shared.table_id.slots c.place-at.result c.place-at.ensures.spot
    c.args.row.now c.args.value c.requires c.self.inside.seat.me sits
    c.exchange-old.new.seat.me c.exchange-old.ensures.3 c.store.new.seat.me c.store.ensures.2)
