use Rattle.std.proofs.Common.{◌∷◌, [], ◌++◌, sym, ap, ◌∙◌, subst, append_assoc, arith}
use Rattle.lock_table.proofs.Steps.{Sits}
use Rattle.lock_table.proofs.Shuts.{slot_there, leaves, hand_is, last_seat, none_left}
use Rattle.lock_table.proofs.closing.shut.Goals as goal

pub loop-hand-init : goal.loop-hand-init
loop-hand-init g c =
    let r = g.V.RowValue.rule in
    let sits = subst (λ h. Sits r h c.hand.inside.seat.me) c.hand.view_is c.hand.invariant in
    let e = sym (ap (λ h. h.list) c.hands.view_is) ∙ c.in-Some.ensures.items in
    let w = c.requires.hands in
    record {
      own = ap (λ h. h.id) c.hand.view_is
          ∙ (hand_is c.args.row w.0 c.args.hands.list w.1 c.pop.new.self.items [] c.in-Some.hand
          e).0;
      gone = λ start all. (
        c.in-Some.hand ∷ [],
        e,
        last_seat c.args.row start c.args.hands.list all
            r.spot c.pop.new.self.items c.in-Some.hand c.hand.inside.seat.me e sits,
      );
    }

pub gather-requires-clause-own : goal.gather-requires-clause-own
gather-requires-clause-own g c =
    let w = c.requires.hands in
    let o = c.loop-hand.invariant.gone w.0 w.1 in
    let e = o.1 ∙ (ap (λ hs. hs ++ o.0) c.in-Some-pop.ensures.items
    ∙ append_assoc c.pop-in-loop-hand.new.self.items (c.in-Some-pop.hand ∷ []) o.0) in (
      c.loop-hand.invariant.own,
      (hand_is c.args.row w.0 c.args.hands.list w.1 c.pop-in-loop-hand.new.self.items o.0
          c.in-Some-pop.hand e).0,
    )

pub gather-requires-clause-free : goal.gather-requires-clause-free
gather-requires-clause-free g c =
    let w = c.requires.hands in
    let o = c.loop-hand.invariant.gone w.0 w.1 in
    let e = o.1 ∙ (ap (λ hs. hs ++ o.0) c.in-Some-pop.ensures.items
    ∙ append_assoc c.pop-in-loop-hand.new.self.items (c.in-Some-pop.hand ∷ []) o.0) in
    (hand_is c.args.row w.0 c.args.hands.list w.1 c.pop-in-loop-hand.new.self.items o.0
    c.in-Some-pop.hand e).2

pub gather-requires-clause-seat : goal.gather-requires-clause-seat
gather-requires-clause-seat g c = let w = c.requires.hands in
    (w.0, _, (c.loop-hand.invariant.gone w.0 w.1).2)

pub loop-hand-preserved : goal.loop-hand-preserved
loop-hand-preserved g c = record {
  own = c.gather.ensures.own ∙ c.loop-hand.invariant.own;
  gone = λ start all.
      let o = c.loop-hand.invariant.gone start all in (
        c.in-Some-pop.hand ∷ o.0,
        o.1 ∙ (ap (λ hs. hs ++ o.0) c.in-Some-pop.ensures.items
            ∙ append_assoc c.pop-in-loop-hand.new.self.items (c.in-Some-pop.hand ∷ []) o.0),
        c.gather.ensures.both start _ o.2,
      );
}

pub take_all-requires-clause-there : goal.take_all-requires-clause-there
take_all-requires-clause-there g c =
    let w = c.requires.hands in
    let o = c.loop-hand.invariant.gone w.0 w.1 in
    let n = c.loop-hand.list.ok in
    let whole = none_left c.args.row w.0 c.args.hands.list w.1 c.loop-hand.list.items o.0
    c.loop-hand.seat.me (let k = c.in_default-pop.ensures.cases in omega (arith, n.0, k.0)) o.1
    o.2 in
    slot_there g.V.RowValue.rule _ _ c.args.row w.0 c.args.hands.list w.1 _ _ _
    (ap (λ m. m.0) whole) c.close_with-closed.ensures.values.2

pub returns-clause-left : goal.returns-clause-left
returns-clause-left g c start all =
    let o = c.loop-hand.invariant.gone start all in
    let n = c.loop-hand.list.ok in
    let whole = none_left c.args.row start c.args.hands.list all c.loop-hand.list.items o.0
    c.loop-hand.seat.me (let k = c.in_default-pop.ensures.cases in omega (arith, n.0, k.0)) o.1
    o.2 in
    leaves g.V.RowValue.rule _ _ c.args.row start c.args.hands.list all _ _ _ (ap (λ m. m.0) whole)
    c.close_with-closed.ensures.values.2 c.take_all.result.items c.take_all.ensures.values
