use Rattle.std.proofs.Common.{◌+◌, drop, [], ◌∷◌, ◌++◌, ap, ◌∙◌, arith}
use Rattle.lock_table.specs.declared.view.View.TheVariants.{Open}
use Rattle.lock_table.specs.Starts.{fresh_from}
use Rattle.lock_table.proofs.Openings.{next_hand, one_hand}
use Rattle.lock_table.proofs.row.TableRow.make.Goals as goal

pub deal-requires-clause-first : goal.deal-requires-clause-first
deal-requires-clause-first g c =
    let start = g.P.PhaseStart.start in
    let i = c.loop-actor.invariant in
    let n = next_hand c.in_ok-row.field-0.row.id start start.locals c.loop-actor.actor
    (let t = c.loop-actor-test.true in let k = i.count in omega arith) in (
      start,
      n.0,
      _,
      i.left ∙ ap (λ xs. (Open start xs, [])) n.2,
      c.requires.begins.free
          c.loop-actor.actor n.0 n.1,
    )

pub loop-actor-preserved : goal.loop-actor-preserved
loop-actor-preserved g c =
    let start = g.P.PhaseStart.start in
    let i = c.loop-actor.invariant in
    let n = next_hand c.in_ok-row.field-0.row.id start start.locals c.loop-actor.actor
    (let t = c.loop-actor-test.true in let k = i.count in omega arith) in
    let d = c.deal.ensures.dealt start n.0 _ (i.left ∙ ap (λ xs. (Open start xs, [])) n.2) in
    record {
      own = c.deal.ensures.own ∙ i.own;
      named = i.named;
      count = i.count;
      left = d.0;
      made = ap (λ hs. hs ++ fresh_from c.in_ok-row.field-0.row.id start (c.loop-actor.actor + 1)
          (drop (c.loop-actor.actor + 1) start.locals))
          (c.push_reserved.ensures.items ∙ ap (λ h. c.loop-actor.hands.items ++ h ∷ []) d.1)
          ∙ one_hand c.in_ok-row.field-0.row.id start start.locals c.loop-actor.actor n.0
          c.loop-actor.hands.items _ n.3 i.made;
      len = (let p = c.push_reserved.ensures.len in let l = i.len in omega arith);
      room = (let p = c.push_reserved.ensures.capacity in let r = i.room in omega arith);
    }
