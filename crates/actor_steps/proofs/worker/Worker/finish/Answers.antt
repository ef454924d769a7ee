use Rattle.std.proofs.Common.{◌≡◌, ℕ, ◌+◌, Bool, cond, Some, slice_get, refl, sym, ap, ◌∙◌, subst}
use Rattle.std.proofs.lemmas.Bool.{eq-eqb, ne_eqb}
use Rattle.zr_base.specs.declared.op.Op.{Op}
use Rattle.call_history.specs.Parts.{without, op_end}
use Rattle.page_steps.specs.Calls.{end_of, got_of}
use Rattle.actor_steps.specs.Places.{todo_at, part_at, behind}
use Rattle.actor_steps.specs.Work.{reads}
use Rattle.actor_steps.specs.Replies.{HasMore}
use Rattle.actor_steps.proofs.Places.{at_index, touches_here}
use Rattle.actor_steps.proofs.worker.Worker.finish.Goals as goal
use Rattle.actor_steps.proofs.worker.Worker.finish.Goals.{After-index-ops-nr, then-self-nr, else-self-nr}

op_at : (g : _) (c : After-index-ops-nr g)
    → slice_get c.args.ops.now c.args.self.now.place.nr ≡ Some c.index-ops-nr.result
op_at g c = at_index c.args.ops.now c.args.self.now.place.nr c.index-ops-nr.result c.requires.more
    c.index-ops-nr.is

pub keep-requires-clause-touched : goal.keep-requires-clause-touched
keep-requires-clause-touched g c request =
    touches_here c.args.size c.args.backed c.args.ops.now c.args.self.now.place c.index-ops-nr.result
    (op_at g (goal.at.keep-requires-clause-touched g c).After-index-ops-nr)
    c.requires.requests c.requires.place c.requires.settled request

pub keep-requires-clause-room : goal.keep-requires-clause-room
keep-requires-clause-room g c r there =
    c.requires.room c.index-ops-nr.result r
    (op_at g (goal.at.keep-requires-clause-room g c).After-index-ops-nr) there

pub returns : goal.returns
returns g c =
    let w = c.args.self.now in
    let rest = todo_at c.args.size c.args.backed c.args.ops.now (behind w.place) in
    let next = c.next_place-self.ensures in
    let now : ℕ = c.next_place-self.result.nr in record {
      actor = refl;
      call = refl;
      scratch = refl;
      place = next.place;
      settled = next.settled;
      onward = next.onward;
      todo = next.todo
          ∙ ap (λ (b : Bool). cond b rest (without w.place.nr rest)) c.goes_on.ensures;
      later = λ off. next.later (c.goes_on.ensures ∙ off);
      carried = elim c.if-self-nr.branch [
        | then-self-nr b ↦ b.self-is
            ∙ sym (ap (λ (x : Bool). cond x (w.carried + 1) 0) (eq-eqb now w.place.nr b.if-self-nr.true))
        | else-self-nr b ↦ b.self-is
            ∙ sym (ap (λ (x : Bool). cond x (w.carried + 1) 0) (ne_eqb now w.place.nr b.if-self-nr.false))
      ];
      replies = λ op at.
          let same : op ≡ c.index-ops-nr.result =
          (let q : Some op ≡ Some c.index-ops-nr.result = sym at
          ∙ op_at g (goal.at.returns g c).After-index-ops-nr in cc) in
          subst (λ (o : Op). HasMore w.place.nr (op_end (end_of c.args.end) w.carried)
          (got_of c.args.end w.scratch.page (part_at w.place op)) (reads o w.place.page)
          w.replies.items c.keep.new.replies.items) (sym same)
          (c.keep.ensures (part_at w.place op) same refl);
    }
