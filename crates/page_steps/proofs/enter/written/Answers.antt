use Rattle.std.proofs.Common.{refl, sym, subst}
use Rattle.page_steps.specs.Calls.{IsOwn}
use Rattle.page_steps.specs.Turns.{IsFormed}
use Rattle.page_steps.specs.declared.stage.Own.{Own}
use Rattle.page_steps.specs.declared.stage.Scratch.{Scratch}
use Rattle.page_steps.proofs.Formed.{own_merged, entered_written}
use Rattle.page_steps.proofs.enter.written.Goals as goal

pub formed-requires-clause-own : goal.formed-requires-clause-own
formed-requires-clause-own g c =
    let a = c.args in
    let m : Scratch = record {
      page = a.scratch.now.page;
      fresh = c.merge.new.fresh;
      packed = a.scratch.now.packed;
      table = a.scratch.now.table;
    } in
    subst (λ (own : Own). IsOwn a.head m own) (sym c.unread.ensures)
    (own_merged a.head a.scratch.now m a.entry c.requires.write c.requires.within c.requires.place
    c.requires.old (record { sectors = c.merge.ensures.merged }) c.merge.ensures.long)

pub returns : goal.returns
returns g c =
    let a = c.args in
    let m : Scratch = record {
      page = a.scratch.now.page;
      fresh = c.merge.new.fresh;
      packed = a.scratch.now.packed;
      table = a.scratch.now.table;
    } in
    entered_written a.head a.scratch.now m c.formed.new.scratch a.entry c.formed.result c.requires.write
    c.requires.within c.requires.place c.requires.old c.merge.ensures.kept refl
    (own_merged a.head a.scratch.now m a.entry c.requires.write c.requires.within c.requires.place
    c.requires.old (record { sectors = c.merge.ensures.merged }) c.merge.ensures.long)
    c.formed.ensures.same
    (subst (λ (own : Own). IsFormed a.head own c.formed.new.scratch c.formed.result) c.unread.ensures
    c.formed.ensures.formed)
