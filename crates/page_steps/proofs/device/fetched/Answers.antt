use Rattle.std.proofs.Common.{None, refl, sym, ◌∙◌}
use Rattle.page_steps.specs.declared.stage.Scratch.{Scratch}
use Rattle.page_steps.proofs.Formed.{own_seen, read_fetched, fetched_written}
use Rattle.page_steps.proofs.device.fetched.Goals as goal

pub formed-requires-clause-own : goal.formed-requires-clause-own
formed-requires-clause-own g c =
    let a = c.args in
    let m : Scratch = record {
      page = a.scratch.now.page;
      fresh = c.merge.new.fresh;
      packed = a.scratch.now.packed;
      table = a.scratch.now.table;
    } in
    own_seen a.head a.scratch.now m a.entry None (sym c.is_write.ensures ∙ c.if-is_write.true)
    c.requires.within c.requires.place tt refl (record { sectors = c.merge.ensures.merged })
    c.merge.ensures.long

pub returns-then-is_write : goal.returns-then-is_write
returns-then-is_write g c =
    let a = c.args in
    let m : Scratch = record {
      page = a.scratch.now.page;
      fresh = c.merge.new.fresh;
      packed = a.scratch.now.packed;
      table = a.scratch.now.table;
    } in
    let write = sym c.is_write.ensures ∙ c.if-is_write.true in
    fetched_written a.head a.scratch.now m c.formed.new.scratch a.entry c.formed.result write
    c.merge.ensures.kept refl refl
    (own_seen a.head a.scratch.now m a.entry None write c.requires.within c.requires.place tt refl
    (record { sectors = c.merge.ensures.merged }) c.merge.ensures.long)
    c.formed.ensures.same c.formed.ensures.formed

pub returns-else-is_write : goal.returns-else-is_write
returns-else-is_write g c =
    let a = c.args in
    read_fetched a.head a.scratch.now a.entry a.block (sym c.is_write.ensures ∙ c.if-is_write.false)
    c.requires
