use Rattle.std.proofs.Common.{refl, sym, ap, ◌∙◌, arith}
use Rattle.std.specs.Prelude.{true, false}
use Rattle.slot_entry.specs.Forms.{class_for}
use Rattle.page_steps.specs.Turns.{Keeps}
use Rattle.page_steps.specs.declared.stage.Scratch.{Scratch}
use Rattle.page_steps.proofs.Formed.{own_kept, formed_as, formed_same, formed_new}
use Rattle.page_steps.proofs.forms.formed.Goals as goal

pub returns-in-Same-clause-formed : goal.returns-in-Same-clause-formed
returns-in-Same-clause-formed g c =
    let a = c.args in
    let r : Scratch = record {
      page = a.scratch.now.page;
      fresh = a.scratch.now.fresh;
      packed = c.form_of.new.packed;
      table = a.scratch.now.table;
    } in
    let keeps : Keeps a.scratch.now r = record { page = refl; fresh = refl; table = refl } in
    formed_as c.settled.ensures.is
    (formed_same a.head r a.own c.in-Same.word (own_kept a.head a.scratch.now r a.own keeps c.requires.own)
    c.requires.write c.in-Same.ensures.is)

pub returns-in-Packed-clause-formed : goal.returns-in-Packed-clause-formed
returns-in-Packed-clause-formed g c =
    let a = c.args in
    let r : Scratch = record {
      page = a.scratch.now.page;
      fresh = a.scratch.now.fresh;
      packed = c.form_of.new.packed;
      table = a.scratch.now.table;
    } in
    let keeps : Keeps a.scratch.now r = record { page = refl; fresh = refl; table = refl } in
    let len = c.in-Packed.ensures.len refl in
    let class = c.class_for-class.ensures.class in
    formed_new a.head r a.own (record { class = c.class_for-class.result; huge = false })
    (own_kept a.head a.scratch.now r a.own keeps c.requires.own) c.requires.write c.in-Packed.ensures.is
    (class.2
    ∙ sym (c.packed_objects_have_classes.ensures.least a.scratch.now.table c.len.result class.0
    (omega (arith, len.0)) class.1)
    ∙ ap (class_for a.scratch.now.table) c.len.ensures.value)
    (omega (arith, len.1))

pub returns-in-Huge-clause-formed : goal.returns-in-Huge-clause-formed
returns-in-Huge-clause-formed g c =
    let a = c.args in
    let r : Scratch = record {
      page = a.scratch.now.page;
      fresh = a.scratch.now.fresh;
      packed = c.form_of.new.packed;
      table = a.scratch.now.table;
    } in
    let keeps : Keeps a.scratch.now r = record { page = refl; fresh = refl; table = refl } in
    formed_new a.head r a.own (record { class = 254; huge = true })
    (own_kept a.head a.scratch.now r a.own keeps c.requires.own) c.requires.write c.in-Huge.ensures.is refl
    (omega (arith, c.bytes-size.ensures.size))
