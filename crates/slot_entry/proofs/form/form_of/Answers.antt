-- The word, or the packing's length, tells the form.
use Rattle.std.proofs.Common.{ap, length, refl, arith}
use Rattle.slot_entry.proofs.form.form_of.Goals as goal

pub returns-in-Some-clause-is : goal.returns-in-Some-clause-is
returns-in-Some-clause-is c =
    c.forms_tell_pages.ensures.filled c.args.page.now c.in-Some.word c.is_page.ensures
    c.in-Some.ensures.some

pub returns-then-len-clause-form : goal.returns-then-len-clause-form
returns-then-len-clause-form c = (
  λ (w, words). c.in_default.ensures.none refl w words,
  λ bytes k. omega (arith, ap length (c.pack.ensures.one bytes k), c.if-len.true),
)

pub returns-then-len-clause-is : goal.returns-then-len-clause-is
returns-then-len-clause-is c =
    c.forms_tell_pages.ensures.long c.args.page.now c.pack.new.out.items c.is_page.ensures
    (λ (w, words). c.in_default.ensures.none refl w words) c.pack.ensures.packing (omega arith)

pub returns-clause-is : goal.returns-clause-is
returns-clause-is c =
    c.forms_tell_pages.ensures.short c.args.page.now c.pack.new.out.items c.is_page.ensures
    (λ (w, words). c.in_default.ensures.none refl w words) c.pack.ensures.packing (omega arith)

pub returns-clause-len : goal.returns-clause-len
returns-clause-len c _ =
    let p = (c.forms_tell_pages.ensures.packed c.args.page.now c.pack.new.out.items
    c.is_page.ensures (returns-clause-is c)).0 in
    (p.some, p.short)
