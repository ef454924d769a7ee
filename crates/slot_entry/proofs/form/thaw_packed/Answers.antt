-- The page that is unpacked is kept packed where its words differ and the bytes are few enough.
use Rattle.std.proofs.Common.{◌≡◌, ℕ, List, refl, sym, subst, arith}
use Rattle.slot_entry.specs.Forms.{IsSame}
use Rattle.same_fill.specs.Filled.{IsFilled}
use Rattle.slot_entry.proofs.Options.{none_of, some_of}
use Rattle.slot_entry.proofs.form.thaw_packed.Goals as goal
use Rattle.slot_entry.proofs.form.thaw_packed.Goals.{then-bytes-via-then-bytes, then-bytes-via-else-bytes+then-not-unpack}

pub returns-then-bytes-clause-none : goal.returns-then-bytes-clause-none
returns-then-bytes-clause-none c _ other (is, e) =
    let p = (c.forms_tell_pages.ensures.packed other c.args.bytes.now is e).0 in
    elim c.then-bytes.branch [
      | then-bytes-via-then-bytes w ↦ (let short = p.short in let long = w.if-bytes in omega arith)
      | then-bytes-via-else-bytes+then-not-unpack w ↦
          w.unpack.ensures.none w.if-not-unpack.true other is p.packing
    ]

pub returns-clause-yes : goal.returns-clause-yes
returns-clause-yes c so = (
  c.is_page.ensures,
  c.forms_tell_pages.ensures.short c.unpack.new.page c.args.bytes.now c.is_page.ensures
      (λ (w, words). c.same_word.ensures.none
      (none_of c.same_word.result c.is_none.result c.is_none.ensures so) w words)
      (c.if-not-unpack.ensures.yes refl) (omega arith),
)

pub returns-clause-none : goal.returns-clause-none
returns-clause-none c so other (is, e) =
    let p = c.forms_tell_pages.ensures.packed other c.args.bytes.now is e in
    let same : other ≡ c.unpack.new.page = c.if-not-unpack.ensures.only refl other is p.0.packing in
    let P : List ℕ → Type 0 = IsSame in
    p.1 (subst P (sym same) (some_of c.same_word.result (IsFilled c.unpack.new.page)
    c.is_none.result c.is_none.ensures so c.same_word.ensures.some))
