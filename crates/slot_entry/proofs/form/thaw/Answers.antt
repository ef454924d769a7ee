-- No object is longer than a page, and an object has one page.
use Rattle.std.proofs.Common.{◌≡◌, ◌++◌, sym, ap, ◌∙◌, arith, length-append}
use Rattle.std.proofs.lemmas.Grind.{common_steps}
use Rattle.slot_entry.specs.Forms.{page_kept_as}
use Rattle.slot_entry.proofs.Forms.{kept_long}
use Rattle.slot_entry.proofs.form.thaw.Goals as goal

pub returns-then-is_empty-clause-only : goal.returns-then-is_empty-clause-only
returns-then-is_empty-clause-only c so other (is, e) =
    let first = c.args.first.now in
    let joined = first ++ c.args.second.now in
    let law = c.kept_bytes_have_one_page.ensures in
    let whole : joined ≡ first = grind (arith, common_steps) in
    let k = c.thaw_whole.ensures.yes so in
    sym (law other joined c.args.huge is e) ∙ ap (λ l. page_kept_as l c.args.huge) whole
    ∙ law c.thaw_whole.new.page first c.args.huge k.0 k.1

pub returns-then-first-gt4096-clause-none : goal.returns-then-first-gt4096-clause-none
returns-then-first-gt4096-clause-none c _ other (is, e) =
    let first = c.args.first.now in
    let second = c.args.second.now in
    let long = kept_long other (first ++ second) c.args.huge is e in
    let both = length-append first second in
    let branch = c.then-first-gt4096.branch in
    omega arith

pub returns-clause-only : goal.returns-clause-only
returns-clause-only c so other (is, e) =
    let joined = c.args.first.now ++ c.args.second.now in
    let law = c.kept_bytes_have_one_page.ensures in
    let same : c.as_slice.result.now ≡ joined = c.as_slice.ensures.value ∙ c.joined.ensures in
    let k = c.thaw_whole-2.ensures.yes so in
    sym (law other joined c.args.huge is e)
    ∙ ap (λ l. page_kept_as l c.args.huge) (sym same)
    ∙ law c.thaw_whole-2.new.page c.as_slice.result.now c.args.huge k.0 k.1
