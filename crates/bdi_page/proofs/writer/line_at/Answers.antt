-- What stands from `at` on has 64 bytes at least.
use Rattle.std.proofs.Common.{◌-◌, length, drop, take, ap, ◌∙◌, arith, length-drop}
use Rattle.std.proofs.lemmas.List.{take_all}
use Rattle.bdi_page.proofs.writer.line_at.Goals as goal

pub returns : goal.returns
returns c =
    let page = c.args.page.now in
    let at = c.args.at in
    c.in-Some.ensures.cases.same
    ∙ ap (take 64) (take_all (length page - at) (drop at page) (omega (arith, length-drop at page)))
