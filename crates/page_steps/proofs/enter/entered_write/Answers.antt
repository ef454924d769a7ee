use Rattle.std.proofs.Common.{◌≡◌, false, sym, ◌∙◌, arith}
use Rattle.std.proofs.lemmas.Bool.Decides.{nat_tests}
use Rattle.page_steps.specs.Calls.{is_whole}
use Rattle.page_steps.proofs.Formed.{entered_seen, entered_away, plain_is}
use Rattle.page_steps.proofs.enter.entered_write.Goals as goal

pub returns-in-Obj : goal.returns-in-Obj
returns-in-Obj g c =
    let a = c.args in
    let part : is_whole a.head.piece ≡ false = grind (arith, nat_tests) in
    entered_seen a.head a.scratch.now a.entry c.in-Obj.object c.requires.write part c.requires.within
    c.requires.place (sym c.kept.ensures ∙ c.in-Obj.is)

pub returns-in-Wb : goal.returns-in-Wb
returns-in-Wb g c =
    let a = c.args in
    let part : is_whole a.head.piece ≡ false = grind (arith, nat_tests) in
    entered_away a.head a.scratch.now a.entry c.in-Wb.block c.requires.write part c.requires.within
    c.requires.place (sym c.kept.ensures ∙ c.in-Wb.is)

pub expand-requires : goal.expand-requires
expand-requires g c = plain_is c.kept.result c.in_default.not-Obj c.in_default.not-Wb
