use Rattle.std.proofs.Common.{◌-◌, ◌*◌, drop, take, ap, ◌∙◌, arith, length-drop}
use Rattle.std.proofs.lemmas.List.{take_all}
use Rattle.zr_base.specs.Sectors.{page_sector}
use Rattle.zr_base.proofs.page.Page.sector.Goals as goal

pub returns : goal.returns
returns c =
    c.in-Some.ensures.cases.same
    ∙ ap (take 512) (take_all (4096 - 512 * c.args.at) (drop (512 * c.args.at) c.self.inside.bytes)
    (omega (arith, c.self.told, length-drop (512 * c.args.at) c.self.inside.bytes)))
    ∙ ap (λ p. page_sector p c.args.at) c.self.view_is
