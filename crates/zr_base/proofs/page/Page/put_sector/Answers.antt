use Rattle.std.proofs.Common.{◌*◌, length, refl, ap, ◌∙◌, arith}
use Rattle.zr_base.specs.Sectors.{page_sector}
use Rattle.zr_base.proofs.Sectors.{page_sector-put, page_sector-put_other}
use Rattle.zr_base.proofs.page.Page.put_sector.Goals as goal

pub returns-clause-put : goal.returns-clause-put
returns-clause-put c =
    let at = c.args.at in
    let n = ap length c.copy_from_slice.ensures.after ∙ c.told-from in
    page_sector-put (512 * at) _ at c.self.inside.bytes _
    (omega arith) refl (omega (arith, c.self.told)) n
    ∙ c.copy_from_slice.ensures.after

pub returns-clause-others : goal.returns-clause-others
returns-clause-others c k below other =
    let at = c.args.at in
    let n = ap length c.copy_from_slice.ensures.after ∙ c.told-from in
    page_sector-put_other (512 * at) _ at c.self.inside.bytes _
    (omega arith) refl (omega (arith, c.self.told)) n k other
    ∙ ap (λ p. page_sector p k) c.self.view_is
