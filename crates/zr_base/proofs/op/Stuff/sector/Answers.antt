use Rattle.std.proofs.Common.{◌*◌, ◌∙◌, sym, ap, take, drop}
use Rattle.zr_base.specs.Plain.{stuff_sector}
use Rattle.zr_base.proofs.op.Stuff.sector.Goals as goal

pub returns-in-Fill : goal.returns-in-Fill
unfolding stuff_sector
returns-in-Fill c = c.put_same_words.ensures ∙ sym (ap (λ s. stuff_sector s c.args.k) c.in-Fill.is)

pub returns-in-Seq : goal.returns-in-Seq
unfolding stuff_sector
returns-in-Seq c = c.put_words.ensures ∙ sym (ap (λ s. stuff_sector s c.args.k) c.in-Seq.is)

pub returns-in-Hex : goal.returns-in-Hex
unfolding stuff_sector
returns-in-Hex c =
    c.put_bytes.ensures
    ∙ ap (λ bs. take 512 (drop (512 * c.args.k) bs)) c.as_slice.ensures
    ∙ sym (ap (λ s. stuff_sector s c.args.k) c.in-Hex.is)
