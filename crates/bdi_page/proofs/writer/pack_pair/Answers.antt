-- Two appends are one of both payloads.
use Rattle.std.proofs.Common.{◌++◌, ap, ◌∙◌, append_assoc}
use Rattle.bdi_line.specs.Packed.{payload_of}
use Rattle.bdi_page.proofs.writer.pack_pair.Goals as goal

pub returns-clause-payloads : goal.returns-clause-payloads
returns-clause-payloads c =
    let page = c.args.page.now in
    let j = c.args.j in
    c.pack_line-high.ensures.payload
    ∙ ap (λ l. l ++ payload_of c.line_at-2.result.now) c.pack_line-low.ensures.payload
    ∙ append_assoc c.args.out.now.items (payload_of c.line_at.result.now)
    (payload_of c.line_at-2.result.now)
    ∙ (λ i. c.args.out.now.items ++ (payload_of (c.line_at.ensures i) ++ payload_of
    (c.line_at-2.ensures i)))
