-- The mask, the base and the deltas are the payload.
use Rattle.std.proofs.Common.{◌∷◌, [], ap, ◌∙◌}
use Rattle.std.proofs.lemmas.Nat.{and_mask}
use Rattle.bdi_line.specs.Line.{b8d4}
use Rattle.bdi_line.proofs.Digits.{le_digits}
use Rattle.bdi_line.proofs.Split.{written}
use Rattle.bdi_line.proofs.pack.put_b8d4.Goals as goal

pub returns-clause-written : goal.returns-clause-written
returns-clause-written g c _ =
    written b8d4 c.args.values c.in-Some.split.marks c.in-Some.split.base c.in-Some.split.deltas
    c.args.out.now.items c.put.new.out.items c.put-2.new.out.items c.put-3.new.out.items _ _ _
    c.in-Some.ensures.some c.put.ensures.items c.put-2.ensures.items c.put-3.ensures.items
    (ap (λ x. x ∷ []) (and_mask c.in-Some.split.marks 8))
    (c.to_le_bytes.ensures ∙ le_digits 8 c.in-Some.split.base)
    c.low_4_of_words.ensures
