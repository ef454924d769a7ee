use Rattle.std.proofs.Common.{ℕ, List, ◌++◌, ap, ◌∙◌}
use Rattle.zr_base.specs.declared.op.Piece.{Piece}
use Rattle.actor_steps.proofs.Sectors.{got_read}
use Rattle.actor_steps.proofs.work.append_read.Goals as goal

pub returns-clause-got : goal.returns-clause-got
returns-clause-got c =
    let piece = c.requires.piece in
    c.append_sectors.ensures.items
    ∙ ap (λ (xs : List (List ℕ)). c.args.sectors.now.items ++ xs)
    (got_read c.args.start c.args.count c.args.piece.page.0 c.args.piece.first c.args.piece.count
    c.args.page.now (ap (λ (p : Piece). p.first) piece) (ap (λ (p : Piece). p.count) piece))
