-- Each number of frames that wastes less than the best so far takes its place.
use Rattle.std.proofs.Common.{refl, arith, sym, subst, ap, ◌∙◌, ◌≡◌}
use Rattle.size_class.specs.Classes.{chain_of, IsChain}
use Rattle.size_class.proofs.ClassRules.{chain_taken, chain_kept, chain_of-is}
use Rattle.size_class.proofs.table.chain.Goals as goal
use Rattle.size_class.proofs.table.chain.Goals.{then-frames-cell, else-frames-cell}

pub loop-shorter-init : goal.loop-shorter-init
unfolding chain_of
loop-shorter-init c = (refl, omega arith, omega arith)

pub loop-shorter-preserved : goal.loop-shorter-preserved
loop-shorter-preserved c =
    elim c.if-frames-cell.branch [
      | then-frames-cell w ↦ rw w.best-is (
        chain_taken _ _ _ _ c.size-cell.ensures.value
            c.loop-shorter.invariant.0 w.if-frames-cell.true,
        omega arith,
        omega arith,
      )
      | else-frames-cell w ↦ rw w.best-is (
        chain_kept _ _ _ _ c.size-cell.ensures.value
            c.loop-shorter.invariant.0 w.if-frames-cell.false,
        omega arith,
        omega arith,
      )
    ]

pub returns-clause-rule : goal.returns-clause-rule
returns-clause-rule c =
    let whole : c.loop-shorter.shorter ≡ c.args.max_chain = omega arith in
    let chosen : c.loop-shorter.best ≡ chain_of c.args.max_chain c.args.k =
    c.loop-shorter.invariant.0 ∙ ap (λ m. chain_of m c.args.k) whole in
    subst (λ r. IsChain c.args.max_chain c.args.k r) (sym chosen) (chain_of-is _ _ (omega arith))
