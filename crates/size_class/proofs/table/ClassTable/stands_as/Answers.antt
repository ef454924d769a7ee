-- The table has what class k stands as; each clause is a law of that.
use Rattle.std.proofs.Common.{◌∙◌, ◌<◌, ap, sym, subst}
use Rattle.size_class.specs.Classes.{stands_of}
use Rattle.size_class.proofs.ClassRules.{shares_if, other_chain, other_per, stands_next, stands_alone, stands_of-itself, stands_of-above, stands_of-bound, stands_last, packed_below}
use Rattle.size_class.proofs.table.ClassTable.stands_as.Goals as goal

pub returns-clause-last : goal.returns-clause-last
returns-clause-last c last =
    c.self.invariant.right _ c.requires ∙ ap (λ k. stands_of c.self.inside.max_chain k) last
    ∙ stands_last _

pub returns-clause-next : goal.returns-clause-next
returns-clause-next c low chains cells =
    stands_next _ _ _ (c.self.invariant.right _ c.requires
    ∙ ap (λ m. stands_of m c.args.k) c.self.view_is) low (shares_if _ _ chains cells)

pub returns-clause-other_chain : goal.returns-clause-other_chain
returns-clause-other_chain c low chains =
    stands_alone _ _ _ (c.self.invariant.right _ c.requires
    ∙ ap (λ m. stands_of m c.args.k) c.self.view_is) low (other_chain _ _ chains)

pub returns-clause-other_per : goal.returns-clause-other_per
returns-clause-other_per c low cells =
    stands_alone _ _ _ (c.self.invariant.right _ c.requires
    ∙ ap (λ m. stands_of m c.args.k) c.self.view_is) low (other_per _ _ cells)

pub returns-clause-itself : goal.returns-clause-itself
returns-clause-itself c =
    stands_of-itself _ _ _ (c.self.invariant.right _ c.requires
    ∙ ap (λ m. stands_of m c.args.k) c.self.view_is) c.requires

pub returns-clause-above : goal.returns-clause-above
returns-clause-above c = stands_of-above _ _ _ (c.self.invariant.right _ c.requires) c.requires

pub returns-clause-bound : goal.returns-clause-bound
returns-clause-bound c = stands_of-bound _ _ _ (c.self.invariant.right _ c.requires)

pub returns-clause-packed : goal.returns-clause-packed
returns-clause-packed c packed =
    subst (λ r. r < 254) (sym (c.self.invariant.right _ c.requires))
    (packed_below _ _ c.self.invariant.low c.self.invariant.high packed)
