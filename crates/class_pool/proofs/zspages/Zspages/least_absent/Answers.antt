-- With no room anywhere the first absent id wins, and where none is absent all ids are taken.
use Rattle.std.proofs.Common.{◌≡◌, ℕ, length, arith, sym, subst, ◌∙◌}
use Rattle.zspage.specs.Cells.{entry}
use Rattle.class_pool.specs.Zspages.{HasRoom, IsLeastAbsent}
use Rattle.class_pool.proofs.Ranks.{absent_first, all_full}
use Rattle.class_pool.proofs.zspages.Zspages.least_absent.Goals as goal

pub returns-then-rank-eq-ABSENT : goal.returns-then-rank-eq-ABSENT
returns-then-rank-eq-ABSENT c =
    subst (λ z. IsLeastAbsent z.zspages c.winner-winner.result) c.self.view_is
    (absent_first _ _ _ _ _ _ _ c.self.invariant c.winner-winner.ensures (sym c.rank.ensures
    ∙ c.if-rank-eq-ABSENT.true))

pub returns-else-rank-eq-ABSENT : goal.returns-else-rank-eq-ABSENT
returns-else-rank-eq-ABSENT c =
    let all : c.len.result ≡ length c.self.inside.items.items = omega arith in
    subst (λ z. IsLeastAbsent z.zspages c.len.result) c.self.view_is
    (rw all
    (all_full _ _ _ _ _ _ _ c.self.invariant c.winner-winner.ensures
    (subst (λ z. (k : ℕ) → HasRoom (entry z.zspages k) → ⊥) (sym c.self.view_is) c.requires)
    (λ one. c.if-rank-eq-ABSENT.false (c.rank.ensures ∙ one))))
