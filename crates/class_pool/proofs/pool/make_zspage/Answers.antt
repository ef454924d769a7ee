-- One more zspage is there, with numbers for its cells.
use Rattle.std.proofs.Common.{◌≡◌, ◌+◌, ◌*◌, ◌≤◌, length, subst, arith}
use Rattle.class_pool.specs.Index.{Fit}
use Rattle.class_pool.proofs.SumLaws.{least_few}
use Rattle.class_pool.proofs.PoolLaws.{grown_fit, added_fit}
use Rattle.class_pool.proofs.pool.make_zspage.Goals as goal
use Rattle.class_pool.proofs.pool.make_zspage.Goals.{After-grow}

-- more numbers fit as well
grown : (c : After-grow) → Fit c.args.zspages.now c.grow.new.self
grown c =
    grown_fit c.least_absent-id.result _ _ _ c.requires.fit c.least_absent-id.ensures.within
    (record {
      more = c.grow.ensures.more;
      bound = subst (λ n. length c.args.places.now ≤ (c.least_absent-id.result + 1) * n
          → length c.grow.new.self ≤ (c.least_absent-id.result + 1) * n)
          c.per.ensures c.grow.ensures.bound;
      stays = subst (λ n. (c.least_absent-id.result + 1) * n ≤ length c.args.places.now
          → c.grow.new.self ≡ c.args.places.now) c.per.ensures c.grow.ensures.stays;
    })

pub add-requires-clause-short : goal.add-requires-clause-short
add-requires-clause-short c =
    omega (arith, least_few _ _ c.least_absent-id.ensures c.requires.filled, c.requires.few)

pub returns-in_err-grow-clause-fit : goal.returns-in_err-grow-clause-fit
returns-in_err-grow-clause-fit c = grown (goal.at.returns-in_err-grow-clause-fit c).After-grow

pub returns-in_err-add-clause-fit : goal.returns-in_err-add-clause-fit
returns-in_err-add-clause-fit c =
    rw c.in_err-add.ensures.err (grown (goal.at.returns-in_err-add-clause-fit c).After-grow)

pub returns-clause-fit : goal.returns-clause-fit
returns-clause-fit c =
    added_fit c.least_absent-id.result _ _ _ (grown (goal.at.returns-clause-fit c).After-grow)
    c.least_absent-id.ensures
    (omega (arith, least_few _ _ c.least_absent-id.ensures c.requires.filled, c.requires.few))
    (subst (λ n. (c.least_absent-id.result + 1) * n ≤ length c.grow.new.self)
    c.per.ensures c.in_ok-grow.ensures.ok)
    c.in_ok-add.ensures.ok
