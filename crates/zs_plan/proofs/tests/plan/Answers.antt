-- Three rows with the ids 0, 1 and 2 are apart.
use Rattle.std.proofs.Common.{◌≡◌, ◌≢◌, zero, suc, [], ◌∷◌, arith, AllPairs, rules}
use Rattle.zs_plan.specs.declared.Row.{Row}
use Rattle.zs_plan.proofs.tests.plan.Goals as goal

three_apart : (a b c : Row) → a.id ≡ 0 → b.id ≡ 1 → c.id ≡ 2
    → AllPairs (λ x y. x.id ≢ y.id) (a ∷ b ∷ c ∷ [])
three_apart a b c p q r zero zero d lt low e = omega arith
three_apart a b c p q r zero (suc zero) d lt low e = omega (arith, e, p, q)
three_apart a b c p q r zero (suc (suc zero)) d lt low e = omega (arith, e, p, r)
three_apart a b c p q r zero (suc (suc (suc j))) d lt low e = omega arith
three_apart a b c p q r (suc zero) zero d lt low e = omega arith
three_apart a b c p q r (suc zero) (suc zero) d lt low e = omega arith
three_apart a b c p q r (suc zero) (suc (suc zero)) d lt low e = omega (arith, e, q, r)
three_apart a b c p q r (suc zero) (suc (suc (suc j))) d lt low e = omega arith
three_apart a b c p q r (suc (suc i)) j d lt low e = omega arith

pub choose-requires : goal.choose-requires
choose-requires c = three_apart _ _ _ (search rules) (search rules) (search rules)
