-- A pool's cells keep their size as an object is freed.
use Rattle.std.proofs.Common.{◌≡◌, ℕ, ap, inl, inr}
use Rattle.class_pool.specs.Zspages.{Cells}
use Rattle.class_pool.specs.Pool.{PoolState, Frees}

pub size_stays : (old new : PoolState) (id ix frames : ℕ) (cells : Cells)
    → Frees old new id cells ix frames → new.size ≡ old.size
size_stays old new id ix frames cells frees =
    elim frees [ inl gone ↦ ap (λ p. p.size) gone.1 | inr kept ↦ ap (λ p. p.size) kept.1 ]
