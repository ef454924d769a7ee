-- The pages that have an order, as a list, so that no other page need be looked at.
use Rattle.std.specs.Prelude.{◌≡◌, ℕ, ◌<◌, Bool, false, ◌==◌, ◌||◌, List, [], ◌∷◌, Option, ⊤}
use Rattle.std.specs.BTreeMap.{BTreeMap}
use Rattle.std.specs.List.{AllByRecursion}
use Rattle.zr_base.specs.declared.op.Op.{Op}
use Rattle.page_steps.specs.Steps.{DiskHeld}
use Rattle.actor_steps.specs.Counts.{count_at, pieces_each}
use Rattle.zr_core.specs.Machines.{order_at}

-- whether a page is in a list
abbrev pub is_in : List ℕ → ℕ → Bool
is_in [] page = false
is_in (p ∷ ps) page = p == page || is_in ps page

-- each page is above those before it
abbrev pub IsRising : List ℕ → Type 0
IsRising [] = ⊤
IsRising (p ∷ ps) = AllByRecursion (λ q. p < q) ps × IsRising ps

-- The list has pages of the disk, in rising order.
pub record ArePages (pages : ℕ) (noted : List ℕ) : Type 0 where
  pub rising : IsRising noted
  pub within : AllByRecursion (λ p. p < pages) noted

-- The list has just those pages of the disk that have a count.
pub record AreCounted (pages : ℕ) (counts : BTreeMap ℕ ℕ) (noted : List ℕ) : Type 0 where
  pub listed : ArePages pages noted
  pub others : (p : ℕ) → p < pages → is_in noted p ≡ false → count_at counts p ≡ 0

-- Every page with an order is in the list.
pub record HasAllOrders (pages : ℕ) (noted : List ℕ) (cells : List (Option DiskHeld)) : Type 0 where
  pub listed : ArePages pages noted
  pub others : (p : ℕ) → p < pages → is_in noted p ≡ false → order_at cells p ≡ []

-- Every page on which a piece of these actors has events is in the list.
pub record HasAllPieces (pages : ℕ) (backed : Bool) (noted : List ℕ) (actors : List (List Op))
    : Type 0 where
  pub listed : ArePages pages noted
  pub others : (p : ℕ) → p < pages → is_in noted p ≡ false
      → pieces_each pages backed actors p ≡ 0
