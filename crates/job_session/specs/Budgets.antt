-- The limit on writebacks over items in a row: what it has left, and what the lines tell that was
-- tried, are together what it had left before.
use Rattle.std.specs.Prelude.{◌≡◌, ℕ, ◌+◌, Bool, true, false, ◌&&◌, List, [], ◌∷◌, sum_by}
use Rattle.zr_base.specs.declared.op.OpEnd.{OpEnd}
use Rattle.zr_base.specs.declared.op.OpEnd.TheVariants as ends
use Rattle.mem_account.specs.declared.weight.Weight.{Weight}
use Rattle.plain_disk.specs.Output.{OutLine, ended}
use Rattle.plain_disk.specs.Rests.{Rest}
use Rattle.plain_disk.specs.Legal.{Item, budget_to, budgeted_to, Legal}

-- the writes of the device that an end tells to be tried
abbrev pub tries : OpEnd → ℕ
tries (ends.Written wrote lost) = wrote + lost
tries (ends.Budget wrote lost) = wrote + lost
tries (ends.NoBlock wrote lost) = wrote + lost
tries (ends.WriteEio fault wrote lost) = wrote + lost + 1
tries _ = 0

-- those that a line tells
abbrev pub line_tries : OutLine → ℕ
line_tries (ended tag end) = tries end
line_tries _ = 0

-- whether an item leaves the limit on writebacks as it is
abbrev pub leaves_budget : Item → Bool
leaves_budget (budget_to n) = false
leaves_budget (budgeted_to on) = false
leaves_budget _ = true

-- whether all items do
abbrev pub leave_budget : List Item → Bool
leave_budget [] = true
leave_budget (item ∷ items) = leaves_budget item && leave_budget items

-- while the limit on writebacks is on, and no item sets it, the writes that are tried are taken from
-- what it has left
abbrev pub BudgetIsSpent : Type 0
BudgetIsSpent = (form : List ℕ → Weight) (r : Rest) (items : List Item) (lines : List OutLine)
    (last : Rest) → Legal form r items lines last → leave_budget items ≡ true
    → r.set.budgeted ≡ true
    → (last.set.budgeted ≡ true) × (last.set.budget + sum_by line_tries lines ≡ r.set.budget)
