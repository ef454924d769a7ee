-- How many of the planned calls are due.
use Rattle.std.proofs.Common.{◌≡◌, ℕ, zero, suc, ◌+◌, ◌-◌, ◌^◌, ◌<◌, ◌≤◌, min, List, [], ◌∷◌, length, get_or, arith}
use Rattle.std.proofs.lemmas.Bool.Decides.{leb_tells}
use Rattle.std.proofs.lemmas.List.Sums.{sum_by-cons}
use Rattle.backing_dev.specs.Plan.{Calls, IsNextPlanned}
use Rattle.backing_dev.specs.PlanInside.{due_at, due_until}

-- One number

due_at-le : (n number : ℕ) → due_at n number ≤ 1
due_at-le n number = grind (arith, leb_tells number n)

due_at-mono : (n m number : ℕ) → n ≤ m → due_at n number ≤ due_at m number
due_at-mono n m number later = grind (arith, leb_tells number n, leb_tells number m)

due_at-now : (n number : ℕ) → number ≡ n + 1 → due_at n number + 1 ≤ due_at (n + 1) number
due_at-now n number now = grind (arith, leb_tells number n, leb_tells number (n + 1))

-- All of them

pub due_until-le : (n : ℕ) (failing : List ℕ) → due_until n failing ≤ length failing
due_until-le n [] = omega arith
due_until-le n (k ∷ failing) =
    omega (arith, sum_by-cons (due_at n) k failing, due_at-le n k, due_until-le n failing)

pub due_until-mono : (n m : ℕ) (failing : List ℕ) → n ≤ m
    → due_until n failing ≤ due_until m failing
due_until-mono n m [] later = omega arith
due_until-mono n m (k ∷ failing) later =
    let first = due_at-mono n m k later in
    let rest = due_until-mono n m failing later in
    omega (arith, sum_by-cons (due_at n) k failing, sum_by-cons (due_at m) k failing, first, rest)

-- a planned number is due from itself on
pub due_until-now : (n : ℕ) (failing : List ℕ) (at : ℕ)
    → at < length failing → get_or failing at (n + 1) ≡ n + 1
    → due_until n failing + 1 ≤ due_until (n + 1) failing
due_until-now n [] at within now = absurd (omega arith)
due_until-now n (k ∷ failing) zero within now =
    let rest = due_until-mono n (n + 1) failing (omega arith) in
    omega (
      arith,
      sum_by-cons (due_at n) k failing,
      sum_by-cons (due_at (n + 1)) k failing,
      due_at-now n k now,
      rest,
    )
due_until-now n (k ∷ failing) (suc at) within now =
    let first = due_at-mono n (n + 1) k (omega arith) in
    let rest = due_until-now n failing at (omega arith) now in
    omega (
      arith,
      sum_by-cons (due_at n) k failing,
      sum_by-cons (due_at (n + 1)) k failing,
      first,
      rest,
    )

-- a call that fails was planned
pub due_until-call : (p : Calls) → p.faults ≤ due_until p.calls p.failing → IsNextPlanned p
    → p.faults + 1 ≤ due_until (min (p.calls + 1) (2 ^ 64 - 1)) p.failing
due_until-call p few fails =
    let number : min (p.calls + 1) (2 ^ 64 - 1) ≡ p.calls + 1 = omega (arith, fails.0) in
    let at = fails.1 in
    rw number (omega (arith, few, due_until-now p.calls p.failing at.0 at.1 at.2))
