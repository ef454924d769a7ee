-- The row of a new disk.
use Rattle.std.specs.Prelude.{◌≡◌, ℕ, ◌<◌, List, length, Option, Some, slice_get}
use Rattle.page_steps.specs.Steps.{DiskHeld}
use Rattle.joint_rule.specs.Begins.{Begin}
use Rattle.joint_rule.specs.Starts.{IsNew}

-- The first n values of a new disk's row, all at home.
pub record AreNew (g : Begin) (n : ℕ) (cells : List (Option DiskHeld)) : Type 0 where
  pub size : length cells ≡ n
  pub each : (k : ℕ) → k < n → (v : DiskHeld) × (slice_get cells k ≡ Some (Some v)) × IsNew g k v
