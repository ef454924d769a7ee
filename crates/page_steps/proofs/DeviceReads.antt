-- Whether a read of the device succeeded, by the stages of a turn.
use Rattle.std.proofs.Common.{◌≡◌, Bool, true, false, ◌&&◌, not, refl}
use Rattle.std.specs.Prelude.{◌||◌}
use Rattle.page_steps.specs.Calls.{has_fetched, is_fetching, is_failing}
use Rattle.page_steps.specs.declared.stage.Stage.{Stage}
use Rattle.page_steps.specs.declared.stage.Stage.TheVariants as stage

or_false : (b : Bool) → (b || false) ≡ b
or_false true = refl
or_false false = refl

or_true : (b : Bool) → (b || true) ≡ true
or_true true = refl
or_true false = refl

pub fetched_is : {D : Type 0} (read : Bool) (s s' : Stage D)
    → (read || (is_fetching s && not (is_failing s'))) ≡ has_fetched read s s'
fetched_is read (stage.Fetching e b d) (stage.Failing f fault) = or_false read
fetched_is read (stage.Fetching e b d) s' = or_true read
fetched_is read s s' = or_false read
