-- What the actors of a phase ask for are requests, each by its tag.
use Rattle.std.proofs.Common.{◌≡◌, ℕ, List, [], Option, Some, None, refl, sym, ap, ◌∙◌}
use Rattle.std.specs.Prelude.{slice_get, option_and_then}
use Rattle.zr_base.specs.declared.op.Tag.{Tag}
use Rattle.zr_base.specs.declared.op.Op.{Op}
use Rattle.zr_base.specs.Plain.{named, IsRequest}
use Rattle.joint_rule.specs.Begins.{AreRequests}

module _ (actors : List (List Op))
    (asks : (a : ℕ) (ops : List Op) (k : ℕ) (op : Op) → slice_get actors a ≡ Some ops
    → slice_get ops k ≡ Some op → IsRequest op) where
  named_by : (x : Option (List Op)) (tag : Tag) (op : Op) → slice_get actors tag.actor ≡ x
      → named actors tag ≡ Some op → IsRequest op
  named_by None tag op is e =
      absurd (let q = ap (option_and_then (λ (ops : List Op). slice_get ops tag.op)) is in cc)
  named_by (Some ops) tag op is e = asks tag.actor ops tag.op op is
      (sym (ap (option_and_then (λ (ops : List Op). slice_get ops tag.op)) is) ∙ e)

  pub are_requests : AreRequests actors
  are_requests tag op e = named_by (slice_get actors tag.actor) tag op refl e

-- where there is no actor, nothing is asked for
pub no_requests : AreRequests []
no_requests = are_requests [] (λ a ops k op is e. absurd (let none : ⊥ = cc is in none))
