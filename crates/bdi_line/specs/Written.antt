-- What the steps of packing say: private contracts cite it.
use Rattle.std.specs.Prelude.{ℕ, ◌≡◌, List, map, true}
use Rattle.bdi_line.specs.Line.{is_large, base_of, difference}
use Rattle.bdi_line.specs.Packed.{marks_of, delta_of}

-- both are large, and so is the second's difference from the first
pub record AreFar (h m first second : ℕ) : Type 0 where
  pub one : is_large h m first ≡ true
  pub two : is_large h m second ≡ true
  pub apart : is_large h m (difference m first second) ≡ true

-- the marks of the large values, the base and the deltas
pub record IsParted (h m : ℕ) (vs : List ℕ) (marks base : ℕ) (deltas : List ℕ) : Type 0 where
  pub marks_is : marks ≡ marks_of (is_large h m) vs
  pub base_is : base ≡ base_of h m vs
  pub deltas_is : deltas ≡ map (delta_of h m base) vs
