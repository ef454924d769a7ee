-- Pages among those that the counters sum up.
use Rattle.std.proofs.Common.{List, ◌∷◌, ◌++◌, arith}
use Rattle.std.proofs.lemmas.Grind.{common_steps}
use Rattle.mem_account.specs.Counters.{Counters, IsCounted}
use Rattle.mem_account.specs.Tally.{IsTally}
use Rattle.mem_account.specs.declared.weight.Weight.{Weight}
use Rattle.mem_account.specs.declared.weight.Weight.TheVariants.{Empty, Same, Packed, Huge, Back}

pub counted-tally : (c : Counters) (front rest : List Weight) (old : Weight)
    → IsTally c (front ++ old ∷ rest) → IsCounted c old
counted-tally c front rest Empty t = tt
counted-tally c front rest Same t = grind (arith, common_steps, t.same)
counted-tally c front rest (Packed len) t = grind (arith, common_steps, t.packed, t.packed_bytes)
counted-tally c front rest Huge t = grind (arith, common_steps, t.huge)
counted-tally c front rest Back t = grind (arith, common_steps, t.back)
