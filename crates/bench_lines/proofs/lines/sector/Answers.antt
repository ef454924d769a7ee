-- The first two words begin with other bytes.
use Rattle.std.proofs.Common.{◌≡◌, ℕ, List, take, drop, get_or, ap, ◌∙◌, arith}
use Rattle.std.specs.List.{slice_set}
use Rattle.std.proofs.lemmas.Grind.{common_steps}
use Rattle.std.proofs.lemmas.List.{get_or-take, get_or-drop}
use Rattle.job_print.specs.Texts.{IsFilled}
use Rattle.bench_lines.proofs.lines.sector.Goals as goal

differ : (bytes : List ℕ) → get_or bytes 0 0 ≡ 1 → get_or bytes 8 0 ≡ 2 → IsFilled bytes → ⊥
differ bytes first second is =
    let a : get_or (take 8 (drop 8 bytes)) 0 0 ≡ get_or bytes 8 0 =
    get_or-take 8 (drop 8 bytes) 0 0 (omega arith) ∙ get_or-drop 8 bytes 0 0 in
    let b : get_or (take 8 (drop 0 bytes)) 0 0 ≡ get_or bytes 0 0 =
    get_or-take 8 (drop 0 bytes) 0 0 (omega arith) ∙ get_or-drop 0 bytes 0 0 in
    let same : get_or (take 8 (drop 8 bytes)) 0 0 ≡ get_or (take 8 (drop 0 bytes)) 0 0 =
    ap (λ (word : List ℕ). get_or word 0 0) (is 1 (omega arith)) in
    omega arith

pub returns-clause-differ : goal.returns-clause-differ
returns-clause-differ c =
    let bytes = slice_set (slice_set c.loop-k.bytes 0 1) 8 2 in
    let first : get_or bytes 0 0 ≡ 1 = grind (arith, common_steps) in
    let second : get_or bytes 8 0 ≡ 2 = grind (arith, common_steps) in
    differ bytes first second
