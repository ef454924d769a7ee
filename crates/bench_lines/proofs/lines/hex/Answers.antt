-- A sector's bytes are a proper line's.
use Rattle.std.proofs.Common.{List, ℕ, length, sym, subst, ap, ◌∙◌}
use Rattle.job_print.specs.Texts.{IsFilled}
use Rattle.bench_lines.proofs.lines.hex.Goals as goal

pub returns : goal.returns
returns c =
    let Differ : List ℕ → Type 0 = λ bytes. ¬ IsFilled bytes in (
      ap length c.in_ok-listed.ensures.same ∙ c.sector.ensures.size,
      c.in_ok-listed.ensures.bytes,
      subst Differ (sym c.in_ok-listed.ensures.same) c.sector.ensures.differ,
    )
