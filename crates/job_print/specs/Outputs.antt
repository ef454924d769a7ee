-- What texts are outputs.
use Rattle.std.specs.Prelude.{ℕ, ◌≡◌, ◌+◌, ◌<◌, List, ◌++◌, length}
use Rattle.std.specs.List.{AllByRecursion}
use Rattle.job_print.specs.declared.line.OutLine.{OutLine}
use Rattle.job_print.specs.Texts.{out_line, out_text}
use Rattle.job_print.specs.Proper.{IsProper}

-- these lines are proper, and a text is theirs
abbrev pub IsText : List ℕ → List OutLine → Type 0
IsText bytes lines = AllByRecursion IsProper lines × (bytes ≡ out_text lines)

-- a text begins with no proper line
abbrev pub IsFaulty : List ℕ → Type 0
IsFaulty rest = (line : OutLine) (more : List ℕ) → IsProper line → rest ≡ out_line line ++ more → ⊥

-- the line of this number, from 1, is the first that no proper line prints as: before it stand
-- proper lines, and what is left begins with none
pub record HasFault (bytes : List ℕ) (number : ℕ) : Type 0 where
  pub front : List OutLine
  pub rest : List ℕ
  pub proper : AllByRecursion IsProper front
  pub parts : bytes ≡ out_text front ++ rest
  pub some : 0 < length rest
  pub faulty : IsFaulty rest
  pub counted : number ≡ length front + 1
