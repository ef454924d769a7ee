use Rattle.std.proofs.Common.{◌≡◌, ◌==◌, ◌≤◌, ◌++◌, map, length}
use Rattle.std.specs.List.{slice_split}
use Rattle.job_print.proofs.lines.words.Given as goal

-- the words so far, and those of the rest
abbrev pub invariant-loop-at : goal.invariant-loop-at
invariant-loop-at l = record {
  split : slice_split (λ c. c == 32) l.line
      ≡ map (λ word. word.now) l.words.items ++ slice_split (λ c. c == 32) l.rest;
  within : length l.rest ≤ length l.line;
}

abbrev pub decreases-loop-at : goal.decreases-loop-at
decreases-loop-at l = length l.rest
