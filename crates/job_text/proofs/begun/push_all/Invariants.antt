use Rattle.std.proofs.Common.{◌≡◌, ◌++◌, take}
use Rattle.job_text.proofs.begun.push_all.Given as goal

abbrev pub invariant-loop-given : goal.invariant-loop-given
invariant-loop-given l = l.schedule ≡ l.fn.schedule ++ take l.given-index l.turns
