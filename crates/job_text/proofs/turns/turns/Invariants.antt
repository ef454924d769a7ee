use Rattle.std.proofs.Common.{◌≡◌, true, map, take}
use Rattle.std.specs.List.{list_all}
use Rattle.job_text.specs.Numbers.{turn_of}
use Rattle.job_text.specs.Lines.{may_give}
use Rattle.job_text.proofs.turns.turns.Given as goal

abbrev pub invariant-loop-word : goal.invariant-loop-word
invariant-loop-word l =
    (l.list ≡ map turn_of (map (λ word. word.now) (take l.word-index l.words)))
    × (list_all may_give l.list ≡ true)
