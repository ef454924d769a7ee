use Rattle.bench_moves.proofs.+halve.Given as goal

-- each call adds one pair less
abbrev pub decreases-halve : goal.decreases-halve
decreases-halve l = l.pairs
