-- What is known of a phase, and what lower crates prove.
use Rattle.std.proofs.Common.{ℕ}
use Rattle.joint_rule.specs.Begins.{Begin, FindsRight, Proper, finding}
use Rattle.joint_rule.specs.Facts.{Facts}
use Rattle.zr_base.specs.Plain.{Finds}

-- What is known of a phase, and what lower crates prove.
pub record Known (g : Begin) : Type 0 where
  pub proper : Proper g
  pub facts : Facts

-- what is known of a phase doesn't hang on what its calls find
pub known_finding : (g : Begin) (finds : ℕ → Finds) → Known g → FindsRight (finding g finds)
    → Known (finding g finds)
known_finding g finds ok right = record {
  proper = record {
    some = ok.proper.some;
    times = ok.proper.times;
    blanks = ok.proper.blanks;
    before = ok.proper.before;
    puts = ok.proper.puts;
    finds = right;
    least = ok.proper.least;
    most = ok.proper.most;
    few = ok.proper.few;
    pieces = ok.proper.pieces;
  };
  facts = ok.facts;
}
