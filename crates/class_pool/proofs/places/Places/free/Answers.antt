-- The winner of the ranks is a free number.
use Rattle.std.proofs.Common.{◌<◌, length, sym, subst}
use Rattle.std.proofs.Common.{◌≡◌, None}
use Rattle.zspage.specs.Cells.{used_of, entry}
use Rattle.class_pool.proofs.Numbers.{free_wins}
use Rattle.class_pool.proofs.places.Places.free.Goals as goal

pub returns-clause-free : goal.returns-clause-free
returns-clause-free c =
    subst (λ xs. entry xs c.winner.result ≡ None) c.self.view_is
    (free_wins _ _ _ c.self.invariant (subst (λ xs. used_of xs < length xs) (sym c.self.view_is)
    c.requires) c.winner.ensures)
