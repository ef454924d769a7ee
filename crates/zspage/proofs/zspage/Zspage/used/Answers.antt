-- No more cells are used than there are.
use Rattle.std.proofs.Common.{◌≤◌, length, arith, subst}
use Rattle.std.specs.Prelude.{is_some}
use Rattle.std.proofs.lemmas.List.Sums.{count_by-le-length}
use Rattle.zspage.specs.Spots.{uses}
use Rattle.zspage.proofs.zspage.Zspage.used.Goals as goal

pub returns-clause-most : goal.returns-clause-most
returns-clause-most c =
    subst (λ z. c.self.inside.used ≤ length z.cells) c.self.view_is
    (omega (
      arith,
      c.self.invariant.0.count,
      count_by-le-length is_some (uses c.self.inside.spots.items),
    ))
