use Rattle.std.proofs.Common.{◌≡◌, ℕ, ◌+◌, ◌-◌, List, sym, subst, arith}
use Rattle.std.specs.List.{AllByRecursion}
use Rattle.zr_base.specs.declared.op.Piece.{Piece}
use Rattle.zr_base.specs.Pieces.{pieces_of, IsPieceOf}
use Rattle.zr_base.proofs.Requests.{touched, touched-back, pieces_of-each}
use Rattle.zr_base.proofs.walk.pieces.Goals as goal

pub returns-clause-pages : goal.returns-clause-pages
returns-clause-pages c page =
    (touched c.args.start c.args.count page, touched-back c.args.start c.args.count page)

pub returns-clause-sectors : goal.returns-clause-sectors
returns-clause-sectors c =
    let a = c.args.start in
    let n : a + c.args.count - a ≡ c.args.count = omega arith in
    let Each : List Piece → Type 0 =
    AllByRecursion (λ (p : Piece). IsPieceOf a c.args.count p.page.0 p) in
    subst (λ (n : ℕ). Each (pieces_of a n)) (sym n) (pieces_of-each a c.args.count)
