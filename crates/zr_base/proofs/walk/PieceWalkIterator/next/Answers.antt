use Rattle.std.proofs.Common.{◌≡◌, ℕ, ◌+◌, ◌-◌, ◌/◌, ◌%◌, ◌∷◌, sym, ap, ◌∙◌, arith, length}
use Rattle.zr_base.specs.Pieces.{pieces_of}
use Rattle.zr_base.proofs.Requests.{pieces-some, piece_at}
use Rattle.zr_base.proofs.walk.PieceWalkIterator.next.Goals as goal

pub returns-clause-steps : goal.returns-clause-steps
returns-clause-steps c =
    let a : ℕ = c.self.inside.from in
    let k : ℕ = c.min-count.result in
    sym c.self.view_is
    ∙ pieces-some a (c.self.inside.to - a) k (omega arith) c.min-count.ensures
    ∙ ap (λ (n : ℕ). piece_at (a / 8) (a % 8) k ∷ pieces_of (a + k) n)
    (let n : c.self.inside.to - a - k ≡ c.self.inside.to - (a + k) = omega arith in n)

pub returns-clause-goes : goal.returns-clause-goes
returns-clause-goes c =
    let fewer = ap length (returns-clause-steps c) in
    record { on = λ finite. (tt, tt, omega arith); keeps = tt; rests = λ finite. tt }
