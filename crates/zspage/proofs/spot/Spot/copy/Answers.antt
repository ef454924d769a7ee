-- The cell has the bytes of the other one, and so its object.
use Rattle.std.proofs.Common.{◌≡◌, ℕ, List, Some, length, ap, sym, ◌∙◌}
use Rattle.zspage.specs.Cells.{CellState, object_in}
use Rattle.zspage.specs.Spots.{which}
use Rattle.zspage.proofs.MovableLaws.{copied}
use Rattle.zspage.proofs.spot.Spot.copy.Goals as goal

pub returns-in-Some : goal.returns-in-Some
returns-in-Some c bytes stored long =
    let to : CellState = c.copy.new.to in
    let same : to.bytes ≡ c.args.from.now.bytes = ap (λ x. x.bytes) c.copy.ensures in
    let was : c.self.inside.cell ≡ Some c.in-Some.cell = sym c.take.ensures.value ∙ c.in-Some.is in
    let chain : to.chain ≡ c.args.self.now.chain =
    ap (λ x. x.chain) c.copy.ensures ∙ ap (λ o. (which o c.self.inside.lent.value).chain) (sym was)
    ∙ ap (λ s. s.chain) c.self.view_is in
    let number : to.number ≡ c.args.self.now.number =
    ap (λ x. x.number) c.copy.ensures
    ∙ ap (λ o. (which o c.self.inside.lent.value).number) (sym was)
    ∙ ap (λ s. s.number) c.self.view_is in
    let size : to.size ≡ c.args.self.now.size =
    ap (λ x. x.size) c.copy.ensures ∙ ap (λ o. (which o c.self.inside.lent.value).size) (sym was)
    ∙ ap (λ s. s.size) c.self.view_is in
    let body : object_in c.args.len to.bytes ≡ bytes =
    ap (λ n. object_in n to.bytes) (sym long) ∙ ap (object_in (length bytes)) same
    ∙ stored.body in (
      to,
      copied c.args.handle.0 bytes c.args.from.now to same stored,
      record {
        numbered = number;
        sized = size;
        whole = ap length same ∙ c.requires.size
            ∙ sym size;
      },
      cc,
    )
