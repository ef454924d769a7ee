-- The chain is cut, and its cells are spread.
use Rattle.std.proofs.Common.{◌≡◌, ◌*◌, ◌/◌, ℕ, None, length, replicate, ap, sym, subst, ◌∙◌, arith}
use Rattle.std.specs.Prelude.{Option}
use Rattle.std.proofs.Math.Nat.{div-le_self}
use Rattle.std.proofs.lemmas.List.{length-replicate}
use Rattle.cell_arena.specs.Chains.{per}
use Rattle.zspage.specs.Cells.{UsedCell}
use Rattle.zspage.specs.Spots.{AreFree}
use Rattle.zspage.proofs.CellLaws.{uses_free, fresh, made}
use Rattle.zspage.proofs.MoveLaws.{emptied}
use Rattle.zspage.proofs.zspage.Zspage.new.Goals as goal
use Rattle.zspage.proofs.zspage.Zspage.new.Goals.{After-spread-spots}

-- the chain has the frames that were asked for, and as many cells as fit
framed : (c : After-spread-spots) → c.in-Ok.cells.frames ≡ c.args.chain
framed c =
    omega (
      arith,
      c.in-Ok.ensures.cut.0,
      ap length c.in_ok-new.ensures,
      length-replicate {A = ℕ} (c.args.chain * 4096) 0,
    )

many : (c : After-spread-spots) → length c.spread-spots.result.0.items ≡ c.args.chain * 4096 /
    c.args.size
many c =
    c.spread-spots.ensures.long ∙ c.in-Ok.ensures.order.count
    ∙ ap (λ n. per n c.in-Ok.cells.size) (framed c) ∙ ap (per c.args.chain) c.in-Ok.ensures.cut.1

pub invariant_of-result : goal.invariant_of-result
invariant_of-result c =
    let here = (goal.at.invariant_of-result c).After-spread-spots in
    let made = c.spread-spots.ensures in
    let size = c.in-Ok.ensures.cut.1 in
    let spots = c.spread-spots.result.0.items in
    let free = subst (λ p. AreFree p c.args.size spots) (sym (ap (λ v. v.chain) made.left))
    (subst (λ n. AreFree c.in-Ok.cells.chain n spots) size made.free) in (
      fresh _ c.args.size _ spots c.in_ok-free.free free (many here)
          c.in_ok-free.ensures
          (omega (arith, div-le_self (c.args.chain * 4096) c.args.size, c.requires.few)),
      emptied c.in-Ok.cells _ _ _ _ c.in-Ok.ensures.order made.left size (framed here) made.long,
    )

pub returns : goal.returns
returns c =
    ap (made c.args.id c.args.size c.args.chain)
    (uses_free _ _ _ c.spread-spots.ensures.free
    ∙ ap (λ n. replicate {A = Option UsedCell} n None)
    (many (goal.at.returns c).After-spread-spots))
