use Rattle.std.proofs.Common.{rules, ◌≡◌, ℕ, ◌*◌, length, drop, sym, ap, ◌∙◌, arith, length-drop}
use denote.RawPtr.{◌+ₚ◌}
use Rattle.std.proofs.Math.Nat.{div-mul-le_self}
use Rattle.core.specs.Mem.Slots.{lease_ptr, lease_len, lease_heap}
use Rattle.cell_arena.specs.Chains.{cells_of, per}
use Rattle.cell_arena.proofs.Cuts.{length-cells_of}
use Rattle.cell_arena.proofs.Whole.{cut_whole}
use Rattle.cell_arena.proofs.cells.split.Goals as goal

pub unreachable-requires : goal.unreachable-requires
unreachable-requires c =
    let v = c.loop-number.invariant in
    let long = ap length v.1
    ∙ length-cells_of c.loop-number.rest.chain c.args.size c.args.chain c.loop-number.number in
    let lt = c.loop-number-test.true in let room = v.0 in
    search (rules, long, room, lt)

framed : (c : goal.After-new_unchecked) → c.into_parts-frames.result.1 ≡ c.frames.result
framed c = let F = c.into_parts-frames.ensures in
    omega (arith, F.parts.long, ap length F.bytes, c.frames.ensures.long)

all : (c : goal.After-new_unchecked)
    → c.loop-number.number ≡ per c.into_parts-frames.result.1 c.args.size
all c = omega (arith, c.loop-number.auto.number-end, c.loop-number-test.false)
    ∙ ap (λ k. per k c.args.size) (sym (framed c))

pub invariant_of-result : goal.invariant_of-result
invariant_of-result c =
    let F = c.into_parts-frames in let h = F.ensures.parts in let v = c.loop-number.invariant in
    let n : ℕ = c.loop-number.number in let s : ℕ = c.args.size in let bs = c.args.chain in
    let far : n * s ≡ per F.result.1 s * s = ap (λ k. k * s) (all c) in
    let lent = ap (λ d. d.lease) c.new_unchecked.ensures in (
      record {
        place = v.2 ∙ ap (λ k. c.loop-number.rest.chain +ₚ k) far;
        long = omega (
          arith,
          ap length v.3,
          length-drop (n * s) bs,
          c.frames.ensures.long,
          framed c,
          div-mul-le_self (F.result.1 * 4096) s,
          far,
        );
        some = h.some;
        few = h.few;
        least = c.requires.least;
        most = c.requires.most;
        fewer = omega (
          arith,
          ap length v.1
              ∙ length-cells_of c.loop-number.rest.chain s bs n,
          all c,
        );
        roomy = omega (arith, v.0, ap (λ k. per k s) (framed c));
        deed = ap lease_ptr lent ∙ h.deed ∙ sym v.4;
        deed_long = ap lease_len lent ∙ h.deed_long;
      },
      ap lease_heap lent ∙ F.ensures.freed,
    )

pub returns-clause-order : goal.returns-clause-order
returns-clause-order c =
    let v = c.loop-number.invariant in let s : ℕ = c.args.size in let bs = c.args.chain in
    cut_whole _ bs (omega (arith, c.requires.least))
    (ap (λ k. k * 4096) (framed c) ∙ c.frames.ensures.long)
    (v.1 ∙ ap (λ k. cells_of c.loop-number.rest.chain s bs k) (all c))
    (v.3 ∙ ap (λ k. drop (k * s) bs) (all c))
