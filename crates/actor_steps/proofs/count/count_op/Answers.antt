use Rattle.std.proofs.Common.{◌≡◌, ℕ, ◌+◌, ◌<◌, true, false, List, sym, ap, ◌∙◌, subst, arith}
use Rattle.std.specs.List.{AllByRecursion}
use Rattle.zr_base.specs.declared.op.Piece.{Piece}
use Rattle.zr_base.specs.Plain.{start_of, count_of}
use Rattle.zr_base.specs.Pieces.{pieces_of}
use Rattle.actor_steps.specs.Counts.{count_at}
use Rattle.actor_steps.proofs.Counts.{carried_on, carried_first, carried_of, pages_below, counts_itself, count_more, only_more}
use Rattle.actor_steps.proofs.count.count_op.Goals as goal

abbrev Below : ℕ → List Piece → Type 0
Below size = AllByRecursion (λ (piece : Piece). piece.page.0 < size)

pub loop-piece-init : goal.loop-piece-init
loop-piece-init c =
    let size = c.args.size in
    let op = c.args.op.now in
    let inside = sym c.is_single.ensures ∙ c.if-is_single.false in
    let walk : c.into_iter-piece-iterator.result ≡ pieces_of (start_of op) (count_of op) =
    c.into_iter-piece-iterator.ensures.into_iter_gives ∙ c.pieces-piece-items.ensures.pieces
    ∙ (λ i. pieces_of (c.start.ensures i) (c.count.ensures i)) in
    record {
      only = c.requires.only;
      below = subst (Below size) (sym walk) (pages_below size op inside c.requires.request);
      counted = λ backed p lt.
          ap (λ ps. count_at c.args.counts.now p + carried_on size op p ps) walk
          ∙ ap (λ (k : ℕ). count_at c.args.counts.now p + k) (carried_of size op inside backed p);
    }

pub count_piece-requires : goal.count_piece-requires
count_piece-requires c =
    let i = c.loop-piece.invariant in
    let inside = sym c.is_single.ensures ∙ c.if-is_single.false in
    let page : ℕ = c.in-Some.piece.page.0 in
    let steps = c.in-Some.ensures.steps in
    let below = subst (Below c.args.size) steps i.below in
    let q = i.counted true page below.0 in
    let f = c.requires.fits true page below.0 in
    let n = carried_first c.args.size c.args.op.now inside page c.in-Some.piece
    c.loop-piece.piece-iterator c.next.new.self
    true steps (sym c.has_event.ensures ∙ c.if-has_event.true) in
    let here = counts_itself page in omega arith

pub loop-piece-preserved : goal.loop-piece-preserved
loop-piece-preserved c =
    let i = c.loop-piece.invariant in
    let inside = sym c.is_single.ensures ∙ c.if-is_single.false in
    let steps = c.in-Some.ensures.steps in
    let below = subst (Below c.args.size) steps i.below in record {
      only = i.only;
      below = below.1;
      counted = λ backed p lt.
          let q = i.counted backed p lt in
          let n = carried_first c.args.size c.args.op.now inside p c.in-Some.piece c.loop-piece.piece-iterator
          c.next.new.self false steps (sym c.has_event.ensures ∙ c.if-has_event.false) in
          omega arith;
    }

pub loop-piece-preserved-in-Continue-1 : goal.loop-piece-preserved-in-Continue-1
loop-piece-preserved-in-Continue-1 c =
    let i = c.loop-piece.invariant in
    let inside = sym c.is_single.ensures ∙ c.if-is_single.false in
    let counts = c.loop-piece.counts in
    let new = c.count_piece.new.counts in
    let page : ℕ = c.in-Some.piece.page.0 in
    let u = c.in_ok-count_piece.ensures in
    let steps = c.in-Some.ensures.steps in
    let below = subst (Below c.args.size) steps i.below in record {
      only = only_more counts new page u c.args.size below.0 i.only;
      below = below.1;
      counted = λ backed p lt.
          let q = i.counted backed p lt in
          let n = carried_first c.args.size c.args.op.now inside p c.in-Some.piece c.loop-piece.piece-iterator
          c.next.new.self true steps (sym c.has_event.ensures ∙ c.if-has_event.true) in
          let m = count_more counts new page u p in omega arith;
    }
