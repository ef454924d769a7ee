use Rattle.std.proofs.Common.{◌≡◌, ℕ, false, Some, slice_get, IsTrue, sym, ap, ◌∙◌, refl, subst}
use Rattle.zr_base.specs.declared.op.Op.{Op}
use Rattle.zr_base.specs.Plain.{start_of, count_of, touches, is_maintenance, IsRequest}
use Rattle.zr_base.specs.Pieces.{IsPieceOf}
use Rattle.page_steps.specs.declared.stage.Work.TheVariants as work
use Rattle.page_steps.specs.Calls.{Asks}
use Rattle.actor_steps.specs.declared.call.Call.TheVariants as call
use Rattle.actor_steps.proofs.Places.{at_index, touches_here, is_touched}
use Rattle.actor_steps.proofs.Begun.{begun_count, begun_as, begun_idle, begun_writeback, begun_compact, begun_for}
use Rattle.actor_steps.proofs.worker.begun.Goals as goal
use Rattle.actor_steps.proofs.worker.begun.Goals.{After-index-ops-nr}

op_at : (g : _) (c : After-index-ops-nr g) → slice_get c.args.ops.now c.args.place.nr ≡ Some c.index-ops-nr.result
op_at g c = at_index c.args.ops.now c.args.place.nr c.index-ops-nr.result c.requires.more
    c.index-ops-nr.is

asked : (g : _) (c : After-index-ops-nr g) → IsRequest c.index-ops-nr.result
asked g c = c.requires.requests c.args.place.nr c.index-ops-nr.result (op_at g c)

touched : (g : _) (c : After-index-ops-nr g) → is_maintenance c.index-ops-nr.result ≡ false
    → IsTrue (touches (start_of c.index-ops-nr.result) (count_of c.index-ops-nr.result)
    c.args.place.page)
touched g c request =
    is_touched c.index-ops-nr.result c.args.place.page request
    (touches_here c.args.size c.requires.settled.0 c.args.ops.now c.args.place c.index-ops-nr.result (op_at g c)
    c.requires.requests c.requires.place c.requires.settled.1 request)

pub is_beyond-requires : goal.is_beyond-requires
is_beyond-requires g c = asked g (goal.at.is_beyond-requires g c).After-index-ops-nr

pub returns-then-is_beyond : goal.returns-then-is_beyond
returns-then-is_beyond g c =
    begun_for c.args.size c.args.now (record { actor = c.args.actor; op = c.args.place.nr })
    c.args.place.page c.args.fresh.now c.args.ops.now c.args.place.nr c.index-ops-nr.result
    (op_at g (goal.at.returns-then-is_beyond g c).After-index-ops-nr) (call.Page c.out_of_range.result) _
    (ap call.Page (sym c.out_of_range.ensures))
    (begun_count c.args.size c.args.now _ c.index-ops-nr.result c.args.place.page c.args.fresh.now
    (sym c.is_beyond.ensures ∙ c.if-is_beyond.true))

pub bring-requires-clause-bounds : goal.bring-requires-clause-bounds
bring-requires-clause-bounds g c =
    (subst IsRequest c.in-Write.is (asked g (goal.at.bring-requires-clause-bounds g c).After-index-ops-nr)).0

pub bring-requires-clause-there : goal.bring-requires-clause-there
bring-requires-clause-there g c =
    (subst IsRequest c.in-Write.is (asked g (goal.at.bring-requires-clause-there g c).After-index-ops-nr)).1

pub returns-in-Write : goal.returns-in-Write
returns-in-Write g c =
    begun_for c.args.size c.args.now (record { actor = c.args.actor; op = c.args.place.nr })
    c.args.place.page c.bring.new.fresh c.args.ops.now c.args.place.nr c.index-ops-nr.result
    (op_at g (goal.at.returns-in-Write g c).After-index-ops-nr) (call.Page c.write.result) _
    (ap call.Page (sym c.write.ensures))
    (begun_as c.args.size c.args.now _ c.index-ops-nr.result c.args.place.page c.bring.new.fresh
    work.Writes c.piece_on-piece.result (ap is_maintenance c.in-Write.is)
    (sym c.is_beyond.ensures ∙ c.if-is_beyond.false) refl
    c.piece_on-piece.ensures.sectors.page_is c.piece_on-piece.ensures.sectors.within
    (subst (Asks work.Writes c.piece_on-piece.result c.bring.new.fresh) (sym c.in-Write.is)
    (record {
      cut = subst (λ (y : Op × ℕ). IsPieceOf (start_of y.0) (count_of y.0) y.1
          c.piece_on-piece.result)
          (λ i. (c.in-Write.is i, sym c.piece_on-piece.ensures.sectors.page_is i))
          c.piece_on-piece.ensures.sectors;
      sectors = c.bring.ensures;
    })))

pub piece_on-piece-requires-clause-touched : goal.piece_on-piece-requires-clause-touched
piece_on-piece-requires-clause-touched g c =
    touched g (goal.at.piece_on-piece-requires-clause-touched g c).After-index-ops-nr
    (ap is_maintenance c.in-Write.is)

pub piece_on-requires-clause-request : goal.piece_on-requires-clause-request
piece_on-requires-clause-request g c =
    asked g (goal.at.piece_on-requires-clause-request g c).After-index-ops-nr

pub piece_on-requires-clause-touched : goal.piece_on-requires-clause-touched
piece_on-requires-clause-touched g c =
    touched g (goal.at.piece_on-requires-clause-touched g c).After-index-ops-nr
    (ap is_maintenance c.in-Read.is)

pub piece_on-requires-in-Discard-clause-request : goal.piece_on-requires-in-Discard-clause-request
piece_on-requires-in-Discard-clause-request g c =
    asked g (goal.at.piece_on-requires-in-Discard-clause-request g c).After-index-ops-nr

pub piece_on-requires-in-Discard-clause-touched : goal.piece_on-requires-in-Discard-clause-touched
piece_on-requires-in-Discard-clause-touched g c =
    touched g (goal.at.piece_on-requires-in-Discard-clause-touched g c).After-index-ops-nr
    (ap is_maintenance c.in-Discard.is)

pub returns-in-Read : goal.returns-in-Read
returns-in-Read g c =
    begun_for c.args.size c.args.now (record { actor = c.args.actor; op = c.args.place.nr })
    c.args.place.page c.args.fresh.now c.args.ops.now c.args.place.nr c.index-ops-nr.result
    (op_at g (goal.at.returns-in-Read g c).After-index-ops-nr) (call.Page c.read.result) _
    (ap call.Page (sym c.read.ensures))
    (begun_as c.args.size c.args.now _ c.index-ops-nr.result c.args.place.page c.args.fresh.now
    work.Reads c.piece_on.result (ap is_maintenance c.in-Read.is)
    (sym c.is_beyond.ensures ∙ c.if-is_beyond.false) refl
    c.piece_on.ensures.sectors.page_is c.piece_on.ensures.sectors.within
    (subst (Asks work.Reads c.piece_on.result c.args.fresh.now) (sym c.in-Read.is) tt))

pub returns-in-Discard : goal.returns-in-Discard
returns-in-Discard g c =
    begun_for c.args.size c.args.now (record { actor = c.args.actor; op = c.args.place.nr })
    c.args.place.page c.args.fresh.now c.args.ops.now c.args.place.nr c.index-ops-nr.result
    (op_at g (goal.at.returns-in-Discard g c).After-index-ops-nr) (call.Page c.discard.result) _
    (ap call.Page (sym c.discard.ensures))
    (begun_as c.args.size c.args.now _ c.index-ops-nr.result c.args.place.page c.args.fresh.now
    work.Discards c.piece_on-in-Discard.result (ap is_maintenance c.in-Discard.is)
    (sym c.is_beyond.ensures ∙ c.if-is_beyond.false) refl
    c.piece_on-in-Discard.ensures.sectors.page_is c.piece_on-in-Discard.ensures.sectors.within
    (subst (Asks work.Discards c.piece_on-in-Discard.result c.args.fresh.now) (sym c.in-Discard.is) tt))

pub returns-in-Idle : goal.returns-in-Idle
returns-in-Idle g c =
    begun_for c.args.size c.args.now (record { actor = c.args.actor; op = c.args.place.nr })
    c.args.place.page c.args.fresh.now c.args.ops.now c.args.place.nr c.index-ops-nr.result
    (op_at g (goal.at.returns-in-Idle g c).After-index-ops-nr) (call.Idle c.new.result) _ refl
    (begun_idle c.args.size c.args.now _ c.index-ops-nr.result c.args.place.page c.args.fresh.now
    c.new.result _ c.requires.some c.new.ensures c.in-Idle.is)

pub returns-in-Writeback : goal.returns-in-Writeback
returns-in-Writeback g c =
    begun_for c.args.size c.args.now (record { actor = c.args.actor; op = c.args.place.nr })
    c.args.place.page c.args.fresh.now c.args.ops.now c.args.place.nr c.index-ops-nr.result
    (op_at g (goal.at.returns-in-Writeback g c).After-index-ops-nr)
    (call.Writeback c.new-in-Writeback.result) _ refl
    (begun_writeback c.args.size c.args.now _ c.index-ops-nr.result c.args.place.page
    c.args.fresh.now c.new-in-Writeback.result _ c.requires.some c.new-in-Writeback.ensures
    c.in-Writeback.is)

pub returns-in-Compact : goal.returns-in-Compact
returns-in-Compact g c =
    begun_for c.args.size c.args.now (record { actor = c.args.actor; op = c.args.place.nr })
    c.args.place.page c.args.fresh.now c.args.ops.now c.args.place.nr c.index-ops-nr.result
    (op_at g (goal.at.returns-in-Compact g c).After-index-ops-nr) (call.Compact c.new-in-Compact.result) _ refl
    (begun_compact c.args.size c.args.now _ c.index-ops-nr.result c.args.place.page c.args.fresh.now
    c.new-in-Compact.result c.new-in-Compact.ensures c.in-Compact.is)
