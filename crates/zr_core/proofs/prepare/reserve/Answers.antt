use Rattle.std.proofs.Common.{◌≡◌, Some, None, slice_get, refl, sym, ap, ◌∙◌, subst, arith}
use Rattle.std.proofs.lemmas.Result.{on_err_weaker}
use Rattle.lock_row.specs.Rows.{Row, IsIn, cell, with_cell}
use Rattle.slot_entry.specs.Entries.{EntryState}
use Rattle.lock_row.specs.declared.names.Held.TheVariants as holds
use Rattle.page_steps.specs.Steps.{DiskHeld, slot}
use Rattle.zr_core.specs.Rests.{names_of}
use Rattle.zr_core.proofs.Names.{names_some}
use Rattle.zr_core.proofs.Preparing.{cell_home, is_in, not_out, there, is_out_now, cells_set, gives_back, reserved_is, on_ok_both}
use Rattle.zr_core.proofs.prepare.reserve.Goals as goal
use Rattle.zr_core.proofs.prepare.reserve.Goals.{After-hand-hand, After-row-2-1}

-- the row has slots, and that of the page is at home
names_are : (o : _) (c : After-hand-hand o) → c.args.row.now.names ≡ names_of c.args.size
names_are o c = c.requires.names
    ∙ names_some c.args.size (let q = c.requires.page in omega arith)

entry_at : (o : _) (c : After-hand-hand o) → (e : EntryState)
    × (slice_get c.args.row.now.cells c.args.page ≡ Some (Some (holds.Slot e)))
entry_at o c = c.requires.rest.each c.args.page c.requires.page

-- the row as it is when the slot is taken
pub try_take-requires : goal.try_take-requires
try_take-requires o c =
    let a = (goal.at.try_take-requires o c).After-hand-hand in
    subst (λ (r : Row DiskHeld). IsIn r (slot c.args.page)) (sym c.hand-hand.ensures.row)
    (is_in c.names_have_places.ensures.there c.args.size (slot c.args.page) c.requires.page
    c.args.row.now (names_are o a) (holds.Slot (entry_at o a).0) (entry_at o a).1)

pub unreachable-requires : goal.unreachable-requires
unreachable-requires o c =
    let a = (goal.at.unreachable-requires o c).After-hand-hand in
    not_out c.names_have_places.ensures.there c.args.size (slot c.args.page) c.requires.page
    c.args.row.now (names_are o a) (holds.Slot (entry_at o a).0) (entry_at o a).1
    (ap (λ (r : Row DiskHeld). cell r (slot c.args.page)) (sym c.hand-hand.ensures.row)
    ∙ c.in_default.ensures.outcome.2.out)

-- the slot's value was at home
pub entry_of-entry-requires : goal.entry_of-entry-requires
entry_of-entry-requires o c =
    let a = (goal.at.entry_of-entry-requires o c).After-hand-hand in
    let e = entry_at o a in (
      e.0,
      (let q : Some (Some c.in-Some.value) ≡ Some (Some (holds.Slot e.0)) =
          sym c.in-Some.ensures.outcome.2.home
          ∙ ap (λ (r : Row DiskHeld). cell r (slot c.args.page)) c.hand-hand.ensures.row
          ∙ cell_home c.names_have_places.ensures.there c.args.size (slot c.args.page)
          c.requires.page c.args.row.now (names_are o a) (holds.Slot e.0) e.1 in
          let r : c.in-Some.value ≡ holds.Slot e.0 = cc in r),
    )

-- the row before, where the slot is at home, and the row without it
at_home : (o : _) (c : After-row-2-1 o) → cell c.args.row.now (slot c.args.page) ≡ Some (Some c.in-Some.value)
at_home o c = ap (λ (r : Row DiskHeld). cell r (slot c.args.page)) (sym c.hand-hand.ensures.row)
    ∙ c.in-Some.ensures.outcome.2.home

taken_row : (o : _) (c : After-row-2-1 o)
    → c.try_take.new.self.row.now ≡ with_cell c.args.row.now (slot c.args.page) None
taken_row o c = c.in-Some.ensures.outcome.2.out
    ∙ ap (λ (r : Row DiskHeld). with_cell r (slot c.args.page) None) c.hand-hand.ensures.row

pub give-requires : goal.give-requires
give-requires o c =
    let a = (goal.at.give-requires o c).After-hand-hand in
    is_out_now c.names_have_places.ensures.there c.args.size (slot c.args.page) c.requires.page
    c.args.row.now (names_are o a) c.in-Some.value
    (ap (λ (r : Row DiskHeld). cell r (slot c.args.page)) (sym c.hand-hand.ensures.row)
    ∙ c.in-Some.ensures.outcome.2.home)
    c.try_take.new.self.row.now (c.in-Some.ensures.outcome.2.out
    ∙ ap (λ (r : Row DiskHeld). with_cell r (slot c.args.page) None) c.hand-hand.ensures.row)

-- the row at the end
given_row : (o : _) (c : After-row-2-1 o)
    → c.row-2-1.given.0
    ≡ with_cell c.try_take.new.self.row.now (slot c.args.page)
    (Some (holds.Slot c.reserve_order-reserved.new.self))
given_row o c =
    c.row-2-1.given.1
    (sym c.hand-hand.ensures.same ∙ sym c.in-Some.ensures.outcome.0 ∙ sym c.give.ensures.0)
    ∙ c.give.ensures.2.home

pub returns-clause-err : goal.returns-clause-err
returns-clause-err o c =
    let a = (goal.at.returns-clause-err o c).After-hand-hand in
    let b = (goal.at.returns-clause-err o c).After-row-2-1 in
    on_err_weaker c.reserve_order-reserved.result
    (λ same. gives_back c.names_have_places.ensures.there c.args.size (slot c.args.page)
    c.requires.page c.args.row.now (names_are o a) c.in-Some.value (at_home o b)
    c.try_take.new.self.row.now (taken_row o b)
    (holds.Slot c.reserve_order-reserved.new.self) c.row-2-1.given.0 (given_row o b)
    (ap (λ (e : EntryState). holds.Slot e) same ∙ sym c.entry_of-entry.ensures))
    c.reserve_order-reserved.ensures.err

pub returns-clause-reserved : goal.returns-clause-reserved
returns-clause-reserved o c =
    let a = (goal.at.returns-clause-reserved o c).After-hand-hand in
    let b = (goal.at.returns-clause-reserved o c).After-row-2-1 in
    let n = c.reserve_order-reserved.ensures in
    let places = c.names_have_places.ensures.there in
    on_ok_both c.reserve_order-reserved.result
    (λ order room. reserved_is c.args.size c.args.page c.args.row.now.cells c.row-2-1.given.0.cells
    c.in-Some.value (holds.Slot c.reserve_order-reserved.new.self)
    (there places c.args.size (slot c.args.page) c.requires.page c.args.row.now (names_are o a)
    c.in-Some.value (at_home o b) c.try_take.new.self.row.now (taken_row o b))
    (cells_set places c.args.size (slot c.args.page) c.requires.page c.args.row.now (names_are o a)
    c.in-Some.value (at_home o b) c.try_take.new.self.row.now (taken_row o b)
    (holds.Slot c.reserve_order-reserved.new.self) c.row-2-1.given.0 (given_row o b))
    c.args.count c.entry_of-entry.result c.reserve_order-reserved.new.self
    c.entry_of-entry.ensures refl n.rest order room)
    n.emptied n.room
