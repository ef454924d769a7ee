use Rattle.std.proofs.Common.{◌≡◌, Some, None, sym, ap, ◌∙◌, subst}
use Rattle.lock_row.specs.Rows.{Row, IsIn, cell, with_cell}
use Rattle.lock_row.specs.declared.names.LockNo.TheVariants as lock
use Rattle.lock_row.specs.declared.names.Held.TheVariants as holds
use Rattle.page_steps.specs.Steps.{DiskHeld}
use Rattle.zr_core.specs.Rests.{names_of}
use Rattle.zr_core.proofs.Names.{names_some}
use Rattle.zr_core.proofs.Preparing.{is_in, not_out, is_out_now, cells_set}
use Rattle.zr_core.proofs.row.put_account.Goals as goal
use Rattle.zr_core.proofs.row.put_account.Goals.{After-hand-hand, After-row-2-1}

names_are : (o : _) (c : After-hand-hand o) → c.args.row.now.names ≡ names_of c.args.size
names_are o c = c.requires.names ∙ names_some c.args.size c.requires.some

pub try_take-requires : goal.try_take-requires
try_take-requires o c =
    let a = (goal.at.try_take-requires o c).After-hand-hand in
    subst (λ (r : Row DiskHeld). IsIn r lock.Account) (sym c.hand-hand.ensures.row)
    (is_in c.names_have_places.ensures.there c.args.size lock.Account tt c.args.row.now
    (names_are o a) (holds.Account c.requires.home.0) c.requires.home.1)

pub unreachable-requires : goal.unreachable-requires
unreachable-requires o c =
    let a = (goal.at.unreachable-requires o c).After-hand-hand in
    not_out c.names_have_places.ensures.there c.args.size lock.Account tt c.args.row.now
    (names_are o a) (holds.Account c.requires.home.0) c.requires.home.1
    (ap (λ (r : Row DiskHeld). cell r lock.Account) (sym c.hand-hand.ensures.row)
    ∙ c.in_default.ensures.outcome.2.out)

pub give-requires : goal.give-requires
give-requires o c =
    let a = (goal.at.give-requires o c).After-hand-hand in
    is_out_now c.names_have_places.ensures.there c.args.size lock.Account tt c.args.row.now
    (names_are o a) c.in-Some._value
    (ap (λ (r : Row DiskHeld). cell r lock.Account) (sym c.hand-hand.ensures.row)
    ∙ c.in-Some.ensures.outcome.2.home)
    c.try_take.new.self.row.now (c.in-Some.ensures.outcome.2.out
    ∙ ap (λ (r : Row DiskHeld). with_cell r lock.Account None) c.hand-hand.ensures.row)

-- the row before, where the account is at home, and the row without it
at_home : (o : _) (c : After-row-2-1 o) → cell c.args.row.now lock.Account ≡ Some (Some c.in-Some._value)
at_home o c = ap (λ (r : Row DiskHeld). cell r lock.Account) (sym c.hand-hand.ensures.row)
    ∙ c.in-Some.ensures.outcome.2.home

taken_row : (o : _) (c : After-row-2-1 o)
    → c.try_take.new.self.row.now ≡ with_cell c.args.row.now lock.Account None
taken_row o c = c.in-Some.ensures.outcome.2.out
    ∙ ap (λ (r : Row DiskHeld). with_cell r lock.Account None) c.hand-hand.ensures.row

-- the row at the end
given_row : (o : _) (c : After-row-2-1 o)
    → c.row-2-1.given.0
    ≡ with_cell c.try_take.new.self.row.now lock.Account
    (Some (holds.Account c.args.account))
given_row o c =
    c.row-2-1.given.1
    (sym c.hand-hand.ensures.same ∙ sym c.in-Some.ensures.outcome.0 ∙ sym c.give.ensures.0)
    ∙ c.give.ensures.2.home

pub returns-clause-cells : goal.returns-clause-cells
returns-clause-cells o c =
    let a = (goal.at.returns-clause-cells o c).After-hand-hand in
    let b = (goal.at.returns-clause-cells o c).After-row-2-1 in
    cells_set c.names_have_places.ensures.there c.args.size lock.Account tt c.args.row.now
    (names_are o a) c.in-Some._value (at_home o b) c.try_take.new.self.row.now (taken_row o b)
    (holds.Account c.args.account) c.row-2-1.given.0 (given_row o b)
