use Rattle.std.proofs.Common.{◌≡◌, true, Some, slice_get, arith}
use Rattle.actor_steps.proofs.Places.{at_index, todo_first, place_first, few_first}
use Rattle.actor_steps.proofs.place.first_piece.Goals as goal
use Rattle.actor_steps.proofs.place.first_piece.Goals.{After-index-ops-nr}

at_nr : (c : After-index-ops-nr) → slice_get c.args.ops.now c.args.nr ≡ Some c.index-ops-nr.result
at_nr c = at_index c.args.ops.now c.args.nr c.index-ops-nr.result (let f = c.if-nr-ops.false in
    omega arith) c.index-ops-nr.is

pub first_page-requires : goal.first_page-requires
first_page-requires c = c.requires.requests c.args.nr c.index-ops-nr.result
    (at_nr (goal.at.first_page-requires c).After-index-ops-nr)

pub pages_to_do-requires : goal.pages_to_do-requires
pages_to_do-requires c =
    c.requires.requests c.args.nr c.index-ops-nr.result
    (at_nr (goal.at.pages_to_do-requires c).After-index-ops-nr)

pub returns-clause-todo : goal.returns-clause-todo
returns-clause-todo c backed =
    let at = at_nr (goal.at.returns-clause-todo c).After-index-ops-nr in
    todo_first c.args.size backed c.args.ops.now c.args.nr c.index-ops-nr.result at
    c.first_page.result c.pages_to_do.result c.first_page.ensures c.pages_to_do.ensures

pub returns-clause-place : goal.returns-clause-place
returns-clause-place c =
    let at = at_nr (goal.at.returns-clause-place c).After-index-ops-nr in
    place_first c.args.size true c.args.ops.now c.args.nr c.index-ops-nr.result at
    c.first_page.result c.pages_to_do.result c.first_page.ensures c.pages_to_do.ensures

pub returns-clause-few : goal.returns-clause-few
returns-clause-few c =
    let at = at_nr (goal.at.returns-clause-few c).After-index-ops-nr in
    few_first c.args.size true c.args.ops.now c.args.nr c.index-ops-nr.result at
    c.first_page.result c.pages_to_do.result c.first_page.ensures c.pages_to_do.ensures
    (c.requires.requests c.args.nr c.index-ops-nr.result at)
