-- What histories say, whatever the turns were: statements that the laws claim.
use Rattle.std.specs.Prelude.{◌≡◌, ℕ, ◌+◌, Bool, true, false, List, [], ◌∷◌, ◌++◌, Some, slice_get, if◌then◌else◌}
use Rattle.zr_base.specs.declared.op.Tag.{Tag}
use Rattle.zr_base.specs.declared.op.Op.{Op}
use Rattle.zr_base.specs.declared.op.OpEnd.{OpEnd}
use Rattle.zr_base.specs.Plain.{Finds, named}
use Rattle.mem_account.specs.declared.weight.Weight.{Weight}
use Rattle.mem_account.specs.Counters.{Counters}
use Rattle.plain_disk.specs.Ends.{Ground, left_back}
use Rattle.plain_disk.specs.Output.{phase_lines}
use Rattle.plain_disk.specs.Rests.{Rest, is_backed, stats}
use Rattle.plain_disk.specs.Phases.{Given, FindsHeld, IsPhase, begun, phase_ground, bounds}
use Rattle.call_history.specs.declared.part.Part.{Part}
use Rattle.call_history.specs.declared.part.Done.{Done}
use Rattle.call_history.specs.Parts.{program, EndsSo, Follows, left_by, is_on, is_carried, stands_so, got_of, done_sum, dones_sum}
use Rattle.call_history.specs.Shows.{ShowsPage, Carries, SeesSo, Grown, tag_by, got_from}
use Rattle.call_history.specs.Histories.{Agree, HasSomeEach, ends_each, told_each}
use Rattle.call_history.specs.Tallies.{Tallies}

-- a piece that is carried out keeps what its page shows
abbrev pub KeepsItsPage : Type 0
KeepsItsPage =
    (g : Given) (D D' : ℕ → List Done) (a : ℕ) (d : Done) (p : Part) (page seen : List ℕ)
    (order : List Tag) (page' : List ℕ) (order' : List Tag)
    → Grown D D' a d → d.part ≡ p → stands_so p.op d.end ≡ true
    → Carries a p (g.finds p.page (tag_by a p)) page order page' order'
    → named g.actors (tag_by a p) ≡ Some p.op
    → SeesSo p.op (g.finds p.page (tag_by a p)) p.page page seen
    → d.got ≡ (if is_carried d.end then got_from seen p else [])
    → ShowsPage g D p.page page order → ShowsPage g D' p.page page' order'

-- a piece that doesn't stand in a page's order keeps what the page shows
abbrev pub KeepsOtherPages : Type 0
KeepsOtherPages =
    (g : Given) (D D' : ℕ → List Done) (a : ℕ) (d : Done) (p : ℕ) (page : List ℕ) (order : List Tag)
    → Grown D D' a d → is_on p d ≡ false → ShowsPage g D p page order → ShowsPage g D' p page order

-- finished histories that agree with the orders of the pages are a phase that the plain disk
-- allows, where the account tells its counts
abbrev pub TellsPhase : Type 0
TellsPhase =
    (form : List ℕ → Weight) (r : Rest) (actors : List (List Op)) (finds : ℕ → Finds)
    (dones : List (List Done)) (orders : List (List Tag)) (c : Counters) (m : Rest)
    → HasSomeEach actors → FindsHeld r actors orders finds
    → Agree (phase_ground form r actors)
    (bounds form r (begun r actors finds) orders m.device.faults (dones_sum left_back dones))
    (begun r actors finds) dones orders
    → Tallies form r (begun r actors finds) dones orders c m
    → IsPhase form r actors
    (phase_lines (ends_each (is_backed r) actors dones) (told_each actors dones) orders) m

-- what the account has then counted are the statistics of the rest that the phase leaves
abbrev pub TellsAccount : Type 0
TellsAccount =
    (form : List ℕ → Weight) (r : Rest) (g : Given) (dones : List (List Done))
    (orders : List (List Tag)) (c : Counters) (m : Rest)
    → Tallies form r g dones orders c m → c ≡ stats form m

-- where a piece of a program is over, what is left follows it
abbrev pub GoesOn : Type 0
GoesOn = (t : Ground) (ps : List Part) (ds : List Done) (p : Part) (rest : List Part) (d : Done)
    → Follows (EndsSo t) ps ds (p ∷ rest) → d.part ≡ p → EndsSo t p d.end
    → Follows (EndsSo t) ps (ds ++ d ∷ []) (left_by d.end p.nr rest)

-- the next piece is of the operation that it names
abbrev pub NamesItsOp : Type 0
NamesItsOp = (t : Ground) (pages : ℕ) (backed : Bool) (ops : List Op) (ds : List Done) (p : Part)
    (rest : List Part) → Follows (EndsSo t) (program pages backed 0 ops) ds (p ∷ rest)
    → slice_get ops p.nr ≡ Some p.op

-- what an operation has read by more pieces is what it had read, and then what these have
abbrev pub GotGrows : Type 0
GotGrows = (nr : ℕ) (xs ys : List Done) → got_of nr (xs ++ ys) ≡ got_of nr xs ++ got_of nr ys

-- what more pieces count is what was counted, with what these give
abbrev pub CountsGrow : Type 0
CountsGrow = (g : Op → OpEnd → ℕ) (xs ys : List Done)
    → done_sum g (xs ++ ys) ≡ done_sum g xs + done_sum g ys
