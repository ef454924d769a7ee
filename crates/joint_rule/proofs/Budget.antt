-- The limit on writebacks: a reservation takes one of the writes that it has left, and its actor tells
-- it; no other giving changes either; and where it cuts a writeback, none is left.
use Rattle.std.proofs.Common.{◌≡◌, ◌+◌, ◌-◌, ◌∷◌, ◌∙◌, ℕ, Bool, true, false, if◌then◌else◌, List, [], Option, Some, None, slice_get, refl, sym, ap, subst, arith, inl, inr}
use Rattle.block_map.specs.BlockMap.{AnswersReserve, BlockMap, HasBudget, IsBudgetSpent, budget_after, with_state}
use Rattle.block_map.specs.declared.blocks.Reserve.{Reserve}
use Rattle.block_map.specs.declared.blocks.Reserve.TheVariants.{BudgetSpent, Got, NoBlock}
use Rattle.block_map.specs.declared.state.BlockState.{BlockState}
use Rattle.block_map.specs.declared.state.BlockState.TheVariants.{Free, Owned}
use Rattle.call_history.specs.Parts.{done_sum, left_by, piece_gives}
use Rattle.call_history.specs.declared.part.Done.{Done}
use Rattle.call_history.specs.declared.part.Part.{Part}
use Rattle.call_history.specs.declared.part.PartEnd.{PartEnd}
use Rattle.call_history.specs.declared.part.PartEnd.TheVariants.{AtLimit, Carried, Eio, NoMemory, Whole}
use Rattle.joint_rule.proofs.Alikes.{take_alike}
use Rattle.joint_rule.proofs.Blocks.{bit_is, map_here}
use Rattle.joint_rule.proofs.Compactions.{plain_moved}
use Rattle.joint_rule.proofs.Counts.{fails_none}
use Rattle.joint_rule.proofs.Events.{Event}
use Rattle.joint_rule.proofs.Facts.{Known}
use Rattle.joint_rule.proofs.Gifts.{stage}
use Rattle.joint_rule.proofs.Pools.{bit}
use Rattle.joint_rule.proofs.Sums.{gone}
use Rattle.joint_rule.proofs.Trips.{NoTrip, plain_fetched, plain_pinned, plain_quit, plain_settle}
use Rattle.joint_rule.proofs.Visits.{Onward, VisitEvent}
use Rattle.joint_rule.specs.Begins.{Begin, finding, terms}
use Rattle.joint_rule.specs.Joint.{Joint}
use Rattle.joint_rule.specs.Rule.{CountsBudget}
use Rattle.joint_rule.specs.Stages.{FailBy, HasSome, IsFault, IsQuit, MayQuit, NoneOf, StopsSo}
use Rattle.joint_rule.specs.Weights.{cuts_told, fails_so, map_budget, map_budgeted, map_size, none, on_blocks, reserves_in, reserves_told}
use Rattle.lock_row.specs.Totals.{by_option, held_sum, locals_sum, mass, total}
use Rattle.lock_row.specs.declared.names.At.{At}
use Rattle.lock_row.specs.declared.names.At.TheVariants.{Both, Counting, Fetching, Freeing, Giving, Leaving, Made, Marking, Missed, Moving, Pinning, Ready, Refusing, Releasing, Shrinking, Unpinning, Visiting}
use Rattle.lock_row.specs.declared.names.LockNo.{LockNo}
use Rattle.lock_row.specs.declared.names.Plan.TheVariants.{Take}
use Rattle.lock_row.specs.declared.names.State.{State}
use Rattle.lock_row.specs.declared.names.Step.{Step}
use Rattle.lock_row.specs.declared.names.Step.TheVariants as step
use Rattle.lock_row.specs.declared.names.Trip.{Trip}
use Rattle.page_steps.specs.Compactions.{with_move}
use Rattle.page_steps.specs.Pages.{next_form, page_in_cell}
use Rattle.page_steps.specs.Steps.{DiskHeld, Here, lock_of, piece_over, plan, slot, spot, took}
use Rattle.page_steps.specs.Visits.{lost_page, passed_page, refused_end, with_block, wrote_page}
use Rattle.plain_disk.specs.Ends.{cut_short, tried}
use Rattle.plain_disk.specs.Phases.{KeepsBudget}
use Rattle.plain_disk.specs.Rests.{Settings}
use Rattle.std.proofs.lemmas.Bool.{cases_Bool}
use Rattle.zr_base.specs.Plain.{Finds}
use Rattle.zr_base.specs.declared.op.Op.{Op}
use Rattle.zr_base.specs.declared.op.Op.TheVariants.{Compact, Discard, Idle, Read, Write, Writeback}
use Rattle.zr_base.specs.declared.op.OpEnd.{OpEnd}
use Rattle.joint_rule.proofs.Events as event
use Rattle.joint_rule.proofs.Visits as visit
use Rattle.lock_row.specs.declared.names.LockNo.TheVariants as lock
use Rattle.lock_row.specs.declared.names.Held.TheVariants as holds
use Rattle.zr_base.specs.declared.op.OpEnd.TheVariants as ends

-- ---- what is told

-- a stage of no writeback has reserved nothing
pub plain_reserves : (at : At) → NoTrip at → reserves_in at ≡ 0
plain_reserves (Visiting s x) i = absurd i
plain_reserves at i = refl

-- An end tells no reservation and no cut.
pub record TellsNone (op : Op) (x : PartEnd) : Type 0 where
  pub reserves : piece_gives tried op x ≡ 0
  pub cuts : piece_gives cut_short op x ≡ 0

refusal_tells : (g : Begin) (p : Part) (op : Op) (x : PartEnd) → FailBy g p op (Some x)
    → TellsNone op x
refusal_tells g p (Write start count stuff) Carried f = absurd f
refusal_tells g p (Write start count stuff) (Whole end) f = absurd f
refusal_tells g p (Write start count stuff) (AtLimit c n l) f =
    record { reserves = refl; cuts = refl }
refusal_tells g p (Write start count stuff) NoMemory f = record { reserves = refl; cuts = refl }
refusal_tells g p (Write start count stuff) (Eio fault) f = absurd f
refusal_tells g p (Read start count) x f = absurd f
refusal_tells g p (Discard start count) x f = absurd f
refusal_tells g p (Idle age) x f = absurd f
refusal_tells g p (Writeback mode) x f = absurd f
refusal_tells g p Compact x f = absurd f

fault_tells : (g : Begin) (p : Part) (op : Op) (x : PartEnd) → IsFault g p (Some x)
    → TellsNone op x
fault_tells g p op Carried f = absurd f
fault_tells g p op (AtLimit c n l) f = absurd f
fault_tells g p op NoMemory f = absurd f
fault_tells g p op (Eio fault) f = record { reserves = refl; cuts = refl }
fault_tells g p op (Whole end) f = absurd f

none_taken : (x : Option ℕ) → NoneOf x → by_option (λ (b : ℕ). 1) x ≡ 0
none_taken None i = refl
none_taken (Some b) i = absurd i

one_taken : (x : Option ℕ) → HasSome x → by_option (λ (b : ℕ). 1) x ≡ 1
one_taken None i = absurd i
one_taken (Some b) i = refl

-- a writeback that stops tells as many as it has reserved
stop_tells : (y : Trip) (op : Op) (end : OpEnd) → StopsSo y end
    → tried op end ≡ y.wrote + y.lost + by_option (λ (b : ℕ). 1) y.block
stop_tells y op (ends.Budget wrote lost) i =
    let a = i.0 in let b = i.1 in let c = none_taken y.block i.2 in omega arith
stop_tells y op (ends.NoBlock wrote lost) i =
    let a = i.0 in let b = i.1 in let c = none_taken y.block i.2 in omega arith
stop_tells y op (ends.WriteEio fault wrote lost) i =
    let a = i.0 in let b = i.1 in let c = one_taken y.block i.2 in omega arith
stop_tells y op end i = absurd i

quit_tells : (g : Begin) (p : Part) (y : Trip) (op : Op) (x : PartEnd) → IsQuit g p y (Some x)
    → piece_gives tried op x ≡ y.wrote + y.lost + by_option (λ (b : ℕ). 1) y.block
quit_tells g p y op Carried i = absurd i
quit_tells g p y op (AtLimit charged need limit) i = absurd i
quit_tells g p y op NoMemory i = absurd i
quit_tells g p y op (Eio fault) i = absurd i
quit_tells g p y op (Whole end) i = stop_tells y op end i.1

no_cut : (ps : List Part) (x : Option PartEnd) → NoneOf x → fails_so cut_short ps x ≡ 0
no_cut ps None i = fails_none cut_short ps
no_cut ps (Some x) i = absurd i

bit_off : (b : Bool) → bit b ≡ 0 → b ≡ false
bit_off true e = absurd (omega arith)
bit_off false e = refl

-- ---- givings

-- a weight of the map that doesn't depend on the states of its blocks
abbrev pub IsOfLimit : (BlockMap → ℕ) → Type 0
IsOfLimit h = (x : BlockMap) (states : List BlockState) → h (record x { states = states }) ≡ h x

module _ (g : Begin) (ok : Known g) (w : State DiskHeld) (j : Joint g w) (a : ℕ) (l : Here)
    (who : slice_get w.locals a ≡ Some l) (k : LockNo) where
  abbrev n : ℕ
  n = g.given.size

  -- what is left, and whether the limit is on, stay
  abbrev pub Stays : DiskHeld → Here → Type 0
  Stays v m = (h : BlockMap → ℕ) → IsOfLimit h
      → mass (spot n) (on_blocks h) none m + on_blocks h (spot n k) v
      ≡ mass (spot n) (on_blocks h) none l

  -- An actor holds the map, and no other.
  pub record HasMap (y : BlockMap) : Type 0 where
    pub rest : List (LockNo × DiskHeld)
    pub held : l.held ≡ (lock.Blocks, holds.Blocks y) ∷ rest
    pub alone : (h : BlockMap → ℕ) → held_sum (spot n) (on_blocks h) rest ≡ 0

  -- What is left stays, and what the actor tells; or a block is reserved, and told; or nothing is left,
  -- and the writeback is cut.
  pub data Spends (v : DiskHeld) (m : Here) : Type 0 where
    same : Stays v m → reserves_told m ≡ reserves_told l → cuts_told m ≡ cuts_told l → Spends v m
    takes : (y : BlockMap) → HasMap y → HasBudget y
        → mass (spot n) map_budgeted none m + map_budgeted (spot n k) v
        ≡ mass (spot n) map_budgeted none l
        → mass (spot n) map_budget none m + map_budget (spot n k) v ≡ budget_after y
        → reserves_told m ≡ reserves_told l + 1 → cuts_told m ≡ cuts_told l → Spends v m
    cuts : (y : BlockMap) → HasMap y → IsBudgetSpent y → Stays v m
        → reserves_told m ≡ reserves_told l → Spends v m

  same_spends : (v v₀ : DiskHeld) (m m₀ : Here) → v ≡ v₀ → m ≡ m₀ → Spends v₀ m₀ → Spends v m
  same_spends v v₀ m m₀ e f t = subst (λ (x : DiskHeld × Here). Spends x.0 x.1)
      (λ i. (sym e i, sym f i)) t

  -- ---- what is told

  told_now : (m : Here) (at : At) (fail : Option PartEnd) → m.done ≡ l.done → m.todo ≡ l.todo
      → m.at ≡ at → m.fail ≡ fail
      → (reserves_told m ≡ done_sum tried l.done + reserves_in at)
      × (cuts_told m ≡ done_sum cut_short l.done + fails_so cut_short l.todo fail)
  told_now m at fail done todo at_is fail_is = (
    (λ i. done_sum tried (done i) + reserves_in (at_is i)),
    (λ i. done_sum cut_short (done i) + fails_so cut_short (todo i) (fail_is i)),
  )

  -- the piece is over
  told_over : (p : Part) (end : PartEnd) (got : List (List ℕ)) (rest : List Part)
      → (reserves_told (piece_over l p end got rest)
      ≡ done_sum tried l.done + piece_gives tried p.op end)
      × (cuts_told (piece_over l p end got rest)
      ≡ done_sum cut_short l.done + piece_gives cut_short p.op end)
  told_over p end got rest =
      let d : Done = record { part = p; end = end; got = got } in (
        (let r = ok.facts.counted tried l.done (d ∷ []) in omega arith),
        (let r = ok.facts.counted cut_short l.done (d ∷ []) in
            let z = fails_none cut_short (left_by end p.nr rest) in omega arith),
      )

  -- the refusal of its piece
  cut_by : (p : Part) (rest : List Part) (end : PartEnd) → l.todo ≡ p ∷ rest
      → fails_so cut_short l.todo (Some end) ≡ piece_gives cut_short p.op end
  cut_by p rest end todo = ap (λ (ps : List Part). fails_so cut_short ps (Some end)) todo

  module _ (v : DiskHeld) (m : Here) (at : At) (at_is : l.at ≡ at) (plain : NoTrip at) where
    -- a piece that goes on tells nothing
    goes_so : m.done ≡ l.done → m.todo ≡ l.todo → NoTrip m.at
        → fails_so cut_short l.todo m.fail ≡ fails_so cut_short l.todo l.fail → Stays v m
        → Spends v m
    goes_so done todo now cut stays =
        let x = told_now m m.at m.fail done todo refl refl in
        let y = told_now l at l.fail refl refl at_is refl in
        let z = plain_reserves at plain in let u = plain_reserves m.at now in
        let r0 = x.0 in let r1 = x.1 in let q0 = y.0 in let q1 = y.1 in
        same stays (omega arith) (omega arith)

    -- one that is over, by its refusal or without one
    ends_so : (p : Part) (end : PartEnd) (got : List (List ℕ)) (rest : List Part)
        → m ≡ piece_over l p end got rest → TellsNone p.op end
        → fails_so cut_short l.todo l.fail ≡ 0 → Stays v m → Spends v m
    ends_so p end got rest m_is tells cut stays =
        let x = told_over p end got rest in
        let y = told_now l at l.fail refl refl at_is refl in
        let z = plain_reserves at plain in
        let r0 = x.0 in let r1 = x.1 in let q0 = y.0 in let q1 = y.1 in
        let e0 = ap reserves_told m_is in let e1 = ap cuts_told m_is in
        let t0 = tells.reserves in let t1 = tells.cuts in
        same stays (omega arith) (omega arith)

  -- ---- of a writeback

  module _ (v : DiskHeld) (m : Here) where
    -- by the value that was held, and what was left
    stays_by : (k₀ : LockNo) (u v₀ : DiskHeld) (hs hs' : List (LockNo × DiskHeld)) → v ≡ v₀
        → l.held ≡ (k₀, u) ∷ hs → m.held ≡ hs'
        → ((h : BlockMap → ℕ) → IsOfLimit h → (i : ℕ)
        → held_sum (spot n) (on_blocks h) hs' + on_blocks h i v₀
        ≡ on_blocks h (spot n k₀) u + held_sum (spot n) (on_blocks h) hs)
        → Stays v m
    stays_by k₀ u v₀ hs hs' v_is held after e h i =
        let r = ap (held_sum (spot n) (on_blocks h)) held in
        let t = ap (held_sum (spot n) (on_blocks h)) after in
        let s = ap (on_blocks h (spot n k)) v_is in let z = e h i (spot n k) in omega arith

    -- it goes on, and has reserved as many blocks
    trip_on : (s t : Step) (x y : Trip) → l.at ≡ Visiting s x → m.at ≡ Visiting t y
        → m.done ≡ l.done → m.todo ≡ l.todo
        → reserves_in (Visiting t y) ≡ reserves_in (Visiting s x)
        → fails_so cut_short l.todo m.fail ≡ fails_so cut_short l.todo l.fail → Stays v m
        → Spends v m
    trip_on s t x y at now done todo told cut stays =
        let p = told_now m (Visiting t y) m.fail done todo now refl in
        let q = told_now l (Visiting s x) l.fail refl refl at refl in
        let r0 = p.0 in let r1 = p.1 in let q0 = q.0 in let q1 = q.1 in
        same stays (omega arith) (omega arith)

    -- it is over
    trip_over : (p : Part) (rest : List Part) (s : Step) (x : Trip) (end : PartEnd)
        → l.todo ≡ p ∷ rest → l.at ≡ Visiting s x → l.fail ≡ Some end
        → m ≡ piece_over l p end [] rest
        → piece_gives tried p.op end ≡ reserves_in (Visiting s x) → Stays v m → Spends v m
    trip_over p rest s x end todo at fail m_is tells stays =
        let y = told_over p end [] rest in
        let q = told_now l (Visiting s x) (Some end) refl refl at fail in
        let r0 = y.0 in let r1 = y.1 in let q0 = q.0 in let q1 = q.1 in
        let e0 = ap reserves_told m_is in let e1 = ap cuts_told m_is in
        let t = cut_by p rest end todo in same stays (omega arith) (omega arith)

    onward_held : (p : Part) (rest : List Part) (y : Trip) → Onward g l p rest y m → m.held ≡ []
    onward_held p rest y (visit.next off m_is) = ap (λ (i : Here). i.held) m_is
    onward_held p rest y (visit.last on m_is) = ap (λ (i : Here). i.held) m_is

    -- the visit of a page is over
    onward_tells : (p : Part) (rest : List Part) (y : Trip) → NoneOf y.block
        → Onward g l p rest y m
        → (reserves_told m ≡ done_sum tried l.done + (y.wrote + y.lost))
        × (cuts_told m ≡ done_sum cut_short l.done)
    onward_tells p rest y left (visit.next off m_is) =
        let e0 = ap reserves_told m_is in let e1 = ap cuts_told m_is in
        let z = none_taken y.block left in let f = fails_none cut_short l.todo in
        ((omega arith), (omega arith))
    onward_tells p rest y left (visit.last on m_is) =
        let t = told_over p (Whole (ends.Written y.wrote y.lost)) [] rest in
        let e0 = ap reserves_told m_is in let e1 = ap cuts_told m_is in
        let r0 = t.0 in let r1 = t.1 in ((omega arith), (omega arith))

    trip_onward : (p : Part) (rest : List Part) (s : Step) (x y : Trip) → l.at ≡ Visiting s x
        → NoneOf l.fail → NoneOf y.block → Onward g l p rest y m
        → reserves_in (Visiting s x) ≡ y.wrote + y.lost → Stays v m → Spends v m
    trip_onward p rest s x y at well left on told stays =
        let t = onward_tells p rest y left on in
        let q = told_now l (Visiting s x) l.fail refl refl at refl in
        let r0 = t.0 in let r1 = t.1 in let q0 = q.0 in let q1 = q.1 in
        let z = no_cut l.todo l.fail well in same stays (omega arith) (omega arith)

    visit_spends : VisitEvent g l v m → Spends v m
    visit_spends (visit.passes p rest x e todo at held v_is on) =
        let st = stage g ok w j a l who p rest todo _ (Visiting step.Passing x) held at in
        trip_onward p rest step.Passing x (passed_page x) at st.fails tt on
        (let z = none_taken x.block st.visits.step.1 in omega arith)
        (stays_by _ _ _ _ [] v_is held (onward_held p rest _ on) (λ h i s. omega arith))
    visit_spends (visit.reserves p rest x e y b todo at held answer v_is m_is) =
        let st = stage g ok w j a l who p rest todo _ (Visiting step.Reserving x) held at in
        let after = ap (λ (i : Here). i.held) m_is in
        let t = told_now m (Visiting step.Seen (with_block x b)) l.fail
        (ap (λ (i : Here). i.done) m_is) (ap (λ (i : Here). i.todo) m_is)
        (ap (λ (i : Here). i.at) m_is) (ap (λ (i : Here). i.fail) m_is) in
        let q = told_now l (Visiting step.Reserving x) l.fail refl refl at refl in
        let t0 = t.0 in let t1 = t.1 in let q0 = q.0 in let q1 = q.1 in
        let z = none_taken x.block st.visits.step.1 in
        takes y (record { rest = _; held = held; alone = λ h. refl }) answer.0
        (let r = ap (held_sum (spot n) map_budgeted) held in
        let f = ap (held_sum (spot n) map_budgeted) after in
        let u = ap (map_budgeted (spot n k)) v_is in omega arith)
        (let f = ap (held_sum (spot n) map_budget) after in
        let u = ap (map_budget (spot n k)) v_is in omega arith)
        (omega arith) (omega arith)
    visit_spends (visit.refrains p rest x e y r end todo at held answer is v_is m_is) =
        by_answer r answer is where
          after : m.held ≡ (slot x.page, holds.Slot e) ∷ []
          after = ap (λ (i : Here). i.held) m_is

          stays : Stays v m
          stays = stays_by _ _ _ _ _ v_is held after (λ h i s. omega arith)

          well : NoneOf l.fail
          well = (stage g ok w j a l who p rest todo _ (Visiting step.Reserving x) held at).fails

          told : reserves_told m ≡ reserves_told l
          told =
              let t = told_now m (Visiting step.Quitting x) (Some (Whole end))
              (ap (λ (i : Here). i.done) m_is) (ap (λ (i : Here). i.todo) m_is)
              (ap (λ (i : Here). i.at) m_is) (ap (λ (i : Here). i.fail) m_is) in
              let q = told_now l (Visiting step.Reserving x) l.fail refl refl at refl in
              let t0 = t.0 in let q0 = q.0 in omega arith

          by_answer : (r : Reserve) → AnswersReserve y r → refused_end r x ≡ Some end → Spends v m
          by_answer (Got b) answer is = absurd (cc)
          by_answer BudgetSpent answer is =
              cuts y (record { rest = _; held = held; alone = λ h. refl }) answer stays told
          by_answer NoBlock answer is =
              trip_on step.Reserving step.Quitting x x at (ap (λ (i : Here). i.at) m_is)
              (ap (λ (i : Here). i.done) m_is) (ap (λ (i : Here). i.todo) m_is) refl
              (let q : end ≡ ends.NoBlock x.wrote x.lost = cc in
              let f = ap (λ (i : Here). fails_so cut_short l.todo i.fail) m_is in
              let t = cut_by p rest (Whole end) todo in
              let z = ap (cut_short p.op) q in let y = no_cut l.todo l.fail well in omega arith)
              stays
    visit_spends (visit.quits p rest x e end todo at held bad v_is m_is) =
        let st = stage g ok w j a l who p rest todo _ (Visiting step.Quitting x) held at in
        trip_over p rest step.Quitting x end todo at bad m_is
        (quit_tells g p x p.op end (subst (IsQuit g p x) bad st.fails))
        (stays_by _ _ _ _ _ v_is held (ap (λ (i : Here). i.held) m_is) (λ h i s. omega arith))
    visit_spends (visit.pins p rest x e o q q' u u' cell todo at held is sw named_u free taken is_cell
        in_cell v_is m_is) =
        trip_on step.Pinning step.Pinned x x at (ap (λ (i : Here). i.at) m_is)
        (ap (λ (i : Here). i.done) m_is) (ap (λ (i : Here). i.todo) m_is) refl
        (ap (λ (i : Here). fails_so cut_short l.todo i.fail) m_is)
        (stays_by _ _ _ _ _ v_is held (ap (λ (i : Here). i.held) m_is) (λ h i s. omega arith))
    visit_spends (visit.unpins p rest x e o q q' u u' todo at held is sw named_u taken free v_is
        m_is) =
        trip_on step.Unpinning step.Marking x x at (ap (λ (i : Here). i.at) m_is)
        (ap (λ (i : Here). i.done) m_is) (ap (λ (i : Here). i.todo) m_is) refl
        (ap (λ (i : Here). fails_so cut_short l.todo i.fail) m_is)
        (stays_by _ _ _ _ _ v_is held (ap (λ (i : Here). i.held) m_is) (λ h i s. omega arith))
    visit_spends (visit.marks p rest x e b todo at held block v_is m_is) =
        trip_on step.Marking step.Flying x x at (ap (λ (i : Here). i.at) m_is)
        (ap (λ (i : Here). i.done) m_is) (ap (λ (i : Here). i.todo) m_is) refl
        (ap (λ (i : Here). fails_so cut_short l.todo i.fail) m_is)
        (stays_by _ _ _ _ _ v_is held (ap (λ (i : Here). i.held) m_is) (λ h i s. omega arith))
    visit_spends (visit.stores p rest x b page d d' todo at held block is write v_is m_is) =
        trip_on step.Storing step.Landing x x at (ap (λ (i : Here). i.at) m_is)
        (ap (λ (i : Here). i.done) m_is) (ap (λ (i : Here). i.todo) m_is) refl
        (ap (λ (i : Here). fails_so cut_short l.todo i.fail) m_is)
        (stays_by _ _ _ _ _ v_is held (ap (λ (i : Here). i.held) m_is) (λ h i s. omega arith))
    visit_spends (visit.spoils p rest x b d d' fault todo at held block failed v_is m_is) =
        let st = stage g ok w j a l who p rest todo _ (Visiting step.Storing x) held at in
        trip_on step.Storing step.Landing x x at (ap (λ (i : Here). i.at) m_is)
        (ap (λ (i : Here). i.done) m_is) (ap (λ (i : Here). i.todo) m_is) refl
        (let f = ap (λ (i : Here). fails_so cut_short l.todo i.fail) m_is in
        let t = cut_by p rest (Whole (ends.WriteEio fault x.wrote x.lost)) todo in
        let z = no_cut l.todo l.fail st.fails in omega arith)
        (stays_by _ _ _ _ _ v_is held (ap (λ (i : Here). i.held) m_is) (λ h i s. omega arith))
    visit_spends (visit.frees p rest x e o q q' u frames todo at held is gone named_u home v_is
        m_is) =
        trip_on step.Freeing step.Backing x x at (ap (λ (i : Here). i.at) m_is)
        (ap (λ (i : Here). i.done) m_is) (ap (λ (i : Here). i.todo) m_is) refl
        (ap (λ (i : Here). fails_so cut_short l.todo i.fail) m_is)
        (stays_by _ _ _ _ _ v_is held (ap (λ (i : Here). i.held) m_is) (λ h i s. omega arith))
    visit_spends (visit.commits p rest x e b y todo at held block v_is m_is) =
        trip_on step.Committing step.Owing x x at (ap (λ (i : Here). i.at) m_is)
        (ap (λ (i : Here). i.done) m_is) (ap (λ (i : Here). i.todo) m_is) refl
        (ap (λ (i : Here). fails_so cut_short l.todo i.fail) m_is)
        (stays_by _ _ _ _ _ v_is held (ap (λ (i : Here). i.held) m_is)
        (λ h i s. let z : h (with_state y b Owned) ≡ h y = i y _ in omega arith))
    visit_spends (visit.pays p rest x e c was todo at held is v_is m_is) =
        trip_on step.Paying step.Putting x x at (ap (λ (i : Here). i.at) m_is)
        (ap (λ (i : Here). i.done) m_is) (ap (λ (i : Here). i.todo) m_is) refl
        (ap (λ (i : Here). fails_so cut_short l.todo i.fail) m_is)
        (stays_by _ _ _ _ _ v_is held (ap (λ (i : Here). i.held) m_is) (λ h i s. omega arith))
    visit_spends (visit.puts p rest x e b todo at held block v_is on) =
        let st = stage g ok w j a l who p rest todo _ (Visiting step.Putting x) held at in
        trip_onward p rest step.Putting x (wrote_page x) at st.fails tt on
        (let z = one_taken x.block st.visits.step.1 in omega arith)
        (stays_by _ _ _ _ [] v_is held (onward_held p rest _ on) (λ h i s. omega arith))
    visit_spends (visit.loses p rest x e todo at held v_is m_is) =
        trip_on step.Losing step.Undoing x x at (ap (λ (i : Here). i.at) m_is)
        (ap (λ (i : Here). i.done) m_is) (ap (λ (i : Here). i.todo) m_is) refl
        (ap (λ (i : Here). fails_so cut_short l.todo i.fail) m_is)
        (stays_by _ _ _ _ _ v_is held (ap (λ (i : Here). i.held) m_is) (λ h i s. omega arith))
    visit_spends (visit.releases p rest x b y todo at held block well v_is on) =
        trip_onward p rest step.Releasing x (lost_page x) at (subst NoneOf (sym well) tt) tt on
        (let z = ap (by_option (λ (i : ℕ). 1)) block in omega arith)
        (stays_by _ _ _ _ [] v_is held (onward_held p rest _ on)
        (λ h i s. let z : h (with_state y b Free) ≡ h y = i y _ in omega arith))
    visit_spends (visit.stops p rest x b y end todo at held block bad v_is m_is) =
        let st = stage g ok w j a l who p rest todo _ (Visiting step.Releasing x) held at in
        trip_over p rest step.Releasing x end todo at bad m_is
        (quit_tells g p x p.op end (subst (MayQuit g p x) bad st.fails))
        (stays_by _ _ _ _ _ v_is held (ap (λ (i : Here). i.held) m_is)
        (λ h i s. let z : h (with_state y b Free) ≡ h y = i y _ in omega arith))

  -- ---- each giving

  pub spends_of : (v : DiskHeld) (m : Here) → Event g l v m → Spends v m
  spends_of v m (event.visits t) = visit_spends v m t
  spends_of v m (event.pins p rest e o x x' u u' cell todo at held is sw named_u free outside is_cell
      in_cell lk v_is m_is) =
      same_spends v _ m _ v_is m_is (goes_so _ _ Pinning at tt refl refl
      (plain_pinned p.op (next_form p (Some (page_in_cell o cell)) e.kept) e.kept) refl
      (λ h i. let r = ap (held_sum (spot n) (on_blocks h)) held in omega arith))
  spends_of v m (event.unpins p rest e o x x' u u' todo at held is sw named_u outside free lk v_is
      m_is) =
      same_spends v _ m _ v_is m_is (goes_so _ _ Unpinning at tt refl refl tt refl
      (λ h i. let r = ap (held_sum (spot n) (on_blocks h)) held in omega arith))
  spends_of v m (event.charges p rest e c x x' cl hd need bytes huge todo at held is_form is_class
      within al v_is m_is) =
      same_spends v _ m _ v_is m_is (goes_so _ _ Both at tt refl refl tt refl
      (λ h i. let r = ap (held_sum (spot n) (on_blocks h)) held in omega arith))
  spends_of v m (event.limits p rest e c x cl need todo at held is_need past v_is m_is) =
      let st = stage g ok w j a l who p rest todo _ Both held at in
      same_spends v _ m _ v_is m_is (goes_so _ _ Both at tt refl refl tt
      (cut_by p rest (AtLimit c.pages need c.limit) todo ∙ sym (no_cut l.todo l.fail st.fails))
      (λ h i. let r = ap (held_sum (spot n) (on_blocks h)) held in omega arith))
  spends_of v m (event.starves p rest e c x cl todo at held v_is m_is) =
      let st = stage g ok w j a l who p rest todo _ Both held at in
      same_spends v _ m _ v_is m_is (goes_so _ _ Both at tt refl refl tt
      (cut_by p rest NoMemory todo ∙ sym (no_cut l.todo l.fail st.fails))
      (λ h i. let r = ap (held_sum (spot n) (on_blocks h)) held in omega arith))
  spends_of v m (event.stows p rest e x cl todo at held well v_is m_is) =
      same_spends v _ m _ v_is m_is (goes_so _ _ Made at tt refl refl (plain_settle e.kept) refl
      (λ h i. let r = ap (held_sum (spot n) (on_blocks h)) held in omega arith))
  spends_of v m (event.quits p rest e x cl y todo at held bad v_is m_is) =
      same_spends v _ m _ v_is m_is (goes_so _ _ Made at tt refl refl (plain_quit l.pin) refl
      (λ h i. let r = ap (held_sum (spot n) (on_blocks h)) held in omega arith))
  spends_of v m (event.frees p rest e o x x' frames todo at held is fp v_is m_is) =
      same_spends v _ m _ v_is m_is (goes_so _ _ Freeing at tt refl refl tt refl
      (λ h i. let r = ap (held_sum (spot n) (on_blocks h)) held in omega arith))
  spends_of v m (event.repays p rest e c todo at held v_is m_is) =
      same_spends v _ m _ v_is m_is (goes_so _ _ Giving at tt refl refl tt refl
      (λ h i. let r = ap (held_sum (spot n) (on_blocks h)) held in omega arith))
  spends_of v m (event.fetches p rest e b d d' page todo at held is read is_page v_is m_is) =
      same_spends v _ m _ v_is m_is (goes_so _ _ Fetching at tt refl refl
      (plain_fetched p.op (next_form p (Some page) e.kept) e.kept) refl
      (λ h i. let r = ap (held_sum (spot n) (on_blocks h)) held in omega arith))
  spends_of v m (event.misses p rest e b d d' fault todo at held is failed v_is m_is) =
      let st = stage g ok w j a l who p rest todo _ Fetching held at in
      same_spends v _ m _ v_is m_is (goes_so _ _ Fetching at tt refl refl tt
      (cut_by p rest (Eio fault) todo ∙ sym (no_cut l.todo l.fail st.fails))
      (λ h i. let r = ap (held_sum (spot n) (on_blocks h)) held in omega arith))
  spends_of v m (event.counts p rest e c todo at held v_is m_is) =
      same_spends v _ m _ v_is m_is (goes_so _ _ Counting at tt refl refl tt refl
      (λ h i. let r = ap (held_sum (spot n) (on_blocks h)) held in omega arith))
  spends_of v m (event.releases p rest e b x todo at held is v_is m_is) =
      same_spends v _ m _ v_is m_is (goes_so _ _ Releasing at tt refl refl tt refl
      (λ h i. let r = ap (held_sum (spot n) (on_blocks h)) held in
      let z : h (with_state x b Free) ≡ h x = i x _ in omega arith))
  spends_of v m (event.moves p rest y x x' u u' budget frames todo at held sh some one v_is m_is) =
      same_spends v _ m _ v_is m_is (goes_so _ _ (Moving y) at tt refl refl
      (plain_moved frames (with_move y budget)) refl
      (λ h i. let r = ap (held_sum (spot n) (on_blocks h)) held in omega arith))
  spends_of v m (event.sweeps p rest y x todo at held stuck other v_is m_is) =
      same_spends v _ m _ v_is m_is (goes_so _ _ (Moving y) at tt refl refl tt refl
      (λ h i. let r = ap (held_sum (spot n) (on_blocks h)) held in omega arith))
  spends_of v m (event.shrinks p rest y c todo at held v_is m_is) =
      same_spends v _ m _ v_is m_is (goes_so _ _ (Shrinking y) at tt refl refl tt refl
      (λ h i. let r = ap (held_sum (spot n) (on_blocks h)) held in omega arith))
  spends_of v m (event.scans p rest age x e todo op at held other v_is m_is) =
      same_spends v _ m _ v_is m_is (goes_so _ _ (Marking x) at tt refl refl tt refl
      (λ h i. let r = ap (held_sum (spot n) (on_blocks h)) held in omega arith))
  spends_of v m (event.stops p rest age x e todo op at held last v_is m_is) =
      let st = stage g ok w j a l who p rest todo _ (Marking x) held at in
      ends_so v m (Marking x) at tt p _ [] rest m_is (record { reserves = refl; cuts = refl })
      (no_cut l.todo l.fail st.fails)
      (stays_by v m _ _ _ _ _ v_is held (ap (λ (i : Here). i.held) m_is) (λ h i s. omega arith))
  spends_of v m (event.refuses p rest c todo at held v_is m_is) =
      let st = stage g ok w j a l who p rest todo _ Refusing held at in
      ends_so v m Refusing at tt p (Whole ends.Range) [] rest m_is
      (record { reserves = refl; cuts = refl }) (no_cut l.todo l.fail st.fails)
      (stays_by v m _ _ _ _ _ v_is held (ap (λ (i : Here). i.held) m_is) (λ h i s. omega arith))
  spends_of v m (event.closes p rest y x todo at held stuck last v_is m_is) =
      let st = stage g ok w j a l who p rest todo _ (Moving y) held at in
      ends_so v m (Moving y) at tt p (Whole (ends.Compacted y.moves y.frames)) [] rest m_is
      (record { reserves = refl; cuts = refl }) (no_cut l.todo l.fail st.fails)
      (stays_by v m _ _ _ _ _ v_is held (ap (λ (i : Here). i.held) m_is) (λ h i s. omega arith))
  spends_of v m (event.puts p rest e f todo at held notes v_is m_is) =
      let st = stage g ok w j a l who p rest todo _ Ready held at in
      ends_so v m Ready at tt p Carried [] rest m_is (record { reserves = refl; cuts = refl })
      (no_cut l.todo l.fail st.fails)
      (stays_by v m _ _ _ _ _ v_is held (ap (λ (i : Here). i.held) m_is) (λ h i s. omega arith))
  spends_of v m (event.reads p rest e f todo at held well notes v_is m_is) =
      ends_so v m Leaving at tt p Carried _ rest m_is (record { reserves = refl; cuts = refl })
      (no_cut l.todo l.fail (subst NoneOf (sym well) tt))
      (stays_by v m _ _ _ _ _ v_is held (ap (λ (i : Here). i.held) m_is) (λ h i s. omega arith))
  spends_of v m (event.fails p rest e x todo at held bad v_is m_is) =
      let st = stage g ok w j a l who p rest todo _ Leaving held at in
      let t = refusal_tells g p p.op x (subst (FailBy g p p.op) bad st.fails) in
      ends_so v m Leaving at tt p x [] rest m_is t
      (ap (fails_so cut_short l.todo) bad ∙ cut_by p rest x todo ∙ t.cuts)
      (stays_by v m _ _ _ _ _ v_is held (ap (λ (i : Here). i.held) m_is) (λ h i s. omega arith))
  spends_of v m (event.errs p rest e f x todo at held bad read notes v_is m_is) =
      let st = stage g ok w j a l who p rest todo _ Missed held at in
      let t = fault_tells g p p.op x (subst (IsFault g p) bad st.fails) in
      ends_so v m Missed at tt p x [] rest m_is t
      (ap (fails_so cut_short l.todo) bad ∙ cut_by p rest x todo ∙ t.cuts)
      (stays_by v m _ _ _ _ _ v_is held (ap (λ (i : Here). i.held) m_is) (λ h i s. omega arith))
  spends_of v m (event.leaves p rest e x todo at held bad other v_is m_is) =
      let st = stage g ok w j a l who p rest todo _ Missed held at in
      let t = fault_tells g p p.op x (subst (IsFault g p) bad st.fails) in
      ends_so v m Missed at tt p x [] rest m_is t
      (ap (fails_so cut_short l.todo) bad ∙ cut_by p rest x todo ∙ t.cuts)
      (stays_by v m _ _ _ _ _ v_is held (ap (λ (i : Here). i.held) m_is) (λ h i s. omega arith))

  -- ---- the rule

  module _ (v : DiskHeld) (m : Here) (there : slice_get w.row (spot n k) ≡ Some None)
      (sizes : mass (spot n) map_size none m + map_size (spot n k) v
      ≡ mass (spot n) map_size none l) where
    abbrev now : State DiskHeld
    now = gone n w a l who k (Some v) m

    same_total : (f : ℕ → DiskHeld → ℕ)
        → mass (spot n) f none m + f (spot n k) v ≡ mass (spot n) f none l
        → total (spot n) f none now ≡ total (spot n) f none w
    same_total f e = let r = ok.facts.give (spot n) f none w a l k v m who there in omega arith

    -- what the map in hand has is what there is
    left_here : (y : BlockMap) → HasMap y → total (spot n) map_budget none w ≡ y.budget
    left_here y h = map_here g w j a l who y h.rest h.held (λ x. x.budget) (h.alone _)

    on_here : (y : BlockMap) → HasMap y → CountsBudget g w
        → bit y.enabled ≡ bit g.budgeted
    on_here y h t =
        sym (map_here g w j a l who y h.rest h.held (λ x. bit x.enabled) (h.alone _)) ∙ t.on

    pub budget_give : Spends v m → CountsBudget g w → CountsBudget g now
    budget_give (same stays told cut) t =
        let s = ok.facts.moves reserves_told w.locals a l m who in
        let c = ok.facts.moves cuts_told w.locals a l m who in
        let b = same_total map_budget (stays (λ x. x.budget) (λ x states. refl)) in record {
          size = same_total map_size sizes ∙ t.size;
          on = same_total map_budgeted (stays (λ x. bit x.enabled) (λ x states. refl)) ∙ t.on;
          spent = λ on. let z = t.spent on in omega arith;
          same = λ off. b ∙ t.same off;
          none = λ some_cut. let z = t.none (omega arith) in (z.0, b ∙ z.1);
        }
    budget_give (takes y h some still less told cut) t =
        let s = ok.facts.moves reserves_told w.locals a l m who in
        let c = ok.facts.moves cuts_told w.locals a l m who in
        let r = ok.facts.give (spot n) map_budget none w a l k v m who there in
        let x = left_here y h in let e = on_here y h t in
        let q = ap (held_sum (spot n) map_budget) h.held in
        let z = h.alone (λ x. x.budget) in record {
          size = same_total map_size sizes ∙ t.size;
          on = same_total map_budgeted still ∙ t.on;
          spent = λ on.
              let up = bit_is y.enabled (let i = ap bit on in omega arith) in
              let i = some up in let u = t.spent on in
              let d : budget_after y ≡ y.budget - 1 =
              ap (λ (b : Bool). if b then y.budget - 1 else y.budget) up in omega arith;
          same = λ off.
              let down = bit_off y.enabled (e ∙ ap bit off) in let u = t.same off in
              let d : budget_after y ≡ y.budget =
              ap (λ (b : Bool). if b then y.budget - 1 else y.budget) down in omega arith;
          none = λ some_cut. absurd (let u = t.none (omega arith) in let u1 = u.1 in
              let up = bit_is y.enabled (let i = ap bit u.0 in omega arith) in
              let i = some up in let no : ⊥ = omega arith in no);
        }
    budget_give (cuts y h spent stays told) t =
        let s = ok.facts.moves reserves_told w.locals a l m who in
        let b = same_total map_budget (stays (λ x. x.budget) (λ x states. refl)) in
        let e = on_here y h t in record {
          size = same_total map_size sizes ∙ t.size;
          on = same_total map_budgeted (stays (λ x. bit x.enabled) (λ x states. refl)) ∙ t.on;
          spent = λ on. let z = t.spent on in omega arith;
          same = λ off. b ∙ t.same off;
          none = λ some_cut. (
            bit_is g.budgeted (let i = ap bit spent.0 in omega arith),
            b ∙ left_here y h ∙ spent.1,
          );
        }

-- a taking changes neither
module _ (g : Begin) (ok : Known g) (w : State DiskHeld) (a : ℕ) (l : Here)
    (who : slice_get w.locals a ≡ Some l) (k : LockNo) (v : DiskHeld)
    (what : plan (terms g) l ≡ Take k)
    (there : slice_get w.row (spot g.given.size k) ≡ Some (Some v)) where
  abbrev m : Here
  m = took (terms g) l v

  took_total : (f : ℕ → DiskHeld → ℕ)
      → total (spot g.given.size) f none (gone g.given.size w a l who k None m)
      ≡ total (spot g.given.size) f none w
  took_total f = ok.facts.take (spot g.given.size) f none w a l k v m who there
      (ap (λ p. (lock_of p, v) ∷ l.held) what) refl

  pub budget_take : CountsBudget g w → CountsBudget g (gone g.given.size w a l who k None m)
  budget_take t =
      let s = ok.facts.moves reserves_told w.locals a l m who in
      let c = ok.facts.moves cuts_told w.locals a l m who in
      let told = (take_alike (terms g) l v).reserves in let b = took_total map_budget in record {
        size = took_total map_size ∙ t.size;
        on = took_total map_budgeted ∙ t.on;
        spent = λ on. let z = t.spent on in omega arith;
        same = λ off. b ∙ t.same off;
        none = λ some_cut. let z = t.none (omega arith) in (z.0, b ∙ z.1);
      }

-- it doesn't hang on what the calls find
pub budget_finding : (g : Begin) (finds : ℕ → Finds) (w : State DiskHeld) → CountsBudget g w
    → CountsBudget (finding g finds) w
budget_finding g finds w t =
    record { size = t.size; on = t.on; spent = t.spent; same = t.same; none = t.none }

-- ---- a finished phase

module _ (g : Begin) (w : State DiskHeld) (t : CountsBudget g w) (s : Settings)
    (left : g.budget ≡ s.budget) (on_is : g.budgeted ≡ s.budgeted) (n c : ℕ)
    (told : locals_sum reserves_told w.locals ≡ n) (cut : locals_sum cuts_told w.locals ≡ c) where
  pub keeps_budget : KeepsBudget s n c
  keeps_budget = record {
    within = λ on. let z = t.spent (on_is ∙ on) in omega arith;
    whole = λ some_cut. let x = t.none (omega arith) in let z = t.spent x.0 in let y = x.1 in
        omega arith;
  }

  -- what is left after it
  pub left_after : total (spot g.given.size) map_budget none w
      ≡ (if s.budgeted then s.budget - n else s.budget)
  left_after = elim (cases_Bool s.budgeted) [
    | inl on ↦ rw on (let z = t.spent (on_is ∙ on) in omega arith)
    | inr off ↦ rw off (t.same (on_is ∙ off) ∙ left)
  ]
