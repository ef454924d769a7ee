-- No giving shortens an order, or takes back what was told to be left on the device.
use Rattle.std.proofs.Common.{◌≡◌, ◌+◌, ◌≤◌, ◌∷◌, ◌∙◌, ◌++◌, ℕ, List, [], Some, None, slice_get, refl, sym, ap, subst, arith}
use Rattle.call_history.specs.Parts.{done_sum, piece_gives}
use Rattle.call_history.specs.declared.part.Part.{Part}
use Rattle.call_history.specs.declared.part.PartEnd.{PartEnd}
use Rattle.call_history.specs.declared.part.PartEnd.TheVariants.{Whole}
use Rattle.joint_rule.proofs.Compactions.{plain_moved}
use Rattle.joint_rule.proofs.Courses.{weighs_of}
use Rattle.joint_rule.proofs.Events.{Event}
use Rattle.joint_rule.proofs.Facts.{Known}
use Rattle.joint_rule.proofs.Gifts.{stage}
use Rattle.joint_rule.proofs.Givings.{event_is, given_lock}
use Rattle.joint_rule.proofs.Sums.{gone}
use Rattle.joint_rule.proofs.Trips.{NoTrip, plain_fetched, plain_pinned, plain_quit, plain_settle}
use Rattle.joint_rule.proofs.Visits.{Onward, VisitEvent}
use Rattle.joint_rule.proofs.Written.{plain_wrote, quit_tells}
use Rattle.joint_rule.specs.Begins.{Begin, terms}
use Rattle.joint_rule.specs.Joint.{Joint}
use Rattle.joint_rule.specs.Stages.{IsQuit, MayQuit}
use Rattle.joint_rule.specs.Weights.{none, on_entry, wrote_in, wrote_told}
use Rattle.lock_row.specs.Totals.{held_sum, mass, total}
use Rattle.lock_row.specs.declared.names.At.{At}
use Rattle.lock_row.specs.declared.names.At.TheVariants.{Both, Counting, Fetching, Freeing, Giving, Leaving, Made, Marking, Missed, Moving, Pinning, Ready, Refusing, Releasing, Shrinking, Unpinning, Visiting}
use Rattle.lock_row.specs.declared.names.LockNo.{LockNo}
use Rattle.lock_row.specs.declared.names.Plan.TheVariants.{Give}
use Rattle.lock_row.specs.declared.names.State.{State}
use Rattle.lock_row.specs.declared.names.Step.{Step}
use Rattle.lock_row.specs.declared.names.Trip.{Trip}
use Rattle.page_steps.specs.Compactions.{with_move}
use Rattle.page_steps.specs.Pages.{next_form, page_in_cell}
use Rattle.page_steps.specs.Steps.{DiskHeld, Here, class_by, piece_over, plan, plan_at, slot, spot}
use Rattle.page_steps.specs.Visits.{lost_page, passed_page, with_block, wrote_page}
use Rattle.plain_disk.specs.Ends.{left_back}
use Rattle.slot_entry.specs.Entries.{EntryState, marked}
use Rattle.slot_entry.specs.Forms.{class_in}
use Rattle.zr_base.specs.declared.op.OpEnd.TheVariants as ends
use Rattle.zr_base.specs.declared.op.Tag.{Tag}
use Rattle.joint_rule.proofs.Events as event
use Rattle.joint_rule.proofs.Visits as visit
use Rattle.lock_row.specs.declared.names.Held.TheVariants as holds
use Rattle.lock_row.specs.declared.names.Step.TheVariants as step

-- an entry's weight, by its order alone
abbrev pub by_order : (ℕ → List Tag → ℕ) → ℕ → DiskHeld → ℕ
by_order F = on_entry (λ i kept order. F i order)

-- a weight of orders doesn't fall where a tag is added
abbrev pub Grows : (ℕ → List Tag → ℕ) → Type 0
Grows F = (i : ℕ) (order : List Tag) (t : Tag) → F i order ≤ F i (order ++ t ∷ [])

module _ (g : Begin) (ok : Known g) (w : State DiskHeld) (j : Joint g w) (a : ℕ) (l : Here)
    (who : slice_get w.locals a ≡ Some l) (k : LockNo) where
  abbrev n : ℕ
  n = g.given.size

  -- no order in hand weighs less than before
  abbrev pub Keeps : DiskHeld → Here → Type 0
  Keeps v m = (F : ℕ → List Tag → ℕ) → Grows F → mass (spot n) (by_order F) none l
      ≤ mass (spot n) (by_order F) none m + by_order F (spot n k) v

  -- The giving is one of a writeback, or its actor is at none.
  pub data Turned (v : DiskHeld) (m : Here) : Type 0 where
    plain : Keeps v m → wrote_told l ≤ wrote_told m → NoTrip m.at → Turned v m
    visits : VisitEvent g l v m → Turned v m

  same_turned : (v v₀ : DiskHeld) (m m₀ : Here) → v ≡ v₀ → m ≡ m₀ → Turned v₀ m₀ → Turned v m
  same_turned v v₀ m m₀ e f t = subst (λ (x : DiskHeld × Here). Turned x.0 x.1)
      (λ i. (sym e i, sym f i)) t

  -- ---- what is told

  -- the piece is over
  over_wrote : (p : Part) (end : PartEnd) (got : List (List ℕ)) (rest : List Part)
      → wrote_told (piece_over l p end got rest)
      ≡ done_sum left_back l.done + piece_gives left_back p.op end
  over_wrote p end got rest =
      let r = ok.facts.counted left_back l.done (record { part = p; end = end; got = got } ∷ []) in
      omega arith

  was_plain : (at : At) → l.at ≡ at → NoTrip at → wrote_told l ≡ done_sum left_back l.done
  was_plain at is i = let z = plain_wrote at i in let q = ap wrote_in is in omega arith

  -- a piece of no writeback goes on, or is over
  goes_so : (v : DiskHeld) (m : Here) (at : At) → l.at ≡ at → NoTrip at → m.done ≡ l.done
      → NoTrip m.at → Keeps v m → Turned v m
  goes_so v m at is i done now keeps = plain keeps
      (let r = was_plain at is i in let d = ap (done_sum left_back) done in omega arith) now

  ends_so : (v : DiskHeld) (m : Here) (at : At) → l.at ≡ at → NoTrip at → (p : Part)
      (end : PartEnd) (got : List (List ℕ)) (rest : List Part) → m ≡ piece_over l p end got rest
      → Keeps v m → Turned v m
  ends_so v m at is i p end got rest m_is keeps = plain keeps
      (let r = was_plain at is i in let s = over_wrote p end got rest in
      let e = ap wrote_told m_is in omega arith)
      (subst NoTrip (sym (ap (λ (x : Here). x.at) m_is)) tt)

  -- a writeback goes on
  trip_wrote : (m : Here) (s t : Step) (x y : Trip) → l.at ≡ Visiting s x → m.at ≡ Visiting t y
      → m.done ≡ l.done → x.wrote ≤ y.wrote → wrote_told l ≤ wrote_told m
  trip_wrote m s t x y at now done le =
      let q = ap wrote_in at in let r = ap wrote_in now in let d = ap (done_sum left_back) done in
      omega arith

  onward_wrote : (m : Here) (p : Part) (rest : List Part) (s : Step) (x y : Trip)
      → l.at ≡ Visiting s x → Onward g l p rest y m → x.wrote ≤ y.wrote
      → wrote_told l ≤ wrote_told m
  onward_wrote m p rest s x y at (visit.next off m_is) le =
      trip_wrote m s step.Arriving x y at (ap (λ (i : Here). i.at) m_is)
      (ap (λ (i : Here). i.done) m_is) le
  onward_wrote m p rest s x y at (visit.last on m_is) le =
      let q = ap wrote_in at in let e = ap wrote_told m_is in
      let r = over_wrote p (Whole (ends.Written y.wrote y.lost)) [] rest in omega arith

  stops_wrote : (m : Here) (p : Part) (rest : List Part) (s : Step) (x : Trip) (end : PartEnd)
      → l.at ≡ Visiting s x → m ≡ piece_over l p end [] rest → IsQuit g p x (Some end)
      → wrote_told l ≤ wrote_told m
  stops_wrote m p rest s x end at m_is is =
      let q = ap wrote_in at in let e = ap wrote_told m_is in let r = over_wrote p end [] rest in
      let t = (quit_tells g p x p.op end is).wrote in omega arith

  -- ---- the slot

  module _ (v : DiskHeld) (m : Here) (what : plan (terms g) l ≡ Give k) where
    slot_is : (p : Part) (rest : List Part) (s : ℕ) (e : EntryState) (at : At) → l.todo ≡ p ∷ rest
        → l.held ≡ (slot s, holds.Slot e) ∷ [] → l.at ≡ at
        → plan_at g.given.size at p (class_by e.kept) (class_in g.chain (next_form p l.page e.kept))
        ≡ Give (slot s)
        → slot s ≡ k
    slot_is p rest s e at todo held at_is is = given_lock g ok w j a l who k v m what (slot s)
        (sym is ∙ event_is g ok w j a l who k v m what p rest ((slot s, holds.Slot e) ∷ []) at todo
        held at_is)

    slot_keeps : (s : ℕ) (e f : EntryState) → l.held ≡ (slot s, holds.Slot e) ∷ [] → m.held ≡ []
        → slot s ≡ k → v ≡ holds.Slot f
        → ((F : ℕ → List Tag → ℕ) → Grows F → F s e.order ≤ F s f.order) → Keeps v m
    slot_keeps s e f held after is v_is up F grows =
        let r = ap (held_sum (spot n) (by_order F)) held in
        let t = ap (held_sum (spot n) (by_order F)) after in
        let q : by_order F (spot n k) v ≡ F s f.order =
        (λ i. by_order F (spot n (sym is i)) (v_is i)) in
        let z = up F grows in omega arith

    noted : (s : ℕ) (e f : EntryState) (t : Tag) → f.order ≡ e.order ++ t ∷ []
        → (F : ℕ → List Tag → ℕ) → Grows F → F s e.order ≤ F s f.order
    noted s e f t is F grows = let r = grows s e.order t in let q = ap (F s) is in omega arith

    visit_wrote : VisitEvent g l v m → wrote_told l ≤ wrote_told m
    visit_wrote (visit.passes p rest x e todo at held v_is on) =
        onward_wrote m p rest step.Passing x (passed_page x) at on (omega arith)
    visit_wrote (visit.reserves p rest x e y b todo at held answer v_is m_is) =
        trip_wrote m step.Reserving step.Seen x (with_block x b) at (ap (λ (i : Here). i.at) m_is)
        (ap (λ (i : Here). i.done) m_is) (omega arith)
    visit_wrote (visit.refrains p rest x e y r end todo at held answer is v_is m_is) =
        trip_wrote m step.Reserving step.Quitting x x at (ap (λ (i : Here). i.at) m_is)
        (ap (λ (i : Here). i.done) m_is) (omega arith)
    visit_wrote (visit.quits p rest x e end todo at held bad v_is m_is) =
        let st = stage g ok w j a l who p rest todo _ (Visiting step.Quitting x) held at in
        stops_wrote m p rest step.Quitting x end at m_is (subst (IsQuit g p x) bad st.fails)
    visit_wrote (visit.pins p rest x e o q q' u u' cell todo at held is sw named_u free taken
        is_cell in_cell v_is m_is) =
        trip_wrote m step.Pinning step.Pinned x x at (ap (λ (i : Here). i.at) m_is)
        (ap (λ (i : Here). i.done) m_is) (omega arith)
    visit_wrote (visit.unpins p rest x e o q q' u u' todo at held is sw named_u taken free v_is
        m_is) =
        trip_wrote m step.Unpinning step.Marking x x at (ap (λ (i : Here). i.at) m_is)
        (ap (λ (i : Here). i.done) m_is) (omega arith)
    visit_wrote (visit.marks p rest x e b todo at held block v_is m_is) =
        trip_wrote m step.Marking step.Flying x x at (ap (λ (i : Here). i.at) m_is)
        (ap (λ (i : Here). i.done) m_is) (omega arith)
    visit_wrote (visit.stores p rest x b page d d' todo at held block is write v_is m_is) =
        trip_wrote m step.Storing step.Landing x x at (ap (λ (i : Here). i.at) m_is)
        (ap (λ (i : Here). i.done) m_is) (omega arith)
    visit_wrote (visit.spoils p rest x b d d' fault todo at held block failed v_is m_is) =
        trip_wrote m step.Storing step.Landing x x at (ap (λ (i : Here). i.at) m_is)
        (ap (λ (i : Here). i.done) m_is) (omega arith)
    visit_wrote (visit.frees p rest x e o q q' u frames todo at held is gone named_u home v_is
        m_is) =
        trip_wrote m step.Freeing step.Backing x x at (ap (λ (i : Here). i.at) m_is)
        (ap (λ (i : Here). i.done) m_is) (omega arith)
    visit_wrote (visit.commits p rest x e b y todo at held block v_is m_is) =
        trip_wrote m step.Committing step.Owing x x at (ap (λ (i : Here). i.at) m_is)
        (ap (λ (i : Here). i.done) m_is) (omega arith)
    visit_wrote (visit.pays p rest x e c was todo at held is v_is m_is) =
        trip_wrote m step.Paying step.Putting x x at (ap (λ (i : Here). i.at) m_is)
        (ap (λ (i : Here). i.done) m_is) (omega arith)
    visit_wrote (visit.puts p rest x e b todo at held block v_is on) =
        onward_wrote m p rest step.Putting x (wrote_page x) at on (omega arith)
    visit_wrote (visit.loses p rest x e todo at held v_is m_is) =
        trip_wrote m step.Losing step.Undoing x x at (ap (λ (i : Here). i.at) m_is)
        (ap (λ (i : Here). i.done) m_is) (omega arith)
    visit_wrote (visit.releases p rest x b y todo at held block well v_is on) =
        onward_wrote m p rest step.Releasing x (lost_page x) at on (omega arith)
    visit_wrote (visit.stops p rest x b y end todo at held block bad v_is m_is) =
        let st = stage g ok w j a l who p rest todo _ (Visiting step.Releasing x) held at in
        stops_wrote m p rest step.Releasing x end at m_is (subst (MayQuit g p x) bad st.fails)

    pub keeps_of : Turned v m → Keeps v m
    keeps_of (plain keeps wrote now) = keeps
    keeps_of (visits t) =
        λ F grows. let r = (weighs_of g ok w j a l who v m k what t).orders F in omega arith

    pub wrote_of : Turned v m → wrote_told l ≤ wrote_told m
    wrote_of (plain keeps wrote now) = wrote
    wrote_of (visits t) = visit_wrote t

    -- ---- each giving

    pub turned_of : Event g l v m → Turned v m
    turned_of (event.visits t) = visits t
    turned_of (event.pins p rest e o x x' u u' cell todo at held is sw named_u free outside is_cell
        in_cell lk v_is m_is) =
        same_turned v _ m _ v_is m_is (goes_so _ _ Pinning at tt refl
        (plain_pinned p.op (next_form p (Some (page_in_cell o cell)) e.kept) e.kept)
        (λ F grows. let r = ap (held_sum (spot n) (by_order F)) held in omega arith))
    turned_of (event.unpins p rest e o x x' u u' todo at held is sw named_u outside free lk v_is
        m_is) =
        same_turned v _ m _ v_is m_is (goes_so _ _ Unpinning at tt refl tt
        (λ F grows. let r = ap (held_sum (spot n) (by_order F)) held in omega arith))
    turned_of (event.charges p rest e c x x' cl h need bytes huge todo at held is_form is_class
        within al v_is m_is) =
        same_turned v _ m _ v_is m_is (goes_so _ _ Both at tt refl tt
        (λ F grows. let r = ap (held_sum (spot n) (by_order F)) held in omega arith))
    turned_of (event.limits p rest e c x cl need todo at held is_need past v_is m_is) =
        same_turned v _ m _ v_is m_is (goes_so _ _ Both at tt refl tt
        (λ F grows. let r = ap (held_sum (spot n) (by_order F)) held in omega arith))
    turned_of (event.starves p rest e c x cl todo at held v_is m_is) =
        same_turned v _ m _ v_is m_is (goes_so _ _ Both at tt refl tt
        (λ F grows. let r = ap (held_sum (spot n) (by_order F)) held in omega arith))
    turned_of (event.stows p rest e x cl todo at held well v_is m_is) =
        same_turned v _ m _ v_is m_is (goes_so _ _ Made at tt refl (plain_settle e.kept)
        (λ F grows. let r = ap (held_sum (spot n) (by_order F)) held in omega arith))
    turned_of (event.quits p rest e x cl y todo at held bad v_is m_is) =
        same_turned v _ m _ v_is m_is (goes_so _ _ Made at tt refl (plain_quit l.pin)
        (λ F grows. let r = ap (held_sum (spot n) (by_order F)) held in omega arith))
    turned_of (event.frees p rest e o x x' frames todo at held is fp v_is m_is) =
        same_turned v _ m _ v_is m_is (goes_so _ _ Freeing at tt refl tt
        (λ F grows. let r = ap (held_sum (spot n) (by_order F)) held in omega arith))
    turned_of (event.repays p rest e c todo at held v_is m_is) =
        same_turned v _ m _ v_is m_is (goes_so _ _ Giving at tt refl tt
        (λ F grows. let r = ap (held_sum (spot n) (by_order F)) held in omega arith))
    turned_of (event.fetches p rest e b d d' page todo at held is read is_page v_is m_is) =
        same_turned v _ m _ v_is m_is (goes_so _ _ Fetching at tt refl
        (plain_fetched p.op (next_form p (Some page) e.kept) e.kept)
        (λ F grows. let r = ap (held_sum (spot n) (by_order F)) held in omega arith))
    turned_of (event.misses p rest e b d d' fault todo at held is failed v_is m_is) =
        same_turned v _ m _ v_is m_is (goes_so _ _ Fetching at tt refl tt
        (λ F grows. let r = ap (held_sum (spot n) (by_order F)) held in omega arith))
    turned_of (event.counts p rest e c todo at held v_is m_is) =
        same_turned v _ m _ v_is m_is (goes_so _ _ Counting at tt refl tt
        (λ F grows. let r = ap (held_sum (spot n) (by_order F)) held in omega arith))
    turned_of (event.releases p rest e b x todo at held is v_is m_is) =
        same_turned v _ m _ v_is m_is (goes_so _ _ Releasing at tt refl tt
        (λ F grows. let r = ap (held_sum (spot n) (by_order F)) held in omega arith))
    turned_of (event.moves p rest y x x' u u' budget frames todo at held sh some one v_is m_is) =
        same_turned v _ m _ v_is m_is (goes_so _ _ (Moving y) at tt refl
        (plain_moved frames (with_move y budget))
        (λ F grows. let r = ap (held_sum (spot n) (by_order F)) held in omega arith))
    turned_of (event.sweeps p rest y x todo at held stuck other v_is m_is) =
        same_turned v _ m _ v_is m_is (goes_so _ _ (Moving y) at tt refl tt
        (λ F grows. let r = ap (held_sum (spot n) (by_order F)) held in omega arith))
    turned_of (event.shrinks p rest y c todo at held v_is m_is) =
        same_turned v _ m _ v_is m_is (goes_so _ _ (Shrinking y) at tt refl tt
        (λ F grows. let r = ap (held_sum (spot n) (by_order F)) held in omega arith))
    turned_of (event.refuses p rest c todo at held v_is m_is) =
        same_turned v _ m _ v_is m_is (ends_so _ _ Refusing at tt p (Whole ends.Range) [] rest refl
        (λ F grows. let r = ap (held_sum (spot n) (by_order F)) held in omega arith))
    turned_of (event.closes p rest y x todo at held stuck last v_is m_is) =
        same_turned v _ m _ v_is m_is (ends_so _ _ (Moving y) at tt p
        (Whole (ends.Compacted y.moves y.frames)) [] rest refl
        (λ F grows. let r = ap (held_sum (spot n) (by_order F)) held in omega arith))
    turned_of (event.scans p rest age x e todo op at held other v_is m_is) =
        goes_so v m (Marking x) at tt (ap (λ (i : Here). i.done) m_is)
        (subst NoTrip (sym (ap (λ (i : Here). i.at) m_is)) tt)
        (slot_keeps x.page e (marked g.clock age e) held (ap (λ (i : Here). i.held) m_is)
        (slot_is p rest x.page e (Marking x) todo held at refl) v_is (λ F grows. omega arith))
    turned_of (event.stops p rest age x e todo op at held last v_is m_is) =
        ends_so v m (Marking x) at tt p _ [] rest m_is
        (slot_keeps x.page e (marked g.clock age e) held (ap (λ (i : Here). i.held) m_is)
        (slot_is p rest x.page e (Marking x) todo held at refl) v_is (λ F grows. omega arith))
    turned_of (event.puts p rest e f todo at held notes v_is m_is) =
        ends_so v m Ready at tt p _ _ rest m_is
        (slot_keeps p.page e f held (ap (λ (i : Here). i.held) m_is)
        (slot_is p rest p.page e Ready todo held at refl) v_is (noted p.page e f _ notes.order))
    turned_of (event.reads p rest e f todo at held well notes v_is m_is) =
        ends_so v m Leaving at tt p _ _ rest m_is
        (slot_keeps p.page e f held (ap (λ (i : Here). i.held) m_is)
        (slot_is p rest p.page e Leaving todo held at refl) v_is (noted p.page e f _ notes.order))
    turned_of (event.errs p rest e f x todo at held bad read notes v_is m_is) =
        ends_so v m Missed at tt p _ _ rest m_is
        (slot_keeps p.page e f held (ap (λ (i : Here). i.held) m_is)
        (slot_is p rest p.page e Missed todo held at refl) v_is (noted p.page e f _ notes.order))
    turned_of (event.fails p rest e x todo at held bad v_is m_is) =
        ends_so v m Leaving at tt p _ _ rest m_is
        (slot_keeps p.page e e held (ap (λ (i : Here). i.held) m_is)
        (slot_is p rest p.page e Leaving todo held at refl) v_is (λ F grows. omega arith))
    turned_of (event.leaves p rest e x todo at held bad other v_is m_is) =
        ends_so v m Missed at tt p _ _ rest m_is
        (slot_keeps p.page e e held (ap (λ (i : Here). i.held) m_is)
        (slot_is p rest p.page e Missed todo held at refl) v_is (λ F grows. omega arith))

  -- ---- totals

  module _ (v : DiskHeld) (m : Here) (there : slice_get w.row (spot n k) ≡ Some None)
      (keeps : Keeps v m) where
    pub orders_rise : (h : Here → ℕ) → h m ≡ h l → (F : ℕ → List Tag → ℕ) → Grows F
        → total (spot n) (by_order F) h w
        ≤ total (spot n) (by_order F) h (gone n w a l who k (Some v) m)
    orders_rise h same F grows =
        let r = ok.facts.give (spot n) (by_order F) h w a l k v m who there in
        let s = keeps F grows in omega arith
