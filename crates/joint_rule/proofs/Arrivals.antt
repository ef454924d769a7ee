-- Each taking of a writeback keeps what its step says.
use Rattle.std.proofs.Common.{◌≡◌, ◌∷◌, ℕ, Bool, true, false, is_none, is_some, if◌then◌else◌, List, [], Option, Some, None, refl, sym, ap, subst}
use Rattle.call_history.specs.declared.part.Part.{Part}
use Rattle.call_history.specs.declared.part.PartEnd.{PartEnd}
use Rattle.joint_rule.proofs.Places.{IsEntry, entry_kind}
use Rattle.joint_rule.proofs.Stages.{old_low}
use Rattle.joint_rule.proofs.Takings.{take_account, take_device, take_map, take_pool}
use Rattle.joint_rule.specs.Begins.{Begin, form_at}
use Rattle.joint_rule.specs.Joint.{Backs, Marks, Sound, Stands}
use Rattle.joint_rule.specs.Stages.{IsObj, IsTrip, IsUnmarked, IsVisiting, NoneOf, OweBy, QuitAt, Stage, VisitCount, VisitPin, VisitsPage, is_owing, locks_at, visit_locks}
use Rattle.lock_row.specs.declared.names.At.{At}
use Rattle.lock_row.specs.declared.names.At.TheVariants.{Visiting}
use Rattle.lock_row.specs.declared.names.LockNo.{LockNo}
use Rattle.lock_row.specs.declared.names.Object.{Object}
use Rattle.lock_row.specs.declared.names.Pin.{Pin}
use Rattle.lock_row.specs.declared.names.Plan.TheVariants.{Take}
use Rattle.lock_row.specs.declared.names.Step.{Step}
use Rattle.lock_row.specs.declared.names.Step.TheVariants as step
use Rattle.lock_row.specs.declared.names.Trip.{Trip}
use Rattle.mem_account.specs.declared.weight.Weight.{Weight}
use Rattle.page_steps.specs.Pages.{next_form}
use Rattle.page_steps.specs.Steps.{DiskHeld, arrived_at, class_by, entry_or, is_mark_of, landed_at, lock_of, mode_of, slot, spot, visit_plan, visited_at}
use Rattle.slot_entry.specs.Entries.{EntryState, is_eligible, is_meant, is_obj}
use Rattle.slot_entry.specs.Forms.{class_in}
use Rattle.slot_entry.specs.declared.kept.Kept.{Kept}
use Rattle.std.proofs.lemmas.Bool.{and_parts}
use Rattle.zr_base.specs.Plain.{is_writeback}
use Rattle.zr_base.specs.declared.op.Mode.{Mode}
use Rattle.lock_row.specs.declared.names.LockNo.TheVariants as lock
use Rattle.lock_row.specs.declared.names.Held.TheVariants as holds
use Rattle.slot_entry.specs.declared.kept.Kept.TheVariants as kept

pub obj_is : (k : Kept) → is_obj k ≡ true → IsObj k
obj_is kept.Empty e = absurd (cc)
obj_is (kept.Same w) e = absurd (cc)
obj_is (kept.Obj o) e = tt
obj_is (kept.Wb b) e = absurd (cc)

none_is : {X : Type 0} (x : Option X) → is_none x ≡ true → NoneOf x
none_is None e = tt
none_is (Some x) e = absurd (cc)

-- a mark stands
pub some_mark : (b u : Option ℕ) → is_mark_of b u ≡ true → is_some u ≡ true
some_mark None u e = absurd (cc)
some_mark (Some b) None e = absurd (cc)
some_mark (Some b) (Some c) e = refl

module _ (g : Begin) (p : Part) (fresh : Option Object) (pin : Option Pin) (owed : ℕ)
    (ahead behind : Option Weight) (page : Option (List ℕ)) (fail : Option PartEnd) where
  -- what the parts of an actor at a step say is its stage
  pub visit_stage : (y : EntryState) (s : Step) (x : Trip) → NoneOf fresh → VisitPin s y.kept pin
      → OweBy (is_owing s) g.chain owed → VisitCount s ahead behind y.kept → QuitAt g p s x fail
      → is_writeback p.op ≡ true → IsVisiting g s x y page fail
      → Stage g p y (Visiting s x) fresh pin owed ahead behind page fail
  visit_stage y s x made pins owes counts fails begun visits = record {
    kind = tt;
    made = made;
    pins = pins;
    owes = owes;
    stands = tt;
    backs = tt;
    marks = tt;
    partly = tt;
    right = tt;
    counts = counts;
    blank = tt;
    fails = fails;
    begun = begun;
    scans = tt;
    visits = visits;
    compacts = tt;
  }

  module _ (e : EntryState) (v : DiskHeld) (ks : List LockNo) where
    abbrev n : ℕ
    n = g.given.size

    abbrev c : ℕ
    c = class_by e.kept

    abbrev Moved : LockNo → EntryState → At → Type 0
    Moved k y at = (k ∷ ks ≡ locks_at at p (class_by y.kept)
        (class_in g.chain (next_form p page y.kept)))
        × Stage g p y at fresh pin owed ahead behind page fail

    abbrev Taken : LockNo → At → Type 0
    Taken k at = Moved k (entry_or v e) at

    -- the slot of a page is taken
    module _ (x : Trip) (trip : IsTrip n x) (begun : is_writeback p.op ≡ true)
        (made : NoneOf fresh) (pins : NoneOf pin) (owes : owed ≡ 0)
        (counts : NoneOf ahead × NoneOf behind) (kind : Sound g x.page v)
        (stands : Stands g x.page v) (backs : Backs g x.page v) (marks : Marks g x.page v)
        (locks : ks ≡ []) where
      -- it is an entry, of which this is shown
      by_entry : (at : EntryState → At)
          → ((y : EntryState) → VisitsPage g x y → Moved (slot x.page) y (at y))
          → Taken (slot x.page) (at (entry_or v e))
      by_entry at goes = slot_of v (entry_kind g x.page trip.page v kind) stands backs marks where
        slot_of : (u : DiskHeld) → IsEntry u → Stands g x.page u → Backs g x.page u
            → Marks g x.page u → Moved (slot x.page) (entry_or u e) (at (entry_or u e))
        slot_of (holds.Slot y) i st ba ma =
            goes y (record { stands = st; backs = ba; marks = ma })
        slot_of (holds.Class y) i st ba ma = absurd i
        slot_of (holds.Account y) i st ba ma = absurd i
        slot_of (holds.Blocks y) i st ba ma = absurd i
        slot_of (holds.Device y) i st ba ma = absurd i

      slot_locks : slot x.page ∷ ks ≡ slot x.page ∷ []
      slot_locks = ap (λ (xs : List LockNo). slot x.page ∷ xs) locks

      pub arrives : (mode : Mode) → NoneOf x.block → NoneOf page → NoneOf fail
          → Taken (slot x.page) (arrived_at (is_eligible mode (entry_or v e)) x)
      arrives mode none free well = by_entry (λ y. arrived_at (is_eligible mode y) x)
          (λ y here. by_meant y here (is_eligible mode y) refl) where
            by_meant : (y : EntryState) → VisitsPage g x y → (b : Bool) → is_eligible mode y ≡ b
                → Moved (slot x.page) y (arrived_at b x)
            by_meant y here true on =
                let a = and_parts (is_obj y.kept) _ on in
                let b = and_parts (is_none y.under) (is_meant mode y.kept y.idle) a.1 in (
                  slot_locks,
                  visit_stage y step.Asking x made pins owes counts well begun (record {
                    trip = trip;
                    step = (
                      record {
                        page = here;
                        object = obj_is y.kept a.0;
                        clear = none_is y.under b.0;
                      },
                      none,
                      free,
                    );
                  }),
                )
            by_meant y here false off = (
              slot_locks,
              visit_stage y step.Passing x made pins owes counts well begun (record {
                trip = trip;
                step = (here, none, free);
              }),
            )

      pub lands : IsVisiting g step.Landing x e page fail → QuitAt g p step.Landing x fail
          → Taken (slot x.page) (landed_at fail x (entry_or v e))
      lands is fails = by_fail fail refl where
        lost : (y : EntryState) → VisitsPage g x y → IsUnmarked fail x.block y.under
            → Moved (slot x.page) y (Visiting step.Losing x)
        lost y here gone = (
          slot_locks,
          visit_stage y step.Losing x made pins owes counts fails begun (record {
            trip = trip;
            step = (record { page = here; gone = gone }, is.step.0, is.step.1);
          }),
        )

        by_mark : (y : EntryState) → fail ≡ None → VisitsPage g x y → (b : Bool)
            → is_mark_of x.block y.under ≡ b
            → Moved (slot x.page) y (if b then Visiting step.Won x else Visiting step.Losing x)
        by_mark y well here true on = (
          slot_locks,
          visit_stage y step.Won x made pins owes counts
              (subst NoneOf (sym well) tt) begun (record {
                trip = trip;
                step = (
                  record {
                    page = here;
                    object = obj_is y.kept
                        (here.marks.under_one (some_mark x.block y.under on));
                    mark = on;
                  },
                  is.step.0,
                  is.step.1,
                );
              }),
        )
        by_mark y well here false off = lost y here
            (subst (λ (f : Option PartEnd). IsUnmarked f x.block y.under) (sym well) off)

        by_fail : (f : Option PartEnd) → fail ≡ f
            → Taken (slot x.page) (landed_at f x (entry_or v e))
        by_fail None well = by_entry (λ y. landed_at None x y)
            (λ y here. by_mark y well here (is_mark_of x.block y.under) refl)
        by_fail (Some end) bad = by_entry (λ y. landed_at (Some end) x y)
            (λ y here. lost y here
            (subst (λ (f : Option PartEnd). IsUnmarked f x.block y.under) (sym bad) tt))

    pub visits : (k : LockNo) (s : Step) (x : Trip) → visit_plan s x c ≡ Take k
        → Sound g (spot n (lock_of (visit_plan s x c))) v
        → Stands g (spot n (lock_of (visit_plan s x c))) v
        → Backs g (spot n (lock_of (visit_plan s x c))) v
        → Marks g (spot n (lock_of (visit_plan s x c))) v → ks ≡ visit_locks s x c
        → Stage g p e (Visiting s x) fresh pin owed ahead behind page fail
        → Taken (lock_of (visit_plan s x c)) (visited_at s x p.op (entry_or v e) fail)
    visits k step.Arriving x what kind stands backs marks locks s =
        arrives x s.visits.trip s.begun s.made s.pins s.owes s.counts kind stands backs marks locks
        (mode_of p.op) s.visits.step.0 s.visits.step.1 s.fails
    visits k step.Landing x what kind stands backs marks locks s =
        lands x s.visits.trip s.begun s.made s.pins s.owes s.counts kind stands backs marks locks
        s.visits s.fails
    visits k step.Asking x what kind stands backs marks locks s =
        take_map g p fresh pin owed ahead behind page fail e v ks (Visiting step.Reserving x) kind
        (ap (λ (xs : List LockNo). lock.Blocks ∷ xs) locks)
        (visit_stage e step.Reserving x s.made s.pins s.owes s.counts s.fails s.begun
        (record { trip = s.visits.trip; step = s.visits.step }))
    visits k step.Seen x what kind stands backs marks locks s =
        take_pool g p fresh pin owed ahead behind page fail e v ks c (Visiting step.Pinning x)
        (old_low g.chain (form_at g x.page e.order) e.kept s.visits.step.0.page.stands) kind
        (ap (λ (xs : List LockNo). lock.Class c ∷ xs) locks)
        (visit_stage e step.Pinning x s.made s.pins s.owes s.counts s.fails s.begun
        (record { trip = s.visits.trip; step = s.visits.step }))
    visits k step.Pinned x what kind stands backs marks locks s =
        take_pool g p fresh pin owed ahead behind page fail e v ks c (Visiting step.Unpinning x)
        (old_low g.chain (form_at g x.page e.order) e.kept s.visits.step.0.page.stands) kind
        (ap (λ (xs : List LockNo). lock.Class c ∷ xs) locks)
        (visit_stage e step.Unpinning x s.made s.pins s.owes s.counts s.fails s.begun
        (record { trip = s.visits.trip; step = s.visits.step }))
    visits k step.Flying x what kind stands backs marks locks s =
        take_device g p fresh pin owed ahead behind page fail e v ks (Visiting step.Storing x) kind
        (ap (λ (xs : List LockNo). lock.Device ∷ xs) locks)
        (visit_stage e step.Storing x s.made s.pins s.owes s.counts s.fails s.begun
        (record { trip = s.visits.trip; step = s.visits.step }))
    visits k step.Won x what kind stands backs marks locks s =
        take_pool g p fresh pin owed ahead behind page fail e v ks c (Visiting step.Freeing x)
        (old_low g.chain (form_at g x.page e.order) e.kept s.visits.step.0.page.stands) kind
        (ap (λ (xs : List LockNo). lock.Class c ∷ xs) locks)
        (visit_stage e step.Freeing x s.made s.pins s.owes s.counts s.fails s.begun
        (record { trip = s.visits.trip; step = s.visits.step }))
    visits k step.Backing x what kind stands backs marks locks s =
        take_map g p fresh pin owed ahead behind page fail e v ks (Visiting step.Committing x) kind
        (ap (λ (xs : List LockNo). lock.Blocks ∷ xs) locks)
        (visit_stage e step.Committing x s.made s.pins s.owes s.counts s.fails s.begun
        (record { trip = s.visits.trip; step = s.visits.step }))
    visits k step.Owing x what kind stands backs marks locks s =
        take_account g p fresh pin owed ahead behind page fail e v ks (Visiting step.Paying x) kind
        (ap (λ (xs : List LockNo). lock.Account ∷ xs) locks)
        (visit_stage e step.Paying x s.made s.pins s.owes s.counts s.fails s.begun
        (record { trip = s.visits.trip; step = s.visits.step }))
    visits k step.Undoing x what kind stands backs marks locks s =
        take_map g p fresh pin owed ahead behind page fail e v ks (Visiting step.Releasing x) kind
        (ap (λ (xs : List LockNo). lock.Blocks ∷ xs) locks)
        (visit_stage e step.Releasing x s.made s.pins s.owes s.counts s.fails s.begun
        (record { trip = s.visits.trip; step = s.visits.step }))
    visits k s x what kind stands backs marks locks t = absurd (cc)
