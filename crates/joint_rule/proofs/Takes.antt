-- Each taking keeps what the stage says of the actor.
use Rattle.joint_rule.proofs.Arrivals.{arrives, visits}
use Rattle.joint_rule.proofs.Takings.{take_account, take_device, take_map, take_pool}
use Rattle.std.proofs.Common.{◌≡◌, ◌<◌, ◌∷◌, ◌∙◌, ℕ, Bool, true, false, List, [], map, Option, Some, None, refl, sym, ap, subst, arith, inl, inr, length, slice_get}
use Rattle.lock_row.specs.declared.names.Scan.{Scan}
use Rattle.call_history.specs.Parts.{EndsSo, Follows, program}
use Rattle.call_history.specs.declared.part.Part.{Part}
use Rattle.call_history.specs.declared.part.PartEnd.{PartEnd}
use Rattle.joint_rule.proofs.Facts.{Known}
use Rattle.joint_rule.proofs.Places.{IsAccount, IsEntry, account_kind, entry_kind, home_lean}
use Rattle.joint_rule.proofs.Lookups.{none_weight, nothing_shown}
use Rattle.joint_rule.proofs.Pages.{blank_empty, blank_some, form_low, plain_right}
use Rattle.joint_rule.proofs.Stages.{OnDisk, made_locks, made_stage, may_none, old_low, on_disk, settle_locks, settle_stage}
use Rattle.joint_rule.specs.Begins.{Begin, back_at, content, form_at, found_after, ground_of, terms}
use Rattle.joint_rule.specs.Joint.{AtHome, Backs, EntryFits, IsActor, Sound, Stands, Marks}
use Rattle.joint_rule.specs.Stages.{Bears, BlankAt, BlankBy, Changes, FailBy, IsForm, IsNothing, IsObj, IsPartly, IsRight, IsSmall, IsWb, IsWrite, Looks, NoObj, NoneOf, Stage, StageBy, WasBlank, locks_at, locks_by, IsScan, MaySeeOther, IsBack, HasMarks}
use Rattle.joint_rule.specs.Weights.{measure}
use Rattle.lock_row.specs.declared.names.At.{At}
use Rattle.lock_row.specs.declared.names.At.TheVariants.{Away, Backed, Both, Counting, Failing, Fetching, Freeing, Giving, Inside, Leaving, Made, Missed, Old, Owing, Pinned, Pinning, Ready, Refusing, Releasing, Seen, Start, Unpinning, Wanting, Sweeping, Moving, Shrunk, Shrinking, Scanning, Marking, Visiting}
use Rattle.lock_row.specs.declared.names.LockNo.{LockNo}
use Rattle.lock_row.specs.declared.names.Object.{Object}
use Rattle.lock_row.specs.declared.names.Pin.{Pin}
use Rattle.lock_row.specs.declared.names.Plan.TheVariants.{Take}
use Rattle.mem_account.specs.declared.weight.Weight.{Weight}
use Rattle.page_steps.specs.Pages.{new_class, next_by, next_form, page_in}
use Rattle.page_steps.specs.Steps.{DiskHeld, Here, after_take, begun_at, class_by, discard_at, entered_at, entry_in, entry_or, first_class, lock_of, made_at, part_at, plan, plan_at, plan_by, seen_at, settle_at, slot, spot, start_plan, taken_at, took, write_at, first_at, first_lock, first_scan, first_trip}
use Rattle.plain_disk.specs.Ends.{is_single}
use Rattle.slot_entry.specs.Entries.{EntryState, weight_of}
use Rattle.slot_entry.specs.Forms.{Blank, PageForm, class_in, form_weight}
use Rattle.slot_entry.specs.declared.kept.Kept.{Kept}
use Rattle.std.proofs.lemmas.Bool.{or_from}
use Rattle.zr_base.specs.Plain.{has_whole, is_beyond, is_maintenance, is_marking, is_writeback}
use Rattle.zr_base.specs.declared.op.Op.{Op}
use Rattle.zr_base.specs.declared.op.Op.TheVariants.{Compact, Discard, Idle, Read, Write, Writeback}
use Rattle.zr_base.specs.declared.op.Stuff.{Stuff}
use Rattle.lock_row.specs.declared.names.LockNo.TheVariants as lock
use Rattle.lock_row.specs.declared.names.Held.TheVariants as holds
use Rattle.slot_entry.specs.declared.kept.Kept.TheVariants as kept

-- where there is an actor there are some
pub some_actor : (xs : List (List Op)) (a : ℕ) (x : List Op) → slice_get xs a ≡ Some x
    → 0 < length xs
some_actor [] a x e = absurd (cc)
some_actor (y ∷ ys) a x e = omega arith

module _ (g : Begin) (ok : Known g) (p : Part) (fresh : Option Object) (pin : Option Pin) (owed : ℕ)
    (ahead behind : Option Weight) (page : Option (List ℕ)) (fail : Option PartEnd) where
  abbrev n : ℕ
  n = g.given.size

  abbrev Stays : EntryState → At → Type 0
  Stays e at = Stage g p e at fresh pin owed ahead behind page fail

  abbrev Moved : List LockNo → LockNo → EntryState → At → Type 0
  Moved ks k e at = (k ∷ ks ≡ locks_at at p (class_by e.kept)
      (class_in g.chain (next_form p page e.kept))) × Stays e at

  -- a slot is taken
  module _ (e : EntryState) (start : Stays e Start) (x : EntryState) (fit : EntryFits g p.page x)
      (stands : IsForm g.chain (form_at g p.page x.order) x.kept)
      (backs : IsBack g x.kept (back_at g p.page x.order)) (marks : HasMarks g p.page x)
      (begun : is_single n p.op ≡ false) where
    abbrev Goes : At → Type 0
    Goes at = (slot p.page ∷ [] ≡ locks_at at p (class_by x.kept)
        (class_in g.chain (next_form p page x.kept))) × Stays x at

    -- what the actor sees of a page with no object is the page
    is_right : (y : Option (List ℕ)) → NoneOf y → NoObj x.kept
        → page_in y x.kept ≡ content g p.page x.order
    is_right None free no_obj = plain_right g ok p.page x.order x.kept fit.calls no_obj stands
    is_right (Some y) free no_obj = absurd free

    no_blank : (op : Op) → IsWrite op → BlankAt Old op ahead (found_after g p.page x.order).blank
    no_blank (Write start_ count stuff) i = tt
    no_blank (Read start_ count) i = absurd i
    no_blank (Discard start_ count) i = absurd i
    no_blank (Idle age) i = absurd i
    no_blank (Writeback mode) i = absurd i
    no_blank Compact i = absurd i

    -- the page that the piece sees is right
    abbrev IsRightHere : Op → Type 0
    IsRightHere o = IsRight (MaySeeOther g p.page x.order) o p.page (page_in page x.kept)
        (content g p.page x.order)

    made_there : IsWrite p.op → IsRightHere p.op
        → Goes (made_at (next_form p page x.kept) x.kept)
    made_there wr right = (
      made_locks (next_form p page x.kept) x.kept p (class_by x.kept)
          (class_in g.chain (next_form p page x.kept)),
      made_stage g p x fresh pin owed ahead behind page fail
          (may_none x.kept pin start.pins) start.owes stands backs marks
          (no_blank p.op wr) right start.counts.0 start.counts.1 start.fails begun wr start.made
          (next_form p page x.kept) refl x.kept refl,
    )

    leaves : {start_ count : ℕ} → p.op ≡ Read start_ count → NoObj x.kept → Goes Leaving
    leaves is free = (
      refl,
      record {
        kind = subst Looks (sym is) tt;
        made = start.made;
        pins = start.pins;
        owes = start.owes;
        stands = stands;
        backs = backs;
        marks = marks;
        partly = tt;
        right = subst IsRightHere (sym is) (inl (is_right page start.right free));
        counts = start.counts;
        blank = tt;
        fails = subst (λ (o : Op). FailBy g p o fail) (sym is) start.fails;
        begun = begun;
        scans = tt;
        visits = tt;
        compacts = tt;
      },
    )

    sees : Looks p.op → IsObj x.kept → Goes Seen
    sees looks obj = (
      refl,
      record {
        kind = (looks, obj);
        made = start.made;
        pins = start.pins;
        owes = start.owes;
        stands = stands;
        backs = backs;
        marks = marks;
        partly = tt;
        right = start.right;
        counts = start.counts;
        blank = tt;
        fails = start.fails;
        begun = begun;
        scans = tt;
        visits = tt;
        compacts = tt;
      },
    )

    goes_away : Looks p.op → IsWb x.kept → IsPartly p.op p.page → Goes Away
    goes_away looks wb part = (
      refl,
      record {
        kind = (looks, wb);
        made = start.made;
        pins = start.pins;
        owes = start.owes;
        stands = stands;
        backs = backs;
        marks = marks;
        partly = part;
        right = start.right;
        counts = start.counts;
        blank = tt;
        fails = start.fails;
        begun = begun;
        scans = tt;
        visits = tt;
        compacts = tt;
      },
    )

    module _ (start_ count : ℕ) (stuff : Stuff) (is : p.op ≡ Write start_ count stuff) where
      is_write : IsWrite p.op
      is_write = subst IsWrite (sym is) tt

      write_whole : has_whole start_ count p.page ≡ true
          → Goes (made_at (next_form p page x.kept) x.kept)
      write_whole e = made_there is_write (subst IsRightHere (sym is) (inl e))

      write_part : (k : Kept) → x.kept ≡ k → has_whole start_ count p.page ≡ false
          → Goes (part_at (next_form p page x.kept) k)
      write_part kept.Empty e part = subst (λ (k : Kept).
          Goes (made_at (next_form p page x.kept) k)) e
          (made_there is_write (subst IsRightHere (sym is) (inr (inl
          (is_right page start.right (subst NoObj (sym e) tt))))))
      write_part (kept.Same w) e part = subst (λ (k : Kept).
          Goes (made_at (next_form p page x.kept) k)) e
          (made_there is_write (subst IsRightHere (sym is) (inr (inl
          (is_right page start.right (subst NoObj (sym e) tt))))))
      write_part (kept.Obj o) e part = sees (subst Looks (sym is) tt) (subst IsObj (sym e) tt)
      write_part (kept.Wb b) e part = goes_away (subst Looks (sym is) tt) (subst IsWb (sym e) tt)
          (subst (λ (o : Op). IsPartly o p.page) (sym is) part)

      write_by : (b : Bool) → has_whole start_ count p.page ≡ b
          → Goes (write_at b (next_form p page x.kept) x.kept)
      write_by true e = write_whole e
      write_by false e = write_part x.kept refl e

    module _ (start_ count : ℕ) (is : p.op ≡ Read start_ count) where
      read_by : (k : Kept) → x.kept ≡ k → Goes (seen_at k)
      read_by kept.Empty e = leaves is (subst NoObj (sym e) tt)
      read_by (kept.Same w) e = leaves is (subst NoObj (sym e) tt)
      read_by (kept.Obj o) e = sees (subst Looks (sym is) tt) (subst IsObj (sym e) tt)
      read_by (kept.Wb b) e = goes_away (subst Looks (sym is) tt) (subst IsWb (sym e) tt)
          (subst (λ (o : Op). IsPartly o p.page) (sym is) tt)

    module _ (start_ count : ℕ) (is : p.op ≡ Discard start_ count) where
      drops : Changes p.op
      drops = subst Changes (sym is) tt

      blank : next_form p page x.kept ≡ Blank
      blank = ap (λ (o : Op). next_by o p (page_in page x.kept)) is

      bears : Bears g.chain (next_form p page x.kept) fresh
      bears = subst (λ (f : PageForm). Bears g.chain f fresh) (sym blank) start.made

      was_blank : (is : Bool) → (found_after g p.page x.order).blank ≡ is
          → WasBlank p.op is (found_after g p.page x.order).blank
      was_blank b e = subst (λ (o : Op). WasBlank o b (found_after g p.page x.order).blank)
          (sym is) e

      settles : (IsNothing x.kept → ⊥) → Goes (settle_at x.kept)
      settles some = (
        settle_locks x.kept p (class_by x.kept) (class_in g.chain (next_form p page x.kept)),
        settle_stage g p x fresh pin owed ahead behind page fail
            (may_none x.kept pin start.pins) start.owes stands backs marks
            (was_blank false (blank_some g p.page x.order x.kept some stands))
            (subst IsRightHere (sym is) tt) start.counts.0 start.counts.1 start.fails begun drops bears x.kept refl,
      )

      none_by : (y : Option Weight) → NoneOf y → WasBlank p.op true
          (found_after g p.page x.order).blank → BlankBy p.op y (found_after g p.page x.order).blank
      none_by None free b = b
      none_by (Some y) free b = absurd free

      discard_by : (k : Kept) → x.kept ≡ k → Goes (discard_at k)
      discard_by kept.Empty e = (
        refl,
        record {
          kind = (drops, subst NoObj (sym e) tt);
          made = bears;
          pins = start.pins;
          owes = start.owes;
          stands = tt;
          backs = tt;
          marks = tt;
          partly = tt;
          right = subst IsRightHere (sym is) tt;
          counts = record {
            ahead = λ q. none_weight q ahead start.counts.0
                ∙ sym (ap (λ (f : PageForm). measure q (form_weight f)) blank ∙ nothing_shown q);
            behind = λ q. none_weight q behind start.counts.1
                ∙ sym (ap (λ (k : Kept). measure q (weight_of k)) e ∙ nothing_shown q);
            small = subst (λ (f : PageForm). IsSmall (form_weight f)) (sym blank) (omega arith);
          };
          blank = none_by ahead start.counts.0 (was_blank true
              (blank_empty g p.page x.order (subst (IsForm g.chain (form_at g p.page x.order)) e
              stands)));
          fails = start.fails;
          begun = begun;
          scans = tt;
          visits = tt;
          compacts = tt;
        },
      )
      discard_by (kept.Same w) e = subst (λ (k : Kept). Goes (settle_at k)) e
          (settles (subst (λ (k : Kept). IsNothing k → ⊥) (sym e) (λ i. i)))
      discard_by (kept.Obj o) e = subst (λ (k : Kept). Goes (settle_at k)) e
          (settles (subst (λ (k : Kept). IsNothing k → ⊥) (sym e) (λ i. i)))
      discard_by (kept.Wb b) e = subst (λ (k : Kept). Goes (settle_at k)) e
          (settles (subst (λ (k : Kept). IsNothing k → ⊥) (sym e) (λ i. i)))

    on_page : (o : Op) → p.op ≡ o → is_single n o ≡ false
    on_page o is = subst (λ (x : Op). is_single n x ≡ false) is begun

    entered : (o : Op) → p.op ≡ o → Goes (entered_at o p.page (next_form p page x.kept) x.kept)
    entered (Write start_ count stuff) is = write_by start_ count stuff is
        (has_whole start_ count p.page) refl
    entered (Read start_ count) is = read_by start_ count is x.kept refl
    entered (Discard start_ count) is = discard_by start_ count is x.kept refl
    entered (Idle age) is = absurd (let e = on_page (Idle age) is in cc)
    entered (Writeback mode) is = absurd (let e = on_page (Writeback mode) is in cc)
    entered Compact is = absurd (let e = on_page Compact is in cc)

  -- ---- takings

  module _ (e : EntryState) (v : DiskHeld) (k : LockNo) (ks : List LockNo) (disk : OnDisk n p)
      (some : 0 < n) where
    abbrev Taken : LockNo → At → Type 0
    Taken m at = Moved ks m (entry_or v e) at

    -- the slot of a page that may be marked is taken
    scan_take : (y : Scan) → IsScan n y → is_marking p.op ≡ true → Sound g y.page v
        → Stands g y.page v → Backs g y.page v → Marks g y.page v → ks ≡ [] → Stays e Start
        → Taken (slot y.page) (Marking y)
    scan_take y scan marking kind stands backs marks locks s =
        slot_of v (entry_kind g y.page scan.page v kind) stands backs marks where
          slot_of : (u : DiskHeld) → IsEntry u → Stands g y.page u → Backs g y.page u → Marks g y.page u
              → Moved ks (slot y.page) (entry_or u e) (Marking y)
          slot_of (holds.Slot x) i st ba ma = (
            ap (λ (xs : List LockNo). slot y.page ∷ xs) locks,
            record {
              kind = tt;
              made = s.made;
              pins = s.pins;
              owes = s.owes;
              stands = tt;
              backs = tt;
              marks = tt;
              partly = tt;
              right = s.right;
              counts = s.counts;
              blank = tt;
              fails = s.fails;
              begun = marking;
              scans = record { scan = scan; stands = st; backs = ba; marks = ma };
              visits = tt;
              compacts = tt;
            },
          )
          slot_of (holds.Class c) i st ba ma = absurd i
          slot_of (holds.Account c) i st ba ma = absurd i
          slot_of (holds.Blocks c) i st ba ma = absurd i
          slot_of (holds.Device c) i st ba ma = absurd i

    -- what is no request takes its first lock
    first_take : (op : Op) → p.op ≡ op → is_maintenance op ≡ true → Sound g (spot n (first_lock op)) v
        → Stands g (spot n (first_lock op)) v → Backs g (spot n (first_lock op)) v
        → Marks g (spot n (first_lock op)) v
        → ks ≡ [] → Stays e Start → Taken (first_lock op) (first_at op (entry_or v e))
    first_take (Write start count stuff) is a kind stands backs marks locks s = absurd (cc)
    first_take (Read start count) is a kind stands backs marks locks s = absurd (cc)
    first_take (Discard start count) is a kind stands backs marks locks s = absurd (cc)
    first_take (Idle age) is a kind stands backs marks locks s =
        scan_take first_scan (record { page = some; marked = omega arith }) (ap is_marking is) kind
        stands backs marks locks s
    first_take (Writeback mode) is a kind stands backs marks locks s =
        arrives g p fresh pin owed ahead behind page fail e v ks first_trip
        (record { page = some; few = omega arith }) (ap is_writeback is) s.made s.pins s.owes
        s.counts kind stands backs marks locks mode tt s.right s.fails
    first_take Compact is a kind stands backs marks locks s =
        take_pool g p fresh pin owed ahead behind page fail e v ks 0 (Moving first_class) (omega arith) kind
        (ap (λ (xs : List LockNo). lock.Class 0 ∷ xs) locks)
        (record {
          kind = tt;
          made = s.made;
          pins = s.pins;
          owes = s.owes;
          stands = tt;
          backs = tt;
          marks = tt;
          partly = tt;
          right = s.right;
          counts = s.counts;
          blank = tt;
          fails = s.fails;
          begun = is;
          scans = tt;
          visits = tt;
          compacts = record { class = omega arith; frames = (let o = s.owes in omega arith) };
        })

    start_take : (a b : Bool) → is_maintenance p.op ≡ a → is_beyond n p.op ≡ b
        → start_plan a b p ≡ Take k
        → Sound g (spot n (lock_of (start_plan a b p))) v
        → Stands g (spot n (lock_of (start_plan a b p))) v
        → Backs g (spot n (lock_of (start_plan a b p))) v
        → Marks g (spot n (lock_of (start_plan a b p))) v
        → ks ≡ [] → Stays e Start → Taken (lock_of (start_plan a b p))
        (begun_at a b p (next_form p page (entry_or v e).kept) (entry_or v e))
    start_take true b a c what kind stands backs marks locks s =
        first_take p.op refl a kind stands backs marks locks s
    start_take false true a b what kind stands backs marks locks s =
        account v (account_kind g v kind) where
          account : (u : DiskHeld) → IsAccount u → Moved ks lock.Account (entry_or u e) Refusing
          account (holds.Account c) i = (
            ap (λ (xs : List LockNo). lock.Account ∷ xs) locks,
            record {
              kind = tt;
              made = s.made;
              pins = s.pins;
              owes = s.owes;
              stands = tt;
              backs = tt;
              marks = tt;
              partly = tt;
              right = s.right;
              counts = s.counts;
              blank = tt;
              fails = s.fails;
              begun = b;
              scans = tt;
              visits = tt;
              compacts = tt;
            },
          )
          account (holds.Slot c) i = absurd i
          account (holds.Class c) i = absurd i
          account (holds.Blocks c) i = absurd i
          account (holds.Device c) i = absurd i
    start_take false false a b what kind stands backs marks locks s = slot_of v
        (entry_kind g p.page (disk (or_from _ _ a b)).0 v kind) kind stands backs marks where
          slot_of : (u : DiskHeld) → IsEntry u → Sound g p.page u → Stands g p.page u
              → Backs g p.page u → Marks g p.page u → Moved ks (slot p.page) (entry_or u e)
              (entered_at p.op p.page (next_form p page (entry_or u e).kept) (entry_or u e).kept)
          slot_of (holds.Slot x) i so st ba ma =
              let r = entered e s x so st ba ma (or_from _ _ a b) p.op refl in
              (ap (λ (xs : List LockNo). slot p.page ∷ xs) locks ∙ r.0, r.1)
          slot_of (holds.Class c) i so st ba ma = absurd i
          slot_of (holds.Account c) i so st ba ma = absurd i
          slot_of (holds.Blocks c) i so st ba ma = absurd i
          slot_of (holds.Device c) i so st ba ma = absurd i

    abbrev c : ℕ
    c = class_by e.kept

    abbrev d : ℕ
    d = class_in g.chain (next_form p page e.kept)

    at_take : (at : At) → plan_at n at p c d ≡ Take k → Sound g
        (spot n (lock_of (plan_at n at p c d))) v → Stands g
        (spot n (lock_of (plan_at n at p c d))) v → Backs g
        (spot n (lock_of (plan_at n at p c d))) v → Marks g
        (spot n (lock_of (plan_at n at p c d))) v
        → ks ≡ locks_at at p c d → Stays e at → Taken (lock_of (plan_at n at p c d))
        (after_take n at p (next_form p page (entry_or v e).kept) (entry_or v e) fail)
    at_take Start what kind stands backs marks locks s = start_take (is_maintenance p.op)
        (is_beyond n p.op) refl refl what kind stands backs marks locks s
    at_take Seen what kind stands backs marks locks s = take_pool g p fresh pin owed ahead behind page fail e v ks c Pinning
        (old_low g.chain (form_at g p.page e.order) e.kept s.stands) kind
        (ap (λ (xs : List LockNo). lock.Class c ∷ xs) locks)
        (record {
          kind = s.kind;
          made = s.made;
          pins = s.pins;
          owes = s.owes;
          stands = s.stands;
          backs = s.backs;
          marks = s.marks;
          partly = tt;
          right = s.right;
          counts = s.counts;
          blank = s.blank;
          fails = s.fails;
          begun = s.begun;
          scans = tt;
          visits = tt;
          compacts = tt;
        })
    at_take Pinned what kind stands backs marks locks s = take_pool g p fresh pin owed ahead behind page fail e v ks c Unpinning
        (old_low g.chain (form_at g p.page e.order) e.kept s.stands) kind
        (ap (λ (xs : List LockNo). lock.Class c ∷ xs) locks)
        (record {
          kind = s.kind;
          made = s.made;
          pins = s.pins;
          owes = s.owes;
          stands = s.stands;
          backs = s.backs;
          marks = s.marks;
          partly = tt;
          right = s.right;
          counts = s.counts;
          blank = s.blank;
          fails = s.fails;
          begun = s.begun;
          scans = tt;
          visits = tt;
          compacts = tt;
        })
    at_take Away what kind stands backs marks locks s = take_device g p fresh pin owed ahead behind page fail e v ks Fetching kind
        (ap (λ (xs : List LockNo). lock.Device ∷ xs) locks)
        (record {
          kind = s.kind;
          made = s.made;
          pins = s.pins;
          owes = s.owes;
          stands = s.stands;
          backs = s.backs;
          marks = s.marks;
          partly = s.partly;
          right = s.right;
          counts = s.counts;
          blank = s.blank;
          fails = s.fails;
          begun = s.begun;
          scans = tt;
          visits = tt;
          compacts = tt;
        })
    at_take Failing what kind stands backs marks locks s = take_account g p fresh pin owed ahead behind page fail e v ks Counting kind
        (ap (λ (xs : List LockNo). lock.Account ∷ xs) locks)
        (record {
          kind = s.kind;
          made = s.made;
          pins = s.pins;
          owes = s.owes;
          stands = s.stands;
          backs = s.backs;
          marks = s.marks;
          partly = tt;
          right = s.right;
          counts = s.counts;
          blank = s.blank;
          fails = s.fails;
          begun = s.begun;
          scans = tt;
          visits = tt;
          compacts = tt;
        })
    at_take Wanting what kind stands backs marks locks s = take_pool g p fresh pin owed ahead behind page fail e v ks d Inside
        (form_low g.chain (next_form p page e.kept)) kind
        (ap (λ (xs : List LockNo). lock.Class d ∷ xs) locks)
        (record {
          kind = s.kind;
          made = s.made;
          pins = s.pins;
          owes = s.owes;
          stands = s.stands;
          backs = s.backs;
          marks = s.marks;
          partly = tt;
          right = s.right;
          counts = s.counts;
          blank = s.blank;
          fails = s.fails;
          begun = s.begun;
          scans = tt;
          visits = tt;
          compacts = tt;
        })
    at_take Inside what kind stands backs marks locks s = take_account g p fresh pin owed ahead behind page fail e v ks Both kind
        (ap (λ (xs : List LockNo). lock.Account ∷ xs) locks)
        (record {
          kind = s.kind;
          made = s.made;
          pins = s.pins;
          owes = s.owes;
          stands = s.stands;
          backs = s.backs;
          marks = s.marks;
          partly = tt;
          right = s.right;
          counts = s.counts;
          blank = s.blank;
          fails = s.fails;
          begun = s.begun;
          scans = tt;
          visits = tt;
          compacts = tt;
        })
    at_take Old what kind stands backs marks locks s = take_pool g p fresh pin owed ahead behind page fail e v ks c Freeing
        (old_low g.chain (form_at g p.page e.order) e.kept s.stands) kind
        (ap (λ (xs : List LockNo). lock.Class c ∷ xs) locks)
        (record {
          kind = s.kind;
          made = s.made;
          pins = s.pins;
          owes = s.owes;
          stands = s.stands;
          backs = s.backs;
          marks = s.marks;
          partly = tt;
          right = s.right;
          counts = s.counts;
          blank = s.blank;
          fails = s.fails;
          begun = s.begun;
          scans = tt;
          visits = tt;
          compacts = tt;
        })
    at_take Backed what kind stands backs marks locks s = take_map g p fresh pin owed ahead behind page fail e v ks Releasing kind
        (ap (λ (xs : List LockNo). lock.Blocks ∷ xs) locks)
        (record {
          kind = s.kind;
          made = s.made;
          pins = s.pins;
          owes = s.owes;
          stands = s.stands;
          backs = s.backs;
          marks = s.marks;
          partly = tt;
          right = s.right;
          counts = s.counts;
          blank = s.blank;
          fails = s.fails;
          begun = s.begun;
          scans = tt;
          visits = tt;
          compacts = tt;
        })
    at_take Owing what kind stands backs marks locks s = take_account g p fresh pin owed ahead behind page fail e v ks Giving kind
        (ap (λ (xs : List LockNo). lock.Account ∷ xs) locks)
        (record {
          kind = s.kind;
          made = s.made;
          pins = s.pins;
          owes = s.owes;
          stands = s.stands;
          backs = s.backs;
          marks = s.marks;
          partly = tt;
          right = s.right;
          counts = s.counts;
          blank = s.blank;
          fails = s.fails;
          begun = s.begun;
          scans = tt;
          visits = tt;
          compacts = tt;
        })
    at_take (Scanning x) what kind stands backs marks locks s =
        scan_take x s.scans s.begun kind stands backs marks locks (record {
          kind = tt;
          made = s.made;
          pins = s.pins;
          owes = s.owes;
          stands = tt;
          backs = tt;
          marks = tt;
          partly = tt;
          right = s.right;
          counts = s.counts;
          blank = tt;
          fails = s.fails;
          begun = tt;
          scans = tt;
          visits = tt;
          compacts = tt;
        })
    at_take (Visiting t x) what kind stands backs marks locks s =
        visits g p fresh pin owed ahead behind page fail e v ks k t x what kind stands backs marks
        locks s
    at_take (Sweeping x) what kind stands backs marks locks s =
        take_pool g p fresh pin owed ahead behind page fail e v ks x.class (Moving x) s.compacts.class kind
        (ap (λ (xs : List LockNo). lock.Class x.class ∷ xs) locks)
        (record {
          kind = tt;
          made = s.made;
          pins = s.pins;
          owes = s.owes;
          stands = tt;
          backs = tt;
          marks = tt;
          partly = tt;
          right = s.right;
          counts = s.counts;
          blank = tt;
          fails = s.fails;
          begun = s.begun;
          scans = tt;
          visits = tt;
          compacts = s.compacts;
        })
    at_take (Shrunk x) what kind stands backs marks locks s = take_account g p fresh pin owed ahead behind page fail e v ks (Shrinking x) kind
        (ap (λ (xs : List LockNo). lock.Account ∷ xs) locks)
        (record {
          kind = tt;
          made = s.made;
          pins = s.pins;
          owes = s.owes;
          stands = tt;
          backs = tt;
          marks = tt;
          partly = tt;
          right = s.right;
          counts = s.counts;
          blank = tt;
          fails = s.fails;
          begun = s.begun;
          scans = tt;
          visits = tt;
          compacts = s.compacts;
        })
    at_take Refusing what kind stands backs marks locks s = absurd (cc)
    at_take Pinning what kind stands backs marks locks s = absurd (cc)
    at_take Unpinning what kind stands backs marks locks s = absurd (cc)
    at_take Leaving what kind stands backs marks locks s = absurd (cc)
    at_take Fetching what kind stands backs marks locks s = absurd (cc)
    at_take Counting what kind stands backs marks locks s = absurd (cc)
    at_take Missed what kind stands backs marks locks s = absurd (cc)
    at_take Both what kind stands backs marks locks s = absurd (cc)
    at_take Made what kind stands backs marks locks s = absurd (cc)
    at_take Freeing what kind stands backs marks locks s = absurd (cc)
    at_take Releasing what kind stands backs marks locks s = absurd (cc)
    at_take Giving what kind stands backs marks locks s = absurd (cc)
    at_take Ready what kind stands backs marks locks s = absurd (cc)
    at_take (Marking x) what kind stands backs marks locks s = absurd (cc)
    at_take (Moving x) what kind stands backs marks locks s = absurd (cc)
    at_take (Shrinking x) what kind stands backs marks locks s = absurd (cc)

module _ (g : Begin) (ok : Known g) where
  by_take : (l : Here) (v : DiskHeld) (k : LockNo) (ps : List Part) (e : EntryState)
      (ks : List LockNo) → 0 < g.given.size
      → ((p : Part) (rest : List Part) → ps ≡ p ∷ rest → OnDisk g.given.size p)
      → plan_by g.given.size ps l.at (class_by e.kept) (new_class g.chain ps l.page e.kept) ≡ Take k
      → Sound g (spot g.given.size (lock_of (plan_by g.given.size ps l.at (class_by e.kept)
      (new_class g.chain ps l.page e.kept)))) v
      → Stands g (spot g.given.size (lock_of (plan_by g.given.size ps l.at (class_by e.kept)
      (new_class g.chain ps l.page e.kept)))) v
      → Backs g (spot g.given.size (lock_of (plan_by g.given.size ps l.at (class_by e.kept)
      (new_class g.chain ps l.page e.kept)))) v
      → Marks g (spot g.given.size (lock_of (plan_by g.given.size ps l.at (class_by e.kept)
      (new_class g.chain ps l.page e.kept)))) v
      → ks ≡ locks_by ps l.at (class_by e.kept) (new_class g.chain ps l.page e.kept)
      → StageBy g ps e l.at l.fresh l.pin l.owed l.ahead l.behind l.page l.fail
      → (lock_of (plan_by g.given.size ps l.at (class_by e.kept)
      (new_class g.chain ps l.page e.kept)) ∷ ks ≡ locks_by ps
      (taken_at g.given.size ps l.at l.page (entry_or v e) l.fail) (class_by (entry_or v e).kept)
      (new_class g.chain ps l.page (entry_or v e).kept))
      × StageBy g ps (entry_or v e) (taken_at g.given.size ps l.at l.page (entry_or v e) l.fail)
      l.fresh l.pin l.owed l.ahead l.behind l.page l.fail
  by_take l v k [] e ks some disk what kind stands backs marks locks s = absurd (cc)
  by_take l v k (p ∷ ps) e ks some disk what kind stands backs marks locks s =
      at_take g ok p l.fresh l.pin l.owed l.ahead l.behind l.page l.fail e v k ks
      (disk p ps refl) some l.at what kind stands backs marks locks s

  pub fits_take : (a : ℕ) (l : Here) (k : LockNo) (v : DiskHeld) → plan (terms g) l ≡ Take k
      → IsActor g a l → AtHome g (spot g.given.size k) v → IsActor g a (took (terms g) l v)
  fits_take a l k v what f home =
      let q : k ≡ lock_of (plan (terms g) l) = ap lock_of (sym what) in
      let kind = subst (λ (m : LockNo). Sound g (spot g.given.size m) v) q home.sound in
      let stands = subst (λ (m : LockNo). Stands g (spot g.given.size m) v) q home.stands in
      let backs = subst (λ (m : LockNo). Backs g (spot g.given.size m) v) q home.backs in
      let marks = subst (λ (m : LockNo). Marks g (spot g.given.size m) v) q home.marks in
      let t = by_take l v k l.todo (entry_in l.held) (map (λ (x : LockNo × DiskHeld). x.0) l.held)
      (ok.proper.some (some_actor g.given.actors a f.ops f.named))
      (λ p rest is. on_disk (EndsSo (ground_of g)) g.given.size g.given.backed f.ops l.done p rest
      (subst (Follows (EndsSo (ground_of g)) (program g.given.size g.given.backed 0 f.ops) l.done) is
      f.follows)) what kind stands backs marks f.locks f.stage in
      record {
        who = f.who;
        ops = f.ops;
        named = f.named;
        follows = f.follows;
        locks = t.0;
        sound = (kind, f.sound);
        stage = t.1;
        lean = let x = home_lean g (spot g.given.size (lock_of (plan (terms g) l))) v stands in
            let y = f.lean in omega arith;
      }
