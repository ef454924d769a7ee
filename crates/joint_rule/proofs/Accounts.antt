-- What each giving does where the account counts a page or a failure of the device.
use Rattle.joint_rule.proofs.Trips.{quiet_storage}
use Rattle.std.proofs.Common.{◌≡◌, ◌+◌, ◌≤◌, ◌∷◌, ℕ, List, [], Some, slice_get, refl, ap, arith, inl}
use Rattle.call_history.specs.declared.part.Part.{Part}
use Rattle.joint_rule.proofs.Balances.{fails_count, fails_fixed, fails_most, fails_pages, settled_count, settled_fixed, settled_most, settled_pages}
use Rattle.joint_rule.proofs.Blocks.{apart}
use Rattle.joint_rule.proofs.Facts.{Known}
use Rattle.joint_rule.proofs.Gifts.{Gift, all, fit, goes_on, next_small, old_is, stage}
use Rattle.joint_rule.proofs.Lookups.{can_repay, has_counted, none_weight}
use Rattle.joint_rule.specs.Begins.{Begin}
use Rattle.joint_rule.specs.Joint.{Joint}
use Rattle.joint_rule.specs.Stages.{Stage}
use Rattle.joint_rule.specs.Weights.{Count, at_place, chains, claims, counter, counters, each_one, ever_at, fixed, measure, mosts, nothing, outs, pages, shown, stored}
use Rattle.lock_row.specs.Totals.{held_sum}
use Rattle.lock_row.specs.declared.names.At.TheVariants.{Counting, Missed, Giving, Ready}
use Rattle.lock_row.specs.declared.names.State.{State}
use Rattle.mem_account.specs.Counters.{Counters}
use Rattle.page_steps.specs.Givings.{fails_by, old_weight, settled}
use Rattle.page_steps.specs.Pages.{next_form}
use Rattle.page_steps.specs.Steps.{DiskHeld, Here, on, slot, spot}
use Rattle.slot_entry.specs.Entries.{EntryState, weight_of}
use Rattle.slot_entry.specs.Forms.{PageForm, form_weight}
use Rattle.lock_row.specs.declared.names.LockNo.TheVariants as lock
use Rattle.lock_row.specs.declared.names.Held.TheVariants as holds

module _ (g : Begin) (ok : Known g) (w : State DiskHeld) (j : Joint g w) (a : ℕ) (l : Here)
    (who : slice_get w.locals a ≡ Some l) (p : Part) (rest : List Part)
    (todo : l.todo ≡ p ∷ rest) where
  abbrev n : ℕ
  n = g.given.size

  module _ (e : EntryState) (c : Counters) (at : l.at ≡ Giving)
      (held : l.held ≡ (lock.Account, holds.Account c) ∷ (slot p.page, holds.Slot e) ∷ []) where
    sg : Stage g p e Giving l.fresh l.pin l.owed l.ahead l.behind l.page l.fail
    sg = stage g ok w j a l who p rest todo _ Giving held at

    abbrev new : PageForm
    new = next_form p l.page e.kept

    abbrev now : Counters
    now = settled p.op l.owed (old_weight l.ahead e.kept) (form_weight new) c

    can : l.owed ≤ c.pages
    can = can_repay g w j a l who c ((slot p.page, holds.Slot e) ∷ []) held refl

    known : (i : Count) → measure i (old_weight l.ahead e.kept) ≤ counter i c
    known i =
        let r = has_counted g w j a l who c ((slot p.page, holds.Slot e) ∷ []) held
        (λ q. refl) sg.counts.1 i in
        let x = ap (held_sum (spot n) (shown i)) held in
        let y = old_is e.kept l.ahead sg.counts.0 i in omega arith

    repaid_stage : Stage g p e Ready l.fresh l.pin 0 (Some (form_weight new))
        (Some (weight_of e.kept)) l.page l.fail
    repaid_stage = record {
      kind = sg.kind;
      made = sg.made;
      pins = sg.pins;
      owes = refl;
      stands = tt;
      backs = tt;
      marks = tt;
      partly = tt;
      right = sg.right;
      counts = record {
        ahead = λ q. refl;
        behind = λ q. refl;
        small = next_small g ok w j a l who p rest todo e sg.kind.0 sg.right;
      };
      blank = sg.blank;
      fails = sg.fails;
      begun = sg.begun;
      scans = tt;
      visits = tt;
      compacts = tt;
    }

    pub give_repays : Gift g w a l lock.Account (holds.Account now)
        (on l Ready ((slot p.page, holds.Slot e) ∷ []) l.fresh l.pin 0 (Some (form_weight new))
        (Some (weight_of e.kept)) l.page l.fail)
    give_repays = record {
      home = record { sound = refl; stands = tt; backs = tt; marks = tt };
      fits = goes_on g ok w j a l who p rest todo Ready
          ((slot p.page, holds.Slot e) ∷ []) l.fresh l.pin 0 (Some (form_weight new))
          (Some (weight_of e.kept)) l.page l.fail refl (all g ok w j a l who p rest todo _ Giving
          held at).1 repaid_stage (let lr = ap (held_sum (spot n) (claims g each_one)) held in
          let lx = ap (held_sum (spot n) (ever_at g)) held in
          let lz = (fit g ok w j a l who p rest todo).lean in omega arith);
      alone = λ i. let r = ap (held_sum (spot n) (at_place i)) held in omega arith;
      owners = λ f. let r = ap (held_sum (spot n) (claims g f)) held in
          let x = ap (held_sum (spot n) (stored f)) held in omega arith;
      storage = quiet_storage g w a l _ _ _ j who Giving at tt tt
          (apart g a l _ _ _ (λ f z y. let r = ap (held_sum (spot n) f) held in
          let s = y (n + 255) c in let t = y (n + 255) now in omega arith));
      pins = λ f. let r = ap (held_sum (spot n) (outs f)) held in
          let x = ap (held_sum (spot n) nothing) held in omega arith;
      frames = let r = ap (held_sum (spot n) pages) held in
          let x = ap (held_sum (spot n) chains) held in let s = can in
          let y = settled_pages p.op l.owed (old_weight l.ahead e.kept) (form_weight new) c in
          omega arith;
      counts = λ i. let r = ap (held_sum (spot n) (counters i)) held in
          let x = ap (held_sum (spot n) (shown i)) held in
          let s = settled_count p.op l.owed (old_weight l.ahead e.kept) (form_weight new) c i
          (known i) in let y = old_is e.kept l.ahead sg.counts.0 i in
          let z = none_weight i l.behind sg.counts.1 in omega arith;
      stays = λ y. let r = ap (held_sum (spot n) (fixed y)) held in
          let z = settled_fixed p.op l.owed (old_weight l.ahead e.kept) (form_weight new) c y in
          omega arith;
      rises = let r = ap (held_sum (spot n) (ever_at g)) held in omega arith;
      most = inl (
        (let r = ap (held_sum (spot n) mosts) held in
            let z = settled_most p.op l.owed (old_weight l.ahead e.kept) (form_weight new) c in
            omega arith),
        (let r = ap (held_sum (spot n) pages) held in
            let y = settled_pages p.op l.owed (old_weight l.ahead e.kept) (form_weight new) c in
            omega arith),
      );
    }

  -- ---- a failure of the device

  module _ (e : EntryState) (c : Counters) (at : l.at ≡ Counting)
      (held : l.held ≡ (lock.Account, holds.Account c) ∷ (slot p.page, holds.Slot e) ∷ []) where
    sc : Stage g p e Counting l.fresh l.pin l.owed l.ahead l.behind l.page l.fail
    sc = stage g ok w j a l who p rest todo _ Counting held at

    pub give_counts : Gift g w a l lock.Account (holds.Account (fails_by p.op c))
        (on l Missed ((slot p.page, holds.Slot e) ∷ []) l.fresh l.pin l.owed l.ahead l.behind l.page
        l.fail)
    give_counts = record {
      home = record { sound = refl; stands = tt; backs = tt; marks = tt };
      fits = goes_on g ok w j a l who p rest todo Missed ((slot p.page, holds.Slot e) ∷ []) l.fresh
          l.pin l.owed l.ahead l.behind l.page l.fail refl
          (all g ok w j a l who p rest todo _ Counting held at).1
          (record {
            kind = sc.kind;
            made = sc.made;
            pins = sc.pins;
            owes = sc.owes;
            stands = sc.stands;
            backs = sc.backs;
            marks = sc.marks;
            partly = tt;
            right = sc.right;
            counts = sc.counts;
            blank = tt;
            fails = sc.fails;
            begun = sc.begun;
            scans = tt;
            visits = tt;
            compacts = tt;
          }) (let lr = ap (held_sum (spot n) (claims g each_one)) held in
          let lx = ap (held_sum (spot n) (ever_at g)) held in
          let lz = (fit g ok w j a l who p rest todo).lean in omega arith);
      alone = λ i. let r = ap (held_sum (spot n) (at_place i)) held in omega arith;
      owners = λ f. let r = ap (held_sum (spot n) (claims g f)) held in
          let x = ap (held_sum (spot n) (stored f)) held in omega arith;
      storage = quiet_storage g w a l _ _ _ j who Counting at tt tt
          (apart g a l _ _ _ (λ f z y. let r = ap (held_sum (spot n) f) held in
          let s = y (n + 255) c in let t = y (n + 255) (fails_by p.op c) in omega arith));
      pins = λ f. let r = ap (held_sum (spot n) (outs f)) held in
          let x = ap (held_sum (spot n) nothing) held in omega arith;
      frames = let r = ap (held_sum (spot n) pages) held in
          let x = ap (held_sum (spot n) chains) held in let y = fails_pages p.op c in omega arith;
      counts = λ i. let r = ap (held_sum (spot n) (counters i)) held in
          let x = ap (held_sum (spot n) (shown i)) held in let s = fails_count p.op i c in
          omega arith;
      stays = λ y. let r = ap (held_sum (spot n) (fixed y)) held in let z = fails_fixed p.op y c in
          omega arith;
      rises = let r = ap (held_sum (spot n) (ever_at g)) held in omega arith;
      most = inl (
        (let r = ap (held_sum (spot n) mosts) held in let y = fails_most p.op c in omega arith),
        (let r = ap (held_sum (spot n) pages) held in let y = fails_pages p.op c in omega arith),
      );
    }
