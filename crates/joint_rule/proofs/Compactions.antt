-- What each giving of a compaction does.
use Rattle.joint_rule.proofs.Trips.{quiet_storage, NoTrip}
use Rattle.std.proofs.Common.{◌≡◌, ◌+◌, ◌-◌, ◌*◌, ◌≤◌, ◌∷◌, ℕ, zero, suc, List, [], Some, slice_get, refl, ap, arith, inl, true}
use Rattle.call_history.specs.declared.part.Part.{Part}
use Rattle.call_history.specs.declared.part.PartEnd.TheVariants.{Whole}
use Rattle.class_pool.specs.Pool.{PoolState}
use Rattle.joint_rule.proofs.Balances.{none_fresh, shift_outs, shift_stored, shrunk, shrunk_count, shrunk_fixed}
use Rattle.joint_rule.proofs.Blocks.{apart}
use Rattle.joint_rule.proofs.Classes.{stands_low}
use Rattle.joint_rule.proofs.Facts.{Known}
use Rattle.joint_rule.proofs.Gifts.{Gift, all, goes_on, is_over, none_pin, some_one, stage}
use Rattle.joint_rule.proofs.Lookups.{can_repay, none_weight}
use Rattle.joint_rule.proofs.Pools.{Shifts, chain_low, fits_shift}
use Rattle.joint_rule.specs.Begins.{Begin, ground_of}
use Rattle.joint_rule.specs.Joint.{Joint, Sound}
use Rattle.joint_rule.specs.Stages.{Stage, locks_at}
use Rattle.joint_rule.specs.Weights.{at_place, chains, claims, counters, each_one, ever_at, fixed, mosts, nothing, outs, pages, shown, stored}
use Rattle.lock_row.specs.Totals.{held_sum}
use Rattle.lock_row.specs.declared.names.At.TheVariants.{Moving, Shrinking, Sweeping}
use Rattle.lock_row.specs.declared.names.Compaction.{Compaction}
use Rattle.lock_row.specs.declared.names.LockNo.{LockNo}
use Rattle.lock_row.specs.declared.names.State.{State}
use Rattle.mem_account.specs.Counters.{Counters}
use Rattle.page_steps.specs.Compactions.{moved_at, with_frames, with_move, with_next}
use Rattle.page_steps.specs.Steps.{DiskHeld, Here, entry_in, on, piece_over, spot}
use Rattle.plain_disk.specs.Ends.{MayBeSingle, is_single}
use Rattle.slot_entry.specs.Entries.{EntryState}
use Rattle.zspage.specs.Cells.{UsedCell}
use Rattle.zr_base.specs.Plain.{is_compaction}
use Rattle.zr_base.specs.declared.op.Op.{Op}
use Rattle.zr_base.specs.declared.op.Op.TheVariants.{Compact}
use Rattle.lock_row.specs.declared.names.LockNo.TheVariants as lock
use Rattle.lock_row.specs.declared.names.Held.TheVariants as holds
use Rattle.zr_base.specs.declared.op.OpEnd.TheVariants as ends

pub plain_moved : (m : ℕ) (x : Compaction) → NoTrip (moved_at m x)
plain_moved zero x = tt
plain_moved (suc m) x = tt

compaction_single : (size : ℕ) (op : Op) → op ≡ Compact → is_single size op ≡ true
compaction_single size op e = ap (is_single size) e

module _ (g : Begin) (ok : Known g) (w : State DiskHeld) (j : Joint g w) (a : ℕ) (l : Here)
    (who : slice_get w.locals a ≡ Some l) (p : Part) (rest : List Part)
    (todo : l.todo ≡ p ∷ rest) (x : Compaction) where
  abbrev n : ℕ
  n = g.given.size

  -- nothing is in hand
  abbrev no_entry : EntryState
  no_entry = entry_in []

  -- ---- a class

  module _ (q : PoolState) (at : l.at ≡ Moving x)
      (held : l.held ≡ (lock.Class x.class, holds.Class q) ∷ []) where
    st : Stage g p no_entry (Moving x) l.fresh l.pin l.owed l.ahead l.behind l.page l.fail
    st = stage g ok w j a l who p rest todo _ (Moving x) held at

    sound : Sound g (n + x.class) (holds.Class q)
    sound = (all g ok w j a l who p rest todo _ (Moving x) held at).0

    module _ (q' : PoolState) (u u' : UsedCell) (frames : ℕ) (sh : Shifts q q' u u' frames)
        (budget : ℕ) where
      few : frames ≤ g.chain
      few = let a1 = sh.few in let b1 = chain_low g.chain q sound.1 ok.proper.least in omega arith

      within : x.frames + frames ≤ g.chain * (x.moves + 1)
      within = let a1 = few in let b1 = st.compacts.frames in omega arith

      moved_locks : (m : ℕ) (c d : ℕ) → (let ks : List LockNo = [] in ks)
          ≡ locks_at (moved_at m (with_move x budget)) p c d
      moved_locks zero c d = refl
      moved_locks (suc m) c d = refl

      moved_stage : (m : ℕ) → m ≤ g.chain → x.frames + m ≤ g.chain * (x.moves + 1)
          → Stage g p no_entry (moved_at m (with_move x budget)) l.fresh l.pin m l.ahead l.behind
          l.page l.fail
      moved_stage zero le within = record {
        kind = tt;
        made = st.made;
        pins = st.pins;
        owes = refl;
        stands = tt;
        backs = tt;
        marks = tt;
        partly = tt;
        right = st.right;
        counts = st.counts;
        blank = tt;
        fails = st.fails;
        begun = st.begun;
        scans = tt;
        visits = tt;
        compacts = record { class = st.compacts.class; frames = within };
      }
      moved_stage (suc m) le within = record {
        kind = tt;
        made = st.made;
        pins = st.pins;
        owes = le;
        stands = tt;
        backs = tt;
        marks = tt;
        partly = tt;
        right = st.right;
        counts = st.counts;
        blank = tt;
        fails = st.fails;
        begun = st.begun;
        scans = tt;
        visits = tt;
        compacts = record { class = st.compacts.class; frames = within };
      }

      pub give_moves : Gift g w a l (lock.Class x.class) (holds.Class q')
          (on l (moved_at frames (with_move x budget)) [] l.fresh l.pin frames l.ahead l.behind
          l.page l.fail)
      give_moves = record {
        home = record {
          sound = (
            let c = sound.0 in let d = sh.alike.class in
                let z : n + x.class ≡ n + q'.class = omega arith in z,
            fits_shift g.chain q sound.1 q' u u' frames sh,
          );
          stands = tt;
          backs = tt;
          marks = tt;
        };
        fits = goes_on g ok w j a l who p rest todo (moved_at frames (with_move x budget)) [] l.fresh
            l.pin frames l.ahead l.behind l.page l.fail (moved_locks frames _ _) tt
            (moved_stage frames few within)
            (let y = none_fresh each_one l.fresh st.made in let z = some_one frames in omega arith);
        alone = λ i. let r = ap (held_sum (spot n) (at_place i)) held in omega arith;
        owners = λ f. let r = ap (held_sum (spot n) (claims g f)) held in
            let t = ap (held_sum (spot n) (stored f)) held in
            let s = shift_stored q q' u u' frames sh f in omega arith;
        storage = quiet_storage g w a l _ _ _ j who (Moving x) at tt (plain_moved frames (with_move x budget))
            (apart g a l _ _ _ (λ f z y. let r = ap (held_sum (spot n) f) held in
            let s = z (n + x.class) q in let t = z (n + x.class) q' in omega arith));
        pins = λ f. let r = ap (held_sum (spot n) (outs f)) held in
            let t = ap (held_sum (spot n) nothing) held in
            let s = shift_outs q q' u u' frames sh f in omega arith;
        frames = let r = ap (held_sum (spot n) pages) held in
            let t = ap (held_sum (spot n) chains) held in let s = sh.frames in
            let z = st.owes in omega arith;
        counts = λ i. let r = ap (held_sum (spot n) (counters i)) held in
            let t = ap (held_sum (spot n) (shown i)) held in omega arith;
        stays = λ y. let r = ap (held_sum (spot n) (fixed y)) held in omega arith;
        rises = let r = ap (held_sum (spot n) (ever_at g)) held in omega arith;
        most = inl (
          (let r = ap (held_sum (spot n) mosts) held in omega arith),
          (let r = ap (held_sum (spot n) pages) held in omega arith),
        );
      }

    pub give_sweeps : Gift g w a l (lock.Class x.class) (holds.Class q)
        (on l (Sweeping (with_next g.chain x)) [] l.fresh l.pin l.owed l.ahead l.behind l.page
        l.fail)
    give_sweeps = record {
      home = record { sound = sound; stands = tt; backs = tt; marks = tt };
      fits = goes_on g ok w j a l who p rest todo (Sweeping (with_next g.chain x)) [] l.fresh l.pin
          l.owed l.ahead l.behind l.page l.fail refl tt
          (record {
            kind = tt;
            made = st.made;
            pins = st.pins;
            owes = st.owes;
            stands = tt;
            backs = tt;
            marks = tt;
            partly = tt;
            right = st.right;
            counts = st.counts;
            blank = tt;
            fails = st.fails;
            begun = st.begun;
            scans = tt;
            visits = tt;
            compacts = record {
              class = stands_low g.chain (254 - (x.class + 1));
              frames = st.compacts.frames;
            };
          })
          (let y = none_fresh each_one l.fresh st.made in let z = some_one l.owed in omega arith);
      alone = λ i. let r = ap (held_sum (spot n) (at_place i)) held in omega arith;
      owners = λ f. let r = ap (held_sum (spot n) (claims g f)) held in
          let t = ap (held_sum (spot n) (stored f)) held in omega arith;
      storage = quiet_storage g w a l _ _ _ j who (Moving x) at tt tt
          (apart g a l _ _ _ (λ f z y. let r = ap (held_sum (spot n) f) held in
          let s = z (n + x.class) q in omega arith));
      pins = λ f. let r = ap (held_sum (spot n) (outs f)) held in
          let t = ap (held_sum (spot n) nothing) held in omega arith;
      frames = let r = ap (held_sum (spot n) pages) held in
          let t = ap (held_sum (spot n) chains) held in omega arith;
      counts = λ i. let r = ap (held_sum (spot n) (counters i)) held in
          let t = ap (held_sum (spot n) (shown i)) held in omega arith;
      stays = λ y. let r = ap (held_sum (spot n) (fixed y)) held in omega arith;
      rises = let r = ap (held_sum (spot n) (ever_at g)) held in omega arith;
      most = inl (
        (let r = ap (held_sum (spot n) mosts) held in omega arith),
        (let r = ap (held_sum (spot n) pages) held in omega arith),
      );
    }

    -- what it tells of its moves and frames
    may_end : MayBeSingle (ground_of g) p.op (ends.Compacted x.moves x.frames)
    may_end = (ap is_compaction st.begun, (let y = st.compacts.frames in omega arith))

    pub give_closes : Gift g w a l (lock.Class x.class) (holds.Class q)
        (piece_over l p (Whole (ends.Compacted x.moves x.frames)) [] rest)
    give_closes = record {
      home = record { sound = sound; stands = tt; backs = tt; marks = tt };
      fits = is_over g ok w j a l who p rest todo (Whole (ends.Compacted x.moves x.frames)) []
          (compaction_single n p.op st.begun, may_end);
      alone = λ i. let r = ap (held_sum (spot n) (at_place i)) held in omega arith;
      owners = λ f. let r = ap (held_sum (spot n) (claims g f)) held in
          let t = ap (held_sum (spot n) (stored f)) held in
          let y = none_fresh f l.fresh st.made in omega arith;
      storage = quiet_storage g w a l _ _ _ j who (Moving x) at tt tt
          (apart g a l _ _ _ (λ f z y. let r = ap (held_sum (spot n) f) held in
          let s = z (n + x.class) q in omega arith));
      pins = λ f. let r = ap (held_sum (spot n) (outs f)) held in
          let t = ap (held_sum (spot n) nothing) held in let y = none_pin f l.pin st.pins in
          omega arith;
      frames = let r = ap (held_sum (spot n) pages) held in
          let t = ap (held_sum (spot n) chains) held in let y = st.owes in omega arith;
      counts = λ i. let r = ap (held_sum (spot n) (counters i)) held in
          let t = ap (held_sum (spot n) (shown i)) held in
          let y = none_weight i l.ahead st.counts.0 in
          let z = none_weight i l.behind st.counts.1 in omega arith;
      stays = λ y. let r = ap (held_sum (spot n) (fixed y)) held in omega arith;
      rises = let r = ap (held_sum (spot n) (ever_at g)) held in omega arith;
      most = inl (
        (let r = ap (held_sum (spot n) mosts) held in omega arith),
        (let r = ap (held_sum (spot n) pages) held in omega arith),
      );
    }

  -- ---- the account

  module _ (c : Counters) (at : l.at ≡ Shrinking x)
      (held : l.held ≡ (lock.Account, holds.Account c) ∷ []) where
    ss : Stage g p no_entry (Shrinking x) l.fresh l.pin l.owed l.ahead l.behind l.page l.fail
    ss = stage g ok w j a l who p rest todo _ (Shrinking x) held at

    pays : l.owed ≤ c.pages
    pays = can_repay g w j a l who c [] held refl

    pub give_shrinks : Gift g w a l lock.Account (holds.Account (shrunk l.owed c))
        (on l (Sweeping (with_frames x l.owed)) [] l.fresh l.pin 0 l.ahead l.behind l.page l.fail)
    give_shrinks = record {
      home = record { sound = refl; stands = tt; backs = tt; marks = tt };
      fits = goes_on g ok w j a l who p rest todo (Sweeping (with_frames x l.owed)) [] l.fresh l.pin
          0 l.ahead l.behind l.page l.fail refl tt
          (record {
            kind = tt;
            made = ss.made;
            pins = ss.pins;
            owes = refl;
            stands = tt;
            backs = tt;
            marks = tt;
            partly = tt;
            right = ss.right;
            counts = ss.counts;
            blank = tt;
            fails = ss.fails;
            begun = ss.begun;
            scans = tt;
            visits = tt;
            compacts = record {
              class = ss.compacts.class;
              frames = (let y = ss.compacts.frames in omega arith);
            };
          })
          (let y = none_fresh each_one l.fresh ss.made in omega arith);
      alone = λ i. let r = ap (held_sum (spot n) (at_place i)) held in omega arith;
      owners = λ f. let r = ap (held_sum (spot n) (claims g f)) held in
          let t = ap (held_sum (spot n) (stored f)) held in omega arith;
      storage = quiet_storage g w a l _ _ _ j who (Shrinking x) at tt tt
          (apart g a l _ _ _ (λ f z y. let r = ap (held_sum (spot n) f) held in
          let s = y (n + 255) c in let t = y (n + 255) (shrunk l.owed c) in omega arith));
      pins = λ f. let r = ap (held_sum (spot n) (outs f)) held in
          let t = ap (held_sum (spot n) nothing) held in omega arith;
      frames = let r = ap (held_sum (spot n) pages) held in
          let t = ap (held_sum (spot n) chains) held in let y = pays in omega arith;
      counts = λ i. let r = ap (held_sum (spot n) (counters i)) held in
          let t = ap (held_sum (spot n) (shown i)) held in let s = shrunk_count i c l.owed in
          omega arith;
      stays = λ y. let r = ap (held_sum (spot n) (fixed y)) held in
          let z = shrunk_fixed y c l.owed in omega arith;
      rises = let r = ap (held_sum (spot n) (ever_at g)) held in omega arith;
      most = inl (
        (let r = ap (held_sum (spot n) mosts) held in omega arith),
        (let r = ap (held_sum (spot n) pages) held in omega arith),
      );
    }
