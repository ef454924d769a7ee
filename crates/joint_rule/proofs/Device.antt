-- What each giving does that has to do with the device and its blocks.
use Rattle.plain_disk.specs.Idles.{may_write}
use Rattle.joint_rule.proofs.Trips.{NoTrip, plain_fetched, quiet_storage}
use Rattle.bdi_page.specs.Packing.{IsPage}
use Rattle.backing_dev.specs.Contents.{IsHonest}
use Rattle.std.proofs.Common.{◌≡◌, ◌∷◌, ◌∙◌, ℕ, true, List, [], Option, Some, None, slice_get, refl, sym, ap, subst, arith, inl, inr, length-set, ⊎_elim, ◌⊎◌}
use Rattle.backing_dev.specs.Dev.{DeviceState, FailsToRead, ReadsBlock, IsHonestDevice}
use Rattle.block_map.specs.BlockMap.{BlockMap, with_state}
use Rattle.block_map.specs.declared.state.BlockState.TheVariants.{Free, Owned}
use Rattle.call_history.specs.Parts.{EndsSo, is_read}
use Rattle.call_history.specs.Shows.{tag_by}
use Rattle.call_history.specs.declared.part.Part.{Part}
use Rattle.call_history.specs.declared.part.PartEnd.{PartEnd}
use Rattle.call_history.specs.declared.part.PartEnd.TheVariants.{Eio}
use Rattle.joint_rule.proofs.Blocks.{called_storage, owned_is, page_is, used_put}
use Rattle.joint_rule.proofs.Facts.{Known}
use Rattle.joint_rule.proofs.Gifts.{Gift, IsBare, all, fit, give_left, give_noted, goes_on, none_pin, stage}
use Rattle.joint_rule.proofs.Lookups.{none_weight, nothing_shown}
use Rattle.joint_rule.proofs.Pages.{kept_small}
use Rattle.joint_rule.proofs.Stages.{made_locks, made_stage, may_none, write_blank}
use Rattle.joint_rule.specs.Begins.{Begin, content, ground_of, image, back_at}
use Rattle.joint_rule.specs.Joint.{EntryFits, Joint, KeepsDevice, Sound}
use Rattle.joint_rule.specs.Stages.{Bears, FailBy, IsFault, IsPartly, IsRight, IsSmall, IsWrite, Looks, Stage, locks_at, MaySeeOther, IsSeen}
use Rattle.joint_rule.specs.Weights.{HeldAll, at_place, block_by, block_claims, chains, claim_by, claims, counters, device_size, each_one, ever_at, fixed, lies_at, map_size, mosts, nothing, outs, pages, shown, stored, stored_at, used_blocks, mark_at, shows_at}
use Rattle.lock_row.specs.Totals.{held_sum}
use Rattle.lock_row.specs.declared.names.At.TheVariants.{Failing, Fetching, Missed, Owing, Releasing}
use Rattle.lock_row.specs.declared.names.State.{State}
use Rattle.page_steps.specs.Givings.{Notes}
use Rattle.page_steps.specs.Nexts.{emptied}
use Rattle.page_steps.specs.Pages.{next_by, next_form, page_in}
use Rattle.page_steps.specs.Steps.{DiskHeld, Here, fetched_at, on, piece_over, slot, spot}
use Rattle.plain_disk.specs.Ends.{IsFaultAt, MayFault}
use Rattle.slot_entry.specs.Entries.{EntryState, weight_of, is_wb}
use Rattle.slot_entry.specs.Forms.{PageForm}
use Rattle.slot_entry.specs.declared.kept.Kept.{Kept}
use Rattle.std.proofs.lemmas.Bool.{and_parts, cases_Bool, or_left, or_right}
use Rattle.zr_base.specs.declared.op.Op.{Op}
use Rattle.zr_base.specs.declared.op.Op.TheVariants.{Compact, Discard, Idle, Read, Write, Writeback}
use Rattle.lock_row.specs.declared.names.LockNo.TheVariants as lock
use Rattle.lock_row.specs.declared.names.Held.TheVariants as holds
use Rattle.slot_entry.specs.declared.kept.Kept.TheVariants as kept

-- ---- the device

module _ (c d e : DeviceState) (k : KeepsDevice c d) where
  -- a device from which a block was read
  pub keeps_read : (b : ℕ) (page : List ℕ) → ReadsBlock d e b page → KeepsDevice c e
  keeps_read b page r = record {
    same = r.called.same ∙ k.same;
    blocks = r.called.blocks ∙ k.blocks;
    honest = λ h. r.called.honest (k.honest h);
    faults = let x = r.faults in let y = k.faults in omega arith;
    reads = let x = r.reads in let y = k.reads in let z = k.end in omega arith;
    end = let x = r.reads in let z = k.end in omega arith;
    writes = let x = r.writes in let z = k.writes in omega arith;
  }

  -- one that failed
  pub keeps_failed : (fault : ℕ) → FailsToRead d e fault → KeepsDevice c e
  keeps_failed fault r = record {
    same = r.called.same ∙ k.same;
    blocks = r.called.blocks ∙ k.blocks;
    honest = λ h. r.called.honest (k.honest h);
    faults = let x = r.rose in let y = k.faults in omega arith;
    reads = let x = r.reads in let y = k.reads in omega arith;
    end = let x = r.reads in let z = k.end in omega arith;
    writes = let x = r.writes in let z = k.writes in omega arith;
  }

-- ---- an entry in hand

module _ (g : Begin) (ok : Known g) (w : State DiskHeld) (j : Joint g w) (a : ℕ) (l : Here)
    (who : slice_get w.locals a ≡ Some l) (p : Part) (rest : List Part)
    (todo : l.todo ≡ p ∷ rest) where
  abbrev n : ℕ
  n = g.given.size

  -- ---- reads of the device

  module _ (e : EntryState) (b : ℕ) (d d' : DeviceState) (at : l.at ≡ Fetching)
      (held : l.held ≡ (lock.Device, holds.Device d) ∷ (slot p.page, holds.Slot e) ∷ [])
      (is : e.kept ≡ kept.Wb b) where
    st : Stage g p e Fetching l.fresh l.pin l.owed l.ahead l.behind l.page l.fail
    st = stage g ok w j a l who p rest todo _ Fetching held at

    sounds : HeldAll n (Sound g) ((lock.Device, holds.Device d) ∷ (slot p.page, holds.Slot e) ∷ [])
    sounds = all g ok w j a l who p rest todo _ Fetching held at

    module _ (page : List ℕ) (r : ReadsBlock d d' b page) (whole : IsPage page) where
      not_honest : d.contents ≡ None → IsHonestDevice g.device → ⊥
      not_honest none honest = subst (λ (c : Option (List (List ℕ))). IsHonest c d.blocks) none
          (sounds.0.1.honest honest)

      -- the page may be on the device
      there : (back_at g p.page e.order ≡ true)
          ⊎ (may_write g.given.backed g.given.actors ≡ true)
      there = elim (cases_Bool (may_write g.given.backed g.given.actors)) [
        | inl on ↦ inr on
        | inr off ↦ inl (sym (st.backs.only off) ∙ ap is_wb is)
      ]

      is_content : IsSeen (MaySeeOther g p.page e.order) page (content g p.page e.order)
      is_content = ⊎_elim (λ same. inl same)
          (λ none. inr ((not_honest none, there), whole))
          (page_is g w j a l who b p.page e is d held page r.bytes)

      fetched_stage : (op : Op) → p.op ≡ op → Stage g p e
          (fetched_at op (next_form p (Some page) e.kept) e.kept) l.fresh l.pin l.owed l.ahead
          l.behind (Some page) l.fail
      fetched_stage (Write start count stuff) e_op =
          made_stage g p e l.fresh l.pin l.owed l.ahead l.behind (Some page) l.fail
          (may_none e.kept l.pin st.pins) st.owes st.stands st.backs st.marks
          (write_blank p.op (subst IsWrite (sym e_op) tt) l.ahead _)
          (subst (λ (x : Op). IsRight (MaySeeOther g p.page e.order) x p.page page
          (content g p.page e.order)) (sym e_op)
          (inr is_content)) st.counts.0 st.counts.1 st.fails st.begun
          (subst IsWrite (sym e_op) tt) st.made (next_form p (Some page) e.kept) refl e.kept refl
      fetched_stage (Read start count) e_op = record {
        kind = st.kind.0;
        made = st.made;
        pins = st.pins;
        owes = st.owes;
        stands = st.stands;
        backs = st.backs;
        marks = st.marks;
        partly = tt;
        right = subst (λ (x : Op). IsRight (MaySeeOther g p.page e.order) x p.page page
            (content g p.page e.order)) (sym e_op) is_content;
        counts = st.counts;
        blank = tt;
        fails = subst (λ (x : Op). FailBy g p x l.fail) (sym e_op) st.fails;
        begun = st.begun;
        scans = tt;
        visits = tt;
        compacts = tt;
      }
      fetched_stage (Discard start count) e_op = absurd (subst Looks e_op st.kind.0)
      fetched_stage (Idle age) e_op = absurd (subst Looks e_op st.kind.0)
      fetched_stage (Writeback mode) e_op = absurd (subst Looks e_op st.kind.0)
      fetched_stage Compact e_op = absurd (subst Looks e_op st.kind.0)

      fetched_locks : (op : Op) (f : PageForm) (c d : ℕ)
          → slot p.page ∷ [] ≡ locks_at (fetched_at op f e.kept) p c d
      fetched_locks (Write start count stuff) f c d = made_locks f e.kept p c d
      fetched_locks (Read start count) f c d = refl
      fetched_locks (Discard start count) f c d = refl
      fetched_locks (Idle age) f c d = refl
      fetched_locks (Writeback mode) f c d = refl
      fetched_locks Compact f c d = refl

      pub give_fetches : Gift g w a l lock.Device (holds.Device d')
          (on l (fetched_at p.op (next_form p (Some page) e.kept) e.kept)
          ((slot p.page, holds.Slot e) ∷ []) l.fresh l.pin l.owed l.ahead l.behind (Some page)
          l.fail)
      give_fetches = record {
        home = record {
          sound = (refl, keeps_read g.device d d' sounds.0.1 b page r);
          stands = tt;
          backs = tt;
          marks = tt;
        };
        fits = goes_on g ok w j a l who p rest todo
            (fetched_at p.op (next_form p (Some page) e.kept) e.kept)
            ((slot p.page, holds.Slot e) ∷ []) l.fresh l.pin l.owed l.ahead l.behind (Some page)
            l.fail (fetched_locks p.op (next_form p (Some page) e.kept) _ _) sounds.1
            (fetched_stage p.op refl)
            (let lr = ap (held_sum (spot n) (claims g each_one)) held in
            let lx = ap (held_sum (spot n) (ever_at g)) held in
            let lz = (fit g ok w j a l who p rest todo).lean in omega arith);
        alone = λ i. let r = ap (held_sum (spot n) (at_place i)) held in omega arith;
        owners = λ f. let r = ap (held_sum (spot n) (claims g f)) held in
            let x = ap (held_sum (spot n) (stored f)) held in omega arith;
        storage = quiet_storage g w a l _ _ _ j who Fetching at tt (plain_fetched p.op (next_form p (Some page) e.kept) e.kept)
            (called_storage g a l _ p.page d d' e held refl r.called r.contents);
        pins = λ f. let r = ap (held_sum (spot n) (outs f)) held in
            let x = ap (held_sum (spot n) nothing) held in omega arith;
        frames = let r = ap (held_sum (spot n) pages) held in
            let x = ap (held_sum (spot n) chains) held in omega arith;
        counts = λ i. let r = ap (held_sum (spot n) (counters i)) held in
            let x = ap (held_sum (spot n) (shown i)) held in omega arith;
        stays = λ y. let r = ap (held_sum (spot n) (fixed y)) held in omega arith;
        rises = let r = ap (held_sum (spot n) (ever_at g)) held in omega arith;
        most = inl (
          (let r = ap (held_sum (spot n) mosts) held in omega arith),
          (let r = ap (held_sum (spot n) pages) held in omega arith),
        );
      }

    module _ (fault : ℕ) (r : FailsToRead d d' fault) where
      -- the page was there at the phase's start, and the count has risen
      fault_at : IsFaultAt (ground_of g) p.page fault
      fault_at = record {
        back = elim (cases_Bool (may_write g.given.backed g.given.actors)) [
          | inl on ↦ or_right (g.back p.page) (may_write g.given.backed g.given.actors) on
          | inr off ↦ or_left (g.back p.page) (may_write g.given.backed g.given.actors)
              (and_parts (g.back p.page) _ (sym (st.backs.only off) ∙ ap is_wb is)).0
        ];
        rose = let x = r.count in let y = r.rose in let z = sounds.0.1.faults in omega arith;
      }

      may_fault : (op : Op) → Looks op → IsPartly op p.page
          → MayFault (ground_of g) op p.page fault
      may_fault (Write start count stuff) looks part = (fault_at, part)
      may_fault (Read start count) looks part = fault_at
      may_fault (Discard start count) looks part = absurd looks
      may_fault (Idle age) looks part = absurd looks
      may_fault (Writeback mode) looks part = absurd looks
      may_fault Compact looks part = absurd looks

      missed_stage : Stage g p e Failing l.fresh l.pin l.owed l.ahead l.behind l.page
          (Some (Eio fault))
      missed_stage = record {
        kind = st.kind;
        made = st.made;
        pins = st.pins;
        owes = st.owes;
        stands = st.stands;
        backs = st.backs;
        marks = st.marks;
        partly = tt;
        right = st.right;
        counts = st.counts;
        blank = tt;
        fails = (st.begun, may_fault p.op st.kind.0 st.partly);
        begun = st.begun;
        scans = tt;
        visits = tt;
        compacts = tt;
      }

      pub give_misses : Gift g w a l lock.Device (holds.Device d')
          (on l Failing ((slot p.page, holds.Slot e) ∷ []) l.fresh l.pin l.owed l.ahead l.behind
          l.page (Some (Eio fault)))
      give_misses = record {
        home = record {
          sound = (refl, keeps_failed g.device d d' sounds.0.1 fault r);
          stands = tt;
          backs = tt;
          marks = tt;
        };
        fits = goes_on g ok w j a l who p rest todo Failing ((slot p.page, holds.Slot e) ∷ [])
            l.fresh l.pin l.owed l.ahead l.behind l.page (Some (Eio fault)) refl sounds.1
            missed_stage
            (let lr = ap (held_sum (spot n) (claims g each_one)) held in
            let lx = ap (held_sum (spot n) (ever_at g)) held in
            let lz = (fit g ok w j a l who p rest todo).lean in omega arith);
        alone = λ i. let r = ap (held_sum (spot n) (at_place i)) held in omega arith;
        owners = λ f. let r = ap (held_sum (spot n) (claims g f)) held in
            let x = ap (held_sum (spot n) (stored f)) held in omega arith;
        storage = quiet_storage g w a l _ _ _ j who Fetching at tt tt
            (called_storage g a l _ p.page d d' e held refl r.called r.contents);
        pins = λ f. let r = ap (held_sum (spot n) (outs f)) held in
            let x = ap (held_sum (spot n) nothing) held in omega arith;
        frames = let r = ap (held_sum (spot n) pages) held in
            let x = ap (held_sum (spot n) chains) held in omega arith;
        counts = λ i. let r = ap (held_sum (spot n) (counters i)) held in
            let x = ap (held_sum (spot n) (shown i)) held in omega arith;
        stays = λ y. let r = ap (held_sum (spot n) (fixed y)) held in omega arith;
        rises = let r = ap (held_sum (spot n) (ever_at g)) held in omega arith;
        most = inl (
          (let r = ap (held_sum (spot n) mosts) held in omega arith),
          (let r = ap (held_sum (spot n) pages) held in omega arith),
        );
      }

  -- ---- a page that couldn't be read

  module _ (e f : EntryState) (at : l.at ≡ Missed)
      (held : l.held ≡ (slot p.page, holds.Slot e) ∷ []) where
    sm : Stage g p e Missed l.fresh l.pin l.owed l.ahead l.behind l.page l.fail
    sm = stage g ok w j a l who p rest todo _ Missed held at

    bare_missed : IsBare g ok w j a l who p rest todo e f held
    bare_missed = record {
      made = sm.made;
      pins = sm.pins;
      owes = sm.owes;
      stands = sm.stands;
      backs = sm.backs;
      marks = sm.marks;
      more = sm.counts.0;
      less = sm.counts.1;
      fits = (all g ok w j a l who p rest todo _ Missed held at).0;
      begun = sm.begun;
      plain = subst NoTrip (sym at) tt;
    }

    fault_ends : (x : PartEnd) → IsFault g p (Some x) → EndsSo (ground_of g) p x
    fault_ends (Eio fault) i = i
    fault_ends x i = absurd i

    ends : (x : PartEnd) → l.fail ≡ Some x → EndsSo (ground_of g) p x
    ends x bad = fault_ends x (subst (IsFault g p) bad sm.fails)

    pub give_errs : (x : PartEnd) → l.fail ≡ Some x → is_read p.op ≡ true
        → Notes g.clock e f e.kept (tag_by l.actor p)
        → Gift g w a l (slot p.page) (holds.Slot f) (piece_over l p x [] rest)
    give_errs x bad reads notes = by_op p.op refl reads where
      by_op : (op : Op) → p.op ≡ op → is_read op ≡ true
          → Gift g w a l (slot p.page) (holds.Slot f) (piece_over l p x [] rest)
      by_op (Write start count stuff) is r = absurd (cc)
      by_op (Read start count) is r = give_noted g ok w j a l who p rest todo e f held bare_missed x
          [] (ends x bad) start count is notes
      by_op (Discard start count) is r = absurd (cc)
      by_op (Idle age) is r = absurd (cc)
      by_op (Writeback mode) is r = absurd (cc)
      by_op Compact is r = absurd (cc)

    pub give_leaves : (x : PartEnd) → l.fail ≡ Some x
        → Gift g w a l (slot p.page) (holds.Slot e) (piece_over l p x [] rest)
    give_leaves x bad = give_left g ok w j a l who p rest todo e f held bare_missed x (ends x bad)

  -- ---- the map of blocks

  module _ (e : EntryState) (b : ℕ) (x : BlockMap) (at : l.at ≡ Releasing)
      (held : l.held ≡ (lock.Blocks, holds.Blocks x) ∷ (slot p.page, holds.Slot e) ∷ [])
      (is : e.kept ≡ kept.Wb b) where
    sr : Stage g p e Releasing l.fresh l.pin l.owed l.ahead l.behind l.page l.fail
    sr = stage g ok w j a l who p rest todo _ Releasing held at

    -- what the actor sees stays, where its entry is emptied
    emptied_sees : (y : Option (List ℕ)) (k : Kept) → k ≡ kept.Wb b
        → page_in y k ≡ page_in y kept.Empty
    emptied_sees None k e' = ap (page_in None) e'
    emptied_sees (Some y) k e' = refl

    same_form : next_form p l.page e.kept ≡ next_form p l.page kept.Empty
    same_form = ap (next_by p.op p) (emptied_sees l.page e.kept is)

    released_small : IsSmall (weight_of e.kept)
    released_small = kept_small g ok p.page e.order e.kept sr.stands

    released_stage : Stage g p (emptied e) Owing l.fresh None 0
        (Some (weight_of e.kept)) l.behind l.page l.fail
    released_stage = record {
      kind = (sr.kind.0, tt);
      made = subst (λ (y : PageForm). Bears g.chain y l.fresh) same_form sr.made;
      pins = tt;
      owes = omega arith;
      stands = tt;
      backs = tt;
      marks = tt;
      partly = tt;
      right = subst (λ (y : List ℕ). IsRight (MaySeeOther g p.page e.order) p.op p.page y
          (content g p.page e.order))
          (emptied_sees l.page e.kept is) sr.right;
      counts = ((tt, released_small), sr.counts.1);
      blank = sr.blank;
      fails = sr.fails;
      begun = sr.begun;
      scans = tt;
      visits = tt;
      compacts = tt;
    }

    emptied_fits : EntryFits g p.page e → EntryFits g p.page (emptied e)
    emptied_fits y = record {
      page = y.page;
      calls = y.calls;
      touched = y.touched;
      mark = y.mark;
      small = omega arith;
    }

    pub give_releases : Gift g w a l lock.Blocks (holds.Blocks (with_state x b Free))
        (on l Owing ((slot p.page, holds.Slot (emptied e)) ∷ []) l.fresh None 0
        (Some (weight_of e.kept)) l.behind l.page l.fail)
    give_releases = record {
      home = record { sound = refl; stands = tt; backs = tt; marks = tt };
      fits = goes_on g ok w j a l who p rest todo Owing
          ((slot p.page, holds.Slot (emptied e)) ∷ []) l.fresh None 0
          (Some (weight_of e.kept)) l.behind l.page l.fail refl
          (emptied_fits (all g ok w j a l who p rest todo _ Releasing held at).1.0, tt)
          released_stage
          (let lr = ap (held_sum (spot n) (claims g each_one)) held in
          let lx = ap (held_sum (spot n) (ever_at g)) held in
          let lz = (fit g ok w j a l who p rest todo).lean in omega arith);
      alone = λ i. let r = ap (held_sum (spot n) (at_place i)) held in omega arith;
      owners = λ f. let r = ap (held_sum (spot n) (claims g f)) held in
          let y = ap (held_sum (spot n) (stored f)) held in
          let c : claim_by f e.kept (image g p.page e.order) ≡ 0 =
          ap (λ (k : Kept). claim_by f k (image g p.page e.order)) is in omega arith;
      storage = quiet_storage g w a l _ _ _ j who Releasing at tt tt (record {
        blocks = λ f. let r = ap (held_sum (spot n) (block_claims f)) held in
            let y = ap (held_sum (spot n) (used_blocks f)) held in
            let z : block_by f e.kept ≡ f 1 b = ap (block_by f) is in
            let s = used_put f x.states b Owned Free (owned_is g w j a l who b p.page e is x held) in
            omega arith;
        maps = let r = ap (held_sum (spot n) map_size) held in
            let s = length-set x.states b Free in omega arith;
        devices = let r = ap (held_sum (spot n) device_size) held in omega arith;
        lies = λ i bytes. let r = ap (held_sum (spot n) (lies_at g i bytes)) held in omega arith;
        stored = λ i bytes. let r = ap (held_sum (spot n) (stored_at i bytes)) held in omega arith;
        marks = λ i c bytes. let r = ap (held_sum (spot n) (mark_at g i c bytes)) held in
            omega arith;
        shows = λ c i d ne. let r = ap (held_sum (spot n) (shows_at c i d)) held in omega arith;
      });
      pins = λ f. let r = ap (held_sum (spot n) (outs f)) held in
          let y = ap (held_sum (spot n) nothing) held in let z = none_pin f l.pin sr.pins in
          omega arith;
      frames = let r = ap (held_sum (spot n) pages) held in
          let y = ap (held_sum (spot n) chains) held in let z = sr.owes in omega arith;
      counts = λ i. let r = ap (held_sum (spot n) (counters i)) held in
          let y = ap (held_sum (spot n) (shown i)) held in
          let z = none_weight i l.ahead sr.counts.0 in let s = nothing_shown i in omega arith;
      stays = λ y. let r = ap (held_sum (spot n) (fixed y)) held in omega arith;
      rises = let r = ap (held_sum (spot n) (ever_at g)) held in omega arith;
      most = inl (
        (let r = ap (held_sum (spot n) mosts) held in omega arith),
        (let r = ap (held_sum (spot n) pages) held in omega arith),
      );
    }
