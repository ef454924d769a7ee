-- What each giving does that has to do with pools and the account.
use Rattle.joint_rule.proofs.Trips.{quiet_storage, plain_pinned, plain_settle, plain_quit}
use Rattle.std.proofs.Common.{◌≡◌, ◌+◌, ◌≤◌, ◌∷◌, ◌∙◌, ℕ, Bool, true, false, List, [], length, sum_by, Option, Some, None, slice_get, refl, sym, ap, subst, arith, inl, inr, ⊎_elim}
use Rattle.call_history.specs.declared.part.Part.{Part}
use Rattle.call_history.specs.declared.part.PartEnd.{PartEnd}
use Rattle.call_history.specs.declared.part.PartEnd.TheVariants.{AtLimit, NoMemory}
use Rattle.class_pool.specs.Pool.{PoolState, used_cells}
use Rattle.joint_rule.proofs.Balances.{IsBack, charged_count, charged_fixed, failed_count, failed_fixed, is_back, less_outs, less_stored, more_outs, more_stored, none_fresh, swap_home, swap_out, swap_stored}
use Rattle.joint_rule.proofs.Blocks.{apart}
use Rattle.joint_rule.proofs.Events.{FreesPinned}
use Rattle.joint_rule.proofs.Facts.{Known}
use Rattle.joint_rule.proofs.Gifts.{Gift, all, fit, goes_on, locks, none_pin, some_one, stage}
use Rattle.joint_rule.proofs.Lookups.{class_is, lone, mine_account, none_weight, nothing_shown, object_is, pin_is, under_account}
use Rattle.joint_rule.proofs.Pages.{class_weight, content_page, ever_now, image_form, image_len, kept_small, pooled_weight, put_page}
use Rattle.joint_rule.proofs.Pools.{Allocates, Swaps, chain_low, fits_less, fits_more, fits_swap}
use Rattle.joint_rule.proofs.Stages.{made_locks, made_stage, settle_locks, settle_stage, write_blank}
use Rattle.joint_rule.proofs.Places.{form_claim}
use Rattle.joint_rule.specs.Begins.{Begin, content, form_at, ground_of, image}
use Rattle.joint_rule.specs.Joint.{AtHome, EntryFits, Joint, PoolFits, Sound}
use Rattle.joint_rule.specs.Stages.{Bears, Changes, FailBy, IsForm, IsObj, IsPinned, IsRefusal, IsRight, IsSmall, IsWrite, Looks, MadeBy, MayFail, MayPin, Names, NoneOf, Stage, locks_at, MaySeeOther}
use Rattle.joint_rule.specs.Weights.{HeldAll, Limit, PinWeigh, at_place, block_by, block_claims, cell_weight, chains, claim_by, claims, counters, device_size, each_one, ever_at, fixed, fixed_count, lies_at, map_size, mosts, nothing, outs, pages, pin_in, shown, some_of, stored, stored_at, used_blocks, mark_at, shows_at}
use Rattle.lock_row.specs.Totals.{by_option, held_sum}
use Rattle.lock_row.specs.declared.names.At.TheVariants.{Both, Freeing, Leaving, Made, Owing, Pinning, Unpinning}
use Rattle.lock_row.specs.declared.names.LockNo.{LockNo}
use Rattle.lock_row.specs.declared.names.Object.{Object}
use Rattle.lock_row.specs.declared.names.Pin.{Pin}
use Rattle.lock_row.specs.declared.names.State.{State}
use Rattle.mem_account.specs.Counters.{Counters, IsPastLimit, IsWithinLimit, charged, counted}
use Rattle.page_steps.specs.Nexts.{emptied, pin_of}
use Rattle.page_steps.specs.Pages.{next_by, next_form, page_in, page_in_cell}
use Rattle.page_steps.specs.Pools.{IsNeed}
use Rattle.page_steps.specs.Steps.{DiskHeld, Here, on, pinned_at, quit_at, settle_at, slot, spot}
use Rattle.plain_disk.specs.Ends.{IsOfClass, MayWant, page_put}
use Rattle.plain_disk.specs.Forms.{in_class, is_pooled}
use Rattle.slot_entry.specs.Entries.{EntryState, weight_of}
use Rattle.slot_entry.specs.Forms.{PageForm, Pooled, class_in, form_of, form_weight, object_class, page_kept_as, page_weight}
use Rattle.slot_entry.specs.declared.kept.Kept.{Kept}
use Rattle.slot_entry.specs.declared.kept.Stored.{Stored}
use Rattle.zr_base.specs.Plain.{has_whole}
use Rattle.zr_base.specs.declared.op.Op.{Op}
use Rattle.zr_base.specs.declared.op.Op.TheVariants.{Compact, Discard, Idle, Read, Write, Writeback}
use Rattle.zr_base.specs.declared.op.Stuff.{Stuff}
use Rattle.zspage.specs.Cells.{CellState, IsStored, UsedCell, object_in}
use Rattle.lock_row.specs.declared.names.LockNo.TheVariants as lock
use Rattle.lock_row.specs.declared.names.Held.TheVariants as holds
use Rattle.slot_entry.specs.declared.kept.Kept.TheVariants as kept
use Rattle.mem_account.specs.declared.weight.Delta.TheVariants as delta

module _ (g : Begin) (ok : Known g) (w : State DiskHeld) (j : Joint g w) (a : ℕ) (l : Here)
    (who : slice_get w.locals a ≡ Some l) (p : Part) (rest : List Part)
    (todo : l.todo ≡ p ∷ rest) where
  abbrev n : ℕ
  n = g.given.size

  -- ---- pools

  module _ (e : EntryState) (o : Stored) (q : PoolState)
      (held : l.held ≡ (lock.Class o.class, holds.Class q) ∷ (slot p.page, holds.Slot e) ∷ [])
      (is : e.kept ≡ kept.Obj o) where
    sound : Sound g (n + o.class) (holds.Class q)
    sound = (all g ok w j a l who p rest todo _ l.at held refl).0

    class : q.class ≡ o.class
    class = class_is g w j a l who p.page o q e held is

    image_of : (u : UsedCell) → ((f : ℕ → List ℕ → ℕ) → cell_weight f u
        ≤ sum_by (cell_weight f) (used_cells q.zspages)) → u.handle ≡ o.handle.0
        → u.bytes ≡ image g p.page e.order
    image_of u there named_u = object_is g w j a l who p.page o q e held is u there named_u

    pool_home : (q' : PoolState) → q'.class ≡ q.class → PoolFits g.chain q'
        → AtHome g (spot n (lock.Class o.class)) (holds.Class q')
    pool_home q' al f = record {
      sound = (
        let c = class in let d = al in
            let z : n + o.class ≡ n + q'.class = omega arith in z,
        f,
      );
      stands = tt;
      backs = tt;
      marks = tt;
    }

    module _ (q' : PoolState) (u u' : UsedCell) (sw : Swaps q q' u u')
        (named_u : u.handle ≡ o.handle.0) where
      module _ (cell : CellState) (at : l.at ≡ Pinning) (free : u.out ≡ false)
          (taken : u'.out ≡ true) (is_cell : u.cell ≡ cell)
          (in_cell : IsStored o.handle.0 u.bytes cell) where
        st : Stage g p e Pinning l.fresh l.pin l.owed l.ahead l.behind l.page l.fail
        st = stage g ok w j a l who p rest todo _ Pinning held at

        abbrev page : List ℕ
        page = page_in_cell o cell

        -- the cell's object is the page's
        is_image : u.bytes ≡ image g p.page e.order
        is_image = image_of u (λ f. sw.there (cell_weight f)) named_u

        is_obj : IsForm g.chain (form_at g p.page e.order) (kept.Obj o)
        is_obj = subst (IsForm g.chain (form_at g p.page e.order)) is st.stands

        is_content : page ≡ content g p.page e.order
        is_content =
            ap (λ (len : ℕ). page_kept_as (object_in len cell.bytes) o.huge)
            (image_len g p.page e.order o is_obj ∙ sym (ap length is_image))
            ∙ ap (λ (b : List ℕ). page_kept_as b o.huge) (in_cell.body ∙ is_image)
            ∙ ok.facts.kept_as (content g p.page e.order) (image g p.page e.order) o.huge
            (content_page g ok p.page e.order) (image_form g p.page e.order o is_obj)

        abbrev pinned_cell : Option Pin
        pinned_cell = Some (pin_of o cell)

        names_it : MayPin e.kept pinned_cell
        names_it = subst (λ (k : Kept). MayPin k pinned_cell) (sym is) (refl, refl)

        pinned_stage : (op : Op) → p.op ≡ op → Stage g p e
            (pinned_at op (next_form p (Some page) e.kept) e.kept) l.fresh pinned_cell l.owed
            l.ahead l.behind (Some page) l.fail
        pinned_stage (Write start count stuff) e_op =
            made_stage g p e l.fresh pinned_cell l.owed l.ahead l.behind
            (Some page) l.fail names_it st.owes st.stands st.backs st.marks
            (write_blank p.op (subst IsWrite (sym e_op) tt) l.ahead _)
            (subst (λ (x : Op). IsRight (MaySeeOther g p.page e.order) x p.page page
            (content g p.page e.order)) (sym e_op)
            (inr (inl is_content))) st.counts.0 st.counts.1 st.fails st.begun
            (subst IsWrite (sym e_op) tt) st.made (next_form p (Some page) e.kept) refl e.kept refl
        pinned_stage (Read start count) e_op = record {
          kind = st.kind;
          made = st.made;
          pins = names_it;
          owes = st.owes;
          stands = st.stands;
          backs = st.backs;
          marks = st.marks;
          partly = tt;
          right = subst (λ (x : Op). IsRight (MaySeeOther g p.page e.order) x p.page page
              (content g p.page e.order))
              (sym e_op) (inl is_content);
          counts = st.counts;
          blank = tt;
          fails = subst (λ (x : Op). FailBy g p x l.fail) (sym e_op) st.fails;
          begun = st.begun;
          scans = tt;
          visits = tt;
          compacts = tt;
        }
        pinned_stage (Discard start count) e_op = absurd (subst Looks e_op st.kind.0)
        pinned_stage (Idle age) e_op = absurd (subst Looks e_op st.kind.0)
        pinned_stage (Writeback mode) e_op = absurd (subst Looks e_op st.kind.0)
        pinned_stage Compact e_op = absurd (subst Looks e_op st.kind.0)

        is_pin : (y : UsedCell) → y.handle ≡ o.handle.0 → y.cell ≡ cell
            → pin_in q.class y ≡ pin_of o cell
        is_pin y h c = λ i. record {
          class = class i;
          handle = h i;
          chain = (c i).chain;
          number = (c i).number;
          size = (c i).size;
          bytes = (c i).bytes;
        }

        pinned_locks : (op : Op) (f : PageForm) (c d : ℕ)
            → slot p.page ∷ [] ≡ locks_at (pinned_at op f e.kept) p c d
        pinned_locks (Write start count stuff) f c d = made_locks f e.kept p c d
        pinned_locks (Read start count) f c d = refl
        pinned_locks (Discard start count) f c d = refl
        pinned_locks (Idle age) f c d = refl
        pinned_locks (Writeback mode) f c d = refl
        pinned_locks Compact f c d = refl

        pub give_pins : Gift g w a l (lock.Class o.class) (holds.Class q')
            (on l (pinned_at p.op (next_form p (Some page) e.kept) e.kept)
            ((slot p.page, holds.Slot e) ∷ []) l.fresh pinned_cell l.owed l.ahead l.behind
            (Some page) l.fail)
        give_pins = record {
          home = pool_home q' sw.alike.class (fits_swap g.chain q sound.1 q' u u' sw);
          fits = goes_on g ok w j a l who p rest todo (pinned_at p.op
              (next_form p (Some page) e.kept) e.kept) ((slot p.page, holds.Slot e) ∷ []) l.fresh
              pinned_cell l.owed l.ahead l.behind (Some page) l.fail
              (pinned_locks p.op (next_form p (Some page) e.kept) _ _)
              (all g ok w j a l who p rest todo _ Pinning held at).1 (pinned_stage p.op refl)
              (let lr = ap (held_sum (spot n) (claims g each_one)) held in
              let lx = ap (held_sum (spot n) (ever_at g)) held in
              let lz = (fit g ok w j a l who p rest todo).lean in omega arith);
          alone = λ i. let r = ap (held_sum (spot n) (at_place i)) held in omega arith;
          owners = λ f. let r = ap (held_sum (spot n) (claims g f)) held in
              let x = ap (held_sum (spot n) (stored f)) held in
              let s = swap_stored q q' u u' sw f in omega arith;
          storage = quiet_storage g w a l _ _ _ j who Pinning at tt (plain_pinned p.op (next_form p (Some page) e.kept) e.kept)
              (apart g a l _ _ _ (λ f z y. let r = ap (held_sum (spot n) f) held in
              let s = z (n + o.class) q in let t = z (n + o.class) q' in omega arith));
          pins = λ f. let r = ap (held_sum (spot n) (outs f)) held in
              let x = ap (held_sum (spot n) nothing) held in
              let s = swap_out q q' u u' sw free taken f in
              let z : f (pin_in q.class u') ≡ f (pin_of o cell) =
              ap f (is_pin u' (sw.handle ∙ named_u) (sw.cell ∙ is_cell)) in
              let v = none_pin f l.pin st.pins in omega arith;
          frames = let r = ap (held_sum (spot n) pages) held in
              let x = ap (held_sum (spot n) chains) held in let s = sw.frames in omega arith;
          counts = λ i. let r = ap (held_sum (spot n) (counters i)) held in
              let x = ap (held_sum (spot n) (shown i)) held in omega arith;
          stays = λ y. let r = ap (held_sum (spot n) (fixed y)) held in omega arith;
          rises = let r = ap (held_sum (spot n) (ever_at g)) held in omega arith;
          most = inl (
            (let r = ap (held_sum (spot n) mosts) held in omega arith),
            (let r = ap (held_sum (spot n) pages) held in omega arith),
          );
        }

      module _ (at : l.at ≡ Unpinning) (taken : u.out ≡ true) (free : u'.out ≡ false) where
        su : Stage g p e Unpinning l.fresh l.pin l.owed l.ahead l.behind l.page l.fail
        su = stage g ok w j a l who p rest todo _ Unpinning held at

        unpinned : (f : PinWeigh) (x : Option Pin) → l.pin ≡ x → IsPinned e.kept x
            → f (pin_in q.class u) ≡ by_option f x
        unpinned f None e_pin i = absurd i
        unpinned f (Some x) e_pin i = ap f (pin_is g w j a l who p.page o q e held is x e_pin i u
            sw.there (named_u ∙ sym (subst (λ (k : Kept). Names k x) is i).1))

        pub give_unpins : Gift g w a l (lock.Class o.class) (holds.Class q')
            (on l Leaving ((slot p.page, holds.Slot e) ∷ []) l.fresh None l.owed l.ahead l.behind
            l.page l.fail)
        give_unpins = record {
          home = pool_home q' sw.alike.class (fits_swap g.chain q sound.1 q' u u' sw);
          fits = goes_on g ok w j a l who p rest todo Leaving
              ((slot p.page, holds.Slot e) ∷ []) l.fresh None l.owed l.ahead l.behind l.page l.fail
              refl (all g ok w j a l who p rest todo _ Unpinning held at).1
              (record {
                kind = su.kind.0;
                made = su.made;
                pins = tt;
                owes = su.owes;
                stands = su.stands;
                backs = su.backs;
                marks = su.marks;
                partly = tt;
                right = su.right;
                counts = su.counts;
                blank = tt;
                fails = su.fails;
                begun = su.begun;
                scans = tt;
                visits = tt;
                compacts = tt;
              }) (let lr =
              ap (held_sum (spot n) (claims g each_one)) held in
              let lx = ap (held_sum (spot n) (ever_at g)) held in
              let lz = (fit g ok w j a l who p rest todo).lean in omega arith);
          alone = λ i. let r = ap (held_sum (spot n) (at_place i)) held in omega arith;
          owners = λ f. let r = ap (held_sum (spot n) (claims g f)) held in
              let x = ap (held_sum (spot n) (stored f)) held in
              let s = swap_stored q q' u u' sw f in omega arith;
          storage = quiet_storage g w a l _ _ _ j who Unpinning at tt tt
              (apart g a l _ _ _ (λ f z y. let r = ap (held_sum (spot n) f) held in
              let s = z (n + o.class) q in let t = z (n + o.class) q' in omega arith));
          pins = λ f. let r = ap (held_sum (spot n) (outs f)) held in
              let x = ap (held_sum (spot n) nothing) held in
              let s = swap_home q q' u u' sw taken free f in
              let z = unpinned f l.pin refl su.pins in omega arith;
          frames = let r = ap (held_sum (spot n) pages) held in
              let x = ap (held_sum (spot n) chains) held in let s = sw.frames in omega arith;
          counts = λ i. let r = ap (held_sum (spot n) (counters i)) held in
              let x = ap (held_sum (spot n) (shown i)) held in omega arith;
          stays = λ y. let r = ap (held_sum (spot n) (fixed y)) held in omega arith;
          rises = let r = ap (held_sum (spot n) (ever_at g)) held in omega arith;
          most = inl (
            (let r = ap (held_sum (spot n) mosts) held in omega arith),
            (let r = ap (held_sum (spot n) pages) held in omega arith),
          );
        }

    module _ (q' : PoolState) (m : ℕ) (fp : FreesPinned l.pin q q' o.handle.0 m)
        (at : l.at ≡ Freeing) where
      sf : Stage g p e Freeing l.fresh l.pin l.owed l.ahead l.behind l.page l.fail
      sf = stage g ok w j a l who p rest todo _ Freeing held at

      abbrev u : UsedCell
      u = fp.object

      abbrev mid : PoolState
      mid = fp.between

      pin_named : (y : Option Pin) → l.pin ≡ y → MayPin e.kept y → (x : Pin) → y ≡ Some x
          → (l.pin ≡ Some x) × Names e.kept x
      pin_named None e_pin i x e_x = absurd (cc)
      pin_named (Some z) e_pin i x e_x = let q0 : z ≡ x = cc in
          (e_pin ∙ e_x, subst (Names e.kept) q0 i)

      back : IsBack g.chain l.pin q mid
      back = is_back g.chain l.pin q mid sound.1 fp.back (λ x e_pin v there named_v out.
          let y = pin_named l.pin refl sf.pins x e_pin in
          pin_is g w j a l who p.page o q e held is x y.0 y.1 v there named_v)

      -- the object's bytes are the page's
      freed_bytes : u.bytes ≡ image g p.page e.order
      freed_bytes = image_of u (λ f. let r = fp.gone.less (cell_weight f) in
          let s = back.stored (λ c. f) in omega arith) fp.named

      -- what the actor sees stays, where its entry is emptied
      abbrev sees : Kept → List ℕ
      sees k = page_in l.page k

      emptied_sees : (y : Option (List ℕ)) (k : Kept) → k ≡ kept.Obj o
          → page_in y k ≡ page_in y kept.Empty
      emptied_sees None k e' = ap (page_in None) e'
      emptied_sees (Some y) k e' = refl

      same_form : next_form p l.page e.kept ≡ next_form p l.page kept.Empty
      same_form = ap (next_by p.op p) (emptied_sees l.page e.kept is)

      few_frames : m ≤ g.chain
      few_frames = let a1 = fp.gone.few in let b1 = back.chain_is in
          let c1 = chain_low g.chain q sound.1 ok.proper.least in omega arith

      freed_small : IsSmall (weight_of e.kept)
      freed_small = kept_small g ok p.page e.order e.kept sf.stands

      freed_stage : Stage g p (emptied e) Owing l.fresh None m
          (Some (weight_of e.kept)) l.behind l.page l.fail
      freed_stage = record {
        kind = (sf.kind.0, tt);
        made = subst (λ (x : PageForm). Bears g.chain x l.fresh) same_form sf.made;
        pins = tt;
        owes = few_frames;
        stands = tt;
        backs = tt;
        marks = tt;
        partly = tt;
        right = subst (λ (x : List ℕ). IsRight (MaySeeOther g p.page e.order) p.op p.page x
            (content g p.page e.order))
            (emptied_sees l.page e.kept is) sf.right;
        counts = ((tt, freed_small), sf.counts.1);
        blank = sf.blank;
        fails = sf.fails;
        begun = sf.begun;
        scans = tt;
        visits = tt;
        compacts = tt;
      }

      emptied_fits : EntryFits g p.page e → EntryFits g p.page (emptied e)
      emptied_fits x = record {
        page = x.page;
        calls = x.calls;
        touched = x.touched;
        mark = x.mark;
        small = omega arith;
      }

      pub give_frees : Gift g w a l (lock.Class o.class) (holds.Class q')
          (on l Owing ((slot p.page, holds.Slot (emptied e)) ∷ []) l.fresh None m
          (Some (weight_of e.kept)) l.behind l.page l.fail)
      give_frees = record {
        home = pool_home q' (fp.gone.alike.class ∙ back.class)
            (fits_less g.chain mid back.fits q' u m fp.gone);
        fits = goes_on g ok w j a l who p rest todo Owing
            ((slot p.page, holds.Slot (emptied e)) ∷ []) l.fresh None m
            (Some (weight_of e.kept)) l.behind l.page l.fail refl
            (emptied_fits (all g ok w j a l who p rest todo _ Freeing held at).1.0, tt) freed_stage
            (let lr = ap (held_sum (spot n) (claims g each_one)) held in
            let lx = ap (held_sum (spot n) (ever_at g)) held in
            let lz = (fit g ok w j a l who p rest todo).lean in
            let k : claim_by each_one e.kept (image g p.page e.order) ≡ 1 =
            ap (λ (k : Kept). claim_by each_one k (image g p.page e.order)) is in
            let few = some_one m in omega arith);
        alone = λ i. let r = ap (held_sum (spot n) (at_place i)) held in omega arith;
        owners = λ f. let r = ap (held_sum (spot n) (claims g f)) held in
            let x = ap (held_sum (spot n) (stored f)) held in
            let s = less_stored mid q' u m fp.gone f in let b1 = back.stored f in
            let c : claim_by f e.kept (image g p.page e.order) ≡ f mid.class u.handle u.bytes =
            ap (λ (k : Kept). claim_by f k (image g p.page e.order)) is
            ∙ (λ i. f (sym (back.class ∙ class) i) (sym fp.named i) (sym freed_bytes i)) in
            omega arith;
        storage = quiet_storage g w a l _ _ _ j who Freeing at tt tt (record {
          blocks = λ f. let r = ap (held_sum (spot n) (block_claims f)) held in
              let x = ap (held_sum (spot n) (used_blocks f)) held in
              let z = ap (block_by f) is in omega arith;
          maps = let r = ap (held_sum (spot n) map_size) held in omega arith;
          devices = let r = ap (held_sum (spot n) device_size) held in omega arith;
          lies = λ b bytes. let r = ap (held_sum (spot n) (lies_at g b bytes)) held in omega arith;
          stored = λ b bytes. let r = ap (held_sum (spot n) (stored_at b bytes)) held in omega arith;
          marks = λ i b bytes. let r = ap (held_sum (spot n) (mark_at g i b bytes)) held in
              omega arith;
          shows = λ c i b ne. let r = ap (held_sum (spot n) (shows_at c i b)) held in omega arith;
        });
        pins = λ f. let r = ap (held_sum (spot n) (outs f)) held in
            let x = ap (held_sum (spot n) nothing) held in
            let s = less_outs mid q' u m fp.gone fp.home f in let c = back.outs f in omega arith;
        frames = let r = ap (held_sum (spot n) pages) held in
            let x = ap (held_sum (spot n) chains) held in let s = fp.gone.frames in
            let b1 = back.frames in let z = sf.owes in omega arith;
        counts = λ i. let r = ap (held_sum (spot n) (counters i)) held in
            let x = ap (held_sum (spot n) (shown i)) held in
            let y = none_weight i l.ahead sf.counts.0 in let z = nothing_shown i in omega arith;
        stays = λ y. let r = ap (held_sum (spot n) (fixed y)) held in omega arith;
        rises = let r = ap (held_sum (spot n) (ever_at g)) held in omega arith;
        most = inl (
          (let r = ap (held_sum (spot n) mosts) held in omega arith),
          (let r = ap (held_sum (spot n) pages) held in omega arith),
        );
      }

  -- ---- the new object

  module _ (e : EntryState) (c : Counters) (q : PoolState) (cl : ℕ) (at : l.at ≡ Both)
      (held : l.held ≡ (lock.Account, holds.Account c) ∷ (lock.Class cl, holds.Class q) ∷
      (slot p.page, holds.Slot e) ∷ []) where
    sb : Stage g p e Both l.fresh l.pin l.owed l.ahead l.behind l.page l.fail
    sb = stage g ok w j a l who p rest todo _ Both held at

    sounds : HeldAll n (Sound g) ((lock.Account, holds.Account c) ∷ (lock.Class cl, holds.Class q) ∷
        (slot p.page, holds.Slot e) ∷ [])
    sounds = all g ok w j a l who p rest todo _ Both held at

    in_class_lock : lock.Class cl ≡ lock.Class (class_in g.chain (next_form p l.page e.kept))
    in_class_lock = let y = locks g ok w j a l who p rest todo _ Both held at in cc

    module _ (q' : PoolState) (h need : ℕ) (bytes : List ℕ) (huge : Bool)
        (is_form : next_form p l.page e.kept ≡ Pooled bytes huge)
        (is_class : cl ≡ object_class g.chain bytes huge) (within : IsWithinLimit c need)
        (al : Allocates q q' h bytes need) where
      abbrev new_object : Object
      new_object = record { class = cl; handle = h; bytes = bytes }

      class_q : q.class ≡ cl
      class_q = let k = sounds.1.0.0 in omega arith

      charged_stage : Stage g p e Made (Some new_object) l.pin l.owed l.ahead l.behind l.page l.fail
      charged_stage = record {
        kind = sb.kind;
        made = made_by l.fail sb.fails;
        pins = sb.pins;
        owes = sb.owes;
        stands = sb.stands;
        backs = sb.backs;
        marks = sb.marks;
        partly = tt;
        right = sb.right;
        counts = sb.counts;
        blank = tt;
        fails = may_by l.fail sb.fails;
        begun = sb.begun;
        scans = tt;
        visits = tt;
        compacts = tt;
      } where
        made_by : (x : Option PartEnd) → NoneOf x → MadeBy g.chain x (next_form p l.page e.kept)
            (Some new_object)
        made_by None i = subst (λ (y : PageForm). Bears g.chain y (Some new_object)) (sym is_form)
            (is_class, refl)
        made_by (Some x) i = absurd i

        may_by : (x : Option PartEnd) → NoneOf x → MayFail g p x
        may_by None i = tt
        may_by (Some x) i = absurd i

      pub give_charges : Gift g w a l lock.Account (holds.Account (charged c need))
          (on l Made ((lock.Class cl, holds.Class q') ∷ (slot p.page, holds.Slot e) ∷ [])
          (Some new_object) l.pin l.owed l.ahead l.behind l.page l.fail)
      give_charges = record {
        home = record { sound = refl; stands = tt; backs = tt; marks = tt };
        fits = goes_on g ok w j a l who p rest todo Made
            ((lock.Class cl, holds.Class q') ∷ (slot p.page, holds.Slot e) ∷ [])
            (Some new_object) l.pin l.owed l.ahead l.behind l.page l.fail
            (ap (λ (k : LockNo). k ∷ slot p.page ∷ []) in_class_lock) (
              (
                let k = al.alike.class in let i = class_q in
                    let z : n + cl ≡ n + q'.class = omega arith in
                    z,
                fits_more g.chain q sounds.1.0.1 q' h need bytes al,
              ),
              sounds.1.1,
            ) charged_stage
            (let lr = ap (held_sum (spot n) (claims g each_one)) held in
            let lx = ap (held_sum (spot n) (ever_at g)) held in let lz = ap some_of sb.owes in
            let lf = form_claim g.chain (form_at g p.page e.order) e.kept
            (image g p.page e.order) sb.stands in let le = ever_now g p.page e.order in
            omega arith);
        alone = λ i. let r = ap (held_sum (spot n) (at_place i)) held in omega arith;
        owners = λ f. let r = ap (held_sum (spot n) (claims g f)) held in
            let x = ap (held_sum (spot n) (stored f)) held in
            let s = more_stored q q' h need bytes al f in let y = none_fresh f l.fresh sb.made in
            let z : f q.class h bytes ≡ f cl h bytes = ap (λ (k : ℕ). f k h bytes) class_q in
            omega arith;
        storage = quiet_storage g w a l _ _ _ j who Both at tt tt
            (apart g a l _ _ _ (λ f z y. let r = ap (held_sum (spot n) f) held in
            let s = z (n + cl) q in let t = z (n + cl) q' in let u = y (n + 255) c in
            let v = y (n + 255) (charged c need) in omega arith));
        pins = λ f. let r = ap (held_sum (spot n) (outs f)) held in
            let x = ap (held_sum (spot n) nothing) held in
            let s = more_outs q q' h need bytes al f in omega arith;
        frames = let r = ap (held_sum (spot n) pages) held in
            let x = ap (held_sum (spot n) chains) held in let s = al.frames in omega arith;
        counts = λ i. let r = ap (held_sum (spot n) (counters i)) held in
            let x = ap (held_sum (spot n) (shown i)) held in let s = charged_count i c need in
            omega arith;
        stays = λ y. let r = ap (held_sum (spot n) (fixed y)) held in
            let z = charged_fixed y c need in omega arith;
        rises = let r = ap (held_sum (spot n) (ever_at g)) held in omega arith;
        most = inr (record {
          c = c;
          need = need;
          held = _;
          was = held;
          value = refl;
          within = within;
          no_most = refl;
          no_pages = refl;
          no_limit = refl;
          after_most = refl;
          after_pages = refl;
        });
      }

    -- the need is that of a class whose objects are so long
    put_same : (start count : ℕ) (stuff : Stuff) → p.op ≡ Write start count stuff
        → has_whole start count p.page ≡ true
        → form_of (page_put start stuff p.page) ≡ next_form p l.page e.kept
    put_same start count stuff e_op whole =
        ap form_of (put_page p start count stuff (page_in l.page e.kept) e_op whole)
        ∙ sym (ap (λ (o : Op). next_by o p (page_in l.page e.kept)) e_op)

    may_want : (op : Op) → p.op ≡ op → IsWrite op → MayWant page_weight op p.page
    may_want (Write start count stuff) e_op i = λ whole.
        ap (λ (x : PageForm). is_pooled (form_weight x)) (put_same start count stuff e_op whole)
        ∙ pooled_weight (next_form p l.page e.kept) sb.kind.1
    may_want (Read start count) e_op i = absurd i
    may_want (Discard start count) e_op i = absurd i
    may_want (Idle age) e_op i = absurd i
    may_want (Writeback mode) e_op i = absurd i
    may_want Compact e_op i = absurd i

    class_num : cl ≡ class_in g.chain (next_form p l.page e.kept)
    class_num = let y = in_class_lock in cc

    of_class_is : (op : Op) → p.op ≡ op → IsWrite op → IsOfClass (ground_of g) op p.page q.class
    of_class_is (Write start count stuff) e_op i = λ whole.
        ap (λ (x : PageForm). in_class g.chain q.class (form_weight x))
        (put_same start count stuff e_op whole)
        ∙ class_weight g.chain q.class (next_form p l.page e.kept) sb.kind.1
        (let k = sounds.1.0.0 in let c1 : cl ≡ class_in g.chain (next_form p l.page e.kept) =
        class_num in omega arith)
    of_class_is (Read start count) e_op i = absurd i
    of_class_is (Discard start count) e_op i = absurd i
    of_class_is (Idle age) e_op i = absurd i
    of_class_is (Writeback mode) e_op i = absurd i
    of_class_is Compact e_op i = absurd i

    pub memory_refusal : IsRefusal g p NoMemory
    memory_refusal = (sb.begun, may_want p.op refl sb.kind.0)

    limit_is : c.limit ≡ g.was.limit
    limit_is =
        let z = lone g w j a l who lock.Account (fixed Limit) (under_account g (fixed_count Limit))
        (mine_account g w j a l who c _ held) in
        let r = ap (held_sum (spot n) (fixed Limit)) held in let s = j.stays Limit in omega arith

    pub limit_refusal : (need : ℕ) → IsNeed q need → IsPastLimit c need
        → IsRefusal g p (AtLimit c.pages need c.limit)
    limit_refusal need is_need past = (
      sb.begun,
      record {
        wants = may_want p.op refl sb.kind.0;
        is = limit_is;
        some = past.0;
        past = past.1;
        needs = ⊎_elim
            (λ z. inl z.1)
            (λ z. inr (
              q.class,
              sounds.1.0.1.class,
              z.1 ∙ sounds.1.0.1.frames,
              of_class_is p.op refl sb.kind.0,
            ))
            is_need;
      },
    )

    pub give_refused : (x : PartEnd) → IsRefusal g p x → Gift g w a l lock.Account
        (holds.Account (counted c delta.FailedWrite)) (on l Made
        ((lock.Class cl, holds.Class q) ∷ (slot p.page, holds.Slot e) ∷ []) l.fresh l.pin l.owed
        l.ahead l.behind l.page (Some x))
    give_refused x is = record {
      home = record { sound = refl; stands = tt; backs = tt; marks = tt };
      fits = goes_on g ok w j a l who p rest todo Made ((lock.Class cl, holds.Class q) ∷
          (slot p.page, holds.Slot e) ∷ []) l.fresh l.pin l.owed l.ahead l.behind l.page (Some x)
          (ap (λ (k : LockNo). k ∷ slot p.page ∷ []) in_class_lock) sounds.1
          (record {
            kind = sb.kind;
            made = sb.made;
            pins = sb.pins;
            owes = sb.owes;
            stands = sb.stands;
            backs = sb.backs;
            marks = sb.marks;
            partly = tt;
            right = sb.right;
            counts = sb.counts;
            blank = tt;
            fails = is;
            begun = sb.begun;
            scans = tt;
            visits = tt;
            compacts = tt;
          }) (let lr = ap (held_sum (spot n) (claims g each_one)) held in
          let lx = ap (held_sum (spot n) (ever_at g)) held in
          let lz = (fit g ok w j a l who p rest todo).lean in omega arith);
      alone = λ i. let r = ap (held_sum (spot n) (at_place i)) held in omega arith;
      owners = λ f. let r = ap (held_sum (spot n) (claims g f)) held in
          let x = ap (held_sum (spot n) (stored f)) held in omega arith;
      storage = quiet_storage g w a l _ _ _ j who Both at tt tt
          (apart g a l _ _ _ (λ f z y. let r = ap (held_sum (spot n) f) held in
          let s = y (n + 255) c in let t = y (n + 255) (counted c delta.FailedWrite) in omega arith));
      pins = λ f. let r = ap (held_sum (spot n) (outs f)) held in
          let x = ap (held_sum (spot n) nothing) held in omega arith;
      frames = let r = ap (held_sum (spot n) pages) held in
          let x = ap (held_sum (spot n) chains) held in omega arith;
      counts = λ i. let r = ap (held_sum (spot n) (counters i)) held in
          let x = ap (held_sum (spot n) (shown i)) held in let s = failed_count i c in omega arith;
      stays = λ y. let r = ap (held_sum (spot n) (fixed y)) held in let z = failed_fixed y c in
          omega arith;
      rises = let r = ap (held_sum (spot n) (ever_at g)) held in omega arith;
      most = inl (
        (let r = ap (held_sum (spot n) mosts) held in omega arith),
        (let r = ap (held_sum (spot n) pages) held in omega arith),
      );
    }

  module _ (e : EntryState) (q : PoolState) (cl : ℕ) (at : l.at ≡ Made)
      (held : l.held ≡ (lock.Class cl, holds.Class q) ∷ (slot p.page, holds.Slot e) ∷ []) where
    sm : Stage g p e Made l.fresh l.pin l.owed l.ahead l.behind l.page l.fail
    sm = stage g ok w j a l who p rest todo _ Made held at

    writes_change : (op : Op) → IsWrite op → Changes op
    writes_change (Write start count stuff) i = tt
    writes_change (Read start count) i = absurd i
    writes_change (Discard start count) i = absurd i
    writes_change (Idle age) i = absurd i
    writes_change (Writeback mode) i = absurd i
    writes_change Compact i = absurd i

    pub give_stows : l.fail ≡ None → Gift g w a l (lock.Class cl) (holds.Class q)
        (on l (settle_at e.kept) ((slot p.page, holds.Slot e) ∷ []) l.fresh l.pin l.owed l.ahead
        l.behind l.page l.fail)
    give_stows well = record {
      home = record {
        sound = (all g ok w j a l who p rest todo _ Made held at).0;
        stands = tt;
        backs = tt;
        marks = tt;
      };
      fits = goes_on g ok w j a l who p rest todo (settle_at e.kept)
          ((slot p.page, holds.Slot e) ∷ []) l.fresh l.pin l.owed l.ahead l.behind l.page l.fail
          (settle_locks e.kept p _ _) (all g ok w j a l who p rest todo _ Made held at).1
          (settle_stage g p e l.fresh l.pin l.owed l.ahead l.behind l.page l.fail sm.pins sm.owes
          sm.stands sm.backs sm.marks (write_blank p.op sm.kind.0 l.ahead _) sm.right sm.counts.0
          sm.counts.1 (subst NoneOf (sym well) tt) sm.begun (writes_change p.op sm.kind.0)
          (subst (λ (x : Option PartEnd). MadeBy g.chain x (next_form p l.page e.kept) l.fresh) well
          sm.made) e.kept refl) (let lr = ap (held_sum (spot n) (claims g each_one)) held in
          let lx = ap (held_sum (spot n) (ever_at g)) held in
          let lz = (fit g ok w j a l who p rest todo).lean in omega arith);
      alone = λ i. let r = ap (held_sum (spot n) (at_place i)) held in omega arith;
      owners = λ f. let r = ap (held_sum (spot n) (claims g f)) held in
          let x = ap (held_sum (spot n) (stored f)) held in omega arith;
      storage = quiet_storage g w a l _ _ _ j who Made at tt (plain_settle e.kept)
          (apart g a l _ _ _ (λ f z y. let r = ap (held_sum (spot n) f) held in
          let s = z (n + cl) q in omega arith));
      pins = λ f. let r = ap (held_sum (spot n) (outs f)) held in
          let x = ap (held_sum (spot n) nothing) held in omega arith;
      frames = let r = ap (held_sum (spot n) pages) held in
          let x = ap (held_sum (spot n) chains) held in omega arith;
      counts = λ i. let r = ap (held_sum (spot n) (counters i)) held in
          let x = ap (held_sum (spot n) (shown i)) held in omega arith;
      stays = λ y. let r = ap (held_sum (spot n) (fixed y)) held in omega arith;
      rises = let r = ap (held_sum (spot n) (ever_at g)) held in omega arith;
      most = inl (
        (let r = ap (held_sum (spot n) mosts) held in omega arith),
        (let r = ap (held_sum (spot n) pages) held in omega arith),
      );
    }

    module _ (x : PartEnd) (bad : l.fail ≡ Some x) where
      no_fresh : NoneOf l.fresh
      no_fresh = subst (λ (y : Option PartEnd). MadeBy g.chain y
          (next_form p l.page e.kept) l.fresh) bad sm.made

      write_fails : (op : Op) (y : Option PartEnd) → y ≡ Some x → IsWrite op → MayFail g p y
          → FailBy g p op y
      write_fails (Write start count stuff) None i k f = absurd (cc)
      write_fails (Write start count stuff) (Some y) i k f = f
      write_fails (Read start count) y i k f = absurd k
      write_fails (Discard start count) y i k f = absurd k
      write_fails (Idle age) y i k f = absurd k
      write_fails (Writeback mode) y i k f = absurd k
      write_fails Compact y i k f = absurd k

      write_looks : (op : Op) → IsWrite op → Looks op
      write_looks (Write start count stuff) k = tt
      write_looks (Read start count) k = absurd k
      write_looks (Discard start count) k = absurd k
      write_looks (Idle age) k = absurd k
      write_looks (Writeback mode) k = absurd k
      write_looks Compact k = absurd k

      named_obj : (k : Kept) (y : Pin) → Names k y → IsObj k
      named_obj kept.Empty y i = absurd i
      named_obj (kept.Same v) y i = absurd i
      named_obj (kept.Obj o) y i = tt
      named_obj (kept.Wb b) y i = absurd i

      quit_stage : (pin : Option Pin) → MayPin e.kept pin
          → Stage g p e (quit_at pin) l.fresh pin l.owed l.ahead l.behind l.page l.fail
      quit_stage None i = record {
        kind = write_looks p.op sm.kind.0;
        made = no_fresh;
        pins = tt;
        owes = sm.owes;
        stands = sm.stands;
        backs = sm.backs;
        marks = sm.marks;
        partly = tt;
        right = sm.right;
        counts = sm.counts;
        blank = tt;
        fails = write_fails p.op l.fail bad sm.kind.0 sm.fails;
        begun = sm.begun;
        scans = tt;
        visits = tt;
        compacts = tt;
      }
      quit_stage (Some y) i = record {
        kind = (write_looks p.op sm.kind.0, named_obj e.kept y i);
        made = no_fresh;
        pins = i;
        owes = sm.owes;
        stands = sm.stands;
        backs = sm.backs;
        marks = sm.marks;
        partly = tt;
        right = sm.right;
        counts = sm.counts;
        blank = tt;
        fails = write_fails p.op l.fail bad sm.kind.0 sm.fails;
        begun = sm.begun;
        scans = tt;
        visits = tt;
        compacts = tt;
      }

      quit_locks : (pin : Option Pin) (c d : ℕ) → slot p.page ∷ [] ≡ locks_at (quit_at pin) p c d
      quit_locks None c d = refl
      quit_locks (Some y) c d = refl

      pub give_quits : Gift g w a l (lock.Class cl) (holds.Class q)
          (on l (quit_at l.pin) ((slot p.page, holds.Slot e) ∷ []) l.fresh l.pin l.owed l.ahead
          l.behind l.page l.fail)
      give_quits = record {
        home = record {
          sound = (all g ok w j a l who p rest todo _ Made held at).0;
          stands = tt;
          backs = tt;
          marks = tt;
        };
        fits = goes_on g ok w j a l who p rest todo (quit_at l.pin)
            ((slot p.page, holds.Slot e) ∷ []) l.fresh l.pin l.owed l.ahead l.behind l.page l.fail
            (quit_locks l.pin _ _) (all g ok w j a l who p rest todo _ Made held at).1
            (quit_stage l.pin sm.pins) (let lr = ap (held_sum (spot n) (claims g each_one)) held in
            let lx = ap (held_sum (spot n) (ever_at g)) held in
            let lz = (fit g ok w j a l who p rest todo).lean in omega arith);
        alone = λ i. let r = ap (held_sum (spot n) (at_place i)) held in omega arith;
        owners = λ f. let r = ap (held_sum (spot n) (claims g f)) held in
            let x = ap (held_sum (spot n) (stored f)) held in omega arith;
        storage = quiet_storage g w a l _ _ _ j who Made at tt (plain_quit l.pin)
            (apart g a l _ _ _ (λ f z y. let r = ap (held_sum (spot n) f) held in
            let s = z (n + cl) q in omega arith));
        pins = λ f. let r = ap (held_sum (spot n) (outs f)) held in
            let x = ap (held_sum (spot n) nothing) held in omega arith;
        frames = let r = ap (held_sum (spot n) pages) held in
            let x = ap (held_sum (spot n) chains) held in omega arith;
        counts = λ i. let r = ap (held_sum (spot n) (counters i)) held in
            let x = ap (held_sum (spot n) (shown i)) held in omega arith;
        stays = λ y. let r = ap (held_sum (spot n) (fixed y)) held in omega arith;
        rises = let r = ap (held_sum (spot n) (ever_at g)) held in omega arith;
        most = inl (
          (let r = ap (held_sum (spot n) mosts) held in omega arith),
          (let r = ap (held_sum (spot n) pages) held in omega arith),
        );
      }
