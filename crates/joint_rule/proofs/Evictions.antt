-- What each giving of a writeback does that has to do with pools and the account.
use Rattle.std.proofs.Common.{cond, is_none, ◌≡◌, ◌+◌, ◌≤◌, ◌∷◌, ◌∙◌, ℕ, true, false, List, [], length, sum_by, Option, Some, None, slice_get, refl, sym, ap, subst, arith, inl}
use Rattle.call_history.specs.declared.part.Part.{Part}
use Rattle.class_pool.specs.Pool.{PoolState, used_cells}
use Rattle.joint_rule.proofs.Arrivals.{visit_stage}
use Rattle.joint_rule.proofs.Balances.{less_outs, less_stored, settled_count, settled_fixed, settled_most, settled_pages, swap_home, swap_out, swap_stored}
use Rattle.joint_rule.proofs.Blocks.{apart}
use Rattle.joint_rule.proofs.Facts.{Known}
use Rattle.joint_rule.proofs.Gifts.{Gift, all, fit, goes_on, none_pin, old_is, some_one, stage}
use Rattle.joint_rule.proofs.Lookups.{can_repay, class_is, has_counted, none_weight, nothing_shown, object_is, pin_is}
use Rattle.joint_rule.proofs.Pages.{content_page, image_form, image_len, kept_small}
use Rattle.joint_rule.proofs.Pools.{GivesUp, Swaps, chain_low, fits_less, fits_swap}
use Rattle.joint_rule.proofs.Trips.{IsKept, alike_storage, idle_carried, idle_carries, idle_written}
use Rattle.joint_rule.specs.Begins.{Begin, content, form_at, image}
use Rattle.joint_rule.specs.Joint.{AtHome, EntryFits, Joint, PoolFits, Sound}
use Rattle.joint_rule.specs.Stages.{GoneBy, IsForm, IsGone, IsPinned, IsPooled, IsSmall, Names, Stage}
use Rattle.joint_rule.specs.Weights.{Count, PinWeigh, at_place, block_by, block_claims, carried_by, carries_at, cell_weight, chains, claim_by, claims, counter, counters, device_size, each_one, ever_at, fixed, is_carrying, lies_at, map_size, mark_at, measure, mosts, nothing, object_weight, outs, pages, pin_in, shown, shows_at, some_of, stored, stored_at, use_in, used_blocks, written_by}
use Rattle.lock_row.specs.Totals.{by_option, held_sum}
use Rattle.lock_row.specs.declared.names.At.{At}
use Rattle.lock_row.specs.declared.names.At.TheVariants.{Visiting}
use Rattle.lock_row.specs.declared.names.Pin.{Pin}
use Rattle.lock_row.specs.declared.names.State.{State}
use Rattle.lock_row.specs.declared.names.Step.{Step}
use Rattle.lock_row.specs.declared.names.Step.TheVariants as step
use Rattle.lock_row.specs.declared.names.Trip.{Trip}
use Rattle.mem_account.specs.Counters.{Counters, counted}
use Rattle.mem_account.specs.declared.weight.Delta.TheVariants as delta
use Rattle.mem_account.specs.declared.weight.Weight.{Weight}
use Rattle.mem_account.specs.declared.weight.Weight.TheVariants.{Back}
use Rattle.page_steps.specs.Compactions.{repaid}
use Rattle.page_steps.specs.Givings.{old_weight}
use Rattle.page_steps.specs.Nexts.{emptied, pin_of}
use Rattle.page_steps.specs.Pages.{page_in_cell}
use Rattle.page_steps.specs.Steps.{DiskHeld, Here, on, slot, spot}
use Rattle.slot_entry.specs.Entries.{EntryState, weight_of}
use Rattle.slot_entry.specs.Forms.{Blank, PageForm, Pooled, Word, page_kept_as}
use Rattle.slot_entry.specs.declared.kept.Kept.{Kept}
use Rattle.slot_entry.specs.declared.kept.Stored.{Stored}
use Rattle.zr_base.specs.declared.op.Op.TheVariants.{Compact}
use Rattle.zspage.specs.Cells.{CellState, IsStored, UsedCell, object_in}
use Rattle.lock_row.specs.declared.names.LockNo.TheVariants as lock
use Rattle.lock_row.specs.declared.names.Held.TheVariants as holds
use Rattle.slot_entry.specs.declared.kept.Kept.TheVariants as kept

-- a page that is kept as an object is one of the pool
form_pooled : (chain : ℕ) (f : PageForm) (o : Stored) → IsForm chain f (kept.Obj o) → IsPooled f
form_pooled chain Blank o i = absurd i
form_pooled chain (Word w) o i = absurd i
form_pooled chain (Pooled bytes huge) o i = tt

pub gone_by : (x : Option Weight) (k : Kept) → IsGone x k → GoneBy x k
gone_by None k i = absurd i
gone_by (Some w) k i = i

module _ (g : Begin) (ok : Known g) (w : State DiskHeld) (j : Joint g w) (a : ℕ) (l : Here)
    (who : slice_get w.locals a ≡ Some l) (p : Part) (rest : List Part)
    (todo : l.todo ≡ p ∷ rest) (x : Trip) where
  abbrev n : ℕ
  n = g.given.size

  -- ---- pools

  module _ (e : EntryState) (o : Stored) (q : PoolState)
      (held : l.held ≡ (lock.Class o.class, holds.Class q) ∷ (slot x.page, holds.Slot e) ∷ [])
      (is : e.kept ≡ kept.Obj o) where
    sound : Sound g (n + o.class) (holds.Class q)
    sound = (all g ok w j a l who p rest todo _ l.at held refl).0

    class : q.class ≡ o.class
    class = class_is g w j a l who x.page o q e held is

    image_of : (u : UsedCell) → ((f : ℕ → List ℕ → ℕ) → cell_weight f u
        ≤ sum_by (cell_weight f) (used_cells q.zspages)) → u.handle ≡ o.handle.0
        → u.bytes ≡ image g x.page e.order
    image_of u there named_u = object_is g w j a l who x.page o q e held is u there named_u

    pool_home : (q' : PoolState) → q'.class ≡ q.class → PoolFits g.chain q'
        → AtHome g (spot n (lock.Class o.class)) (holds.Class q')
    pool_home q' al f = record {
      sound = (
        let c = class in let d = al in
            let z : n + o.class ≡ n + q'.class = omega arith in z,
        f,
      );
      stands = tt;
      backs = tt;
      marks = tt;
    }

    -- a step that carries nothing
    idle_kept : (s s' : Step) (pin : Option Pin) (page : Option (List ℕ)) (v : DiskHeld)
        → l.at ≡ Visiting s x → is_carrying s ≡ false → is_carrying s' ≡ false
        → IsKept g w a l (lock.Class o.class) v (on l (Visiting s' x) ((slot x.page, holds.Slot e) ∷ [])
        l.fresh pin l.owed l.ahead l.behind page l.fail)
    idle_kept s s' pin page v at was now =
        let m = on l (Visiting s' x) ((slot x.page, holds.Slot e) ∷ []) l.fresh pin l.owed l.ahead
        l.behind page l.fail in record {
          written = λ b bytes. let z = idle_written m s' x refl now b bytes in omega arith;
          carried = λ i b bytes. idle_carried m s' x refl now i b bytes
              ∙ sym (idle_carried l s x at was i b bytes);
          carrier = λ i b is. absurd (let q : None ≡ Some (i, b) =
              sym (idle_carries m s' x refl now) ∙ is in cc);
          shows = λ i b is. absurd (let q : None ≡ Some (i, b) =
              sym (idle_carries m s' x refl now) ∙ is in cc);
        }

    held_lean : held_sum (spot n) (claims g each_one) ((slot x.page, holds.Slot e) ∷ [])
        + (by_option (object_weight each_one) l.fresh + some_of l.owed)
        ≤ held_sum (spot n) (ever_at g) ((slot x.page, holds.Slot e) ∷ []) + 1
    held_lean = let lr = ap (held_sum (spot n) (claims g each_one)) held in
        let lx = ap (held_sum (spot n) (ever_at g)) held in
        let lz = (fit g ok w j a l who p rest todo).lean in omega arith

    module _ (q' : PoolState) (u u' : UsedCell) (sw : Swaps q q' u u')
        (named_u : u.handle ≡ o.handle.0) where
      module _ (cell : CellState) (at : l.at ≡ Visiting step.Pinning x) (free : u.out ≡ false)
          (taken : u'.out ≡ true) (is_cell : u.cell ≡ cell)
          (in_cell : IsStored o.handle.0 u.bytes cell) where
        st : Stage g p e (Visiting step.Pinning x) l.fresh l.pin l.owed l.ahead l.behind l.page l.fail
        st = stage g ok w j a l who p rest todo _ (Visiting step.Pinning x) held at

        abbrev page : List ℕ
        page = page_in_cell o cell

        -- the cell's object is the page's
        is_image : u.bytes ≡ image g x.page e.order
        is_image = image_of u (λ f. sw.there (cell_weight f)) named_u

        is_obj : IsForm g.chain (form_at g x.page e.order) (kept.Obj o)
        is_obj = subst (IsForm g.chain (form_at g x.page e.order)) is st.visits.step.0.page.stands

        is_content : page ≡ content g x.page e.order
        is_content =
            ap (λ (len : ℕ). page_kept_as (object_in len cell.bytes) o.huge)
            (image_len g x.page e.order o is_obj ∙ sym (ap length is_image))
            ∙ ap (λ (b : List ℕ). page_kept_as b o.huge) (in_cell.body ∙ is_image)
            ∙ ok.facts.kept_as (content g x.page e.order) (image g x.page e.order) o.huge
            (content_page g ok x.page e.order) (image_form g x.page e.order o is_obj)

        abbrev pinned_cell : Option Pin
        pinned_cell = Some (pin_of o cell)

        names_it : IsPinned e.kept pinned_cell
        names_it = subst (λ (k : Kept). IsPinned k pinned_cell) (sym is) (refl, refl)

        is_pin : (y : UsedCell) → y.handle ≡ o.handle.0 → y.cell ≡ cell
            → pin_in q.class y ≡ pin_of o cell
        is_pin y h c = λ i. record {
          class = class i;
          handle = h i;
          chain = (c i).chain;
          number = (c i).number;
          size = (c i).size;
          bytes = (c i).bytes;
        }

        pub visit_pins : Gift g w a l (lock.Class o.class) (holds.Class q')
            (on l (Visiting step.Pinned x) ((slot x.page, holds.Slot e) ∷ []) l.fresh pinned_cell
            l.owed l.ahead l.behind (Some page) l.fail)
        visit_pins = record {
          home = pool_home q' sw.alike.class (fits_swap g.chain q sound.1 q' u u' sw);
          fits = goes_on g ok w j a l who p rest todo (Visiting step.Pinned x)
              ((slot x.page, holds.Slot e) ∷ []) l.fresh pinned_cell l.owed l.ahead l.behind
              (Some page) l.fail refl
              (all g ok w j a l who p rest todo _ (Visiting step.Pinning x) held at).1
              (visit_stage g p l.fresh pinned_cell l.owed l.ahead l.behind (Some page) l.fail e
              step.Pinned x st.made names_it st.owes st.counts st.fails st.begun (record {
                trip = st.visits.trip;
                step = (st.visits.step.0, st.visits.step.1, is_content);
              })) held_lean;
          alone = λ i. let r = ap (held_sum (spot n) (at_place i)) held in omega arith;
          owners = λ f. let r = ap (held_sum (spot n) (claims g f)) held in
              let x = ap (held_sum (spot n) (stored f)) held in
              let s = swap_stored q q' u u' sw f in omega arith;
          storage = alike_storage g w a l _ _ _ j who
              (apart g a l _ _ _ (λ f z y. let r = ap (held_sum (spot n) f) held in
              let s = z (n + o.class) q in let t = z (n + o.class) q' in omega arith))
              (λ f. sym (ap (use_in f) at))
              (idle_kept step.Pinning step.Pinned pinned_cell (Some page) _ at refl refl);
          pins = λ f. let r = ap (held_sum (spot n) (outs f)) held in
              let x = ap (held_sum (spot n) nothing) held in
              let s = swap_out q q' u u' sw free taken f in
              let z : f (pin_in q.class u') ≡ f (pin_of o cell) =
              ap f (is_pin u' (sw.handle ∙ named_u) (sw.cell ∙ is_cell)) in
              let v = none_pin f l.pin st.pins in omega arith;
          frames = let r = ap (held_sum (spot n) pages) held in
              let x = ap (held_sum (spot n) chains) held in let s = sw.frames in omega arith;
          counts = λ i. let r = ap (held_sum (spot n) (counters i)) held in
              let x = ap (held_sum (spot n) (shown i)) held in omega arith;
          stays = λ y. let r = ap (held_sum (spot n) (fixed y)) held in omega arith;
          rises = let r = ap (held_sum (spot n) (ever_at g)) held in omega arith;
          most = inl (
            (let r = ap (held_sum (spot n) mosts) held in omega arith),
            (let r = ap (held_sum (spot n) pages) held in omega arith),
          );
        }

      module _ (at : l.at ≡ Visiting step.Unpinning x) (taken : u.out ≡ true) (free : u'.out ≡ false)
        where
          su : Stage g p e (Visiting step.Unpinning x) l.fresh l.pin l.owed l.ahead l.behind l.page
              l.fail
          su = stage g ok w j a l who p rest todo _ (Visiting step.Unpinning x) held at

          unpinned : (f : PinWeigh) (y : Option Pin) → l.pin ≡ y → IsPinned e.kept y
              → f (pin_in q.class u) ≡ by_option f y
          unpinned f None e_pin i = absurd i
          unpinned f (Some y) e_pin i = ap f (pin_is g w j a l who x.page o q e held is y e_pin i u
              sw.there (named_u ∙ sym (subst (λ (k : Kept). Names k y) is i).1))

          pub visit_unpins : Gift g w a l (lock.Class o.class) (holds.Class q')
              (on l (Visiting step.Marking x) ((slot x.page, holds.Slot e) ∷ []) l.fresh None l.owed
              l.ahead l.behind l.page l.fail)
          visit_unpins = record {
            home = pool_home q' sw.alike.class (fits_swap g.chain q sound.1 q' u u' sw);
            fits = goes_on g ok w j a l who p rest todo (Visiting step.Marking x)
                ((slot x.page, holds.Slot e) ∷ []) l.fresh None l.owed l.ahead l.behind l.page l.fail
                refl (all g ok w j a l who p rest todo _ (Visiting step.Unpinning x) held at).1
                (visit_stage g p l.fresh None l.owed l.ahead l.behind l.page l.fail e step.Marking x
                su.made tt su.owes su.counts su.fails su.begun
                (record { trip = su.visits.trip; step = su.visits.step })) held_lean;
            alone = λ i. let r = ap (held_sum (spot n) (at_place i)) held in omega arith;
            owners = λ f. let r = ap (held_sum (spot n) (claims g f)) held in
                let x = ap (held_sum (spot n) (stored f)) held in
                let s = swap_stored q q' u u' sw f in omega arith;
            storage = alike_storage g w a l _ _ _ j who
                (apart g a l _ _ _ (λ f z y. let r = ap (held_sum (spot n) f) held in
                let s = z (n + o.class) q in let t = z (n + o.class) q' in omega arith))
                (λ f. sym (ap (use_in f) at))
                (idle_kept step.Unpinning step.Marking None l.page _ at refl refl);
            pins = λ f. let r = ap (held_sum (spot n) (outs f)) held in
                let x = ap (held_sum (spot n) nothing) held in
                let s = swap_home q q' u u' sw taken free f in
                let z = unpinned f l.pin refl su.pins in omega arith;
            frames = let r = ap (held_sum (spot n) pages) held in
                let x = ap (held_sum (spot n) chains) held in let s = sw.frames in omega arith;
            counts = λ i. let r = ap (held_sum (spot n) (counters i)) held in
                let x = ap (held_sum (spot n) (shown i)) held in omega arith;
            stays = λ y. let r = ap (held_sum (spot n) (fixed y)) held in omega arith;
            rises = let r = ap (held_sum (spot n) (ever_at g)) held in omega arith;
            most = inl (
              (let r = ap (held_sum (spot n) mosts) held in omega arith),
              (let r = ap (held_sum (spot n) pages) held in omega arith),
            );
          }

    -- the page's object is given up
    module _ (q' : PoolState) (u : UsedCell) (frames : ℕ) (up : GivesUp q q' u frames)
        (named_u : u.handle ≡ o.handle.0) (home : u.out ≡ false)
        (at : l.at ≡ Visiting step.Freeing x) where
      sf : Stage g p e (Visiting step.Freeing x) l.fresh l.pin l.owed l.ahead l.behind l.page l.fail
      sf = stage g ok w j a l who p rest todo _ (Visiting step.Freeing x) held at

      -- the object's bytes are the page's
      freed_bytes : u.bytes ≡ image g x.page e.order
      freed_bytes = image_of u (λ f. let r = up.less (cell_weight f) in omega arith) named_u

      few_frames : frames ≤ g.chain
      few_frames = let r = up.few in let c = chain_low g.chain q sound.1 ok.proper.least in omega arith

      freed_small : IsSmall (weight_of e.kept)
      freed_small = kept_small g ok x.page e.order e.kept sf.visits.step.0.page.stands

      emptied_fits : EntryFits g x.page e → EntryFits g x.page (emptied e)
      emptied_fits y = record {
        page = y.page;
        calls = y.calls;
        touched = y.touched;
        mark = y.mark;
        small = omega arith;
      }

      abbrev evicted : Here
      evicted = on l (Visiting step.Backing x) ((slot x.page, holds.Slot (emptied e)) ∷ []) l.fresh l.pin
          frames (Some (weight_of e.kept)) l.behind l.page l.fail

      pub visit_frees : Gift g w a l (lock.Class o.class) (holds.Class q') evicted
      visit_frees = record {
        home = pool_home q' up.alike.class (fits_less g.chain q sound.1 q' u frames up);
        fits = goes_on g ok w j a l who p rest todo (Visiting step.Backing x)
            ((slot x.page, holds.Slot (emptied e)) ∷ []) l.fresh l.pin frames
            (Some (weight_of e.kept)) l.behind l.page l.fail refl (
              emptied_fits (all g ok w j a l who p rest todo _ (Visiting step.Freeing x) held at).1.0,
              tt,
            )
            (visit_stage g p l.fresh l.pin frames (Some (weight_of e.kept)) l.behind l.page l.fail
            (emptied e) step.Backing x sf.made sf.pins few_frames ((tt, freed_small), sf.counts.1)
            sf.fails sf.begun (record {
              trip = sf.visits.trip;
              step = (
                record {
                  gone = tt;
                  pooled = form_pooled g.chain (form_at g x.page e.order) o
                      (subst (IsForm g.chain (form_at g x.page e.order)) is
                      sf.visits.step.0.page.stands);
                  mark = sf.visits.step.0.mark;
                },
                sf.visits.step.1,
                sf.visits.step.2,
              );
            }))
            (let lr = ap (held_sum (spot n) (claims g each_one)) held in
            let lx = ap (held_sum (spot n) (ever_at g)) held in
            let lz = (fit g ok w j a l who p rest todo).lean in
            let k : claim_by each_one e.kept (image g x.page e.order) ≡ 1 =
            ap (λ (k : Kept). claim_by each_one k (image g x.page e.order)) is in
            let few = some_one frames in omega arith);
        alone = λ i. let r = ap (held_sum (spot n) (at_place i)) held in omega arith;
        owners = λ f. let r = ap (held_sum (spot n) (claims g f)) held in
            let x' = ap (held_sum (spot n) (stored f)) held in
            let s = less_stored q q' u frames up f in
            let c : claim_by f e.kept (image g x.page e.order) ≡ f q.class u.handle u.bytes =
            ap (λ (k : Kept). claim_by f k (image g x.page e.order)) is
            ∙ (λ i. f (sym class i) (sym named_u i) (sym freed_bytes i)) in
            omega arith;
        storage = alike_storage g w a l (lock.Class o.class) (holds.Class q') evicted j who (record {
          blocks = λ f. let r = ap (held_sum (spot n) (block_claims f)) held in
              let x = ap (held_sum (spot n) (used_blocks f)) held in
              let z = ap (block_by f) is in omega arith;
          maps = let r = ap (held_sum (spot n) map_size) held in omega arith;
          devices = let r = ap (held_sum (spot n) device_size) held in omega arith;
          lies = λ b bytes. let r = ap (held_sum (spot n) (lies_at g b bytes)) held in omega arith;
          stored = λ b bytes. let r = ap (held_sum (spot n) (stored_at b bytes)) held in omega arith;
          marks = λ i b bytes. let r = ap (held_sum (spot n) (mark_at g i b bytes)) held in
              omega arith;
          shows = λ c i b ne. let r = ap (held_sum (spot n) (shows_at c i b)) held in omega arith;
        })
            (λ f. sym (ap (use_in f) at))
            (record {
              written = λ c bytes. let z = ap (λ (i : At). cond (is_none l.fail)
                  (written_by c bytes i l.page) 0) at in omega arith;
              carried = λ i c bytes. sym (ap (λ (k : At). carried_by i c bytes k l.page) at);
              carrier = λ i c is. ap carries_at at ∙ is;
              shows = λ i c is. let r = ap (held_sum (spot n) (shows_at a i c)) held in omega arith;
            });
        pins = λ f. let r = ap (held_sum (spot n) (outs f)) held in
            let x = ap (held_sum (spot n) nothing) held in
            let s = less_outs q q' u frames up home f in omega arith;
        frames = let r = ap (held_sum (spot n) pages) held in
            let x = ap (held_sum (spot n) chains) held in let s = up.frames in
            let z = sf.owes in omega arith;
        counts = λ i. let r = ap (held_sum (spot n) (counters i)) held in
            let x = ap (held_sum (spot n) (shown i)) held in
            let y = none_weight i l.ahead sf.counts.0 in let z = nothing_shown i in omega arith;
        stays = λ y. let r = ap (held_sum (spot n) (fixed y)) held in omega arith;
        rises = let r = ap (held_sum (spot n) (ever_at g)) held in omega arith;
        most = inl (
          (let r = ap (held_sum (spot n) mosts) held in omega arith),
          (let r = ap (held_sum (spot n) pages) held in omega arith),
        );
      }

  -- ---- the account

  -- the page is counted as one on the device
  module _ (e : EntryState) (c : Counters) (was : Weight) (at : l.at ≡ Visiting step.Paying x)
      (held : l.held ≡ (lock.Account, holds.Account c) ∷ (slot x.page, holds.Slot e) ∷ [])
      (before : l.ahead ≡ Some was) where
    sp : Stage g p e (Visiting step.Paying x) l.fresh l.pin l.owed l.ahead l.behind l.page l.fail
    sp = stage g ok w j a l who p rest todo _ (Visiting step.Paying x) held at

    abbrev now : Counters
    now = counted (repaid c l.owed) (delta.Kept was Back)

    can : l.owed ≤ c.pages
    can = can_repay g w j a l who c ((slot x.page, holds.Slot e) ∷ []) held refl

    old_now : (i : Count) → measure i was ≡ measure i (weight_of e.kept) + by_option (measure i) l.ahead
    old_now i = sym (ap (λ (y : Option Weight). measure i (old_weight y e.kept)) before)
        ∙ old_is e.kept l.ahead (gone_by l.ahead e.kept sp.counts.0) i

    known : (i : Count) → measure i was ≤ counter i c
    known i =
        let r = has_counted g w j a l who c ((slot x.page, holds.Slot e) ∷ []) held
        (λ q. refl) sp.counts.1 i in
        let y = ap (held_sum (spot n) (shown i)) held in let z = old_now i in omega arith

    abbrev paid : Here
    paid = on l (Visiting step.Putting x) ((slot x.page, holds.Slot e) ∷ []) l.fresh l.pin 0 (Some Back)
        (Some (weight_of e.kept)) l.page l.fail

    pub visit_pays : Gift g w a l lock.Account (holds.Account now) paid
    visit_pays = record {
      home = record { sound = refl; stands = tt; backs = tt; marks = tt };
      fits = goes_on g ok w j a l who p rest todo (Visiting step.Putting x)
          ((slot x.page, holds.Slot e) ∷ []) l.fresh l.pin 0 (Some Back) (Some (weight_of e.kept))
          l.page l.fail refl (all g ok w j a l who p rest todo _ (Visiting step.Paying x) held at).1
          (visit_stage g p l.fresh l.pin 0 (Some Back) (Some (weight_of e.kept)) l.page l.fail e
          step.Putting x sp.made sp.pins refl (record { ahead = refl; behind = λ q. refl }) sp.fails
          sp.begun (record { trip = sp.visits.trip; step = sp.visits.step }))
          (let lr = ap (held_sum (spot n) (claims g each_one)) held in
          let lx = ap (held_sum (spot n) (ever_at g)) held in
          let lz = (fit g ok w j a l who p rest todo).lean in omega arith);
      alone = λ i. let r = ap (held_sum (spot n) (at_place i)) held in omega arith;
      owners = λ f. let r = ap (held_sum (spot n) (claims g f)) held in
          let x = ap (held_sum (spot n) (stored f)) held in omega arith;
      storage = alike_storage g w a l lock.Account (holds.Account now) paid j who
          (apart g a l _ _ _ (λ f z y. let r = ap (held_sum (spot n) f) held in
          let s = y (n + 255) c in let t = y (n + 255) now in omega arith))
          (λ f. sym (ap (use_in f) at))
          (record {
            written = λ c bytes. let z = ap (λ (i : At). cond (is_none l.fail)
                (written_by c bytes i l.page) 0) at in omega arith;
            carried = λ i c bytes. sym (ap (λ (k : At). carried_by i c bytes k l.page) at);
            carrier = λ i c is. ap carries_at at ∙ is;
            shows = λ i c is. let r = ap (held_sum (spot n) (shows_at a i c)) held in omega arith;
          });
      pins = λ f. let r = ap (held_sum (spot n) (outs f)) held in
          let x = ap (held_sum (spot n) nothing) held in omega arith;
      frames = let r = ap (held_sum (spot n) pages) held in
          let x = ap (held_sum (spot n) chains) held in let s = can in
          let y = settled_pages Compact l.owed was Back c in omega arith;
      counts = λ i. let r = ap (held_sum (spot n) (counters i)) held in
          let x = ap (held_sum (spot n) (shown i)) held in
          let s = settled_count Compact l.owed was Back c i (known i) in let y = old_now i in
          let z = none_weight i l.behind sp.counts.1 in omega arith;
      stays = λ y. let r = ap (held_sum (spot n) (fixed y)) held in
          let z = settled_fixed Compact l.owed was Back c y in omega arith;
      rises = let r = ap (held_sum (spot n) (ever_at g)) held in omega arith;
      most = inl (
        (let r = ap (held_sum (spot n) mosts) held in
            let z = settled_most Compact l.owed was Back c in omega arith),
        (let r = ap (held_sum (spot n) pages) held in
            let y = settled_pages Compact l.owed was Back c in omega arith),
      );
    }
