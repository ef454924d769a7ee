-- What each giving of the map of blocks or of the device by a writeback does.
use Rattle.joint_rule.proofs.Rounds.{lean_none, quit_ends}
use Rattle.std.proofs.Common.{◌≡◌, ◌≢◌, ◌+◌, ◌≤◌, ◌<◌, ◌∷◌, ◌∙◌, ℕ, Bool, true, false, cond, is_none, List, [], length, Option, Some, None, slice_get, refl, sym, ap, subst, arith, inl, inr, length-set}
use Rattle.backing_dev.specs.Dev.{DeviceState, FailsToWrite, WritesBlock}
use Rattle.block_map.specs.BlockMap.{AnswersReserve, BlockMap, IsBudgetSpent, reserved, with_state}
use Rattle.block_map.specs.declared.blocks.Reserve.{Reserve}
use Rattle.block_map.specs.declared.blocks.Reserve.TheVariants.{BudgetSpent, Got, NoBlock}
use Rattle.block_map.specs.declared.state.BlockState.TheVariants.{Free, Held, Owned}
use Rattle.call_history.specs.declared.part.Part.{Part}
use Rattle.call_history.specs.declared.part.PartEnd.{PartEnd}
use Rattle.call_history.specs.declared.part.PartEnd.TheVariants.{Whole}
use Rattle.joint_rule.proofs.Arrivals.{visit_stage}
use Rattle.joint_rule.proofs.Blockings.{has_block_in, held_is, nothing_else, now_stored, other_block, other_stays}
use Rattle.joint_rule.proofs.Blocks.{bit_is, map_here, used_put}
use Rattle.joint_rule.proofs.Facts.{Known}
use Rattle.joint_rule.proofs.Gifts.{Gift, all, fit, goes_on, stage}
use Rattle.joint_rule.proofs.Rounds.{IsFree, SameHands, Went, ends_over, free_hands, give_device, give_map, no_one, went, writeback_single}
use Rattle.joint_rule.proofs.Sums.{locals_le}
use Rattle.joint_rule.proofs.Trips.{IsKept, SaysNone, Storage, idle_carried, idle_carries, idle_written, steady_storage, using, above_zero, bytes_of}
use Rattle.joint_rule.proofs.Visits.{Onward}
use Rattle.joint_rule.specs.Begins.{Begin, ground_of}
use Rattle.joint_rule.specs.Joint.{IsActor, Joint, KeepsDevice}
use Rattle.joint_rule.specs.Stages.{NoneOf, Stage, MayQuit, StopsSo}
use Rattle.joint_rule.specs.Weights.{BlockWeigh, block_claims, block_uses, carried_by, claims, device_size, each_one, ever_at, has_block, is_carrying, lies_at, map_budgeted, map_size, mark_at, none, nothing, pair, same, shows_at, some_of, stored_at, use_at, use_in, used_blocks, used_from, written_at, written_by, carries_at, object_weight}
use Rattle.lock_row.specs.Totals.{by_option, held_sum, mass, total}
use Rattle.lock_row.specs.declared.names.At.{At}
use Rattle.lock_row.specs.declared.names.At.TheVariants.{Visiting}
use Rattle.lock_row.specs.declared.names.State.{State}
use Rattle.lock_row.specs.declared.names.Step.{Step}
use Rattle.lock_row.specs.declared.names.Step.TheVariants as step
use Rattle.lock_row.specs.declared.names.Trip.{Trip}
use Rattle.page_steps.specs.Steps.{DiskHeld, Here, on, piece_over, slot, spot, entry_in}
use Rattle.page_steps.specs.Visits.{lost_page, refused_end, with_block}
use Rattle.plain_disk.specs.Ends.{MayBeSingle}
use Rattle.slot_entry.specs.Entries.{EntryState}
use Rattle.std.proofs.lemmas.Bool.{cases_eq}
use Rattle.zr_base.specs.declared.op.OpEnd.{OpEnd}
use Rattle.zr_base.specs.declared.op.OpEnd.TheVariants as ends
use Rattle.lock_row.specs.declared.names.Held.TheVariants as holds
use Rattle.lock_row.specs.declared.names.LockNo.TheVariants as lock

module _ (g : Begin) (ok : Known g) (w : State DiskHeld) (j : Joint g w) (a : ℕ) (l : Here)
    (who : slice_get w.locals a ≡ Some l) (p : Part) (rest : List Part)
    (todo : l.todo ≡ p ∷ rest) (x : Trip) where
  abbrev n : ℕ
  n = g.given.size

  -- ---- the map of blocks

  -- one is reserved, or made the page's
  module _ (e : EntryState) (y : BlockMap)
      (held : l.held ≡ (lock.Blocks, holds.Blocks y) ∷ (slot x.page, holds.Slot e) ∷ []) where
    -- the map changes as the blocks that the actor has
    map_storage : (s : Step) (t : Trip) (fail : Option PartEnd) (y' : BlockMap)
        → (let m = on l (Visiting s t) ((slot x.page, holds.Slot e) ∷ []) l.fresh l.pin l.owed l.ahead
        l.behind l.page fail in length y'.states ≡ length y.states
        → ((f : BlockWeigh) → used_from f 0 y'.states + block_uses f l
        ≡ used_from f 0 y.states + use_at f s t)
        → IsKept g w a l lock.Blocks (holds.Blocks y') m
        → Storage g w a l lock.Blocks (holds.Blocks y') m)
    map_storage s t fail y' long moves kept = steady_storage g w a l lock.Blocks (holds.Blocks y') _ j
        who
        (λ f. let r = ap (held_sum (spot n) (block_claims f)) held in
        let q = ap (held_sum (spot n) (used_blocks f)) held in let z = moves f in omega arith)
        (record {
          maps = let r = ap (held_sum (spot n) map_size) held in omega arith;
          devices = let r = ap (held_sum (spot n) device_size) held in omega arith;
          lies = λ b bytes. let r = ap (held_sum (spot n) (lies_at g b bytes)) held in omega arith;
          stored = λ b bytes. let r = ap (held_sum (spot n) (stored_at b bytes)) held in omega arith;
          marks = λ i b bytes. let r = ap (held_sum (spot n) (mark_at g i b bytes)) held in omega arith;
          shows = λ c i b ne. let r = ap (held_sum (spot n) (shows_at c i b)) held in omega arith;
        })
        kept

    -- a step that carries nothing
    idle_kept : (s s' : Step) (t : Trip) (fail : Option PartEnd) (v : DiskHeld)
        → l.at ≡ Visiting s x → is_carrying s ≡ false → is_carrying s' ≡ false
        → IsKept g w a l lock.Blocks v (on l (Visiting s' t) ((slot x.page, holds.Slot e) ∷ []) l.fresh
        l.pin l.owed l.ahead l.behind l.page fail)
    idle_kept s s' t fail v at was now =
        let m = on l (Visiting s' t) ((slot x.page, holds.Slot e) ∷ []) l.fresh l.pin l.owed l.ahead
        l.behind l.page fail in record {
          written = λ b bytes. let z = idle_written m s' t refl now b bytes in omega arith;
          carried = λ i b bytes. idle_carried m s' t refl now i b bytes
              ∙ sym (idle_carried l s x at was i b bytes);
          carrier = λ i b is. absurd (let q : None ≡ Some (i, b) =
              sym (idle_carries m s' t refl now) ∙ is in cc);
          shows = λ i b is. absurd (let q : None ≡ Some (i, b) =
              sym (idle_carries m s' t refl now) ∙ is in cc);
        }

    hands : (s : Step) (t : Trip) (fail : Option PartEnd) → SameHands l (on l (Visiting s t)
        ((slot x.page, holds.Slot e) ∷ []) l.fresh l.pin l.owed l.ahead l.behind l.page fail)
    hands s t fail = record { fresh = refl; pin = refl; owed = refl }

    held_lean : held_sum (spot n) (claims g each_one) ((slot x.page, holds.Slot e) ∷ [])
        + (by_option (object_weight each_one) l.fresh + some_of l.owed)
        ≤ held_sum (spot n) (ever_at g) ((slot x.page, holds.Slot e) ∷ []) + 1
    held_lean = let lr = ap (held_sum (spot n) (claims g each_one)) held in
        let lx = ap (held_sum (spot n) (ever_at g)) held in
        let lz = (fit g ok w j a l who p rest todo).lean in omega arith

    module _ (at : l.at ≡ Visiting step.Reserving x) where
      sr : Stage g p e (Visiting step.Reserving x) l.fresh l.pin l.owed l.ahead l.behind l.page l.fail
      sr = stage g ok w j a l who p rest todo _ (Visiting step.Reserving x) held at

      pub give_reserves : (b : ℕ) → AnswersReserve y (Got b)
          → Gift g w a l lock.Blocks (holds.Blocks (reserved y (Got b)))
          (on l (Visiting step.Seen (with_block x b)) ((slot x.page, holds.Slot e) ∷ []) l.fresh l.pin
          l.owed l.ahead l.behind l.page l.fail)
      give_reserves b answer = give_map g w a l _
          (goes_on g ok w j a l who p rest todo (Visiting step.Seen (with_block x b))
          ((slot x.page, holds.Slot e) ∷ []) l.fresh l.pin l.owed l.ahead l.behind l.page l.fail refl
          (all g ok w j a l who p rest todo _ (Visiting step.Reserving x) held at).1
          (visit_stage g p l.fresh l.pin l.owed l.ahead l.behind l.page l.fail e step.Seen
          (with_block x b) sr.made sr.pins sr.owes sr.counts sr.fails sr.begun (record {
            trip = record { page = sr.visits.trip.page; few = sr.visits.trip.few };
            step = (
              record {
                page = record {
                  stands = sr.visits.step.0.page.stands;
                  backs = sr.visits.step.0.page.backs;
                  marks = sr.visits.step.0.page.marks;
                };
                object = sr.visits.step.0.object;
                clear = sr.visits.step.0.clear;
              },
              tt,
              sr.visits.step.2,
            );
          })) held_lean)
          (hands step.Seen (with_block x b) l.fail) refl refl _ y (reserved y (Got b)) held refl
          (map_storage step.Seen (with_block x b) l.fail (reserved y (Got b))
          (length-set y.states b Held)
          (λ f. let z = used_put f y.states b Free Held answer.1.0 in
          let u = ap (use_in f) at in omega arith)
          (idle_kept step.Reserving step.Seen (with_block x b) l.fail _ at refl refl))

      fewer : x.wrote + x.lost + 1 ≤ n
      fewer = let t = sr.visits.trip.few in let u = sr.visits.trip.page in omega arith

      -- or none
      module _ (limit_is : total (spot n) map_budgeted none w ≡ cond {A = ℕ} g.budgeted 1 0) where
        limited : IsBudgetSpent y → g.budgeted ≡ true
        limited spent =
            let z = map_here g w j a l who y _ held (λ i. cond {A = ℕ} i.enabled 1 0) refl in
            let q = ap (λ (b : Bool). cond {A = ℕ} b 1 0) spent.0 in
            bit_is g.budgeted (omega arith)

        ends_so : (r : Reserve) (end : OpEnd) → AnswersReserve y r → refused_end r x ≡ Some end
            → MayBeSingle (ground_of g) p.op end × StopsSo x end
        ends_so (Got b) end answer is = absurd (cc)
        ends_so BudgetSpent end answer is = let q : ends.Budget x.wrote x.lost ≡ end = cc in
            subst (λ (z : OpEnd). MayBeSingle (ground_of g) p.op z × StopsSo x z) q (
              ((sr.begun, fewer), limited answer),
              (refl, refl, sr.visits.step.1),
            )
        ends_so NoBlock end answer is = let q : ends.NoBlock x.wrote x.lost ≡ end = cc in
            subst (λ (z : OpEnd). MayBeSingle (ground_of g) p.op z × StopsSo x z) q (
              (sr.begun, fewer),
              (refl, refl, sr.visits.step.1),
            )

        pub give_refrains : (r : Reserve) (end : OpEnd) → AnswersReserve y r
            → refused_end r x ≡ Some end
            → Gift g w a l lock.Blocks (holds.Blocks y)
            (on l (Visiting step.Quitting x) ((slot x.page, holds.Slot e) ∷ []) l.fresh l.pin l.owed
            l.ahead l.behind l.page (Some (Whole end)))
        give_refrains r end answer is = give_map g w a l _
            (goes_on g ok w j a l who p rest todo (Visiting step.Quitting x)
            ((slot x.page, holds.Slot e) ∷ []) l.fresh l.pin l.owed l.ahead l.behind l.page
            (Some (Whole end)) refl
            (all g ok w j a l who p rest todo _ (Visiting step.Reserving x) held at).1
            (visit_stage g p l.fresh l.pin l.owed l.ahead l.behind l.page (Some (Whole end)) e
            step.Quitting x sr.made sr.pins sr.owes sr.counts (
              (writeback_single n p.op sr.begun, (ends_so r end answer is).0),
              (ends_so r end answer is).1,
            )
            sr.begun
            (record { trip = sr.visits.trip; step = sr.visits.step })) held_lean)
            (hands step.Quitting x (Some (Whole end))) refl refl _ y y held refl
            (map_storage step.Quitting x (Some (Whole end)) y refl
            (λ f. let u = ap (use_in f) at in omega arith)
            (idle_kept step.Reserving step.Quitting x (Some (Whole end)) _ at refl refl))

    -- the block is the page's
    module _ (at : l.at ≡ Visiting step.Committing x) (b : ℕ) (block : x.block ≡ Some b) where
      sc : Stage g p e (Visiting step.Committing x) l.fresh l.pin l.owed l.ahead l.behind l.page l.fail
      sc = stage g ok w j a l who p rest todo _ (Visiting step.Committing x) held at

      was_held : slice_get y.states b ≡ Some Held
      was_held = held_is g w j a l who step.Committing x at b block y _ held refl (λ f. refl)

      abbrev committed : Here
      committed = on l (Visiting step.Owing x) ((slot x.page, holds.Slot e) ∷ []) l.fresh l.pin l.owed
          l.ahead l.behind l.page l.fail

      pub give_commits : Gift g w a l lock.Blocks (holds.Blocks (with_state y b Owned)) committed
      give_commits = give_map g w a l committed
          (goes_on g ok w j a l who p rest todo (Visiting step.Owing x)
          ((slot x.page, holds.Slot e) ∷ []) l.fresh l.pin l.owed l.ahead l.behind l.page l.fail refl
          (all g ok w j a l who p rest todo _ (Visiting step.Committing x) held at).1
          (visit_stage g p l.fresh l.pin l.owed l.ahead l.behind l.page l.fail e step.Owing x sc.made
          sc.pins sc.owes sc.counts sc.fails sc.begun
          (record { trip = sc.visits.trip; step = sc.visits.step })) held_lean)
          (hands step.Owing x l.fail) refl refl _ y (with_state y b Owned) held refl
          (map_storage step.Owing x l.fail (with_state y b Owned) (length-set y.states b Owned)
          (λ f. let z = used_put f y.states b Held Owned was_held in
          let u : block_uses f l ≡ f 0 b = ap (use_in f) at ∙ ap (by_option (f 0)) block in
          let t = ap (by_option (f 1)) block in omega arith)
          (record {
            written = λ c bytes. let z = ap (λ (i : At). cond (is_none l.fail)
                (written_by c bytes i l.page) 0) at in omega arith;
            carried = λ i c bytes. sym (ap (λ (k : At). carried_by i c bytes k l.page) at);
            carrier = λ i c is. ap carries_at at ∙ is;
            shows = λ i c is. let r = ap (held_sum (spot n) (shows_at a i c)) held in omega arith;
          }))

  -- the block is freed
  module _ (y : BlockMap) (held : l.held ≡ (lock.Blocks, holds.Blocks y) ∷ []) (b : ℕ)
      (block : x.block ≡ Some b) (at : l.at ≡ Visiting step.Releasing x) where
    sf : Stage g p (entry_in []) (Visiting step.Releasing x) l.fresh l.pin l.owed l.ahead l.behind
        l.page l.fail
    sf = stage g ok w j a l who p rest todo _ (Visiting step.Releasing x) held at

    was_mine : slice_get y.states b ≡ Some Held
    was_mine = held_is g w j a l who step.Releasing x at b block y [] held refl (λ f. refl)

    free_storage : (m : Here) → IsFree m → SaysNone m
        → Storage g w a l lock.Blocks (holds.Blocks (with_state y b Free)) m
    free_storage m free says = steady_storage g w a l lock.Blocks _ m j who
        (λ f. let r = ap (held_sum (spot n) (block_claims f)) held in
        let r' = ap (held_sum (spot n) (block_claims f)) free.held in
        let q = ap (held_sum (spot n) (used_blocks f)) held in
        let q' = ap (held_sum (spot n) (used_blocks f)) free.held in
        let z = used_put f y.states b Held Free was_mine in
        let u : block_uses f l ≡ f 0 b = ap (use_in f) at ∙ ap (by_option (f 0)) block in
        let t = says.uses f in omega arith)
        (record {
          maps = let r = ap (held_sum (spot n) map_size) held in
              let q = ap (held_sum (spot n) map_size) free.held in
              let z = length-set y.states b Free in omega arith;
          devices = let r = ap (held_sum (spot n) device_size) held in
              let q = ap (held_sum (spot n) device_size) free.held in omega arith;
          lies = λ c bytes. let r = ap (held_sum (spot n) (lies_at g c bytes)) held in
              let q = ap (held_sum (spot n) (lies_at g c bytes)) free.held in omega arith;
          stored = λ c bytes. let r = ap (held_sum (spot n) (stored_at c bytes)) held in
              let q = ap (held_sum (spot n) (stored_at c bytes)) free.held in omega arith;
          marks = λ i c bytes. let r = ap (held_sum (spot n) (mark_at g i c bytes)) held in
              let q = ap (held_sum (spot n) (mark_at g i c bytes)) free.held in omega arith;
          shows = λ d i c ne. let r = ap (held_sum (spot n) (shows_at d i c)) held in
              let q = ap (held_sum (spot n) (shows_at d i c)) free.held in omega arith;
        })
        (record {
          written = λ c bytes. let z = says.written c bytes in omega arith;
          carried = λ i c bytes. says.carried i c bytes
              ∙ sym (idle_carried l step.Releasing x at refl i c bytes);
          carrier = λ i c is. absurd (let q : None ≡ Some (i, c) = sym says.carries ∙ is in cc);
          shows = λ i c is. absurd (let q : None ≡ Some (i, c) = sym says.carries ∙ is in cc);
        })

    give_free : (m : Here) → Went g ok w j a l who p rest todo sf.begun m
        → Gift g w a l lock.Blocks (holds.Blocks (with_state y b Free)) m
    give_free m t = give_map g w a l m t.fits
        (free_hands l m sf.made sf.pins sf.owes t.free)
        (t.free.ahead ∙ sym (no_one l.ahead sf.counts.0))
        (t.free.behind ∙ sym (no_one l.behind sf.counts.1)) [] y (with_state y b Free) held t.free.held
        (free_storage m t.free t.says)

    pub give_releases : (m : Here) → Onward g l p rest (lost_page x) m
        → Gift g w a l lock.Blocks (holds.Blocks (with_state y b Free)) m
    give_releases m on = give_free m (went g ok w j a l who p rest todo sf.begun (lost_page x)
        (let z = sf.visits.trip.page in omega arith) (let z = sf.visits.trip.few in omega arith) tt
        m on)

    pub give_stops : (m : Here) (end : PartEnd) → l.fail ≡ Some end
        → m ≡ piece_over l p end [] rest
        → Gift g w a l lock.Blocks (holds.Blocks (with_state y b Free)) m
    give_stops m end bad m_is = give_free m (ends_over g ok w j a l who p rest todo sf.begun m end m_is
        (quit_ends g p x end (subst (MayQuit g p x) bad sf.fails)))

  -- ---- the device

  module _ (d d' : DeviceState) (held : l.held ≡ (lock.Device, holds.Device d) ∷ []) (b : ℕ)
      (block : x.block ≡ Some b) (at : l.at ≡ Visiting step.Storing x) where
    ss : Stage g p (entry_in []) (Visiting step.Storing x) l.fresh l.pin l.owed l.ahead l.behind l.page
        l.fail
    ss = stage g ok w j a l who p rest todo _ (Visiting step.Storing x) held at

    was_kept : KeepsDevice g.device d
    was_kept = (all g ok w j a l who p rest todo _ (Visiting step.Storing x) held at).0.1

    abbrev landing : Option PartEnd → Here
    landing fail = on l (Visiting step.Landing x) [] l.fresh l.pin l.owed l.ahead l.behind l.page fail

    has_this : block_uses (using b) l ≡ 1
    has_this = has_block_in g w j a l who step.Storing x at b block refl

    not_yet : (c : ℕ) (bytes : List ℕ) → written_at c bytes l ≡ 0
    not_yet c bytes =
        ap (λ (i : At). cond (is_none l.fail) (written_by c bytes i l.page) 0) at ∙ none_of (is_none l.fail) where
          none_of : (k : Bool) → cond {A = ℕ} k 0 0 ≡ 0
          none_of true = refl
          none_of false = refl

    nobody : (bytes : List ℕ) → total (spot n) (lies_at g b bytes) (written_at b bytes) w ≡ 0
    nobody bytes = nothing_else g w j a l who step.Storing x at b block
        (let q = has_this in omega arith) bytes
        (let r = ap (held_sum (spot n) (lies_at g b bytes)) held in let z = not_yet b bytes in
        omega arith)

    device_storage : (fail : Option PartEnd) → d'.blocks ≡ d.blocks
        → ((c : ℕ) (bytes : List ℕ) → c ≢ b → has_block c bytes d'.contents
        ≡ has_block c bytes d.contents)
        → ((bytes : List ℕ) → 0 < written_at b bytes (landing fail)
        → 1 ≤ has_block b bytes d'.contents)
        → Storage g w a l lock.Device (holds.Device d') (landing fail)
    device_storage fail same others now = record {
      blocks = λ h. let r = ap (held_sum (spot n) (block_claims h)) held in
          let t = ap (held_sum (spot n) (used_blocks h)) held in
          let u = ap (use_in h) at in omega arith;
      maps = let r = ap (held_sum (spot n) map_size) held in omega arith;
      devices = let r = ap (held_sum (spot n) device_size) held in omega arith;
      disk = λ c bytes lt. elim (cases_eq c b) [
        | inl is ↦ subst (λ (k : ℕ). mass (spot n) (stored_at k bytes) none l
            < total (spot n) (stored_at k bytes) none w
            + mass (spot n) (stored_at k bytes) none (landing fail)
            + stored_at k bytes (n + 257) (holds.Device d')) (sym is)
            (let r = ap (held_sum (spot n) (lies_at g b bytes)) held in
            let q = nobody bytes in let z = not_yet b bytes in
            let lt' : mass (spot n) (lies_at g b bytes) (written_at b bytes) l
            < total (spot n) (lies_at g b bytes) (written_at b bytes) w
            + mass (spot n) (lies_at g b bytes) (written_at b bytes) (landing fail)
            + lies_at g b bytes (n + 257) (holds.Device d') =
            subst (λ (k : ℕ). mass (spot n) (lies_at g k bytes) (written_at k bytes) l
            < total (spot n) (lies_at g k bytes) (written_at k bytes) w
            + mass (spot n) (lies_at g k bytes) (written_at k bytes) (landing fail)
            + lies_at g k bytes (n + 257) (holds.Device d')) is lt in
            let u = now bytes (omega arith) in
            let t = ap (held_sum (spot n) (stored_at b bytes)) held in
            let v = locals_le n (mass (spot n) (stored_at b bytes) none) w.locals a l who in
            omega arith)
        | inr other ↦ (let r = ap (held_sum (spot n) (lies_at g c bytes)) held in
            let z : written_at c bytes (landing fail) ≡ 0 =
            ap (λ (k : ℕ). cond (is_none fail) k 0)
            (ap (λ (k : Option ℕ). pair c bytes k l.page) block
            ∙ other_block b c bytes l.page other) ∙ none_of (is_none fail) in
            let y = not_yet c bytes in
            let q = j.disk c bytes (omega arith) in
            let t = ap (held_sum (spot n) (stored_at c bytes)) held in
            let u = others c bytes other in omega arith)
      ];
      marks = λ i c bytes. let r = ap (held_sum (spot n) (mark_at g i c bytes)) held in
          let t = ap (held_sum (spot n) nothing) held in
          let z = ap (λ (k : At). carried_by i c bytes k l.page) at in
          let q = j.marks i c bytes in omega arith;
      theirs = λ i y s c there ne is. let r = ap (held_sum (spot n) (shows_at i s c)) held in
          omega arith;
      mine = λ s c is. let r = ap (held_sum (spot n) (shows_at a s c)) held in
          let q = j.carriers a l s c who (ap carries_at at ∙ is) in omega arith;
    } where
      none_of : (k : Bool) → cond {A = ℕ} k 0 0 ≡ 0
      none_of true = refl
      none_of false = refl

    landed : (fail : Option PartEnd) → MayQuit g p x fail → IsActor g a (landing fail)
    landed fail quit = goes_on g ok w j a l who p rest todo (Visiting step.Landing x) [] l.fresh l.pin
        l.owed l.ahead l.behind l.page fail refl tt
        (visit_stage g p l.fresh l.pin l.owed l.ahead l.behind l.page fail _ step.Landing x ss.made
        ss.pins ss.owes ss.counts quit ss.begun
        (record { trip = ss.visits.trip; step = ss.visits.step }))
        (let z = lean_none l ss.made ss.owes in omega arith)

    may_none : (fail : Option PartEnd) → NoneOf fail → MayQuit g p x fail
    may_none None i = tt
    may_none (Some end) i = absurd i

    module _ (page : List ℕ) (page_is : l.page ≡ Some page) (r : WritesBlock d d' b page) where
      written_is : (bytes : List ℕ) → 0 < written_at b bytes (landing l.fail) → page ≡ bytes
      written_is bytes lt = (let y = above_zero (is_none l.fail) (pair b bytes x.block l.page) lt in
          let z = bytes_of b bytes x.block l.page y.1 in
          let q : Some page ≡ Some bytes = sym page_is ∙ z.1 in cc)

      pub give_stores : Gift g w a l lock.Device (holds.Device d') (landing l.fail)
      give_stores = give_device g w a l (landing l.fail) (landed l.fail (may_none l.fail ss.fails))
          (record { fresh = refl; pin = refl; owed = refl }) refl refl d d' held refl
          (record {
            sound = (
              refl,
              record {
                same = r.called.same ∙ was_kept.same;
                blocks = r.called.blocks ∙ was_kept.blocks;
                honest = λ h. r.called.honest (was_kept.honest h);
                faults = let z = r.faults in let y = was_kept.faults in omega arith;
                reads = let z = r.reads in let y = was_kept.reads in omega arith;
                end = let z = r.reads in let y = was_kept.end in omega arith;
                writes = let z = r.writes in omega arith;
              },
            );
            stands = tt;
            backs = tt;
            marks = tt;
          })
          (device_storage l.fail r.called.blocks
          (λ c bytes ne. other_stays d.contents d'.contents b c bytes r.others ne)
          (λ bytes lt. subst (λ (k : List ℕ). 1 ≤ has_block b k d'.contents) (written_is bytes lt)
          (now_stored d'.contents b page r.bytes)))

    module _ (fault : ℕ) (r : FailsToWrite d d' b fault) where
      abbrev spoiled : PartEnd
      spoiled = Whole (ends.WriteEio fault x.wrote x.lost)

      spoil_quits : MayQuit g p x (Some spoiled)
      spoil_quits = (
        (
          writeback_single n p.op ss.begun,
          (
            (ss.begun, (let t = ss.visits.trip.few in let u = ss.visits.trip.page in omega arith)),
            (let y = r.count in let z = r.rose in let u = was_kept.faults in omega arith),
          ),
        ),
        (refl, refl, ss.visits.step.0),
      )

      pub give_spoils : Gift g w a l lock.Device (holds.Device d') (landing (Some spoiled))
      give_spoils = give_device g w a l (landing (Some spoiled)) (landed (Some spoiled) spoil_quits)
          (record { fresh = refl; pin = refl; owed = refl }) refl refl d d' held refl
          (record {
            sound = (
              refl,
              record {
                same = r.called.same ∙ was_kept.same;
                blocks = r.called.blocks ∙ was_kept.blocks;
                honest = λ h. r.called.honest (was_kept.honest h);
                faults = let z = r.rose in let y = was_kept.faults in omega arith;
                reads = let z = r.reads in let y = was_kept.reads in omega arith;
                end = let z = r.reads in let y = was_kept.end in omega arith;
                writes = let z = r.writes in let y = was_kept.writes in omega arith;
              },
            );
            stands = tt;
            backs = tt;
            marks = tt;
          })
          (device_storage (Some spoiled) r.called.blocks
          (λ c bytes ne. other_stays d.contents d'.contents b c bytes r.others ne)
          (λ bytes lt. absurd (omega arith)))
