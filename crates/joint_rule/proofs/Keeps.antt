-- Each turn keeps the joint rule.
use Rattle.joint_rule.proofs.Alikes.{take_alike}
use Rattle.std.proofs.Common.{◌≡◌, ◌+◌, ◌∷◌, ◌∙◌, ℕ, Some, None, slice_get, refl, sym, ap, arith, length-set, slice_set, subst, ⊎_elim, ◌≤◌}
use Rattle.joint_rule.proofs.Events.{Event, event_of}
use Rattle.joint_rule.proofs.Facts.{Known}
use Rattle.joint_rule.proofs.Gifts.{Gift}
use Rattle.joint_rule.proofs.Sums.{each_give, each_take, gone, get_set}
use Rattle.joint_rule.proofs.Takes.{fits_take}
use Rattle.joint_rule.specs.Begins.{Begin, terms}
use Rattle.joint_rule.specs.Joint.{AtHome, IsActor, Joint}
use Rattle.joint_rule.specs.Weights.{ahead, at_place, behind, block_claims, chains, claims, counters, device_size, fixed, fresh_claim, lies_at, map_size, none, nothing, outs, owing, pages, pinned, shown, stored, stored_at, used_blocks, block_uses, written_at, mark_at, carried_at, carries, shows_at}
use Rattle.lock_row.specs.Machine.{Turn}
use Rattle.lock_row.specs.Totals.{mass, total}
use Rattle.lock_row.specs.declared.names.LockNo.{LockNo}
use Rattle.lock_row.specs.declared.names.Plan.TheVariants.{Take}
use Rattle.lock_row.specs.declared.names.State.{State}
use Rattle.page_steps.specs.Givings.{Works}
use Rattle.page_steps.specs.Steps.{DiskHeld, Here, lock_of, plan, spot, took}

module _ (g : Begin) (ok : Known g) (w : State DiskHeld) (j : Joint g w) (a : ℕ) (l : Here)
    (who : slice_get w.locals a ≡ Some l) (k : LockNo) (v : DiskHeld) where
  abbrev n : ℕ
  n = g.given.size

  -- whoever carries a page has its mark, or another's tag, where this actor carries what it did
  carriers_at : (m : Here) (s b : ℕ) → carries m ≡ carries l → (i : ℕ) (y : Here)
      → slice_get (slice_set w.locals a m) i ≡ Some y → carries y ≡ Some (s, b)
      → 1 ≤ total (spot n) (shows_at i s b) none w
  carriers_at m s b like i y there is = ⊎_elim
      (λ o. subst (λ (c : ℕ). 1 ≤ total (spot n) (shows_at c s b) none w) (sym o.0)
      (j.carriers a l s b who (sym like ∙ ap carries o.1 ∙ is)))
      (λ o. j.carriers i y s b o.1 is)
      (get_set w.locals a i m y l who there)

  pub take_keeps : plan (terms g) l ≡ Take k → slice_get w.row (spot n k) ≡ Some (Some v)
      → Joint g (gone n w a l who k None (took (terms g) l v))
  take_keeps what there =
      let held : (took (terms g) l v).held ≡ (k, v) ∷ l.held =
      ap (λ p. (lock_of p, v) ∷ l.held) what in
      let like = take_alike (terms g) l v in
      let same : (f : ℕ → DiskHeld → ℕ) (h : Here → ℕ) → h (took (terms g) l v) ≡ h l
      → total (spot n) f h (gone n w a l who k None (took (terms g) l v))
      ≡ total (spot n) f h w = λ f h e. ok.facts.take (spot n) f h w a l k v
      (took (terms g) l v) who there held e in
      record {
        each = each_take n w a l who (AtHome g) (IsActor g) j.each k v (took (terms g) l v) there
            (fits_take g ok a l k v what (j.each.in_local a l who)
            (j.each.in_row (spot n k) v there));
        row = length-set w.row (spot n k) None ∙ j.row;
        actors = length-set w.locals a (took (terms g) l v) ∙ j.actors;
        stays = λ q. same (fixed q) none refl ∙ j.stays q;
        alone = λ i. let q = same (at_place i) none refl in let r = j.alone i in omega arith;
        found = λ i h. let q = same (at_place i) none refl in
            let e = length-set w.row (spot n k) None in let r = j.found i (omega arith) in
            omega arith;
        owners = λ f. same (claims g f) (fresh_claim f) refl
            ∙ (j.owners f ∙ sym (same (stored f) none refl));
        blocks = λ f. same (block_claims f) (block_uses f) (like.uses f)
            ∙ (j.blocks f ∙ sym (same (used_blocks f) none refl));
        size = let p = same map_size none refl in let q = same device_size none refl in
            let r = j.size in omega arith;
        disk = λ b bytes some. let p = same (lies_at g b bytes) (written_at b bytes)
            (like.written b bytes) in
            let q = same (stored_at b bytes) none refl in let r = j.disk b bytes (omega arith) in
            omega arith;
        marks = λ i b bytes. let p = same (mark_at g i b bytes) none refl in
            let q = same nothing (carried_at i b bytes) (like.carried i b bytes) in
            let r = j.marks i b bytes in omega arith;
        carriers = λ i y s b there_y is. let p = same (shows_at i s b) none refl in
            let r = carriers_at (took (terms g) l v) s b like.carries i y there_y is in omega arith;
        pins = λ f. same (outs f) none refl ∙ (j.pins f ∙ sym (same nothing (pinned f) refl));
        frames = same pages none refl ∙ (j.frames ∙ sym (same chains owing refl));
        counts = λ q. same (counters q) (behind q) refl
            ∙ (j.counts q ∙ sym (same (shown q) (ahead q) refl));
      }

  pub give_keeps : (m : Here) → slice_get w.row (spot n k) ≡ Some None → Gift g w a l k v m
      → Joint g (gone n w a l who k (Some v) m)
  give_keeps m there x =
      let gives : (f : ℕ → DiskHeld → ℕ) (h : Here → ℕ)
      → total (spot n) f h (gone n w a l who k (Some v) m) + mass (spot n) f h l
      ≡ total (spot n) f h w + mass (spot n) f h m + f (spot n k) v = λ f h.
      ok.facts.give (spot n) f h w a l k v m who there in
      record {
        each = each_give n w a l who (AtHome g) (IsActor g) j.each k v m there x.home x.fits;
        row = length-set w.row (spot n k) (Some v) ∙ j.row;
        actors = length-set w.locals a m ∙ j.actors;
        stays = λ q. let r = gives (fixed q) none in let t = j.stays q in let s = x.stays q in
            omega arith;
        alone = λ i. let q = gives (at_place i) none in let r = j.alone i in let s = x.alone i in
            omega arith;
        found = λ i h. let q = gives (at_place i) none in let s = x.alone i in
            let e = length-set w.row (spot n k) (Some v) in let r = j.found i (omega arith) in
            omega arith;
        owners = λ f. let p = gives (claims g f) (fresh_claim f) in let q = gives (stored f) none in
            let r = j.owners f in let s = x.owners f in omega arith;
        blocks = λ f. let p = gives (block_claims f) (block_uses f) in
            let q = gives (used_blocks f) none in
            let r = j.blocks f in let s = x.storage.blocks f in omega arith;
        size = let p = gives map_size none in let q = gives device_size none in
            let r = j.size in let s = x.storage.maps in let t = x.storage.devices in omega arith;
        disk = λ b bytes some. let p = gives (lies_at g b bytes) (written_at b bytes) in
            let q = gives (stored_at b bytes) none in
            let s = x.storage.disk b bytes (omega arith) in omega arith;
        marks = λ i b bytes. let p = gives (mark_at g i b bytes) none in
            let q = gives nothing (carried_at i b bytes) in let s = x.storage.marks i b bytes in
            omega arith;
        carriers = λ i y s b there_y is. ⊎_elim
            (λ o. subst (λ (c : ℕ). 1 ≤ total (spot n) (shows_at c s b) none
            (gone n w a l who k (Some v) m)) (sym o.0)
            (let p = gives (shows_at a s b) none in
            let t = x.storage.mine s b (ap carries o.1 ∙ is) in omega arith))
            (λ o. let p = gives (shows_at i s b) none in let r = j.carriers i y s b o.1 is in
            let t = x.storage.theirs i y s b o.1 o.0 is in omega arith)
            (get_set w.locals a i m y l who there_y);
        pins = λ f. let p = gives (outs f) none in let q = gives nothing (pinned f) in
            let r = j.pins f in let s = x.pins f in omega arith;
        frames = let p = gives pages none in let q = gives chains owing in let r = j.frames in
            let s = x.frames in omega arith;
        counts = λ c. let p = gives (counters c) (behind c) in let q = gives (shown c) (ahead c) in
            let r = j.counts c in let s = x.counts c in omega arith;
      }

-- a turn of an actor of the phase
abbrev pub OneTurn : Begin → ℕ → State DiskHeld → State DiskHeld → Type 0
OneTurn g = Turn (spot g.given.size) (plan (terms g)) (took (terms g)) (Works (terms g))

module _ (g : Begin) (ok : Known g) where
  pub event_at : (w : State DiskHeld) → Joint g w → (a : ℕ) (l : Here)
      → slice_get w.locals a ≡ Some l
      → (v : DiskHeld) (m : Here) → Works (terms g) l v m → Event g l v m
  event_at w j a l who v m work = event_of g ok l (j.each.in_local a l who).sound v m work
