-- What blocks and the device weigh, what the joint rule tells of them, and what a giving does to
-- them.
use Rattle.std.proofs.Common.{◌≡◌, ◌≢◌, ◌+◌, ◌≤◌, ◌<◌, ◌∷◌, ◌∙◌, ℕ, zero, suc, Bool, true, false, List, [], length, Option, Some, None, slice_get, slice_set, refl, sym, ap, arith, ⊎_elim, inl, inr, ◌⊎◌}
use Rattle.backing_dev.specs.Contents.{HasBlock}
use Rattle.backing_dev.specs.Dev.{DeviceState, IsCalled}
use Rattle.block_map.specs.BlockMap.{BlockMap}
use Rattle.block_map.specs.declared.state.BlockState.{BlockState}
use Rattle.block_map.specs.declared.state.BlockState.TheVariants.{Free, Held, Left, Owned}
use Rattle.class_pool.specs.Pool.{PoolState}
use Rattle.joint_rule.proofs.Lookups.{lone, pick_none, pick_self}
use Rattle.joint_rule.proofs.Pools.{bit, list_self, pick, same_is, same_lists, same_self}
use Rattle.joint_rule.proofs.Sums.{Under, locals_le, total_mono}
use Rattle.joint_rule.specs.Begins.{Begin, content}
use Rattle.joint_rule.specs.Joint.{Joint, Sound}
use Rattle.joint_rule.specs.Weights.{BlockWeigh, at_place, block_by, block_claims, device_size, has_block, lies_at, lies_by, map_size, none, on_blocks, on_device, same, same_bytes, stored_at, use_by, used_blocks, used_from, mark_at, shows_at, block_uses, written_at}
use Rattle.lock_row.specs.Totals.{by_option, held_sum, mass, total}
use Rattle.lock_row.specs.declared.names.LockNo.{LockNo}
use Rattle.lock_row.specs.declared.names.State.{State}
use Rattle.mem_account.specs.Counters.{Counters}
use Rattle.page_steps.specs.Steps.{DiskHeld, Here, slot, spot}
use Rattle.slot_entry.specs.Entries.{EntryState, is_wb}
use Rattle.slot_entry.specs.Forms.{same_list}
use Rattle.slot_entry.specs.declared.kept.Kept.{Kept}
use Rattle.std.proofs.lemmas.Bool.{eq-eqb}
use Rattle.lock_row.specs.declared.names.LockNo.TheVariants as lock
use Rattle.lock_row.specs.declared.names.Held.TheVariants as holds
use Rattle.slot_entry.specs.declared.kept.Kept.TheVariants as kept

-- ---- the states of blocks

module _ (f : BlockWeigh) where
  use_at : (i j : ℕ) (s : BlockState) → i ≡ j → use_by f i s ≡ use_by f j s
  use_at i j s e = ap (λ (k : ℕ). use_by f k s) e

  used_set : (k : ℕ) (xs : List BlockState) (b : ℕ) (s t : BlockState) → slice_get xs b ≡ Some s
      → used_from f k (slice_set xs b t) + use_by f (k + b) s
      ≡ used_from f k xs + use_by f (k + b) t
  used_set k [] b s t e = absurd (cc)
  used_set k (x ∷ xs) zero s t e =
      let q : x ≡ s = cc in let u = ap (use_by f k) q in
      let y = use_at (k + 0) k s (omega arith) in
      let z = use_at (k + 0) k t (omega arith) in omega arith
  used_set k (x ∷ xs) (suc b) s t e =
      let r = used_set (suc k) xs b s t e in
      let y = use_at (k + suc b) (suc k + b) s (omega arith) in
      let z = use_at (k + suc b) (suc k + b) t (omega arith) in omega arith

  -- a block changes its state
  pub used_put : (xs : List BlockState) (b : ℕ) (s t : BlockState) → slice_get xs b ≡ Some s
      → used_from f 0 (slice_set xs b t) + use_by f b s ≡ used_from f 0 xs + use_by f b t
  used_put xs b s t e =
      let r = used_set 0 xs b s t e in
      let y = use_at (0 + b) b s (omega arith) in
      let z = use_at (0 + b) b t (omega arith) in omega arith

-- so much for a page's block
abbrev pub owning : ℕ → ℕ → BlockWeigh
owning m b i x = pick (same i 1) (pick (same b x) m 0) 0

module _ (m b : ℕ) where
  own_low : (k : ℕ) (s : BlockState) → use_by (owning m b) k s ≤ pick (same b k) m 0
  own_low k Free = omega arith
  own_low k Held = omega arith
  own_low k Owned = omega arith
  own_low k Left = omega arith

  own_only : (k : ℕ) (s : BlockState) → 0 < use_by (owning m b) k s → s ≡ Owned
  own_only k Free lt = absurd (omega arith)
  own_only k Held lt = absurd (omega arith)
  own_only k Owned lt = refl
  own_only k Left lt = absurd (omega arith)

  not_same : (k : ℕ) → b ≢ k → pick (same b k) m 0 ≡ 0
  not_same k ne = pick_none b k m (⊎_elim (λ z. z) (λ o. absurd (ne o.1)) (same_is b k))

  own_after : (k : ℕ) (xs : List BlockState) → b < k → used_from (owning m b) k xs ≡ 0
  own_after k [] lt = refl
  own_after k (s ∷ xs) lt =
      let r = own_after (suc k) xs (omega arith) in let h = own_low k s in
      let z = not_same k (λ e. let no : ⊥ = omega arith in no) in omega arith

  own_find : (k : ℕ) (xs : List BlockState) (i : ℕ) → b ≡ k + i
      → 0 < used_from (owning m b) k xs → slice_get xs i ≡ Some Owned
  own_find k [] i e lt = absurd (omega arith)
  own_find k (s ∷ xs) zero e lt = let r = own_after (suc k) xs (omega arith) in
      ap Some (own_only k s (omega arith))
  own_find k (s ∷ xs) (suc i) e lt =
      let h = own_low k s in let z = not_same k (λ y. let no : ⊥ = omega arith in no) in
      own_find (suc k) xs i (omega arith) (omega arith)

-- the blocks that pages have are below the map's
own_few : (b k : ℕ) (xs : List BlockState) → used_from (owning (b + 1) b) k xs ≤ k + length xs
own_few b k [] = omega arith
own_few b k (s ∷ xs) =
    let h = own_low (b + 1) b k s in ⊎_elim
    (λ z. let r = own_few b (suc k) xs in let y = pick_none b k (b + 1) z in omega arith)
    (λ o. let e = o.1 in let r = own_after (b + 1) b (suc k) xs (omega arith) in
    let y = pick_self b k (b + 1) e in omega arith)
    (same_is b k)

-- ---- where they are

module _ (g : Begin) where
  abbrev size : ℕ
  size = g.given.size

  not_there : (k i : ℕ) → i ≡ k → same k i ≡ 0 → ⊥
  not_there k i e z = let q : same k i ≡ 1 = ap (same k) e ∙ same_self k in omega arith

  pub under_blocks : (f : BlockMap → ℕ) → Under size (Sound g) (at_place (spot size lock.Blocks))
      (on_blocks f)
  under_blocks f i (holds.Slot e) s z = refl
  under_blocks f i (holds.Class p) s z = refl
  under_blocks f i (holds.Account c) s z = refl
  under_blocks f i (holds.Blocks x) s z = absurd (not_there (size + 256) i s z)
  under_blocks f i (holds.Device d) s z = refl

  pub under_device : (f : DeviceState → ℕ) → Under size (Sound g)
      (at_place (spot size lock.Device)) (on_device f)
  under_device f i (holds.Slot e) s z = refl
  under_device f i (holds.Class p) s z = refl
  under_device f i (holds.Account c) s z = refl
  under_device f i (holds.Blocks x) s z = refl
  under_device f i (holds.Device d) s z = absurd (not_there (size + 257) i s.0 z)

  -- who holds the map has all that it weighs
  pub map_here : (w : State DiskHeld) (j : Joint g w) (a : ℕ) (l : Here)
      (who : slice_get w.locals a ≡ Some l) (x : BlockMap) (rest : List (LockNo × DiskHeld))
      → l.held ≡ (lock.Blocks, holds.Blocks x) ∷ rest → (f : BlockMap → ℕ)
      → held_sum (spot size) (on_blocks f) rest ≡ 0 → total (spot size) (on_blocks f) none w ≡ f x
  map_here w j a l who x rest held f z =
      let r = ap (held_sum (spot size) (at_place (spot size lock.Blocks))) held in
      let k = same_self (size + 256) in
      let t = lone g w j a l who lock.Blocks (on_blocks f) (under_blocks f) (omega arith) in
      let s = ap (held_sum (spot size) (on_blocks f)) held in omega arith

  in_map : (b i : ℕ) (v : DiskHeld) → Sound g i v
      → used_blocks (owning (b + 1) b) i v ≤ map_size i v
  in_map b i (holds.Slot e) s = omega arith
  in_map b i (holds.Class p) s = omega arith
  in_map b i (holds.Account c) s = omega arith
  in_map b i (holds.Blocks x) s = let r = own_few b 0 x.states in omega arith
  in_map b i (holds.Device d) s = omega arith

-- ---- bytes

pub bit_is : (b : Bool) → 0 < bit b → b ≡ true
bit_is true lt = refl
bit_is false lt = absurd (omega arith)

bytes_are : (c : List ℕ) (x : Option (List ℕ)) (page : List ℕ) → x ≡ Some page
    → 0 < by_option (same_bytes c) x → page ≡ c
bytes_are c x page e lt =
    let q : by_option (same_bytes c) x ≡ bit (same_list c page) = ap (by_option (same_bytes c)) e in
    sym (same_lists c page (bit_is (same_list c page) (omega arith)))

-- a block that has these bytes, where the device tells
has_is : (contents : Option (List (List ℕ))) (b : ℕ) (c page : List ℕ) → HasBlock contents b page
    → 0 < has_block b c contents → (page ≡ c) ⊎ (contents ≡ None)
has_is None b c page has lt = inr refl
has_is (Some pages) b c page has lt = inl (bytes_are c (slice_get pages b) page has lt)

pub lies_self : (b : ℕ) (c : List ℕ) → lies_by b c (kept.Wb b) c ≡ 1
lies_self b c = rw (eq-eqb b b refl) (ap bit (list_self c))

-- ---- what an actor holds

module _ (g : Begin) (w : State DiskHeld) (j : Joint g w) (a : ℕ) (l : Here)
    (who : slice_get w.locals a ≡ Some l) where
  abbrev n : ℕ
  n = g.given.size

  -- it holds the slot of a page that is kept in this block
  module _ (b s : ℕ) (e : EntryState) (is : e.kept ≡ kept.Wb b) where
    abbrev own_slot : List (LockNo × DiskHeld)
    own_slot = (slot s, holds.Slot e) ∷ []

    claimed : (k : LockNo) (v : DiskHeld) → l.held ≡ (k, v) ∷ own_slot → (m : ℕ)
        → m ≤ total (spot n) (used_blocks (owning m b)) none w
    claimed k v held m =
        let x = j.blocks (owning m b) in
        let y = locals_le n (mass (spot n) (block_claims (owning m b)) (block_uses (owning m b)))
        w.locals a l who in
        let z = ap (held_sum (spot n) (block_claims (owning m b))) held in
        let u : block_by (owning m b) e.kept ≡ m = ap (block_by (owning m b)) is
        ∙ pick_self b b m refl in omega arith

    -- the map has the block as a page's
    pub owned_is : (x : BlockMap) → l.held ≡ (lock.Blocks, holds.Blocks x) ∷ own_slot
        → slice_get x.states b ≡ Some Owned
    owned_is x held =
        let c = claimed lock.Blocks (holds.Blocks x) held 1 in
        let here : 1 ≤ held_sum (spot n) (at_place (spot n lock.Blocks)) l.held =
        (let r = ap (held_sum (spot n) (at_place (spot n lock.Blocks))) held in
        let q = same_self (n + 256) in omega arith) in
        let t = lone g w j a l who lock.Blocks (used_blocks (owning 1 b))
        (under_blocks g (λ y. used_from (owning 1 b) 0 y.states)) here in
        let y = ap (held_sum (spot n) (used_blocks (owning 1 b))) held in
        own_find 1 b 0 x.states b (omega arith) (omega arith)

    module _ (d : DeviceState) (held : l.held ≡ (lock.Device, holds.Device d) ∷ own_slot) where
      mine : 1 ≤ held_sum (spot n) (at_place (spot n lock.Device)) l.held
      mine = let r = ap (held_sum (spot n) (at_place (spot n lock.Device))) held in
          let q = same_self (n + 257) in omega arith

      -- the device has the block
      pub block_there : b < d.blocks
      block_there =
          let c = claimed lock.Device (holds.Device d) held (b + 1) in
          let u = total_mono n (Sound g) (used_blocks (owning (b + 1) b)) map_size (in_map g b) w
          (λ i v x. (j.each.in_row i v x).sound) (λ i m x. (j.each.in_local i m x).sound) in
          let s = j.size in
          let t = lone g w j a l who lock.Device device_size (under_device g (λ y. y.blocks)) mine in
          let y = ap (held_sum (spot n) device_size) held in omega arith

      -- and there the page's bytes, where it tells
      pub page_is : (page : List ℕ) → HasBlock d.contents b page
          → (page ≡ content g s e.order) ⊎ (d.contents ≡ None)
      page_is page has =
          let c = content g s e.order in
          let y = locals_le n (mass (spot n) (lies_at g b (content g s e.order))
          (written_at b (content g s e.order))) w.locals a l who in
          let z = ap (held_sum (spot n) (lies_at g b (content g s e.order))) held in
          let u : lies_by b (content g s e.order) e.kept (content g s e.order) ≡ 1 =
          ap (λ (k : Kept). lies_by b (content g s e.order) k (content g s e.order)) is
          ∙ lies_self b (content g s e.order) in
          let v = j.disk b (content g s e.order) (omega arith) in
          let t = lone g w j a l who lock.Device (stored_at b (content g s e.order))
          (under_device g (λ y. has_block b (content g s e.order) y.contents)) mine in
          let x = ap (held_sum (spot n) (stored_at b (content g s e.order))) held in
          has_is d.contents b (content g s e.order) page has (omega arith)

-- ---- what a giving does

module _ (g : Begin) where
  -- the weights of one side change as those of the other
  abbrev pub Balanced : Here → LockNo → DiskHeld → Here → (ℕ → DiskHeld → ℕ) → (Here → ℕ)
      → (ℕ → DiskHeld → ℕ) → (Here → ℕ) → Type 0
  Balanced l k v m f h f' h' = mass (spot g.given.size) f h m + f (spot g.given.size k) v + mass
      (spot g.given.size) f' h' l ≡ mass (spot g.given.size) f' h' m + f' (spot g.given.size k) v
      + mass (spot g.given.size) f h l

  module _ (a : ℕ) (l : Here) (k : LockNo) (v : DiskHeld) (m : Here) where
    -- a weight of values is as before
    abbrev pub Same : (ℕ → DiskHeld → ℕ) → Type 0
    Same f = mass (spot g.given.size) f none m + f (spot g.given.size k) v
        ≡ mass (spot g.given.size) f none l

    -- what a giving does to blocks, marks and the device where it is none of a writeback
    pub record Still : Type 0 where
      pub blocks : (f : BlockWeigh) → Balanced l k v m (block_claims f) none (used_blocks f) none
      pub maps : Same map_size
      pub devices : Same device_size
      -- no more pages are on the device, and it has what it had
      pub lies : (b : ℕ) (bytes : List ℕ) → mass (spot g.given.size) (lies_at g b bytes) none m
          + lies_at g b bytes (spot g.given.size k) v
          ≤ mass (spot g.given.size) (lies_at g b bytes) none l
      pub stored : (b : ℕ) (bytes : List ℕ) → Same (stored_at b bytes)
      -- no more pages are marked, and none shows less of another actor's writeback
      pub marks : (s b : ℕ) (bytes : List ℕ) → mass (spot g.given.size) (mark_at g s b bytes) none m
          + mark_at g s b bytes (spot g.given.size k) v
          ≤ mass (spot g.given.size) (mark_at g s b bytes) none l
      pub shows : (i s b : ℕ) → i ≢ a → mass (spot g.given.size) (shows_at i s b) none l
          ≤ mass (spot g.given.size) (shows_at i s b) none m + shows_at i s b (spot g.given.size k) v

    -- what weighs nothing in pools and in the account is as before
    abbrev pub IsApart : Type 0
    IsApart = (f : ℕ → DiskHeld → ℕ) → ((i : ℕ) (q : PoolState) → f i (holds.Class q) ≡ 0)
        → ((i : ℕ) (c : Counters) → f i (holds.Account c) ≡ 0) → Same f

    pub apart : IsApart → Still
    apart h = record {
      blocks = λ f. let x = h (block_claims f) (λ i q. refl) (λ i c. refl) in
          let y = h (used_blocks f) (λ i q. refl) (λ i c. refl) in omega arith;
      maps = h map_size (λ i q. refl) (λ i c. refl);
      devices = h device_size (λ i q. refl) (λ i c. refl);
      lies = λ b bytes. let x = h (lies_at g b bytes) (λ i q. refl) (λ i c. refl) in omega arith;
      stored = λ b bytes. h (stored_at b bytes) (λ i q. refl) (λ i c. refl);
      marks = λ s b bytes. let x = h (mark_at g s b bytes) (λ i q. refl) (λ i c. refl) in omega arith;
      shows = λ i s b ne. let x = h (shows_at i s b) (λ i q. refl) (λ i c. refl) in omega arith;
    }

  -- the entry has no other mark than before, and shows no less of other actors' writebacks
  pub record MarksLess (a s : ℕ) (e f : EntryState) : Type 0 where
    pub marks : (i b : ℕ) (bytes : List ℕ) → mark_at g i b bytes s (holds.Slot f)
        ≤ mark_at g i b bytes s (holds.Slot e)
    pub shows : (c i b : ℕ) → c ≢ a → shows_at c i b s (holds.Slot e)
        ≤ shows_at c i b s (holds.Slot f)

  -- an entry goes back, kept in the block where it was or in none
  pub entry_back : (a : ℕ) (l m : Here) (s : ℕ) (e f : EntryState) → l.held ≡ (slot s, holds.Slot e) ∷ []
      → m.held ≡ [] → ((h : BlockWeigh) → block_by h f.kept ≡ block_by h e.kept)
      → ((b : ℕ) (bytes : List ℕ) → lies_at g b bytes s (holds.Slot f)
      ≤ lies_at g b bytes s (holds.Slot e)) → MarksLess a s e f
      → Still a l (slot s) (holds.Slot f) m
  entry_back a l m s e f held after same fewer less = record {
    blocks = λ h. let r = ap (held_sum (spot g.given.size) (block_claims h)) held in
        let x = ap (held_sum (spot g.given.size) (used_blocks h)) held in
        let y = ap (held_sum (spot g.given.size) (block_claims h)) after in
        let z = ap (held_sum (spot g.given.size) (used_blocks h)) after in
        let u = same h in omega arith;
    maps = let r = ap (held_sum (spot g.given.size) map_size) held in
        let x = ap (held_sum (spot g.given.size) map_size) after in omega arith;
    devices = let r = ap (held_sum (spot g.given.size) device_size) held in
        let x = ap (held_sum (spot g.given.size) device_size) after in omega arith;
    lies = λ b bytes. let r = ap (held_sum (spot g.given.size) (lies_at g b bytes)) held in
        let x = ap (held_sum (spot g.given.size) (lies_at g b bytes)) after in
        let u = fewer b bytes in omega arith;
    stored = λ b bytes. let r = ap (held_sum (spot g.given.size) (stored_at b bytes)) held in
        let x = ap (held_sum (spot g.given.size) (stored_at b bytes)) after in omega arith;
    marks = λ i b bytes. let r = ap (held_sum (spot g.given.size) (mark_at g i b bytes)) held in
        let x = ap (held_sum (spot g.given.size) (mark_at g i b bytes)) after in
        let u = less.marks i b bytes in omega arith;
    shows = λ c i b ne. let r = ap (held_sum (spot g.given.size) (shows_at c i b)) held in
        let x = ap (held_sum (spot g.given.size) (shows_at c i b)) after in
        let u = less.shows c i b ne in omega arith;
  }

  -- a call of the device leaves what it has
  pub called_storage : (a : ℕ) (l m : Here) (s : ℕ) (d d' : DeviceState) (e : EntryState)
      → l.held ≡ (lock.Device, holds.Device d) ∷ (slot s, holds.Slot e) ∷ []
      → m.held ≡ (slot s, holds.Slot e) ∷ [] → IsCalled d d' → d'.contents ≡ d.contents
      → Still a l lock.Device (holds.Device d') m
  called_storage a l m s d d' e held after called same = record {
    blocks = λ h. let r = ap (held_sum (spot g.given.size) (block_claims h)) held in
        let x = ap (held_sum (spot g.given.size) (used_blocks h)) held in
        let y = ap (held_sum (spot g.given.size) (block_claims h)) after in
        let z = ap (held_sum (spot g.given.size) (used_blocks h)) after in omega arith;
    maps = let r = ap (held_sum (spot g.given.size) map_size) held in
        let x = ap (held_sum (spot g.given.size) map_size) after in omega arith;
    devices = let r = ap (held_sum (spot g.given.size) device_size) held in
        let x = ap (held_sum (spot g.given.size) device_size) after in
        let u = called.blocks in omega arith;
    lies = λ b bytes. let r = ap (held_sum (spot g.given.size) (lies_at g b bytes)) held in
        let x = ap (held_sum (spot g.given.size) (lies_at g b bytes)) after in omega arith;
    stored = λ b bytes. let r = ap (held_sum (spot g.given.size) (stored_at b bytes)) held in
        let x = ap (held_sum (spot g.given.size) (stored_at b bytes)) after in
        let u = ap (has_block b bytes) same in omega arith;
    marks = λ i b bytes. let r = ap (held_sum (spot g.given.size) (mark_at g i b bytes)) held in
        let x = ap (held_sum (spot g.given.size) (mark_at g i b bytes)) after in omega arith;
    shows = λ c i b ne. let r = ap (held_sum (spot g.given.size) (shows_at c i b)) held in
        let x = ap (held_sum (spot g.given.size) (shows_at c i b)) after in omega arith;
  }

-- what is not kept in a block
pub no_block : (h : BlockWeigh) (k : Kept) → is_wb k ≡ false → block_by h k ≡ 0
no_block h kept.Empty e = refl
no_block h (kept.Same w) e = refl
no_block h (kept.Obj o) e = refl
no_block h (kept.Wb b) e = absurd (cc)

pub no_lies : (b : ℕ) (bytes : List ℕ) (k : Kept) (page : List ℕ) → is_wb k ≡ false
    → lies_by b bytes k page ≡ 0
no_lies b bytes kept.Empty page e = refl
no_lies b bytes (kept.Same w) page e = refl
no_lies b bytes (kept.Obj o) page e = refl
no_lies b bytes (kept.Wb x) page e = absurd (cc)
