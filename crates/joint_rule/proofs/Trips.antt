-- What a giving does to blocks, to the marks of writebacks and to the device, and what the joint rule
-- tells of who has a block.
use Rattle.zr_base.specs.Plain.{has_whole}
use Rattle.std.proofs.Common.{◌≡◌, ◌≢◌, ◌+◌, ◌≤◌, ◌<◌, ◌∷◌, ◌++◌, ◌∙◌, ◌==◌, ◌&&◌, ℕ, zero, suc, Bool, true, false, cond, eqb, is_none, option_map, List, [], Option, Some, None, slice_get, refl, sym, ap, subst, arith, inl, inr, ⊎_elim, length}
use Rattle.std.specs.Prelude.{⊤}
use Rattle.block_map.specs.declared.state.BlockState.{BlockState}
use Rattle.block_map.specs.declared.state.BlockState.TheVariants.{Free, Held, Left, Owned}
use Rattle.joint_rule.proofs.Blocks.{Balanced, MarksLess, Same, Still}
use Rattle.joint_rule.proofs.Pools.{pick, same_is, same_lists, same_self}
use Rattle.joint_rule.proofs.Sums.{held_nothing, locals_two, row_nothing, some_local, total_mono}
use Rattle.joint_rule.specs.Begins.{Begin, content}
use Rattle.joint_rule.specs.Joint.{Joint, Sound}
use Rattle.plain_disk.specs.Phases.{foreign}
use Rattle.joint_rule.specs.Weights.{BlockWeigh, at_place, block_claims, block_uses, carried_at, carried_by, carries, carries_at, device_size, is_carrying, lies_at, map_size, mark_at, mark_by, marks_of, none, nothing, pair, same, shows_at, stored_at, use_at, use_by, use_in, used_blocks, used_from, written_at, written_by, is_written}
use Rattle.lock_row.specs.Totals.{by_option, mass, total}
use Rattle.lock_row.specs.declared.names.At.{At}
use Rattle.lock_row.specs.declared.names.At.TheVariants.{Visiting}
use Rattle.lock_row.specs.declared.names.LockNo.{LockNo}
use Rattle.lock_row.specs.declared.names.Pin.{Pin}
use Rattle.lock_row.specs.declared.names.State.{State}
use Rattle.lock_row.specs.declared.names.Step.{Step}
use Rattle.lock_row.specs.declared.names.Step.TheVariants as step
use Rattle.lock_row.specs.declared.names.Trip.{Trip}
use Rattle.page_steps.specs.Steps.{DiskHeld, Here, fetched_at, made_at, pinned_at, quit_at, settle_at, spot, discard_at, entered_at, part_at, seen_at, write_at}
use Rattle.slot_entry.specs.Entries.{EntryState}
use Rattle.slot_entry.specs.Forms.{Blank, PageForm, Pooled, Word, same_list}
use Rattle.slot_entry.specs.declared.kept.Kept.{Kept}
use Rattle.std.proofs.lemmas.Bool.{and_parts, cases_Bool, eqb-true, and_right}
use Rattle.zr_base.specs.declared.op.Op.{Op}
use Rattle.zr_base.specs.declared.op.Op.TheVariants.{Compact, Discard, Idle, Read, Write, Writeback}
use Rattle.zr_base.specs.declared.op.Tag.{Tag}
use Rattle.lock_row.specs.declared.names.Held.TheVariants as holds
use Rattle.slot_entry.specs.declared.kept.Kept.TheVariants as kept

-- ---- stages of no writeback

abbrev pub NoTrip : At → Type 0
NoTrip (Visiting s x) = ⊥
NoTrip at = ⊤

pub uses_none : (f : BlockWeigh) (l : Here) → NoTrip l.at → block_uses f l ≡ 0
uses_none f l i = by_at l.at i where
  by_at : (at : At) → NoTrip at → use_in f at ≡ 0
  by_at (Visiting s x) i = absurd i
  by_at at i = refl

cond_none : (c : Bool) (n : ℕ) → n ≡ 0 → cond c n 0 ≡ 0
cond_none true n e = e
cond_none false n e = refl

pub written_none : (b : ℕ) (bytes : List ℕ) (l : Here) → NoTrip l.at → written_at b bytes l ≡ 0
written_none b bytes l i =
    cond_none (is_none l.fail) (written_by b bytes l.at l.page) (by_at l.at l.page i) where
      by_at : (at : At) (page : Option (List ℕ)) → NoTrip at → written_by b bytes at page ≡ 0
      by_at (Visiting s x) page i = absurd i
      by_at at page i = refl

pub carried_none : (i b : ℕ) (bytes : List ℕ) (l : Here) → NoTrip l.at
    → carried_at i b bytes l ≡ 0
carried_none i b bytes l n = by_at l.at l.page n where
  by_at : (at : At) (page : Option (List ℕ)) → NoTrip at → carried_by i b bytes at page ≡ 0
  by_at (Visiting s x) page n = absurd n
  by_at at page n = refl

pub carries_none : (l : Here) → NoTrip l.at → carries l ≡ None
carries_none l i = by_at l.at i where
  by_at : (at : At) → NoTrip at → carries_at at ≡ None
  by_at (Visiting s x) i = absurd i
  by_at at i = refl

-- An actor has no block, and carries nothing.
pub record SaysNone (l : Here) : Type 0 where
  pub uses : (f : BlockWeigh) → block_uses f l ≡ 0
  pub written : (b : ℕ) (bytes : List ℕ) → written_at b bytes l ≡ 0
  pub carried : (i b : ℕ) (bytes : List ℕ) → carried_at i b bytes l ≡ 0
  pub carries : carries l ≡ None

pub plain_says : (l : Here) → NoTrip l.at → SaysNone l
plain_says l i = record {
  uses = λ f. uses_none f l i;
  written = λ b bytes. written_none b bytes l i;
  carried = λ s b bytes. carried_none s b bytes l i;
  carries = carries_none l i;
}

-- at these steps it has none
abbrev pub IsBare : Step → Type 0
IsBare step.Arriving = ⊤
IsBare step.Passing = ⊤
IsBare step.Reserving = ⊤
IsBare step.Quitting = ⊤
IsBare s = ⊥

bare_uses : (f : BlockWeigh) (s : Step) (x : Trip) → IsBare s → use_at f s x ≡ 0
bare_uses f step.Arriving x i = refl
bare_uses f step.Passing x i = refl
bare_uses f step.Reserving x i = refl
bare_uses f step.Quitting x i = refl
bare_uses f s x i = absurd i

bare_carries : (s : Step) → IsBare s → is_carrying s ≡ false
bare_carries step.Arriving i = refl
bare_carries step.Passing i = refl
bare_carries step.Reserving i = refl
bare_carries step.Quitting i = refl
bare_carries s i = absurd i

-- what isn't carried
module _ (l : Here) (s : Step) (x : Trip) (at : l.at ≡ Visiting s x)
    (off : is_carrying s ≡ false) where
  pub idle_written : (b : ℕ) (bytes : List ℕ) → written_at b bytes l ≡ 0
  idle_written b bytes = cond_none (is_none l.fail) (written_by b bytes l.at l.page)
      (ap (λ (i : At). written_by b bytes i l.page) at
      ∙ ap (λ (c : Bool). cond c (pair b bytes x.block l.page) 0)
      (ap (λ (c : Bool). is_written s && c) off ∙ and_right (is_written s) false refl))

  pub idle_carried : (i b : ℕ) (bytes : List ℕ) → carried_at i b bytes l ≡ 0
  idle_carried i b bytes = ap (λ (c : At). carried_by i b bytes c l.page) at
      ∙ ap (λ (c : Bool). cond (c && (i == x.page)) (pair b bytes x.block l.page) 0) off

  pub idle_carries : carries l ≡ None
  idle_carries = ap carries_at at
      ∙ ap (λ (c : Bool). cond c (option_map (λ b. (x.page, b)) x.block) None) off

pub bare_says : (l : Here) (s : Step) (x : Trip) → l.at ≡ Visiting s x → IsBare s → SaysNone l
bare_says l s x at i = record {
  uses = λ f. ap (use_in f) at ∙ bare_uses f s x i;
  written = idle_written l s x at (bare_carries s i);
  carried = idle_carried l s x at (bare_carries s i);
  carries = idle_carries l s x at (bare_carries s i);
}

pub plain_settle : (k : Kept) → NoTrip (settle_at k)
plain_settle kept.Empty = tt
plain_settle (kept.Same w) = tt
plain_settle (kept.Obj o) = tt
plain_settle (kept.Wb b) = tt

pub plain_made : (f : PageForm) (k : Kept) → NoTrip (made_at f k)
plain_made Blank k = plain_settle k
plain_made (Word w) k = plain_settle k
plain_made (Pooled bytes huge) k = tt

pub plain_pinned : (op : Op) (f : PageForm) (k : Kept) → NoTrip (pinned_at op f k)
plain_pinned (Write start count stuff) f k = plain_made f k
plain_pinned (Read start count) f k = tt
plain_pinned (Discard start count) f k = tt
plain_pinned (Idle age) f k = tt
plain_pinned (Writeback mode) f k = tt
plain_pinned Compact f k = tt

pub plain_fetched : (op : Op) (f : PageForm) (k : Kept) → NoTrip (fetched_at op f k)
plain_fetched (Write start count stuff) f k = plain_made f k
plain_fetched (Read start count) f k = tt
plain_fetched (Discard start count) f k = tt
plain_fetched (Idle age) f k = tt
plain_fetched (Writeback mode) f k = tt
plain_fetched Compact f k = tt

pub plain_quit : (x : Option Pin) → NoTrip (quit_at x)
plain_quit None = tt
plain_quit (Some x) = tt

plain_part : (f : PageForm) (k : Kept) → NoTrip (part_at f k)
plain_part f kept.Empty = plain_made f kept.Empty
plain_part f (kept.Same w) = plain_made f (kept.Same w)
plain_part f (kept.Obj o) = tt
plain_part f (kept.Wb b) = tt

plain_write : (b : Bool) (f : PageForm) (k : Kept) → NoTrip (write_at b f k)
plain_write true f k = plain_made f k
plain_write false f k = plain_part f k

plain_seen : (k : Kept) → NoTrip (seen_at k)
plain_seen kept.Empty = tt
plain_seen (kept.Same w) = tt
plain_seen (kept.Obj o) = tt
plain_seen (kept.Wb b) = tt

plain_discard : (k : Kept) → NoTrip (discard_at k)
plain_discard kept.Empty = tt
plain_discard (kept.Same w) = tt
plain_discard (kept.Obj o) = tt
plain_discard (kept.Wb b) = tt

pub plain_entered : (op : Op) (page : ℕ) (f : PageForm) (k : Kept) → NoTrip (entered_at op page f k)
plain_entered (Write start count stuff) page f k = plain_write (has_whole start count page) f k
plain_entered (Read start count) page f k = plain_seen k
plain_entered (Discard start count) page f k = plain_discard k
plain_entered (Idle age) page f k = tt
plain_entered (Writeback mode) page f k = tt
plain_entered Compact page f k = tt

-- ---- marks

pub no_mark : (i b : ℕ) (bytes : List ℕ) (j : ℕ) (under : Option ℕ) (page : List ℕ)
    → under ≡ None → mark_by i b bytes j under page ≡ 0
no_mark i b bytes j under page e = cond_none (i == j) (pair b bytes under (Some page))
    (ap (λ (u : Option ℕ). pair b bytes u (Some page)) e)

foreign_push : (c : ℕ) (ts : List Tag) (t : Tag) → (t.actor ≡ c → ⊥)
    → foreign c (ts ++ t ∷ []) ≡ foreign c ts + 1
foreign_push c [] t ne = elim (cases_Bool (eqb t.actor c)) [
  | inl on ↦ absurd (ne (eqb-true t.actor c on))
  | inr off ↦ rw off refl
]
foreign_push c (x ∷ xs) t ne = let r = foreign_push c xs t ne in omega arith

same_low : (a b : ℕ) → same a b ≤ 1
same_low a b = ⊎_elim (λ z. omega arith) (λ o. let e = o.0 in omega arith) (same_is a b)

one_mark : (b : ℕ) (under : Option ℕ) → marks_of b under ≤ 1
one_mark b None = omega arith
one_mark b (Some c) = same_low b c

cond_up : (c : Bool) (m n : ℕ) → m ≤ n → cond c m 0 ≤ cond c n 0
cond_up true m n le = le
cond_up false m n le = omega arith

-- an access removes the mark, and notes its tag
pub noted_marks : (g : Begin) (a s : ℕ) (e f : EntryState) (t : Tag) → t.actor ≡ a
    → f.under ≡ None → f.order ≡ e.order ++ t ∷ [] → MarksLess g a s e f
noted_marks g a s e f t who free order = record {
  marks = λ i b bytes. let z = no_mark i b bytes s f.under (content g s f.order) free in omega arith;
  shows = λ c i b ne. cond_up (i == s) (marks_of b e.under + foreign c e.order)
      (marks_of b f.under + foreign c f.order)
      (let x : foreign c f.order ≡ foreign c e.order + 1 = ap (foreign c) order
      ∙ foreign_push c e.order t (λ is. ne (sym is ∙ who)) in
      let y = one_mark b e.under in omega arith);
}

-- nothing changes of them
pub same_marks : (g : Begin) (a s : ℕ) (e f : EntryState) → f.under ≡ e.under → f.order ≡ e.order
    → MarksLess g a s e f
same_marks g a s e f under order = record {
  marks = λ i b bytes. let z : mark_by i b bytes s f.under (content g s f.order)
      ≡ mark_by i b bytes s e.under (content g s e.order) =
      (λ i'. mark_by i b bytes s (under i') (content g s (order i'))) in omega arith;
  shows = λ c i b ne. cond_up (i == s) (marks_of b e.under + foreign c e.order)
      (marks_of b f.under + foreign c f.order)
      (let z : marks_of b f.under + foreign c f.order ≡ marks_of b e.under + foreign c e.order =
      (λ i'. marks_of b (under i') + foreign c (order i')) in omega arith);
}

-- ---- what a giving does

module _ (g : Begin) (w : State DiskHeld) (a : ℕ) (l : Here) (k : LockNo) (v : DiskHeld)
    (m : Here) where
  -- where the first weight is above zero after the giving, so is the second
  abbrev pub Implies : (ℕ → DiskHeld → ℕ) → (Here → ℕ) → (ℕ → DiskHeld → ℕ) → Type 0
  Implies f h f' = mass (spot g.given.size) f h l
      < total (spot g.given.size) f h w + mass (spot g.given.size) f h m
      + f (spot g.given.size k) v
      → mass (spot g.given.size) f' none l
      < total (spot g.given.size) f' none w + mass (spot g.given.size) f' none m
      + f' (spot g.given.size k) v

  -- the weight of values stays at most that of actors
  abbrev pub Leans : (ℕ → DiskHeld → ℕ) → (Here → ℕ) → Type 0
  Leans f h = total (spot g.given.size) f none w + mass (spot g.given.size) f none m
      + f (spot g.given.size k) v + mass (spot g.given.size) nothing h l
      ≤ total (spot g.given.size) nothing h w + mass (spot g.given.size) nothing h m
      + mass (spot g.given.size) f none l

  -- What a giving does to blocks, to marks and to the device.
  pub record Storage : Type 0 where
    pub blocks : (f : BlockWeigh)
        → Balanced g l k v m (block_claims f) (block_uses f) (used_blocks f) none
    pub maps : Same g a l k v m map_size
    pub devices : Same g a l k v m device_size
    pub disk : (b : ℕ) (bytes : List ℕ)
        → Implies (lies_at g b bytes) (written_at b bytes) (stored_at b bytes)
    pub marks : (s b : ℕ) (bytes : List ℕ) → Leans (mark_at g s b bytes) (carried_at s b bytes)
    -- the other actors' writebacks, and this one's
    pub theirs : (i : ℕ) (y : Here) (s b : ℕ) → slice_get w.locals i ≡ Some y → i ≢ a
        → carries y ≡ Some (s, b) → mass (spot g.given.size) (shows_at i s b) none l
        ≤ mass (spot g.given.size) (shows_at i s b) none m + shows_at i s b (spot g.given.size k) v
    pub mine : (s b : ℕ) → carries m ≡ Some (s, b)
        → mass (spot g.given.size) (shows_at a s b) none l
        < total (spot g.given.size) (shows_at a s b) none w
        + mass (spot g.given.size) (shows_at a s b) none m + shows_at a s b (spot g.given.size k) v

  -- Blocks aside, a giving changes nothing of blocks, marks and the device.
  pub record Steady : Type 0 where
    pub maps : Same g a l k v m map_size
    pub devices : Same g a l k v m device_size
    pub lies : (b : ℕ) (bytes : List ℕ)
        → mass (spot g.given.size) (lies_at g b bytes) none m
        + lies_at g b bytes (spot g.given.size k) v
        ≤ mass (spot g.given.size) (lies_at g b bytes) none l
    pub stored : (b : ℕ) (bytes : List ℕ) → Same g a l k v m (stored_at b bytes)
    pub marks : (s b : ℕ) (bytes : List ℕ)
        → mass (spot g.given.size) (mark_at g s b bytes) none m
        + mark_at g s b bytes (spot g.given.size k) v
        ≤ mass (spot g.given.size) (mark_at g s b bytes) none l
    pub shows : (i s b : ℕ) → i ≢ a → mass (spot g.given.size) (shows_at i s b) none l
        ≤ mass (spot g.given.size) (shows_at i s b) none m + shows_at i s b (spot g.given.size k) v

  -- What the actor says of marks and of the device is as before, or it says less of what it has
  -- written.
  pub record IsKept : Type 0 where
    pub written : (b : ℕ) (bytes : List ℕ) → written_at b bytes m ≤ written_at b bytes l
    pub carried : (s b : ℕ) (bytes : List ℕ) → carried_at s b bytes m ≡ carried_at s b bytes l
    pub carrier : (s b : ℕ) → carries m ≡ Some (s, b) → carries l ≡ Some (s, b)
    pub shows : (s b : ℕ) → carries m ≡ Some (s, b)
        → mass (spot g.given.size) (shows_at a s b) none l
        ≤ mass (spot g.given.size) (shows_at a s b) none m + shows_at a s b (spot g.given.size k) v

  -- the changes of the map are those of the blocks that pages and actors have
  abbrev pub BlocksMove : Type 0
  BlocksMove = (f : BlockWeigh)
      → Balanced g l k v m (block_claims f) (block_uses f) (used_blocks f) none

  module _ (j : Joint g w) (who : slice_get w.locals a ≡ Some l) where
    pub steady_storage : BlocksMove → Steady → IsKept → Storage
    steady_storage blocks s x = record {
      blocks = blocks;
      maps = s.maps;
      devices = s.devices;
      disk = λ b bytes lt. let y = s.lies b bytes in let z = x.written b bytes in
          let d = j.disk b bytes (omega arith) in let t = s.stored b bytes in omega arith;
      marks = λ i b bytes. let y = s.marks i b bytes in let z = x.carried i b bytes in
          let r = j.marks i b bytes in let p = held_nothing g.given.size l.held in
          let q = held_nothing g.given.size m.held in omega arith;
      theirs = λ i y c b there ne is. s.shows i c b ne;
      mine = λ c b is. let y = j.carriers a l c b who (x.carrier c b is) in
          let z = x.shows c b is in omega arith;
    }

    pub alike_storage : Still g a l k v m → ((f : BlockWeigh) → block_uses f m ≡ block_uses f l)
        → IsKept → Storage
    alike_storage s uses x = steady_storage
        (λ f. let y = s.blocks f in let z = uses f in omega arith)
        (record {
          maps = s.maps;
          devices = s.devices;
          lies = s.lies;
          stored = s.stored;
          marks = s.marks;
          shows = s.shows;
        }) x

    -- where it says nothing, before and after
    pub none_storage : Still g a l k v m → SaysNone l → SaysNone m → Storage
    none_storage s was now = alike_storage s (λ f. now.uses f ∙ sym (was.uses f)) (record {
      written = λ b bytes. let y = now.written b bytes in omega arith;
      carried = λ i b bytes. now.carried i b bytes ∙ sym (was.carried i b bytes);
      carrier = λ i b is. absurd (let q : None ≡ Some (i, b) = sym now.carries ∙ is in cc);
      shows = λ i b is. absurd (let q : None ≡ Some (i, b) = sym now.carries ∙ is in cc);
    })

    pub still_storage : Still g a l k v m → NoTrip l.at → NoTrip m.at → Storage
    still_storage s was now = none_storage s (plain_says l was) (plain_says m now)

    -- where the actor's stage was this one of no writeback
    pub quiet_storage : (at : At) → l.at ≡ at → NoTrip at → NoTrip m.at → Still g a l k v m
        → Storage
    quiet_storage at is was now s = still_storage s (subst NoTrip (sym is) was) now

-- ---- who has a block

-- any use of a block
abbrev pub using : ℕ → BlockWeigh
using b i x = same b x

use_low : (b k : ℕ) (s : BlockState) → use_by (using b) k s ≤ same b k
use_low b k Free = omega arith
use_low b k Held = omega arith
use_low b k Owned = omega arith
use_low b k Left = omega arith

used_after : (b k : ℕ) (xs : List BlockState) → b < k → used_from (using b) k xs ≡ 0
used_after b k [] lt = refl
used_after b k (s ∷ xs) lt =
    let r = used_after b (suc k) xs (omega arith) in let h = use_low b k s in
    let z : same b k ≡ 0 = ⊎_elim (λ z. z)
    (λ o. absurd (let e = o.1 in let no : ⊥ = omega arith in no)) (same_is b k) in omega arith

-- each block has one use at most
pub used_once : (b k : ℕ) (xs : List BlockState) → used_from (using b) k xs ≤ 1
used_once b k [] = omega arith
used_once b k (s ∷ xs) = let h = use_low b k s in ⊎_elim
    (λ z. let r = used_once b (suc k) xs in omega arith)
    (λ o. let e = o.1 in let u = o.0 in let r = used_after b (suc k) xs (omega arith) in omega arith)
    (same_is b k)

-- a block that a writeback has reserved, with so much for it
abbrev pub holding : ℕ → ℕ → BlockWeigh
holding m b i x = pick (same i 0) (pick (same b x) m 0) 0

module _ (m b : ℕ) where
  hold_low : (k : ℕ) (s : BlockState) → use_by (holding m b) k s ≤ pick (same b k) m 0
  hold_low k Free = omega arith
  hold_low k Held = omega arith
  hold_low k Owned = omega arith
  hold_low k Left = omega arith

  hold_only : (k : ℕ) (s : BlockState) → 0 < use_by (holding m b) k s → s ≡ Held
  hold_only k Free lt = absurd (omega arith)
  hold_only k Held lt = refl
  hold_only k Owned lt = absurd (omega arith)
  hold_only k Left lt = absurd (omega arith)

  not_held : (k : ℕ) → b ≢ k → pick (same b k) m 0 ≡ 0
  not_held k ne = ⊎_elim (λ z. rw z refl) (λ o. absurd (ne o.1)) (same_is b k)

  hold_after : (k : ℕ) (xs : List BlockState) → b < k → used_from (holding m b) k xs ≡ 0
  hold_after k [] lt = refl
  hold_after k (s ∷ xs) lt =
      let r = hold_after (suc k) xs (omega arith) in let h = hold_low k s in
      let z = not_held k (λ e. let no : ⊥ = omega arith in no) in omega arith

  pub hold_find : (k : ℕ) (xs : List BlockState) (i : ℕ) → b ≡ k + i
      → 0 < used_from (holding m b) k xs → slice_get xs i ≡ Some Held
  hold_find k [] i e lt = absurd (omega arith)
  hold_find k (s ∷ xs) zero e lt = let r = hold_after (suc k) xs (omega arith) in
      ap Some (hold_only k s (omega arith))
  hold_find k (s ∷ xs) (suc i) e lt =
      let h = hold_low k s in let z = not_held k (λ y. let no : ⊥ = omega arith in no) in
      hold_find (suc k) xs i (omega arith) (omega arith)

-- the blocks that writebacks have reserved are below the map's
pub hold_few : (b k : ℕ) (xs : List BlockState) → used_from (holding (b + 1) b) k xs ≤ k + length xs
hold_few b k [] = omega arith
hold_few b k (s ∷ xs) =
    let h = hold_low (b + 1) b k s in ⊎_elim
    (λ z. let r = hold_few b (suc k) xs in
    let y : pick (same b k) (b + 1) 0 ≡ 0 = rw z refl in omega arith)
    (λ o. let e = o.1 in let u = o.0 in let r = hold_after (b + 1) b (suc k) xs (omega arith) in
    let y : pick (same b k) (b + 1) 0 ≡ b + 1 = rw u refl in omega arith)
    (same_is b k)

-- ---- what an actor carries

-- a pair, or none
abbrev first_of : Option (ℕ × ℕ) → ℕ
first_of None = 0
first_of (Some x) = x.0

abbrev second_of : Option (ℕ × ℕ) → ℕ
second_of None = 0
second_of (Some x) = x.1

some_block : (o : Option ℕ) (page s b : ℕ)
    → option_map {U = ℕ × ℕ} (λ (c : ℕ). (page, c)) o ≡ Some (s, b)
    → (page ≡ s) × (o ≡ Some b)
some_block None page s b e = absurd (cc)
some_block (Some c) page s b e = (
  ap first_of e,
  ap Some (ap second_of e),
)

-- The actor carries page s to block b.
pub record Carrier (at : At) (s b : ℕ) : Type 0 where
  pub step : Step
  pub trip : Trip
  pub is : at ≡ Visiting step trip
  pub carries : is_carrying step ≡ true
  pub page : trip.page ≡ s
  pub block : trip.block ≡ Some b

carrier_by : (at : At) (s b : ℕ) → carries_at at ≡ Some (s, b) → Carrier at s b
carrier_by (Visiting st x) s b e = elim (cases_Bool (is_carrying st)) [
  | inl on ↦ (let q : option_map {U = ℕ × ℕ} (λ (c : ℕ). (x.page, c)) x.block ≡ Some (s, b) =
      sym (ap (λ (i : Bool). cond i (option_map {U = ℕ × ℕ} (λ (c : ℕ). (x.page, c)) x.block) None) on) ∙ e in
      let r = some_block x.block x.page s b q in
      record { step = st; trip = x; is = refl; carries = on; page = r.0; block = r.1 })
  | inr off ↦ absurd (let q : None ≡ Some (s, b) =
      sym (ap (λ (i : Bool). cond i (option_map {U = ℕ × ℕ} (λ (c : ℕ). (x.page, c)) x.block) None) off) ∙ e in cc)
]
carrier_by at s b e = absurd (cc)

pub carrier_of : (y : Here) (s b : ℕ) → carries y ≡ Some (s, b) → Carrier y.at s b
carrier_of y s b e = carrier_by y.at s b e

-- it has the block
step_uses : (f : BlockWeigh) (b : ℕ) (st : Step) (x : Trip) → ((i : ℕ) → f i b ≡ 1)
    → is_carrying st ≡ true → x.block ≡ Some b → use_at f st x ≡ 1
step_uses f b step.Flying x one on e = ap (by_option (f 0)) e ∙ one 0
step_uses f b step.Storing x one on e = ap (by_option (f 0)) e ∙ one 0
step_uses f b step.Landing x one on e = ap (by_option (f 0)) e ∙ one 0
step_uses f b step.Won x one on e = ap (by_option (f 0)) e ∙ one 0
step_uses f b step.Freeing x one on e = ap (by_option (f 0)) e ∙ one 0
step_uses f b step.Backing x one on e = ap (by_option (f 0)) e ∙ one 0
step_uses f b step.Committing x one on e = ap (by_option (f 0)) e ∙ one 0
step_uses f b step.Owing x one on e = ap (by_option (f 1)) e ∙ one 1
step_uses f b step.Paying x one on e = ap (by_option (f 1)) e ∙ one 1
step_uses f b step.Putting x one on e = ap (by_option (f 1)) e ∙ one 1
step_uses f b step.Losing x one on e = ap (by_option (f 0)) e ∙ one 0
step_uses f b st x one on e = absurd (cc)

pub carrier_uses : (y : Here) (s b : ℕ) → Carrier y.at s b → block_uses (using b) y ≡ 1
carrier_uses y s b c = ap (use_in (using b)) c.is
    ∙ step_uses (using b) b c.step c.trip (λ i. same_self b) c.carries c.block

-- what is carried with these bytes
pub bytes_of : (b : ℕ) (bytes : List ℕ) (o : Option ℕ) (page : Option (List ℕ)) → 0 < pair b bytes o page
    → (o ≡ Some b) × (page ≡ Some bytes)
bytes_of b bytes None page lt = absurd (omega arith)
bytes_of b bytes (Some c) None lt = absurd (omega arith)
bytes_of b bytes (Some c) (Some y) lt = elim (cases_Bool (eqb b c)) [
  | inl on ↦ elim (cases_Bool (same_list bytes y)) [
    | inl same_one ↦ (ap Some (sym (eqb-true b c on)), ap Some (sym (same_lists bytes y same_one)))
    | inr other ↦ absurd (let z : pair b bytes (Some c) (Some y) ≡ 0 = rw (on, other) refl in
        let none : ⊥ = omega arith in none)
  ]
  | inr off ↦ absurd (let z : pair b bytes (Some c) (Some y) ≡ 0 = rw off refl in
      let none : ⊥ = omega arith in none)
]

pub above_zero : (c : Bool) (n : ℕ) → 0 < cond c n 0 → (c ≡ true) × (0 < n)
above_zero true n lt = (refl, lt)
above_zero false n lt = absurd (omega arith)

carried_by_is : (s b : ℕ) (bytes : List ℕ) (at : At) (page : Option (List ℕ))
    → 0 < carried_by s b bytes at page → Carrier at s b × (page ≡ Some bytes)
carried_by_is s b bytes (Visiting st x) page lt =
    let c = above_zero (is_carrying st && (s == x.page)) (pair b bytes x.block page) lt in
    let p = and_parts (is_carrying st) (eqb s x.page) c.0 in
    let q = bytes_of b bytes x.block page c.1 in (
      record {
        step = st;
        trip = x;
        is = refl;
        carries = p.0;
        page = sym (eqb-true s x.page p.1);
        block = q.0;
      },
      q.1,
    )
carried_by_is s b bytes at page lt = absurd (omega arith)

module _ (g : Begin) where
  one_map : (b i : ℕ) (v : DiskHeld) → Sound g i v
      → used_blocks (using b) i v ≤ at_place (g.given.size + 256) i v
  one_map b i (holds.Slot e) s = omega arith
  one_map b i (holds.Class p) s = omega arith
  one_map b i (holds.Account c) s = omega arith
  one_map b i (holds.Blocks x) s = let r = used_once b 0 x.states in
      let q : same (g.given.size + 256) i ≡ 1 = ap (same (g.given.size + 256)) s
      ∙ same_self (g.given.size + 256) in omega arith
  one_map b i (holds.Device d) s = omega arith

  module _ (w : State DiskHeld) (j : Joint g w) where
    -- a block is had once at most
    pub one_user : (b : ℕ) → total (spot g.given.size) (block_claims (using b))
        (block_uses (using b)) w ≤ 1
    one_user b =
        let x = j.blocks (using b) in
        let y = total_mono g.given.size (Sound g) (used_blocks (using b))
        (at_place (g.given.size + 256)) (one_map b) w (λ i v e. (j.each.in_row i v e).sound)
        (λ i m e. (j.each.in_local i m e).sound) in
        let z = j.alone (g.given.size + 256) in omega arith

    -- two actors don't have one block
    pub not_both : (a i : ℕ) (l y : Here) (b : ℕ) → slice_get w.locals a ≡ Some l
        → slice_get w.locals i ≡ Some y → i ≢ a → 1 ≤ block_uses (using b) l
        → 1 ≤ block_uses (using b) y → ⊥
    not_both a i l y b who there ne x z =
        let o = one_user b in
        let t = locals_two g.given.size (mass (spot g.given.size) (block_claims (using b))
        (block_uses (using b))) w.locals a i l y who there ne in omega arith

    -- a page that is marked is carried with its bytes
    pub mark_carried : (s b : ℕ) (bytes : List ℕ)
        → 0 < total (spot g.given.size) (mark_at g s b bytes) none w
        → (i : ℕ) × (y : Here) × (slice_get w.locals i ≡ Some y) × Carrier y.at s b
        × (y.page ≡ Some bytes)
    mark_carried s b bytes lt =
        let x = j.marks s b bytes in let r = row_nothing g.given.size w.row in
        let t = some_local g.given.size (mass (spot g.given.size) nothing (carried_at s b bytes))
        w.locals (omega arith) in
        let h = held_nothing g.given.size t.1.held in
        let c = carried_by_is s b bytes t.1.at t.1.page (omega arith) in
        (t.0, t.1, t.2, c.0, c.1)
