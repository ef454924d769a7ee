-- Sectors keep their 512 bytes, whatever the calls, and blank pages their zeros.
use Rattle.std.proofs.Common.{◌≡◌, ◌+◌, ◌*◌, ◌-◌, ◌/◌, ◌≤◌, ◌<◌, ◌∷◌, ◌∙◌, ◌^◌, ◌%◌, ℕ, zero, suc, true, leb, ltb, List, [], length, drop, sum_by, Some, None, get_or, slice_get, refl, sym, ap, subst, arith, inl, inr, ⊎_elim, length-append}
use Rattle.joint_rule.proofs.Fitting.{touched_low}
use Rattle.backing_dev.specs.Dev.{DeviceState}
use Rattle.joint_rule.proofs.Ended.{entries, order_is}
use Rattle.joint_rule.proofs.Facts.{Known}
use Rattle.joint_rule.proofs.Pages.{all_sectors, blank_zero, holds_after}
use Rattle.joint_rule.proofs.Ranges.{range_by, range_map, range_none}
use Rattle.joint_rule.proofs.Rests.{at_rest}
use Rattle.joint_rule.specs.Begins.{finding, AreCarried, AreRequests, Begin, FindsRight, IsRoomy, Proper, found_after}
use Rattle.joint_rule.specs.Ends.{AllFinished, begin_at, new_rest, order_in, orders_of, rest_after, value_at, idle_in, back_in}
use Rattle.joint_rule.specs.Rule.{Ruled}
use Rattle.joint_rule.specs.Starts.{IsRenewed}
use Rattle.lock_row.specs.declared.names.State.{State}
use Rattle.mem_account.specs.Counters.{no_counts}
use Rattle.mem_account.specs.Tally.{back_of, huge_of, packed_bytes_of, packed_of, same_of}
use Rattle.mem_account.specs.declared.weight.Weight.{Weight}
use Rattle.page_steps.specs.Steps.{DiskHeld, on}
use Rattle.plain_disk.specs.Legal.{sets}
use Rattle.plain_disk.specs.Legal.{IsNew as IsNewDisk}
use Rattle.plain_disk.specs.Phases.{held_after, nth_order, touched_by}
use Rattle.plain_disk.specs.Rests.{Rest, Settings, frames_of, kept_at, kept_pages, page_of, stats}
use Rattle.size_class.specs.Classes.{chain_of}
use Rattle.slot_entry.specs.Entries.{EntryState}
use Rattle.slot_entry.specs.Forms.{page_weight}
use Rattle.std.proofs.Common.{length-drop}
use Rattle.std.proofs.lemmas.Bool.{and_parts, cases_Bool, cases_lt, leb-true, ltb-true}
use Rattle.std.proofs.lemmas.List.{get_or-replicate, length-replicate, length-take-le}
use Rattle.std.proofs.lemmas.List.Elements.{All-append, All-drop, All-from_recursion, All-take}
use Rattle.std.proofs.lemmas.List.FromFn.{length-map-range_with_len}
use Rattle.std.proofs.lemmas.Option.{get_or_from_slice_get}
use Rattle.std.specs.Int.{byte_at, bytes_low_first, to_le_bytes, w64}
use Rattle.std.specs.List.{AllByRecursion}
use Rattle.std.specs.Prelude.{All}
use Rattle.zr_base.specs.Plain.{HasBytes, HasSectors, covers, has_whole, named, sector_after, stuff_sector, words_from, zero_sector, IsSector, Finds}
use Rattle.zr_base.specs.declared.op.Op.{Op}
use Rattle.zr_base.specs.declared.op.Op.TheVariants.{Compact, Discard, Idle, Read, Write, Writeback}
use Rattle.zr_base.specs.declared.op.Stuff.{Stuff}
use Rattle.zr_base.specs.declared.op.Stuff.TheVariants.{Fill, Hex, Seq}
use Rattle.zr_base.specs.declared.op.Tag.{Tag}
use Rattle.lock_row.specs.declared.names.Held.TheVariants as holds
use Rattle.mem_account.specs.declared.weight.Weight.TheVariants as weight

zero_is : IsSector zero_sector
unfolding zero_sector
zero_is = (
  length-replicate 512 zero,
  λ k d lt. let n = length-replicate 512 zero in
      let e = get_or-replicate 512 k zero d (omega arith) in omega arith,
)

-- ---- what a write puts

byte_low : (i n : ℕ) → byte_at i n < 256
byte_low zero n = omega arith
byte_low (suc i) n = omega arith

low_bytes : (i k n : ℕ) → AllByRecursion (λ b. b < 256) (bytes_low_first i k n)
low_bytes i zero n = tt
low_bytes i (suc k) n = (byte_low i n, low_bytes (suc i) k n)

module _ (f : ℕ → ℕ) where
  words_long : (from n : ℕ) → length (words_from f from n) ≡ 8 * n
  words_long from zero = refl
  words_long from (suc n) = length-append (to_le_bytes w64 (f from)) (words_from f (from + 1) n)
      ∙ omega (arith, words_long (from + 1) n)

  words_bytes : (from n : ℕ) → All (λ b. b < 256) (words_from f from n)
  words_bytes from zero k d lt = absurd (omega arith)
  words_bytes from (suc n) k d lt =
      All-append (λ b. b < 256) (to_le_bytes w64 (f from)) (words_from f (from + 1) n)
      (All-from_recursion (λ b. b < 256) (to_le_bytes w64 (f from)) (low_bytes 0 8 (f from)))
      (words_bytes (from + 1) n) k d lt

given_bytes : (xs : List ℕ) → ((k : ℕ) → get_or xs k 0 < 256) → All (λ b. b < 256) xs
given_bytes [] low k d lt = absurd (omega arith)
given_bytes (x ∷ xs) low zero d lt = low 0
given_bytes (x ∷ xs) low (suc k) d lt = given_bytes xs (λ i. low (suc i)) k d (omega arith)

put_sector : (stuff : Stuff) (count i : ℕ) → HasSectors stuff count → HasBytes stuff → i < count
    → IsSector (stuff_sector stuff i)
unfolding stuff_sector
put_sector (Fill word) count i has low lt = (
  words_long (λ j. word) (64 * i) 64,
  words_bytes (λ j. word) (64 * i) 64,
)
put_sector (Seq base step) count i has low lt = (
  words_long (λ j. (base + j * step) % 2 ^ 64)
      (64 * i) 64,
  words_bytes (λ j. (base + j * step) % 2 ^ 64) (64 * i) 64,
)
put_sector (Hex bytes) count i has low lt = (
  length-take-le 512 (drop (512 * i) bytes) (omega (arith, length-drop (512 * i) bytes)),
  All-take (λ b. b < 256) 512 (drop (512 * i) bytes) (All-drop (λ b. b < 256) (512 * i) bytes
      (given_bytes bytes low)),
)

module _ (actors : List (List Op)) (requests : AreRequests actors) where
  put_by : (t : Tag) (op : Op) (s : ℕ) (old : List ℕ) → named actors t ≡ Some op → IsSector old
      → IsSector (sector_after op s old)
  put_by t (Read start count) s old e h = h
  put_by t (Write start count stuff) s old e h = elim (cases_Bool (covers start count s)) [
    | inl on ↦ rw on (
        let p = and_parts (leb start s) (ltb s (start + count)) on in
        let x = leb-true start s p.0 in let y = ltb-true s (start + count) p.1 in
        let q = requests t (Write start count stuff) e in
        put_sector stuff count (s - start) q.1 q.2 (omega arith))
    | inr off ↦ rw off h
  ]
  put_by t (Idle age) s old e h = h
  put_by t (Writeback mode) s old e h = h
  put_by t Compact s old e h = h
  put_by t (Discard start count) s old e h = elim
      (cases_Bool (has_whole start count (s / 8))) [ inl on ↦ rw on zero_is | inr off ↦ rw off h ]

pub proper_is : (h : Begin) → AreRequests h.given.actors → FindsRight h
    → ((s : ℕ) → IsSector (h.given.before s))
    → ((p k : ℕ) → k < 8 → h.blank p ≡ true → h.given.before (8 * p + k) ≡ zero_sector)
    → ((p : ℕ) → p < h.given.size → h.touched p ≤ h.clock) → IsRoomy h → Proper h
proper_is h requests finds before blanks times room = record {
  some = room.some;
  times = times;
  blanks = blanks;
  before = before;
  puts = put_by h.given.actors requests;
  finds = finds;
  least = room.least;
  most = room.most;
  few = room.few;
  pieces = room.pieces;
}

-- calls that find what is held find sectors
held_right : (h : Begin) → ((p : ℕ) (t : Tag) (s : ℕ) (old : List ℕ)
    → h.given.finds p t s old ≡ old) → FindsRight h
held_right h held = record {
  sectors = λ p t s old i. subst IsSector (sym (held p t s old)) i;
  honest = λ honest. held;
}

past : {A : Type 0} (xs : List A) (i : ℕ) (d : A) → length xs ≤ i → get_or xs i d ≡ d
past [] i d le = refl
past (x ∷ xs) zero d le = absurd (omega arith)
past (x ∷ xs) (suc i) d le = past xs i d (omega arith)

module _ (r : Rest) (actors : List (List Op)) (finds : ℕ → Finds)
    (ok : Known (finding (begin_at r actors) finds)) (w : State DiskHeld)
    (rule : Ruled (finding (begin_at r actors) finds) w)
    (fin : AllFinished (finding (begin_at r actors) finds) w) where
  abbrev g : Begin
  g = finding (begin_at r actors) finds

  abbrev m : Rest
  m = rest_after r actors finds w.row

  carried : (p : ℕ) → AreCarried g p (nth_order (orders_of r.size w.row) p)
  carried p = ⊎_elim
      (λ lt. subst (AreCarried g p) (sym (order_is r actors finds ok w rule fin p lt))
      (entries r actors finds ok w rule fin p lt).2.sound.calls)
      (λ le. subst (AreCarried g p) (sym (past (orders_of r.size w.row) p []
      (let l = length-map-range_with_len (λ i. order_in (value_at w.row i)) 0 r.size in
      omega arith))) tt)
      (cases_lt p r.size)

  -- the phase after may begin
  pub next_proper : (set : Settings) (more : List (List Op)) → AreRequests more
      → IsRoomy (begin_at (sets m set) more) → r.set.clock ≤ set.clock
      → Proper (begin_at (sets m set) more)
  next_proper set more requests room later = proper_is (begin_at (sets m set) more) requests
      (held_right (begin_at (sets m set) more) (λ p t s old. refl))
      (λ s. all_sectors g ok (s / 8) (nth_order (orders_of r.size w.row) (s / 8)) s)
      (λ p k lt blank. ap (λ (q : ℕ). held_after g.given q
      (nth_order (orders_of r.size w.row) q) (8 * p + k))
      (let q : (8 * p + k) / 8 ≡ p = omega arith in q)
      ∙ sym (holds_after g p (page_of r p) (nth_order (orders_of r.size w.row) p) (8 * p + k))
      ∙ blank_zero g ok (nth_order (orders_of r.size w.row) p) p k lt (carried p) (page_of r p)
      (λ b. ok.proper.blanks p k lt b) blank)
      (λ p lt. touched_low (nth_order (orders_of r.size w.row) p) r.set.clock set.clock (r.touched p)
      (ok.proper.times p lt) later)
      room

  -- an entry whose order is emptied is one of the phase after
  pub next_entry : (set : Settings) (more : List (List Op)) (j : ℕ) (e f : EntryState)
      → slice_get w.row j ≡ Some (Some (holds.Slot e)) → f.kept ≡ e.kept → f.order ≡ []
      → f.under ≡ e.under → f.idle ≡ e.idle → f.touched ≡ e.touched
      → IsRenewed g (begin_at (sets m set) more) j e f
  next_entry set more j e f at kept_same order under idle touched =
      let home = (at_rest g w rule fin).home j (holds.Slot e) at in
      let lt : j < r.size = home.sound.page in
      let there = (entries r actors finds ok w rule fin j lt).1 in
      let same : (entries r actors finds ok w rule fin j lt).0 ≡ e =
      (let z : Some (holds.Slot (entries r actors finds ok w rule fin j lt).0) ≡ Some (holds.Slot e) =
      sym there ∙ get_or_from_slice_get w.row j (Some (holds.Slot e)) None at in cc) in
      let order_e : nth_order (orders_of r.size w.row) j ≡ e.order =
      order_is r actors finds ok w rule fin j lt ∙ ap (λ (x : EntryState). x.order) same in record {
        kept = kept_same;
        order = order;
        under = under;
        idle = idle;
        mark = ap idle_in (get_or_from_slice_get w.row j (Some (holds.Slot e)) None at);
        touched = touched;
        time = ap (λ (o : List Tag). touched_by o r.set.clock (r.touched j)) order_e
            ∙ sym home.sound.touched;
        blank = ap (λ (o : List Tag). (found_after g j o).blank) order_e;
        back = ap back_in (get_or_from_slice_get w.row j (Some (holds.Slot e)) None at);
        before = λ k lt8. ap (λ (q : ℕ). held_after g.given q
            (nth_order (orders_of r.size w.row) q) (8 * j + k))
            (let q : (8 * j + k) / 8 ≡ j = omega arith in q)
            ∙ ap (λ (o : List Tag). held_after g.given j o (8 * j + k)) order_e;
      }

-- ---- a new disk

pub new_proper : (n : ℕ) (set : Settings) (device : DeviceState) (actors : List (List Op))
    → AreRequests actors → IsRoomy (begin_at (new_rest n set device) actors)
    → Proper (begin_at (new_rest n set device) actors)
new_proper n set device actors requests room =
    proper_is (begin_at (new_rest n set device) actors) requests
    (held_right (begin_at (new_rest n set device) actors) (λ p t s old. refl)) (λ s. zero_is)
    (λ p k lt b. refl) (λ p lt. omega arith) room

none_kept : (f : Weight → ℕ) → f weight.Empty ≡ 0 → (n : ℕ) (set : Settings)
    (device : DeviceState) → sum_by f (kept_pages page_weight (new_rest n set device)) ≡ 0
none_kept f z n set device = range_map f (kept_at page_weight (new_rest n set device)) 0 n
    ∙ range_none (λ p. f (kept_at page_weight (new_rest n set device) p)) 0 n (λ i le lt. z)

none_framed : (chain : ℕ) → frames_of chain (λ k. []) ≡ 0
none_framed chain = range_by (λ k. chain_of chain k * 0) 0 255
    ∙ range_none (λ k. chain_of chain k * 0) 0 255 (λ i le lt. omega arith)

pub new_stats : (n : ℕ) (set : Settings) (device : DeviceState)
    → stats page_weight (new_rest n set device) ≡ record no_counts { limit = set.limit }
new_stats n set device = λ i. record no_counts {
  pages = none_framed set.chain i;
  limit = set.limit;
  same = none_kept same_of refl n set device i;
  packed = none_kept packed_of refl n set device i;
  packed_bytes = none_kept packed_bytes_of refl n set device i;
  huge = none_kept huge_of refl n set device i;
  back = none_kept back_of refl n set device i;
}

pub new_plain : (r : Rest) (n : ℕ) → IsNewDisk r n (new_rest n r.set r.device)
new_plain r n = record {
  size = refl;
  holds = λ s lt. refl;
  blank = λ p lt. refl;
  back = λ p lt. refl;
  idle = λ p lt. refl;
  touched = λ p lt. refl;
  unused = record { used = λ k lt. refl; most = refl; so_far = refl };
  device = refl;
  set = refl;
}
