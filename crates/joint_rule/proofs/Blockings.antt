-- What the joint rule tells of a writeback's block, of its mark and of its page, and what its givings do
-- to them.
use Rattle.std.proofs.Common.{◌≡◌, ◌≢◌, ◌+◌, ◌≤◌, ◌<◌, ◌∷◌, ◌∙◌, ◌==◌, ◌&&◌, ℕ, Bool, true, false, cond, is_none, if◌then◌else◌, List, [], Option, Some, None, slice_get, refl, sym, ap, arith, inl, inr, ⊎_elim, eqb}
use Rattle.backing_dev.specs.Contents.{ChangesOnly, HasBlock}
use Rattle.backing_dev.specs.Dev.{DeviceState}
use Rattle.block_map.specs.BlockMap.{BlockMap}
use Rattle.block_map.specs.declared.state.BlockState.TheVariants.{Held}
use Rattle.joint_rule.proofs.Blocks.{under_blocks, under_device}
use Rattle.joint_rule.proofs.Lookups.{lone, pick_self}
use Rattle.joint_rule.proofs.Pools.{bit, list_self, same_is, same_self}
use Rattle.joint_rule.proofs.Sums.{locals_le, total_up_over, total_mono}
use Rattle.joint_rule.proofs.Trips.{hold_find, holding, mark_carried, not_both, one_user, using, Carrier, carrier_of, carrier_uses, hold_few}
use Rattle.joint_rule.specs.Begins.{Begin, content}
use Rattle.joint_rule.specs.Joint.{Joint, Sound}
use Rattle.joint_rule.specs.Weights.{BlockWeigh, at_place, block_by, block_claims, block_uses, carries, device_size, has_block, is_carrying, is_written, lies_at, lies_by, map_size, mark_at, marks_of, none, pair, same, same_bytes, use_at, use_in, used_blocks, used_from, written_at, written_by, HeldAll}
use Rattle.lock_row.specs.Totals.{by_option, held_sum, mass, total}
use Rattle.lock_row.specs.declared.names.At.{At}
use Rattle.lock_row.specs.declared.names.At.TheVariants.{Visiting}
use Rattle.lock_row.specs.declared.names.LockNo.{LockNo}
use Rattle.lock_row.specs.declared.names.State.{State}
use Rattle.lock_row.specs.declared.names.Step.{Step}
use Rattle.lock_row.specs.declared.names.Step.TheVariants as step
use Rattle.lock_row.specs.declared.names.Trip.{Trip}
use Rattle.page_steps.specs.Steps.{DiskHeld, Here, is_mark_of, spot}
use Rattle.slot_entry.specs.Forms.{same_list}
use Rattle.slot_entry.specs.declared.kept.Kept.{Kept}
use Rattle.std.proofs.lemmas.Bool.{cases_Bool, eq-eqb, eqb-true, ne_eqb, cases_eq}
use Rattle.lock_row.specs.declared.names.LockNo.TheVariants as lock
use Rattle.lock_row.specs.declared.names.Held.TheVariants as holds
use Rattle.slot_entry.specs.declared.kept.Kept.TheVariants as kept

-- ---- marks and blocks

-- the mark that stands
pub mark_is : (block under : Option ℕ) (b : ℕ) → block ≡ Some b → is_mark_of block under ≡ true
    → under ≡ Some b
mark_is None under b e on = absurd (cc)
mark_is (Some c) None b e on = absurd (cc)
mark_is (Some c) (Some d) b e on =
    let q : c ≡ b = cc in ap Some (sym (eqb-true c d on) ∙ q)

pub other_block : (b c : ℕ) (bytes : List ℕ) (page : Option (List ℕ)) → c ≢ b
    → pair c bytes (Some b) page ≡ 0
other_block b c bytes None ne = refl
other_block b c bytes (Some y) ne = ap (λ (i : Bool). cond i (same_bytes bytes y) 0) (ne_eqb c b ne)

-- without the mark of its block, an entry has the other marks
abbrev pub unmark : Option ℕ → Option ℕ → Option ℕ
unmark block under = if is_mark_of block under then None else under

module _ (block under : Option ℕ) (b : ℕ) (is : block ≡ Some b) where
  pub other_pair : (c : ℕ) (bytes : List ℕ) (page : Option (List ℕ)) → c ≢ b
      → pair c bytes (unmark block under) page ≡ pair c bytes under page
  other_pair c bytes page ne = elim (cases_Bool (is_mark_of block under)) [
    | inl on ↦ rw on (sym (ap (λ (u : Option ℕ). pair c bytes u page)
        (mark_is block under b is on) ∙ other_block b c bytes page ne))
    | inr off ↦ rw off refl
  ]

  pub other_mark : (c : ℕ) → c ≢ b → marks_of c (unmark block under) ≡ marks_of c under
  other_mark c ne = elim (cases_Bool (is_mark_of block under)) [
    | inl on ↦ rw on (sym (ap (marks_of c) (mark_is block under b is on)
        ∙ ⊎_elim (λ z. z) (λ o. absurd (ne o.1)) (same_is c b)))
    | inr off ↦ rw off refl
  ]

  pub not_self : (d : ℕ) → is_mark_of block (Some d) ≡ false → d ≡ b → ⊥
  not_self d off e = let q : is_mark_of (Some b) (Some d) ≡ false =
      ap (λ (x : Option ℕ). is_mark_of x (Some d)) (sym is) ∙ off in
      let on : eqb b d ≡ true = eq-eqb b d (sym e) in cc

  pub no_pair : (c : ℕ) (bytes : List ℕ) (page : List ℕ) → c ≡ b
      → pair c bytes (unmark block under) (Some page) ≡ 0
  no_pair c bytes page e = by_under under refl where
    by_under : (u : Option ℕ) → under ≡ u → pair c bytes (unmark block under) (Some page) ≡ 0
    by_under None u_is = ap (λ (u : Option ℕ). pair c bytes (unmark block u) (Some page)) u_is
        ∙ none_left block where
          none_left : (x : Option ℕ) → pair c bytes (unmark x None) (Some page) ≡ 0
          none_left None = refl
          none_left (Some y) = refl
    by_under (Some d) u_is = elim (cases_Bool (is_mark_of block under)) [
      | inl on ↦ rw on refl
      | inr off ↦ rw off (ap (λ (u : Option ℕ). pair c bytes u (Some page)) u_is
          ∙ other_block d c bytes (Some page) (λ q. not_self d
          (ap (is_mark_of block) (sym u_is) ∙ off) (sym q ∙ e)))
    ]

-- the weight of a block by the one that an actor has
block_weigh : (f : BlockWeigh) (k : ℕ) (block : Option ℕ) (b : ℕ) → block ≡ Some b
    → by_option (f k) block ≡ f k b
block_weigh f k block b e = ap (by_option (f k)) e

-- ---- who says what a block has, has it

bit_low : (c : Bool) → bit c ≤ 1
bit_low true = omega arith
bit_low false = omega arith

module _ (b : ℕ) (bytes : List ℕ) where
  one_low : (c : ℕ) (page : List ℕ) → cond (b == c) (same_bytes bytes page) 0 ≤ same b c
  one_low c page = elim (cases_Bool (eqb b c)) [
    | inl on ↦ rw on (let z : same b c ≡ 1 = ap (same b) (sym (eqb-true b c on)) ∙ same_self b in
        let y = bit_low (same_list bytes page) in omega arith)
    | inr off ↦ rw off (omega arith)
  ]

  lies_by_low : (k : Kept) (page : List ℕ) → lies_by b bytes k page ≤ block_by (using b) k
  lies_by_low kept.Empty page = omega arith
  lies_by_low (kept.Same v) page = omega arith
  lies_by_low (kept.Obj o) page = omega arith
  lies_by_low (kept.Wb c) page = one_low c page

  pair_low : (o : Option ℕ) (page : Option (List ℕ)) → pair b bytes o page ≤ by_option (same b) o
  pair_low None page = omega arith
  pair_low (Some c) None = omega arith
  pair_low (Some c) (Some y) = one_low c y

  step_low : (s : Step) (x : Trip) (page : Option (List ℕ))
      → cond (is_written s && is_carrying s) (pair b bytes x.block page) 0 ≤ use_at (using b) s x
  step_low step.Landing x page = pair_low x.block page
  step_low step.Won x page = pair_low x.block page
  step_low step.Freeing x page = pair_low x.block page
  step_low step.Backing x page = pair_low x.block page
  step_low step.Committing x page = pair_low x.block page
  step_low step.Owing x page = pair_low x.block page
  step_low step.Paying x page = pair_low x.block page
  step_low step.Putting x page = pair_low x.block page
  step_low step.Losing x page = pair_low x.block page
  step_low s x page = omega arith

  by_low : (at : At) (page : Option (List ℕ)) → written_by b bytes at page ≤ use_in (using b) at
  by_low (Visiting s x) page = step_low s x page
  by_low at page = omega arith

  written_low : (y : Here) → written_at b bytes y ≤ block_uses (using b) y
  written_low y = let z = by_low y.at y.page in by_fail (is_none y.fail) where
    by_fail : (c : Bool) → cond c (written_by b bytes y.at y.page) 0 ≤ use_in (using b) y.at
    by_fail true = by_low y.at y.page
    by_fail false = omega arith

module _ (g : Begin) (b : ℕ) (bytes : List ℕ) where
  lies_low : (i : ℕ) (u : DiskHeld) → Sound g i u
      → lies_at g b bytes i u ≤ block_claims (using b) i u
  lies_low i (holds.Slot e) so = lies_by_low b bytes e.kept (content g i e.order)
  lies_low i (holds.Class q) so = omega arith
  lies_low i (holds.Account q) so = omega arith
  lies_low i (holds.Blocks q) so = omega arith
  lies_low i (holds.Device q) so = omega arith

  held_low : (xs : List (LockNo × DiskHeld)) → HeldAll g.given.size (Sound g) xs
      → held_sum (spot g.given.size) (lies_at g b bytes) xs
      ≤ held_sum (spot g.given.size) (block_claims (using b)) xs
  held_low [] all = omega arith
  held_low (x ∷ xs) all = let r = held_low xs all.1 in
      let s = lies_low (spot g.given.size x.0) x.1 all.0 in omega arith

  pub says_low : (y : Here) → HeldAll g.given.size (Sound g) y.held
      → mass (spot g.given.size) (lies_at g b bytes) (written_at b bytes) y
      ≤ mass (spot g.given.size) (block_claims (using b)) (block_uses (using b)) y
  says_low y all = let r = held_low y.held all in let s = written_low b bytes y in omega arith

held_in_map : (g : Begin) (b i : ℕ) (v : DiskHeld) → Sound g i v
    → used_blocks (holding (b + 1) b) i v ≤ map_size i v
held_in_map g b i (holds.Slot e) s = omega arith
held_in_map g b i (holds.Class p) s = omega arith
held_in_map g b i (holds.Account c) s = omega arith
held_in_map g b i (holds.Blocks x) s = let r = hold_few b 0 x.states in omega arith
held_in_map g b i (holds.Device d) s = omega arith

module _ (g : Begin) (w : State DiskHeld) (j : Joint g w) (a : ℕ) (l : Here)
    (who : slice_get w.locals a ≡ Some l) where
  abbrev n : ℕ
  n = g.given.size

  -- ---- what it has

  module _ (s : Step) (x : Trip) (at : l.at ≡ Visiting s x) (b : ℕ) (block : x.block ≡ Some b) where
    -- the block of the map in hand, which it has reserved
    pub held_is : (y : BlockMap) (hs : List (LockNo × DiskHeld))
        → l.held ≡ (lock.Blocks, holds.Blocks y) ∷ hs
        → held_sum (spot n) (used_blocks (holding 1 b)) hs ≡ 0
        → ((f : BlockWeigh) → use_at f s x ≡ by_option (f 0) x.block)
        → slice_get y.states b ≡ Some Held
    held_is y hs held none_else uses =
        let mine : block_uses (holding 1 b) l ≡ 1 = ap (use_in (holding 1 b)) at
        ∙ uses (holding 1 b) ∙ block_weigh (holding 1 b) 0 x.block b block
        ∙ pick_self b b 1 refl in
        let e = j.blocks (holding 1 b) in
        let y' = locals_le n (mass (spot n) (block_claims (holding 1 b))
        (block_uses (holding 1 b))) w.locals a l who in
        let here : 1 ≤ held_sum (spot n) (at_place (spot n lock.Blocks)) l.held =
        (let r = ap (held_sum (spot n) (at_place (spot n lock.Blocks))) held in
        let q = same_self (n + 256) in omega arith) in
        let t = lone g w j a l who lock.Blocks (used_blocks (holding 1 b))
        (under_blocks g (λ i. used_from (holding 1 b) 0 i.states)) here in
        let r = ap (held_sum (spot n) (used_blocks (holding 1 b))) held in
        hold_find 1 b 0 y.states b (omega arith) (omega arith)

    -- the device in hand has it
    pub held_there : ((f : BlockWeigh) → use_at f s x ≡ by_option (f 0) x.block) → (d : DeviceState)
        (hs : List (LockNo × DiskHeld)) → l.held ≡ (lock.Device, holds.Device d) ∷ hs
        → held_sum (spot n) device_size hs ≡ 0 → b < d.blocks
    held_there uses d hs held none_else =
        let mine : block_uses (holding (b + 1) b) l ≡ b + 1 = ap (use_in (holding (b + 1) b)) at
        ∙ uses (holding (b + 1) b) ∙ block_weigh (holding (b + 1) b) 0 x.block b block
        ∙ pick_self b b (b + 1) refl in
        let e = j.blocks (holding (b + 1) b) in
        let y = locals_le n (mass (spot n) (block_claims (holding (b + 1) b))
        (block_uses (holding (b + 1) b))) w.locals a l who in
        let u = total_mono n (Sound g) (used_blocks (holding (b + 1) b)) map_size (held_in_map g b) w
        (λ i v z. (j.each.in_row i v z).sound) (λ i z q. (j.each.in_local i z q).sound) in
        let here : 1 ≤ held_sum (spot n) (at_place (spot n lock.Device)) l.held =
        (let r = ap (held_sum (spot n) (at_place (spot n lock.Device))) held in
        let q = same_self (n + 257) in omega arith) in
        let t = lone g w j a l who lock.Device device_size (under_device g (λ i. i.blocks)) here in
        let r = ap (held_sum (spot n) device_size) held in let f = j.size in omega arith

    -- nobody else has it
    module _ (has : 1 ≤ block_uses (using b) l) where
      pub no_other : (i : ℕ) (y : Here) (c d : ℕ) → slice_get w.locals i ≡ Some y → i ≢ a
          → carries y ≡ Some (c, d) → d ≢ b
      no_other i y c d there ne is same_one =
          let u = carrier_uses y c d (carrier_of y c d is) in
          let v : block_uses (using b) y ≡ 1 = ap (λ k. block_uses (using k) y) (sym same_one) ∙ u in
          not_both g w j a i l y b who there ne has (omega arith)

      -- what nobody but this actor can have written there
      pub nothing_else : (bytes : List ℕ)
          → mass (spot n) (lies_at g b bytes) (written_at b bytes) l ≡ 0
          → total (spot n) (lies_at g b bytes) (written_at b bytes) w ≡ 0
      nothing_else bytes mine =
          let u = one_user g w j b in
          let t = total_up_over n (Sound g) (lies_at g b bytes) (block_claims (using b))
          (written_at b bytes) (block_uses (using b)) (lies_low g b bytes) w
          (λ i v e. (j.each.in_row i v e).sound)
          (λ i y e. says_low g b bytes y (j.each.in_local i y e).sound) a l who in omega arith

  -- ---- what its mark says

  -- it is the only one that carries a page to its block
  module _ (s : Step) (x : Trip) (at : l.at ≡ Visiting s x) (b : ℕ) (block : x.block ≡ Some b)
      (on : is_carrying s ≡ true) where
    own_carrier : Carrier l.at x.page b
    own_carrier =
        record { step = s; trip = x; is = at; carries = on; page = refl; block = block }

    pub has_block_in : block_uses (using b) l ≡ 1
    has_block_in = carrier_uses l x.page b own_carrier

    -- where its mark stands, it carries what the page has to have
    pub won_page : (bytes page : List ℕ) → l.page ≡ Some page
        → 1 ≤ held_sum (spot n) (mark_at g x.page b bytes) l.held → page ≡ bytes
    won_page bytes page is mark =
        let z = locals_le n (mass (spot n) (mark_at g x.page b bytes) none) w.locals a l who in
        let c = mark_carried g w j x.page b bytes (omega arith) in
        elim (cases_eq c.0 a) [
          | inl same ↦ (let q : Some c.1 ≡ Some l =
              sym c.2 ∙ ap (slice_get w.locals) same ∙ who in
              let y : c.1 ≡ l = cc in
              let r : Some page ≡ Some bytes =
              sym is ∙ sym (ap (λ (i : Here). i.page) y) ∙ c.4 in cc)
          | inr ne ↦ absurd (let u = has_block_in in
              let v = carrier_uses c.1 x.page b c.3 in
              not_both g w j a c.0 l c.1 b who c.2 ne (omega arith) (omega arith))
        ]

-- ---- the device

block_at : (b : ℕ) (bytes : List ℕ) (pages new : List (List ℕ)) → slice_get new b ≡ slice_get pages b
    → by_option (same_bytes bytes) (slice_get new b) ≡ by_option (same_bytes bytes) (slice_get pages b)
block_at b bytes pages new e = ap (by_option (same_bytes bytes)) e

-- a block that isn't written stays
pub other_stays : (old new : Option (List (List ℕ))) (b c : ℕ) (bytes : List ℕ)
    → ChangesOnly old new b → c ≢ b → has_block c bytes new ≡ has_block c bytes old
other_stays None None b c bytes h ne = refl
other_stays None (Some new) b c bytes h ne = absurd h
other_stays (Some old) None b c bytes h ne = absurd h
other_stays (Some old) (Some new) b c bytes h ne = block_at c bytes old new (h.1 c ne)

-- a block that was written has its bytes
pub now_stored : (new : Option (List (List ℕ))) (b : ℕ) (page : List ℕ) → HasBlock new b page
    → 1 ≤ has_block b page new
now_stored None b page h = omega arith
now_stored (Some new) b page h =
    let z : by_option (same_bytes page) (slice_get new b) ≡ bit (same_list page page) =
    ap (by_option (same_bytes page)) h in let y = ap bit (list_self page) in omega arith
