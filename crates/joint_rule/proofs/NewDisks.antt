-- A disk on which nothing was ever written is at rest.
use Rattle.std.proofs.Common.{◌≡◌, ◌+◌, ◌*◌, ◌<◌, ◌≤◌, ◌&&◌, ◌∷◌, ◌∙◌, ℕ, suc, Bool, true, List, [], length, sum_by, Option, Some, slice_get, refl, sym, ap, subst, arith, is_some, false}
use Rattle.joint_rule.proofs.Gifts.{unmarked}
use Rattle.backing_dev.specs.Dev.{DeviceState}
use Rattle.block_map.specs.declared.state.BlockState.{BlockState}
use Rattle.class_pool.specs.Pool.{IsPool, PoolState, used_cells}
use Rattle.class_pool.specs.Zspages.{Cells, use_at}
use Rattle.joint_rule.proofs.Lookups.{nothing_shown}
use Rattle.joint_rule.proofs.Starts.{device_at, device_sum, keeps_self, map_at, map_sum}
use Rattle.joint_rule.proofs.Sums.{row_none}
use Rattle.joint_rule.specs.Begins.{AreCarried, Begin, content, form_at, form_by, found_after, image, back_at}
use Rattle.joint_rule.specs.Joint.{AtHome, KeepsDevice}
use Rattle.joint_rule.specs.Stages.{IsForm, IsSmall}
use Rattle.joint_rule.specs.Starts.{AreFree, AtRest, IsNew}
use Rattle.joint_rule.specs.Weights.{Backs, BlockWeigh, Count, FailedReads, FailedWrites, FreedPages, HugeWrites, Huges, News, OutOfRange, PackedBytes, Packs, PinWeigh, Refusal, Sames, Weigh, block_by, block_claims, cell_weight, chains, claim_by, claims, compactions, counter, counters, device_size, lies_at, lies_by, map_size, measure, names, news_count, news_counter, on_account, out_weight, outs, pages, refusal_count, refusal_counter, shown, stored, use_by, used_blocks, used_from}
use Rattle.lock_row.specs.Totals.{row_sum}
use Rattle.mem_account.specs.Counters.{Counters, no_counts}
use Rattle.page_steps.specs.Steps.{DiskHeld}
use Rattle.plain_disk.specs.Calls.{leave_page}
use Rattle.plain_disk.specs.Phases.{touched_by}
use Rattle.size_class.specs.Classes.{chain_of, class_size, per_of}
use Rattle.slot_entry.specs.Entries.{weight_of, is_wb}
use Rattle.slot_entry.specs.Forms.{Blank, PageForm, form_of}
use Rattle.slot_entry.specs.declared.kept.Kept.{Kept}
use Rattle.zr_base.specs.declared.op.Tag.{Tag}
use Rattle.zspage.specs.Cells.{entry, used_of}
use Rattle.lock_row.specs.declared.names.Held.TheVariants as holds

empty_pool : (p : PoolState) → p.zspages ≡ [] → IsPool p
empty_pool p e = record {
  filled = λ k cells at. absurd (let q : entry (let zs : List (Option Cells) = [] in zs) k
      ≡ Some cells = subst (λ (zs : List (Option Cells)). entry zs k ≡ Some cells) e at in cc);
  whole = λ k cells at. absurd (let q : entry (let zs : List (Option Cells) = [] in zs) k
      ≡ Some cells = subst (λ (zs : List (Option Cells)). entry zs k ≡ Some cells) e at in cc);
  distinct = λ i j k l u v at bt same. absurd (let q : use_at (let zs : List (Option Cells) = [] in
      zs) i j ≡ Some u = subst (λ (zs : List (Option Cells)). use_at zs i j ≡ Some u) e at in cc);
}

free_used : (f : BlockWeigh) (k : ℕ) (states : List BlockState) → AreFree states
    → used_from f k states ≡ 0
free_used f k [] free = refl
free_used f k (s ∷ states) free =
    let x = ap (use_by f k) (free 0 s refl) in
    let r = free_used f (suc k) states (λ b t at. free (suc b) t at) in omega arith

blank_form : (g : Begin) (j : ℕ) (order : List Tag) → order ≡ [] → g.blank j ≡ true
    → form_at g j order ≡ Blank
unfolding form_at
blank_form g j order e b = ap (λ (ts : List Tag). form_by (found_after g j ts).blank
    (form_of (content g j ts))) e ∙ ap (λ (x : Bool). form_by x (form_of (content g j []))) b

module _ (g : Begin) where
  no_zspages : (p : PoolState) → p ≡ record {
    class = p.class;
    size = class_size p.class;
    chain = chain_of g.chain p.class;
    per = per_of g.chain p.class;
    zspages = [];
  }
      → p.zspages ≡ []
  no_zspages p e = ap (λ (x : PoolState). x.zspages) e

  new_home : (j : ℕ) (v : DiskHeld) → IsNew g j v → AtHome g j v
  new_home j (holds.Slot e) h = record {
    sound = record {
      page = h.0;
      calls = subst (AreCarried g j) (sym h.2) tt;
      touched = h.5 ∙ sym (ap (λ (ts : List Tag). touched_by ts g.clock (g.touched j)) h.2);
      mark = λ none idle. absurd (unmarked e.idle h.4 idle);
      small = subst (λ (k : Kept). IsSmall (weight_of k)) (sym h.1) (omega arith);
    };
    stands = subst (λ (x : PageForm × Kept). IsForm g.chain x.0 x.1)
        (λ i. (sym (blank_form g j e.order h.2 h.6) i, sym h.1 i)) tt;
    backs = record {
      there = λ on. absurd (unmarked (back_at g j e.order) off_before on);
      only = λ none. ap is_wb h.1 ∙ sym off_before;
    };
    marks = record {
      idle_one = λ idle. absurd (unmarked e.idle h.4 idle);
      under_one = λ some. absurd (unmarked (is_some e.under) (ap is_some h.3) some);
      stays = λ none was off. absurd (unmarked (g.idle j) h.8 was);
    };
  } where
    off_before : back_at g j e.order ≡ false
    off_before = ap (λ (b : Bool). b && leave_page g.given.actors e.order) h.7
  new_home j (holds.Class p) h = record {
    sound = (
      h.0,
      record {
        class = h.1;
        size = ap (λ (x : PoolState). x.size) h.2;
        frames = ap (λ (x : PoolState). x.chain) h.2;
        per = ap (λ (x : PoolState). x.per) h.2;
        pool = empty_pool p (no_zspages p h.2);
        once = λ n. let q = ap (λ (zs : List (Option Cells)).
            sum_by (cell_weight (names n)) (used_cells zs)) (no_zspages p h.2) in omega arith;
      },
    );
    stands = tt;
    backs = tt;
    marks = tt;
  }
  new_home j (holds.Account c) h = record { sound = h.0; stands = tt; backs = tt; marks = tt }
  new_home j (holds.Blocks x) h = record { sound = h.0; stands = tt; backs = tt; marks = tt }
  new_home j (holds.Device d) h = record {
    sound = (h.0, subst (λ (x : DeviceState). KeepsDevice x d) h.1 (keeps_self d h.2 h.3));
    stands = tt;
    backs = tt;
    marks = tt;
  }

  no_claim : (f : Weigh) (j : ℕ) (v : DiskHeld) → IsNew g j v → claims g f j v ≡ 0
  no_claim f j (holds.Slot e) h = ap (λ (k : Kept). claim_by f k (image g j e.order)) h.1
  no_claim f j (holds.Class e) h = refl
  no_claim f j (holds.Account e) h = refl
  no_claim f j (holds.Blocks e) h = refl
  no_claim f j (holds.Device e) h = refl

  no_stored : (f : Weigh) (j : ℕ) (v : DiskHeld) → IsNew g j v → stored f j v ≡ 0
  no_stored f j (holds.Slot e) h = refl
  no_stored f j (holds.Class p) h = ap (λ (zs : List (Option Cells)).
      sum_by (cell_weight (f p.class)) (used_cells zs)) (no_zspages p h.2)
  no_stored f j (holds.Account e) h = refl
  no_stored f j (holds.Blocks e) h = refl
  no_stored f j (holds.Device e) h = refl

  no_block : (f : BlockWeigh) (j : ℕ) (v : DiskHeld) → IsNew g j v → block_claims f j v ≡ 0
  no_block f j (holds.Slot e) h = ap (block_by f) h.1
  no_block f j (holds.Class e) h = refl
  no_block f j (holds.Account e) h = refl
  no_block f j (holds.Blocks e) h = refl
  no_block f j (holds.Device e) h = refl

  no_used : (f : BlockWeigh) (j : ℕ) (v : DiskHeld) → IsNew g j v → used_blocks f j v ≡ 0
  no_used f j (holds.Slot e) h = refl
  no_used f j (holds.Class e) h = refl
  no_used f j (holds.Account e) h = refl
  no_used f j (holds.Blocks x) h = free_used f 0 x.states h.1
  no_used f j (holds.Device e) h = refl

  no_page : (b : ℕ) (bytes : List ℕ) (j : ℕ) (v : DiskHeld) → IsNew g j v
      → lies_at g b bytes j v ≡ 0
  no_page b bytes j (holds.Slot e) h =
      ap (λ (k : Kept). lies_by b bytes k (content g j e.order)) h.1
  no_page b bytes j (holds.Class e) h = refl
  no_page b bytes j (holds.Account e) h = refl
  no_page b bytes j (holds.Blocks e) h = refl
  no_page b bytes j (holds.Device e) h = refl

  no_outs : (f : PinWeigh) (j : ℕ) (v : DiskHeld) → IsNew g j v → outs f j v ≡ 0
  no_outs f j (holds.Slot e) h = refl
  no_outs f j (holds.Class p) h = ap (λ (zs : List (Option Cells)).
      sum_by (out_weight f p.class) (used_cells zs)) (no_zspages p h.2)
  no_outs f j (holds.Account e) h = refl
  no_outs f j (holds.Blocks e) h = refl
  no_outs f j (holds.Device e) h = refl

  no_account : (f : Counters → ℕ) → ((limit : ℕ) → f (record no_counts { limit = limit }) ≡ 0)
      → (j : ℕ) (v : DiskHeld) → IsNew g j v → on_account f j v ≡ 0
  no_account f z j (holds.Slot e) h = refl
  no_account f z j (holds.Class p) h = refl
  no_account f z j (holds.Account c) h = ap f h.1 ∙ z c.limit
  no_account f z j (holds.Blocks e) h = refl
  no_account f z j (holds.Device e) h = refl

  times_zero : (a : ℕ) → a * 0 ≡ 0
  times_zero a = omega arith

  no_chains : (j : ℕ) (v : DiskHeld) → IsNew g j v → chains j v ≡ 0
  no_chains j (holds.Slot e) h = refl
  no_chains j (holds.Class p) h = ap (λ (zs : List (Option Cells)). p.chain * used_of zs)
      (no_zspages p h.2) ∙ times_zero p.chain
  no_chains j (holds.Account c) h = refl
  no_chains j (holds.Blocks e) h = refl
  no_chains j (holds.Device e) h = refl

  no_count : (q : Count) (limit : ℕ) → counter q (record no_counts { limit = limit }) ≡ 0
  no_count Sames limit = refl
  no_count Packs limit = refl
  no_count PackedBytes limit = refl
  no_count Huges limit = refl
  no_count Backs limit = refl

  no_refusals : (q : Refusal) (limit : ℕ) → refusal_count q (record no_counts { limit = limit }) ≡ 0
  no_refusals FailedReads limit = refl
  no_refusals FailedWrites limit = refl
  no_refusals OutOfRange limit = refl

  no_news : (q : News) (limit : ℕ) → news_count q (record no_counts { limit = limit }) ≡ 0
  no_news HugeWrites limit = refl
  no_news FreedPages limit = refl

  no_shown : (q : Count) (j : ℕ) (v : DiskHeld) → IsNew g j v → shown q j v ≡ 0
  no_shown q j (holds.Slot e) h = ap (λ (k : Kept). measure q (weight_of k)) h.1 ∙ nothing_shown q
  no_shown q j (holds.Class p) h = refl
  no_shown q j (holds.Account c) h = refl
  no_shown q j (holds.Blocks e) h = refl
  no_shown q j (holds.Device e) h = refl

  module _ (row : List (Option DiskHeld)) (size : length row ≡ g.given.size + 258)
      (whole : (k : ℕ) → k < length row → (v : DiskHeld) × (slice_get row k ≡ Some (Some v)))
      (new : (k : ℕ) (v : DiskHeld) → slice_get row k ≡ Some (Some v) → IsNew g k v) where
    all_home : (k : ℕ) (v : DiskHeld) → slice_get row k ≡ Some (Some v) → AtHome g k v
    all_home k v at = new_home k v (new k v at)

    -- the map has no more blocks than the device
    map_fits : row_sum map_size row ≤ row_sum device_size row
    map_fits =
        let x = map_at g row size whole all_home in let d = device_at g row size whole all_home in
        let p = map_sum g row size whole all_home (λ x. length x.states) in
        let q = device_sum g row size whole all_home (λ d. d.blocks) in
        let r = (new (g.given.size + 256) (holds.Blocks x.0) x.1).2 in
        let s = ap (λ (y : DeviceState). y.blocks)
        (new (g.given.size + 257) (holds.Device d.0) d.1).1 in omega arith

  pub new_at_rest : (row : List (Option DiskHeld)) → length row ≡ g.given.size + 258
      → ((k : ℕ) → k < length row → (v : DiskHeld) × (slice_get row k ≡ Some (Some v)))
      → ((k : ℕ) (v : DiskHeld) → slice_get row k ≡ Some (Some v) → IsNew g k v) → AtRest g row
  new_at_rest row size whole new =
      let zero_sum : (f : ℕ → DiskHeld → ℕ) → ((j : ℕ) (v : DiskHeld) → IsNew g j v → f j v ≡ 0)
      → row_sum f row ≡ 0 = λ f e. row_none f row (λ k v at. e k v (new k v at)) in
      record {
        size = size;
        whole = whole;
        home = all_home row size whole new;
        blocks = λ f. zero_sum (block_claims f) (no_block f)
            ∙ sym (zero_sum (used_blocks f) (no_used f));
        fits = map_fits row size whole new;
        disk = λ b bytes some. absurd (let x = zero_sum (lies_at g b bytes) (no_page b bytes) in
            omega arith);
        owners = λ f. zero_sum (claims g f) (no_claim f) ∙ sym (zero_sum (stored f) (no_stored f));
        pins = λ f. zero_sum (outs f) (no_outs f);
        unmarked = λ k e at. (new k (holds.Slot e) at).3;
        frames = zero_sum pages (no_account (λ c. c.pages) (λ limit. refl))
            ∙ sym (zero_sum chains no_chains);
        counts = λ q. zero_sum (counters q) (no_account (counter q) (no_count q))
            ∙ sym (zero_sum (shown q) (no_shown q));
        most = let x = zero_sum pages (no_account (λ c. c.pages) (λ limit. refl)) in omega arith;
        refusals = λ q. let x = zero_sum (refusal_counter q)
            (no_account (refusal_count q) (no_refusals q)) in omega arith;
        compacted = let x = zero_sum compactions (no_account (λ c. c.compacted) (λ limit. refl)) in
            omega arith;
        news = λ q. let x = zero_sum (news_counter q) (no_account (news_count q) (no_news q)) in
            omega arith;
      }
