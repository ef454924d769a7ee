-- The rest that a phase leaves is the one with which the next begins.
use Rattle.std.proofs.Common.{◌≡◌, ◌+◌, ◌*◌, ◌<◌, ◌≤◌, ◌∷◌, ◌∙◌, ◌&&◌, ℕ, zero, suc, Bool, true, false, List, [], length, Option, Some, None, slice_get, refl, sym, ap, subst, arith, is_some}
use Rattle.backing_dev.specs.Dev.{DeviceState}
use Rattle.block_map.specs.BlockMap.{BlockMap}
use Rattle.class_pool.specs.Pool.{PoolState}
use Rattle.joint_rule.proofs.Pages.{content_join, join_same}
use Rattle.joint_rule.proofs.Starts.{account_at, account_sum, keeps_self}
use Rattle.joint_rule.specs.Begins.{AreCarried, Begin, back_at, content, form_at, form_by, found_after, image}
use Rattle.joint_rule.specs.Joint.{AtHome, KeepsDevice, PoolFits}
use Rattle.joint_rule.specs.Stages.{IsForm, IsSmall}
use Rattle.joint_rule.specs.Starts.{AtRest, IsNextDisk, IsRenewed, Matched, Renewed}
use Rattle.joint_rule.specs.Weights.{Backs, Count, FailedReads, FailedWrites, FreedPages, HugeWrites, Huges, News, OutOfRange, PackedBytes, Packs, Refusal, Sames, Weigh, block_by, block_claims, chains, claim_by, claims, compactions, counter, counters, device_size, lies_at, lies_by, map_size, measure, mosts, news_count, news_counter, on_entry, outs, pages, refusal_count, refusal_counter, shown, stored, stored_at, used_blocks, used_from}
use Rattle.lock_row.specs.Totals.{row_sum}
use Rattle.mem_account.specs.Counters.{Counters}
use Rattle.page_steps.specs.Steps.{DiskHeld}
use Rattle.plain_disk.specs.Phases.{held_after, touched_by}
use Rattle.slot_entry.specs.Entries.{EntryState, weight_of, is_obj, is_wb}
use Rattle.slot_entry.specs.Forms.{PageForm, bytes_in, form_of}
use Rattle.slot_entry.specs.declared.kept.Kept.{Kept}
use Rattle.zr_base.specs.declared.op.Tag.{Tag}
use Rattle.lock_row.specs.declared.names.Held.TheVariants as holds
use Rattle.joint_rule.specs.Starts as renewed

module _ (R : ℕ → DiskHeld → DiskHeld → Type 0) where
  pub match_at : (xs ys : List (Option DiskHeld)) → Matched R xs ys → (k : ℕ) (u : DiskHeld)
      → slice_get ys k ≡ Some (Some u) → (v : DiskHeld) × (slice_get xs k ≡ Some (Some v)) × R k v u
  match_at = walk R where
    walk : (R : ℕ → DiskHeld → DiskHeld → Type 0) (xs ys : List (Option DiskHeld)) → Matched R xs ys
        → (k : ℕ) (u : DiskHeld) → slice_get ys k ≡ Some (Some u)
        → (v : DiskHeld) × (slice_get xs k ≡ Some (Some v)) × R k v u
    walk R [] [] m k u e = absurd (cc)
    walk R [] (y ∷ ys) m k u e = absurd m
    walk R (x ∷ xs) [] m k u e = absurd m
    walk R (None ∷ xs) (y ∷ ys) m k u e = absurd m
    walk R (Some v ∷ xs) (None ∷ ys) m k u e = absurd m
    walk R (Some v ∷ xs) (Some y ∷ ys) m zero u e = (
      v,
      refl,
      subst (R 0 v) (let q : y ≡ u = cc in q) m.0,
    )
    walk R (Some v ∷ xs) (Some y ∷ ys) m (suc k) u e = walk (λ j. R (suc j)) xs ys m.1 k u e

  match_size : (xs ys : List (Option DiskHeld)) → Matched R xs ys → (k : ℕ) → k < length ys
      → (u : DiskHeld) × (slice_get ys k ≡ Some (Some u))
  match_size = walk R where
    walk : (R : ℕ → DiskHeld → DiskHeld → Type 0) (xs ys : List (Option DiskHeld)) → Matched R xs ys
        → (k : ℕ) → k < length ys → (u : DiskHeld) × (slice_get ys k ≡ Some (Some u))
    walk R [] [] m k lt = absurd (omega arith)
    walk R [] (y ∷ ys) m k lt = absurd m
    walk R (x ∷ xs) [] m k lt = absurd m
    walk R (None ∷ xs) (y ∷ ys) m k lt = absurd m
    walk R (Some v ∷ xs) (None ∷ ys) m k lt = absurd m
    walk R (Some v ∷ xs) (Some y ∷ ys) m zero lt = (y, refl)
    walk R (Some v ∷ xs) (Some y ∷ ys) m (suc k) lt = walk (λ j. R (suc j)) xs ys m.1 k
        (omega arith)

match_length : (R : ℕ → DiskHeld → DiskHeld → Type 0) (xs ys : List (Option DiskHeld))
    → Matched R xs ys → length ys ≡ length xs
match_length R [] [] m = refl
match_length R [] (y ∷ ys) m = absurd m
match_length R (x ∷ xs) [] m = absurd m
match_length R (None ∷ xs) (y ∷ ys) m = absurd m
match_length R (Some v ∷ xs) (None ∷ ys) m = absurd m
match_length R (Some v ∷ xs) (Some u ∷ ys) m = let r = match_length (λ j. R (suc j)) xs ys m.1 in
    omega arith

-- weights that match add up alike
row_match : (R : ℕ → DiskHeld → DiskHeld → Type 0) (f h : ℕ → DiskHeld → ℕ)
    → ((j : ℕ) (v u : DiskHeld) → R j v u → f j v ≡ h j u) → (xs ys : List (Option DiskHeld))
    → Matched R xs ys → row_sum f xs ≡ row_sum h ys
row_match R f h e [] [] m = refl
row_match R f h e [] (y ∷ ys) m = absurd m
row_match R f h e (x ∷ xs) [] m = absurd m
row_match R f h e (None ∷ xs) (y ∷ ys) m = absurd m
row_match R f h e (Some v ∷ xs) (None ∷ ys) m = absurd m
row_match R f h e (Some v ∷ xs) (Some u ∷ ys) m = let a = e 0 v u m.0 in
    let r = row_match (λ j. R (suc j)) (λ j. f (suc j)) (λ j. h (suc j))
    (λ j. e (suc j)) xs ys m.1 in omega arith

and_true : (b : Bool) → (b && true) ≡ b
and_true true = refl
and_true false = refl

module _ (g h : Begin) where
  module _ (j : ℕ) (e f : EntryState) (r : IsRenewed g h j e f) where
    same_content : content h j [] ≡ content g j e.order
    same_content = content_join h j [] ∙ join_same (λ k. held_after h.given j [] (8 * j + k))
        (λ k. held_after g.given j e.order (8 * j + k)) 0 8 (λ k low high. r.before k (omega arith))
        ∙ sym (content_join g j e.order)

    same_form : form_at h j f.order ≡ form_at g j e.order
    unfolding form_at
    same_form = ap (λ (ts : List Tag). form_by (found_after h j ts).blank
        (form_of (content h j ts))) r.order ∙ (λ i. form_by (r.blank i) (form_of (same_content i)))

  -- a weight of entries, where what renews an entry keeps it
  entry_same : (f k : ℕ → Kept → List Tag → ℕ) → ((j : ℕ) (e d : EntryState)
      → IsRenewed g h j e d → f j e.kept e.order ≡ k j d.kept d.order) → (j : ℕ) (v u : DiskHeld)
      → Renewed g h j v u → on_entry f j v ≡ on_entry k j u
  entry_same f k each j v u (renewed.slots e d is_v is_u r) = ap (on_entry f j) is_v ∙ each j e d r
      ∙ ap (on_entry k j) (sym is_u)
  entry_same f k each j v u (renewed.accounts c d is_v is_u e keeps) = ap (on_entry f j) is_v
      ∙ ap (on_entry k j) (sym is_u)
  entry_same f k each j v u (renewed.pools p is_v is_u) = ap (on_entry f j) is_v
      ∙ ap (on_entry k j) (sym is_u)
  entry_same f k each j v u (renewed.maps x y is_v is_u e) = ap (on_entry f j) is_v
      ∙ ap (on_entry k j) (sym is_u)
  entry_same f k each j v u (renewed.devices d is_v is_u e) = ap (on_entry f j) is_v
      ∙ ap (on_entry k j) (sym is_u)

  claims_same : (w : Weigh) (j : ℕ) (v u : DiskHeld) → Renewed g h j v u
      → claims g w j v ≡ claims h w j u
  claims_same w = entry_same (λ j k order. claim_by w k (image g j order))
      (λ j k order. claim_by w k (image h j order))
      (λ j e f r i. claim_by w (sym r.kept i) (bytes_in (sym (same_form j e f r) i)))

  lies_same : (b : ℕ) (bytes : List ℕ) (j : ℕ) (v u : DiskHeld) → Renewed g h j v u
      → lies_at g b bytes j v ≡ lies_at h b bytes j u
  lies_same b bytes = entry_same (λ j k order. lies_by b bytes k (content g j order))
      (λ j k order. lies_by b bytes k (content h j order))
      (λ j e f r i. lies_by b bytes (sym r.kept i)
      (sym (ap (content h j) r.order ∙ same_content j e f r) i))

  plain_same : (f : ℕ → DiskHeld → ℕ) → ((j : ℕ) (e d : EntryState) → d.kept ≡ e.kept
      → f j (holds.Slot e) ≡ f j (holds.Slot d))
      → ((j : ℕ) (c : Counters) (limit most : ℕ) → f j (holds.Account c)
      ≡ f j (holds.Account (record c { limit = limit; most = most })))
      → ((j : ℕ) (x y : BlockMap) → y.states ≡ x.states
      → f j (holds.Blocks x) ≡ f j (holds.Blocks y)) → (j : ℕ) (v u : DiskHeld)
      → Renewed g h j v u → f j v ≡ f j u
  plain_same f each acc map j v u (renewed.slots e d is_v is_u r) = ap (f j) is_v ∙ each j e d r.kept
      ∙ ap (f j) (sym is_u)
  plain_same f each acc map j v u (renewed.accounts c d is_v is_u e keeps) = ap (f j) is_v
      ∙ acc j c d.limit d.most
      ∙ ap (λ (x : Counters). f j (holds.Account x)) (sym e) ∙ ap (f j) (sym is_u)
  plain_same f each acc map j v u (renewed.pools p is_v is_u) = ap (f j) (is_v ∙ sym is_u)
  plain_same f each acc map j v u (renewed.maps x y is_v is_u e) = ap (f j) is_v ∙ map j x y e
      ∙ ap (f j) (sym is_u)
  plain_same f each acc map j v u (renewed.devices d is_v is_u e) = ap (f j) (is_v ∙ sym is_u)

  -- an account whose maximum isn't below its frames stays one
  most_keeps : (j : ℕ) (v : DiskHeld) (c d : Counters) → Renewed g h j v (holds.Account d)
      → v ≡ holds.Account c → c.pages ≤ c.most → d.pages ≤ d.most
  most_keeps j v c d (renewed.slots a b is_v is_u r) is le = absurd (cc)
  most_keeps j v c d (renewed.accounts a b is_v is_u e keeps) is le =
      let was : c ≡ a = cc in let now : d ≡ b = cc in
      let least = keeps (subst (λ (x : Counters). x.pages ≤ x.most) was le) in
      let same = ap (λ (x : Counters). x.pages) e in
      subst (λ (x : Counters). x.pages ≤ x.most) (sym now) (omega arith)
  most_keeps j v c d (renewed.pools p is_v is_u) is le = absurd (cc)
  most_keeps j v c d (renewed.maps x y is_v is_u e) is le = absurd (cc)
  most_keeps j v c d (renewed.devices x is_v is_u e) is le = absurd (cc)

  -- an entry without a mark stays one
  under_keeps : (j : ℕ) (v : DiskHeld) (d : EntryState) → Renewed g h j v (holds.Slot d)
      → ((c : EntryState) → v ≡ holds.Slot c → c.under ≡ None) → d.under ≡ None
  under_keeps j v d (renewed.slots c b is_v is_u r) was =
      let now : d ≡ b = cc in ap (λ (x : EntryState). x.under) now ∙ r.under ∙ was c is_v
  under_keeps j v d (renewed.accounts c b is_v is_u e keeps) was = absurd (cc)
  under_keeps j v d (renewed.pools p is_v is_u) was = absurd (cc)
  under_keeps j v d (renewed.maps x y is_v is_u e) was = absurd (cc)
  under_keeps j v d (renewed.devices x is_v is_u e) was = absurd (cc)

  module _ (on_it : IsNextDisk g h) where
    pool_home : (j : ℕ) (p : PoolState) → AtHome g j (holds.Class p) → AtHome h j (holds.Class p)
    pool_home j p x = record {
      sound = (
        (let q = x.sound.0 in let s = on_it.size in omega arith),
        subst (λ (y : ℕ). PoolFits y p) (sym on_it.chain) x.sound.1,
      );
      stands = tt;
      backs = tt;
      marks = tt;
    }

    device_home : (j : ℕ) (d : DeviceState) → h.device ≡ d → AtHome g j (holds.Device d)
        → AtHome h j (holds.Device d)
    device_home j d e x = record {
      sound = (
        (let q = x.sound.0 in let s = on_it.size in omega arith),
        subst (λ (y : DeviceState). KeepsDevice y d) (sym e) (keeps_self d x.sound.1.end x.sound.1.writes),
      );
      stands = tt;
      backs = tt;
      marks = tt;
    }

    slot_home : (j : ℕ) (e d : EntryState) → IsRenewed g h j e d → AtHome g j (holds.Slot e)
        → AtHome h j (holds.Slot d)
    slot_home j e d r x = record {
      sound = record {
        page = (let q = x.sound.page in let s = on_it.size in omega arith);
        calls = subst (AreCarried h j) (sym r.order) tt;
        touched = r.touched ∙ sym r.time ∙ sym (ap (λ (ts : List Tag).
            touched_by ts h.clock (h.touched j)) r.order);
        mark = λ none idle. (r.order, r.mark ∙ sym r.idle ∙ idle);
        small = subst (λ (k : Kept). IsSmall (weight_of k)) (sym r.kept) x.sound.small;
      };
      stands = subst (λ (y : ℕ × PageForm × Kept). IsForm y.0 y.1 y.2)
          (λ i. (sym on_it.chain i, sym (same_form j e d r) i, sym r.kept i)) x.stands;
      backs = record {
        there = λ on. back_now ∙ on;
        only = λ none. back_now;
      };
      marks = record {
        idle_one = λ idle. ap is_obj r.kept ∙ x.marks.idle_one (sym r.idle ∙ idle);
        under_one = λ some. ap is_obj r.kept ∙ x.marks.under_one (sym (ap is_some r.under) ∙ some);
        stays = λ none was off. r.idle ∙ sym r.mark ∙ was;
      };
    } where
      -- it is on the device where it was before the phase
      back_now : is_wb d.kept ≡ back_at h j d.order
      back_now = ap is_wb r.kept ∙ sym (ap (back_at h j) r.order ∙ and_true (h.back j) ∙ r.back)

    home_same : (j : ℕ) (v u : DiskHeld) → Renewed g h j v u → AtHome g j v → AtHome h j u
    home_same j v u (renewed.slots e d is_v is_u r) x =
        subst (AtHome h j) (sym is_u) (slot_home j e d r (subst (AtHome g j) is_v x))
    home_same j v u (renewed.accounts c d is_v is_u e keeps) x =
        subst (AtHome h j) (sym is_u) (record {
          sound =
              (let q = (subst (AtHome g j) is_v x).sound in let s = on_it.size in omega arith);
          stands = tt;
          backs = tt;
          marks = tt;
        })
    home_same j v u (renewed.pools p is_v is_u) x =
        subst (AtHome h j) (sym is_u) (pool_home j p (subst (AtHome g j) is_v x))
    home_same j v u (renewed.maps y z is_v is_u e) x =
        subst (AtHome h j) (sym is_u) (record {
          sound =
              (let q = (subst (AtHome g j) is_v x).sound in let s = on_it.size in omega arith);
          stands = tt;
          backs = tt;
          marks = tt;
        })
    home_same j v u (renewed.devices d is_v is_u e) x =
        subst (AtHome h j) (sym is_u) (device_home j d e (subst (AtHome g j) is_v x))

    module _ (xs ys : List (Option DiskHeld)) (m : Matched (Renewed g h) xs ys) (a : AtRest g xs)
      where
        size_after : length ys ≡ h.given.size + 258
        size_after = let x = match_length (Renewed g h) xs ys m in let y = a.size in
            let s = on_it.size in omega arith

        home_after : (k : ℕ) (u : DiskHeld) → slice_get ys k ≡ Some (Some u) → AtHome h k u
        home_after k u e = let r = match_at (Renewed g h) xs ys m k u e in
            home_same k r.0 u r.2 (a.home k r.0 r.1)

        -- the account before, and the one after
        most_after : row_sum pages ys ≤ row_sum mosts ys
        most_after =
            let whole = match_size (Renewed g h) xs ys m in
            let c = account_at g xs a.size a.whole a.home in
            let d = account_at h ys size_after whole home_after in
            let r = match_at (Renewed g h) xs ys m (h.given.size + 255) (holds.Account d.0) d.1 in
            let there : slice_get xs (g.given.size + 255) ≡ Some (Some r.0) =
            ap (λ (n : ℕ). slice_get xs (n + 255)) (sym on_it.size) ∙ r.1 in
            let was = c.1 in
            let is : r.0 ≡ holds.Account c.0 = cc in
            let p = account_sum g xs a.size a.whole a.home (λ x. x.pages) in
            let q = account_sum g xs a.size a.whole a.home (λ x. x.most) in
            let s = account_sum h ys size_after whole home_after (λ x. x.pages) in
            let t = account_sum h ys size_after whole home_after (λ x. x.most) in
            let before = a.most in
            let le = most_keeps (h.given.size + 255) r.0 c.0 d.0 r.2 is (omega arith) in
            omega arith

    pub rest_goes_on : (xs ys : List (Option DiskHeld)) → Matched (Renewed g h) xs ys → AtRest g xs
        → AtRest h ys
    rest_goes_on xs ys m a =
        let same : (f : ℕ → DiskHeld → ℕ) → ((j : ℕ) (e d : EntryState) → d.kept ≡ e.kept
        → f j (holds.Slot e) ≡ f j (holds.Slot d)) → ((j : ℕ) (c : Counters) (limit most : ℕ)
        → f j (holds.Account c) ≡ f j (holds.Account (record c { limit = limit; most = most })))
        → ((j : ℕ) (x y : BlockMap) → y.states ≡ x.states
        → f j (holds.Blocks x) ≡ f j (holds.Blocks y))
        → row_sum f xs ≡ row_sum f ys = λ f e c b. row_match (Renewed g h) f f
        (plain_same f e c b) xs ys m in
        record {
          size = size_after xs ys m a;
          whole = match_size (Renewed g h) xs ys m;
          home = home_after xs ys m a;
          owners = λ f. let x = row_match (Renewed g h) (claims g f) (claims h f)
              (claims_same f) xs ys m in let y = same (stored f) (λ j e d r. refl)
              (λ j c n t. refl) (λ j x y e. refl) in let z = a.owners f in omega arith;
          blocks = λ f. let x = same (block_claims f) (λ j e d r. ap (block_by f) (sym r))
              (λ j c n t. refl) (λ j x y e. refl) in
              let y = same (used_blocks f) (λ j e d r. refl) (λ j c n t. refl)
              (λ j x y e. ap (used_from f 0) (sym e)) in let z = a.blocks f in omega arith;
          fits = let x = same map_size (λ j e d r. refl) (λ j c n t. refl)
              (λ j x y e. ap length (sym e)) in
              let y = same device_size (λ j e d r. refl) (λ j c n t. refl) (λ j x y e. refl) in
              let z = a.fits in omega arith;
          disk = λ b bytes some. let x = row_match (Renewed g h) (lies_at g b bytes)
              (lies_at h b bytes) (lies_same b bytes) xs ys m in
              let y = same (stored_at b bytes) (λ j e d r. refl) (λ j c n t. refl)
              (λ j x y e. refl) in let z = a.disk b bytes (omega arith) in omega arith;
          pins = λ f. let x = same (outs f) (λ j e d r. refl) (λ j c n t. refl) (λ j x y e. refl) in
              let z = a.pins f in omega arith;
          unmarked = λ k d e. let r = match_at (Renewed g h) xs ys m k (holds.Slot d) e in
              under_keeps k r.0 d r.2 (λ c is. a.unmarked k c
              (r.1 ∙ ap (λ (v : DiskHeld). Some (Some v)) is));
          frames = let x = same pages (λ j e d r. refl) (λ j c n t. refl) (λ j x y e. refl) in
              let y = same chains (λ j e d r. refl) (λ j c n t. refl) (λ j x y e. refl) in
              let z = a.frames in omega arith;
          counts = λ q. let x = same (counters q) (λ j e d r. refl)
              (λ j c n t. any_limit q c n t) (λ j x y e. refl) in
              let y = same (shown q) (λ j e d r. ap (λ (k : Kept). measure q (weight_of k)) (sym r))
              (λ j c n t. refl) (λ j x y e. refl) in let z = a.counts q in omega arith;
          most = most_after xs ys m a;
          refusals = λ q. let x = same (refusal_counter q) (λ j e d r. refl)
              (λ j c n t. any_refusals q c n t) (λ j x y e. refl) in let z = a.refusals q in
              omega arith;
          compacted = let x = same compactions (λ j e d r. refl) (λ j c n t. refl)
              (λ j x y e. refl) in let z = a.compacted in omega arith;
          news = λ q. let x = same (news_counter q) (λ j e d r. refl)
              (λ j c n t. any_news q c n t) (λ j x y e. refl) in let z = a.news q in omega arith;
        } where
          any_limit : (q : Count) (c : Counters) (n t : ℕ)
              → counter q c ≡ counter q (record c { limit = n; most = t })
          any_limit Sames c n t = refl
          any_limit Packs c n t = refl
          any_limit PackedBytes c n t = refl
          any_limit Huges c n t = refl
          any_limit Backs c n t = refl

          any_refusals : (q : Refusal) (c : Counters) (n t : ℕ)
              → refusal_count q c ≡ refusal_count q (record c { limit = n; most = t })
          any_refusals FailedReads c n t = refl
          any_refusals FailedWrites c n t = refl
          any_refusals OutOfRange c n t = refl

          any_news : (q : News) (c : Counters) (n t : ℕ) → news_count q c
              ≡ news_count q (record c { limit = n; most = t })
          any_news HugeWrites c n t = refl
          any_news FreedPages c n t = refl
