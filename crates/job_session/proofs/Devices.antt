-- What becomes of the device of a world, and of the map of its blocks.
use Rattle.std.proofs.Common.{◌≡◌, ◌⊎◌, ℕ, ◌+◌, ◌≤◌, zero, suc, Bool, true, false, List, Option, Some, None, slice_get, slice_set, get_or-set_other, refl, sym, ap, ◌∙◌, subst, inl, inr, arith}
use Rattle.std.proofs.lemmas.Bool.{eqb-true}
use Rattle.std.proofs.lemmas.Option.{get_or_from_slice_get}
use Rattle.mem_account.specs.Counters.{Counters}
use Rattle.block_map.specs.BlockMap.{BlockMap}
use Rattle.backing_dev.specs.Dev.{DeviceState}
use Rattle.lock_row.specs.declared.names.Held.TheVariants as holds
use Rattle.page_steps.specs.Steps.{DiskHeld}
use Rattle.joint_rule.specs.Begins.{Begin}
use Rattle.joint_rule.specs.Starts.{IsNew}
use Rattle.joint_rule.specs.Ends.{device_in, device_of}
use Rattle.zr_core.specs.declared.spare.Spare.{Spare}
use Rattle.zr_core.specs.Rests.{no_device, blocks_in, IsEarly, device_by, blocks_by, IsBare, RestsAs, new_disk, with_map}
use Rattle.zr_core.specs.Rows.{AreNew}
use Rattle.job_session.specs.Stepped.{Disk, IsNewDisk, IsLimited, IsLowered, IsBudgeted, map_of, IsRunOn}

module _ {D : Type 0} where
  -- what stands beside the row of a disk
  spare_none : (s : Option (Spare D)) (pages : ℕ) → 1 ≤ pages → IsEarly pages s → s ≡ None
  spare_none None pages some early = refl
  spare_none (Some x) pages some early =
      absurd (let none = eqb-true pages 0 (sym early.0) in omega (arith, none, some))

  spare_some : (s : Option (Spare D)) (pages : ℕ) → pages ≡ 0 → IsEarly pages s
      → (x : Spare D) × (s ≡ Some x)
  spare_some None zero none early = absurd (let q : false ≡ true = early.0 in cc)
  spare_some None (suc n) none early = absurd (omega (arith, none))
  spare_some (Some x) pages none early = (x, refl)

-- the map of blocks is in its place of a new row
map_value : (g : Begin) (k : ℕ) (v : DiskHeld) → k ≡ g.given.size + 256 → IsNew g k v
    → (x : BlockMap) × (v ≡ holds.Blocks x)
map_value g k (holds.Slot e) here is = absurd (let at = is.0 in omega (arith, here, at))
map_value g k (holds.Class p) here is =
    absurd (let at = is.0 in let few = is.1 in omega (arith, here, at, few))
map_value g k (holds.Account c) here is = absurd (let at = is.0 in omega (arith, here, at))
map_value g k (holds.Blocks x) here is = (x, refl)
map_value g k (holds.Device d) here is = absurd (let at = is.0 in omega (arith, here, at))

module _ {D : Type 0} (s : Option (Spare D)) (pages : ℕ) where
  -- ---- another account

  -- another value in the account's place changes neither
  account_set : (x : Option (Spare D)) (row : List (Option DiskHeld)) (v : Option DiskHeld)
      → (device_by x pages (slice_set row (pages + 255) v) ≡ device_by x pages row)
      × (blocks_by x pages (slice_set row (pages + 255) v) ≡ blocks_by x pages row)
  account_set (Some x) row v = (refl, refl)
  account_set None row v = (
    ap (device_in no_device) (get_or-set_other row (pages + 255) (pages + 257) v None
        (λ e. let no : ⊥ = omega arith in no)),
    ap blocks_in (get_or-set_other row (pages + 255) (pages + 256) v None
        (λ e. let no : ⊥ = omega arith in no)),
  )

  -- so it is on a row that rests, where only the account's place may have changed
  kept_beside : (old new : List (Option DiskHeld)) (f : Counters → DiskHeld)
      → IsBare pages old ⊎ ((g : Begin) × RestsAs g pages old) → (pages ≡ 0 → new ≡ old)
      → ((c : Counters) → slice_get old (pages + 255) ≡ Some (Some (holds.Account c))
      → new ≡ slice_set old (pages + 255) (Some (f c)))
      → (device_by s pages new ≡ device_by s pages old)
      × (blocks_by s pages new ≡ blocks_by s pages old)
  kept_beside old new f (inl bare) none set =
      let same = none bare.0 in (ap (device_by s pages) same, ap (blocks_by s pages) same)
  kept_beside old new f (inr there) none set =
      let same = set there.0.was there.1.account in
      let kept = account_set s old (Some (f there.0.was)) in
      (ap (device_by s pages) same ∙ kept.0, ap (blocks_by s pages) same ∙ kept.1)

  -- ---- a new disk

  map_there : (g : Begin) (row : List (Option DiskHeld)) (b : BlockMap) → g.given.size ≡ pages
      → 1 ≤ pages → IsEarly pages s → AreNew g (pages + 258) row → blocks_by s pages row ≡ b
      → slice_get row (pages + 256) ≡ Some (Some (holds.Blocks b))
  map_there g row b size some early are blocks =
      let there = are.each (pages + 256) (omega arith) in
      let v = map_value g (pages + 256) there.0 (omega (arith, size)) there.2 in
      let at : slice_get row (pages + 256) ≡ Some (Some (holds.Blocks v.0)) =
      there.1 ∙ ap (λ (x : DiskHeld). Some (Some x)) v.1 in
      at ∙ ap (λ (x : BlockMap). Some (Some (holds.Blocks x)))
      (sym (ap blocks_in (get_or_from_slice_get row (pages + 256) _ None at))
      ∙ sym (ap (λ (x : Option (Spare D)). blocks_by x pages row) (spare_none s pages some early))
      ∙ blocks)

  -- ---- a phase

  -- after a phase the device is the row's, if there is one
  device_left : (old new : List (Option DiskHeld)) → IsEarly pages s
      → IsBare pages new ⊎ ((g : Begin) × RestsAs g pages new)
      → device_by s pages new ≡ device_of (device_by s pages old) pages new
  device_left old new early (inl bare) =
      let e = (spare_some s pages bare.0 early).1 in
      ap (λ (x : Option (Spare D)). device_by x pages new) e
      ∙ sym (ap (λ (x : Option (Spare D)). device_by x pages old) e)
      ∙ sym (ap (λ (row : List (Option DiskHeld)). device_of (device_by s pages old) pages row)
      bare.1)
  device_left old new early (inr there) =
      let at = get_or_from_slice_get new (pages + 257) _ None there.1.device in
      ap (λ (x : Option (Spare D)). device_by x pages new)
      (spare_none s pages there.1.some early)
      ∙ ap (device_in no_device) at ∙ sym (ap (device_in (device_by s pages old)) at)

-- and so is the map of blocks
map_left : {D : Type 0} (s : Option (Spare D)) (pages : ℕ) (old new : List (Option DiskHeld))
    → IsEarly pages s → blocks_by s pages new ≡ map_of (blocks_by s pages old) pages new
map_left None zero old new early = absurd (let q : false ≡ true = early.0 in cc)
map_left None (suc n) old new early = refl
map_left (Some s) zero old new early = refl
map_left (Some s) (suc n) old new early =
    absurd (let none = eqb-true (suc n) 0 (sym early.0) in omega (arith, none))

-- ---- disks of worlds

-- the disk of a world at this time, which has a backing or none, with these pages, this limit, this row, and what stands beside it
abbrev disk_by : {D : Type 0} → ℕ → Bool → Option (Spare D) → ℕ → ℕ → List (Option DiskHeld) → Disk
disk_by clock backed s pages limit row = record {
  size = pages;
  limit = limit;
  backed = backed;
  clock = clock;
  row = row;
  device = device_by s pages row;
  blocks = blocks_by s pages row;
}

-- a disk whose size was given
pub is_new_disk : {D : Type 0} (d : Disk) (backed : Bool) (s : Option (Spare D)) (pages n limit : ℕ)
    (row : List (Option DiskHeld)) → pages ≡ n → 1 ≤ n → limit ≡ d.limit → backed ≡ d.backed → IsEarly pages s
    → device_by s pages row ≡ d.device → blocks_by s pages row ≡ d.blocks
    → AreNew (new_disk n d.limit d.device) (n + 258) row
    → RestsAs (with_map (new_disk n d.limit d.device) d.blocks) n row → IsNewDisk d n (disk_by d.clock backed s pages limit row)
is_new_disk d backed s pages n limit row size some same as_backed early device blocks are rests = record {
  size = size;
  limit = same;
  backed = as_backed;
  clock = refl;
  device = device;
  blocks = blocks;
  row = are;
  account = rests.account;
  map = map_there s n (new_disk n d.limit d.device) row d.blocks refl some
      (subst (λ (k : ℕ). IsEarly k s) size early) are
      (subst (λ (k : ℕ). blocks_by s k row ≡ d.blocks) size blocks);
}

-- a disk of which only the account has changed
module _ {D : Type 0} (clock : ℕ) (backed still : Bool) (s t : Option (Spare D))
    (pages after limit now : ℕ)
    (old new : List (Option DiskHeld)) (beside : t ≡ s) (size : after ≡ pages)
    (as_backed : still ≡ backed)
    (rests : IsBare pages old ⊎ ((g : Begin) × RestsAs g pages old))
    (none : pages ≡ 0 → new ≡ old) where
  same_beside : (f : Counters → DiskHeld)
      → ((c : Counters) → slice_get old (pages + 255) ≡ Some (Some (holds.Account c))
      → new ≡ slice_set old (pages + 255) (Some (f c)))
      → (device_by t after new ≡ device_by s pages old)
      × (blocks_by t after new ≡ blocks_by s pages old)
  same_beside f set =
      let kept = kept_beside s pages old new f rests none set in (
        (λ i. device_by (beside i) (size i) new) ∙ kept.0,
        (λ i. blocks_by (beside i) (size i) new) ∙ kept.1,
      )

  pub is_limited : (n : ℕ) → now ≡ n
      → ((c : Counters) → slice_get old (pages + 255) ≡ Some (Some (holds.Account c))
      → new ≡ slice_set old (pages + 255) (Some (holds.Account (record c { limit = n }))))
      → IsLimited (disk_by clock backed s pages limit old) n (disk_by clock still t after now new)
  is_limited n is set =
      let kept = same_beside (λ c. holds.Account (record c { limit = n })) set in record {
        size = size;
        limit = is;
        backed = as_backed;
        clock = refl;
        device = kept.0;
        blocks = kept.1;
        none = none;
        account = set;
      }

  pub is_lowered : now ≡ limit
      → ((c : Counters) → slice_get old (pages + 255) ≡ Some (Some (holds.Account c))
      → new ≡ slice_set old (pages + 255) (Some (holds.Account (record c { most = c.pages }))))
      → IsLowered (disk_by clock backed s pages limit old) (disk_by clock still t after now new)
  is_lowered is set =
      let kept = same_beside (λ c. holds.Account (record c { most = c.pages })) set in record {
        size = size;
        limit = is;
        backed = as_backed;
        clock = refl;
        device = kept.0;
        blocks = kept.1;
        none = none;
        account = set;
      }

-- a disk of which only the map of blocks has changed
pub is_budgeted : {D : Type 0} (clock : ℕ) (backed still : Bool) (s t : Option (Spare D))
    (pages after limit now : ℕ) (old new : List (Option DiskHeld)) (n : ℕ) (on : Bool)
    → after ≡ pages → now ≡ limit → still ≡ backed
    → device_by t after new ≡ device_by s pages old
    → blocks_by t after new ≡ record (blocks_by s pages old) { budget = n; enabled = on }
    → (pages ≡ 0 → new ≡ old)
    → ((x : BlockMap) → slice_get old (pages + 256) ≡ Some (Some (holds.Blocks x))
    → new ≡ slice_set old (pages + 256)
    (Some (holds.Blocks (record x { budget = n; enabled = on }))))
    → IsBudgeted (disk_by clock backed s pages limit old) n on (disk_by clock still t after now new)
is_budgeted clock backed still s t pages after limit now old new n on size same as_backed device
    blocks none map = record {
      size = size;
      limit = same;
      backed = as_backed;
      clock = refl;
      device = device;
      blocks = blocks;
      none = none;
      map = map;
    }

-- a disk on which a phase was set up and run
pub is_run_on : {D : Type 0} (d : Disk) (clock : ℕ) (backed : Bool) (t u : Option (Spare D))
    (between after now : ℕ) (mid new : List (Option DiskHeld)) → u ≡ t → after ≡ between
    → between ≡ d.size → now ≡ d.limit → backed ≡ d.backed → clock ≡ d.clock → device_by t between mid ≡ d.device
    → blocks_by t between mid ≡ d.blocks → IsEarly after u
    → IsBare after new ⊎ ((g : Begin) × RestsAs g after new)
    → IsRunOn d (disk_by clock backed u after now new)
is_run_on d clock backed t u q r now mid new beside run set same as_backed time device blocks early rests = record {
  size = run ∙ set;
  limit = same;
  backed = as_backed;
  clock = time;
  device = device_left u r mid new early rests
      ∙ (λ i. device_of (device_by (beside i) (run i) mid) ((run ∙ set) i) new)
      ∙ ap (λ (x : DeviceState). device_of x d.size new) device;
  blocks = map_left u r mid new early
      ∙ (λ i. map_of (blocks_by (beside i) (run i) mid) ((run ∙ set) i) new)
      ∙ ap (λ (x : BlockMap). map_of x d.size new) blocks;
}
