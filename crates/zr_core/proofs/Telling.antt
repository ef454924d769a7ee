-- What is told of a disk between two phases.
use Rattle.std.proofs.Common.{◌≡◌, ℕ, zero, suc, ◌+◌, ◌<◌, ◌≤◌, Bool, cond, List, get_or, Option, Some, None, slice_get, slice_set, refl, sym, ap, ◌∙◌, subst, arith, ⊎_elim}
use Rattle.std.proofs.lemmas.Bool.{lt-ltb}
use Rattle.std.proofs.lemmas.Option.{get_or_from_slice_get}
use Rattle.mem_account.specs.Counters.{Counters, no_counts}
use Rattle.block_map.specs.BlockMap.{BlockMap}
use Rattle.backing_dev.specs.Dev.{DeviceState}
use Rattle.lock_row.specs.declared.names.LockNo.TheVariants as lock
use Rattle.lock_row.specs.declared.names.Held.TheVariants as holds
use Rattle.lock_row.specs.Laws.{NamesHavePlaces}
use Rattle.lock_row.specs.Rows.{cell, at_home}
use Rattle.lock_row.specs.Rows.{Row as Locks}
use Rattle.page_steps.specs.Steps.{DiskHeld}
use Rattle.joint_rule.specs.Begins.{Begin}
use Rattle.joint_rule.specs.Ends.{device_in, device_of}
use Rattle.joint_rule.specs.Laws.{RestGoesOn}
use Rattle.joint_rule.specs.Starts.{IsMapOf}
use Rattle.zr_core.specs.declared.spare.Spare.{Spare}
use Rattle.zr_core.specs.Noted.{HasAllOrders}
use Rattle.zr_core.specs.Rests.{names_of, account_in, account_of, pool_in, pool_of, blocks_in, IsEarly, device_by, blocks_by, IsAtRest, RestsAs, with_account, with_budget}
use Rattle.zr_core.proofs.Lists.{get_here, get_else}
use Rattle.zr_core.proofs.Matches.{Row, order_is}
use Rattle.zr_core.proofs.Names.{cell_at}
use Rattle.zr_core.proofs.Rests.{account_some, at_rest, changed, mapped}
use Rattle.zr_core.proofs.Spares.{home_is, device_same, no_pages}

-- ---- the account, the pools and the device

module _ (places : NamesHavePlaces) (pages : ℕ) (some : 1 ≤ pages) (r : Locks DiskHeld)
    (names : r.names ≡ names_of pages) (x : Option DiskHeld) where
  pub account_value : (limit : ℕ) → x ≡ at_home (cell r lock.Account)
      → account_of limit pages r.cells ≡ account_in (record no_counts { limit = limit }) x
  account_value limit e = account_some limit pages r.cells some
      ∙ ap (account_in (record no_counts { limit = limit }))
      (sym (home_is r.cells (pages + 255))
      ∙ sym (ap at_home (cell_at pages places lock.Account tt r names)) ∙ sym e)

  pub pool_value : (class : ℕ) → class < 255 → x ≡ at_home (cell r (lock.Class class))
      → pool_of pages r.cells class ≡ pool_in x
  pool_value class low e = pool_some pages some
      ∙ ap pool_in (sym (home_is r.cells (pages + class))
      ∙ sym (ap at_home (cell_at pages places (lock.Class class) low r names)) ∙ sym e) where
        pool_some : (n : ℕ) → 1 ≤ n
            → pool_of n r.cells class ≡ pool_in (get_or r.cells (n + class) None)
        pool_some zero le = absurd (omega arith)
        pool_some (suc n) le = ap (λ (b : Bool). cond b (pool_in (get_or r.cells (suc n + class) None))
            None) (lt-ltb class 255 low)

-- ---- another account

-- the account of a disk with pages is the one in its place
pub account_told : (limit pages : ℕ) (cells : Row) (c : Counters) → 1 ≤ pages
    → slice_get cells (pages + 255) ≡ Some (Some (holds.Account c)) → account_of limit pages cells ≡ c
account_told limit pages cells c some at = account_some limit pages cells some
    ∙ ap (account_in (record no_counts { limit = limit }))
    (get_or_from_slice_get cells (pages + 255) (Some (holds.Account c)) None at)

-- and so its device and its map of blocks
pub device_told : (pages : ℕ) (cells : Row) (e d : DeviceState)
    → slice_get cells (pages + 257) ≡ Some (Some (holds.Device d)) → device_of e pages cells ≡ d
device_told pages cells e d at =
    ap (device_in e) (get_or_from_slice_get cells (pages + 257) (Some (holds.Device d)) None at)

pub blocks_told : (pages : ℕ) (cells : Row) (x : BlockMap)
    → slice_get cells (pages + 256) ≡ Some (Some (holds.Blocks x))
    → blocks_in (get_or cells (pages + 256) None) ≡ x
blocks_told pages cells x at =
    ap blocks_in (get_or_from_slice_get cells (pages + 256) (Some (holds.Blocks x)) None at)

-- the map that a disk tells is that of its phases
pub map_known : {D : Type 0} (g : Begin) (pages : ℕ) (cells : Row) (s : Option (Spare D))
    → IsEarly pages s → RestsAs g pages cells → IsMapOf g (blocks_by s pages cells)
map_known g pages cells None early rests = subst (IsMapOf g)
    (sym (blocks_told pages cells rests.map.0 rests.map.1)) rests.map.2
map_known g pages cells (Some s) early rests = absurd (let none = (no_pages pages (Some s) s early refl).0 in
    let some = rests.some in let no : ⊥ = omega arith in no)

module _ (pages : ℕ) (noted : List ℕ) (cells : Row) (rest : IsAtRest pages noted cells) where
  -- a disk with pages has its account at home
  pub account_home : 1 ≤ pages
      → (c : Counters) × (slice_get cells (pages + 255) ≡ Some (Some (holds.Account c)))
  account_home some = ⊎_elim
      (λ bare. absurd (let e = bare.0 in let none : ⊥ = omega arith in none))
      (λ r. (r.0.was, r.1.account)) rest.rests

  -- and so its map of blocks and its device
  pub blocks_home : 1 ≤ pages
      → (x : BlockMap) × (slice_get cells (pages + 256) ≡ Some (Some (holds.Blocks x)))
  blocks_home some = ⊎_elim
      (λ bare. absurd (let e = bare.0 in let none : ⊥ = omega arith in none))
      (λ r. (r.1.map.0, r.1.map.1)) rest.rests

  pub device_home : 1 ≤ pages
      → (d : DeviceState) × (slice_get cells (pages + 257) ≡ Some (Some (holds.Device d)))
  device_home some = ⊎_elim
      (λ bare. absurd (let e = bare.0 in let none : ⊥ = omega arith in none))
      (λ r. (r.0.device, r.1.device)) rest.rests

  -- one without pages has none of them
  pub no_value : pages ≡ 0 → (k : ℕ) (v : DiskHeld) → slice_get cells k ≡ Some (Some v) → ⊥
  no_value none k v at = ⊎_elim
      (λ bare. let q : None ≡ Some (Some v) =
      sym (ap (λ (row : Row). slice_get row k) bare.1) ∙ at in cc)
      (λ r. let s = r.1.some in omega arith) rest.rests

  -- the orders stay where one other value changes
  orders_too : (at : ℕ) (x : Option DiskHeld) (after : Row) → pages ≤ at
      → after ≡ slice_set cells at x → HasAllOrders pages noted after
  orders_too at x after ge is = record {
    listed = rest.orders.listed;
    others = λ p lt off.
        let e = rest.entries.each p lt in
        order_is after p e.0 (ap (λ (row : Row). slice_get row p) is
        ∙ get_else cells at p x (λ same. let none : ⊥ = omega arith in none) ∙ e.1)
        ∙ sym (order_is cells p e.0 e.1) ∙ rest.orders.others p lt off;
  }

  -- one without pages has no account
  pub no_account : pages ≡ 0 → (c : Counters)
      → slice_get cells (pages + 255) ≡ Some (Some (holds.Account c)) → ⊥
  no_account none c = no_value none (pages + 255) (holds.Account c)

  -- the account is put back with another limit or maximum
  module _ (some : 1 ≤ pages) (f : Counters → Counters)
      (only : (c : Counters) → f c ≡ record c { limit = (f c).limit; most = (f c).most })
      (keeps : (c : Counters) → c.pages ≤ c.most → c.pages ≤ (f c).most) (next : RestGoesOn)
      (limit : ℕ) (was now : Counters) (after : Row) (told : was ≡ account_of limit pages cells)
      (is : now ≡ f was) (set : after ≡ slice_set cells (pages + 255) (Some (holds.Account now)))
    where
      pub put_back : (c : Counters) → slice_get cells (pages + 255) ≡ Some (Some (holds.Account c))
          → after ≡ slice_set cells (pages + 255) (Some (holds.Account (f c)))
      put_back c at = set ∙ ap (λ (x : Counters). slice_set cells (pages + 255) (Some (holds.Account x)))
          (is ∙ ap f (told ∙ account_told limit pages cells c some at))

      pub put_as : (g : Begin) → RestsAs g pages cells
          → RestsAs (with_account g (f g.was)) pages after
      put_as g rests = changed g pages cells rests (f g.was) (only g.was) (keeps g.was) next after
          (put_back g.was rests.account)

      pub put_rests : IsAtRest pages noted after
      put_rests = ⊎_elim
          (λ bare. absurd (let e = bare.0 in let none : ⊥ = omega arith in none))
          (λ r. at_rest (with_account r.0 (f r.0.was)) pages after (put_as r.0 r.1) noted
          (orders_too (pages + 255) _ after (omega arith) (put_back r.0.was r.1.account))) rest.rests

  -- the map of blocks gets another budget
  module _ (next : RestGoesOn) (budget : ℕ) (on : Bool) (after : Row)
      (set : (x : BlockMap) → slice_get cells (pages + 256) ≡ Some (Some (holds.Blocks x))
      → after ≡ slice_set cells (pages + 256)
      (Some (holds.Blocks (record x { budget = budget; enabled = on })))) where
    pub map_as : (g : Begin) → RestsAs g pages cells → RestsAs (with_budget g budget on) pages after
    map_as g rests =
        mapped g pages cells rests budget on next after (set rests.map.0 rests.map.1)

    pub map_rests : 1 ≤ pages → IsAtRest pages noted after
    map_rests some =
        let b = blocks_home some in ⊎_elim
        (λ bare. absurd (let e = bare.0 in let none : ⊥ = omega arith in none))
        (λ r. at_rest (with_budget r.0 budget on) pages after (map_as r.0 r.1) noted
        (orders_too (pages + 256) _ after (omega arith) (set b.0 b.1))) rest.rests

    pub map_device : {D : Type 0} (s : Option (Spare D)) → 1 ≤ pages
        → device_by s pages after ≡ device_by s pages cells
    map_device s some =
        let b = blocks_home some in
        device_same cells after pages s
        (ap (λ (row : Row). slice_get row (pages + 257)) (set b.0 b.1)
        ∙ get_else cells (pages + 256) (pages + 257) _ (λ same. let none : ⊥ = omega arith in none))

    pub map_blocks : 1 ≤ pages → blocks_in (get_or after (pages + 256) None)
        ≡ record (blocks_in (get_or cells (pages + 256) None)) { budget = budget; enabled = on }
    map_blocks some =
        let b = blocks_home some in
        blocks_told pages after (record b.0 { budget = budget; enabled = on })
        (ap (λ (row : Row). slice_get row (pages + 256)) (set b.0 b.1)
        ∙ get_here cells (pages + 256) _ _ b.1)
        ∙ ap (λ (x : BlockMap). record x { budget = budget; enabled = on })
        (sym (blocks_told pages cells b.0 b.1))
