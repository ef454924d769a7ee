-- The account is within what pages and actors can have made, and so is its maximum.
use Rattle.std.proofs.Common.{◌≡◌, ◌+◌, ◌*◌, ◌≤◌, ◌∷◌, ℕ, zero, suc, max, List, [], sum_by, Option, Some, None, slice_get, refl, ap, arith, ⊎_elim, Bool, true, false}
use Rattle.call_history.specs.declared.part.Part.{Part}
use Rattle.call_history.specs.declared.part.PartEnd.{PartEnd}
use Rattle.class_pool.specs.Pool.{used_cells, used_cells_in}
use Rattle.class_pool.specs.Zspages.{Cells}
use Rattle.joint_rule.proofs.Facts.{Known}
use Rattle.joint_rule.proofs.Gifts.{Gift, IsCharge}
use Rattle.joint_rule.proofs.Keeps.{give_keeps}
use Rattle.joint_rule.proofs.Lookups.{lone, mine_account, under_account}
use Rattle.joint_rule.proofs.Pools.{chain_low}
use Rattle.joint_rule.proofs.Sums.{gone, locals_add, total_mono, total_split, total_up, total_up_over}
use Rattle.joint_rule.proofs.Places.{home_lean}
use Rattle.joint_rule.proofs.Zspages.{one_of, ones_are}
use Rattle.joint_rule.specs.Begins.{Begin, terms}
use Rattle.joint_rule.specs.Joint.{AtHome, Joint, Sound}
use Rattle.joint_rule.specs.Rule.{Most, owed}
use Rattle.joint_rule.specs.Stages.{OweAt, StageBy, OweBy, is_owing}
use Rattle.joint_rule.specs.Weights.{Limit, cell_weight, chains, claims, each_one, ever_at, fixed, fixed_count, fresh_claim, leaning, mosts, none, one, owing, pages, some_of, stored}
use Rattle.lock_row.specs.Totals.{held_sum, locals_sum, mass, row_sum, total}
use Rattle.lock_row.specs.declared.names.At.{At}
use Rattle.lock_row.specs.declared.names.At.TheVariants.{Away, Backed, Both, Counting, Failing, Fetching, Freeing, Giving, Inside, Leaving, Made, Missed, Old, Owing, Pinned, Pinning, Ready, Refusing, Releasing, Seen, Start, Unpinning, Wanting, Sweeping, Moving, Shrunk, Shrinking, Scanning, Marking, Visiting}
use Rattle.lock_row.specs.declared.names.LockNo.{LockNo}
use Rattle.lock_row.specs.declared.names.Object.{Object}
use Rattle.lock_row.specs.declared.names.Pin.{Pin}
use Rattle.lock_row.specs.declared.names.Plan.TheVariants.{Take}
use Rattle.lock_row.specs.declared.names.State.{State}
use Rattle.mem_account.specs.declared.weight.Weight.{Weight}
use Rattle.page_steps.specs.Steps.{DiskHeld, Here, entry_in, lock_of, plan, spot, took}
use Rattle.slot_entry.specs.Entries.{EntryState}
use Rattle.std.proofs.lemmas.Bool.{cases_lt}
use Rattle.std.proofs.lemmas.List.Sums.{sum_by-append, sum_by-cons}
use Rattle.zspage.specs.Cells.{UsedCell, entry, used_of}
use Rattle.lock_row.specs.declared.names.LockNo.TheVariants as lock
use Rattle.lock_row.specs.declared.names.Held.TheVariants as holds

-- ---- products

pub times_le : (c a b : ℕ) → a ≤ b → c * a ≤ c * b
times_le zero a b le = omega arith
times_le (suc c) a b le = let r = times_le c a b le in omega arith

module _ (c : ℕ) (size : ℕ) where
  -- so many times a weight
  abbrev pub scaled : (ℕ → DiskHeld → ℕ) → ℕ → DiskHeld → ℕ
  scaled f j v = c * f j v

  row_scaled : (f : ℕ → DiskHeld → ℕ) (row : List (Option DiskHeld))
      → row_sum (scaled f) row ≡ c * row_sum f row
  row_scaled f [] = omega arith
  row_scaled f (None ∷ xs) = let r = row_scaled (λ j. f (suc j)) xs in omega arith
  row_scaled f (Some x ∷ xs) = let r = row_scaled (λ j. f (suc j)) xs in omega arith

  held_scaled : (f : ℕ → DiskHeld → ℕ) (xs : List (LockNo × DiskHeld))
      → held_sum (spot size) (scaled f) xs ≡ c * held_sum (spot size) f xs
  held_scaled f [] = omega arith
  held_scaled f (x ∷ xs) = let r = held_scaled f xs in omega arith

  locals_scaled : (f : ℕ → DiskHeld → ℕ) (ls : List Here)
      → locals_sum (mass (spot size) (scaled f) none) ls
      ≡ c * locals_sum (mass (spot size) f none) ls
  locals_scaled f [] = omega arith
  locals_scaled f (l ∷ ls) = let r = locals_scaled f ls in let s = held_scaled f l.held in
      omega arith

  pub total_scaled : (f : ℕ → DiskHeld → ℕ) (w : State DiskHeld)
      → total (spot size) (scaled f) none w ≡ c * total (spot size) f none w
  total_scaled f w = let r = row_scaled f w.row in let s = locals_scaled f w.locals in omega arith

  owing_scaled : (h : Here → ℕ) (ls : List Here) → ((b : ℕ) (m : Here) → slice_get ls b ≡ Some m
      → m.owed ≤ c * h m)
      → locals_sum owing ls ≤ c * locals_sum h ls
  owing_scaled h [] each = omega arith
  owing_scaled h (l ∷ ls) each = let r = owing_scaled h ls (λ b. each (suc b)) in
      let s = each 0 l refl in omega arith

-- ---- chains and objects

few_zspages : (f : UsedCell → ℕ) → ((u : UsedCell) → f u ≡ 1) → (zs : List (Option Cells))
    → ((k : ℕ) (cells : Cells) → entry zs k ≡ Some cells → 1 ≤ used_of cells)
    → used_of zs ≤ sum_by f (used_cells zs)
few_zspages f e [] filled = omega arith
few_zspages f e (None ∷ zs) filled =
    omega (
      arith,
      few_zspages f e zs (λ k. filled (suc k)),
      sum_by-cons {X = Option Cells} one_of None zs,
    )
few_zspages f e (Some cells ∷ zs) filled =
    omega (
      arith,
      few_zspages f e zs (λ k. filled (suc k)),
      sum_by-append f (used_cells_in cells) (used_cells zs),
      ones_are f e cells,
      filled 0 cells refl,
      sum_by-cons one_of (Some cells) zs,
    )

pub times_both : (a b c d : ℕ) → a ≤ c → b ≤ d → a * b ≤ c * d
times_both a b c d x y = let r = times_le a b d y in let s = times_le d a c x in omega arith

module _ (g : Begin) (ok : Known g) where
  chains_few : (j : ℕ) (v : DiskHeld) → Sound g j v → chains j v ≤ g.chain * stored each_one j v
  chains_few j (holds.Slot e) s = omega arith
  chains_few j (holds.Account c) s = omega arith
  chains_few j (holds.Blocks c) s = omega arith
  chains_few j (holds.Device c) s = omega arith
  chains_few j (holds.Class p) s =
      let a = few_zspages (cell_weight (each_one p.class)) (λ u. refl) p.zspages s.1.pool.filled in
      times_both p.chain (used_of p.zspages) g.chain (sum_by (cell_weight (each_one p.class))
      (used_cells p.zspages)) (chain_low g.chain p s.1 ok.proper.least) a

  owed_none : (n : ℕ) → n ≡ 0 → n ≤ g.chain * some_of n
  owed_none zero e = omega arith
  owed_none (suc n) e = absurd (omega arith)

  owed_some : (n : ℕ) → n ≤ g.chain → n ≤ g.chain * some_of n
  owed_some zero le = omega arith
  owed_some (suc n) le = omega arith

  owed_visit : (b : Bool) (n : ℕ) → OweBy b g.chain n → n ≤ g.chain * some_of n
  owed_visit true n o = owed_some n o
  owed_visit false n o = owed_none n o

  owed_at : (at : At) (n : ℕ) → OweAt g.chain at n → n ≤ g.chain * some_of n
  owed_at Owing n o = owed_some n o
  owed_at Giving n o = owed_some n o
  owed_at Start n o = owed_none n o
  owed_at Refusing n o = owed_none n o
  owed_at Seen n o = owed_none n o
  owed_at Pinning n o = owed_none n o
  owed_at Pinned n o = owed_none n o
  owed_at Unpinning n o = owed_none n o
  owed_at Leaving n o = owed_none n o
  owed_at Away n o = owed_none n o
  owed_at Fetching n o = owed_none n o
  owed_at Failing n o = owed_none n o
  owed_at Counting n o = owed_none n o
  owed_at Missed n o = owed_none n o
  owed_at Wanting n o = owed_none n o
  owed_at Inside n o = owed_none n o
  owed_at Both n o = owed_none n o
  owed_at Made n o = owed_none n o
  owed_at Old n o = owed_none n o
  owed_at Freeing n o = owed_none n o
  owed_at Backed n o = owed_none n o
  owed_at Releasing n o = owed_none n o
  owed_at Ready n o = owed_none n o
  owed_at (Scanning x) n o = owed_none n o
  owed_at (Marking x) n o = owed_none n o
  owed_at (Visiting s x) n o = owed_visit (is_owing s) n o
  owed_at (Sweeping x) n o = owed_none n o
  owed_at (Moving x) n o = owed_none n o
  owed_at (Shrunk x) n o = owed_some n o
  owed_at (Shrinking x) n o = owed_some n o

  owed_by : (ps : List Part) (e : EntryState) (at : At) (fresh : Option Object) (pin : Option Pin)
      (owed : ℕ) (x y : Option Weight) (page : Option (List ℕ)) (fail : Option PartEnd)
      → StageBy g ps e at fresh pin owed x y page fail → owed ≤ g.chain * some_of owed
  owed_by [] e at fresh pin owed x y page fail s = owed_none owed s.owes
  owed_by (p ∷ ps) e at fresh pin owed x y page fail s = owed_at at owed s.owes

  module _ (w : State DiskHeld) (j : Joint g w) where
    -- the account's frames lean on what is claimed, made and owed
    leaned : total (spot g.given.size) pages none w ≤ g.chain * total (spot g.given.size)
        (claims g each_one) leaning w
    leaned =
        let f = j.frames in let o = j.owners each_one in
        let a = total_split g.given.size chains owing w in
        let b = total_mono g.given.size (Sound g) chains
        (λ k v. g.chain * stored each_one k v) chains_few w
        (λ i v e. (j.each.in_row i v e).sound) (λ i m e. (j.each.in_local i m e).sound) in
        let c = total_scaled g.chain g.given.size (stored each_one) w in
        let d = owing_scaled g.chain g.given.size (λ l. some_of l.owed) w.locals
        (λ i m e. owed_by m.todo (entry_in m.held) m.at m.fresh m.pin m.owed m.ahead m.behind
        m.page m.fail (j.each.in_local i m e).stage) in
        let h = total_split g.given.size (claims g each_one) leaning w in
        let k = total_split g.given.size (claims g each_one) (fresh_claim each_one) w in
        let i = locals_add g.given.size (fresh_claim each_one) (λ l. some_of l.owed) w.locals in
        let t = ap (λ (x : ℕ). g.chain * x) (let z : total (spot g.given.size)
        (claims g each_one) leaning w ≡ total (spot g.given.size) (stored each_one) none w
        + locals_sum (λ l. some_of l.owed) w.locals = omega arith in z) in
        omega arith

    leans : (b : ℕ) (m : Here) → slice_get w.locals b ≡ Some m
        → mass (spot g.given.size) (claims g each_one) leaning m
        ≤ mass (spot g.given.size) (ever_at g) one m
    leans b m e = (j.each.in_local b m e).lean

    homes : (k : ℕ) (v : DiskHeld) → AtHome g k v → claims g each_one k v ≤ ever_at g k v
    homes k v x = home_lean g k v x.stands

    pub bounded : total (spot g.given.size) pages none w
        ≤ g.chain * total (spot g.given.size) (ever_at g) one w
    bounded =
        let a = leaned in
        let u = total_up g.given.size (AtHome g) (claims g each_one)
        (ever_at g) leaning one homes w j.each.in_row leans in
        let t = times_le g.chain _ _ u in omega arith

    -- an actor that makes nothing and owes nothing leaves a chain
    pub below : (a : ℕ) (l : Here) → slice_get w.locals a ≡ Some l
        → held_sum (spot g.given.size) (claims g each_one) l.held + leaning l
        ≤ held_sum (spot g.given.size) (ever_at g) l.held
        → total (spot g.given.size) pages none w + g.chain
        ≤ g.chain * total (spot g.given.size) (ever_at g) one w
    below a l who less =
        let b = leaned in
        let u = total_up_over g.given.size (AtHome g) (claims g each_one)
        (ever_at g) leaning one homes w j.each.in_row leans a l who in
        let t = times_le g.chain (total (spot g.given.size) (claims g each_one) leaning w + 1)
        (total (spot g.given.size) (ever_at g) one w) (omega arith) in omega arith

-- ---- the maximum

module _ (g : Begin) (ok : Known g) (w : State DiskHeld) (j : Joint g w) (a : ℕ) (l : Here)
    (who : slice_get w.locals a ≡ Some l) (k : LockNo) (v : DiskHeld) where
  abbrev n : ℕ
  n = g.given.size

  -- bounds of a total that rises
  most_up : (w' : State DiskHeld) → total (spot n) mosts none w' ≡ total (spot n) mosts none w
      → total (spot n) pages none w' ≤ total (spot n) pages none w
      → total (spot n) (ever_at g) one w ≤ total (spot n) (ever_at g) one w' → Most g w → Most g w'
  most_up w' e f up m = record {
    now = let r = m.now in omega arith;
    before = let r = m.before in omega arith;
    within = λ rose some. let r = m.within (omega arith) some in omega arith;
    few = λ rose. let r = m.few (omega arith) in let t = times_le g.chain _ _ up in omega arith;
  }

  pub most_take : plan (terms g) l ≡ Take k → slice_get w.row (spot n k) ≡ Some (Some v) → Most g w
      → Most g (gone n w a l who k None (took (terms g) l v))
  most_take what there most =
      let held : (took (terms g) l v).held ≡ (k, v) ∷ l.held =
      ap (λ p. (lock_of p, v) ∷ l.held) what in
      let same : (f : ℕ → DiskHeld → ℕ) (h : Here → ℕ) → h (took (terms g) l v) ≡ h l
      → total (spot n) f h (gone n w a l who k None (took (terms g) l v))
      ≡ total (spot n) f h w = λ f h e. ok.facts.take (spot n) f h w a l k v
      (took (terms g) l v) who there held e in
      let up = same (ever_at g) one refl in let p = same pages none refl in
      most_up _ (same mosts none refl) (omega arith) (omega arith) most

  module _ (m : Here) (there : slice_get w.row (spot n k) ≡ Some None) (x : Gift g w a l k v m) where
    abbrev after : State DiskHeld
    after = gone n w a l who k (Some v) m

    gives : (f : ℕ → DiskHeld → ℕ) (h : Here → ℕ) → total (spot n) f h after + mass (spot n) f h l
        ≡ total (spot n) f h w + mass (spot n) f h m + f (spot n k) v
    gives f h = ok.facts.give (spot n) f h w a l k v m who there

    pub risen : total (spot n) (ever_at g) one w ≤ total (spot n) (ever_at g) one after
    risen = let r = gives (ever_at g) one in let s = x.rises in omega arith

    charge_most : IsCharge g l v m → Most g w → Most g after
    charge_most c most =
        let mine = mine_account g w j a l who c.c c.held c.was in
        let m0 = lone g w j a l who lock.Account mosts (under_account g (λ y. y.most)) mine in
        let m1 = ap (held_sum (spot n) mosts) c.was in let m2 = c.no_most in
        let b0 = lone g w j a l who lock.Account (fixed Limit)
        (under_account g (fixed_count Limit)) mine in
        let b1 = ap (held_sum (spot n) (fixed Limit)) c.was in let b2 = c.no_limit in
        let b3 = j.stays Limit in
        let p0 = lone g w j a l who lock.Account pages (under_account g (λ y. y.pages)) mine in
        let p1 = ap (held_sum (spot n) pages) c.was in let p2 = c.no_pages in
        let m3 = gives mosts none in let m4 = c.after_most in
        let m5 : mosts (spot n k) v ≡ max c.c.most (c.c.pages + c.need) =
        ap (mosts (spot n k)) c.value in
        let p3 = gives pages none in let p4 = c.after_pages in
        let p5 : pages (spot n k) v ≡ c.c.pages + c.need = ap (pages (spot n k)) c.value in
        let up = risen in let t = times_le g.chain _ _ up in
        let all = bounded g ok after (give_keeps g ok w j a l who k v m there x) in
        let r0 = most.now in let r1 = most.before in record {
          now = omega arith;
          before = omega arith;
          within = λ rose some. ⊎_elim
              (λ less. let q = c.within (omega arith) in omega arith)
              (λ more. let q = most.within (omega arith) some in omega arith)
              (cases_lt c.c.most (c.c.pages + c.need));
          few = λ rose. ⊎_elim
              (λ less. omega arith)
              (λ more. let q = most.few (omega arith) in omega arith)
              (cases_lt c.c.most (c.c.pages + c.need));
        }

    pub most_give : Most g w → Most g after
    most_give most = ⊎_elim
        (λ same. let s0 = same.0 in let s1 = same.1 in most_up after (let r = gives mosts none in
        omega arith) (let r = gives pages none in omega arith) risen most)
        (λ c. charge_most c most)
        x.most
