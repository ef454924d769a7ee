-- A pool's used cells by sums, and what each call of a pool does to them.
use Rattle.std.proofs.Common.{◌≡◌, ◌≢◌, ◌+◌, ◌*◌, ◌≤◌, ◌<◌, ◌∷◌, ◌∙◌, ◌⊎◌, ◌&&◌, ℕ, zero, suc, Bool, true, false, cond, not, eqb, List, [], length, sum_by, Option, Some, slice_set, refl, sym, ap, arith, inl, inr, ⊎_elim}
use Rattle.class_pool.specs.Laws.{frames_of}
use Rattle.class_pool.specs.Pool.{Frees, HasOneMore, IsFresh, IsPlace, IsPool, PoolState, new_use, used_cells, with_cells}
use Rattle.class_pool.specs.Zspages.{Cells}
use Rattle.joint_rule.specs.Facts.{Facts}
use Rattle.joint_rule.specs.Joint.{PoolFits}
use Rattle.joint_rule.specs.Weights.{cell_weight, names, same, same_pin, same_ptr}
use Rattle.lock_row.specs.declared.names.Pin.{Pin}
use Rattle.page_steps.specs.Compactions.{MovesOne}
use Rattle.page_steps.specs.Pools.{Adds, Drops, IsNeed, Lends, Returns}
use Rattle.page_steps.specs.Steps.{on}
use Rattle.plain_disk.specs.Calls.{after}
use Rattle.size_class.specs.Classes.{chain_of, class_size, per_of, waste}
use Rattle.slot_entry.specs.Forms.{same_list}
use Rattle.std.proofs.lemmas.Bool.{and_from, and_parts, cases_Bool, eq-eqb, eqb-true}
use Rattle.std.proofs.lemmas.List.Sums.{sum_by-cons}
use Rattle.std.proofs.lemmas.Nat.{le-div}
use Rattle.std.specs.Prelude.{Contains, nat_lt}
use Rattle.zspage.specs.Cells.{CellState, UsedCell}
use denote.RawPtr.{Ptr, block_ptr, null_ptr}
use Rattle.page_steps.specs.Pools as adds

-- one of two, by a number
abbrev pub pick : {X : Type 0} → ℕ → X → X → X
pick zero x y = y
pick (suc n) x y = x

pub same_self : (n : ℕ) → same n n ≡ 1
same_self zero = refl
same_self (suc n) = same_self n

-- it is 0, or 1 where they are equal
pub same_is : (a b : ℕ) → (same a b ≡ 0) ⊎ ((same a b ≡ 1) × (a ≡ b))
same_is zero zero = inr (refl, refl)
same_is zero (suc b) = inl refl
same_is (suc a) zero = inl refl
same_is (suc a) (suc b) = ⊎_elim inl (λ r. inr (r.0, ap suc r.1)) (same_is a b)

abbrev pub bit : Bool → ℕ
bit b = cond b 1 0

pub list_self : (xs : List ℕ) → same_list xs xs ≡ true
list_self [] = refl
list_self (x ∷ xs) = and_from (eqb x x) (same_list xs xs) (eq-eqb x x refl) (list_self xs)

module _ (f h : UsedCell → ℕ) where
  pub sum_same : ((u : UsedCell) → f u ≡ h u) → (us : List UsedCell) → sum_by f us ≡ sum_by h us
  sum_same e [] = refl
  sum_same e (u ∷ us) = let a = sum_by-cons f u us in let b = sum_by-cons h u us in let c = e u in
      let d = sum_same e us in omega arith

  pub sum_add : (k : UsedCell → ℕ) → ((u : UsedCell) → f u + h u ≡ k u) → (us : List UsedCell)
      → sum_by f us + sum_by h us ≡ sum_by k us
  sum_add k e [] = refl
  sum_add k e (u ∷ us) = let a = sum_by-cons f u us in let b = sum_by-cons h u us in let c = e u in
      let x = sum_by-cons k u us in let d = sum_add k e us in omega arith

  pub sum_le : ((u : UsedCell) → f u ≤ h u) → (us : List UsedCell) → sum_by f us ≤ sum_by h us
  sum_le e [] = omega arith
  sum_le e (u ∷ us) = let a = sum_by-cons f u us in let b = sum_by-cons h u us in let c = e u in
      let d = sum_le e us in omega arith

pub sum_zero : (f : UsedCell → ℕ) → ((u : UsedCell) → f u ≡ 0) → (us : List UsedCell)
    → sum_by f us ≡ 0
sum_zero f e [] = refl
sum_zero f e (u ∷ us) = let a = sum_by-cons f u us in let c = e u in let d = sum_zero f e us in
    omega arith

pub ones : (us : List UsedCell) (f : UsedCell → ℕ) → ((u : UsedCell) → f u ≡ 1)
    → sum_by f us ≡ length us
ones [] f e = refl
ones (u ∷ us) f e = let s = sum_by-cons f u us in let r = ones us f e in let q = e u in omega arith

pub same_lists : (xs ys : List ℕ) → same_list xs ys ≡ true → xs ≡ ys
same_lists [] [] e = refl
same_lists [] (y ∷ ys) e = absurd (cc)
same_lists (x ∷ xs) [] e = absurd (cc)
same_lists (x ∷ xs) (y ∷ ys) e =
    let h = and_parts (eqb x y) (same_list xs ys) e in
    let here = eqb-true x y h.0 in
    let rest = same_lists xs ys h.1 in λ i. here i ∷ rest i

-- ---- pins

same_ptr_self : (p : Ptr) → same_ptr p p ≡ true
same_ptr_self (block_ptr b o) = and_from (eqb b b) (eqb o o) (eq-eqb b b refl) (eq-eqb o o refl)
same_ptr_self null_ptr = refl

same_ptr_is : (p q : Ptr) → same_ptr p q ≡ true → p ≡ q
same_ptr_is (block_ptr b o) (block_ptr c p) e =
    let h = and_parts (eqb b c) (eqb o p) e in
    let x = eqb-true b c h.0 in let y = eqb-true o p h.1 in λ i. block_ptr (x i) (y i)
same_ptr_is (block_ptr b o) null_ptr e = absurd (cc)
same_ptr_is null_ptr (block_ptr c p) e = absurd (cc)
same_ptr_is null_ptr null_ptr e = refl

pub same_pin_self : (x : Pin) → same_pin x x ≡ true
same_pin_self x =
    and_from _ _ (and_from (eqb x.class x.class) (eqb x.handle x.handle)
    (eq-eqb x.class x.class refl)
    (eq-eqb x.handle x.handle refl)) (and_from (same_ptr x.chain x.chain) _ (same_ptr_self x.chain)
    (and_from (eqb x.number x.number) _ (eq-eqb x.number x.number refl)
    (and_from (eqb x.size x.size) (same_list x.bytes x.bytes) (eq-eqb x.size x.size refl)
    (list_self x.bytes))))

pub same_pin_is : (x y : Pin) → same_pin x y ≡ true → x ≡ y
same_pin_is x y e =
    let a = and_parts ((eqb x.class y.class) && (eqb x.handle y.handle)) _ e in
    let b = and_parts (eqb x.class y.class) (eqb x.handle y.handle) a.0 in
    let c = and_parts (same_ptr x.chain y.chain) _ a.1 in
    let d = and_parts (eqb x.number y.number) _ c.1 in
    let f = and_parts (eqb x.size y.size) (same_list x.bytes y.bytes) d.1 in
    let c0 = eqb-true x.class y.class b.0 in let c1 = eqb-true x.handle y.handle b.1 in
    let c2 = same_ptr_is x.chain y.chain c.0 in let c3 = eqb-true x.number y.number d.0 in
    let c4 = eqb-true x.size y.size f.0 in let c5 = same_lists x.bytes y.bytes f.1 in
    λ i. record {
      class = c0 i;
      handle = c1 i;
      chain = c2 i;
      number = c3 i;
      size = c4 i;
      bytes = c5 i;
    }

none_named : (h : ℕ) (us : List UsedCell) → ((u : UsedCell) → Contains us u → u.handle ≢ h)
    → sum_by (cell_weight (names h)) us ≡ 0
none_named h [] free = refl
none_named h (u ∷ us) free =
    let a = sum_by-cons (cell_weight (names h)) u us in
    let r = none_named h us (λ x c. free x (suc c.0, omega (arith, c.1), c.2)) in
    let here : same h u.handle ≡ 0 = ⊎_elim (λ z. z) (λ o.
    absurd (free u (0, omega arith, refl) (sym o.1))) (same_is h u.handle) in omega arith

bit_true : (b : Bool) → bit (not b) ≡ 0 → b ≡ true
bit_true true e = refl
bit_true false e = absurd (omega arith)

-- where one used cell at most has a handle, and one with the handle passes a test, each does
module _ (h : ℕ) (t : UsedCell → Bool) where
  -- 1 for those with the handle that pass, and for those that don't
  abbrev pub passing : UsedCell → ℕ
  passing u = pick (same h u.handle) (bit (t u)) 0

  abbrev pub failing : UsedCell → ℕ
  failing u = pick (same h u.handle) (bit (not (t u))) 0

  parts_add : (u : UsedCell) → passing u + failing u ≡ cell_weight (names h) u
  parts_add u = ⊎_elim (λ z. rw z refl)
      (λ o. rw o.0 (elim (cases_Bool (t u)) [ inl on ↦ rw on refl | inr off ↦ rw off refl ]))
      (same_is h u.handle)

  pub test_is : (u : UsedCell) (us : List UsedCell) → sum_by (cell_weight (names h)) us ≤ 1
      → 0 < sum_by passing us → failing u ≤ sum_by failing us → u.handle ≡ h → t u ≡ true
  test_is u us once there in_it is =
      let all = sum_add passing failing (cell_weight (names h)) parts_add us in
      let e : same h u.handle ≡ 1 = ap (same h) is ∙ same_self h in
      let z : failing u ≡ bit (not (t u)) = rw e refl in bit_true (t u) (omega arith)

-- 1 for the object of this handle with these bytes
abbrev pub exactly : ℕ → List ℕ → ℕ → List ℕ → ℕ
exactly h b g c = pick (same h g) (bit (same_list b c)) 0

-- ---- calls of a pool

-- It is a pool of the same class.
pub record Alike (p q : PoolState) : Type 0 where
  pub class : q.class ≡ p.class
  pub size : q.size ≡ p.size
  pub chain : q.chain ≡ p.chain
  pub per : q.per ≡ p.per
  pub pool : IsPool q

-- It has a new object, and so many frames more.
pub record Allocates (p q : PoolState) (h : ℕ) (bytes : List ℕ) (need : ℕ) : Type 0 where
  pub alike : Alike p q
  pub cell : CellState
  pub fresh : IsFresh p h
  pub more : HasOneMore (used_cells p.zspages) (used_cells q.zspages) (new_use h bytes cell)
  pub frames : frames_of q ≡ frames_of p + need
  pub is_need : IsNeed p need

-- It has an object less, and so many frames.
pub record GivesUp (p q : PoolState) (u : UsedCell) (n : ℕ) : Type 0 where
  pub alike : Alike p q
  pub less : HasOneMore (used_cells q.zspages) (used_cells p.zspages) u
  pub frames : frames_of q + n ≡ frames_of p
  pub few : n ≤ p.chain

-- A use is another one now, of the same object in the same cell.
pub record Swaps (p q : PoolState) (u v : UsedCell) : Type 0 where
  pub alike : Alike p q
  pub swap : (f : UsedCell → ℕ)
      → sum_by f (used_cells q.zspages) + f u ≡ sum_by f (used_cells p.zspages) + f v
  pub there : (f : UsedCell → ℕ) → f u ≤ sum_by f (used_cells p.zspages)
  pub handle : v.handle ≡ u.handle
  pub bytes : v.bytes ≡ u.bytes
  pub cell : v.cell ≡ u.cell
  pub frames : frames_of q ≡ frames_of p

-- An object is in another cell now, at home before it and after it, and so many frames are free.
pub record Shifts (p q : PoolState) (u v : UsedCell) (n : ℕ) : Type 0 where
  pub alike : Alike p q
  pub swap : (f : UsedCell → ℕ)
      → sum_by f (used_cells q.zspages) + f u ≡ sum_by f (used_cells p.zspages) + f v
  pub handle : v.handle ≡ u.handle
  pub bytes : v.bytes ≡ u.bytes
  pub home : u.out ≡ false
  pub stays : v.out ≡ false
  pub frames : frames_of q + n ≡ frames_of p
  pub few : n ≤ p.chain

alike_same : (p q : PoolState) (zs : List (Option Cells)) → q ≡ record p { zspages = zs } → IsPool q
    → Alike p q
alike_same p q zs e pool = record {
  class = ap (λ (x : PoolState). x.class) e;
  size = ap (λ (x : PoolState). x.size) e;
  chain = ap (λ (x : PoolState). x.chain) e;
  per = ap (λ (x : PoolState). x.per) e;
  pool = pool;
}

module _ (facts : Facts) (p q : PoolState) where
  pub adds_weigh : (h : ℕ) (bytes : List ℕ) (need : ℕ) → 1 ≤ p.per → Adds p q h bytes need
      → Allocates p q h bytes need
  adds_weigh h bytes need some (adds.stored id ix cells cell room is s fresh pool) =
      let r = facts.stored p q h bytes id ix cells cell s in record {
        alike = alike_same p q _ s.after pool;
        cell = cell;
        fresh = fresh;
        more = r.0;
        frames = (let e = r.1 in omega arith);
        is_need = inl (room, is);
      }
  adds_weigh h bytes need some (adds.made id cell full is s fresh pool) =
      let r = facts.made p q h bytes id cell some s in record {
        alike = alike_same p q _ s.after pool;
        cell = cell;
        fresh = fresh;
        more = r.0;
        frames = (let e = r.1 in omega arith);
        is_need = inr (full, is);
      }

  freed_alike : (id ix n : ℕ) (cells : Cells) → Frees p q id cells ix n → IsPool q → Alike p q
  freed_alike id ix n cells (inl last) pool = alike_same p q _ last.1 pool
  freed_alike id ix n cells (inr more) pool = alike_same p q _ more.1 pool

  pub drops_weigh : (h n : ℕ) (d : Drops p q h n) → GivesUp p q d.object n
  drops_weigh h n d =
      let r = facts.freed p q h d.id d.ix n d.cells d.object d.place d.freed in record {
        alike = freed_alike d.id d.ix n d.cells d.freed d.pool;
        less = r.0;
        frames = r.1;
        few = r.2;
      }

  swap_weigh : (h id ix : ℕ) (cells : Cells) (u v : UsedCell) → IsPlace p h id ix cells u
      → q ≡ with_cells p id (slice_set cells ix (Some v)) → IsPool q → v.handle ≡ u.handle
      → v.bytes ≡ u.bytes → v.cell ≡ u.cell → Swaps p q u v
  swap_weigh h id ix cells u v at after pool eh eb ec =
      let r = facts.changed p h id ix cells u v at in record {
        alike = alike_same p q _ after pool;
        swap = λ f. ap (λ (x : PoolState). sum_by f (used_cells x.zspages) + f u) after ∙ r.0 f;
        there = facts.among p h id ix cells u at;
        handle = eh;
        bytes = eb;
        cell = ec;
        frames = ap frames_of after ∙ r.1;
      }

  pub lends_weigh : (h : ℕ) (cell : CellState) (d : Lends p q h cell)
      → Swaps p q d.object (record d.object { out = true })
  lends_weigh h cell d = swap_weigh h d.id d.ix d.cells d.object (record d.object { out = true })
      d.place d.after d.pool refl refl refl

  pub returns_weigh : (h : ℕ) (d : Returns p q h) → Swaps p q d.object
      (record d.object { out = false })
  returns_weigh h d = swap_weigh h d.id d.ix d.cells d.object (record d.object { out = false })
      d.place d.after d.pool refl refl refl

  -- an object that was moved
  pub moves_weigh : (n : ℕ) (d : MovesOne p q n)
      → Shifts p q d.move.object (new_use d.move.object.handle d.move.object.bytes d.move.cell) n
  moves_weigh n d =
      let r = facts.moved p q d.move n d.moves in record {
        alike = record { class = r.4; size = r.5; chain = r.6; per = r.7; pool = d.pool };
        swap = r.0;
        handle = refl;
        bytes = refl;
        home = r.1;
        stays = refl;
        frames = r.2;
        few = r.3;
      }

-- ---- what a pool has to be

chain_some : (m k : ℕ) → 1 ≤ chain_of m k
unfolding chain_of
chain_some zero k = omega arith
chain_some (suc m) k = elim (cases_Bool (nat_lt (waste (suc m) k) (waste (chain_of m k) k))) [
  | inl on ↦ rw on (omega arith)
  | inr off ↦ rw off (chain_some m k)
]

chain_within : (m k : ℕ) → 1 ≤ m → chain_of m k ≤ m
unfolding chain_of
chain_within zero k le = absurd (omega arith)
chain_within (suc zero) k le = elim (cases_Bool (nat_lt (waste 1 k) (waste (chain_of 0 k) k))) [
  | inl on ↦ rw on (omega arith)
  | inr off ↦ rw off (omega arith)
]
chain_within (suc (suc m)) k le =
    let r = chain_within (suc m) k (omega arith) in
    elim (cases_Bool (nat_lt (waste (suc (suc m)) k) (waste (chain_of (suc m) k) k))) [
      | inl on ↦ rw on (omega arith)
      | inr off ↦ rw off (omega arith)
    ]

module _ (chain : ℕ) (p : PoolState) (f : PoolFits chain p) where
  -- a zspage has a cell
  pub some_cell : 1 ≤ p.per
  some_cell =
      let c = f.class in
      let s = chain_some chain p.class in
      let q = le-div 1 (chain_of chain p.class * 4096) (class_size p.class) (omega arith)
      (omega arith) in
      let e = f.per in omega arith

  pub chain_low : 4 ≤ chain → p.chain ≤ chain
  chain_low le = let r = chain_within chain p.class (omega arith) in let e = f.frames in omega arith

  alike_fits : (q : PoolState) → Alike p q
      → ((h : ℕ) → sum_by (cell_weight (names h)) (used_cells q.zspages) ≤ 1) → PoolFits chain q
  alike_fits q a once = record {
    class = let e = a.class in let c = f.class in omega arith;
    size = a.size ∙ f.size ∙ ap class_size (sym a.class);
    frames = a.chain ∙ f.frames ∙ ap (chain_of chain) (sym a.class);
    per = a.per ∙ f.per ∙ ap (per_of chain) (sym a.class);
    pool = a.pool;
    once = once;
  }

  pub fits_more : (q : PoolState) (h need : ℕ) (bytes : List ℕ) → Allocates p q h bytes need
      → PoolFits chain q
  fits_more q h need bytes a = alike_fits q a.alike (λ n.
      let m = a.more (cell_weight (names n)) in let o = f.once n in
      let z = none_named h (used_cells p.zspages) a.fresh in ⊎_elim
      (λ x. omega arith)
      (λ x. let e : sum_by (cell_weight (names n)) (used_cells p.zspages)
      ≡ sum_by (cell_weight (names h)) (used_cells p.zspages) =
      ap (λ (i : ℕ). sum_by (cell_weight (names i)) (used_cells p.zspages)) x.1 in
      let y = x.0 in omega arith)
      (same_is n h))

  pub fits_less : (q : PoolState) (u : UsedCell) (n : ℕ) → GivesUp p q u n → PoolFits chain q
  fits_less q u n a = alike_fits q a.alike (λ i.
      let m = a.less (cell_weight (names i)) in let o = f.once i in omega arith)

  pub fits_shift : (q : PoolState) (u v : UsedCell) (n : ℕ) → Shifts p q u v n → PoolFits chain q
  fits_shift q u v n a = alike_fits q a.alike (λ i.
      let m = a.swap (cell_weight (names i)) in let o = f.once i in
      let h : same i v.handle ≡ same i u.handle = ap (same i) a.handle in omega arith)

  pub fits_swap : (q : PoolState) (u v : UsedCell) → Swaps p q u v → PoolFits chain q
  fits_swap q u v a = alike_fits q a.alike (λ i.
      let m = a.swap (cell_weight (names i)) in let o = f.once i in
      let h : same i v.handle ≡ same i u.handle = ap (same i) a.handle in omega arith)
