-- What pools, accounts and forms weigh after an event.
use Rattle.std.proofs.Common.{◌≡◌, ◌+◌, ◌-◌, ◌≤◌, ◌∙◌, ℕ, Bool, true, false, cond, List, sum_by, Option, Some, None, refl, sym, ap, subst, arith}
use Rattle.class_pool.specs.Laws.{frames_of}
use Rattle.class_pool.specs.Pool.{PoolState, used_cells}
use Rattle.joint_rule.proofs.Events.{BackBy}
use Rattle.joint_rule.proofs.Pools.{Alike, Allocates, GivesUp, Shifts, Swaps, fits_swap}
use Rattle.joint_rule.specs.Joint.{PoolFits}
use Rattle.joint_rule.specs.Stages.{Bears, IsForm, NoneOf}
use Rattle.joint_rule.specs.Weights.{Backs, Count, FailedReads, FailedWrites, Fixed, Huges, Limit, OutOfRange, PackedBytes, Packs, PinWeigh, Refusal, Sames, Weigh, cell_weight, claim_by, counter, fixed_count, measure, object_weight, out_weight, pin_in, refusal_count}
use Rattle.lock_row.specs.Totals.{by_option}
use Rattle.lock_row.specs.declared.names.Object.{Object}
use Rattle.lock_row.specs.declared.names.Pin.{Pin}
use Rattle.mem_account.specs.Counters.{Counters, charged, counted, with_one, without_one}
use Rattle.mem_account.specs.declared.weight.Weight.{Weight}
use Rattle.page_steps.specs.Compactions.{repaid}
use Rattle.page_steps.specs.Givings.{fails_by, kept_by, settled, tells}
use Rattle.slot_entry.specs.Entries.{weight_of, is_wb}
use Rattle.slot_entry.specs.Forms.{Blank, PageForm, Pooled, Word, bytes_in, form_weight}
use Rattle.zr_base.specs.declared.op.Op.{Op}
use Rattle.zr_base.specs.declared.op.Op.TheVariants.{Compact, Discard, Idle, Read, Write, Writeback}
use Rattle.zspage.specs.Cells.{UsedCell}
use Rattle.mem_account.specs.declared.weight.Weight.TheVariants as weight
use Rattle.mem_account.specs.declared.weight.Delta.TheVariants as delta

-- ---- pools

module _ (p q : PoolState) where
  same_stored : Alike p q → (f : Weigh) (us : List UsedCell)
      → sum_by (cell_weight (f q.class)) us ≡ sum_by (cell_weight (f p.class)) us
  same_stored a f us = ap (λ (c : ℕ). sum_by (cell_weight (f c)) us) a.class

  same_outs : Alike p q → (f : PinWeigh) (us : List UsedCell)
      → sum_by (out_weight f q.class) us ≡ sum_by (out_weight f p.class) us
  same_outs a f us = ap (λ (c : ℕ). sum_by (out_weight f c) us) a.class

  pub more_stored : (h need : ℕ) (bytes : List ℕ) → Allocates p q h bytes need → (f : Weigh)
      → sum_by (cell_weight (f q.class)) (used_cells q.zspages)
      ≡ sum_by (cell_weight (f p.class)) (used_cells p.zspages) + f p.class h bytes
  more_stored h need bytes a f =
      same_stored a.alike f (used_cells q.zspages) ∙ a.more (cell_weight (f p.class))

  pub more_outs : (h need : ℕ) (bytes : List ℕ) → Allocates p q h bytes need → (f : PinWeigh)
      → sum_by (out_weight f q.class) (used_cells q.zspages)
      ≡ sum_by (out_weight f p.class) (used_cells p.zspages)
  more_outs h need bytes a f = same_outs a.alike f (used_cells q.zspages)
      ∙ (let r = a.more (out_weight f p.class) in omega arith)

  pub less_stored : (u : UsedCell) (n : ℕ) → GivesUp p q u n → (f : Weigh)
      → sum_by (cell_weight (f q.class)) (used_cells q.zspages) + f p.class u.handle u.bytes
      ≡ sum_by (cell_weight (f p.class)) (used_cells p.zspages)
  less_stored u n a f = let r = a.less (cell_weight (f p.class)) in
      let s = same_stored a.alike f (used_cells q.zspages) in omega arith

  pub less_outs : (u : UsedCell) (n : ℕ) → GivesUp p q u n → u.out ≡ false → (f : PinWeigh)
      → sum_by (out_weight f q.class) (used_cells q.zspages)
      ≡ sum_by (out_weight f p.class) (used_cells p.zspages)
  less_outs u n a home f = let r = a.less (out_weight f p.class) in
      let s = same_outs a.alike f (used_cells q.zspages) in
      let z : out_weight f p.class u ≡ 0 = ap (λ (b : Bool).
      cond b (f (pin_in p.class u)) 0) home in
      omega arith

  pub swap_stored : (u v : UsedCell) → Swaps p q u v → (f : Weigh)
      → sum_by (cell_weight (f q.class)) (used_cells q.zspages)
      ≡ sum_by (cell_weight (f p.class)) (used_cells p.zspages)
  swap_stored u v a f = let r = a.swap (cell_weight (f p.class)) in
      let s = same_stored a.alike f (used_cells q.zspages) in
      let e : f p.class v.handle v.bytes ≡ f p.class u.handle u.bytes =
      (λ i. f p.class (a.handle i) (a.bytes i)) in omega arith

  -- the use that was at home is out
  pub swap_out : (u v : UsedCell) → Swaps p q u v → u.out ≡ false → v.out ≡ true → (f : PinWeigh)
      → sum_by (out_weight f q.class) (used_cells q.zspages)
      ≡ sum_by (out_weight f p.class) (used_cells p.zspages) + f (pin_in p.class v)
  swap_out u v a home out f = let r = a.swap (out_weight f p.class) in
      let s = same_outs a.alike f (used_cells q.zspages) in
      let y : out_weight f p.class u ≡ 0 = ap (λ (b : Bool).
      cond b (f (pin_in p.class u)) 0) home in
      let z : out_weight f p.class v ≡ f (pin_in p.class v) =
      ap (λ (b : Bool). cond b (f (pin_in p.class v)) 0) out in omega arith

  -- the one that was out is at home
  pub swap_home : (u v : UsedCell) → Swaps p q u v → u.out ≡ true → v.out ≡ false → (f : PinWeigh)
      → sum_by (out_weight f q.class) (used_cells q.zspages) + f (pin_in p.class u)
      ≡ sum_by (out_weight f p.class) (used_cells p.zspages)
  swap_home u v a out home f = let r = a.swap (out_weight f p.class) in
      let s = same_outs a.alike f (used_cells q.zspages) in
      let y : out_weight f p.class v ≡ 0 = ap (λ (b : Bool).
      cond b (f (pin_in p.class v)) 0) home in
      let z : out_weight f p.class u ≡ f (pin_in p.class u) =
      ap (λ (b : Bool). cond b (f (pin_in p.class u)) 0) out in omega arith

  pub shift_stored : (u v : UsedCell) (n : ℕ) → Shifts p q u v n → (f : Weigh)
      → sum_by (cell_weight (f q.class)) (used_cells q.zspages)
      ≡ sum_by (cell_weight (f p.class)) (used_cells p.zspages)
  shift_stored u v n a f = let r = a.swap (cell_weight (f p.class)) in
      let s = same_stored a.alike f (used_cells q.zspages) in
      let e : f p.class v.handle v.bytes ≡ f p.class u.handle u.bytes =
      (λ i. f p.class (a.handle i) (a.bytes i)) in omega arith

  pub shift_outs : (u v : UsedCell) (n : ℕ) → Shifts p q u v n → (f : PinWeigh)
      → sum_by (out_weight f q.class) (used_cells q.zspages)
      ≡ sum_by (out_weight f p.class) (used_cells p.zspages)
  shift_outs u v n a f = let r = a.swap (out_weight f p.class) in
      let s = same_outs a.alike f (used_cells q.zspages) in
      let y : out_weight f p.class u ≡ 0 = ap (λ (b : Bool).
      cond b (f (pin_in p.class u)) 0) a.home in
      let z : out_weight f p.class v ≡ 0 = ap (λ (b : Bool).
      cond b (f (pin_in p.class v)) 0) a.stays in omega arith

-- where the cell that was pinned is back, the pool is of its class, with the same objects and
-- frames
pub record IsBack (chain : ℕ) (pin : Option Pin) (p q : PoolState) : Type 0 where
  pub fits : PoolFits chain q
  pub class : q.class ≡ p.class
  pub chain_is : q.chain ≡ p.chain
  pub frames : frames_of q ≡ frames_of p
  pub stored : (f : Weigh) → sum_by (cell_weight (f q.class)) (used_cells q.zspages)
      ≡ sum_by (cell_weight (f p.class)) (used_cells p.zspages)
  pub outs : (f : PinWeigh) → sum_by (out_weight f q.class) (used_cells q.zspages)
      + by_option f pin ≡ sum_by (out_weight f p.class) (used_cells p.zspages)

pub is_back : (chain : ℕ) (pin : Option Pin) (p q : PoolState) → PoolFits chain p → BackBy pin p q
    → ((x : Pin) → pin ≡ Some x → (u : UsedCell)
    → ((f : UsedCell → ℕ) → f u ≤ sum_by f (used_cells p.zspages)) → u.handle ≡ x.handle
    → u.out ≡ true → pin_in p.class u ≡ x)
    → IsBack chain pin p q
is_back chain None p q fits back is = subst (λ (x : PoolState). IsBack chain None p x) (sym back)
    (record {
      fits = fits;
      class = refl;
      chain_is = refl;
      frames = refl;
      stored = λ f. refl;
      outs = λ f. omega arith;
    })
is_back chain (Some x) p q fits back is =
    let u = back.0 in let v = back.1 in let s = back.2 in record {
      fits = fits_swap chain p fits q u v s;
      class = s.alike.class;
      chain_is = s.alike.chain;
      frames = s.frames;
      stored = swap_stored p q u v s;
      outs = λ f. let r = swap_home p q u v s back.4 back.5 f in
          let e : f (pin_in p.class u) ≡ f x = ap f (is x refl u s.there back.3 back.4) in
          omega arith;
    }

-- ---- counters

less_count : (q : Count) (c : Counters) (w : Weight) → measure q w ≤ counter q c
    → counter q (without_one c w) + measure q w ≡ counter q c
less_count Sames c weight.Empty le = omega arith
less_count Sames c weight.Same le = omega arith
less_count Sames c (weight.Packed n) le = omega arith
less_count Sames c weight.Huge le = omega arith
less_count Sames c weight.Back le = omega arith
less_count Packs c weight.Empty le = omega arith
less_count Packs c weight.Same le = omega arith
less_count Packs c (weight.Packed n) le = omega arith
less_count Packs c weight.Huge le = omega arith
less_count Packs c weight.Back le = omega arith
less_count PackedBytes c weight.Empty le = omega arith
less_count PackedBytes c weight.Same le = omega arith
less_count PackedBytes c (weight.Packed n) le = omega arith
less_count PackedBytes c weight.Huge le = omega arith
less_count PackedBytes c weight.Back le = omega arith
less_count Huges c weight.Empty le = omega arith
less_count Huges c weight.Same le = omega arith
less_count Huges c (weight.Packed n) le = omega arith
less_count Huges c weight.Huge le = omega arith
less_count Huges c weight.Back le = omega arith
less_count Backs c weight.Empty le = omega arith
less_count Backs c weight.Same le = omega arith
less_count Backs c (weight.Packed n) le = omega arith
less_count Backs c weight.Huge le = omega arith
less_count Backs c weight.Back le = omega arith

more_count : (q : Count) (c : Counters) (w : Weight) → counter q (with_one c w)
    ≡ counter q c + measure q w
more_count Sames c weight.Empty = omega arith
more_count Sames c weight.Same = omega arith
more_count Sames c (weight.Packed n) = omega arith
more_count Sames c weight.Huge = omega arith
more_count Sames c weight.Back = omega arith
more_count Packs c weight.Empty = omega arith
more_count Packs c weight.Same = omega arith
more_count Packs c (weight.Packed n) = omega arith
more_count Packs c weight.Huge = omega arith
more_count Packs c weight.Back = omega arith
more_count PackedBytes c weight.Empty = omega arith
more_count PackedBytes c weight.Same = omega arith
more_count PackedBytes c (weight.Packed n) = omega arith
more_count PackedBytes c weight.Huge = omega arith
more_count PackedBytes c weight.Back = omega arith
more_count Huges c weight.Empty = omega arith
more_count Huges c weight.Same = omega arith
more_count Huges c (weight.Packed n) = omega arith
more_count Huges c weight.Huge = omega arith
more_count Huges c weight.Back = omega arith
more_count Backs c weight.Empty = omega arith
more_count Backs c weight.Same = omega arith
more_count Backs c (weight.Packed n) = omega arith
more_count Backs c weight.Huge = omega arith
more_count Backs c weight.Back = omega arith

-- the counters that a change of a page's weight leaves
abbrev pub rest_of : Counters → ℕ × ℕ × ℕ × ℕ × ℕ × ℕ
rest_of c = (c.most, c.limit, c.compacted, c.failed_reads, c.failed_writes, c.invalid_io)

less_rest : (c : Counters) (w : Weight) → rest_of (without_one c w) ≡ rest_of c
less_rest c weight.Empty = refl
less_rest c weight.Same = refl
less_rest c (weight.Packed n) = refl
less_rest c weight.Huge = refl
less_rest c weight.Back = refl

more_rest : (c : Counters) (w : Weight) → rest_of (with_one c w) ≡ rest_of c
more_rest c weight.Empty = refl
more_rest c weight.Same = refl
more_rest c (weight.Packed n) = refl
more_rest c weight.Huge = refl
more_rest c weight.Back = refl

told_rest : (op : Op) (c : Counters) → rest_of (tells op c) ≡ rest_of c
told_rest (Write start count stuff) c = refl
told_rest (Read start count) c = refl
told_rest (Discard start count) c = refl
told_rest (Idle age) c = refl
told_rest (Writeback mode) c = refl
told_rest Compact c = refl

less_pages : (c : Counters) (w : Weight) → (without_one c w).pages ≡ c.pages
less_pages c weight.Empty = refl
less_pages c weight.Same = refl
less_pages c (weight.Packed n) = refl
less_pages c weight.Huge = refl
less_pages c weight.Back = refl

more_pages : (c : Counters) (w : Weight) → (with_one c w).pages ≡ c.pages
more_pages c weight.Empty = refl
more_pages c weight.Same = refl
more_pages c (weight.Packed n) = refl
more_pages c weight.Huge = refl
more_pages c weight.Back = refl

told_pages : (op : Op) (c : Counters) → (tells op c).pages ≡ c.pages
told_pages (Write start count stuff) c = refl
told_pages (Read start count) c = refl
told_pages (Discard start count) c = refl
told_pages (Idle age) c = refl
told_pages (Writeback mode) c = refl
told_pages Compact c = refl

told_count : (op : Op) (q : Count) (c : Counters) → counter q (tells op c) ≡ counter q c
told_count (Write start count stuff) q c = refl
told_count (Read start count) q c = refl
told_count (Idle age) q c = refl
told_count (Writeback mode) q c = refl
told_count Compact q c = refl
told_count (Discard start count) Sames c = refl
told_count (Discard start count) Packs c = refl
told_count (Discard start count) PackedBytes c = refl
told_count (Discard start count) Huges c = refl
told_count (Discard start count) Backs c = refl

pub same_repaid : (q : Count) (c : Counters) (n : ℕ) → counter q (repaid c n) ≡ counter q c
same_repaid Sames c n = refl
same_repaid Packs c n = refl
same_repaid PackedBytes c n = refl
same_repaid Huges c n = refl
same_repaid Backs c n = refl

pub counted_count : (n : ℕ) (old new : Weight) (c : Counters) (q : Count)
    → measure q old ≤ counter q c
    → counter q (counted (repaid c n) (delta.Kept old new)) + measure q old
    ≡ counter q c + measure q new
counted_count n old new c q le =
    let m = more_count q (without_one (repaid c n) old) new in
    let s = same_repaid q c n in
    let k = less_count q (repaid c n) old (omega arith) in omega arith

module _ (op : Op) (n : ℕ) (old new : Weight) (c : Counters) where
  pub settled_count : (q : Count) → measure q old ≤ counter q c
      → counter q (settled op n old new c) + measure q old ≡ counter q c + measure q new
  settled_count q le =
      let t = told_count op q (with_one (without_one (repaid c n) old) new) in
      let m = counted_count n old new c q le in omega arith

  pub settled_pages : (settled op n old new c).pages ≡ c.pages - n
  settled_pages = told_pages op (with_one (without_one (repaid c n) old) new)
      ∙ more_pages (without_one (repaid c n) old) new ∙ less_pages (repaid c n) old

  settled_rest : rest_of (settled op n old new c) ≡ rest_of c
  settled_rest = told_rest op (with_one (without_one (repaid c n) old) new)
      ∙ more_rest (without_one (repaid c n) old) new ∙ less_rest (repaid c n) old

  pub settled_most : (settled op n old new c).most ≡ c.most
  settled_most = ap (λ (x : ℕ × ℕ × ℕ × ℕ × ℕ × ℕ). x.0) settled_rest

  pub settled_fixed : (q : Fixed) → fixed_count q (settled op n old new c) ≡ fixed_count q c
  settled_fixed Limit = ap (λ (x : ℕ × ℕ × ℕ × ℕ × ℕ × ℕ). x.1) settled_rest

  pub settled_refusals : (q : Refusal) → refusal_count q (settled op n old new c)
      ≡ refusal_count q c
  settled_refusals FailedReads = ap (λ (x : ℕ × ℕ × ℕ × ℕ × ℕ × ℕ). x.3) settled_rest
  settled_refusals FailedWrites = ap (λ (x : ℕ × ℕ × ℕ × ℕ × ℕ × ℕ). x.4) settled_rest
  settled_refusals OutOfRange = ap (λ (x : ℕ × ℕ × ℕ × ℕ × ℕ × ℕ). x.5) settled_rest

  pub settled_compacted : (settled op n old new c).compacted ≡ c.compacted
  settled_compacted = ap (λ (x : ℕ × ℕ × ℕ × ℕ × ℕ × ℕ). x.2) settled_rest

pub failed_count : (q : Count) (c : Counters) → counter q (counted c delta.FailedWrite)
    ≡ counter q c
failed_count Sames c = refl
failed_count Packs c = refl
failed_count PackedBytes c = refl
failed_count Huges c = refl
failed_count Backs c = refl

read_failed_count : (q : Count) (c : Counters) → counter q (counted c delta.FailedRead)
    ≡ counter q c
read_failed_count Sames c = refl
read_failed_count Packs c = refl
read_failed_count PackedBytes c = refl
read_failed_count Huges c = refl
read_failed_count Backs c = refl

-- a failure of the device is counted, and nothing else
pub fails_count : (op : Op) (q : Count) (c : Counters) → counter q (fails_by op c) ≡ counter q c
fails_count (Write start count stuff) q c = failed_count q c
fails_count (Read start count) q c = read_failed_count q c
fails_count (Discard start count) q c = failed_count q c
fails_count (Idle age) q c = failed_count q c
fails_count (Writeback mode) q c = failed_count q c
fails_count Compact q c = failed_count q c

fails_rest : (op : Op) (c : Counters) → ((fails_by op c).pages ≡ c.pages)
    × ((fails_by op c).most ≡ c.most) × ((fails_by op c).limit ≡ c.limit)
fails_rest (Write start count stuff) c = (refl, refl, refl)
fails_rest (Read start count) c = (refl, refl, refl)
fails_rest (Discard start count) c = (refl, refl, refl)
fails_rest (Idle age) c = (refl, refl, refl)
fails_rest (Writeback mode) c = (refl, refl, refl)
fails_rest Compact c = (refl, refl, refl)

pub fails_pages : (op : Op) (c : Counters) → (fails_by op c).pages ≡ c.pages
fails_pages op c = (fails_rest op c).0

pub fails_most : (op : Op) (c : Counters) → (fails_by op c).most ≡ c.most
fails_most op c = (fails_rest op c).1

pub fails_fixed : (op : Op) (q : Fixed) (c : Counters)
    → fixed_count q (fails_by op c) ≡ fixed_count q c
fails_fixed op Limit c = (fails_rest op c).2

pub invalid_count : (q : Count) (c : Counters) → counter q (counted c delta.InvalidIo) ≡ counter q c
invalid_count Sames c = refl
invalid_count Packs c = refl
invalid_count PackedBytes c = refl
invalid_count Huges c = refl
invalid_count Backs c = refl

pub charged_count : (q : Count) (c : Counters) (need : ℕ) → counter q (charged c need) ≡ counter q c
charged_count Sames c need = refl
charged_count Packs c need = refl
charged_count PackedBytes c need = refl
charged_count Huges c need = refl
charged_count Backs c need = refl

-- the account once so many frames are given back, and counted as those that compactions freed
abbrev pub shrunk : ℕ → Counters → Counters
shrunk n c = counted (repaid c n) (delta.Compacted n)

pub shrunk_count : (q : Count) (c : Counters) (n : ℕ) → counter q (shrunk n c) ≡ counter q c
shrunk_count Sames c n = refl
shrunk_count Packs c n = refl
shrunk_count PackedBytes c n = refl
shrunk_count Huges c n = refl
shrunk_count Backs c n = refl

pub shrunk_fixed : (q : Fixed) (c : Counters) (n : ℕ)
    → fixed_count q (shrunk n c) ≡ fixed_count q c
shrunk_fixed Limit c n = refl

pub failed_fixed : (q : Fixed) (c : Counters) → fixed_count q (counted c delta.FailedWrite)
    ≡ fixed_count q c
failed_fixed Limit c = refl

pub invalid_fixed : (q : Fixed) (c : Counters) → fixed_count q (counted c delta.InvalidIo)
    ≡ fixed_count q c
invalid_fixed Limit c = refl

pub charged_fixed : (q : Fixed) (c : Counters) (need : ℕ)
    → fixed_count q (charged c need) ≡ fixed_count q c
charged_fixed Limit c need = refl

-- ---- forms

module _ (chain : ℕ) where
  pub put_claim : (f : Weigh) (h : PageForm) (x : Option Object) → Bears chain h x
      → claim_by f (kept_by h x) (bytes_in h) ≡ by_option (object_weight f) x
  put_claim f Blank None b = refl
  put_claim f Blank (Some o) b = absurd b
  put_claim f (Word w) None b = refl
  put_claim f (Word w) (Some o) b = absurd b
  put_claim f (Pooled y z) None b = absurd b
  put_claim f (Pooled y z) (Some o) b = ap (f o.class o.handle) (sym b.1)

  pub put_form : (h : PageForm) (x : Option Object) → Bears chain h x → IsForm chain h (kept_by h x)
  put_form Blank x b = tt
  put_form (Word w) x b = refl
  put_form (Pooled y z) None b = absurd b
  put_form (Pooled y z) (Some o) b = (b.0, refl, refl)

  pub put_weight : (q : Count) (h : PageForm) (x : Option Object) → Bears chain h x
      → measure q (weight_of (kept_by h x)) ≡ measure q (form_weight h)
  put_weight q Blank x b = refl
  put_weight q (Word w) x b = refl
  put_weight q (Pooled y z) None b = absurd b
  put_weight q (Pooled y z) (Some o) b = refl

-- the new form isn't on the device
pub put_plain : (h : PageForm) (x : Option Object) → is_wb (kept_by h x) ≡ false
put_plain Blank x = refl
put_plain (Word w) x = refl
put_plain (Pooled y z) None = refl
put_plain (Pooled y z) (Some o) = refl

pub none_fresh : (f : Weigh) (x : Option Object) → NoneOf x → by_option (object_weight f) x ≡ 0
none_fresh f None e = refl
none_fresh f (Some x) e = absurd e
