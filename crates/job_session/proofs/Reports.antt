-- The lines of reports: a page's by its entry, a class's by its pool.
use Rattle.std.proofs.Common.{◌≡◌, ◌⊎◌, ℕ, zero, suc, ◌+◌, ◌<◌, ◌≤◌, Bool, true, false, cond, List, [], ◌∷◌, length, get_or, Option, Some, None, slice_get, codes, refl, sym, ap, ◌∙◌, subst, inl, inr, arith}
use Rattle.std.specs.Prelude.{nat_lt, sum}
use Rattle.std.specs.Option.{option_map}
use Rattle.std.proofs.lemmas.Bool.Decides.{nat_tests}
use Rattle.std.proofs.lemmas.Option.{get_or_from_slice_get, slice_get-map}
use Rattle.mem_account.specs.declared.weight.Weight.TheVariants as weights
use Rattle.size_class.specs.declared.stat.ClassStat.{ClassStat}
use Rattle.size_class.specs.Classes.{class_size, chain_of, per_of}
use Rattle.class_pool.specs.Pool.{PoolState}
use Rattle.plain_disk.specs.Output.{OutLine, StateLine, state, class_of}
use Rattle.plain_disk.specs.Rests.{state_line, class_line}
use Rattle.lock_row.specs.declared.names.Held.TheVariants as holds
use Rattle.slot_entry.specs.declared.kept.Kept.{Kept}
use Rattle.slot_entry.specs.declared.kept.Kept.TheVariants as kept
use Rattle.slot_entry.specs.Entries.{EntryState, weight_of}
use Rattle.slot_entry.specs.Entries.{letters_of as entry_letters}
use Rattle.page_steps.specs.Steps.{DiskHeld}
use Rattle.joint_rule.specs.Begins.{Begin}
use Rattle.joint_rule.specs.Joint.{PoolFits}
use Rattle.joint_rule.specs.Ends.{value_at, used_in}
use Rattle.joint_rule.specs.Weights.{used_each}
use Rattle.disk_rest.specs.Rows.{used_at}
use Rattle.disk_rest.specs.Printed.{state_in}
use Rattle.disk_rest.specs.Laws.{CountsTell}
use Rattle.zr_core.specs.declared.limits.TheConstants.{MOST_CHAIN}
use Rattle.zr_core.specs.Machines.{cell_without_calls}
use Rattle.zr_core.specs.Rests.{pool_in, pool_of, IsBare, RestsAs}
use Rattle.zr_core.specs.Stats.{zspages_of, HasStat}
use Rattle.job_print.specs.Texts.{letters_of, in_group, IsStateOf, IsSummary}
use Rattle.job_session.proofs.Bare.{nothing_in}
use Rattle.job_session.proofs.Lines.{state_line_is}

-- ---- pages

-- the lines of a page
abbrev pub state_lines : List (Option DiskHeld) → ℕ → List OutLine
state_lines row page = state_in page (value_at row page)

-- a page whose entry is empty has no line
pub state_none : (row : List (Option DiskHeld)) (page : ℕ) (e : EntryState)
    → slice_get row page ≡ Some (Some (holds.Slot e)) → e.kept ≡ kept.Empty
    → state_in page (value_at row page) ≡ []
state_none row page e there none =
    ap (state_in page) (get_or_from_slice_get row page (Some (holds.Slot e)) None there)
    ∙ ap (λ (k : Kept). state_line page (weight_of k) e.idle e.touched) none

-- a page that is kept has a weight
weighs : (k : Kept) → (k ≡ kept.Empty → ⊥) → weight_of k ≡ weights.Empty → ⊥
weighs kept.Empty some none = some refl
weighs (kept.Same w) some none = cc
weighs (kept.Obj o) some none = by o.huge none
  where
    by : (huge : Bool) → cond huge weights.Huge (weights.Packed o.len) ≡ weights.Empty → ⊥
    by true none = cc
    by false none = cc
weighs (kept.Wb b) some none = cc

-- the letters of an entry are those of its page's line
letters_are : (k : Kept) (idle : Bool) → letters_of (weight_of k) idle ≡ entry_letters k idle
letters_are kept.Empty idle = refl
letters_are (kept.Same w) idle = refl
letters_are (kept.Obj o) idle = by o.huge
  where
    by : (huge : Bool) → letters_of (cond huge weights.Huge (weights.Packed o.len)) idle
        ≡ cond huge (cond idle (codes "..hi") (codes "..h.")) (cond idle (codes "...i") (codes "...."))
    by true = refl
    by false = refl
letters_are (kept.Wb b) idle = refl

-- the line of a page by its entry
abbrev pub line_of_entry : ℕ → EntryState → StateLine
line_of_entry page e =
    record { page = page; kept = weight_of e.kept; idle = e.idle; touched = e.touched }

pub state_some : (row : List (Option DiskHeld)) (page : ℕ) (e : EntryState)
    → slice_get row page ≡ Some (Some (holds.Slot e)) → (e.kept ≡ kept.Empty → ⊥)
    → state (line_of_entry page e) ∷ [] ≡ state_in page (value_at row page)
state_some row page e there some =
    sym (state_line_is page (weight_of e.kept) e.idle e.touched (weighs e.kept some))
    ∙ ap (state_in page) (sym (get_or_from_slice_get row page (Some (holds.Slot e)) None there))

pub state_of_entry : (page : ℕ) (e : EntryState) (letters : List ℕ) (touched : ℕ)
    → letters ≡ entry_letters e.kept e.idle → touched ≡ e.touched
    → IsStateOf (line_of_entry page e) page letters touched
state_of_entry page e letters touched told at =
    record { page = refl; letters = letters_are e.kept e.idle ∙ sym told; touched = sym at }

-- ---- classes

-- the lines of a class
abbrev pub class_lines : ℕ → List (Option DiskHeld) → ℕ → List OutLine
class_lines pages row k = class_line MOST_CHAIN k (used_at pages row k)

-- the pool in a place of the row is the value there
pool_value : (x : Option DiskHeld) (p : PoolState) → pool_in x ≡ Some p → x ≡ Some (holds.Class p)
pool_value None p is = absurd (let no : ⊥ = cc is in no)
pool_value (Some (holds.Slot e)) p is = absurd (let no : ⊥ = cc is in no)
pool_value (Some (holds.Class q)) p is =
    let same : q ≡ p = cc is in ap (λ (y : PoolState). Some (holds.Class y)) same
pool_value (Some (holds.Account c)) p is = absurd (let no : ⊥ = cc is in no)
pool_value (Some (holds.Blocks y)) p is = absurd (let no : ⊥ = cc is in no)
pool_value (Some (holds.Device y)) p is = absurd (let no : ⊥ = cc is in no)

there_of : (row : List (Option DiskHeld)) (k : ℕ) (v : DiskHeld) → get_or row k None ≡ Some v
    → slice_get row k ≡ Some (Some v)
there_of [] k v is = absurd (let no : ⊥ = cc is in no)
there_of (x ∷ row) zero v is = ap (λ (y : Option DiskHeld). Some y) is
there_of (x ∷ row) (suc k) v is = there_of row k v is

-- a disk without pages has no row
place_there : (pages : ℕ) (row : List (Option DiskHeld))
    → IsBare pages row ⊎ ((g : Begin) × RestsAs g pages row) → (1 ≤ pages) ⊎ (row ≡ [])
place_there pages row (inl bare) = inr bare.1
place_there pages row (inr there) = inl there.1.some

-- the value of a class's place
class_place : (pages : ℕ) (row : List (Option DiskHeld)) (k : ℕ) → k < 255
    → (1 ≤ pages) ⊎ (row ≡ []) → pool_of pages row k ≡ pool_in (get_or row (pages + k) None)
class_place zero row k lt (inl some) = absurd (omega (arith, some))
class_place zero row k lt (inr none) =
    ap (λ (xs : List (Option DiskHeld)). pool_in (get_or xs (0 + k) None)) (sym none)
class_place (suc n) row k lt there =
    let test : nat_lt k 255 ≡ true = grind (arith, nat_tests, lt) in
    ap (λ (b : Bool). cond b (pool_in (get_or row (suc n + k) None)) None) test

pool_used : (x : Option DiskHeld) → CountsTell → zspages_of (pool_in x) ≡ 0 → used_in x ≡ []
pool_used None counts none = refl
pool_used (Some (holds.Slot e)) counts none = refl
pool_used (Some (holds.Class p)) counts none =
    nothing_in (used_each p.zspages) ((counts p).1 ∙ none)
pool_used (Some (holds.Account c)) counts none = refl
pool_used (Some (holds.Blocks y)) counts none = refl
pool_used (Some (holds.Device y)) counts none = refl

-- a class without zspages has no line
pub class_without : (pages : ℕ) (row : List (Option DiskHeld)) (k : ℕ) → k < 255 → CountsTell
    → IsBare pages row ⊎ ((g : Begin) × RestsAs g pages row)
    → zspages_of (pool_of pages row k) ≡ 0 → class_line MOST_CHAIN k (used_at pages row k) ≡ []
class_without pages row k lt counts rest none =
    ap (class_line MOST_CHAIN k)
    (pool_used (value_at row (pages + k)) counts
    (ap zspages_of (sym (class_place pages row k lt (place_there pages row rest))) ∙ none))

line_by : (chain k : ℕ) (used : List ℕ) → 1 ≤ length used
    → class_of (record { class = k; chain = chain; used = used }) ∷ [] ≡ class_line chain k used
line_by chain k [] some = absurd (omega (arith, some))
line_by chain k (u ∷ us) some = refl

-- a class with its pool, on a disk that rests
module _ (pages : ℕ) (row : List (Option DiskHeld)) (k : ℕ) (lt : k < 255) (s : ClassStat)
    (has : HasStat (pool_of pages row k) s) (counts : CountsTell)
    (rest : IsBare pages row ⊎ ((g : Begin) × RestsAs g pages row)) where
  value : value_at row (pages + k) ≡ Some (holds.Class has.pool)
  value = pool_value (value_at row (pages + k)) has.pool
      (sym (class_place pages row k lt (place_there pages row rest)) ∙ has.there)

  used_is : used_at pages row k ≡ used_each has.pool.zspages
  used_is = ap used_in value

  pub class_with : class_of (record { class = k; chain = MOST_CHAIN; used = used_at pages row k }) ∷ []
      ≡ class_line MOST_CHAIN k (used_at pages row k)
  class_with =
      let long = ap length used_is ∙ (counts has.pool).1 ∙ sym has.stat.zspages in
      line_by MOST_CHAIN k (used_at pages row k) (omega (arith, long, has.some))

  -- a pool at home is one of its class
  fits : (g : Begin) → RestsAs g pages row → (has.pool.class ≡ k) × PoolFits MOST_CHAIN has.pool
  fits g at_rest =
      let there = slice_get-map cell_without_calls row (pages + k)
      ∙ ap (option_map cell_without_calls)
      (there_of row (pages + k) (holds.Class has.pool) value) in
      let home = at_rest.row.home (pages + k) (holds.Class has.pool) there in
      let place = home.sound.0 in (
        omega (arith, place, at_rest.size),
        subst (λ (n : ℕ). PoolFits n has.pool) at_rest.chain home.sound.1,
      )

  rests : IsBare pages row ⊎ ((g : Begin) × RestsAs g pages row)
      → (has.pool.class ≡ k) × PoolFits MOST_CHAIN has.pool
  rests (inl bare) =
      let none : ◌≡◌ {A = Option DiskHeld} None (Some (holds.Class has.pool)) =
      ap (λ (xs : List (Option DiskHeld)). get_or xs (pages + k) None) (sym bare.1) ∙ value in
      absurd (let no : ⊥ = cc none in no)
  rests (inr there) = fits there.0 there.1

  pub summary : IsSummary
      (record { class = k; chain = MOST_CHAIN; used = used_at pages row k }) s
  summary =
      let of = rests rest in
      let per : has.pool.per ≡ per_of MOST_CHAIN k = of.1.per ∙ ap (per_of MOST_CHAIN) of.0 in
      let told = counts has.pool in
      record {
        class = has.stat.class ∙ of.0;
        size = has.stat.size ∙ of.1.size ∙ ap class_size of.0;
        chain = has.stat.chain ∙ of.1.frames ∙ ap (chain_of MOST_CHAIN) of.0;
        per = has.stat.per ∙ per;
        used = has.stat.used ∙ sym told.0 ∙ ap sum (sym used_is);
        zspages = has.stat.zspages ∙ sym told.1 ∙ ap length (sym used_is);
        all = has.stat.groups.0;
        groups = λ g below. has.stat.groups.1 g below ∙ sym (told.2 (g + 1))
            ∙ (λ i. in_group (per i) (sym used_is i) (g + 1));
      }
