-- A row that stands for a rest prints the rest's reports.
use Rattle.std.proofs.Common.{◌≡◌, ℕ, zero, suc, ◌+◌, ◌≤◌, ◌<◌, List, [], ◌∷◌, ◌++◌, Some, slice_get, refl, sym, ap, ◌∙◌, arith}
use Rattle.std.specs.List.{range_with_len, flat_map}
use Rattle.zr_base.specs.declared.op.Tag.{Tag}
use Rattle.mem_account.specs.Counters.{Counters}
use Rattle.mem_account.specs.Stat.{mm_stat_of, io_stat_of}
use Rattle.class_pool.specs.Pool.{PoolState}
use Rattle.plain_disk.specs.Output.{OutLine, memory, calls}
use Rattle.plain_disk.specs.Calls.{kept_as}
use Rattle.plain_disk.specs.Rests.{Rest, kept_at, stats, state_line, class_line, Report, mm_stat, io_stat, bd_stat, states, classes, report}
use Rattle.plain_disk.specs.Phases.{touched_by}
use Rattle.lock_row.specs.declared.names.Held.TheVariants as holds
use Rattle.slot_entry.specs.Entries.{EntryState, weight_of, is_wb}
use Rattle.page_steps.specs.Steps.{DiskHeld}
use Rattle.slot_entry.specs.Forms.{page_weight}
use Rattle.joint_rule.specs.Begins.{Begin, form_at, found_after}
use Rattle.joint_rule.specs.Joint.{PoolFits}
use Rattle.joint_rule.specs.Ends.{begin_at, value_at, used_in, account_in}
use Rattle.joint_rule.specs.Weights.{used_each}
use Rattle.disk_rest.specs.Rows.{Row, used_at}
use Rattle.disk_rest.specs.Resting.{StandsFor}
use Rattle.disk_rest.specs.Printed.{state_in, device_line, row_report}
use Rattle.disk_rest.proofs.Places.{slot_at, pool_at, account_there, value_is}
use Rattle.disk_rest.proofs.Matches.{was_at, was_slot, was_pool, was_account}
use Rattle.disk_rest.proofs.Forms.{weight_kept, form_keeps, backed_still}

-- An entry that keeps page p where the rest says, and is marked as it says.
pub record EntryTells (r : Rest) (row : Row) (p : ℕ) : Type 0 where
  pub entry : EntryState
  pub at : slice_get row p ≡ Some (Some (holds.Slot entry))
  pub back : is_wb entry.kept ≡ r.back p
  pub weight : weight_of entry.kept ≡ kept_at page_weight r p
  pub idle : entry.idle ≡ r.idle p
  pub touched : entry.touched ≡ r.touched p

-- A pool of class k with the rest's used cells.
pub record PoolTells (r : Rest) (row : Row) (k : ℕ) : Type 0 where
  pub pool : PoolState
  pub at : slice_get row (r.size + k) ≡ Some (Some (holds.Class pool))
  pub class : pool.class ≡ k
  pub fits : PoolFits r.set.chain pool
  pub used : used_each pool.zspages ≡ r.used k

pub lines_same : (f h : ℕ → List OutLine) (a n : ℕ) → ((i : ℕ) → a ≤ i → i < a + n → f i ≡ h i)
    → flat_map f (range_with_len a n) ≡ flat_map h (range_with_len a n)
lines_same f h a zero e = refl
lines_same f h a (suc n) e = λ i. e a (omega arith) (omega arith) i
    ++ lines_same f h (a + 1) n (λ s le lt. e s (omega arith) (omega arith)) i

module _ (r : Rest) (row : Row) (st : StandsFor r row) where
  abbrev g : Begin
  g = begin_at r []

  pub entry_tells : (p : ℕ) → p < r.size → EntryTells r row p
  entry_tells p lt =
      let s = slot_at g _ st.rest p lt in
      let was = was_at row p (holds.Slot s.entry) s.at in
      let e = was_slot was.value s.entry was.is in
      let back = backed_still r p s.entry.kept s.entry.order e.order s.home.backs in
      let at = was.at ∙ ap (λ (v : DiskHeld). Some (Some v)) e.is in
      record {
        entry = e.entry;
        at = at;
        back = ap is_wb (sym e.kept) ∙ back;
        weight = ap weight_of (sym e.kept)
            ∙ weight_kept r.set.chain (form_at g p s.entry.order) s.entry.kept (r.back p) _
            s.home.stands back
            (form_keeps g p s.entry.order
            ∙ ap (λ (order : List Tag). kept_as page_weight p (found_after g p order)) e.order);
        idle = st.marks p e.entry at;
        touched = sym e.touched ∙ s.home.sound.touched
            ∙ ap (λ (order : List Tag). touched_by order r.set.clock (r.touched p)) e.order;
      }

  pub pool_tells : (k : ℕ) → k < 255 → PoolTells r row k
  pool_tells k lt =
      let q = pool_at g _ st.rest k lt in
      let was = was_at row (r.size + k) (holds.Class q.pool) q.at in
      let at : slice_get row (r.size + k) ≡ Some (Some (holds.Class q.pool)) =
      was.at ∙ ap (λ (v : DiskHeld). Some (Some v)) (was_pool was.value q.pool was.is) in
      record {
        pool = q.pool;
        at = at;
        class = q.class;
        fits = q.fits;
        used = sym (ap used_in (value_is row (r.size + k) (holds.Class q.pool) at)) ∙ st.used k lt;
      }

  pub account_tells : slice_get row (r.size + 255)
      ≡ Some (Some (holds.Account (stats page_weight r)))
  account_tells =
      let a = account_there g _ st.rest in
      let was = was_at row (r.size + 255) (holds.Account a.counters) a.at in
      let at : slice_get row (r.size + 255) ≡ Some (Some (holds.Account a.counters)) =
      was.at ∙ ap (λ (v : DiskHeld). Some (Some v)) (was_account was.value a.counters was.is) in
      at ∙ ap (λ (c : Counters). Some (Some (holds.Account c)))
      (sym (ap account_in (value_is row (r.size + 255) (holds.Account a.counters) at))
      ∙ st.account)

  state_same : (p : ℕ) → p < r.size
      → state_in p (value_at row p)
      ≡ state_line p (kept_at page_weight r p) (r.idle p) (r.touched p)
  state_same p lt = let e = entry_tells p lt in
      ap (state_in p) (value_is row p (holds.Slot e.entry) e.at)
      ∙ (λ i. state_line p (e.weight i) (e.idle i) (e.touched i))

  pub prints : (q : Report) → row_report r.size r.set.chain row q ≡ report page_weight r q
  prints mm_stat = ap (λ (c : Counters). memory (mm_stat_of c) ∷ []) st.account
  prints io_stat = ap (λ (c : Counters). calls (io_stat_of c) ∷ []) st.account
  prints bd_stat = λ i. device_line ((st.account i).back)
      (value_is row (r.size + 257) (holds.Device r.device) st.device i)
  prints states = lines_same (λ p. state_in p (value_at row p))
      (λ p. state_line p (kept_at page_weight r p) (r.idle p) (r.touched p)) 0 r.size
      (λ p le lt. state_same p (omega arith))
  prints classes = lines_same (λ k. class_line r.set.chain k (used_at r.size row k))
      (λ k. class_line r.set.chain k (r.used k)) 0 255
      (λ k le lt. ap (class_line r.set.chain k) (st.used k (omega arith)))
