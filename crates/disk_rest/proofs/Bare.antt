-- A disk of which nothing is kept yet: all statistics are none but the limit.
use Rattle.std.proofs.Common.{◌≡◌, ℕ, zero, suc, ◌+◌, ◌*◌, ◌<◌, ◌≤◌, List, [], ◌∷◌, length, map, refl, ap, ◌∙◌, arith, mul-zero}
use Rattle.std.specs.Prelude.{sum_by}
use Rattle.std.specs.List.{range_with_len, flat_map}
use Rattle.std.proofs.lemmas.List.Sums.{sum_by-cons}
use Rattle.mem_account.specs.declared.weight.Weight.{Weight}
use Rattle.mem_account.specs.Counters.{no_counts}
use Rattle.mem_account.specs.Tally.{same_of, packed_of, packed_bytes_of, huge_of, back_of}
use Rattle.size_class.specs.Classes.{chain_of}
use Rattle.plain_disk.specs.Output.{device_calls}
use Rattle.plain_disk.specs.Rests.{Rest, kept_at, kept_pages, frames_of, stats, state_line, class_line, bd_stat, states, classes, report}
use Rattle.plain_disk.specs.Legal.{IsUnused}
use Rattle.slot_entry.specs.Forms.{page_weight}
use Rattle.disk_rest.proofs.Reports.{lines_same}

-- a sum over numbers that weigh nothing
range_none : (f : ℕ → ℕ) (a n : ℕ) → ((i : ℕ) → a ≤ i → i < a + n → f i ≡ 0)
    → sum_by f (range_with_len a n) ≡ 0
range_none f a zero none = refl
range_none f a (suc n) none =
    let parts = sum_by-cons f a (range_with_len (a + 1) n) in
    let first = none a (omega arith) (omega arith) in
    let rest = range_none f (a + 1) n (λ i le lt. none i (omega arith) (omega arith)) in
    omega arith

module _ (m : Rest) (none : m.size ≡ 0) (unused : IsUnused m) where
  frames_none : frames_of m.set.chain m.used ≡ 0
  frames_none = range_none (λ k. chain_of m.set.chain k * length (m.used k)) 0 255
      (λ k le lt. ap (λ (us : List ℕ). chain_of m.set.chain k * length us)
      (unused.used k (omega arith)) ∙ mul-zero (chain_of m.set.chain k))

  -- there is no page
  sum_none : (f : Weight → ℕ) → sum_by f (kept_pages page_weight m) ≡ 0
  sum_none f = ap (λ (n : ℕ). sum_by f (map (kept_at page_weight m) (range_with_len 0 n))) none

  pub nothing_counted : stats page_weight m ≡ record no_counts { limit = m.set.limit }
  nothing_counted = λ i. record {
    pages = frames_none i;
    limit = m.set.limit;
    most = unused.most i;
    same = sum_none same_of i;
    packed = sum_none packed_of i;
    packed_bytes = sum_none packed_bytes_of i;
    huge = sum_none huge_of i;
    back = sum_none back_of i;
    huge_since = (unused.so_far i).huge;
    compacted = (unused.so_far i).compacted;
    failed_reads = (unused.so_far i).failed_reads;
    failed_writes = (unused.so_far i).failed_writes;
    invalid_io = (unused.so_far i).beyond;
    notify_free = (unused.so_far i).freed;
  }

  pub none_on_device : report page_weight m bd_stat
      ≡ device_calls (record { count = 0; reads = m.device.reads; writes = m.device.writes }) ∷ []
  none_on_device = λ i. device_calls (record {
    count = sum_none back_of i;
    reads = m.device.reads;
    writes = m.device.writes;
  }) ∷ []

  pub no_states : report page_weight m states ≡ []
  no_states =
      ap (λ (n : ℕ). flat_map
      (λ p. state_line p (kept_at page_weight m p) (m.idle p) (m.touched p))
      (range_with_len 0 n)) none

  pub no_classes : report page_weight m classes ≡ []
  no_classes = lines_same (λ k. class_line m.set.chain k (m.used k)) (λ k. []) 0 255
      (λ k le lt. ap (class_line m.set.chain k) (unused.used k (omega arith)))
