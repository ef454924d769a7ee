-- How few frames the account has, and how low its counters are.
use Rattle.lock_row.specs.declared.names.Step.{Step}
use Rattle.joint_rule.proofs.Evictions.{gone_by}
use Rattle.std.proofs.Common.{◌≡◌, ◌+◌, ◌*◌, ◌≤◌, ◌∷◌, ℕ, List, [], length, Option, Some, None, ap, arith}
use Rattle.call_history.specs.declared.part.Part.{Part}
use Rattle.call_history.specs.declared.part.PartEnd.{PartEnd}
use Rattle.joint_rule.proofs.Bounds.{bounded, scaled, times_both, times_le, total_scaled}
use Rattle.joint_rule.proofs.Facts.{Known}
use Rattle.joint_rule.proofs.Gets.{count_locals, is_lower, low_at, total_low}
use Rattle.joint_rule.proofs.Lookups.{none_weight}
use Rattle.joint_rule.proofs.Pages.{ever_one}
use Rattle.joint_rule.proofs.Sums.{locals_mono, total_mono, total_split}
use Rattle.joint_rule.specs.Begins.{Begin}
use Rattle.joint_rule.specs.Joint.{Joint, Sound}
use Rattle.joint_rule.specs.Rule.{owed}
use Rattle.joint_rule.specs.Stages.{CountAt, GoneBy, IsSmall, NoneOf, StageBy, VisitCount}
use Rattle.joint_rule.specs.Weights.{Backs, Count, Huges, PackedBytes, Packs, Sames, ahead, behind, counter, counters, ever_at, measure, none, one, pages, shown}
use Rattle.lock_row.specs.Totals.{by_option, locals_sum, total}
use Rattle.lock_row.specs.declared.names.At.{At}
use Rattle.lock_row.specs.declared.names.At.TheVariants.{Giving, Owing, Ready, Visiting}
use Rattle.lock_row.specs.declared.names.Object.{Object}
use Rattle.lock_row.specs.declared.names.Pin.{Pin}
use Rattle.lock_row.specs.declared.names.State.{State}
use Rattle.mem_account.specs.Counters.{Counters, IsCounted}
use Rattle.mem_account.specs.declared.weight.Weight.{Weight}
use Rattle.page_steps.specs.Pages.{next_form}
use Rattle.page_steps.specs.Steps.{DiskHeld, Here, entry_in, spot}
use Rattle.slot_entry.specs.Entries.{EntryState, weight_of}
use Rattle.slot_entry.specs.Forms.{PageForm, form_weight}
use Rattle.slot_entry.specs.declared.kept.Kept.{Kept}
use Rattle.lock_row.specs.declared.names.Step.TheVariants as step
use Rattle.lock_row.specs.declared.names.Held.TheVariants as holds
use Rattle.mem_account.specs.declared.weight.Weight.TheVariants as weight

pub measure_small : (q : Count) (w : Weight) → IsSmall w → measure q w ≤ 4096
measure_small Sames weight.Empty s = omega arith
measure_small Sames weight.Same s = omega arith
measure_small Sames (weight.Packed n) s = omega arith
measure_small Sames weight.Huge s = omega arith
measure_small Sames weight.Back s = omega arith
measure_small Packs weight.Empty s = omega arith
measure_small Packs weight.Same s = omega arith
measure_small Packs (weight.Packed n) s = omega arith
measure_small Packs weight.Huge s = omega arith
measure_small Packs weight.Back s = omega arith
measure_small PackedBytes weight.Empty s = omega arith
measure_small PackedBytes weight.Same s = omega arith
measure_small PackedBytes (weight.Packed n) s = omega arith
measure_small PackedBytes weight.Huge s = omega arith
measure_small PackedBytes weight.Back s = omega arith
measure_small Huges weight.Empty s = omega arith
measure_small Huges weight.Same s = omega arith
measure_small Huges (weight.Packed n) s = omega arith
measure_small Huges weight.Huge s = omega arith
measure_small Huges weight.Back s = omega arith
measure_small Backs weight.Empty s = omega arith
measure_small Backs weight.Same s = omega arith
measure_small Backs (weight.Packed n) s = omega arith
measure_small Backs weight.Huge s = omega arith
measure_small Backs weight.Back s = omega arith

pub is_counted : (c : Counters) (w : Weight) → ((q : Count) → measure q w ≤ counter q c) → IsCounted c w
is_counted c weight.Empty f = tt
is_counted c weight.Same f = f Sames
is_counted c (weight.Packed n) f = (f Packs, f PackedBytes)
is_counted c weight.Huge f = f Huges
is_counted c weight.Back f = f Backs

times_same : (size : ℕ) (n : ℕ) (ls : List Here) → locals_sum (λ l. n) ls ≡ n * length ls
times_same size n [] = omega arith
times_same size n (l ∷ ls) = let r = times_same size n ls in omega arith

module _ (g : Begin) where
  ever_low : (j : ℕ) (v : DiskHeld) → Sound g j v → ever_at g j v ≤ low_at g.given.size j v
  ever_low j (holds.Slot e) s = let r = ever_one g j e.order in
      let q = is_lower g.given.size j s.page in omega arith
  ever_low j (holds.Class e) s = omega arith
  ever_low j (holds.Account e) s = omega arith
  ever_low j (holds.Blocks e) s = omega arith
  ever_low j (holds.Device e) s = omega arith

  shown_low : (q : Count) (j : ℕ) (v : DiskHeld) → Sound g j v
      → shown q j v ≤ 4096 * low_at g.given.size j v
  shown_low q j (holds.Slot e) s = let r = measure_small q (weight_of e.kept) s.small in
      let l = is_lower g.given.size j s.page in omega arith
  shown_low q j (holds.Class e) s = omega arith
  shown_low q j (holds.Account e) s = omega arith
  shown_low q j (holds.Blocks e) s = omega arith
  shown_low q j (holds.Device e) s = omega arith

  ahead_none : (q : Count) (x : Option Weight) → NoneOf x → by_option (measure q) x ≤ 4096
  ahead_none q x i = let r = none_weight q x i in omega arith

  ahead_gone : (q : Count) (x : Option Weight) (k : Kept) → GoneBy x k
      → by_option (measure q) x ≤ 4096
  ahead_gone q None k i = omega arith
  ahead_gone q (Some w) k i = measure_small q w i.1

  ahead_visit : (q : Count) (s : Step) (x y : Option Weight) (k : Kept) → VisitCount s x y k
      → by_option (measure q) x ≤ 4096
  ahead_visit q step.Backing x y k c = ahead_gone q x k (gone_by x k c.0)
  ahead_visit q step.Committing x y k c = ahead_gone q x k (gone_by x k c.0)
  ahead_visit q step.Owing x y k c = ahead_gone q x k (gone_by x k c.0)
  ahead_visit q step.Paying x y k c = ahead_gone q x k (gone_by x k c.0)
  ahead_visit q step.Putting x y k c = let r = ap (by_option (measure q)) c.ahead in
      let s = measure_small q weight.Back (omega arith) in omega arith
  ahead_visit q s x y k c = ahead_none q x c.0

  ahead_at : (q : Count) (at : At) (x y : Option Weight) (f : PageForm) (k : Kept)
      → CountAt at x y f k → by_option (measure q) x ≤ 4096
  ahead_at q Owing x y f k c = ahead_gone q x k c.0
  ahead_at q Giving x y f k c = ahead_gone q x k c.0
  ahead_at q Ready x y f k c = let r = c.ahead q in let s =
      measure_small q (form_weight f) c.small in omega arith
  ahead_at q (Visiting s z) x y f k c = ahead_visit q s x y k c
  ahead_at q at x y f k c = ahead_none q x c.0

  ahead_by : (q : Count) (ps : List Part) (e : EntryState) (at : At) (fresh : Option Object)
      (pin : Option Pin) (owed : ℕ) (x y : Option Weight) (page : Option (List ℕ))
      (fail : Option PartEnd)
      → StageBy g ps e at fresh pin owed x y page fail → by_option (measure q) x ≤ 4096
  ahead_by q [] e at fresh pin owed x y page fail s = ahead_none q x s.more
  ahead_by q (p ∷ ps) e at fresh pin owed x y page fail s =
      ahead_at q at x y (next_form p page e.kept) e.kept s.counts

module _ (g : Begin) (ok : Known g) (w : State DiskHeld) (j : Joint g w) where
  -- pages that were in the pool, and actors, are few
  reach_few : total (spot g.given.size) (ever_at g) one w ≤ g.given.size + length w.locals
  reach_few =
      let a = total_split g.given.size (ever_at g) one w in
      let b = total_mono g.given.size (Sound g) (ever_at g) (low_at g.given.size) (ever_low g) w
      (λ i v e. (j.each.in_row i v e).sound) (λ i m e. (j.each.in_local i m e).sound) in
      let c = total_low g.given.size w j.alone g.given.size in let d = count_locals w.locals in
      omega arith

  -- so are the account's frames, and its counters
  pub pages_few : total (spot g.given.size) pages none w ≤ 16 * (g.given.size + length w.locals)
  pages_few =
      let a = bounded g ok w j in let b = reach_few in
      let c = times_le g.chain _ _ b in
      let d = times_both g.chain (g.given.size + length w.locals) 16
      (g.given.size + length w.locals) ok.proper.most (omega arith) in omega arith

  pub counts_few : (q : Count) → total (spot g.given.size) (counters q) none w
      ≤ 4096 * (g.given.size + length w.locals)
  counts_few q =
      let a = total_split g.given.size (counters q) (behind q) w in
      let b = total_split g.given.size (shown q) (ahead q) w in
      let c = total_mono g.given.size (Sound g) (shown q)
      (scaled 4096 g.given.size (low_at g.given.size)) (shown_low g q) w
      (λ i v e. (j.each.in_row i v e).sound) (λ i m e. (j.each.in_local i m e).sound) in
      let d = total_scaled 4096 g.given.size (low_at g.given.size) w in
      let e = total_low g.given.size w j.alone g.given.size in
      let f = locals_mono g.given.size (ahead q) (λ m. 4096) w.locals
      (λ i m at. ahead_by g q m.todo (entry_in m.held) m.at m.fresh m.pin m.owed m.ahead
      m.behind m.page m.fail (j.each.in_local i m at).stage) in
      let h = times_same g.given.size 4096 w.locals in
      let k = j.counts q in omega arith
