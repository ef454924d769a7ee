-- The events of a compaction: what a taken value is, which local an event may name, and where it leads.
use Rattle.std.proofs.Common.{◌≡◌, ℕ, zero, suc, ◌+◌, ◌≤◌, ◌⊎◌, ◌==◌, [], None, refl, sym, ap, subst, arith}
use Rattle.std.proofs.lemmas.Bool.{ne_eqb}
use Rattle.zr_base.specs.declared.op.Op.{Op}
use Rattle.zr_base.specs.Plain.{is_beyond, is_maintenance}
use Rattle.zs_plan.specs.Plan.{HasNoPlan}
use Rattle.class_pool.specs.Pool.{PoolState}
use Rattle.class_pool.specs.Rows.{rows}
use Rattle.mem_account.specs.Counters.{Counters, counted}
use Rattle.mem_account.specs.declared.weight.Delta.TheVariants as delta
use Rattle.lock_row.specs.declared.names.Held.TheVariants as holds
use Rattle.lock_row.specs.declared.names.Compaction.{Compaction}
use Rattle.page_steps.specs.Pages.{next_form}
use Rattle.page_steps.specs.Steps.{DiskHeld, with_lock, begun_at, entry_or, entry_in, lock_of, start_plan}
use Rattle.page_steps.specs.Givings.{compacts}
use Rattle.page_steps.specs.Compactions.{repaid, budget_in, with_move, with_next, moving, resting, resting_by, shrinking, MovesOne, moves, rests, shrinks}
use Rattle.page_steps.specs.Fits.{AsPool, AsAccount, StartFits}
use Rattle.page_steps.specs.Calls.{Frame}
use Rattle.page_steps.specs.declared.stage.Progress.TheVariants as progress
use Rattle.page_steps.specs.declared.stage.PieceEnd.TheVariants as ends
use Rattle.post_steps.specs.Turns.{TakesAs, GivesAs, FitsSome, after}
use Rattle.post_steps.specs.Compact.{IsWork, IsGoing, here, beginning, moved_by}
use Rattle.post_steps.specs.declared.compact.CompactStage.TheVariants as stage

-- ---- what a taken value is

pub pool_in : (P : PoolState → Type 0) {v : DiskHeld} → AsPool P v
    → (q : PoolState) × (v ≡ holds.Class q)
pool_in P {v = holds.Class q} fits = (q, refl)
pool_in P {v = v} fits = absurd fits

pub account_in : (P : Counters → Type 0) {v : DiskHeld} → AsAccount P v
    → (a : Counters) × (v ≡ holds.Account a)
account_in P {v = holds.Account a} fits = (a, refl)
account_in P {v = v} fits = absurd fits

module _ (chain : ℕ) where
  pub fits_start : (v : DiskHeld) → FitsSome (IsWork chain) (λ x. here x stage.Start) v
      → AsPool (λ q. q.chain ≤ chain) v
  fits_start v (x, w, fits) =
      subst (λ (n : ℕ). AsPool (λ q. q.chain ≤ n) v) (sym w.chain_is)
      (subst (λ (op : Op).
      StartFits x.terms op (is_maintenance op) (is_beyond x.terms.size x.part.op) v) w.op fits)

  pub fits_sweeping : (y : Compaction) (v : DiskHeld)
      → FitsSome (IsWork chain) (λ x. here x (stage.Sweeping y)) v
      → AsPool (λ q. q.chain ≤ chain) v
  fits_sweeping y v (x, w, fits) =
      subst (λ (n : ℕ). AsPool (λ q. q.chain ≤ n) v) (sym w.chain_is) fits

  pub fits_shrunk : (y : Compaction) (frames : ℕ) (v : DiskHeld)
      → FitsSome (IsWork chain) (λ x. here x (stage.Shrunk y frames)) v
      → AsAccount (λ a. frames ≤ a.pages) v
  fits_shrunk y frames v (x, w, fits) = fits

  -- ---- which local an event may name

  pub begins : TakesAs (IsWork chain) (λ x. here x stage.Start) beginning
  begins x v w =
      ap (λ (op : Op). with_lock (here x stage.Start)
      (begun_at (is_maintenance op) (is_beyond x.terms.size x.part.op) (record x.part { op = op })
      (next_form x.part None (entry_or v (entry_in [])).kept)
      (entry_or v (entry_in [])))
      (lock_of (start_plan (is_maintenance op) (is_beyond x.terms.size x.part.op)
      (record x.part { op = op }))) v) (sym w.op)

  pub can_move : (y : Compaction) (q q' : PoolState) (budget frames : ℕ)
      → budget_in y q ≡ budget + 1 → MovesOne q q' frames
      → GivesAs (IsWork chain) (λ x. here x (stage.Moving y q)) (moving budget frames)
      (holds.Class q')
  can_move y q q' budget frames some one x w =
      let more : budget_in y q ≡ suc budget = omega (arith, some) in
      compacts (moves x.part x.rest y q q' budget frames refl refl refl more one refl refl)

  pub can_rest : (y : Compaction) (q q' : PoolState)
      → (budget_in y q ≡ 0) ⊎ HasNoPlan q.per (rows q.zspages) → q' ≡ q
      → GivesAs (IsWork chain) (λ x. here x (stage.Moving y q)) (resting chain) (holds.Class q')
  can_rest y q q' none same x w =
      compacts (rests x.part x.rest y q refl refl refl none (ap (λ z. holds.Class z) same)
      (ap (λ n. resting n (here x (stage.Moving y q)) (holds.Class q')) w.chain_is))

  pub can_shrink : (y : Compaction) (frames : ℕ) (a b : Counters)
      → b ≡ counted (repaid a frames) (delta.Compacted frames)
      → GivesAs (IsWork chain) (λ x. here x (stage.Shrinking y frames a)) shrinking
      (holds.Account b)
  can_shrink y frames a b is x w =
      compacts (shrinks x.part x.rest y a refl refl refl (ap (λ c. holds.Account c) is) refl)

  -- ---- where a giving leads

  pub rested_here : (x : Frame) (y : Compaction) (q : PoolState) (v : DiskHeld)
      → (y.class ≡ 254 → ⊥)
      → resting chain (here x (stage.Moving y q)) v ≡ here x (stage.Sweeping (with_next chain y))
  rested_here x y q v other =
      ap (λ b. resting_by chain y b (here x (stage.Moving y q)) v) (ne_eqb y.class 254 other)

  pub ended_here : (x : Frame) (y : Compaction) (q : PoolState) (v : DiskHeld) → y.class ≡ 254
      → resting chain (here x (stage.Moving y q)) v
      ≡ after (here x (stage.Moving y q)) (here x stage.Over)
      (progress.Done (ends.Compacted y.moves y.frames))
  ended_here x y q v last =
      ap (λ (n : ℕ). resting_by chain y (n == 254) (here x (stage.Moving y q)) v) last

pub moved_here : (x : Frame) (y : Compaction) (q : PoolState) (budget frames : ℕ) (v : DiskHeld)
    → moving budget frames (here x (stage.Moving y q)) v
    ≡ here x (moved_by frames (with_move y budget))
moved_here x y q budget zero v = refl
moved_here x y q budget (suc frames) v = refl

pub moved_going : (frames : ℕ) (y : Compaction) → IsGoing (moved_by frames y)
moved_going zero y = tt
moved_going (suc frames) y = tt
