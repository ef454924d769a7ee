-- A disk without pages: nothing is printed, and nothing changes but the limit.
use Rattle.std.proofs.Common.{◌≡◌, ℕ, ◌+◌, ◌-◌, ◌^◌, ◌<◌, ◌≤◌, Bool, true, false, cond, List, [], ◌∷◌, length, Option, Some, slice_get, refl, sym, ap, ◌∙◌, subst, arith}
use Rattle.std.proofs.lemmas.Option.{slice_get_within}
use Rattle.zr_base.specs.Plain.{as_held}
use Rattle.mem_account.specs.Counters.{at_most_end}
use Rattle.backing_dev.specs.Dev.{DeviceState}
use Rattle.plain_disk.specs.Output.{OutLine}
use Rattle.plain_disk.specs.Rests.{Settings, Rest, nothing_yet, frames_of, IsUsed}
use Rattle.plain_disk.specs.Phases.{LeavesDevice, set_after, IsPhase}
use Rattle.plain_disk.specs.Legal.{IsUnused}
use Rattle.lock_row.specs.Machine.Turn.{finished, missed, taken, given}
use Rattle.lock_row.specs.declared.names.State.{State}
use Rattle.page_steps.specs.Steps.{DiskHeld, Terms}
use Rattle.slot_entry.specs.Forms.{page_weight}
use Rattle.zr_core.specs.Machines.{OneTurn, Turns, PhaseSteps, printed}

pub nothing_in : {A : Type 0} (xs : List A) → length xs ≡ 0 → xs ≡ []
nothing_in [] none = refl
nothing_in (x ∷ xs) none = absurd (omega (arith, none))

-- ---- turns

module _ (t : Terms) where
  nobody : {A : Type 0} (ls : List A) (a : ℕ) (l : A) → length ls ≡ 0 → slice_get ls a ≡ Some l → ⊥
  nobody ls a l none is =
      let lt = slice_get_within ls a l is in
      omega (arith, lt, none)

  -- without actors there is no turn
  no_turn : (a : ℕ) (w n : State DiskHeld) → length w.locals ≡ 0 → OneTurn t a w n → ⊥
  no_turn a w n none (finished l is f same) = nobody w.locals a l none is
  no_turn a w n none (missed l k is f there same) = nobody w.locals a l none is
  no_turn a w n none (taken l k v e) = nobody w.locals a l none e.who
  no_turn a w n none (given l k v m e) = nobody w.locals a l none e.who

  no_run : (turns : List ℕ) (w n : State DiskHeld) → length w.locals ≡ 0 → Turns t turns w n
      → n ≡ w
  no_run [] w n none run = run
  no_run (a ∷ turns) w n none run = absurd (no_turn a w run.0 none run.1)

-- a phase without actors on a disk without pages prints nothing
pub phase_nowhere : (t : Terms) (backed : Bool) (turns : List ℕ) (lines : List OutLine)
    (after : List (Option DiskHeld))
    → t.size ≡ 0 → PhaseSteps t backed [] [] turns lines after → (lines ≡ []) × (after ≡ [])
phase_nowhere t backed turns lines after none s =
    let same : s.last ≡ s.start =
    no_run t turns s.start s.last s.is_set_up.count s.run in (
      s.prints ∙ ap (λ (n : ℕ). printed n backed [] s.last) none,
      s.leaves ∙ ap (λ (x : State DiskHeld). x.row) same
          ∙ nothing_in s.start.row s.is_set_up.row.size,
    )

-- ---- the plain disk

not_below : (n : ℕ) → n < 0 → ⊥
not_below n lt = omega (arith, lt)

least : (n : ℕ) → n ≡ 0 → n ≤ 0
least n is = omega (arith, is)

at_least : (n : ℕ) → 0 ≤ n
at_least n = omega arith

no_less : (n : ℕ) → n ≤ n
no_less n = omega arith

least_one : 0 ≤ 1
least_one = omega arith

no_more : (n : ℕ) → n ≤ n + 0
no_more n = omega arith

at_end : (n : ℕ) → n < 2 ^ 64 → n ≡ at_most_end (n + 0)
at_end n short = omega arith

-- nothing was written to the device, so as many writes are left
set_still : (s : Settings) → s ≡ set_after s 0
set_still s = λ i. record s { budget = left s.budgeted s.budget i }
  where
    left : (on : Bool) (n : ℕ) → n ≡ cond on (n - 0) n
    left true n = omega arith
    left false n = refl

-- the device is left as it is
device_still : (d : DeviceState) → d.writes < 2 ^ 64 → LeavesDevice d d 0 0
device_still d short = record {
  same = refl;
  blocks = refl;
  honest = λ honest. honest;
  faults = no_less d.faults;
  reads = no_less d.reads;
  few = no_more d.reads;
  writes = at_end d.writes short;
}

module _ (r : Rest) (none : r.size ≡ 0) (unused : IsUnused r)
    (empty : frames_of r.set.chain r.used ≡ 0) (short : r.device.writes < 2 ^ 64) where
  -- the rest with what is known of it
  abbrev known : Rest
  known = record r { size = 0; most = 0; so_far = nothing_yet }

  is_known : known ≡ r
  is_known = λ i. record {
    size = sym none i;
    holds = r.holds;
    blank = r.blank;
    back = r.back;
    idle = r.idle;
    touched = r.touched;
    used = r.used;
    most = sym unused.most i;
    device = r.device;
    set = r.set;
    so_far = sym unused.so_far i;
  }

  used_none : (k : ℕ) → r.used k ≡ [] → IsUsed r.set.chain [] k (r.used k)
  used_none k is = subst (IsUsed r.set.chain [] k) (sym is) (record { each = tt; all = refl })

  known_phase : IsPhase page_weight known [] [] known
  known_phase = record {
    ends = [];
    orders = [];
    finds = λ p. as_held;
    held = record {
      sectors = λ p t s old ok. ok;
      honest = λ yes p t s old. refl;
      pooled = λ unwritten p at t lt there gone s old. refl;
    };
    may = tt;
    faults_differ = λ f. least_one;
    every_page = refl;
    each = λ p lt. absurd (not_below _ lt);
    lines_are = refl;
    leaves = record {
      pages = record {
        size = refl;
        holds = λ s lt. absurd (not_below _ lt);
        blank = λ p lt. absurd (not_below _ lt);
        back = λ p lt. absurd (not_below _ lt);
        idle = λ p lt. absurd (not_below _ lt);
        touched = λ p lt. absurd (not_below _ lt);
        used = λ k lt. used_none k (unused.used k lt);
        most = record {
          now = least _ empty;
          before = least 0 refl;
          within = λ rose. absurd (not_below _ rose);
          few = λ rose. absurd (not_below _ rose);
        };
      };
      so_far = refl;
      device = device_still r.device short;
      few_back = least 0 refl;
      on_device = λ blocks honest told. record {
        block = λ p. 0;
        apart = λ p q lt also there too same. absurd (not_below _ lt);
        bytes = λ p lt there. absurd (not_below _ lt);
      };
      budget = record {
        within = λ on. at_least r.set.budget;
        whole = λ cut. absurd (not_below _ cut);
      };
      set = set_still r.set;
    };
    alone = λ ops es one ends. absurd (cc);
  }

  pub phase_without : (lines : List OutLine) → lines ≡ [] → IsPhase page_weight r [] lines r
  phase_without lines is =
      subst (λ (x : Rest × List OutLine). IsPhase page_weight x.0 [] x.1 x.0)
      (λ i. (is_known i, sym is i)) known_phase
