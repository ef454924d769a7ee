-- A job item by item: where the disk stands for a rest, each item's lines are legal.
use Rattle.std.proofs.Common.{◌≡◌, ◌⊎◌, ℕ, ◌+◌, ◌≤◌, Bool, true, false, zero, suc, List, [], ◌∷◌, length, Option, Some, None, slice_get, slice_set, unwrap_or, refl, sym, ap, ◌∙◌, subst, inl, inr, arith}
use Rattle.std.specs.Prelude.{nat_lt}
use Rattle.std.proofs.lemmas.List.{length-replicate}
use Rattle.std.proofs.lemmas.Option.{get_or_from_slice_get}
use Rattle.zr_base.specs.declared.limits.TheConstants.{MOST_PAGES, MOST_ACTORS}
use Rattle.zr_base.specs.declared.op.Op.{Op}
use Rattle.zr_base.specs.declared.op.Op.TheVariants.{Write, Read, Discard, Idle, Writeback, Compact}
use Rattle.zr_base.specs.Plain.{IsRequest}
use Rattle.mem_account.specs.Counters.{Counters, no_counts}
use Rattle.block_map.specs.declared.state.BlockState.TheVariants.{Free}
use Rattle.block_map.specs.BlockMap.{BlockMap}
use Rattle.mem_account.specs.Stat.{mm_stat_of, io_stat_of}
use Rattle.backing_dev.specs.Dev.{DeviceState}
use Rattle.plain_disk.specs.Output.{OutLine, memory, calls, device_calls}
use Rattle.plain_disk.specs.Rests.{Rest, nothing_yet, stats, report, states, classes}
use Rattle.plain_disk.specs.Phases.{IsPhase}
use Rattle.plain_disk.specs.Legal.{IsNew, first_settings, sets, lowered, GivesDisk, GivesBacking, ItemIsLegal}
use Rattle.call_history.specs.Histories.{HasSome, SomeEach, HasSomeEach}
use Rattle.lock_row.specs.declared.names.Held.TheVariants as holds
use Rattle.page_steps.specs.Steps.{DiskHeld, Terms}
use Rattle.slot_entry.specs.Forms.{page_weight}
use Rattle.joint_rule.specs.Begins.{terms}
use Rattle.joint_rule.specs.Laws.{StartHasRule, ReachedHasRule}
use Rattle.joint_rule.specs.Starts.{IsMapOf}
use Rattle.joint_rule.specs.Ends.{begin_at, device_of, rest_after, new_rest}
use Rattle.disk_rest.specs.Resting.{StandsFor}
use Rattle.disk_rest.specs.Printed.{row_report}
use Rattle.disk_rest.specs.Laws.{PrintsPhase, LeavesRest, PrintsReports, PrintsNothing, AccountTells, BeginsPhase, BeginsProper, BeginsDisk, SetsLimit, SetsBudget, SetsClock, LowersMax, MapTells}
use Rattle.zr_core.specs.declared.limits.TheConstants.{MOST_CHAIN}
use Rattle.zr_core.specs.Machines.{PhaseSteps}
use Rattle.zr_core.specs.Rests.{account_in, account_of, blocks_in, new_disk}
use Rattle.zr_core.specs.Rows.{AreNew}
use Rattle.job_text.specs.declared.job.Attr.{Attr}
use Rattle.job_text.specs.declared.job.Attr.TheVariants.{DiskPages, LimitPages, Backing, WritebackLimit, WritebackLimitEnable, Clock, LowerMax}
use Rattle.job_text.specs.declared.job.Report.{Report}
use Rattle.job_text.specs.declared.job.Report.TheVariants as reports
use Rattle.job_text.specs.declared.job.Item.{Item}
use Rattle.job_text.specs.declared.job.Item.TheVariants as items
use Rattle.job_text.specs.Jobs.{Used, with_attr, with_phase, with_op, with_ops, with_text, MaySet, KeepsTime, MayOperate, MayAct, MayFollow}
use Rattle.job_session.specs.Legal.{Legal, plain_report, plain_item}
use Rattle.job_session.specs.Stands.{IsBare, HasRow, Stands}
use Rattle.job_session.specs.Stepped.{Disk, terms_of, report_of, IsNewDisk, IsLimited, IsLowered, IsBudgeted, with_backing, SizeSteps, BackingSteps, AttrSteps, map_of, IsRunOn, Stepped}
use Rattle.job_session.proofs.Bare.{phase_nowhere, phase_without}
use Rattle.job_session.proofs.Jobs.{attr_keeps, attr_times}
use Rattle.job_session.proofs.Lawful.{no_item, sized_on, timed_on, requests_each, work_by, few_operations, none_without, disk_by, clock_by}
use Rattle.job_session.proofs.Standing.{phase_on, disk_on}

-- ---- requests

some_of : (op : Op) → IsRequest op → HasSome op
some_of (Write start count stuff) is = λ request. is.0.1
some_of (Read start count) is = λ request. is.1
some_of (Discard start count) is = λ request. is.1
some_of (Idle age) is = λ request. absurd (cc)
some_of (Writeback mode) is = λ request. absurd (cc)
some_of Compact is = λ request. absurd (cc)

some_each : (u : Used) (ops : List Op) → MayOperate u ops → SomeEach ops
some_each u [] may = tt
some_each u (op ∷ ops) may = (some_of op may.0, some_each (with_op u op) ops may.2)

has_some_each : (u : Used) (actors : List (List Op)) → MayAct u actors → HasSomeEach actors
has_some_each u [] may a ops is = absurd (no_item a ops is)
has_some_each u (mine ∷ more) may zero ops is = subst SomeEach (λ i. unwrap_or (is i) mine)
    (some_each u mine may.0)
has_some_each u (mine ∷ more) may (suc a) ops is = has_some_each
    (with_ops u mine) more may.1 a ops is

-- ---- the laws

-- the account of a disk with pages is the one in its place
account_some : (limit size : ℕ) (row : List (Option DiskHeld)) (c : Counters) → 1 ≤ size
    → slice_get row (size + 255) ≡ Some (Some (holds.Account c)) → account_of limit size row ≡ c
account_some limit zero row c some is = absurd (omega (arith, some))
account_some limit (suc n) row c some is =
    ap (account_in (record no_counts { limit = limit }))
    (get_or_from_slice_get row (suc n + 255) (Some (holds.Account c)) None is)

-- the map of a disk with pages is the one in its place
map_some : (x : BlockMap) (size : ℕ) (row : List (Option DiskHeld)) (y : BlockMap) → 1 ≤ size
    → slice_get row (size + 256) ≡ Some (Some (holds.Blocks y)) → map_of x size row ≡ y
map_some x zero row y some is = absurd (omega (arith, some))
map_some x (suc n) row y some is =
    ap blocks_in (get_or_from_slice_get row (suc n + 256) (Some (holds.Blocks y)) None is)

-- where a rest uses as many blocks and has as many writes left as another, the map of one is the map of
-- the other
map_on : (r m : Rest) (x y : BlockMap) → m.set.backing ≡ r.set.backing
    → m.set.budget ≡ r.set.budget → m.set.budgeted ≡ r.set.budgeted → y ≡ x
    → IsMapOf (begin_at r []) x → IsMapOf (begin_at m []) y
map_on r m x y backing budget budgeted same is = record {
  blocks = ap (λ (z : BlockMap). length z.states) same ∙ is.blocks ∙ sym backing;
  budget = ap (λ (z : BlockMap). z.budget) same ∙ is.budget ∙ sym budget;
  budgeted = ap (λ (z : BlockMap). z.enabled) same ∙ is.budgeted ∙ sym budgeted;
}

-- What is known of phases, of new disks, of limits, of times, of lowered maxima and of reports.
pub record Laws : Type 0 where
  pub starts : StartHasRule
  pub reached : ReachedHasRule
  pub begin : BeginsPhase
  pub proper : BeginsProper
  pub prints : PrintsPhase
  pub leaves : LeavesRest
  pub new : BeginsDisk
  pub limits : SetsLimit
  pub budgets : SetsBudget
  pub clocks : SetsClock
  pub max : LowersMax
  pub reports : PrintsReports
  pub account : AccountTells
  pub map : MapTells
  pub nothing : PrintsNothing

module _ (laws : Laws) where
  -- ---- the disk's size

  -- a new disk stands for a new rest
  new_stands : (r : Rest) (d m : Disk) (n : ℕ) → 1 ≤ n → n ≤ MOST_PAGES → Stands r d
      → IsNewDisk d n m
      → IsNew r n (new_rest n r.set r.device) × Stands (new_rest n r.set r.device) m
  new_stands r d m n some most s new =
      let row = subst (λ (x : DeviceState). AreNew (new_disk n d.limit x) (n + 258) m.row)
      (sym s.device) new.row in
      let both = disk_on laws.new r n d.limit m.row s.chain s.limit row new.account d.blocks new.map
      s.map in (
        both.0,
        record {
          size = sym new.size;
          most = omega (arith, most, new.size);
          limit = s.limit ∙ sym new.limit;
          backed = s.backed ∙ sym new.backed;
          clock = s.clock ∙ sym new.clock;
          chain = s.chain;
          device = s.device ∙ sym new.device;
          map = map_on r (new_rest n r.set r.device) d.blocks m.blocks refl refl refl new.blocks s.map;
          row = inr (record { some = omega (arith, some, new.size); stands = both.1 });
        },
      )

  -- ---- the limit

  limited_row : (r : Rest) (d m : Disk) (n : ℕ) → Stands r d → IsLimited d n m
      → IsBare r d ⊎ HasRow r d
      → IsBare (sets r (record r.set { limit = n })) m
      ⊎ HasRow (sets r (record r.set { limit = n })) m
  limited_row r d m n s is (inl bare) = inl (record {
    none = is.size ∙ bare.none;
    empty = is.none bare.none ∙ bare.empty;
    unused = record {
      used = bare.unused.used;
      most = bare.unused.most;
      so_far = bare.unused.so_far;
    };
    writes = bare.writes;
  })
  limited_row r d m n s is (inr has) =
      let c : Counters = stats page_weight r in
      let there = laws.account r d.row has.stands in
      let there_too = ap (λ (k : ℕ). slice_get d.row (k + 255)) (sym s.size) ∙ there in
      let row = is.account c there_too
      ∙ ap (λ (k : ℕ). slice_set d.row (k + 255) (Some (holds.Account (record c { limit = n }))))
      (sym s.size) in
      inr (record {
        some = omega (arith, has.some, is.size);
        stands = subst (StandsFor (sets r (record r.set { limit = n }))) (sym row)
            (laws.limits r d.row n c has.stands there);
      })

  limit_stands : (r : Rest) (d m : Disk) (n : ℕ) → Stands r d → IsLimited d n m
      → Stands (sets r (record r.set { limit = n })) m
  limit_stands r d m n s is = record {
    size = s.size ∙ sym is.size;
    most = omega (arith, s.most, is.size);
    limit = sym is.limit;
    backed = s.backed ∙ sym is.backed;
    clock = s.clock ∙ sym is.clock;
    chain = s.chain;
    device = s.device ∙ sym is.device;
    map = map_on r (sets r (record r.set { limit = n })) d.blocks m.blocks refl refl refl is.blocks
        s.map;
    row = limited_row r d m n s is s.row;
  }

  -- ---- the maximum

  lowered_row : (r : Rest) (d m : Disk) → Stands r d → IsLowered d m → IsBare r d ⊎ HasRow r d
      → IsBare (lowered r) m ⊎ HasRow (lowered r) m
  lowered_row r d m s is (inl bare) = inl (record {
    none = is.size ∙ bare.none;
    empty = is.none bare.none ∙ bare.empty;
    unused = record {
      used = bare.unused.used;
      most = ap (λ (c : Counters). c.pages) (laws.nothing r (s.size ∙ bare.none) bare.unused).0;
      so_far = bare.unused.so_far;
    };
    writes = bare.writes;
  })
  lowered_row r d m s is (inr has) =
      let c : Counters = stats page_weight r in
      let there = laws.account r d.row has.stands in
      let there_too = ap (λ (k : ℕ). slice_get d.row (k + 255)) (sym s.size) ∙ there in
      let row = is.account c there_too
      ∙ ap (λ (k : ℕ). slice_set d.row (k + 255)
      (Some (holds.Account (record c { most = c.pages })))) (sym s.size) in
      inr (record {
        some = omega (arith, has.some, is.size);
        stands = subst (StandsFor (lowered r)) (sym row) (laws.max r d.row c has.stands there);
      })

  lowered_stands : (r : Rest) (d m : Disk) → Stands r d → IsLowered d m → Stands (lowered r) m
  lowered_stands r d m s is = record {
    size = s.size ∙ sym is.size;
    most = omega (arith, s.most, is.size);
    limit = s.limit ∙ sym is.limit;
    backed = s.backed ∙ sym is.backed;
    clock = s.clock ∙ sym is.clock;
    chain = s.chain;
    device = s.device ∙ sym is.device;
    map = map_on r (lowered r) d.blocks m.blocks refl refl refl is.blocks s.map;
    row = lowered_row r d m s is s.row;
  }

  -- ---- the limit on writebacks

  budgeted_row : (r : Rest) (d m : Disk) (n : ℕ) (on : Bool) → Stands r d → IsBudgeted d n on m
      → IsBare r d ⊎ HasRow r d
      → IsBare (sets r (record r.set { budget = n; budgeted = on })) m
      ⊎ HasRow (sets r (record r.set { budget = n; budgeted = on })) m
  budgeted_row r d m n on s is (inl bare) = inl (record {
    none = is.size ∙ bare.none;
    empty = is.none bare.none ∙ bare.empty;
    unused = record {
      used = bare.unused.used;
      most = bare.unused.most;
      so_far = bare.unused.so_far;
    };
    writes = bare.writes;
  })
  budgeted_row r d m n on s is (inr has) =
      let there = laws.map r d.row has.stands in
      let x : BlockMap = there.0 in
      let there_too = ap (λ (k : ℕ). slice_get d.row (k + 256)) (sym s.size) ∙ there.1 in
      let row = is.map x there_too
      ∙ ap (λ (k : ℕ). slice_set d.row (k + 256)
      (Some (holds.Blocks (record x { budget = n; enabled = on })))) (sym s.size) in
      inr (record {
        some = omega (arith, has.some, is.size);
        stands = subst (StandsFor (sets r (record r.set { budget = n; budgeted = on }))) (sym row)
            (laws.budgets r d.row n on x has.stands there.1);
      })

  budget_stands : (r : Rest) (d m : Disk) (n : ℕ) (on : Bool) → Stands r d → IsBudgeted d n on m
      → Stands (sets r (record r.set { budget = n; budgeted = on })) m
  budget_stands r d m n on s is = record {
    size = s.size ∙ sym is.size;
    most = omega (arith, s.most, is.size);
    limit = s.limit ∙ sym is.limit;
    backed = s.backed ∙ sym is.backed;
    clock = s.clock ∙ sym is.clock;
    chain = s.chain;
    device = s.device ∙ sym is.device;
    map = record {
      blocks = ap (λ (x : BlockMap). length x.states) is.blocks ∙ s.map.blocks;
      budget = ap (λ (x : BlockMap). x.budget) is.blocks;
      budgeted = ap (λ (x : BlockMap). x.enabled) is.blocks;
    };
    row = budgeted_row r d m n on s is s.row;
  }

  -- ---- the time

  clocked_row : (r : Rest) (d : Disk) (n : ℕ) → r.set.clock ≤ n → IsBare r d ⊎ HasRow r d
      → IsBare (sets r (record r.set { clock = n })) (record d { clock = n })
      ⊎ HasRow (sets r (record r.set { clock = n })) (record d { clock = n })
  clocked_row r d n later (inl bare) = inl (record {
    none = bare.none;
    empty = bare.empty;
    unused = record {
      used = bare.unused.used;
      most = bare.unused.most;
      so_far = bare.unused.so_far;
    };
    writes = bare.writes;
  })
  clocked_row r d n later (inr has) =
      inr (record { some = has.some; stands = laws.clocks r d.row n has.stands later })

  clock_stands : (r : Rest) (d : Disk) (n : ℕ) → d.clock ≤ n → Stands r d
      → Stands (sets r (record r.set { clock = n })) (record d { clock = n })
  clock_stands r d n later s = record {
    size = s.size;
    most = s.most;
    limit = s.limit;
    backed = s.backed;
    clock = refl;
    chain = s.chain;
    device = s.device;
    map = map_on r (sets r (record r.set { clock = n })) d.blocks d.blocks refl refl refl refl s.map;
    row = clocked_row r d n (omega (arith, later, s.clock)) s.row;
  }

  -- ---- reports

  -- the account of a rest's row
  account_on : (r : Rest) (d : Disk) → r.size ≡ d.size → HasRow r d
      → account_of d.limit d.size d.row ≡ stats page_weight r
  account_on r d size has =
      account_some d.limit d.size d.row (stats page_weight r) has.some
      (ap (λ (k : ℕ). slice_get d.row (k + 255)) (sym size) ∙ laws.account r d.row has.stands)

  account_without : (r : Rest) (d : Disk) → Stands r d → IsBare r d
      → account_of d.limit d.size d.row ≡ stats page_weight r
  account_without r d s bare =
      (λ i. account_of (sym s.limit i) (bare.none i) (bare.empty i))
      ∙ sym (laws.nothing r (s.size ∙ bare.none) bare.unused).0

  -- the account and the row print what the rest does
  account_is : (r : Rest) (d : Disk) → Stands r d → IsBare r d ⊎ HasRow r d
      → account_of d.limit d.size d.row ≡ stats page_weight r
  account_is r d s (inl bare) = account_without r d s bare
  account_is r d s (inr has) = account_on r d s.size has

  states_are : (r : Rest) (d : Disk) → Stands r d → IsBare r d ⊎ HasRow r d
      → row_report d.size MOST_CHAIN d.row states ≡ report page_weight r states
  states_are r d s (inl bare) =
      ap (λ (n : ℕ). row_report n MOST_CHAIN d.row states) bare.none
      ∙ sym (laws.nothing r (s.size ∙ bare.none) bare.unused).2
  states_are r d s (inr has) =
      (λ i. row_report (sym s.size i) (sym s.chain i) d.row states)
      ∙ laws.reports r d.row states has.stands

  classes_are : (r : Rest) (d : Disk) → Stands r d → IsBare r d ⊎ HasRow r d
      → row_report d.size MOST_CHAIN d.row classes ≡ report page_weight r classes
  classes_are r d s (inl bare) =
      (λ i. row_report (bare.none i) MOST_CHAIN (bare.empty i) classes)
      ∙ sym (laws.nothing r (s.size ∙ bare.none) bare.unused).3
  classes_are r d s (inr has) =
      (λ i. row_report (sym s.size i) (sym s.chain i) d.row classes)
      ∙ laws.reports r d.row classes has.stands

  report_is : (r : Rest) (d : Disk) (q : Report) → Stands r d
      → report_of d q ≡ report page_weight r (plain_report q)
  report_is r d reports.MmStat s =
      ap (λ (c : Counters). memory (mm_stat_of c) ∷ []) (account_is r d s s.row)
  report_is r d reports.IoStat s =
      ap (λ (c : Counters). calls (io_stat_of c) ∷ []) (account_is r d s s.row)
  report_is r d reports.BdStat s = λ i. device_calls (record {
    count = (account_is r d s s.row i).back;
    reads = (sym s.device i).reads;
    writes = (sym s.device i).writes;
  }) ∷ []
  report_is r d reports.States s = states_are r d s s.row
  report_is r d reports.Classes s = classes_are r d s s.row

  -- ---- phases

  -- a phase that may run, on the disk d, which leaves the disk m
  module _ (u : Used) (actors : List (List Op)) (few : length actors ≤ MOST_ACTORS)
      (may : MayAct u actors) (d m : Disk) (run : IsRunOn d m)
      (turns : List ℕ) (lines : List OutLine)
      (steps : PhaseSteps (terms_of d) d.backed actors d.row turns lines m.row) (r : Rest)
      (s : Stands r d) where
    -- the rest after it
    abbrev After : Type 0
    After = (n : Rest) × IsPhase page_weight r actors lines n × Stands n m

    terms_are : terms_of d ≡ terms (begin_at r actors)
    terms_are = λ i. record { size = sym s.size i; chain = sym s.chain i; clock = sym s.clock i }

    -- the map of the row that it leaves
    run_map : 1 ≤ d.size → (n : Rest) → n.size ≡ r.size → StandsFor n m.row
        → IsMapOf (begin_at n []) m.blocks
    run_map some n size stands =
        let there = laws.map n m.row stands in
        let at = ap (λ (k : ℕ). slice_get m.row (k + 256)) (sym (size ∙ s.size)) ∙ there.1 in
        map_on n n there.0 m.blocks refl refl refl
        (run.blocks ∙ map_some d.blocks d.size m.row there.0 some at) there.2

    phase_stands : HasRow r d → After
    phase_stands has =
        let both = phase_on r actors d.row laws.starts laws.reached laws.begin laws.prints laws.leaves
        (laws.proper r actors d.row has.stands
        (λ a ops k op is. requests_each u actors may a ops is k op)
        (λ acts. omega (arith, s.size, has.some))
        (omega (arith, s.size, s.most, few))
        (few_operations actors (work_by u actors few may)))
        turns lines m.row has.stands (has_some_each u actors may)
        (subst (λ (x : Terms × Bool). PhaseSteps x.0 x.1 actors d.row turns lines m.row)
        (λ i. (terms_are i, sym s.backed i)) steps) in (
          rest_after r actors both.0 m.row,
          both.1,
          record {
            size = s.size ∙ sym run.size;
            most = omega (arith, s.most, run.size);
            limit = s.limit ∙ sym run.limit;
            backed = s.backed ∙ sym run.backed;
            clock = s.clock ∙ sym run.clock;
            chain = s.chain;
            device = (λ i. device_of (s.device i) (s.size i) m.row) ∙ sym run.device;
            map = run_map has.some (rest_after r actors both.0 m.row) refl both.2;
            row = inr (record { some = omega (arith, has.some, run.size); stands = both.2 });
          },
        )

    phase_bare : IsBare r d → actors ≡ [] → After
    phase_bare bare none =
        let P : List (List Op) × List (Option DiskHeld) → Type 0 =
        λ x. PhaseSteps (terms_of d) d.backed x.0 x.1 turns lines m.row in
        let over = phase_nowhere (terms_of d) d.backed turns lines m.row bare.none
        (subst P (λ i. (none i, bare.empty i)) steps) in
        let no_size = s.size ∙ bare.none in
        let empty = ap (λ (c : Counters). c.pages) (laws.nothing r no_size bare.unused).0 in (
          r,
          subst (λ (x : List (List Op)). IsPhase page_weight r x lines r) (sym none)
              (phase_without r no_size bare.unused empty bare.writes lines over.0),
          record {
            size = s.size ∙ sym run.size;
            most = omega (arith, s.most, run.size);
            limit = s.limit ∙ sym run.limit;
            backed = s.backed ∙ sym run.backed;
            clock = s.clock ∙ sym run.clock;
            chain = s.chain;
            device = s.device ∙ sym (run.device ∙ (λ i. device_of d.device (bare.none i) (over.1 i)));
            map = map_on r r d.blocks m.blocks refl refl refl
                (run.blocks ∙ ap (λ (k : ℕ). map_of d.blocks k m.row) bare.none) s.map;
            row = inl (record {
              none = run.size ∙ bare.none;
              empty = over.1;
              unused = bare.unused;
              writes = bare.writes;
            });
          },
        )

    phase_after : IsBare r d ⊎ HasRow r d → (d.size ≡ 0 → actors ≡ []) → After
    phase_after (inl bare) none = phase_bare bare (none bare.none)
    phase_after (inr has) none = phase_stands has

  -- ---- attributes

  -- the rest after an attribute
  abbrev AfterAttr : Rest → Attr → List OutLine → Disk → Type 0
  AfterAttr r attr lines m = (n : Rest)
      × ItemIsLegal page_weight r (plain_item (items.Attr attr)) lines n × Stands n m

  -- one that is refused changes nothing
  refused_stands : (r : Rest) (d m : Disk) → m ≡ d → Stands r d → Stands r m
  refused_stands r d m same s = subst (Stands r) (sym same) s

  size_stands : (size : ℕ) (r : Rest) (d m : Disk) (n : ℕ) (lines : List OutLine)
      → 1 ≤ n → n ≤ MOST_PAGES → Stands r d → SizeSteps size d n lines m
      → (x : Rest) × GivesDisk size r n lines x × Stands x m
  size_stands zero r d m n lines some most s steps =
      let new = new_stands r d m n some most s steps.1 in
      (new_rest n r.set r.device, (steps.0, new.0), new.1)
  size_stands (suc size) r d m n lines some most s steps =
      (r, record { told = steps.told; same = refl }, refused_stands r d m steps.same s)

  -- other blocks for the disk that is to come
  backed_row : (r : Rest) (d : Disk) (n : ℕ) → 0 ≡ d.size → IsBare r d ⊎ HasRow r d
      → IsBare (sets r (record r.set { backing = n })) (with_backing d n)
  backed_row r d n none (inl bare) = record {
    none = bare.none;
    empty = bare.empty;
    unused = record {
      used = bare.unused.used;
      most = bare.unused.most;
      so_far = bare.unused.so_far;
    };
    writes = bare.writes;
  }
  backed_row r d n none (inr has) = let some = has.some in absurd (omega (arith, none, some))

  backed_stands : (r : Rest) (d : Disk) (n : ℕ) → 0 ≡ d.size → Stands r d
      → Stands (sets r (record r.set { backing = n })) (with_backing d n)
  backed_stands r d n none s = record {
    size = s.size;
    most = s.most;
    limit = s.limit;
    backed = refl;
    clock = s.clock;
    chain = s.chain;
    device = s.device;
    map = record {
      blocks = length-replicate n Free;
      budget = s.map.budget;
      budgeted = s.map.budgeted;
    };
    row = inl (backed_row r d n none s.row);
  }

  backing_stands : (size : ℕ) (past : Bool) (r : Rest) (d m : Disk) (n : ℕ) (lines : List OutLine)
      → size ≡ d.size → Stands r d → BackingSteps size past d n lines m
      → (x : Rest) × GivesBacking size past r n lines x × Stands x m
  backing_stands zero false r d m n lines is s steps = (
    sets r (record r.set { backing = n }),
    (steps.0, refl),
    subst (Stands (sets r (record r.set { backing = n }))) (sym steps.1) (backed_stands r d n is s),
  )
  backing_stands zero true r d m n lines is s steps =
      (r, record { told = steps.told; same = refl }, refused_stands r d m steps.same s)
  backing_stands (suc size) past r d m n lines is s steps =
      (r, record { told = steps.told; same = refl }, refused_stands r d m steps.same s)

  attr_stands : (u : Used) (r : Rest) (d m : Disk) (attr : Attr) (lines : List OutLine)
      → u.clock ≡ d.clock → MaySet attr → KeepsTime u attr
      → Stands r d → AttrSteps d attr lines m → AfterAttr r attr lines m
  attr_stands u r d m (DiskPages n) lines timed may later s steps =
      subst (λ (k : ℕ). (x : Rest) × GivesDisk k r n lines x × Stands x m) (sym s.size)
      (size_stands d.size r d m n lines may.0 may.1 s steps)
  attr_stands u r d m (LimitPages n) lines timed may later s steps =
      (sets r (record r.set { limit = n }), (steps.0, refl), limit_stands r d m n s steps.1)
  attr_stands u r d m (Backing n) lines timed may later s steps =
      let P : ℕ × ℕ → Type 0 =
      λ k. (x : Rest) × GivesBacking k.0 (nat_lt k.1 n) r n lines x × Stands x m in
      subst P (λ i. (sym s.size i, (sym s.device i).blocks))
      (backing_stands d.size (nat_lt d.device.blocks n) r d m n lines refl s steps)
  attr_stands u r d m (WritebackLimit n) lines timed may later s steps = (
    sets r (record r.set { budget = n }),
    (steps.0, refl),
    subst (λ (on : Bool). Stands (sets r (record r.set { budget = n; budgeted = on })) m)
        s.map.budgeted (budget_stands r d m n d.blocks.enabled s steps.1),
  )
  attr_stands u r d m (WritebackLimitEnable on) lines timed may later s steps = (
    sets r (record r.set { budgeted = on }),
    (steps.0, refl),
    subst (λ (n : ℕ). Stands (sets r (record r.set { budget = n; budgeted = on })) m)
        s.map.budget (budget_stands r d m d.blocks.budget on s steps.1),
  )
  attr_stands u r d m (Clock n) lines timed may later s steps = (
    sets r (record r.set { clock = n }),
    (steps.0, refl),
    subst (Stands (sets r (record r.set { clock = n }))) (sym steps.1)
        (clock_stands r d n (omega (arith, later, timed)) s),
  )
  attr_stands u r d m LowerMax lines timed may later s steps =
      (lowered r, (steps.0, refl), lowered_stands r d m s steps.1)

  -- ---- whole jobs

  pub legal_by : (u : Used) (job : List Item) (r : Rest) (d : Disk) (turns : List (List ℕ))
      (lines : List OutLine) (last : Disk) → MayFollow u job → (d.size ≡ 0 → u.disk ≡ false)
      → u.clock ≡ d.clock → Stands r d → Stepped d job turns lines last → (m : Rest) × Legal r job lines m × Stands m last
  legal_by u [] r d turns lines last may bare timed s steps =
      (r, (steps.1, refl), subst (Stands r) (sym steps.2) s)
  legal_by u (items.Attr attr ∷ more) r d turns lines last may bare timed s steps =
      let set = attr_stands u r d steps.0 attr steps.1 timed may.0 may.1 s steps.3 in
      let keeps = attr_keeps d steps.0 attr steps.1 steps.3 in
      let times = attr_times d steps.0 attr steps.1 steps.3 in
      let rest = legal_by (with_attr u attr) more set.0 steps.0 turns steps.2 last may.2
      (sized_on u attr d.size steps.0.size keeps may.0 bare)
      (timed_on u attr d.clock steps.0.clock times timed) set.2 steps.4 in (
        rest.0,
        (set.0, steps.1, steps.2, set.1, rest.1, steps.5),
        rest.2,
      )
  legal_by u (items.Report q ∷ more) r d turns lines last may bare timed s steps =
      let rest = legal_by u more r d turns steps.0 last may bare timed s steps.1 in (
        rest.0,
        (r, report_of d q, steps.0, (report_is r d q s, refl), rest.1, steps.2),
        rest.2,
      )
  legal_by u (items.Phase text ∷ more) r d turns lines last may bare timed s steps =
      let run = may.0 in
      let after = phase_after (with_phase u) text.actors run.few_actors run.may_act d steps.0 steps.5
      steps.1 steps.3 steps.6 r s s.row
      (λ none. none_without u text.actors run.has_disk (bare none)) in
      let rest = legal_by (with_text u text.actors text.schedule) more after.0 steps.0 steps.2
      steps.4 last may.1
      (λ none. disk_by (with_phase u) text.actors ∙ bare (sym steps.5.size ∙ none))
      (clock_by (with_phase u) text.actors ∙ timed ∙ sym steps.5.clock) after.2 steps.7
      in (
        rest.0,
        (after.0, steps.3, steps.4, after.1, rest.1, steps.9),
        rest.2,
      )

-- ---- before the first item

-- the rest without a disk, over this device
abbrev pub first_rest : DeviceState → Rest
first_rest device = record {
  size = 0;
  holds = λ s. [];
  blank = λ p. true;
  back = λ p. false;
  idle = λ p. false;
  touched = λ p. 0;
  used = λ k. [];
  most = 0;
  device = device;
  set = first_settings;
  so_far = nothing_yet;
}
