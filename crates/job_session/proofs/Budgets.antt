-- While the limit on writebacks is on, and no item sets it, the writes that are tried are taken from
-- what it has left.
use Rattle.std.proofs.Common.{◌≡◌, ℕ, zero, suc, ◌+◌, ◌-◌, Bool, true, false, ◌&&◌, List, [], ◌∷◌, map, refl, ap, ◌∙◌, arith, zero-add, sum_by}
use Rattle.std.specs.Prelude.{nat_lt, if◌then◌else◌}
use Rattle.std.specs.List.{range_with_len, flat_map}
use Rattle.std.proofs.lemmas.List.Sums.{sum_by-append}
use Rattle.zr_base.specs.declared.op.Tag.{Tag}
use Rattle.zr_base.specs.declared.op.Op.{Op}
use Rattle.zr_base.specs.declared.op.OpEnd.{OpEnd}
use Rattle.zr_base.specs.declared.op.OpEnd.TheVariants as ends
use Rattle.mem_account.specs.declared.weight.Weight.{Weight}
use Rattle.mem_account.specs.declared.weight.Weight.TheVariants.{Empty}
use Rattle.plain_disk.specs.Output.{OutLine, ended, sector, actor_lines, actors_lines, order_line, order_lines}
use Rattle.plain_disk.specs.Ends.{due_from, read_by, ops_sum, ends_sum, tried}
use Rattle.plain_disk.specs.Rests.{Settings, Rest, Report, mm_stat, io_stat, bd_stat, states, classes, report, kept_at, state_line, class_line}
use Rattle.plain_disk.specs.Phases.{Given, IsPhase, begun, due, sector_read}
use Rattle.plain_disk.specs.Legal.{Item, disk, backing, limit_to, lower_most, budget_to, budgeted_to, clock_to, asks, phase, GivesDisk, GivesBacking, ItemIsLegal, Legal}
use Rattle.job_session.specs.Budgets.{tries, line_tries, leaves_budget, leave_budget, BudgetIsSpent}

-- ---- lines

abbrev told : List OutLine → ℕ
told lines = sum_by line_tries lines

tries_are : (op : Op) (end : OpEnd) → tries end ≡ tried op end
tries_are op (ends.Written wrote lost) = refl
tries_are op (ends.Budget wrote lost) = refl
tries_are op (ends.NoBlock wrote lost) = refl
tries_are op (ends.WriteEio fault wrote lost) = refl
tries_are op _ = refl

sectors_told : (got : List (List ℕ)) → told (map sector got) ≡ 0
sectors_told [] = refl
sectors_told (bytes ∷ got) = sectors_told got

actor_told : (a k nr : ℕ) (ops : List Op) (es : List OpEnd) (bytes : ℕ → ℕ → List ℕ)
    → told (actor_lines a k es (due_from nr ops es bytes)) ≡ ops_sum tried ops es
actor_told a k nr [] [] bytes = refl
actor_told a k nr [] (end ∷ es) bytes = refl
actor_told a k nr (op ∷ ops) [] bytes = refl
actor_told a k nr (op ∷ ops) (end ∷ es) bytes =
    let line = ended (record { actor = a; op = k }) end in
    let got = map sector (read_by op end (bytes nr)) in
    let p = sum_by-append line_tries (line ∷ got)
    (actor_lines a (k + 1) es (due_from (nr + 1) ops es bytes)) in
    let first = sum_by-append line_tries (line ∷ []) got in
    let one : told (line ∷ []) ≡ tries end = zero-add (tries end) in
    let q = sectors_told (read_by op end (bytes nr)) in
    let rest = actor_told a (k + 1) (nr + 1) ops es bytes in let now = tries_are op end in
    omega arith

actors_told : (a : ℕ) (g : Given) (orders : List (List Tag)) (actors : List (List Op))
    (es : List (List OpEnd)) → told (actors_lines a es (due g orders a actors es))
    ≡ ends_sum tried actors es
actors_told a g orders [] [] = refl
actors_told a g orders [] (es ∷ others) = refl
actors_told a g orders (ops ∷ more) [] = refl
actors_told a g orders (ops ∷ more) (es ∷ others) =
    let p = sum_by-append line_tries
    (actor_lines a 0 es (due_from 0 ops es (sector_read g orders a)))
    (actors_lines (a + 1) others (due g orders (a + 1) more others)) in
    let now = actor_told a 0 0 ops es (sector_read g orders a) in
    let rest = actors_told (a + 1) g orders more others in omega arith

order_told : (p : ℕ) (order : List Tag) → told (order_line p order) ≡ 0
order_told p [] = refl
order_told p (tag ∷ tags) = refl

orders_told : (p : ℕ) (orders : List (List Tag)) → told (order_lines p orders) ≡ 0
orders_told p [] = refl
orders_told p (order ∷ orders) =
    let q = sum_by-append line_tries (order_line p order) (order_lines (p + 1) orders) in
    let now = order_told p order in let rest = orders_told (p + 1) orders in omega arith

module _ (form : List ℕ → Weight) where
  phase_told : (r : Rest) (actors : List (List Op)) (lines : List OutLine) (m : Rest)
      → (x : IsPhase form r actors lines m) → told lines ≡ ends_sum tried actors x.ends
  phase_told r actors lines m x =
      let g = begun r actors x.finds in let gots = due g x.orders 0 actors x.ends in
      let is = ap told x.lines_are in
      let q = sum_by-append line_tries (actors_lines 0 x.ends gots) (order_lines 0 x.orders) in
      let now = actors_told 0 g x.orders actors x.ends in let none = orders_told 0 x.orders in
      omega arith

  state_told : (p : ℕ) (w : Weight) (idle : Bool) (touched : ℕ)
      → told (state_line p w idle touched) ≡ 0
  state_told p Empty idle touched = refl
  state_told p _ idle touched = refl

  states_told : (r : Rest) (ps : List ℕ)
      → told (flat_map (λ p. state_line p (kept_at form r p) (r.idle p) (r.touched p)) ps) ≡ 0
  states_told r [] = refl
  states_told r (p ∷ ps) =
      let q = sum_by-append line_tries (state_line p (kept_at form r p) (r.idle p) (r.touched p))
      (flat_map (λ p. state_line p (kept_at form r p) (r.idle p) (r.touched p)) ps) in
      let now = state_told p (kept_at form r p) (r.idle p) (r.touched p) in
      let rest = states_told r ps in omega arith

  class_told : (chain k : ℕ) (used : List ℕ) → told (class_line chain k used) ≡ 0
  class_told chain k [] = refl
  class_told chain k (u ∷ us) = refl

  classes_told : (r : Rest) (ks : List ℕ)
      → told (flat_map (λ k. class_line r.set.chain k (r.used k)) ks) ≡ 0
  classes_told r [] = refl
  classes_told r (k ∷ ks) =
      let q = sum_by-append line_tries (class_line r.set.chain k (r.used k))
      (flat_map (λ k. class_line r.set.chain k (r.used k)) ks) in
      let now = class_told r.set.chain k (r.used k) in let rest = classes_told r ks in omega arith

  report_told : (r : Rest) (q : Report) → told (report form r q) ≡ 0
  report_told r mm_stat = refl
  report_told r io_stat = refl
  report_told r bd_stat = refl
  report_told r states = states_told r (range_with_len 0 r.size)
  report_told r classes = classes_told r (range_with_len 0 255)

  -- ---- items

  -- What an item does to a limit that is on.
  record Spends (r : Rest) (lines : List OutLine) (m : Rest) : Type 0 where
    on : m.set.budgeted ≡ true
    left : m.set.budget + told lines ≡ r.set.budget

  -- it leaves it where it tells nothing
  still : (r : Rest) (lines : List OutLine) (m : Rest) → r.set.budgeted ≡ true → told lines ≡ 0
      → m.set.budgeted ≡ r.set.budgeted → m.set.budget ≡ r.set.budget → Spends r lines m
  still r lines m on none same left = record { on = same ∙ on; left = omega arith }

  -- what is set is the same but for other words
  set_still : (r : Rest) (lines : List OutLine) (m n : Rest) → r.set.budgeted ≡ true
      → told lines ≡ 0 → m ≡ n → n.set.budgeted ≡ r.set.budgeted → n.set.budget ≡ r.set.budget
      → Spends r lines m
  set_still r lines m n on none is same left = still r lines m on none
      (ap (λ (m : Rest). m.set.budgeted) is ∙ same) (ap (λ (m : Rest). m.set.budget) is ∙ left)

  disk_spends : (r : Rest) (n size : ℕ) (lines : List OutLine) (m : Rest) → r.set.budgeted ≡ true
      → GivesDisk size r n lines m → Spends r lines m
  disk_spends r n zero lines m on x = still r lines m on (ap told x.0)
      (ap (λ (s : Settings). s.budgeted) x.1.set) (ap (λ (s : Settings). s.budget) x.1.set)
  disk_spends r n (suc size) lines m on x = set_still r lines m r on (ap told x.told) x.same refl refl

  backing_spends : (r : Rest) (n size : ℕ) (past : Bool) (lines : List OutLine) (m : Rest)
      → r.set.budgeted ≡ true → GivesBacking size past r n lines m → Spends r lines m
  backing_spends r n zero false lines m on x = set_still r lines m _ on (ap told x.0) x.1 refl refl
  backing_spends r n zero true lines m on x =
      set_still r lines m r on (ap told x.told) x.same refl refl
  backing_spends r n (suc size) past lines m on x =
      set_still r lines m r on (ap told x.told) x.same refl refl

  phase_spends : (r : Rest) (actors : List (List Op)) (lines : List OutLine) (m : Rest)
      → r.set.budgeted ≡ true → IsPhase form r actors lines m → Spends r lines m
  phase_spends r actors lines m on x =
      let n = ends_sum tried actors x.ends in
      let is = phase_told r actors lines m x in
      let most = x.leaves.budget.within on in
      let left : m.set.budget ≡ r.set.budget - n = ap (λ (s : Settings). s.budget) x.leaves.set
      ∙ ap (λ (b : Bool). if b then r.set.budget - n else r.set.budget) on in
      record {
        on = ap (λ (s : Settings). s.budgeted) x.leaves.set ∙ on;
        left = omega arith;
      }

  item_spends : (item : Item) (r : Rest) (lines : List OutLine) (m : Rest)
      → leaves_budget item ≡ true → r.set.budgeted ≡ true → ItemIsLegal form r item lines m
      → Spends r lines m
  item_spends (disk n) r lines m may on x = disk_spends r n r.size lines m on x
  item_spends (backing n) r lines m may on x =
      backing_spends r n r.size (nat_lt r.device.blocks n) lines m on x
  item_spends (limit_to n) r lines m may on x =
      set_still r lines m _ on (ap told x.0) x.1 refl refl
  item_spends (clock_to n) r lines m may on x =
      set_still r lines m _ on (ap told x.0) x.1 refl refl
  item_spends lower_most r lines m may on x = set_still r lines m _ on (ap told x.0) x.1 refl refl
  item_spends (asks q) r lines m may on x =
      set_still r lines m r on (ap told x.0 ∙ report_told r q) x.1 refl refl
  item_spends (phase actors) r lines m may on x = phase_spends r actors lines m on x
  item_spends (budget_to n) r lines m may on x = absurd (let q : false ≡ true = may in cc)
  item_spends (budgeted_to b) r lines m may on x = absurd (let q : false ≡ true = may in cc)

  spent_by : (r : Rest) (items : List Item) (lines : List OutLine) (last : Rest)
      → Legal form r items lines last → leave_budget items ≡ true → r.set.budgeted ≡ true
      → Spends r lines last
  spent_by r [] lines last x may on = set_still r lines last r on (ap told x.0) x.1 refl refl
  spent_by r (item ∷ items) lines last (m, first, others, x, more, is) may on =
      let own = and_both (leaves_budget item) may in
      let now = item_spends item r first m own.0 on x in
      let rest = spent_by m items others last more own.1 now.on in
      let parts = ap told is ∙ sum_by-append line_tries first others in
      let a = now.left in let b = rest.left in record { on = rest.on; left = omega arith } where
        and_both : (b : Bool) → (b && leave_budget items) ≡ true
            → (b ≡ true) × (leave_budget items ≡ true)
        and_both true e = (refl, e)
        and_both false e = absurd (let q : false ≡ true = e in cc)

pub budget_is_spent : BudgetIsSpent
budget_is_spent form r items lines last x may on =
    let s = spent_by form r items lines last x may on in (s.on, s.left)
