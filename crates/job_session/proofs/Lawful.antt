-- What a lawful job asks of its phases.
use Rattle.std.proofs.Common.{◌≡◌, ◌⊎◌, ℕ, false, zero, suc, ◌+◌, ◌<◌, ◌≤◌, ◌^◌, List, [], ◌∷◌, ◌++◌, length, Some, slice_get, unwrap_or, refl, sym, ap, ◌∙◌, subst, inl, inr, arith}
use Rattle.std.specs.List.{sum_by}
use Rattle.std.proofs.lemmas.Bool.{true≢false}
use Rattle.std.proofs.lemmas.Bool.Decides.{nat_tests}
use Rattle.std.proofs.lemmas.List.Sums.{sum_by-cons}
use Rattle.std.proofs.lemmas.Option.{slice_get_within}
use Rattle.zr_base.specs.declared.op.Op.{Op}
use Rattle.zr_base.specs.declared.op.Turns.{Turns}
use Rattle.zr_base.specs.Plain.{IsRequest}
use Rattle.zr_base.specs.declared.limits.TheConstants.{MOST_ACTORS, MOST_OPERATIONS}
use Rattle.actor_steps.specs.Places.{AreRequests, IsWork, operations}
use Rattle.job_text.specs.declared.job.Attr.{Attr}
use Rattle.job_text.specs.declared.job.Attr.TheVariants.{DiskPages, LimitPages, Backing, WritebackLimit, WritebackLimitEnable, Clock, LowerMax}
use Rattle.job_text.specs.declared.job.Item.{Item}
use Rattle.job_text.specs.declared.job.Item.TheVariants as items
use Rattle.job_text.specs.Jobs.{Used, with_attr, with_phase, with_op, with_ops, with_actors, with_text, HasDisk, MaySet, MayOperate, MayAct, MayTurn, MayFollow}
use Rattle.job_session.specs.Telling.{MayStand}

pub no_item : {A : Type 0} (k : ℕ) (x : A) → slice_get [] k ≡ Some x → ⊥
no_item k x is = let lt : k < 0 = slice_get_within [] k x is in omega arith

-- ---- operations

requests : (u : Used) (ops : List Op) → MayOperate u ops → AreRequests ops
requests u [] may k op is = absurd (no_item k op is)
requests u (o ∷ ops) may zero op is = subst IsRequest (λ i. unwrap_or (is i) o) may.0
requests u (o ∷ ops) may (suc k) op is = requests (with_op u o) ops may.2 k op is

-- the operations are counted, and give no disk
counted : (u : Used) (ops : List Op) → (with_ops u ops).operations ≡ u.operations + length ops
counted u [] = omega arith
counted u (op ∷ ops) = let rest = counted (with_op u op) ops in omega arith

disk_by_ops : (u : Used) (ops : List Op) → (with_ops u ops).disk ≡ u.disk
disk_by_ops u [] = refl
disk_by_ops u (op ∷ ops) = disk_by_ops (with_op u op) ops

-- there are none, or the limit leaves room for the last of them
few : (u : Used) (ops : List Op) → MayOperate u ops → (length ops ≡ 0)
    ⊎ (u.operations + length ops ≤ MOST_OPERATIONS)
few u [] may = inl refl
few u (op ∷ ops) may = inr (by (few (with_op u op) ops may.2))
  where
    by : (length ops ≡ 0) ⊎ (u.operations + 1 + length ops ≤ MOST_OPERATIONS)
        → u.operations + suc (length ops) ≤ MOST_OPERATIONS
    by (inl none) = grind (arith, nat_tests, may.1, none)
    by (inr fits) = omega (arith, fits)

-- ---- the actors of a phase

pub requests_each : (u : Used) (actors : List (List Op)) → MayAct u actors → (a : ℕ) (ops : List Op)
    → slice_get actors a ≡ Some ops → AreRequests ops
requests_each u [] may a ops is = absurd (no_item a ops is)
requests_each u (mine ∷ more) may zero ops is = subst AreRequests (λ i. unwrap_or (is i) mine)
    (requests u mine may.0)
requests_each u (mine ∷ more) may (suc a) ops is = requests_each
    (with_ops u mine) more may.1 a ops is

few_all : (u : Used) (actors : List (List Op)) → MayAct u actors
    → (operations actors ≡ 0) ⊎ (u.operations + operations actors ≤ MOST_OPERATIONS)
few_all u [] may = inl refl
few_all u (ops ∷ more) may = by (few u ops may.0) (few_all (with_ops u ops) more may.1)
  where
    by : (length ops ≡ 0) ⊎ (u.operations + length ops ≤ MOST_OPERATIONS)
        → (operations more ≡ 0) ⊎ ((with_ops u ops).operations + operations more ≤ MOST_OPERATIONS)
        → (length ops + operations more ≡ 0)
        ⊎ (u.operations + (length ops + operations more) ≤ MOST_OPERATIONS)
    by (inl none) (inl nothing) = inl (omega (arith, none, nothing))
    by (inr fits) (inl nothing) = inr (omega (arith, fits, nothing))
    by some (inr fits) = inr (omega (arith, fits, counted u ops))

pub disk_by : (u : Used) (actors : List (List Op)) → (with_actors u actors).disk ≡ u.disk
disk_by u [] = refl
disk_by u (ops ∷ more) = disk_by (with_ops u ops) more ∙ disk_by_ops u ops

-- operations take no time
clock_by_ops : (u : Used) (ops : List Op) → (with_ops u ops).clock ≡ u.clock
clock_by_ops u [] = refl
clock_by_ops u (op ∷ ops) = clock_by_ops (with_op u op) ops

pub clock_by : (u : Used) (actors : List (List Op)) → (with_actors u actors).clock ≡ u.clock
clock_by u [] = refl
clock_by u (ops ∷ more) = clock_by (with_ops u ops) more ∙ clock_by_ops u ops

pub work_by : (u : Used) (actors : List (List Op)) → length actors ≤ MOST_ACTORS → MayAct u actors
    → IsWork actors
work_by u actors size may = record {
  few = size;
  most = by (few_all u actors may);
  requests = requests_each u actors may;
}
  where
    by : (operations actors ≡ 0) ⊎ (u.operations + operations actors ≤ MOST_OPERATIONS)
        → operations actors ≤ MOST_OPERATIONS
    by (inl none) = omega (arith, none)
    by (inr fits) = omega (arith, fits)

pub few_operations : (actors : List (List Op)) → IsWork actors
    → sum_by (λ (ops : List Op). length ops) actors < 2 ^ 32
few_operations actors work = omega (arith, summed actors, work.most)
  where
    summed : (actors : List (List Op)) → sum_by (λ (ops : List Op). length ops) actors
        ≡ operations actors
    summed [] = refl
    summed (ops ∷ more) = sum_by-cons (λ (xs : List Op). length xs) ops more
        ∙ ap (λ (n : ℕ). length ops + n) (summed more)

pub named : (actors : ℕ) (schedule : List Turns) → MayTurn actors schedule → (k : ℕ) (t : Turns)
    → slice_get schedule k ≡ Some t → t.actor < actors
named actors [] may k t is = absurd (no_item k t is)
named actors (turns ∷ more) may zero t is = subst (λ (x : Turns). x.actor < actors)
    (λ i. unwrap_or (is i) turns) may.0
named actors (turns ∷ more) may (suc k) t is = named actors more may.3 k t is

-- an actor stands only after the disk's size
pub none_without : (u : Used) (actors : List (List Op)) → HasDisk u actors → u.disk ≡ false
    → actors ≡ []
none_without u [] has none = refl
none_without u (ops ∷ more) has none = absurd (true≢false (sym has ∙ none))

-- ---- items

-- the disk's pages before and after an item: there are some after a disk's size, and nothing else
-- changes them
abbrev pub KeepsPages : Item → ℕ → ℕ → Type 0
KeepsPages (items.Attr (DiskPages n)) before after = 1 ≤ n → 1 ≤ after
KeepsPages (items.Attr (LimitPages n)) before after = after ≡ before
KeepsPages (items.Attr (Backing n)) before after = after ≡ before
KeepsPages (items.Attr (WritebackLimit n)) before after = after ≡ before
KeepsPages (items.Attr (WritebackLimitEnable on)) before after = after ≡ before
KeepsPages (items.Attr (Clock n)) before after = after ≡ before
KeepsPages (items.Attr LowerMax) before after = after ≡ before
KeepsPages (items.Report report) before after = after ≡ before
KeepsPages (items.Phase text) before after = after ≡ before

-- a disk without pages after an attribute has no size yet
pub sized_on : (u : Used) (attr : Attr) (before after : ℕ) → KeepsPages (items.Attr attr) before after
    → MaySet attr → (before ≡ 0 → u.disk ≡ false) → after ≡ 0 → (with_attr u attr).disk ≡ false
sized_on u (DiskPages n) before after keeps may sized none =
    let some = keeps may.0 in absurd (omega (arith, none, some))
sized_on u (LimitPages n) before after keeps may sized none = sized (sym keeps ∙ none)
sized_on u (Backing n) before after keeps may sized none = sized (sym keeps ∙ none)
sized_on u (WritebackLimit n) before after keeps may sized none = sized (sym keeps ∙ none)
sized_on u (WritebackLimitEnable on) before after keeps may sized none = sized (sym keeps ∙ none)
sized_on u (Clock n) before after keeps may sized none = sized (sym keeps ∙ none)
sized_on u LowerMax before after keeps may sized none = sized (sym keeps ∙ none)

-- the times before and after an item: `clock` sets it, and nothing else changes it
abbrev pub KeepsTimeOf : Item → ℕ → ℕ → Type 0
KeepsTimeOf (items.Attr (DiskPages n)) before after = after ≡ before
KeepsTimeOf (items.Attr (LimitPages n)) before after = after ≡ before
KeepsTimeOf (items.Attr (Backing n)) before after = after ≡ before
KeepsTimeOf (items.Attr (WritebackLimit n)) before after = after ≡ before
KeepsTimeOf (items.Attr (WritebackLimitEnable on)) before after = after ≡ before
KeepsTimeOf (items.Attr (Clock n)) before after = after ≡ n
KeepsTimeOf (items.Attr LowerMax) before after = after ≡ before
KeepsTimeOf (items.Report report) before after = after ≡ before
KeepsTimeOf (items.Phase text) before after = after ≡ before

-- the time that is counted with an attribute is the one that is set
pub timed_on : (u : Used) (attr : Attr) (before after : ℕ)
    → KeepsTimeOf (items.Attr attr) before after → u.clock ≡ before
    → (with_attr u attr).clock ≡ after
timed_on u (DiskPages n) before after keeps timed = timed ∙ sym keeps
timed_on u (LimitPages n) before after keeps timed = timed ∙ sym keeps
timed_on u (Backing n) before after keeps timed = timed ∙ sym keeps
timed_on u (WritebackLimit n) before after keeps timed = timed ∙ sym keeps
timed_on u (WritebackLimitEnable on) before after keeps timed = timed ∙ sym keeps
timed_on u (Clock n) before after keeps timed = sym keeps
timed_on u LowerMax before after keeps timed = timed ∙ sym keeps

-- the items after one that was run, which leaves so many pages, and this time
pub stand_on : (pages after before now : ℕ) (item : Item) (more : List Item)
    → KeepsPages item pages after → KeepsTimeOf item before now
    → MayStand pages before (item ∷ more) → MayStand after now more
stand_on pages after before now (items.Attr attr) more keeps times may = record {
  used = with_attr may.used attr;
  sized = sized_on may.used attr pages after keeps may.may.0 may.sized;
  timed = timed_on may.used attr before now times may.timed;
  may = may.may.2;
}
stand_on pages after before now (items.Report report) more keeps times may = record {
  used = may.used;
  sized = λ none. may.sized (sym keeps ∙ none);
  timed = may.timed ∙ sym times;
  may = may.may;
}
stand_on pages after before now (items.Phase text) more keeps times may = record {
  used = with_text may.used text.actors text.schedule;
  sized = λ none. disk_by (with_phase may.used) text.actors ∙ may.sized (sym keeps ∙ none);
  timed = clock_by (with_phase may.used) text.actors ∙ may.timed ∙ sym times;
  may = may.may.1;
}

-- the first of several items
pub stand_first : (pages clock : ℕ) (item : Item) (more : List Item)
    → MayStand pages clock (item ∷ more) → MayStand pages clock (item ∷ [])
stand_first pages clock (items.Attr attr) more may = record {
  used = may.used;
  sized = may.sized;
  timed = may.timed;
  may = (may.may.0, may.may.1, tt);
}
stand_first pages clock (items.Report report) more may = record {
  used = may.used;
  sized = may.sized;
  timed = may.timed;
  may = tt;
}
stand_first pages clock (items.Phase text) more may = record {
  used = may.used;
  sized = may.sized;
  timed = may.timed;
  may = (may.may.0, tt);
}

-- the front of a job
pub front_may : (u : Used) (front later : List Item) → MayFollow u (front ++ later)
    → MayFollow u front
front_may u [] later may = tt
front_may u (items.Attr attr ∷ front) later may =
    (may.0, may.1, front_may (with_attr u attr) front later may.2)
front_may u (items.Report report ∷ front) later may = front_may u front later may
front_may u (items.Phase text ∷ front) later may =
    (may.0, front_may (with_text u text.actors text.schedule) front later may.1)
