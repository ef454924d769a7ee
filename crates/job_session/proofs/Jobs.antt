-- Jobs item by item, as they are told.
use Rattle.std.proofs.Common.{◌≡◌, ℕ, zero, suc, ◌<◌, ◌≤◌, Bool, true, false, List, [], ◌∷◌, ◌++◌, Result, Ok, Err, OnOk, refl, sym, ap, ◌∙◌, subst, append_assoc, arith}
use Rattle.std.proofs.lemmas.List.{append-nil}
use Rattle.std.specs.Prelude.{nat_lt}
use Rattle.plain_disk.specs.Output.{OutLine, disksize_busy, backing_busy, backing_range, refused}
use Rattle.zr_core.specs.Machines.{PhaseSteps}
use Rattle.job_text.specs.declared.job.Attr.{Attr}
use Rattle.job_text.specs.declared.job.Attr.TheVariants.{DiskPages, LimitPages, Backing, WritebackLimit, WritebackLimitEnable, Clock, LowerMax}
use Rattle.job_text.specs.declared.job.Report.{Report}
use Rattle.job_text.specs.declared.job.Item.{Item}
use Rattle.job_text.specs.declared.job.Item.TheVariants as items
use Rattle.job_text.specs.declared.job.PhaseText.{PhaseText}
use Rattle.job_session.specs.Stepped.{Disk, terms_of, report_of, IsNewDisk, with_backing, SizeSteps, BackingSteps, AttrSteps, IsRunOn, Stepped, AreOwn}
use Rattle.job_session.specs.declared.stop.Stop.{Stop}
use Rattle.job_session.specs.Telling.{StopCause, OutputState, Tells, ItemsTold}
use Rattle.job_session.proofs.Lawful.{KeepsPages, KeepsTimeOf}
use Rattle.job_session.proofs.Sending.{Tells-none, Tells-more, Tells-stop}

-- ---- one after the other

pub stepped_append : (xs ys : List Item) (d m last : Disk) (ts us : List (List ℕ))
    (ls ks : List OutLine)
    → Stepped d xs ts ls m → Stepped m ys us ks last
    → Stepped d (xs ++ ys) (ts ++ us) (ls ++ ks) last
stepped_append [] ys d m last ts us ls ks s next =
    let P : List (List ℕ) × List OutLine × Disk → Type 0 =
    λ x. Stepped x.2 ys (x.0 ++ us) (x.1 ++ ks) last in
    subst P (λ i. (sym s.0 i, sym s.1 i, s.2 i)) next
stepped_append (items.Attr attr ∷ xs) ys d m last ts us ls ks s next = (
  s.0,
  s.1,
  s.2 ++ ks,
  s.3,
  stepped_append xs ys s.0 m last ts us s.2 ks s.4 next,
  ap (λ (x : List OutLine). x ++ ks) s.5 ∙ append_assoc s.1 s.2 ks,
)
stepped_append (items.Report report ∷ xs) ys d m last ts us ls ks s next = (
  s.0 ++ ks,
  stepped_append xs ys d m last ts us s.0 ks s.1 next,
  ap (λ (x : List OutLine). x ++ ks) s.2 ∙ append_assoc (report_of d report) s.0 ks,
)
stepped_append (items.Phase phase ∷ xs) ys d m last ts us ls ks s next = (
  s.0,
  s.1,
  s.2 ++ us,
  s.3,
  s.4 ++ ks,
  s.5,
  s.6,
  stepped_append xs ys s.0 m last s.2 us s.4 ks s.7 next,
  ap (λ (x : List (List ℕ)). x ++ us) s.8,
  ap (λ (x : List OutLine). x ++ ks) s.9 ∙ append_assoc s.3 s.4 ks,
)

pub own_append : (xs ys : List Item) (ts us : List (List ℕ)) → AreOwn xs ts → AreOwn ys us
    → AreOwn (xs ++ ys) (ts ++ us)
own_append [] ys ts us own next = subst (λ (x : List (List ℕ)). AreOwn ys (x ++ us)) (sym own) next
own_append (items.Attr attr ∷ xs) ys ts us own next = own_append xs ys ts us own next
own_append (items.Report report ∷ xs) ys ts us own next = own_append xs ys ts us own next
own_append (items.Phase phase ∷ xs) ys [] us own next = absurd own
own_append (items.Phase phase ∷ xs) ys (mine ∷ ts) us own next =
    (own.0, own_append xs ys ts us own.1 next)

pub items_none : (d : Disk) (o : OutputState) → ItemsTold d [] d o o (Ok tt)
items_none d o = record {
  front = [];
  later = [];
  parts = refl;
  turns = [];
  lines = [];
  last = d;
  stepped = (refl, refl, refl);
  own = refl;
  told = Tells-none o;
  whole = (refl, refl);
  device = refl;
}

-- nothing was told of these items
pub items_stop : (d m : Disk) (job : List Item) (o : OutputState) (stop : Stop)
    → StopCause o.faults o.faults o.stopped stop → d.device ≡ m.device
    → ItemsTold d job m o o (Err stop)
items_stop d m job o stop cause device = record {
  front = [];
  later = job;
  parts = refl;
  turns = [];
  lines = [];
  last = d;
  stepped = (refl, refl, refl);
  own = refl;
  told = Tells-stop o stop cause;
  whole = tt;
  device = device;
}

-- where nothing went wrong, all items were run, up to the disk that is there
module _ (xs : List Item) (d m : Disk) (o p : OutputState) (t : ItemsTold d xs m o p (Ok tt)) where
  all_items : t.front ≡ xs
  all_items = sym (t.parts ∙ ap (λ (x : List Item). t.front ++ x) t.whole.0 ∙ append-nil t.front)

  pub all_stepped : Stepped d xs t.turns t.lines m
  all_stepped = subst (λ (x : List Item × Disk). Stepped d x.0 t.turns t.lines x.1)
      (λ i. (all_items i, t.whole.1 i)) t.stepped

  pub all_own : AreOwn xs t.turns
  all_own = subst (λ (x : List Item). AreOwn x t.turns) all_items t.own

-- a disk's size leaves pages, and a backing leaves those that there are
size_some : (size : ℕ) (d m : Disk) (n : ℕ) (lines : List OutLine) → size ≡ d.size
    → SizeSteps size d n lines m → 1 ≤ n → 1 ≤ m.size
size_some zero d m n lines is s some = let new = s.1.size in omega (arith, new, some)
size_some (suc size) d m n lines is s some =
    let same = ap (λ (x : Disk). x.size) s.same in omega (arith, same, is)

backing_same : (size : ℕ) (past : Bool) (d m : Disk) (n : ℕ) (lines : List OutLine)
    → BackingSteps size past d n lines m → m.size ≡ d.size
backing_same zero false d m n lines s = ap (λ (x : Disk). x.size) s.1
backing_same zero true d m n lines s = ap (λ (x : Disk). x.size) s.same
backing_same (suc size) past d m n lines s = ap (λ (x : Disk). x.size) s.same

-- an attribute leaves these pages
pub attr_keeps : (d m : Disk) (attr : Attr) (lines : List OutLine) → AttrSteps d attr lines m
    → KeepsPages (items.Attr attr) d.size m.size
attr_keeps d m (DiskPages n) lines s = λ some. size_some d.size d m n lines refl s some
attr_keeps d m (LimitPages n) lines s = s.1.size
attr_keeps d m (Backing n) lines s = backing_same d.size (nat_lt d.device.blocks n) d m n lines s
attr_keeps d m (WritebackLimit n) lines s = s.1.size
attr_keeps d m (WritebackLimitEnable on) lines s = s.1.size
attr_keeps d m (Clock n) lines s = ap (λ (x : Disk). x.size) s.1
attr_keeps d m LowerMax lines s = s.1.size

-- a disk's size and a backing leave the time
size_time : (size : ℕ) (d m : Disk) (n : ℕ) (lines : List OutLine) → SizeSteps size d n lines m
    → m.clock ≡ d.clock
size_time zero d m n lines s = s.1.clock
size_time (suc size) d m n lines s = ap (λ (x : Disk). x.clock) s.same

backing_time : (size : ℕ) (past : Bool) (d m : Disk) (n : ℕ) (lines : List OutLine)
    → BackingSteps size past d n lines m → m.clock ≡ d.clock
backing_time zero false d m n lines s = ap (λ (x : Disk). x.clock) s.1
backing_time zero true d m n lines s = ap (λ (x : Disk). x.clock) s.same
backing_time (suc size) past d m n lines s = ap (λ (x : Disk). x.clock) s.same

-- an attribute leaves this time
pub attr_times : (d m : Disk) (attr : Attr) (lines : List OutLine) → AttrSteps d attr lines m
    → KeepsTimeOf (items.Attr attr) d.clock m.clock
attr_times d m (DiskPages n) lines s = size_time d.size d m n lines s
attr_times d m (LimitPages n) lines s = s.1.clock
attr_times d m (Backing n) lines s = backing_time d.size (nat_lt d.device.blocks n) d m n lines s
attr_times d m (WritebackLimit n) lines s = s.1.clock
attr_times d m (WritebackLimitEnable on) lines s = s.1.clock
attr_times d m (Clock n) lines s = ap (λ (x : Disk). x.clock) s.1
attr_times d m LowerMax lines s = s.1.clock

-- some items, and then others
pub items_more : (xs ys : List Item) (d m n : Disk) (o p q : OutputState)
    (r : Result (Unit {0}) Stop)
    → ItemsTold d xs m o p (Ok tt) → ItemsTold m ys n p q r → ItemsTold d (xs ++ ys) n o q r
items_more xs ys d m n o p q r s t = record {
  front = xs ++ t.front;
  later = t.later;
  parts = ap (λ (x : List Item). xs ++ x) t.parts ∙ sym (append_assoc xs t.front t.later);
  turns = s.turns ++ t.turns;
  lines = s.lines ++ t.lines;
  last = t.last;
  stepped = stepped_append xs t.front d m t.last s.turns t.turns s.lines t.lines
      (all_stepped xs d m o p s) t.stepped;
  own = own_append xs t.front s.turns t.turns (all_own xs d m o p s) t.own;
  told = Tells-more o p q r s.lines t.lines s.told t.told;
  whole = t.whole;
  device = t.device;
}

-- what was given up among some items was given up among more
pub items_cut : (xs ys : List Item) (d m : Disk) (o p : OutputState) (stop : Stop)
    → ItemsTold d xs m o p (Err stop) → ItemsTold d (xs ++ ys) m o p (Err stop)
items_cut xs ys d m o p stop t = record {
  front = t.front;
  later = t.later ++ ys;
  parts = ap (λ (x : List Item). x ++ ys) t.parts ∙ append_assoc t.front t.later ys;
  turns = t.turns;
  lines = t.lines;
  last = t.last;
  stepped = t.stepped;
  own = t.own;
  told = t.told;
  whole = tt;
  device = t.device;
}

-- no item is left
no_more : (m : Disk) (r : Result (Unit {0}) Stop)
    → OnOk r ((◌≡◌ {A = List Item} [] []) × (m ≡ m))
no_more m (Ok x) = (refl, refl)
no_more m (Err stop) = tt

-- what comes of a disk's size, and of the blocks of the device
pub size_busy : (size : ℕ) (d : Disk) (n : ℕ) → 0 < size
    → SizeSteps size d n (refused disksize_busy ∷ []) d
size_busy zero d n some = absurd (omega (arith, some))
size_busy (suc size) d n some = record { told = refl; same = refl }

pub size_given : (size : ℕ) (d m : Disk) (n : ℕ) → size ≡ 0 → IsNewDisk d n m
    → SizeSteps size d n [] m
size_given zero d m n none new = (refl, new)
size_given (suc size) d m n none new = absurd (omega (arith, none))

pub backing_busy_now : (size : ℕ) (past : Bool) (d : Disk) (n : ℕ) → 0 < size
    → BackingSteps size past d n (refused backing_busy ∷ []) d
backing_busy_now zero past d n some = absurd (omega (arith, some))
backing_busy_now (suc size) past d n some = record { told = refl; same = refl }

pub backing_past : (size : ℕ) (past : Bool) (d : Disk) (n : ℕ) → size ≡ 0 → past ≡ true
    → BackingSteps size past d n (refused backing_range ∷ []) d
backing_past zero true d n none is = record { told = refl; same = refl }
backing_past zero false d n none is = absurd (let no : ⊥ = cc is in no)
backing_past (suc size) past d n none is = absurd (omega (arith, none))

pub backing_given : (size : ℕ) (past : Bool) (d m : Disk) (n : ℕ) → size ≡ 0 → past ≡ false
    → m ≡ with_backing d n → BackingSteps size past d n [] m
backing_given zero false d m n none is same = (refl, same)
backing_given zero true d m n none is same = absurd (let no : ⊥ = cc is in no)
backing_given (suc size) past d m n none is same = absurd (omega (arith, none))

-- an attribute whose lines were told
pub attr_told : (d m : Disk) (attr : Attr) (lines : List OutLine) (o p : OutputState)
    (r : Result (Unit {0}) Stop)
    → AttrSteps d attr lines m → Tells o p r lines → ItemsTold d (items.Attr attr ∷ []) m o p r
attr_told d m attr lines o p r steps told = record {
  front = items.Attr attr ∷ [];
  later = [];
  parts = refl;
  turns = [];
  lines = lines;
  last = m;
  stepped = (m, lines, [], steps, (refl, refl, refl), sym (append-nil lines));
  own = refl;
  told = told;
  whole = no_more m r;
  device = refl;
}

-- a report that was told
pub report_told : (d : Disk) (report : Report) (o p : OutputState) (r : Result (Unit {0}) Stop)
    → Tells o p r (report_of d report) → ItemsTold d (items.Report report ∷ []) d o p r
report_told d report o p r told = record {
  front = items.Report report ∷ [];
  later = [];
  parts = refl;
  turns = [];
  lines = report_of d report;
  last = d;
  stepped = ([], (refl, refl, refl), sym (append-nil (report_of d report)));
  own = refl;
  told = told;
  whole = no_more d r;
  device = refl;
}

-- a phase that was run by these turns
pub phase_steps : (d m : Disk) (phase : PhaseText) (turns : List ℕ) (lines : List OutLine)
    → IsRunOn d m → PhaseSteps (terms_of d) d.backed phase.actors d.row turns lines m.row
    → Stepped d (items.Phase phase ∷ []) (turns ∷ []) lines m
phase_steps d m phase turns lines run steps = (
  m,
  turns,
  [],
  lines,
  [],
  run,
  steps,
  (refl, refl, refl),
  refl,
  sym (append-nil lines),
)
