-- How items that were carried out extend each output so far.
use Rattle.std.specs.Prelude.{⊤}
use Rattle.std.proofs.Common.{◌≡◌, ℕ, ◌+◌, ◌-◌, ◌<◌, ◌≤◌, Bool, ◌||◌, List, [], ◌∷◌, ◌++◌, length, take, drop, Option, Some, Result, Ok, Err, slice_get, get_or, refl, sym, ap, ◌∙◌, subst, append_assoc, arith, false}
use Rattle.std.proofs.Math.Seq.{take-add}
use Rattle.std.proofs.lemmas.List.{append-nil, take-append-drop, take_more, drop_more, drop-drop, length-drop, get_or-drop, take_rest}
use Rattle.std.proofs.lemmas.Option.{slice_get_within, slice_get_read, slice_get-get_or, get_or_from_slice_get}
use Rattle.std.specs.Io.KnownBytes.{Appends}
use Rattle.plain_disk.specs.Output.{OutLine}
use Rattle.plain_disk.specs.Rests.{Rest}
use Rattle.job_text.specs.declared.job.Item.{Item}
use Rattle.job_text.specs.declared.job.Item.TheVariants as items
use Rattle.job_text.specs.declared.job.PhaseText.{PhaseText}
use Rattle.job_text.specs.Jobs.{Used, MayFollow}
use Rattle.job_print.specs.Texts.{text}
use Rattle.job_session.specs.declared.stop.Stop.{Stop}
use Rattle.job_session.specs.Legal.{Legal}
use Rattle.job_session.specs.Stands.{Stands}
use Rattle.job_session.specs.Stepped.{Disk, Stepped, IsBySchedule, AreOwn}
use Rattle.job_session.specs.Runs.{BeginsWith}
use Rattle.job_session.specs.Telling.{MayStand, StandsForSome, NoPhases, LinesSent, ItemsSent}
use Rattle.job_session.specs.Sessions.{Place, done_at, left_at, Extends, GoesOn, GivesUp, IsNext}
use Rattle.job_session.proofs.Jobs.{stepped_append, own_append, attr_keeps, attr_times}
use Rattle.job_session.proofs.Lawful.{stand_on, front_may}

-- ---- one after the other

legal_append : (xs ys : List Item) (r m last : Rest) (ls ks : List OutLine)
    → Legal r xs ls m → Legal m ys ks last → Legal r (xs ++ ys) (ls ++ ks) last
legal_append [] ys r m last ls ks s next =
    let P : List OutLine × Rest → Type 0 = λ x. Legal x.1 ys (x.0 ++ ks) last in
    subst P (λ i. (sym s.0 i, s.1 i)) next
legal_append (x ∷ xs) ys r m last ls ks s next = (
  s.0,
  s.1,
  s.2 ++ ks,
  s.3,
  legal_append xs ys s.0 m last s.2 ks s.4 next,
  ap (λ (l : List OutLine). l ++ ks) s.5 ∙ append_assoc s.1 s.2 ks,
)

-- the first of some items
stand_front : (pages clock : ℕ) (xs more : List Item) → MayStand pages clock (xs ++ more)
    → MayStand pages clock xs
stand_front pages clock xs more may = record {
  used = may.used;
  sized = may.sized;
  timed = may.timed;
  may = front_may may.used xs more may.may;
}

-- the items after some that were carried out
pub stand_after : (xs more : List Item) (d m : Disk) (turns : List (List ℕ)) (lines : List OutLine)
    → Stepped d xs turns lines m → MayStand d.size d.clock (xs ++ more)
    → MayStand m.size m.clock more
stand_after [] more d m turns lines s may =
    subst (λ (x : Disk). MayStand x.size x.clock more) (sym s.2) may
stand_after (items.Attr attr ∷ xs) more d m turns lines s may =
    stand_after xs more s.0 m turns s.2 s.4
    (stand_on d.size s.0.size d.clock s.0.clock (items.Attr attr) (xs ++ more)
    (attr_keeps d s.0 attr s.1 s.3) (attr_times d s.0 attr s.1 s.3) may)
stand_after (items.Report report ∷ xs) more d m turns lines s may =
    stand_after xs more d m turns s.0 s.1
    (stand_on d.size d.size d.clock d.clock (items.Report report) (xs ++ more) refl refl may)
stand_after (items.Phase phase ∷ xs) more d m turns lines s may =
    stand_after xs more s.0 m s.2 s.4 s.7
    (stand_on d.size s.0.size d.clock s.0.clock (items.Phase phase) (xs ++ more) s.5.size
    s.5.clock may)

-- ---- items without phases

pub none_more : (xs : List Item) (item : Item) → NoPhases xs → NoPhases (item ∷ [])
    → NoPhases (xs ++ item ∷ [])
none_more [] item none one = one
none_more (items.Attr attr ∷ xs) item none one = none_more xs item none one
none_more (items.Report report ∷ xs) item none one = none_more xs item none one
none_more (items.Phase phase ∷ xs) item none one = absurd none

pub none_first : (item : Item) (xs : List Item) → NoPhases (item ∷ xs) → NoPhases (item ∷ [])
none_first (items.Attr attr) xs none = tt
none_first (items.Report report) xs none = tt
none_first (items.Phase phase) xs none = absurd none

pub none_later : (item : Item) (xs : List Item) → NoPhases (item ∷ xs) → NoPhases xs
none_later (items.Attr attr) xs none = none
none_later (items.Report report) xs none = none
none_later (items.Phase phase) xs none = absurd none

pub none_front : (xs ys : List Item) → NoPhases (xs ++ ys) → NoPhases xs
none_front [] ys none = tt
none_front (items.Attr attr ∷ xs) ys none = none_front xs ys none
none_front (items.Report report ∷ xs) ys none = none_front xs ys none
none_front (items.Phase phase ∷ xs) ys none = absurd none

-- they have no turns
pub no_turns : (xs : List Item) (turns : List (List ℕ)) → NoPhases xs → AreOwn xs turns
    → turns ≡ []
no_turns [] turns none own = own
no_turns (items.Attr attr ∷ xs) turns none own = no_turns xs turns none own
no_turns (items.Report report ∷ xs) turns none own = no_turns xs turns none own
no_turns (items.Phase phase ∷ xs) turns none own = absurd none

-- ---- places in a list

module _ {A : Type 0} where
  -- an item, and what is left after it
  pub at_item : (xs : List A) (k : ℕ) (x : A) → slice_get xs k ≡ Some x
      → drop k xs ≡ x ∷ drop (k + 1) xs
  at_item xs k x is = drop_more xs k x (slice_get_within xs k x is)
      ∙ ap (λ (y : A). y ∷ drop (k + 1) xs) (get_or_from_slice_get xs k x x is)

  pub to_item : (xs : List A) (k : ℕ) (x : A) → slice_get xs k ≡ Some x
      → take (k + 1) xs ≡ take k xs ++ x ∷ []
  to_item xs k x is = take_more xs k x (slice_get_within xs k x is)
      ∙ ap (λ (y : A). take k xs ++ y ∷ []) (get_or_from_slice_get xs k x x is)

  -- an item of what is left
  pub item_at : (xs : List A) (k n : ℕ) (x : A) → slice_get (drop k xs) n ≡ Some x
      → slice_get xs (k + n) ≡ Some x
  item_at xs k n x is =
      let lt = slice_get_within (drop k xs) n x is in
      slice_get-get_or xs (k + n) x (omega (arith, lt, length-drop k xs))
      ∙ ap Some (sym (get_or-drop k xs n x) ∙ get_or_from_slice_get (drop k xs) n x x is)

-- ---- what a call extends

begins : (u w : Option (List ℕ)) (bytes : List ℕ) → Appends u w bytes → BeginsWith u w bytes
begins u w bytes all = record {
  sent = bytes;
  rest = [];
  parts = sym (append-nil bytes);
  appended = all;
}

-- the law of jobs, by which the lines of the machine are legal
abbrev pub JobsAreLegal : Type 0
JobsAreLegal = (u : Used) (r : Rest) (d : Disk) (job : List Item) (turns : List (List ℕ))
    (lines : List OutLine) (last : Disk)
    → MayFollow u job → (d.size ≡ 0 → u.disk ≡ false) → u.clock ≡ d.clock → Stands r d
    → Stepped d job turns lines last
    → (m : Rest) × Legal r job lines m × Stands m last

module _ (legal : JobsAreLegal) where
  extends_by : (front mine : List Item) (d m : Disk) (turns : List (List ℕ)) (lines : List OutLine)
      (Own : Type 0) → MayStand d.size d.clock mine → Stepped d mine turns lines m
      → (Own → AreOwn mine turns) → Extends front (front ++ mine) d turns Own lines m
  extends_by front mine d m turns lines Own may stepped own = record {
    between = mine;
    parts = refl;
    alone = stepped;
    legal = λ first last ls is stands.
        let all = legal may.used last d mine turns lines m may.may may.sized may.timed stands stepped
        in (all.0, legal_append front mine first last all.0 ls lines is all.1, all.2);
    stepped = λ from others ls s.
        stepped_append front mine from d m others turns ls lines s stepped;
    own = λ others are mine_own. own_append front mine others turns are (own mine_own);
  }

  pub stands_after : (xs more : List Item) (d m : Disk) (turns : List (List ℕ))
      (lines : List OutLine) → MayStand d.size d.clock (xs ++ more) → StandsForSome d
      → Stepped d xs turns lines m → StandsForSome m
  stands_after xs more d m turns lines all some s =
      let may = stand_front d.size d.clock xs more all in
      let after = legal may.used some.0 d xs turns lines m may.may may.sized may.timed some.1 s in
      (after.0, after.2)

  -- ---- the items before the next phase

  module _ (p : Place) (n : ℕ) (d m : Disk) (u w : Option (List ℕ))
      (may : MayStand d.size d.clock (left_at p)) where
    abbrev mine : List Item
    mine = take n (left_at p)

    abbrev later : List Item
    later = drop n (left_at p)

    parts : mine ++ later ≡ left_at p
    parts = take-append-drop n (left_at p)

    may_parts : MayStand d.size d.clock (mine ++ later)
    may_parts = subst (MayStand d.size d.clock) (sym parts) may

    module _ (refused : Bool) (sent : ItemsSent d mine m u w (Ok refused)) where
      whole : sent.front ≡ mine
      whole = sym (sent.parts ∙ ap (λ (x : List Item). sent.front ++ x) sent.whole.0
          ∙ append-nil sent.front)

      stepped : Stepped d mine [] sent.lines m
      stepped = subst (λ (x : List Item × Disk). Stepped d x.0 [] sent.lines x.1)
          (λ i. (whole i, sent.whole.1 i)) sent.stepped

      pub went_on : (q : Place) → q.job ≡ p.job → q.at ≡ p.at + n
          → q.refused ≡ (p.refused || refused) → GoesOn p q d [] ⊤ m (Appends u w)
      went_on q job at refuses = record {
        job = job;
        on = omega (arith, at);
        lines = sent.lines;
        extends = subst (λ (xs : List Item). Extends (done_at p) xs d [] ⊤ sent.lines m)
            (sym (take-add p.at n p.job) ∙ (λ i. take (sym at i) (sym job i)))
            (extends_by (done_at p) mine d m [] sent.lines ⊤
            (stand_front d.size d.clock mine later may_parts) stepped
            (λ x. subst (λ (xs : List Item). AreOwn xs []) whole sent.own));
        refused = refuses ∙ ap (λ (b : Bool). p.refused || b) sent.sent.whole.1;
        output = sent.sent.whole.0;
      }

      pub may_after : (q : Place) → q.job ≡ p.job → q.at ≡ p.at + n
          → MayStand m.size m.clock (left_at q)
      may_after q job at =
          subst (MayStand m.size m.clock)
          (drop-drop n p.at p.job ∙ (λ i. drop (sym at i) (sym job i)))
          (stand_after mine later d m [] sent.lines stepped may_parts)

      pub some_after : StandsForSome d → StandsForSome m
      some_after some = stands_after mine later d m [] sent.lines may_parts some stepped

    pub gave_up : (stop : Stop) → ItemsSent d mine m u w (Err stop)
        → GivesUp p d [] ⊤ m (BeginsWith u w)
    gave_up stop sent = record {
      front = done_at p ++ sent.front;
      later = sent.later ++ later;
      parts = sym (take-append-drop p.at p.job)
          ∙ ap (λ (xs : List Item). done_at p ++ xs) split
          ∙ sym (append_assoc (done_at p) sent.front (sent.later ++ later));
      lines = sent.lines;
      last = sent.last;
      extends = extends_by (done_at p) sent.front d sent.last [] sent.lines ⊤
          (stand_front d.size d.clock sent.front (sent.later ++ later)
          (subst (MayStand d.size d.clock) split may))
          sent.stepped (λ x. sent.own);
      device = sent.device;
      output = sent.sent.sends;
    }
      where
        split : left_at p ≡ sent.front ++ (sent.later ++ later)
        split = sym parts ∙ ap (λ (xs : List Item). xs ++ later) sent.parts
            ∙ append_assoc sent.front sent.later later

  -- ---- a phase

  module _ (p : Place) (phase : PhaseText) (d m : Disk) (turns : List ℕ) (lines : List OutLine)
      (u w : Option (List ℕ)) (next : IsNext p phase) (all : MayStand d.size d.clock (left_at p))
      (stepped : Stepped d (items.Phase phase ∷ []) (turns ∷ []) lines m) where
    abbrev Own : Type 0
    Own = IsBySchedule phase.actors phase.schedule turns

    abbrev one : List Item
    one = items.Phase phase ∷ []

    may_one : MayStand d.size d.clock (one ++ drop (p.at + 1) p.job)
    may_one = subst (MayStand d.size d.clock) (at_item p.job p.at (items.Phase phase) next) all

    extended : Extends (done_at p) (done_at p ++ one) d (turns ∷ []) Own lines m
    extended = extends_by (done_at p) one d m (turns ∷ []) lines Own
        (stand_front d.size d.clock one (drop (p.at + 1) p.job) may_one) stepped
        (λ own. (own, refl))

    pub phase_went_on : (q : Place) (refused : Bool) → q.job ≡ p.job → q.at ≡ p.at + 1
        → q.refused ≡ (p.refused || refused) → LinesSent lines u w (Ok refused)
        → GoesOn p q d (turns ∷ []) Own m (Appends u w)
    phase_went_on q refused job at refuses sent = record {
      job = job;
      on = omega (arith, at);
      lines = lines;
      extends = subst (λ (xs : List Item). Extends (done_at p) xs d (turns ∷ []) Own lines m)
          (sym (to_item p.job p.at (items.Phase phase) next)
          ∙ (λ i. take (sym at i) (sym job i)))
          extended;
      refused = refuses ∙ ap (λ (b : Bool). p.refused || b) sent.whole.1;
      output = sent.whole.0;
    }

    pub phase_gave_up : (r : Result Bool Stop) → LinesSent lines u w r
        → GivesUp p d (turns ∷ []) Own m (BeginsWith u w)
    phase_gave_up r sent = record {
      front = done_at p ++ one;
      later = drop (p.at + 1) p.job;
      parts = sym (take-append-drop p.at p.job)
          ∙ ap (λ (xs : List Item). done_at p ++ xs) (at_item p.job p.at (items.Phase phase) next)
          ∙ sym (append_assoc (done_at p) one (drop (p.at + 1) p.job));
      lines = lines;
      last = m;
      extends = extended;
      device = refl;
      output = sent.sends;
    }

    pub phase_may_after : (q : Place) → q.job ≡ p.job → q.at ≡ p.at + 1
        → MayStand m.size m.clock (left_at q)
    phase_may_after q job at =
        subst (MayStand m.size m.clock) (λ i. drop (sym at i) (sym job i))
        (stand_after one (drop (p.at + 1) p.job) d m (turns ∷ []) lines stepped may_one)

    pub phase_some_after : StandsForSome d → StandsForSome m
    phase_some_after some =
        stands_after one (drop (p.at + 1) p.job) d m (turns ∷ []) lines may_one some stepped

-- ---- a call that was given up after others went on

pub gave_up_after : (p q : Place) (d m n : Disk) (turns : List (List ℕ)) (O : Type 0)
    (u w : Option (List ℕ)) → m.device ≡ n.device → GoesOn p q d turns O m (Appends u w)
    → GivesUp p d turns O n (BeginsWith u w)
gave_up_after p q d m n turns O u w device g = record {
  front = done_at q;
  later = left_at q;
  parts = sym g.job ∙ sym (take-append-drop q.at q.job);
  lines = g.lines;
  last = m;
  extends = g.extends;
  device = device;
  output = begins u w (text g.lines) g.output;
}

-- the next item, where it is a phase, and those after it
pub next_may : (p : Place) (phase : PhaseText) (pages clock : ℕ) → IsNext p phase
    → MayStand pages clock (left_at p)
    → MayStand pages clock (items.Phase phase ∷ drop (p.at + 1) p.job)
next_may p phase pages clock next may =
    subst (MayStand pages clock) (at_item p.job p.at (items.Phase phase) next) may

-- an item that is no phase
pub no_phase : (item : Item) → ((phase : PhaseText) → item ≡ items.Phase phase → ⊥)
    → NoPhases (item ∷ [])
no_phase (items.Attr attr) not = tt
no_phase (items.Report report) not = tt
no_phase (items.Phase phase) not = not phase refl

-- ---- what is left of a job, as the code takes it

module _ (p : Place) (n : ℕ) (js : List Item) (same : js ≡ p.job) where
  -- a slice from the place on
  abbrev slice : List Item
  slice = take (length js - p.at) (drop p.at js)

  slice_is : slice ≡ left_at p
  slice_is = take_rest js p.at ∙ ap (drop p.at) same

  pub front_stands : (pages clock : ℕ) → MayStand pages clock (left_at p)
      → MayStand pages clock (take n slice)
  front_stands pages clock may =
      subst (λ (xs : List Item). MayStand pages clock (take n xs)) (sym slice_is)
      (stand_front pages clock (take n (left_at p)) (drop n (left_at p))
      (subst (MayStand pages clock) (sym (take-append-drop n (left_at p))) may))

  pub front_sent : (d m : Disk) (u w : Option (List ℕ)) (r : Result Bool Stop)
      → ItemsSent d (take n slice) m u w r → ItemsSent d (take n (left_at p)) m u w r
  front_sent d m u w r sent =
      subst (λ (xs : List Item). ItemsSent d (take n xs) m u w r) slice_is sent

  pub front_next : (n < length slice → (phase : PhaseText)
      × (slice_get slice n ≡ Some (items.Phase phase))) → (q : Place) → q.job ≡ p.job
      → q.at ≡ p.at + n → q.at < length q.job → (phase : PhaseText) × IsNext q phase
  front_next given q job at lt =
      let there : q.at < length p.job = subst (λ (xs : List Item). q.at < length xs) job lt in
      let within : n < length slice =
      subst (λ (xs : List Item). n < length xs) (sym slice_is)
      (omega (arith, there, at, length-drop p.at p.job)) in
      let it = given within in (
        it.0,
        (λ i. slice_get (job i) (at i))
            ∙ item_at p.job p.at n (items.Phase it.0)
            (sym (ap (λ (xs : List Item). slice_get xs n) slice_is) ∙ it.1),
      )

  pub front_within : n ≤ length slice → p.at ≤ length p.job → p.at + n ≤ length p.job
  front_within most at =
      let le : n ≤ length (left_at p) = subst (λ (xs : List Item). n ≤ length xs) slice_is most in
      omega (arith, le, length-drop p.at p.job, at)

-- the item at the place is the next one
pub next_is : (p : Place) (js : List Item) (item : Item) (phase : PhaseText) → js ≡ p.job
    → p.at ≤ length p.job → (p.at ≡ length js → ⊥) → item ≡ get_or js p.at item
    → item ≡ items.Phase phase → IsNext p phase
next_is p js item phase same at not is it =
    (λ i. slice_get (sym same i) p.at)
    ∙ slice_get_read js (length js) p.at item refl (omega (arith, not, at, ap length same)) is
    ∙ ap Some it
