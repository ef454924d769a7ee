-- What the calls of a session leave of a job, and its reports after all phases.
use Rattle.std.specs.Prelude.{⊤}
use Rattle.std.proofs.Common.{◌≡◌, ℕ, zero, suc, ◌+◌, ◌<◌, ◌≤◌, Bool, false, true, List, [], ◌∷◌, ◌++◌, length, drop, Option, Ok, refl, sym, ap, ◌∙◌, subst, append_assoc, arith}
use Rattle.std.proofs.Math.Seq.{drop-length}
use Rattle.std.proofs.lemmas.List.{append-nil, append_cancel_left, take-append-drop}
use Rattle.std.specs.Io.KnownBytes.{Appends}
use Rattle.backing_dev.specs.declared.backing.Backing.{Ghosts}
use Rattle.plain_disk.specs.Output.{OutLine}
use Rattle.plain_disk.specs.Rests.{Rest}
use Rattle.job_text.specs.declared.job.Item.{Item}
use Rattle.job_text.specs.declared.job.Item.TheVariants as items
use Rattle.job_text.specs.declared.job.PhaseText.{PhaseText}
use Rattle.job_text.specs.declared.job.Report.TheVariants.{MmStat, IoStat, BdStat}
use Rattle.job_text.specs.Generator.{generated}
use Rattle.job_session.specs.declared.sim.Status.{Status}
use Rattle.job_session.specs.declared.sim.Status.TheVariants as statuses
use Rattle.job_session.specs.declared.session.Session.{Session}
use Rattle.job_session.specs.declared.session.Next.TheVariants as next
use Rattle.job_session.specs.declared.stop.Stop.TheVariants as stops
use Rattle.job_session.specs.Stepped.{Disk, Stepped, IsBySchedule}
use Rattle.job_session.specs.Runs.{BeginsWith}
use Rattle.job_session.specs.Telling.{NoPhases}
use Rattle.job_session.specs.Sessions.{Place, done_at, left_at, place, session_disk, GoesOn, IsNext, NextIs, IsEnded, IsStopped, EndsBy, FinishIs, IsCutPhase, CutBy}
use Rattle.job_session.specs.Generated.{HasPhase, after_phase, after_phases, HaveLed, Passes, PassStops}
use Rattle.job_session.proofs.Extends.{at_item}
use Rattle.job_session.proofs.SoFar.{led_on, led_out}

-- the reports of a generated job
abbrev pub reports : List Item
reports = items.Report MmStat ∷ items.Report IoStat ∷ items.Report BdStat ∷ []

-- ---- items without phases

none_has : (xs : List Item) → NoPhases xs → HasPhase xs → ⊥
none_has [] none has = has
none_has (items.Attr attr ∷ xs) none has = none_has xs none has
none_has (items.Report report ∷ xs) none has = none_has xs none has
none_has (items.Phase phase ∷ xs) none has = none

-- items that have no turns
unturned : (xs : List Item) (d m : Disk) (lines : List OutLine) → Stepped d xs [] lines m
    → NoPhases xs
unturned [] d m lines s = tt
unturned (items.Attr attr ∷ xs) d m lines s = unturned xs s.0 m s.2 s.4
unturned (items.Report report ∷ xs) d m lines s = unturned xs d m s.0 s.1
unturned (items.Phase phase ∷ xs) d m lines s = let is = s.8 in absurd (let no : ⊥ = cc is in no)

module _ (phase : PhaseText) (rest : List Item) where
  has_next : (xs : List Item) → HasPhase (xs ++ items.Phase phase ∷ rest)
  has_next [] = tt
  has_next (items.Attr attr ∷ xs) = has_next xs
  has_next (items.Report report ∷ xs) = has_next xs
  has_next (items.Phase other ∷ xs) = tt

  after_next : (xs : List Item) → NoPhases xs
      → after_phase (xs ++ items.Phase phase ∷ rest) ≡ rest
  after_next [] none = refl
  after_next (items.Attr attr ∷ xs) none = after_next xs none
  after_next (items.Report report ∷ xs) none = after_next xs none
  after_next (items.Phase other ∷ xs) none = absurd none

-- ---- what is left

module _ (p q : Place) (d m : Disk) (Own : Type 0) (W : List ℕ → Type 0)
    (g : GoesOn p q d [] Own m W) where
  abbrev mine : List Item
  mine = g.extends.between

  no_phases : NoPhases mine
  no_phases = unturned mine d m g.lines g.extends.alone

  left_by : left_at p ≡ mine ++ left_at q
  left_by =
      append_cancel_left (done_at p) (left_at p) (mine ++ left_at q)
      (take-append-drop p.at p.job ∙ sym g.job ∙ sym (take-append-drop q.at q.job)
      ∙ ap (λ (xs : List Item). xs ++ left_at q) g.extends.parts
      ∙ append_assoc (done_at p) mine (left_at q))

  -- up to the end
  pub all_left : q.at ≡ length q.job → left_at p ≡ mine
  all_left at = left_by
      ∙ ap (λ (xs : List Item). mine ++ xs) (ap (λ (n : ℕ). drop n q.job) at ∙ drop-length q.job)
      ∙ append-nil mine

  none_left : q.at ≡ length q.job → HasPhase (left_at p) → ⊥
  none_left at has = none_has mine no_phases (subst HasPhase (all_left at) has)

  -- up to a phase
  module _ (phase : PhaseText) (is : IsNext q phase) where
    abbrev rest : List Item
    rest = drop (q.at + 1) q.job

    with_phase : left_at p ≡ mine ++ items.Phase phase ∷ rest
    with_phase = left_by
        ∙ ap (λ (xs : List Item). mine ++ xs) (at_item q.job q.at (items.Phase phase) is)

    pub some_left : HasPhase (left_at p)
    some_left = subst HasPhase (sym with_phase) (has_next phase rest mine)

    pub left_after : rest ≡ after_phase (left_at p)
    left_after = sym (ap after_phase with_phase ∙ after_next phase rest mine no_phases)

-- ---- up to the next phase, and this phase

module _ {D : Type 0} {b : Ghosts D} (s t : Session D b) (u w : Option (List ℕ))
    (before now : ℕ) (stopped : Bool) where
  given_up : IsStopped s t u w before now stopped → PassStops s t stops.Memory
  given_up e = record {
    memory = refl;
    home = e.0;
    led = λ first led. led_out first (place s) (session_disk s) [] ⊤ (λ bytes. ⊤) led tt (session_disk t)
        (BeginsWith u w) s.job refl e.1;
  }

  no_end : (refused : Bool) → IsEnded s t u w before now stopped refused
      → HasPhase (left_at (place s)) → PassStops s t stops.Memory
  no_end refused e has =
      absurd (none_left (place s) (place t) (session_disk s) (session_disk t) ⊤ (Appends u w) e.0 e.2
      has)

  -- the job has ended before it, while there was a phase
  pub stops_before : (status : Status) → EndsBy s t u w before now stopped status
      → HasPhase (left_at (place s)) → PassStops s t stops.Memory
  stops_before statuses.Done e has = no_end false e has
  stops_before statuses.Refused e has = no_end true e has
  stops_before statuses.Words e has = absurd e
  stops_before statuses.Job e has = absurd e
  stops_before statuses.ReadFault e has = absurd e
  stops_before statuses.WriteFault e has = given_up e.0
  stops_before statuses.NoMemory e has = given_up e

module _ {D : Type 0} {b : Ghosts D} (s q t : Session D b) (u v w : Option (List ℕ))
    (before now later : ℕ) (stopped halted : Bool) where
  module _ (e : NextIs s q u v before now stopped next.Phase) (turns : List ℕ)
      (own : IsBySchedule e.1.actors e.1.schedule turns) where
    -- what has led to the phase
    led_to : (first : Rest) → HaveLed first (done_at (place s)) (session_disk s) s.refused
        → HaveLed first (done_at (place q)) e.0 q.refused
    led_to first led = led_on first (place s) (session_disk s) [] ⊤ (λ bytes. ⊤) led tt e.0
        (Appends u v) (place q) e.3

    pub passes : FinishIs (place q) t v w now later halted e.0 e.1 turns (Ok tt) → Passes s t
    passes f = record {
      between = f.1;
      same = f.0.job ∙ e.3.job;
      left = (λ i. drop (f.2 i) (f.0.job i))
          ∙ left_after (place s) (place q) (session_disk s) e.0 ⊤ (Appends u v) e.3 e.1 e.2.2.item;
      led = λ first led. led_on first (place q) e.0 (turns ∷ [])
          (IsBySchedule e.1.actors e.1.schedule turns) (λ bytes. ⊤) (led_to first led) own
          (session_disk t) (Appends v w) (place t) f.0;
    }

    cut_in : IsCutPhase (place q) t v w now later halted e.0 e.1 turns
        → PassStops s t stops.Memory
    cut_in c = record {
      memory = refl;
      home = c.0;
      led = λ first led. led_out first (place q) e.0 (turns ∷ [])
          (IsBySchedule e.1.actors e.1.schedule turns) (λ bytes. ⊤) (led_to first led) own
          (session_disk t) (BeginsWith v w) s.job e.3.job c.1;
    }

    pub stops_in : (status : Status)
        → CutBy (place q) t v w now later halted e.0 e.1 turns status → PassStops s t stops.Memory
    stops_in statuses.Done c = absurd c
    stops_in statuses.Refused c = absurd c
    stops_in statuses.Words c = absurd c
    stops_in statuses.Job c = absurd c
    stops_in statuses.ReadFault c = absurd c
    stops_in statuses.WriteFault c = cut_in c.0
    stops_in statuses.NoMemory c = cut_in c

-- ---- the phases of a generated job

-- some are left before the third is over
pub has_phase : (pages seed n : ℕ) → n < 3 → HasPhase (after_phases n (generated pages seed))
has_phase pages seed zero lt = tt
has_phase pages seed (suc zero) lt = tt
has_phase pages seed (suc (suc zero)) lt = tt
has_phase pages seed (suc (suc (suc n))) lt = absurd (omega (arith, lt))

-- and then its reports
pub reports_left : (job left : List Item) (n : ℕ)
    → ((pages : ℕ) × (seed : ℕ) × (job ≡ generated pages seed)) → 3 ≤ n → n ≤ 3
    → left ≡ after_phases n job → left ≡ reports
reports_left job left n made most least is =
    let three : n ≡ 3 = omega (arith, most, least) in is ∙ (λ i. after_phases (three i) (made.2 i))

-- no phase is left then
pub no_phase_left : {D : Type 0} {b : Ghosts D} (s q : Session D b) (u v : Option (List ℕ))
    (before now : ℕ) (stopped : Bool) → NextIs s q u v before now stopped next.Phase
    → left_at (place s) ≡ reports → ⊥
no_phase_left s q u v before now stopped e left =
    subst HasPhase left
    (some_left (place s) (place q) (session_disk s) e.0 ⊤ (Appends u v) e.3 e.1 e.2.2.item)
