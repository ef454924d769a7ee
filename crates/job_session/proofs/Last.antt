-- The reports at the end of a generated job, whose lines are the last three.
use Rattle.std.specs.Prelude.{⊤}
use Rattle.std.proofs.Common.{◌≡◌, ℕ, ◌-◌, Bool, ◌||◌, false, true, List, [], ◌∷◌, ◌++◌, length, drop, Option, Result, Ok, Err, IfOk, IfErr, refl, sym, ap, ◌∙◌, subst, inl, inr, append_assoc, length-append, arith}
use Rattle.std.proofs.KnownBytes.{Appends-nil}
use Rattle.std.proofs.Math.Seq.{drop-append_seam}
use Rattle.std.proofs.lemmas.List.{append_cancel_left, take-append-drop}
use Rattle.std.specs.Io.KnownBytes.{Appends}
use Rattle.backing_dev.specs.declared.backing.Backing.{Ghosts}
use Rattle.plain_disk.specs.Output.{OutLine, any_refusal}
use Rattle.plain_disk.specs.Rests.{Rest}
use Rattle.plain_disk.specs.Legal.{IsFirst}
use Rattle.job_text.specs.declared.job.Item.{Item}
use Rattle.job_text.specs.declared.job.Item.TheVariants as items
use Rattle.job_text.specs.Generator.{generated}
use Rattle.job_text.specs.Jobs.{MayFollow, nothing_used}
use Rattle.job_print.specs.Texts.{text}
use Rattle.job_session.specs.declared.sim.Status.{Status}
use Rattle.job_session.specs.declared.sim.Status.TheVariants as statuses
use Rattle.job_session.specs.declared.session.Session.{Session}
use Rattle.job_session.specs.declared.stop.Stop.{Stop}
use Rattle.job_session.specs.declared.stop.Stop.TheVariants as stops
use Rattle.job_session.specs.Legal.{Legal}
use Rattle.job_session.specs.Stands.{Stands}
use Rattle.job_session.specs.Stepped.{Disk, without_pages, report_of, Stepped, AreOwn}
use Rattle.job_session.specs.Runs.{Seen, Shows, IsUncounted, BeginsWith, last_three, IsGenerated}
use Rattle.job_session.specs.Sessions.{Place, done_at, left_at, place, session_disk, GoesOn, GivesUp, IsEnded, IsStopped, EndsBy}
use Rattle.job_session.specs.Advances.{outcome_of, IsCutSoFar}
use Rattle.job_session.specs.Generated.{HaveLed, LastTold, IsCutLast, LastRan, GenStops}
use Rattle.job_session.proofs.Extends.{JobsAreLegal}
use Rattle.job_session.proofs.Jobs.{stepped_append, own_append}
use Rattle.job_session.proofs.Lines.{any_refusal-append}
use Rattle.job_session.proofs.Passing.{all_left, reports}
use Rattle.job_session.proofs.SoFar.{text_both, refs, reached, as_written, as_cut}

-- ---- reports alone

abbrev OnlyReports : List Item → Type 0
OnlyReports [] = ⊤
OnlyReports (items.Attr attr ∷ more) = ⊥
OnlyReports (items.Report report ∷ more) = OnlyReports more
OnlyReports (items.Phase phase ∷ more) = ⊥

-- their lines
abbrev told : Disk → List Item → List OutLine
told d [] = []
told d (items.Attr attr ∷ more) = told d more
told d (items.Report report ∷ more) = report_of d report ++ told d more
told d (items.Phase phase ∷ more) = told d more

only_first : (xs ys : List Item) → OnlyReports (xs ++ ys) → OnlyReports xs
only_first [] ys only = tt
only_first (items.Attr attr ∷ xs) ys only = only
only_first (items.Report report ∷ xs) ys only = only_first xs ys only
only_first (items.Phase phase ∷ xs) ys only = only

told-append : (d : Disk) (xs ys : List Item) → told d (xs ++ ys) ≡ told d xs ++ told d ys
told-append d [] ys = refl
told-append d (items.Attr attr ∷ xs) ys = told-append d xs ys
told-append d (items.Report report ∷ xs) ys =
    ap (λ (ls : List OutLine). report_of d report ++ ls) (told-append d xs ys)
    ∙ sym (append_assoc (report_of d report) (told d xs) (told d ys))
told-append d (items.Phase phase ∷ xs) ys = told-append d xs ys

-- they change nothing, and print these lines and no others
told_steps : (xs : List Item) (d : Disk) → OnlyReports xs → Stepped d xs [] (told d xs) d
told_steps [] d only = (refl, refl, refl)
told_steps (items.Attr attr ∷ xs) d only = absurd only
told_steps (items.Report report ∷ xs) d only = (told d xs, told_steps xs d only, refl)
told_steps (items.Phase phase ∷ xs) d only = absurd only

told_by : (xs : List Item) (d m : Disk) (lines : List OutLine) → OnlyReports xs
    → Stepped d xs [] lines m → (lines ≡ told d xs) × (m ≡ d)
told_by [] d m lines only s = (s.1, s.2)
told_by (items.Attr attr ∷ xs) d m lines only s = absurd only
told_by (items.Report report ∷ xs) d m lines only s =
    let rest = told_by xs d m s.0 only s.1 in
    (s.2 ∙ ap (λ (ls : List OutLine). report_of d report ++ ls) rest.0, rest.1)
told_by (items.Phase phase ∷ xs) d m lines only s = absurd only

-- ---- the last three lines

three_last : (xs ys : List OutLine) → length ys ≡ 3 → last_three (xs ++ ys) ≡ ys
three_last xs ys three =
    ap (λ (n : ℕ). drop n (xs ++ ys))
    (let n : length (xs ++ ys) - 3 ≡ length xs = omega (arith, length-append xs ys, three) in n)
    ∙ drop-append_seam xs ys

-- up to these the items of a job have led to the disk d
module _ (legal : JobsAreLegal) (first : Rest) (p : Place) (d : Disk)
    (may : MayFollow nothing_used p.job) (stands : Stands first (without_pages first.device))
    (led : HaveLed first (done_at p) d p.refused) (left : left_at p ≡ reports) where
  abbrev lines : List OutLine
  lines = led.lines ++ told d reports

  whole : done_at p ++ reports ≡ p.job
  whole = ap (λ (xs : List Item). done_at p ++ xs) (sym left) ∙ take-append-drop p.at p.job

  stepped : Stepped (without_pages first.device) p.job (led.turns ++ []) lines d
  stepped = subst (λ (xs : List Item). Stepped (without_pages first.device) xs (led.turns ++ []) lines d)
      whole
      (stepped_append (done_at p) reports (without_pages first.device) d d led.turns [] led.lines
      (told d reports) led.stepped (told_steps reports d tt))

  own : AreOwn p.job (led.turns ++ [])
  own = subst (λ (xs : List Item). AreOwn xs (led.turns ++ [])) whole
      (own_append (done_at p) reports led.turns [] led.own refl)

  after : (r : Rest) × Legal first p.job lines r × Stands r d
  after = legal nothing_used first (without_pages first.device) p.job (led.turns ++ []) lines d may
      (λ none. refl) refl stands stepped

  last_told : (m : Disk) (W : List ℕ → Type 0) → d.device ≡ m.device → W (text (told d reports))
      → LastTold first p.job m W (any_refusal lines)
  last_told m W device output = record {
    last = d;
    led = record {
      lines = lines;
      last = after.0;
      legal = after.1;
      stands = after.2;
      turns = led.turns ++ [];
      stepped = stepped;
      own = own;
      refused_is = refl;
      output = tt;
    };
    device = device;
    output = subst (λ (ls : List OutLine). W (text ls)) (sym (three_last led.lines (told d reports) refl))
        output;
  }

  -- all of them were carried out
  module _ (q : Place) (m : Disk) (u w : Option (List ℕ)) (g : GoesOn p q d [] ⊤ m (Appends u w))
      (end : q.at ≡ length q.job) where
    by : (g.lines ≡ told d reports) × (m ≡ d)
    by = told_by reports d m g.lines tt
        (subst (λ (xs : List Item). Stepped d xs [] g.lines m)
        (sym (all_left p q d m ⊤ (Appends u w) g end) ∙ left) g.extends.alone)

    pub all_told : LastTold first p.job m (Appends u w) q.refused
    all_told =
        subst (LastTold first p.job m (Appends u w))
        (any_refusal-append led.lines (told d reports)
        ∙ (λ i. sym led.refused_is i || any_refusal (sym by.0 i)) ∙ sym g.refused)
        (last_told m (Appends u w) (ap (λ (x : Disk). x.device) (sym by.1))
        (subst (λ (ls : List OutLine). Appends u w (text ls)) by.0 g.output))

  -- some of them were
  module _ (m : Disk) (u w : Option (List ℕ)) (g : GivesUp p d [] ⊤ m (BeginsWith u w)) where
    abbrev mine : List Item
    mine = g.extends.between

    split : reports ≡ mine ++ g.later
    split = sym left
        ∙ append_cancel_left (done_at p) (left_at p) (mine ++ g.later)
        (take-append-drop p.at p.job ∙ g.parts
        ∙ ap (λ (xs : List Item). xs ++ g.later) g.extends.parts
        ∙ append_assoc (done_at p) mine g.later)

    first_by : (g.lines ≡ told d mine) × (g.last ≡ d)
    first_by = told_by mine d g.last g.lines (only_first mine g.later (subst OnlyReports split tt))
        g.extends.alone

    begun : BeginsWith u w (text (told d reports))
    begun = record {
      sent = g.output.sent;
      rest = g.output.rest ++ text (told d g.later);
      parts = ap (λ (xs : List Item). text (told d xs)) split
          ∙ ap text (told-append d mine g.later)
          ∙ sym (text_both (told d mine) (told d g.later))
          ∙ ap (λ (bytes : List ℕ). bytes ++ text (told d g.later))
          (ap text (sym first_by.0) ∙ g.output.parts)
          ∙ append_assoc g.output.sent g.output.rest (text (told d g.later));
      appended = g.output.appended;
    }

    pub some_told : IsCutLast first p.job m u w
    some_told = (
      any_refusal lines,
      last_told m (BeginsWith u w) (ap (λ (x : Disk). x.device) (sym first_by.1) ∙ g.device) begun,
    )

-- how the job has ended
module _ {D : Type 0} {b : Ghosts D} (legal : JobsAreLegal) (first : Rest) (s t : Session D b)
    (u w : Option (List ℕ)) (before now : ℕ) (stopped : Bool)
    (may : MayFollow nothing_used s.job) (stands : Stands first (without_pages first.device))
    (led : HaveLed first (done_at (place s)) (session_disk s) s.refused)
    (left : left_at (place s) ≡ reports) where
  ended : (refused : Bool) → IsEnded s t u w before now stopped refused
      → LastTold first s.job (session_disk t) (Appends u w) refused
  ended refused e = subst (LastTold first s.job (session_disk t) (Appends u w)) e.3
      (all_told legal first (place s) (session_disk s) may stands led left (place t)
      (session_disk t) u w e.0 e.2)

  cut : IsStopped s t u w before now stopped → IsCutLast first s.job (session_disk t) u w
  cut e = some_told legal first (place s) (session_disk s) may stands led left (session_disk t) u w e.1

  pub last_ran : (status : Status) → EndsBy s t u w before now stopped status
      → LastRan first s.job (session_disk t) u w (outcome_of status)
  last_ran statuses.Done e = ended false e
  last_ran statuses.Refused e = ended true e
  last_ran statuses.Words e = absurd e
  last_ran statuses.Job e = absurd e
  last_ran statuses.ReadFault e = absurd e
  last_ran statuses.WriteFault e = cut e.0
  last_ran statuses.NoMemory e = inr (cut e)

-- the job was given up before its reports, and nothing was written
pub stops_short : (first : Rest) (job : List Item) (m : Disk) (u : Option (List ℕ)) (stop : Stop)
    (r : Result Bool Stop) → r ≡ Err stop → stop ≡ stops.Memory
    → IsCutSoFar first job m (λ bytes. ⊤) → LastRan first job m u u r
stops_short first job m u stop r is memory cut =
    subst (LastRan first job m u u) (sym (is ∙ ap Err memory)) (inl (Appends-nil u, cut))

-- ---- the whole job, over the device as it is seen

module _ (first : Rest) (job : List Item) (m : Disk) (u w : Option (List ℕ)) where
  cut_over : IsCutLast first job m u w → refs m.device ≡ refs first.device
  cut_over c = ap refs (sym c.1.device)
      ∙ reached first job c.1.last (λ bytes. ⊤) c.0 c.1.led

  pub last_over : (r : Result Bool Stop) → LastRan first job m u w r
      → refs m.device ≡ refs first.device
  last_over (Ok refused) s =
      ap refs (sym s.device) ∙ reached first job s.last (λ bytes. ⊤) refused s.led
  last_over (Err stops.Memory) (inl s) =
      ap refs (sym s.1.device)
      ∙ reached first s.1.front s.1.last (λ bytes. ⊤) s.1.refused s.1.so_far
  last_over (Err stops.Memory) (inr c) = cut_over c
  last_over (Err stops.Write) c = cut_over c

module _ (first : Rest) (is_first : IsFirst first.device first) (entry exit : Seen)
    (at_entry : IsUncounted entry first.device) (pages seed : ℕ) (m : Disk)
    (at_exit : Shows exit m.device) where
  last_is : (W : List ℕ → Type 0) (refused : Bool)
      → LastTold first (generated pages seed) m W refused
      → IsGenerated pages seed entry exit W refused
  last_is W refused s = record {
    whole = as_written first is_first entry exit at_entry (generated pages seed) s.last
        (λ bytes. ⊤) refused (subst (Shows exit) (sym s.device) at_exit) s.led;
    output = s.output;
  }

  module _ (u w : Option (List ℕ)) where
    cut_is : IsCutLast first (generated pages seed) m u w
        → (refused : Bool) × IsGenerated pages seed entry exit (BeginsWith u w) refused
    cut_is c = (c.0, last_is (BeginsWith u w) c.0 c.1)

    pub gen_written : (r : Result Bool Stop) → LastRan first (generated pages seed) m u w r
        → IfOk r (IsGenerated pages seed entry exit (Appends u w))
    gen_written (Ok refused) s = last_is (Appends u w) refused s
    gen_written (Err stop) s = tt

    pub gen_cut : (Untouched : Type 0) (r : Result Bool Stop)
        → LastRan first (generated pages seed) m u w r
        → IfErr r (GenStops pages seed entry exit u w Untouched)
    gen_cut Untouched (Ok refused) s = tt
    gen_cut Untouched (Err stops.Memory) (inl s) =
        inl (
          s.0,
          inr (as_cut first is_first entry exit at_entry (generated pages seed) m (λ bytes. ⊤)
              at_exit s.1),
        )
    gen_cut Untouched (Err stops.Memory) (inr c) = inr (cut_is c)
    gen_cut Untouched (Err stops.Write) c = cut_is c
