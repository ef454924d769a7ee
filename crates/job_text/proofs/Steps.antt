-- What a line does to the items that are read, by its cause.
use Rattle.std.proofs.Common.{◌≡◌, ℕ, ◌+◌, ◌<◌, ◌≤◌, Bool, true, false, not, ◌&&◌, ◌||◌, nat_lt, nat_le, cond, List, [], ◌∷◌, ◌++◌, length, map, Option, Some, None, option_map, option_and_then, Result, Ok, Err, refl, sym, ap, ◌∙◌, subst, append_assoc, arith}
use Rattle.std.specs.List.{list_all}
use Rattle.std.proofs.lemmas.List.{append-nil, length_push, length-append}
use Rattle.std.proofs.lemmas.Bool.{leb-true, leb-false, lt-leb, le-leb, ne_eqb}
use Rattle.zr_base.specs.declared.op.Turns.{Turns}
use Rattle.zr_base.specs.declared.limits.TheConstants.{MOST_ACTORS}
use Rattle.job_text.specs.declared.limits.TheConstants.{MOST_TURNS}
use Rattle.job_text.specs.declared.fault.Cause.{Cause}
use Rattle.job_text.specs.declared.fault.Cause.TheVariants as causes
use Rattle.job_text.specs.declared.fault.JobFault.{JobFault}
use Rattle.job_text.specs.declared.job.Item.{Item}
use Rattle.job_text.specs.declared.job.Item.TheVariants as items
use Rattle.job_text.specs.declared.line.Line.{Line}
use Rattle.job_text.specs.declared.line.Line.TheVariants.{Blank, Attribute, Tell, Actor, Operation, Schedule, Run}
use Rattle.job_text.specs.declared.begun.Begun.{Begun}
use Rattle.job_text.specs.declared.reading.Reading.{Reading}
use Rattle.job_text.specs.Lines.{Form, words_of, form_of, is_malformed, meaning, is_out_of_range, line_with, line_of}
use Rattle.job_text.specs.Jobs.{Saying, says_turns, said_by, said_before, sayings, Used, with_attr, is_set_back, with_phase, turns_in, with_turns, has_phase_left, has_left_for, has_turns_left}
use Rattle.job_text.specs.Faults.{Phase, said_in, cause_in, cause_of, used_with, phase_with, fault_at, first_fault_from}
use Rattle.job_text.specs.Answers.{IsInRange}
use Rattle.job_text.specs.Reading.{used_by, is_scheduled, phase_at, phase_of, all_actors, text_of, with_schedule, place_cause, begun_with, items_by, IsNext, items_from, items_with, items_after, fault_after}
use Rattle.job_text.proofs.Lawful.{IfRead, line-lawful}

-- what stands after a line that has no cause
abbrev pub unless : {A : Type 0} → Option Cause → Option A → Option A
unless None x = x
unless (Some cause) x = None

-- ---- the tests of a line

module _ (x : Option (List Item)) where
  same : x ≡ option_map (λ later. later) x
  same = by x
    where
      by : (x : Option (List Item)) → x ≡ option_map (λ later. later) x
      by None = refl
      by (Some later) = refl

  limited : (left : Bool) → cond left x None ≡ unless (cond (not left) (Some causes.TooMany) None) x
  limited true = refl
  limited false = refl

  timed : (back : Bool) → cond (not back) x None
      ≡ unless (cond (back || false) (Some causes.Range) None) x
  timed true = refl
  timed false = refl

  misplaced : (back : Bool) → None ≡ unless (cond (back || false) (Some causes.Range)
      (Some causes.Order)) x
  misplaced true = refl
  misplaced false = refl

  acted : (at disk left : Bool) → cond (not at && disk && left) x None
      ≡ unless (cond at (Some causes.Order)
      (cond (not disk) (Some causes.NoDisk) (cond (not left) (Some causes.TooMany) None)))
      (option_map (λ later. later) x)
  acted true disk left = refl
  acted false true true = same
  acted false true false = refl
  acted false false left = refl

  operated : (at left : Bool) → cond (not at && left) x None
      ≡ unless (cond at (Some causes.Order) (cond (not left) (Some causes.TooMany) None))
      (option_map (λ later. later) x)
  operated true left = refl
  operated false true = same
  operated false false = refl

  scheduled : (named left : Bool) → cond (named && left) x None
      ≡ unless (cond (not named) (Some causes.Range) (cond (not left) (Some causes.TooMany) None))
      (option_map (λ later. later) x)
  scheduled true true = same
  scheduled true false = refl
  scheduled false left = refl

-- ---- a schedule, turn by turn

abbrev pub are_named : Begun → List Turns → Bool
are_named begun turns = list_all (λ t. nat_lt t.actor (length begun.actors + 1)) turns

pub turns_step : (u : Used) (begun : Begun) (turns : List Turns) (rest : List Saying)
    → u.turns ≤ MOST_TURNS
    → items_from u (Some begun) (map says_turns turns ++ rest)
    ≡ cond (are_named begun turns && has_turns_left u turns)
    (items_from (with_turns u turns) (Some (with_schedule begun turns)) rest) None
turns_step u begun [] rest fits =
    let left : has_turns_left u [] ≡ true = le-leb (u.turns + 0) MOST_TURNS (omega arith) in
    let none : u.turns + 0 ≡ u.turns = omega arith in
    sym (
    ap (λ b. cond b (items_from (with_turns u []) (Some (with_schedule begun [])) rest) None) left
    ∙ ap (λ n. items_from (record u { turns = n }) (Some (with_schedule begun [])) rest) none
    ∙ ap (λ ts. items_from u (Some (record begun { schedule = ts })) rest)
    (append-nil begun.schedule)
    )
turns_step u begun (t ∷ ts) rest fits =
    by (nat_lt t.actor (length begun.actors + 1)) (has_turns_left u (t ∷ [])) refl
    (λ few. turns_step (with_turns u (t ∷ [])) (with_schedule begun (t ∷ [])) ts rest few)
  where
    by : (named left : Bool) → has_turns_left u (t ∷ []) ≡ left
        → (u.turns + (t.times + 0) ≤ MOST_TURNS
        → items_from (with_turns u (t ∷ [])) (Some (with_schedule begun (t ∷ [])))
        (map says_turns ts ++ rest)
        ≡ cond (are_named begun ts && has_turns_left (with_turns u (t ∷ [])) ts)
        (items_from (with_turns (with_turns u (t ∷ [])) ts)
        (Some (with_schedule (with_schedule begun (t ∷ [])) ts)) rest) None)
        → cond (named && left)
        (items_from (with_turns u (t ∷ [])) (Some (with_schedule begun (t ∷ [])))
        (map says_turns ts ++ rest)) None
        ≡ cond ((named && are_named begun ts) && has_turns_left u (t ∷ ts))
        (items_from (with_turns u (t ∷ ts)) (Some (with_schedule begun (t ∷ ts))) rest) None
    by false left is further = refl
    by true false is further =
        let much : MOST_TURNS < u.turns + (t.times + 0) = leb-false _ _ is in
        let more : has_turns_left u (t ∷ ts) ≡ false =
        lt-leb (u.turns + (t.times + turns_in ts)) MOST_TURNS (omega arith) in
        sym (ap (λ b. cond (are_named begun ts && b)
        (items_from (with_turns u (t ∷ ts)) (Some (with_schedule begun (t ∷ ts))) rest) None) more
        ∙ off (are_named begun ts))
      where
        off : (b : Bool)
            → cond (b && false) (items_from (with_turns u (t ∷ ts))
            (Some (with_schedule begun (t ∷ ts))) rest) None ≡ None
        off true = refl
        off false = refl
    by true true is further =
        let few : u.turns + (t.times + 0) ≤ MOST_TURNS = leb-true _ _ is in
        let sum : u.turns + (t.times + 0) + turns_in ts ≡ u.turns + (t.times + turns_in ts) =
        omega arith in
        further few
        ∙ ap (λ n. cond (are_named begun ts && nat_le n MOST_TURNS)
        (items_from (record u { turns = n })
        (Some (with_schedule (with_schedule begun (t ∷ [])) ts)) rest) None) sum
        ∙ ap (λ all. cond (are_named begun ts && has_turns_left u (t ∷ ts))
        (items_from (with_turns u (t ∷ ts)) (Some (record begun { schedule = all })) rest) None)
        (append_assoc begun.schedule (t ∷ []) ts)

-- ---- a line

pub line_step : (u : Used) (begun : Option Begun) (first : ℕ) (line : Line) (rest : List Saying)
    → IsInRange line
    → u.turns ≤ MOST_TURNS
    → items_from u begun (said_by line ++ rest)
    ≡ unless (place_cause u (phase_at first begun) line)
    (option_map (λ later. items_by begun line ++ later)
    (items_from (used_with u (phase_at first begun) line) (begun_with begun line) rest))
line_step u None first Blank rest is fits = same (items_from u None rest)
line_step u (Some begun) first Blank rest is fits = same (items_from u (Some begun) rest)
line_step u None first (Attribute attr) rest is fits =
    timed (option_map (λ later. items.Attr attr ∷ later) (items_from (with_attr u attr) None rest))
    (is_set_back u attr)
line_step u (Some begun) first (Attribute attr) rest is fits =
    misplaced (option_map (λ later. items.Attr attr ∷ later)
    (items_from (with_attr u attr) (Some begun) rest)) (is_set_back u attr)
line_step u None first (Tell report) rest is fits = refl
line_step u (Some begun) first (Tell report) rest is fits = refl
line_step u None first Actor rest is fits = acted _ false u.disk (has_phase_left u)
line_step u (Some begun) first Actor rest is fits =
    acted _ (is_scheduled begun) u.disk (nat_le (length begun.actors + 1 + 1) MOST_ACTORS)
line_step u None first (Operation op) rest is fits = refl
line_step u (Some begun) first (Operation op) rest is fits =
    operated _ (is_scheduled begun) (has_left_for u op)
line_step u None first (Schedule []) rest is fits = let some : 1 ≤ 0 = is.0 in absurd (omega arith)
line_step u None first (Schedule (t ∷ ts)) rest is fits = refl
line_step u (Some begun) first (Schedule turns) rest is fits =
    turns_step u begun turns rest fits
    ∙ scheduled (items_from (with_turns u turns) (Some (with_schedule begun turns)) rest)
    (are_named begun turns) (has_turns_left u turns)
line_step u None first Run rest is fits =
    limited (option_map (λ later. items.Phase (text_of None) ∷ later)
    (items_from (with_phase u) None rest)) (has_phase_left u)
line_step u (Some begun) first Run rest is fits = refl

-- the line of the first actor of the phase after a line
abbrev first_with : ℕ → ℕ → Option Begun → Line → ℕ
first_with number first begun Blank = first
first_with number first begun (Attribute attr) = first
first_with number first begun (Tell report) = first
first_with number first None Actor = number
first_with number first (Some begun) Actor = first
first_with number first begun (Operation op) = first
first_with number first begun (Schedule turns) = first
first_with number first begun Run = first

phase_step : (number first : ℕ) (begun : Option Begun) (line : Line) → IsInRange line
    → phase_with number (phase_at first begun) line
    ≡ phase_at (first_with number first begun line) (begun_with begun line)
phase_step number first None Blank is = refl
phase_step number first (Some begun) Blank is = refl
phase_step number first None (Attribute attr) is = refl
phase_step number first (Some begun) (Attribute attr) is = refl
phase_step number first None (Tell report) is = refl
phase_step number first (Some begun) (Tell report) is = refl
phase_step number first None Actor is = refl
phase_step number first (Some begun) Actor is =
    let n : length begun.actors + 1 ≡ length (all_actors begun) =
    sym (length_push begun.actors begun.last) in
    ap (λ k. Some (record { first = first; actors = k + 1; scheduled = is_scheduled begun })) n
phase_step number first None (Operation op) is = refl
phase_step number first (Some begun) (Operation op) is = refl
phase_step number first None (Schedule turns) is = refl
phase_step number first (Some begun) (Schedule turns) is =
    let some : length (begun.schedule ++ turns) ≡ 0 → ⊥ =
    λ e. omega (arith, length-append begun.schedule turns, is.0) in
    ap (λ b. Some (record { first = first; actors = length begun.actors + 1; scheduled = not b }))
    (sym (ne_eqb _ _ some))
phase_step number first None Run is = refl
phase_step number first (Some begun) Run is = refl

-- turns stay within the limit
turns_fit : (u : Used) (phase : Option Phase) (line : Line) → place_cause u phase line ≡ None
    → u.turns ≤ MOST_TURNS → (used_with u phase line).turns ≤ MOST_TURNS
turns_fit u None Blank free fits = fits
turns_fit u (Some phase) Blank free fits = fits
turns_fit u None (Attribute attr) free fits = fits
turns_fit u (Some phase) (Attribute attr) free fits = fits
turns_fit u None (Tell report) free fits = fits
turns_fit u (Some phase) (Tell report) free fits = fits
turns_fit u None Actor free fits = fits
turns_fit u (Some phase) Actor free fits = fits
turns_fit u None (Operation op) free fits = fits
turns_fit u (Some phase) (Operation op) free fits = fits
turns_fit u None (Schedule turns) free fits = cc
turns_fit u (Some phase) (Schedule turns) free fits =
    by (list_all (λ t. nat_lt t.actor phase.actors) turns) (has_turns_left u turns) refl free
  where
    by : (named left : Bool) → has_turns_left u turns ≡ left
        → cond (not named) (Some causes.Range) (cond (not left) (Some causes.TooMany) None) ≡ None
        → u.turns + turns_in turns ≤ MOST_TURNS
    by true true is free = leb-true _ _ is
    by true false is free = cc
    by false left is free = cc
turns_fit u None Run free fits = fits
turns_fit u (Some phase) Run free fits = fits

-- ---- the causes by words and by place

-- a line that is faulty by its words has that cause; another has the cause of its place
abbrev HasCause : Used → Option Phase → List (List ℕ) → Result Line Cause → Type 0
HasCause u phase words (Err cause) = cause_of u phase words ≡ Some cause
HasCause u phase words (Ok line) =
    (cause_of u phase words ≡ place_cause u phase line) × (said_in (form_of words) ≡ line)

causes_agree : (u : Used) (phase : Option Phase) (words : List (List ℕ))
    → HasCause u phase words (line_of words)
causes_agree u phase words = by (form_of words) refl
  where
    tests : (form : Form) → form_of words ≡ Some form → (m b : Bool) → is_malformed form ≡ m
        → is_out_of_range form ≡ b
        → HasCause u phase words
        (cond m (Err causes.Number) (cond b (Err causes.Range) (Ok (meaning form))))
    tests form is true b well good = ap (cause_in u phase) is ∙ rw well refl
    tests form is false true well good = ap (cause_in u phase) is ∙ rw (well, good) refl
    tests form is false false well good =
        (ap (cause_in u phase) is ∙ rw (well, good) refl, ap said_in is)

    by : (form : Option Form) → form_of words ≡ form → HasCause u phase words (line_with form)
    by None is = ap (cause_in u phase) is
    by (Some form) is = tests form is (is_malformed form) (is_out_of_range form) refl refl

-- a line whose words have no cause has that of its place
pub cause_is : (u : Used) (phase : Option Phase) (text : List ℕ) (line : Line)
    → line_of (words_of text) ≡ Ok line
    → cause_of u phase (words_of text) ≡ place_cause u phase line
cause_is u phase text line said =
    let has = subst (HasCause u phase (words_of text)) said
    (causes_agree u phase (words_of text)) in
    has.0

-- ---- a text with a fault gives no items

fault_step : (u : Used) (phase : Option Phase) (number : ℕ) (text : List ℕ) (texts : List (List ℕ))
    → first_fault_from u phase number (text ∷ texts)
    ≡ fault_at number (cause_of u phase (words_of text))
    (first_fault_from (used_with u phase (said_in (form_of (words_of text))))
    (phase_with number phase (said_in (form_of (words_of text)))) (number + 1) texts)
fault_step u None number text texts = refl
fault_step u (Some phase) number text texts = refl

abbrev GivesNone : JobFault → List (List ℕ) → Option (List Saying) → Type 0
GivesNone fault texts said =
    (u : Used) (begun : Option Begun) (first number : ℕ) → u.turns ≤ MOST_TURNS
    → first_fault_from u (phase_at first begun) number texts ≡ Some fault
    → option_and_then (items_from u begun) said ≡ None

module _ (u : Used) (begun : Option Begun) (first number : ℕ) (text : List ℕ)
    (texts : List (List ℕ)) (fault : JobFault) (fits : u.turns ≤ MOST_TURNS)
    (e : first_fault_from u (phase_at first begun) number (text ∷ texts) ≡ Some fault) where
  none_after : (line : Line) (more : List Saying) → IsInRange line
      → HasCause u (phase_at first begun) (words_of text) (Ok line)
      → GivesNone fault texts (Some more)
      → (cause : Option Cause) → place_cause u (phase_at first begun) line ≡ cause
      → unless cause (option_map (λ later. items_by begun line ++ later)
      (items_from (used_with u (phase_at first begun) line) (begun_with begun line) more)) ≡ None
  none_after line more is has none (Some cause) free = refl
  none_after line more is has none None free =
      let phase = phase_at first begun in
      let said = said_in (form_of (words_of text)) in
      let after : Line → Option JobFault =
      λ l. first_fault_from (used_with u phase l) (phase_with number phase l) (number + 1) texts in
      let next : after line ≡ Some fault =
      ap after (sym has.1)
      ∙ ap (λ c. fault_at number c (after said)) (sym (has.0 ∙ free))
      ∙ sym (fault_step u phase number text texts)
      ∙ e in
      let later = none (used_with u phase line) (begun_with begun line)
      (first_with number first begun line) (number + 1) (turns_fit u phase line free fits)
      (ap (λ p. first_fault_from (used_with u phase line) p (number + 1) texts)
      (sym (phase_step number first begun line is)) ∙ next) in
      ap (option_map (λ later. items_by begun line ++ later)) later

  none_here : (read : Result Line Cause) (said : Option (List Saying)) → IfRead IsInRange read
      → HasCause u (phase_at first begun) (words_of text) read → GivesNone fault texts said
      → option_and_then (items_from u begun) (said_before read said) ≡ None
  none_here (Err cause) said is has none = refl
  none_here (Ok line) None is has none = refl
  none_here (Ok line) (Some more) is has none =
      line_step u begun first line more is fits
      ∙ none_after line more is has none (place_cause u (phase_at first begun) line) refl

pub no_items : (lines : List (List ℕ)) (fault : JobFault) → GivesNone fault lines (sayings lines)
no_items [] fault u None first number fits e = cc
no_items [] fault u (Some begun) first number fits e = refl
no_items (text ∷ texts) fault u begun first number fits e =
    none_here u begun first number text texts fault fits e (line_of (words_of text)) (sayings texts)
    (line-lawful (words_of text))
    (causes_agree u (phase_at first begun) (words_of text)) (no_items texts fault)

-- ---- a line that was taken

module _ (r next : Reading) (number : ℕ) (text : List ℕ) (line : Line) where
  pub goes_on : line_of (words_of text) ≡ Ok line → IsInRange line → IsNext r number line next
      → (rest : List (List ℕ))
      → items_after r (text ∷ rest) ≡ items_after next rest
  goes_on said is taken rest =
      ap (λ read. option_and_then (items_with r) (said_before read (sayings rest))) said
      ∙ by (sayings rest)
    where
      joined : (a b : List Item) (x : Option (List Item))
          → option_map (λ later. a ++ later) (option_map (λ later. b ++ later) x)
          ≡ option_map (λ later. (a ++ b) ++ later) x
      joined a b None = refl
      joined a b (Some later) = ap Some (sym (append_assoc a b later))

      by : (said : Option (List Saying))
          → option_and_then (items_with r) (said_before (Ok line) said)
          ≡ option_and_then (items_with next) said
      by None = refl
      by (Some more) =
          let phase = phase_of r in
          let x = items_from (used_with (used_by r) phase line) (begun_with r.begun line) more in
          ap (option_map (λ later. r.items ++ later))
          (line_step (used_by r) r.begun r.first line more is r.some_turns
          ∙ ap (λ c. unless c (option_map (λ later. items_by r.begun line ++ later) x)) taken.0)
          ∙ joined r.items (items_by r.begun line) x
          ∙ ap (λ (xs : List Item). option_map (λ later. xs ++ later) x) (sym taken.4)
          ∙ ap (λ b. option_map (λ later. next.items ++ later)
          (items_from (used_with (used_by r) phase line) b more)) (sym taken.3)
          ∙ ap (λ u. option_map (λ later. next.items ++ later) (items_from u next.begun more))
          (sym taken.1)

  pub faultless : line_of (words_of text) ≡ Ok line → IsNext r number line next
      → (rest : List (List ℕ))
      → fault_after r number (text ∷ rest) ≡ fault_after next (number + 1) rest
  faultless said taken rest =
      let u = used_by r in
      let phase = phase_of r in
      let has = subst (HasCause u phase (words_of text)) said
      (causes_agree u phase (words_of text)) in
      let after : Line → Option JobFault =
      λ l. first_fault_from (used_with u phase l) (phase_with number phase l) (number + 1) rest in
      fault_step u phase number text rest
      ∙ ap (λ c. fault_at number c (after (said_in (form_of (words_of text))))) (has.0 ∙ taken.0)
      ∙ ap after has.1
      ∙ (λ i. first_fault_from (sym taken.1 i) (sym taken.2 i) (number + 1) rest)
