-- What a line says is in its range.
use Rattle.std.proofs.Common.{◌≡◌, ℕ, suc, ◌+◌, ◌*◌, ◌/◌, ◌^◌, ◌<◌, ◌≤◌, Bool, true, false, not, ◌&&◌, ◌||◌, ◌==◌, nat_le, nat_lt, cond, List, [], ◌∷◌, length, map, get_or, IfOk, Option, Some, None, Result, Ok, Err, refl, sym, ap, ◌∙◌, subst, arith, codes, inl, inr}
use Rattle.std.specs.List.{list_all, concat}
use Rattle.std.specs.Str.{bytes_eq}
use Rattle.std.proofs.lemmas.Bool.{and_parts, not-false, eqb-true, le-leb, leb-true, ltb-true, true_from_ne_false, both_ways, cases_lt}
use Rattle.std.proofs.lemmas.Bool.Decides.{nat_tests}
use Rattle.std.proofs.lemmas.List.{length-map, get_or_past}
use Rattle.std.proofs.lemmas.List.Folds.{list_all_at}
use Rattle.std.proofs.lemmas.List.FromFn.{length-map-range_with_len, get_or-map-range_with_len}
use Rattle.zr_base.specs.Plain.{InBounds}
use Rattle.zr_base.specs.declared.op.Mode.{Mode}
use Rattle.zr_base.specs.declared.op.Turns.{Turns}
use Rattle.zr_base.specs.declared.limits.TheConstants.{MOST_PAGES, MOST_SECTORS, MOST_ACTORS}
use Rattle.job_text.specs.declared.limits.TheConstants.{MOST_BLOCKS, MOST_BUDGET, MOST_LIMIT_PAGES}
use Rattle.job_text.specs.declared.job.Report.{Report}
use Rattle.job_text.specs.declared.fault.Cause.{Cause}
use Rattle.job_text.specs.declared.fault.Cause.TheVariants as causes
use Rattle.job_text.specs.declared.fault.NotTaken.{NotTaken}
use Rattle.job_text.specs.declared.line.Line.{Line}
use Rattle.job_text.specs.Numbers.{digit_value, byte_at, is_number, size_pages, number_of, are_digits, bytes_by, turn_of}
use Rattle.job_text.specs.Lines.{Form, blank_form, disk_form, limit_form, backing_form, budget_form, budgeted_form, clock_form, max_form, report_form, actor_form, fill_form, seq_form, hex_form, read_form, discard_form, idle_all_form, idle_form, writeback_form, compact_form, schedule_form, run_form, alone, with_word, report_named, report_in, read_in, discard_in, idle_with, idle_in, mode_named, writeback_with, writeback_in, fill_in, seq_in, hex_in, stuff_in, write_in, schedule_in, named_in, form_of, fill_sectors, is_malformed, meaning, are_bounds, may_give, is_out_of_range, line_with, line_of}
use Rattle.job_text.specs.Jobs.{MayTurn}
use Rattle.job_text.specs.Answers.{Answers, IsInRange}

-- a fact of what there is, if anything
abbrev pub IfRead : {A : Type 0} → (A → Type 0) → Result A Cause → Type 0
IfRead P (Err cause) = Unit {0}
IfRead P (Ok x) = P x

-- a `schedule` has some words after it
abbrev HasWords : Form → Type 0
HasWords blank_form = Unit {0}
HasWords (disk_form size) = Unit {0}
HasWords (limit_form size) = Unit {0}
HasWords (backing_form number) = Unit {0}
HasWords (budget_form number) = Unit {0}
HasWords (budgeted_form number) = Unit {0}
HasWords (clock_form number) = Unit {0}
HasWords (max_form number) = Unit {0}
HasWords (report_form report) = Unit {0}
HasWords actor_form = Unit {0}
HasWords (fill_form start count word) = Unit {0}
HasWords (seq_form start count base step) = Unit {0}
HasWords (hex_form start count digits) = Unit {0}
HasWords (read_form start count) = Unit {0}
HasWords (discard_form start count) = Unit {0}
HasWords idle_all_form = Unit {0}
HasWords (idle_form number) = Unit {0}
HasWords (writeback_form mode) = Unit {0}
HasWords compact_form = Unit {0}
HasWords (schedule_form turns) = 1 ≤ length turns
HasWords run_form = Unit {0}

bounds : (start count : ℕ) → not (are_bounds start count) ≡ false → InBounds start count
bounds start count good = grind (arith, nat_tests, not-false (are_bounds start count) good)

may_turn : (turns : List Turns) → list_all may_give turns ≡ true → MayTurn MOST_ACTORS turns
may_turn [] all = tt
may_turn (t ∷ ts) all =
    let parts = and_parts (may_give t) (list_all may_give ts) all in (
      grind (arith, nat_tests, parts.0),
      grind (arith, nat_tests, parts.0),
      grind (arith, nat_tests, parts.0),
      may_turn ts parts.1,
    )

-- the bytes of a request, where its digits are as many as they must be
filled : (digits : List ℕ) (count : ℕ) → fill_sectors (length digits) count ≡ true → 1 ≤ count
    → count ≤ MOST_SECTORS
    → 512 * count ≤ length (bytes_by digits)
filled digits count fill some most =
    let n : length digits ≡ 1024 * count = exact (length digits) count fill some most in
    let l = length-map-range_with_len (byte_at digits) 0 (length digits / 2) in
    omega arith
  where
    exact : (digits count : ℕ) → fill_sectors digits count ≡ true → 1 ≤ count → count ≤ MOST_SECTORS
        → digits ≡ 1024 * count
    exact digits count fill some most =
        let a : nat_le 1 count ≡ true = le-leb 1 count some in
        let b : nat_le count MOST_SECTORS ≡ true = le-leb count MOST_SECTORS most in
        let c : not (nat_le 1 count && nat_le count MOST_SECTORS) ≡ false = rw (a, b) refl in
        eqb-true digits (1024 * count) (let d = ap (λ x. x || digits == 1024 * count) c in
        sym d ∙ fill)

-- each of them is a byte
digit_small : (digits : List ℕ) (i : ℕ) → are_digits 16 digits ≡ true → i < length digits
    → digit_value (get_or digits i 0) < 16
digit_small digits i are below =
    ltb-true (digit_value (get_or digits i 0)) 16 (true_from_ne_false _ (λ no.
    both_ways _ (list_all_at (λ c. nat_lt (digit_value c) 16) digits i 0 below no) are))

bytes_by-small : (digits : List ℕ) → are_digits 16 digits ≡ true → (k : ℕ)
    → get_or (bytes_by digits) k 0 < 256
bytes_by-small digits are k = elim (cases_lt k (length digits / 2)) [
  | inl below ↦
      let high = digit_small digits (2 * k) are (omega arith) in
      let low = digit_small digits (2 * k + 1) are (omega arith) in
      let e = get_or-map-range_with_len (byte_at digits) 0 (length digits / 2) k k 0 below
      (omega arith) in
      omega arith
  | inr past ↦
      let n = length-map-range_with_len (byte_at digits) 0 (length digits / 2) in
      let e = get_or_past (bytes_by digits) k 0 (omega arith) in
      omega arith
]

-- one at least, and no more than the most
sized : (n most : ℕ) → not (nat_le 1 n && nat_le n most) ≡ false → (1 ≤ n) × (n ≤ most)
sized n most good = grind (arith, nat_tests, not-false (nat_le 1 n && nat_le n most) good)

form-lawful : (form : Form) → HasWords form → is_malformed form ≡ false
    → is_out_of_range form ≡ false → IsInRange (meaning form)
unfolding is_malformed meaning
form-lawful blank_form has well good = tt
form-lawful (disk_form size) has well good = sized (size_pages size) MOST_PAGES good
form-lawful (limit_form size) has well good =
    leb-true (size_pages size) MOST_LIMIT_PAGES (not-false _ good)
form-lawful (backing_form number) has well good = sized (number_of number) MOST_BLOCKS good
form-lawful (budget_form number) has well good =
    leb-true (number_of number) MOST_BUDGET (not-false _ good)
form-lawful (budgeted_form number) has well good = tt
form-lawful (clock_form number) has well good =
    ltb-true (number_of number) (2 ^ 64) (not-false _ good)
form-lawful (max_form number) has well good = tt
form-lawful (report_form report) has well good = tt
form-lawful actor_form has well good = tt
form-lawful (fill_form start count word) has well good =
    (bounds (number_of start) (number_of count) good, tt, tt)
form-lawful (seq_form start count base step) has well good =
    (bounds (number_of start) (number_of count) good, tt, tt)
form-lawful (hex_form start count digits) has well good =
    let in_bounds = bounds (number_of start) (number_of count) good in
    let fill = and_parts (is_number start && is_number count && are_digits 16 (concat digits))
    (fill_sectors (length (concat digits)) (number_of count)) (not-false _ well) in
    let are = and_parts (is_number start && is_number count)
    (are_digits 16 (concat digits)) fill.0 in (
      in_bounds,
      filled (concat digits) (number_of count) fill.1 in_bounds.1 in_bounds.2,
      bytes_by-small (concat digits) are.1,
    )
form-lawful (read_form start count) has well good = bounds (number_of start) (number_of count) good
form-lawful (discard_form start count) has well good =
    bounds (number_of start) (number_of count) good
form-lawful idle_all_form has well good = tt
form-lawful (idle_form number) has well good = tt
form-lawful (writeback_form mode) has well good = tt
form-lawful compact_form has well good = tt
form-lawful (schedule_form turns) has well good = (
  omega (arith, length-map turns turn_of),
  may_turn (map turn_of turns) (not-false (list_all may_give (map turn_of turns)) good),
)
form-lawful run_form has well good = tt

-- ---- the words of a `schedule`

abbrev IfForm : Option Form → Type 0
IfForm None = Unit {0}
IfForm (Some form) = HasWords form

when : (b : Bool) (x y : Option Form) → IfForm x → IfForm y → IfForm (cond b x y)
when true x y p q = p
when false x y p q = q

one-word : (form : List ℕ → Form) (words : List (List ℕ))
    → ((word : List ℕ) → HasWords (form word))
    → IfForm (with_word form words)
one-word form [] has = tt
one-word form (a ∷ []) has = has a
one-word form (a ∷ b ∷ more) has = tt

alone-words : (form : Form) (words : List (List ℕ)) → HasWords form → IfForm (alone form words)
alone-words form [] has = has
alone-words form (a ∷ more) has = tt

report-words : (report : Option Report) (words : List (List ℕ)) → IfForm (report_in report words)
report-words None words = tt
report-words (Some report) words = alone-words (report_form report) words tt

read-words : (words : List (List ℕ)) → IfForm (read_in words)
read-words [] = tt
read-words (a ∷ []) = tt
read-words (a ∷ b ∷ []) = tt
read-words (a ∷ b ∷ c ∷ more) = tt

discard-words : (words : List (List ℕ)) → IfForm (discard_in words)
discard-words [] = tt
discard-words (a ∷ []) = tt
discard-words (a ∷ b ∷ []) = tt
discard-words (a ∷ b ∷ c ∷ more) = tt

idle-word : (word : List ℕ) → HasWords (idle_with word)
unfolding idle_with
idle-word word = by (bytes_eq word (codes "all"))
  where
    by : (b : Bool) → HasWords (cond b idle_all_form (idle_form word))
    by true = tt
    by false = tt

idle-words : (words : List (List ℕ)) → IfForm (idle_in words)
idle-words [] = tt
idle-words (a ∷ []) = idle-word a
idle-words (a ∷ b ∷ more) = tt

mode-word : (mode : Option Mode) → IfForm (writeback_with mode)
mode-word None = tt
mode-word (Some mode) = tt

writeback-words : (words : List (List ℕ)) → IfForm (writeback_in words)
writeback-words [] = tt
writeback-words (a ∷ []) = mode-word (mode_named a)
writeback-words (a ∷ b ∷ more) = tt

fill-words : (start count : List ℕ) (words : List (List ℕ)) → IfForm (fill_in start count words)
fill-words start count [] = tt
fill-words start count (a ∷ []) = tt
fill-words start count (a ∷ b ∷ more) = tt

seq-words : (start count : List ℕ) (words : List (List ℕ)) → IfForm (seq_in start count words)
seq-words start count [] = tt
seq-words start count (a ∷ []) = tt
seq-words start count (a ∷ b ∷ []) = tt
seq-words start count (a ∷ b ∷ c ∷ more) = tt

hex-words : (start count : List ℕ) (words : List (List ℕ)) → IfForm (hex_in start count words)
hex-words start count [] = tt
hex-words start count (a ∷ more) = tt

schedule-words : (words : List (List ℕ)) → IfForm (schedule_in words)
schedule-words [] = tt
schedule-words (a ∷ more) = let some : 1 ≤ suc (length more) = omega arith in some

write-words : (words : List (List ℕ)) → IfForm (write_in words)
unfolding stuff_in
write-words [] = tt
write-words (a ∷ []) = tt
write-words (a ∷ b ∷ []) = tt
write-words (a ∷ b ∷ kind ∷ words) =
    when (bytes_eq kind (codes "fill")) _ _ (fill-words a b words)
    (when (bytes_eq kind (codes "seq")) _ _ (seq-words a b words)
    (when (bytes_eq kind (codes "hex")) _ _ (hex-words a b words) tt))

form-words : (words : List (List ℕ)) → IfForm (form_of words)
unfolding named_in
form-words [] = tt
form-words (name ∷ words) =
    when (bytes_eq name (codes "disksize")) _ _ (one-word disk_form words (λ size. tt))
    (when (bytes_eq name (codes "mem_limit")) _ _ (one-word limit_form words (λ size. tt))
    (when (bytes_eq name (codes "backing")) _ _ (one-word backing_form words (λ number. tt))
    (when (bytes_eq name (codes "writeback_limit")) _ _ (one-word budget_form words (λ number. tt))
    (when (bytes_eq name (codes "writeback_limit_enable")) _ _
    (one-word budgeted_form words (λ number. tt))
    (when (bytes_eq name (codes "clock")) _ _ (one-word clock_form words (λ number. tt))
    (when (bytes_eq name (codes "mem_used_max")) _ _ (one-word max_form words (λ number. tt))
    (when (bytes_eq name (codes "actor")) _ _ (alone-words actor_form words tt)
    (when (bytes_eq name (codes "write")) _ _ (write-words words)
    (when (bytes_eq name (codes "read")) _ _ (read-words words)
    (when (bytes_eq name (codes "discard")) _ _ (discard-words words)
    (when (bytes_eq name (codes "idle")) _ _ (idle-words words)
    (when (bytes_eq name (codes "writeback")) _ _ (writeback-words words)
    (when (bytes_eq name (codes "compact")) _ _ (alone-words compact_form words tt)
    (when (bytes_eq name (codes "schedule")) _ _ (schedule-words words)
    (when (bytes_eq name (codes "run")) _ _ (alone-words run_form words tt)
    (report-words (report_named name) words))))))))))))))))

line-lawful-by : (form : Form) → HasWords form → (m b : Bool) → is_malformed form ≡ m
    → is_out_of_range form ≡ b
    → IfRead IsInRange (cond m (Err causes.Number) (cond b (Err causes.Range) (Ok (meaning form))))
line-lawful-by form has true b well good = tt
line-lawful-by form has false true well good = tt
line-lawful-by form has false false well good = form-lawful form has well good

pub line-lawful : (words : List (List ℕ)) → IfRead IsInRange (line_of words)
line-lawful words = by (form_of words) (form-words words)
  where
    by : (form : Option Form) → IfForm form → IfRead IsInRange (line_with form)
    by None has = tt
    by (Some form) has = line-lawful-by form has (is_malformed form)
        (is_out_of_range form) refl refl

-- what a call that answers for words gives
pub answered-lawful : (words : List (List ℕ)) (result : Result Line NotTaken)
    → Answers (line_of words) result
    → IfOk result IsInRange
answered-lawful words (Ok line) is = let P : Result Line Cause → Type 0 = IfRead IsInRange in
    subst P is (line-lawful words)
answered-lawful words (Err stop) is = tt
