use Rattle.std.proofs.Common.{map, Option, Result, Ok, Err, OnOk, IfErr, sym, subst, ap, ◌∙◌}
use Rattle.job_text.specs.declared.fault.NotTaken.{NotTaken}
use Rattle.job_text.specs.Lines.{line_of}
use Rattle.job_text.specs.declared.fault.Cause.{Cause}
use Rattle.job_text.specs.Reading.{used_by, phase_of, IsNotTaken}
use Rattle.job_text.proofs.Steps.{cause_is, goes_on, faultless}
use Rattle.job_text.proofs.reader.take_line.Goals as goal

on_ok : (P Q : Type 0) (r : Result (Unit {0}) NotTaken) → (P → Q) → OnOk r P → OnOk r Q
on_ok P Q (Ok x) f h = f h
on_ok P Q (Err stop) f h = tt

pub returns-clause-fault : goal.returns-clause-fault
returns-clause-fault c =
    let words = ap (map (λ word. word.now)) c.deref.ensures.value ∙ c.in_ok-words.ensures in
    let P : Option Cause → Type 0 = λ cause. IfErr c.take.result (IsNotTaken cause) in
    subst P
    (sym (cause_is (used_by c.args.reading.now) (phase_of c.args.reading.now) c.args.line.now
    c.in_ok-line.line (ap line_of (sym words) ∙ c.in_ok-line.ensures.said)))
    c.take.ensures.fault

pub returns-clause-goes_on : goal.returns-clause-goes_on
returns-clause-goes_on c =
    let words = ap (map (λ word. word.now)) c.deref.ensures.value ∙ c.in_ok-words.ensures in
    on_ok _ _ c.take.result
    (goes_on c.args.reading.now c.take.new.self c.args.number c.args.line.now c.in_ok-line.line
    (ap line_of (sym words) ∙ c.in_ok-line.ensures.said) c.in_ok-line.ensures.lawful)
    c.take.ensures.taken

pub returns-clause-faultless : goal.returns-clause-faultless
returns-clause-faultless c =
    let words = ap (map (λ word. word.now)) c.deref.ensures.value ∙ c.in_ok-words.ensures in
    on_ok _ _ c.take.result
    (faultless c.args.reading.now c.take.new.self c.args.number c.args.line.now c.in_ok-line.line
    (ap line_of (sym words) ∙ c.in_ok-line.ensures.said))
    c.take.ensures.taken
