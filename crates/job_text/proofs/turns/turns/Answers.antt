use Rattle.std.proofs.Common.{◌≡◌, false, map, cond, List, ℕ, Result, Ok, Err, IsErr, IsErrAnd, ap, ◌∙◌}
use Rattle.std.specs.List.{list_all}
use Rattle.zr_base.specs.declared.op.Turns.{Turns}
use Rattle.job_text.specs.declared.fault.Cause.{Cause}
use Rattle.job_text.specs.declared.fault.Cause.TheVariants as causes
use Rattle.job_text.specs.declared.fault.NotTaken.{NotTaken}
use Rattle.job_text.specs.declared.fault.NotTaken.TheVariants as untaken
use Rattle.job_text.specs.Numbers.{turn_of}
use Rattle.job_text.specs.Lines.{may_give}
use Rattle.job_text.specs.Answers.{Answers, turns_with}
use Rattle.job_text.proofs.Joins.{turn_at, bad_at}
use Rattle.job_text.proofs.turns.turns.Goals as goal

refused : (words : List (List ℕ)) (cause : Cause) (r : Result (List Turns) NotTaken)
    → IsErr r × IsErrAnd r (λ stop. stop ≡ untaken.Faulty cause)
    → cause ≡ causes.Range → list_all may_give (map turn_of words) ≡ false
    → Answers (turns_with words) r
refused words cause (Ok turns) h range bad = let off = h.0 in cc
refused words cause (Err (untaken.Faulty told)) h range bad =
    let same : causes.Range ≡ told = cc in
    ap (λ b. cond b (Ok (map turn_of words)) (Err causes.Range)) bad
    ∙ ap (λ (x : Cause). Err x) same
refused words cause (Err (untaken.Memory e)) h range bad = tt

pub allowed-requires : goal.allowed-requires
allowed-requires c =
    turn_at c.args.words.now c.loop-word.word-index _ c.loop-word-test.true c.requires

pub returns-in_err-turns : goal.returns-in_err-turns
returns-in_err-turns c =
    let range = c.in_err-turns.ensures.range in
    refused (map (λ word. word.now) c.args.words.now) c.in_err-turns.field-0.0
    c.from_residual.result c.from_residual.ensures range.0
    (bad_at c.args.words.now c.loop-word.word-index _ c.loop-word-test.true range.1)
