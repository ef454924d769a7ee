use Rattle.std.proofs.Common.{◌≡◌, ◌++◌, OnOk, refl, sym, subst}
use Rattle.job_print.specs.declared.line.Refusal.{Refusal}
use Rattle.job_print.specs.declared.line.Refusal.TheVariants as refusals
use Rattle.job_print.specs.declared.line.OutLine.TheVariants as lines
use Rattle.job_print.specs.Texts.{refusal_of, why_of, out_line}
use Rattle.job_print.proofs.put.put_refused.Goals as goal

printed_of : (refusal : Refusal) → refusal_of (why_of refusal) ≡ refusal
printed_of refusals.DisksizeBusy = refl
printed_of refusals.BackingBusy = refl
printed_of refusals.BackingRange = refl

pub returns-clause-line : goal.returns-clause-line
returns-clause-line c =
    let P : Refusal → Type 0 = λ refusal. OnOk c.put_refusal.result
    (c.put_refusal.new.out.items ≡ c.args.out.now.items ++ out_line (lines.Refused refusal)) in
    subst P (sym (printed_of c.args.refusal)) c.put_refusal.ensures
