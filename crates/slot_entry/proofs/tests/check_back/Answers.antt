-- A huge page is kept as its bytes, in one part.
use Rattle.std.proofs.Common.{List, ℕ, true, sym, ap, ◌∙◌}
use Rattle.std.proofs.lemmas.List.{append-nil}
use Rattle.slot_entry.specs.Forms.{Pooled}
use Rattle.slot_entry.proofs.tests.check_back.Goals as goal

pub restore-requires-in-Huge : goal.restore-requires-in-Huge
restore-requires-in-Huge g c = record {
  kept = (
    c.args.page.now,
    c.is_page.ensures,
    c.in-Huge.ensures.is
        ∙ ap (λ (l : List ℕ). Pooled l true) (sym (append-nil _ ∙ c.bytes.ensures.bytes)),
  );
}
