use Rattle.std.proofs.Common.{◌+◌, ◌-◌, ◌==◌, ◌++◌, length, map, take, drop, ap, sym, ◌∙◌, arith}
use Rattle.std.specs.List.{slice_split}
use Rattle.std.proofs.lemmas.List.{map_push}
use Rattle.std.proofs.lemmas.List.Quantifiers.{position-Some}
use Rattle.job_print.proofs.Firsts.{part_within, word_more, word_last}
use Rattle.job_print.proofs.lines.words.Goals as goal

pub overflow_add-rest : goal.overflow_add-rest
overflow_add-rest c =
    let within = c.loop-at.invariant.within in
    let found =
    position-Some (λ x. x == 32) c.loop-at.rest.now c.in-Some.at 0 (sym c.in-Some.ensures) in
    omega (arith, found.0)

pub loop-at-preserved : goal.loop-at-preserved
loop-at-preserved c =
    let rest = c.loop-at.rest.now in
    let at = c.in-Some.at in
    record {
      split = c.loop-at.invariant.split
          ∙ word_more (map (λ word. word.now) c.loop-at.words.items) rest at c.in-Some.ensures
          ∙ ap (λ ws. ws ++ slice_split (λ x. x == 32) (take (length rest - (at + 1)) (drop (at + 1) rest)))
          (sym (ap (map (λ word. word.now)) c.in_ok-push.ensures.items
          ∙ map_push (λ word. word.now) c.loop-at.words.items _));
      within = part_within _ _ _ rest c.loop-at.invariant.within;
    }

pub returns : goal.returns
returns c =
    ap (map (λ word. word.now)) c.in_ok-push-2.ensures.items
    ∙ map_push (λ word. word.now) c.loop-at.words.items _
    ∙ word_last (map (λ word. word.now) c.loop-at.words.items) c.loop-at.rest.now c.in_default.ensures
    ∙ sym c.loop-at.invariant.split
