use Rattle.std.proofs.Common.{◌≡◌, ℕ, ◌≤◌, List, [], ◌∷◌, length, map, None, refl, arith}
use Rattle.std.proofs.lemmas.List.{length-map}
use Rattle.job_print.specs.Reading.{hex_in}
use Rattle.job_print.proofs.lines.hex_line.Goals as goal

-- more words than one
several : (words : List (List ℕ)) → 2 ≤ length words → None ≡ hex_in words
unfolding hex_in
several [] some = refl
several (digits ∷ []) some = absurd (omega (arith, some))
several (digits ∷ word ∷ words) some = refl

pub returns-in-len2-up : goal.returns-in-len2-up
returns-in-len2-up c =
    several (map (λ word. word.now) c.args.words.now)
    (omega (arith, length-map c.args.words.now (λ word. word.now)))
