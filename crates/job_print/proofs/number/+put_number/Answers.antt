use Rattle.std.proofs.Common.{◌≡◌, ◌++◌, ◌∷◌, [], ◌+◌, ◌/◌, ◌%◌, sym, ap, ◌∙◌, append_assoc, arith}
use Rattle.std.specs.Fmt.{decimal}
use Rattle.std.proofs.lemmas.Fmt.{decimal_digit, decimal_step}
use Rattle.job_print.proofs.number.+put_number.Goals as goal
use Rattle.job_print.proofs.number.+put_number.Goals.{then-n-ge10+in_ok-put_number, else-n-ge10}

pub returns : goal.returns
returns t c =
    let n = c.args.n in
    let old = c.args.out.now.items in
    let last = (48 + n % 10) ∷ [] in
    elim c.if-n-ge10.branch [
      | then-n-ge10+in_ok-put_number w ↦
          let step : decimal n ≡ decimal (n / 10) ++ last = decimal_step n (omega arith)
          c.ranges.n.fits in
          c.in_ok-push.ensures.items
          ∙ ap (λ o. o.items ++ last) w.out-is
          ∙ ap (λ xs. xs ++ last) w.in_ok-put_number.ensures
          ∙ append_assoc old (decimal (n / 10)) last
          ∙ ap (λ xs. old ++ xs) (sym step)
      | else-n-ge10 w ↦
          let digit : decimal n ≡ (48 + n) ∷ [] = decimal_digit n (omega arith) in
          let same : n % 10 ≡ n = omega arith in
          c.in_ok-push.ensures.items
          ∙ ap (λ o. o.items ++ last) w.out-is
          ∙ ap (λ d. old ++ (48 + d) ∷ []) same
          ∙ ap (λ xs. old ++ xs) (sym digit)
    ]
