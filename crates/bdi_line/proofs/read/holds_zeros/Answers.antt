-- The line of zeros is packed as nothing, so it is the one that was decoded.
use Rattle.std.proofs.Common.{ℕ, List, length, replicate, eqb, sym, ap, subst, ◌∙◌}
use Rattle.std.proofs.lemmas.Bool.{eqb-true}
use Rattle.bdi_line.specs.Coded.{IsCoded}
use Rattle.bdi_line.specs.declared.codes.Code.TheVariants.{Zeros}
use Rattle.bdi_line.proofs.Equal.{empty_of, zeros_are_bytes, zeros_coded}
use Rattle.bdi_line.proofs.read.holds_zeros.Goals as goal

pub returns : goal.returns
returns c =
    let p = c.args.payload.now in
    let P : List ℕ → Type 0 = λ l. IsCoded l Zeros p in (
      (λ full.
          let coded =
          zeros_coded p (empty_of p (eqb-true _ 0 (sym c.is_empty.ensures ∙ full))) in
          subst P (c.requires.only (replicate 64 0) zeros_are_bytes coded) coded),
      λ k. c.is_empty.ensures ∙ ap (λ xs. eqb (length xs) 0) k.payload_is,
    )
