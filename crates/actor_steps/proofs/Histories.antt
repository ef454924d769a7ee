-- The pieces that are over, with one more.
use Rattle.std.proofs.Common.{◌≡◌, ◌≢◌, ℕ, ◌+◌, Bool, true, false, cond, eqb, List, [], ◌∷◌, ◌++◌, refl, sym, ap, ◌∙◌, arith, inl, inr}
use Rattle.std.proofs.lemmas.Bool.{cases_Bool, eqb-true, eq-eqb, ne_eqb}
use Rattle.zr_base.specs.declared.op.OpEnd.TheVariants as ends
use Rattle.call_history.specs.declared.part.PartEnd.{PartEnd}
use Rattle.call_history.specs.declared.part.PartEnd.TheVariants as over
use Rattle.call_history.specs.declared.part.Done.{Done}
use Rattle.call_history.specs.Parts.{is_carried, op_end, end_step, end_by}
use Rattle.actor_steps.specs.Workers.{over_of, AllCarried}

module _ (nr : ℕ) where
  pub over_more : (ds : List Done) (d : Done)
      → over_of nr (ds ++ d ∷ []) ≡ over_of nr ds + cond (eqb d.part.nr nr) 1 0
  over_more [] d = elim (cases_Bool (eqb d.part.nr nr)) [
    | inl on ↦ rw on (omega arith)
    | inr off ↦ rw off (omega arith)
  ]
  over_more (x ∷ xs) d = let q = over_more xs d in elim (cases_Bool (eqb x.part.nr nr)) [
    | inl on ↦ rw on (omega arith)
    | inr off ↦ rw off q
  ]

  pub over_here : (ds : List Done) (d : Done) → d.part.nr ≡ nr
      → over_of nr (ds ++ d ∷ []) ≡ over_of nr ds + 1
  over_here ds d e = over_more ds d
      ∙ ap (λ (b : Bool). over_of nr ds + cond b 1 0) (eq-eqb d.part.nr nr e)

  pub over_else : (ds : List Done) (d : Done) → d.part.nr ≢ nr
      → over_of nr (ds ++ d ∷ []) ≡ over_of nr ds
  over_else ds d ne = over_more ds d
      ∙ ap (λ (b : Bool). over_of nr ds + cond b 1 0) (ne_eqb d.part.nr nr ne)
      ∙ (let q : over_of nr ds + 0 ≡ over_of nr ds = omega arith in q)

  pub carried_more : (ds : List Done) (d : Done) → AllCarried nr ds
      → (d.part.nr ≡ nr → is_carried d.end ≡ true) → AllCarried nr (ds ++ d ∷ [])
  carried_more [] d all last = (last, tt)
  carried_more (x ∷ xs) d all last = (all.0, carried_more xs d all.1 last)

  pub none_carried : (ds : List Done) → over_of nr ds ≡ 0 → AllCarried nr ds
  none_carried [] none = tt
  none_carried (x ∷ xs) none = elim (cases_Bool (eqb x.part.nr nr)) [
    | inl on ↦ absurd
        (let q = ap (λ (b : Bool). cond b (1 + over_of nr xs) (over_of nr xs)) on in
        let no : ⊥ = omega arith in no)
    | inr off ↦ (
      λ e. absurd (let q : true ≡ false = sym (eq-eqb x.part.nr nr e) ∙ off in cc),
      none_carried xs
          (sym (ap (λ (b : Bool). cond b (1 + over_of nr xs) (over_of nr xs)) off) ∙ none),
    )
  ]

  step_is : (e : PartEnd) (n : ℕ) → end_step e n ends.Ok ≡ op_end e n
  step_is over.Carried n = refl
  step_is (over.AtLimit charged need limit) n = refl
  step_is over.NoMemory n = refl
  step_is (over.Eio fault) n = refl
  step_is (over.Whole end) n = refl

  -- the last piece of an operation whose pieces were carried out tells its end
  pub end_here : (n : ℕ) (ds : List Done) (d : Done) → d.part.nr ≡ nr → AllCarried nr ds
      → end_by nr n (ds ++ d ∷ []) ≡ op_end d.end (n + over_of nr ds)
  end_here n [] d e all =
      ap (λ (b : Bool). cond b (end_step d.end n ends.Ok) ends.Ok) (eq-eqb d.part.nr nr e)
      ∙ step_is d.end n ∙ ap (op_end d.end) (let q : n ≡ n + 0 = omega arith in q)
  end_here n (x ∷ xs) d e all = elim (cases_Bool (eqb x.part.nr nr)) [
    | inl on ↦ ap (λ (b : Bool). cond b (end_step x.end n (end_by nr (n + 1) (xs ++ d ∷ [])))
        (end_by nr n (xs ++ d ∷ []))) on
        ∙ ap (λ (b : Bool). cond b (end_by nr (n + 1) (xs ++ d ∷ [])) (op_end x.end n))
        (all.0 (eqb-true x.part.nr nr on))
        ∙ end_here (n + 1) xs d e all.1
        ∙ ap (op_end d.end) ((let q : n + 1 + over_of nr xs ≡ n + (1 + over_of nr xs) = omega arith
        in q)
        ∙ sym (ap (λ (b : Bool). n + cond b (1 + over_of nr xs) (over_of nr xs)) on))
    | inr off ↦ ap (λ (b : Bool). cond b (end_step x.end n (end_by nr (n + 1) (xs ++ d ∷ [])))
        (end_by nr n (xs ++ d ∷ []))) off
        ∙ end_here n xs d e all.1
        ∙ sym (ap (λ (b : Bool). op_end d.end (n + cond b (1 + over_of nr xs) (over_of nr xs))) off)
  ]

  -- a piece of another operation leaves its end
  pub end_else : (n : ℕ) (ds : List Done) (d : Done) → d.part.nr ≢ nr
      → end_by nr n (ds ++ d ∷ []) ≡ end_by nr n ds
  end_else n [] d ne =
      ap (λ (b : Bool). cond b (end_step d.end n ends.Ok) ends.Ok) (ne_eqb d.part.nr nr ne)
  end_else n (x ∷ xs) d ne =
      λ i. cond (eqb x.part.nr nr) (end_step x.end n (end_else (n + 1) xs d ne i))
      (end_else n xs d ne i)
