-- A phase has no more pieces on a page than operations.
use Rattle.std.proofs.Common.{◌≡◌, ℕ, zero, suc, ◌+◌, ◌^◌, ◌<◌, ◌≤◌, Bool, true, false, cond, eqb, List, [], ◌∷◌, ◌++◌, length, inl, inr, refl, arith}
use Rattle.std.proofs.lemmas.Bool.{cases_Bool, cases_lt, eqb-true}
use Rattle.zr_base.specs.declared.op.Op.{Op}
use Rattle.zr_base.specs.Pieces.{first_page, pages_of}
use Rattle.zr_base.specs.Plain.{is_void, has_event}
use Rattle.plain_disk.specs.Ends.{is_single}
use Rattle.call_history.specs.declared.part.Part.{Part}
use Rattle.call_history.specs.Parts.{parts_from, parts_of, parts, program}
use Rattle.actor_steps.specs.Places.{operations, IsWork}
use Rattle.joint_rule.specs.Begins.{piece_on, pieces_on, pieces_each}

module _ (size page : ℕ) where
  on_append : (xs ys : List Part)
      → pieces_on size page (xs ++ ys) ≡ pieces_on size page xs + pieces_on size page ys
  on_append [] ys = omega arith
  on_append (x ∷ xs) ys = let q = on_append xs ys in omega arith

  at_most_one : (p : Part) → piece_on size page p ≤ 1
  at_most_one p = elim (cases_Bool (is_single size p.op)) [
    | inl on ↦ rw on (omega arith)
    | inr off ↦ rw off (elim (cases_Bool (eqb p.page page)) [
      | inl same ↦ rw same (omega arith)
      | inr not ↦ rw not (omega arith)
    ])
  ]

  none_before : (p : Part) → page < p.page → piece_on size page p ≡ 0
  none_before p lt = elim (cases_Bool (is_single size p.op)) [
    | inl on ↦ rw on refl
    | inr off ↦ rw off (elim (cases_Bool (eqb p.page page)) [
      | inl same ↦ absurd (let e = eqb-true p.page page same in let no : ⊥ = omega arith in no)
      | inr not ↦ rw not refl
    ])
  ]

  none_single : (p : Part) → is_single size p.op ≡ true → piece_on size page p ≡ 0
  none_single p on = rw on refl

  module _ (nr : ℕ) (op : Op) where
    -- the piece on a page, if it has events
    abbrev first : ℕ → List Part
    first from =
        cond (has_event op from) (record { nr = nr; op = op; page = from } ∷ []) []

    first_one : (from : ℕ) → pieces_on size page (first from) ≤ 1
    first_one from = elim (cases_Bool (has_event op from)) [
      | inl on ↦ rw on (let q = at_most_one (record { nr = nr; op = op; page = from }) in omega arith)
      | inr off ↦ rw off (omega arith)
    ]

    first_none : (from : ℕ) → page < from → pieces_on size page (first from) ≡ 0
    first_none from lt = elim (cases_Bool (has_event op from)) [
      | inl on ↦ rw on
          (let q = none_before (record { nr = nr; op = op; page = from }) lt in omega arith)
      | inr off ↦ rw off refl
    ]

    from_none : (from n : ℕ) → page < from → pieces_on size page (parts_from nr op from n) ≡ 0
    from_none from zero lt = refl
    from_none from (suc n) lt =
        let a = on_append (first from) (parts_from nr op (from + 1) n) in
        let b = first_none from lt in
        let c = from_none (from + 1) n (omega arith) in omega arith

    from_one : (from n : ℕ) → pieces_on size page (parts_from nr op from n) ≤ 1
    from_one from zero = omega arith
    from_one from (suc n) =
        let a = on_append (first from) (parts_from nr op (from + 1) n) in
        elim (cases_lt page (from + 1)) [
          | inl lt ↦ (let b = first_one from in
              let c = from_none (from + 1) n lt in omega arith)
          | inr ge ↦ (let b = skip from (omega arith) in
              let c = from_one (from + 1) n in omega arith)
        ] where
          skip : (from : ℕ) → from < page → pieces_on size page (first from) ≡ 0
          skip from lt = elim (cases_Bool (has_event op from)) [
            | inl on ↦ rw on
                (let q = other (record { nr = nr; op = op; page = from }) lt in omega arith)
            | inr off ↦ rw off refl
          ] where
            other : (p : Part) → p.page < page → piece_on size page p ≡ 0
            other p lt = elim (cases_Bool (is_single size p.op)) [
              | inl on ↦ rw on refl
              | inr off ↦ rw off (elim (cases_Bool (eqb p.page page)) [
                | inl same ↦ absurd
                    (let e = eqb-true p.page page same in let no : ⊥ = omega arith in no)
                | inr not ↦ rw not refl
              ])
            ]

    some_one : pieces_on size page (parts_of size nr op) ≤ 1
    some_one = elim (cases_Bool (is_single size op)) [
      | inl on ↦ rw on
          (let q = none_single (record { nr = nr; op = op; page = first_page op }) on in omega arith)
      | inr off ↦ rw off (from_one (first_page op) (pages_of op))
    ]

  -- none where the operation does nothing
  void_one : (b : Bool) (ps : List Part) → pieces_on size page ps ≤ 1
      → pieces_on size page (cond b [] ps) ≤ 1
  void_one true ps one = omega arith
  void_one false ps one = one

  module _ (backed : Bool) where
    program_few : (nr : ℕ) (ops : List Op)
        → pieces_on size page (program size backed nr ops) ≤ length ops
    program_few nr [] = omega arith
    program_few nr (op ∷ ops) =
        let a = on_append (parts size backed nr op) (program size backed (nr + 1) ops) in
        let b = void_one (is_void backed op) (parts_of size nr op) (some_one nr op) in
        let c = program_few (nr + 1) ops in omega arith

    each_few : (actors : List (List Op)) → pieces_each size backed actors page ≤ operations actors
    each_few [] = omega arith
    each_few (ops ∷ more) = let a = program_few 0 ops in let b = each_few more in omega arith

    pub pieces_few : (actors : List (List Op)) → IsWork actors
        → pieces_each size backed actors page < 2 ^ 32
    pieces_few actors work = let a = each_few actors in let b = work.most in omega arith
