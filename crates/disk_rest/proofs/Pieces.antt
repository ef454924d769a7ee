-- A page has at most one piece of each operation.
use Rattle.std.proofs.Common.{◌≡◌, ◌≢◌, ℕ, zero, suc, ◌+◌, ◌≤◌, ◌<◌, Bool, true, false, cond, eqb, List, [], ◌∷◌, ◌++◌, length, inl, inr, refl, ap, ◌∙◌, arith}
use Rattle.std.specs.Prelude.{sum_by}
use Rattle.std.proofs.lemmas.Bool.{cases_Bool, cases_eq, ne_eqb}
use Rattle.std.proofs.lemmas.List.Sums.{sum_by-cons}
use Rattle.zr_base.specs.declared.op.Op.{Op}
use Rattle.zr_base.specs.Pieces.{first_page, pages_of}
use Rattle.zr_base.specs.Plain.{has_event, is_void}
use Rattle.plain_disk.specs.Ends.{is_single}
use Rattle.call_history.specs.declared.part.Part.{Part}
use Rattle.call_history.specs.Parts.{parts_from, parts_of, parts, program}
use Rattle.joint_rule.specs.Begins.{piece_on, pieces_on, pieces_each}

module _ (size p : ℕ) where
  appended : (xs ys : List Part)
      → pieces_on size p (xs ++ ys) ≡ pieces_on size p xs + pieces_on size p ys
  appended [] ys = omega arith
  appended (x ∷ xs) ys = let r = appended xs ys in omega arith

  -- a piece is one at most, and none on another page
  bit_most : (b c : Bool) → let n : ℕ = cond b 0 (cond c 1 0) in n ≤ 1
  bit_most true c = let q : 0 ≤ 1 = omega arith in q
  bit_most false true = let q : 1 ≤ 1 = omega arith in q
  bit_most false false = let q : 0 ≤ 1 = omega arith in q

  bit_none : (b c : Bool) → c ≡ false → let n : ℕ = cond b 0 (cond c 1 0) in n ≡ 0
  bit_none true c e = refl
  bit_none false c e = ap (λ (x : Bool). cond x 1 0) e

  most_one : (x : Part) → piece_on size p x ≤ 1
  most_one x = bit_most (is_single size x.op) (eqb x.page p)

  elsewhere : (x : Part) → x.page ≢ p → piece_on size p x ≡ 0
  elsewhere x ne = bit_none (is_single size x.op) (eqb x.page p) (ne_eqb x.page p ne)

  -- the piece of one page, where it has events
  abbrev head : Bool → Part → List Part
  head b x = cond b (x ∷ []) []

  head_most : (b : Bool) (x : Part) → pieces_on size p (head b x) ≤ 1
  head_most true x = let m = most_one x in omega arith
  head_most false x = omega arith

  head_none : (b : Bool) (x : Part) → x.page ≢ p → pieces_on size p (head b x) ≡ 0
  head_none true x ne = let e = elsewhere x ne in omega arith
  head_none false x ne = refl

  module _ (nr : ℕ) (op : Op) where
    abbrev part_at : ℕ → Part
    part_at q = record { nr = nr; op = op; page = q }

    later_none : (q n : ℕ) → p < q → pieces_on size p (parts_from nr op q n) ≡ 0
    later_none q zero lt = refl
    later_none q (suc n) lt =
        let a = appended (head (has_event op q) (part_at q)) (parts_from nr op (q + 1) n) in
        let h = head_none (has_event op q) (part_at q) (λ e. let none : ⊥ = omega arith in none) in
        let r = later_none (q + 1) n (omega arith) in omega arith

    from_most : (q n : ℕ) → pieces_on size p (parts_from nr op q n) ≤ 1
    from_most q zero = omega arith
    from_most q (suc n) =
        let a = appended (head (has_event op q) (part_at q)) (parts_from nr op (q + 1) n) in
        elim (cases_eq q p) [
          | inl here ↦
              let h = head_most (has_event op q) (part_at q) in
              let r = later_none (q + 1) n (omega arith) in omega arith
          | inr ne ↦
              let h = head_none (has_event op q) (part_at q) ne in
              let r = from_most (q + 1) n in omega arith
        ]

    single_none : (b : Bool) → is_single size op ≡ b → b ≡ true
        → piece_on size p (part_at (first_page op)) ≡ 0
    single_none b is e = ap (λ (x : Bool). cond x 0 (cond (eqb (first_page op) p) 1 0)) (is ∙ e)

    some_most : pieces_on size p (parts_of size nr op) ≤ 1
    some_most = elim (cases_Bool (is_single size op)) [
      | inl single ↦
          let s = single_none true single refl in
          let e : pieces_on size p (parts_of size nr op) ≡ piece_on size p (part_at (first_page op)) + 0 =
          ap (λ (b : Bool). pieces_on size p (cond b (part_at (first_page op) ∷ [])
          (parts_from nr op (first_page op) (pages_of op)))) single in omega arith
      | inr many ↦
          let m = from_most (first_page op) (pages_of op) in
          let e : pieces_on size p (parts_of size nr op)
          ≡ pieces_on size p (parts_from nr op (first_page op) (pages_of op)) =
          ap (λ (b : Bool). pieces_on size p (cond b (part_at (first_page op) ∷ [])
          (parts_from nr op (first_page op) (pages_of op)))) many in omega arith
    ]

  -- none where the operation does nothing
  void_most : (b : Bool) (ps : List Part) → pieces_on size p ps ≤ 1
      → pieces_on size p (cond b [] ps) ≤ 1
  void_most true ps most = omega arith
  void_most false ps most = most

  program_most : (backed : Bool) (nr : ℕ) (ops : List Op)
      → pieces_on size p (program size backed nr ops) ≤ length ops
  program_most backed nr [] = omega arith
  program_most backed nr (op ∷ ops) =
      let a = appended (parts size backed nr op) (program size backed (nr + 1) ops) in
      let m = void_most (is_void backed op) (parts_of size nr op) (some_most nr op) in let r = program_most backed (nr + 1) ops in omega arith

  -- all actors have at most as many pieces on a page as operations
  pub pieces_most : (backed : Bool) (actors : List (List Op))
      → pieces_each size backed actors p ≤ sum_by (λ (ops : List Op). length ops) actors
  pieces_most backed [] = omega arith
  pieces_most backed (ops ∷ more) =
      let m = program_most backed 0 ops in let r = pieces_most backed more in
      let s = sum_by-cons (λ (xs : List Op). length xs) ops more in omega arith
