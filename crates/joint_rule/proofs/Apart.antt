-- No piece of a program comes twice.
use Rattle.std.proofs.Common.{◌≡◌, ◌+◌, ◌≤◌, ◌<◌, ◌∷◌, ◌++◌, ℕ, zero, suc, eqb, List, [], refl, sym, subst, arith, inl, inr, Bool}
use Rattle.call_history.specs.Parts.{Follows, is_carried, is_on, left_by, noted_on, parts, parts_from, program, without, stands_so, parts_of}
use Rattle.call_history.specs.declared.part.Done.{Done}
use Rattle.call_history.specs.declared.part.Part.{Part}
use Rattle.call_history.specs.declared.part.PartEnd.{PartEnd}
use Rattle.joint_rule.proofs.Tagged.{Lacks}
use Rattle.joint_rule.proofs.Stages.{Every, every_append, every_left, every_todo, every_without}
use Rattle.plain_disk.specs.Ends.{is_single}
use Rattle.std.proofs.lemmas.Bool.{and_parts, cases_Bool, eqb-true}
use Rattle.std.specs.List.{AllByRecursion}
use Rattle.zr_base.specs.Pieces.{first_page, pages_of}
use Rattle.zr_base.specs.Plain.{has_event, is_void}
use Rattle.zr_base.specs.declared.op.Op.{Op}

every_map : (P Q : Part → Type 0) → ((p : Part) → P p → Q p) → (ps : List Part) → Every P ps
    → Every Q ps
every_map P Q f [] all = tt
every_map P Q f (p ∷ ps) all = (f p all.0, every_map P Q f ps all.1)

-- the second piece is of another operation, or on a later page
abbrev Later : Part → Part → Type 0
Later p q = p.nr ≡ q.nr → p.page < q.page

-- each piece is later than those before it
abbrev Rising : List Part → Type 0
Rising [] = Unit {0}
Rising (p ∷ ps) = Every (Later p) ps × Rising ps

rising_append : (ps qs : List Part) → Rising ps → Rising qs → Every (λ p. Every (Later p) qs) ps
    → Rising (ps ++ qs)
rising_append [] qs r s all = s
rising_append (p ∷ ps) qs r s all =
    (every_append (Later p) ps qs r.0 all.0, rising_append ps qs r.1 s all.1)

rising_without : (nr : ℕ) (ps : List Part) → Rising ps → Rising (without nr ps)
rising_without nr [] r = tt
rising_without nr (p ∷ ps) r = elim (cases_Bool (eqb p.nr nr)) [
  | inl on ↦ rw on (rising_without nr ps r.1)
  | inr off ↦ rw off (every_without (Later p) nr ps r.0, rising_without nr ps r.1)
]

rising_left : (end : PartEnd) (nr : ℕ) (ps : List Part) → Rising ps → Rising (left_by end nr ps)
rising_left end nr ps r = elim (cases_Bool (is_carried end))
    [ inl on ↦ rw on r | inr off ↦ rw off (rising_without nr ps r) ]

-- ---- programs

-- the pieces of an operation from a page on
abbrev From : ℕ → ℕ → Part → Type 0
From nr page p = (p.nr ≡ nr) × (page ≤ p.page)

module _ (size nr : ℕ) (op : Op) where
  from_page : (page n : ℕ) → Every (From nr page) (parts_from nr op page n)
  from_page page zero = tt
  from_page page (suc n) = let more = every_map (From nr (page + 1)) (From nr page)
      (λ p f. (f.0, let le = f.1 in omega arith)) (parts_from nr op (page + 1) n)
      (from_page (page + 1) n) in
      elim (cases_Bool (has_event op page))
      [ inl on ↦ rw on ((refl, omega arith), more) | inr off ↦ rw off more ]

  from_rising : (page n : ℕ) → Rising (parts_from nr op page n)
  from_rising page zero = tt
  from_rising page (suc n) = let more = from_rising (page + 1) n in
      elim (cases_Bool (has_event op page)) [
        | inl on ↦ rw on (
          every_map (From nr (page + 1))
              (Later (record { nr = nr; op = op; page = page }))
              (λ p f e. let le = f.1 in omega arith) (parts_from nr op (page + 1) n)
              (from_page (page + 1) n),
          more,
        )
        | inr off ↦ rw off more
      ]

  parts_rising : Rising (parts_of size nr op)
  parts_rising = elim (cases_Bool (is_single size op)) [
    | inl on ↦ rw on (tt, tt)
    | inr off ↦ rw off (from_rising (first_page op) (pages_of op))
  ]

  parts_are : Every (λ p. p.nr ≡ nr) (parts_of size nr op)
  parts_are = elim (cases_Bool (is_single size op)) [
    | inl on ↦ rw on (refl, tt)
    | inr off ↦ rw off (every_map (From nr (first_page op)) (λ p. p.nr ≡ nr) (λ p f. f.0)
        (parts_from nr op (first_page op) (pages_of op)) (from_page (first_page op) (pages_of op)))
  ]

module _ (size : ℕ) (backed : Bool) where
  some_rising : (nr : ℕ) (op : Op) → Rising (parts size backed nr op)
  some_rising nr op = elim (cases_Bool (is_void backed op))
      [ inl on ↦ rw on tt | inr off ↦ rw off (parts_rising size nr op) ]

  some_are : (nr : ℕ) (op : Op) → Every (λ p. p.nr ≡ nr) (parts size backed nr op)
  some_are nr op = elim (cases_Bool (is_void backed op))
      [ inl on ↦ rw on tt | inr off ↦ rw off (parts_are size nr op) ]

  program_from : (nr : ℕ) (ops : List Op) → Every (λ p. nr ≤ p.nr) (program size backed nr ops)
  program_from nr [] = tt
  program_from nr (op ∷ ops) = every_append (λ p. nr ≤ p.nr) (parts size backed nr op)
      (program size backed (nr + 1) ops)
      (every_map (λ p. p.nr ≡ nr) (λ p. nr ≤ p.nr) (λ p e. omega arith) (parts size backed nr op)
      (some_are nr op))
      (every_map (λ p. nr + 1 ≤ p.nr) (λ p. nr ≤ p.nr) (λ p le. omega arith)
      (program size backed (nr + 1) ops) (program_from (nr + 1) ops))

  program_rising : (nr : ℕ) (ops : List Op) → Rising (program size backed nr ops)
  program_rising nr [] = tt
  program_rising nr (op ∷ ops) = rising_append (parts size backed nr op)
      (program size backed (nr + 1) ops)
      (some_rising nr op) (program_rising (nr + 1) ops)
      (every_map (λ p. p.nr ≡ nr) (λ p. Every (Later p) (program size backed (nr + 1) ops))
      (λ p e. every_map (λ q. nr + 1 ≤ q.nr) (Later p) (λ q le s. absurd (omega arith))
      (program size backed (nr + 1) ops) (program_from (nr + 1) ops)) (parts size backed nr op)
      (some_are nr op))

-- ---- what is over

module _ (So : Part → PartEnd → Type 0) (p : Part) (rest : List Part) where
  over_earlier : (ps : List Part) (ds : List Done) → Follows So ps ds (p ∷ rest) → Rising ps
      → AllByRecursion (λ (d : Done). Later d.part p) ds
  over_earlier ps [] f r = tt
  over_earlier [] (d ∷ ds) f r = absurd f
  over_earlier (q ∷ ps) (d ∷ ds) f r = (
    subst (λ (x : Part). Later x p) (sym f.0)
        (every_todo (Later q) So (left_by d.end q.nr ps) ds (p ∷ rest) f.2
        (every_left (Later q) d.end q.nr ps r.0)).0,
    over_earlier (left_by d.end q.nr ps) ds f.2 (rising_left d.end q.nr ps r.1),
  )

earlier_lacks : (p : Part) (ds : List Done) → AllByRecursion (λ (d : Done). Later d.part p) ds
    → Lacks p.nr (noted_on p.page ds)
earlier_lacks p [] all = tt
earlier_lacks p (d ∷ ds) all = let more = earlier_lacks p ds all.1 in
    elim (cases_Bool (is_on p.page d)) [
      | inl on ↦ rw on (
        (λ e. let lt = all.0 e in
            let here = eqb-true d.part.page p.page
            (and_parts (eqb d.part.page p.page) (stands_so d.part.op d.end) on).0 in omega arith),
        more,
      )
      | inr off ↦ rw off more
    ]

-- the piece in work stands in no order of its page
pub piece_lacks : (So : Part → PartEnd → Type 0) (size : ℕ) (backed : Bool) (ops : List Op)
    (ds : List Done) (p : Part) (rest : List Part)
    → Follows So (program size backed 0 ops) ds (p ∷ rest)
    → Lacks p.nr (noted_on p.page ds)
piece_lacks So size backed ops ds p rest f = earlier_lacks p ds
    (over_earlier So p rest (program size backed 0 ops) ds f (program_rising size backed 0 ops))
