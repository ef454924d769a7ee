-- What the pieces of an actor that has finished say of its operations.
use Rattle.std.proofs.Common.{◌≡◌, ℕ, zero, suc, ◌+◌, ◌<◌, ◌≤◌, Bool, true, false, ◌&&◌, cond, eqb, List, [], ◌∷◌, ◌++◌, Option, Some, None, slice_get, refl, sym, ap, ◌∙◌, subst, arith, zero-add, add-zero, inl, inr}
use Rattle.std.specs.Prelude.{count_by, if◌then◌else◌}
use Rattle.std.specs.List.{AllByRecursion}
use Rattle.std.proofs.lemmas.Bool.{cases_Bool, eq-eqb, ne_eqb, and_right}
use Rattle.std.proofs.lemmas.List.{append-nil}
use Rattle.std.proofs.lemmas.List.Sums.{sum_by-cons}
use Rattle.zr_base.specs.declared.op.Op.{Op}
use Rattle.zr_base.specs.declared.op.Op.TheVariants.{Read}
use Rattle.zr_base.specs.declared.op.OpEnd.{OpEnd}
use Rattle.zr_base.specs.declared.op.OpEnd.TheVariants as ends
use Rattle.zr_base.specs.Plain.{stands_on, stands_named, is_void}
use Rattle.plain_disk.specs.Ends.{Ground, Bounds, MayEnd, MayEndAll, read_by, due_from}
use Rattle.call_history.specs.declared.part.Part.{Part}
use Rattle.call_history.specs.declared.part.PartEnd.{PartEnd}
use Rattle.call_history.specs.declared.part.Done.{Done}
use Rattle.call_history.specs.Parts.{parts, program, Follows, noted_on, got_of, end_of, end_as, ends_from, shown, told_from}
use Rattle.call_history.specs.Histories.{HasSome, SomeEach}
use Rattle.call_history.proofs.Orders.{Rising}
use Rattle.call_history.proofs.Ends.{Mine, split, parts_have_nr, program_above, every_done, every_mine, noted_append, got_append, end_none, end_front, got_none, all_map, Else, Of, Above}
use Rattle.call_history.proofs.Operations.{By, Reads, one_op, one_read}

-- ---- the first operation and the later ones

-- the pieces of another operation
of_else : (nr k : ℕ) (ds : List Done) → AllByRecursion (λ (d : Done). d.part.nr ≡ nr) ds → nr < k
    → AllByRecursion (Else k) ds
of_else nr k ds all lt = all_map (λ (d : Done). d.part.nr ≡ nr) (Else k) ds
    (λ d e s. absurd (let none : ⊥ = omega arith in none)) all

-- the ends of later operations
ends_back : (backed : Bool) (nr k : ℕ) (ops : List Op) (front back : List Done)
    → AllByRecursion (λ (d : Done). d.part.nr ≡ nr) front → nr < k
    → ends_from backed k ops (front ++ back) ≡ ends_from backed k ops back
ends_back backed nr k [] front back all lt = refl
ends_back backed nr k (op ∷ ops) front back all lt =
    λ i. cond (is_void backed op) ends.NoBacking
    (end_none k 0 front back (of_else nr k front all lt) i)
    ∷ ends_back backed nr (k + 1) ops front back all (omega arith) i

-- what they tell
told_back : (nr k : ℕ) (ops : List Op) (front back : List Done)
    → AllByRecursion (λ (d : Done). d.part.nr ≡ nr) front → nr < k
    → told_from k ops (front ++ back) ≡ told_from k ops back
told_back nr k [] front back all lt = refl
told_back nr k (op ∷ ops) front back all lt =
    let other = of_else nr k front all lt in
    λ i. shown op (end_none k 0 front back other i)
    ((got_append k front back
    ∙ ap (λ (xs : List (List ℕ)). xs ++ got_of k back) (got_none k front other)) i)
    ∷ told_back nr (k + 1) ops front back all (omega arith) i

module _ (So : Part → PartEnd → Type 0) (pages : ℕ) (backed : Bool) where
  pub record Cut (nr : ℕ) (op : Op) (ops : List Op) (done : List Done) : Type 0 where
    pub front : List Done
    pub back : List Done
    pub is : done ≡ front ++ back
    pub mine : Mine So (parts pages backed nr op) front
    pub later : Follows So (program pages backed (nr + 1) ops) back []
    pub of : AllByRecursion (λ (d : Done). d.part.nr ≡ nr) front
    pub above : AllByRecursion (λ (d : Done). nr + 1 ≤ d.part.nr) back

  pub cut : (nr : ℕ) (op : Op) (ops : List Op) (done : List Done)
      → Follows So (program pages backed nr (op ∷ ops)) done [] → Cut nr op ops done
  cut nr op ops done f =
      let s = split So nr (parts pages backed nr op) (program pages backed (nr + 1) ops) done
      (parts_have_nr pages backed nr op) (program_above pages backed (nr + 1) ops) f in
      record {
        front = s.front;
        back = s.back;
        is = s.is;
        mine = s.mine;
        later = s.later;
        of = every_mine So (Of nr) (parts pages backed nr op) s.front s.mine (parts_have_nr pages backed nr op);
        above = every_done So (Above (nr + 1)) (program pages backed (nr + 1) ops) s.back [] s.later
            (program_above pages backed (nr + 1) ops);
      }

  module _ (nr : ℕ) (op : Op) (ops : List Op) (done : List Done) (c : Cut nr op ops done) where
    back_else : AllByRecursion (Else nr) c.back
    back_else = all_map (λ (d : Done). nr + 1 ≤ d.part.nr) (Else nr) c.back
        (λ d e s. absurd (let none : ⊥ = omega arith in none)) c.above

    front_last : end_of nr done ≡ end_of nr c.front
    front_last = ap (end_of nr) c.is ∙ end_front nr 0 c.front c.back back_else

    pub front_end : end_as backed nr op done ≡ end_as backed nr op c.front
    front_end = ap (λ (end : OpEnd). cond (is_void backed op) ends.NoBacking end) front_last

    front_got : got_of nr done ≡ got_of nr c.front
    front_got = ap (got_of nr) c.is ∙ got_append nr c.front c.back
        ∙ ap (λ (xs : List (List ℕ)). got_of nr c.front ++ xs) (got_none nr c.back back_else)
        ∙ append-nil (got_of nr c.front)

    pub front_shown : shown op (end_of nr done) (got_of nr done)
        ≡ shown op (end_of nr c.front) (got_of nr c.front)
    front_shown = λ i. shown op (front_last i) (front_got i)

    pub back_ends : ends_from backed (nr + 1) ops done ≡ ends_from backed (nr + 1) ops c.back
    back_ends = ap (ends_from backed (nr + 1) ops) c.is
        ∙ ends_back backed nr (nr + 1) ops c.front c.back c.of (omega arith)

    pub back_told : told_from (nr + 1) ops done ≡ told_from (nr + 1) ops c.back
    back_told = ap (told_from (nr + 1) ops) c.is
        ∙ told_back nr (nr + 1) ops c.front c.back c.of (omega arith)

-- ---- all operations of an actor

-- the operations that stand in the order of a page, by their ends
abbrev pub stood : ℕ → ℕ → List Op → List OpEnd → List ℕ
stood p nr [] es = []
stood p nr (op ∷ ops) [] = []
stood p nr (op ∷ ops) (end ∷ es) =
    if stands_on op end p then nr ∷ stood p (nr + 1) ops es else stood p (nr + 1) ops es

all_front : {A : Type 0} (P : A → Type 0) (xs ys : List A) → AllByRecursion P (xs ++ ys)
    → AllByRecursion P xs
all_front P [] ys all = tt
all_front P (x ∷ xs) ys all = (all.0, all_front P xs ys all.1)

all_back : {A : Type 0} (P : A → Type 0) (xs ys : List A) → AllByRecursion P (xs ++ ys)
    → AllByRecursion P ys
all_back P [] ys all = all
all_back P (x ∷ xs) ys all = all_back P xs ys all.1

module _ (t : Ground) (b : Bounds) where
  pub actor_noted : (p nr : ℕ) (ops : List Op) (done : List Done) → SomeEach ops
      → Follows (By t b) (program t.size t.backed nr ops) done []
      → noted_on p done ≡ stood p nr ops (ends_from t.backed nr ops done)
  actor_noted p nr [] [] some f = refl
  actor_noted p nr [] (d ∷ ds) some f = absurd f
  actor_noted p nr (op ∷ ops) done some f =
      let c = cut (By t b) t.size t.backed nr op ops done f in
      let o = one_op t b p nr op c.front some.0 c.mine in
      let more = actor_noted p (nr + 1) ops c.back some.1 c.later in
      let front = sym (front_end (By t b) t.size t.backed nr op ops done c) in
      let back = sym (back_ends (By t b) t.size t.backed nr op ops done c) in
      ap (noted_on p) c.is ∙ noted_append p c.front c.back
      ∙ (λ i. o.noted i ++ more i)
      ∙ push (stands_on op (end_as t.backed nr op c.front) p)
      (stood p (nr + 1) ops (ends_from t.backed (nr + 1) ops c.back))
      ∙ (λ i. cond (stands_on op (front i) p) (nr ∷ stood p (nr + 1) ops (back i))
      (stood p (nr + 1) ops (back i))) where
        push : (x : Bool) (xs : List ℕ) → cond x (nr ∷ []) [] ++ xs ≡ cond x (nr ∷ xs) xs
        push true xs = refl
        push false xs = refl

  pub actor_ends : (nr : ℕ) (ops : List Op) (done : List Done) → SomeEach ops
      → Follows (By t b) (program t.size t.backed nr ops) done [] → MayEndAll t b ops (ends_from t.backed nr ops done)
  actor_ends nr [] done some f = tt
  actor_ends nr (op ∷ ops) done some f =
      let c = cut (By t b) t.size t.backed nr op ops done f in (
        subst (MayEnd t b op) (sym (front_end (By t b) t.size t.backed nr op ops done c))
            (one_op t b 0 nr op c.front some.0 c.mine).may,
        subst (MayEndAll t b ops) (sym (back_ends (By t b) t.size t.backed nr op ops done c))
            (actor_ends (nr + 1) ops c.back some.1 c.later),
      )

  -- what each operation tells is what it read
  pub actor_reads : (R : ℕ → ℕ → List ℕ) (nr : ℕ) (ops : List Op) (done : List Done)
      → SomeEach ops → Follows (By t b) (program t.size t.backed nr ops) done []
      → AllByRecursion (Reads R) done
      → told_from nr ops done ≡ due_from nr ops (ends_from t.backed nr ops done) R
  actor_reads R nr [] done some f all = refl
  actor_reads R nr (op ∷ ops) done some f all =
      let c = cut (By t b) t.size t.backed nr op ops done f in
      let both = subst (AllByRecursion (Reads R)) c.is all in
      let more = actor_reads R (nr + 1) ops c.back some.1 c.later
      (all_back (Reads R) c.front c.back both) in
      let end = front_end (By t b) t.size t.backed nr op ops done c in
      let first = front_shown (By t b) t.size t.backed nr op ops done c in
      let told = back_told (By t b) t.size t.backed nr op ops done c in
      let back = sym (back_ends (By t b) t.size t.backed nr op ops done c) in
      (λ i. first i ∷ told i)
      ∙ (λ i. one op some.0 c.front c.mine (all_front (Reads R) c.front c.back both) i ∷ more i)
      ∙ (λ i. read_by op (sym end i) (R nr) ∷ due_from (nr + 1) ops (back i) R) where
        one : (o : Op) → HasSome o → (front : List Done) → Mine (By t b) (parts t.size t.backed nr o) front
            → AllByRecursion (Reads R) front
            → shown o (end_of nr front) (got_of nr front) ≡ read_by o (end_as t.backed nr o front) (R nr)
        one (Read start count) some front m all =
            one_read t b R nr start count front (some refl) m all
        one _ some front m all = refl

-- ---- the tags that an order has

above_stood : (p nr k : ℕ) (ops : List Op) (es : List OpEnd) → nr < k
    → AllByRecursion (λ later. nr < later) (stood p k ops es)
above_stood p nr k [] es lt = tt
above_stood p nr k (op ∷ ops) [] lt = tt
above_stood p nr k (op ∷ ops) (end ∷ es) lt = elim (cases_Bool (stands_on op end p)) [
  | inl on ↦ rw on (lt, above_stood p nr (k + 1) ops es (omega arith))
  | inr off ↦ rw off (above_stood p nr (k + 1) ops es (omega arith))
]

pub stood_rises : (p nr : ℕ) (ops : List Op) (es : List OpEnd) → Rising (stood p nr ops es)
stood_rises p nr [] es = tt
stood_rises p nr (op ∷ ops) [] = tt
stood_rises p nr (op ∷ ops) (end ∷ es) = elim (cases_Bool (stands_on op end p)) [
  | inl on ↦ rw on (above_stood p nr (nr + 1) ops es (omega arith), stood_rises p (nr + 1) ops es)
  | inr off ↦ rw off (stood_rises p (nr + 1) ops es)
]

count_none : (k : ℕ) (xs : List ℕ) → AllByRecursion (λ later. k < later) xs
    → count_by (λ n. eqb k n) xs ≡ 0
count_none k [] all = refl
count_none k (x ∷ xs) all = sum_by-cons (λ n. cond (eqb k n) 1 0) x xs
    ∙ rw (ne_eqb k x (λ s. let z = all.0 in
    omega arith)) (zero-add (count_by (λ n. eqb k n) xs) ∙ count_none k xs all.1)

count_push : (k nr : ℕ) (b : Bool) (xs : List ℕ)
    → count_by (λ n. eqb k n) (cond b (nr ∷ xs) xs)
    ≡ cond (b && eqb k nr) 1 0 + count_by (λ n. eqb k n) xs
count_push k nr true xs = sum_by-cons (λ n. cond (eqb k n) 1 0) nr xs
count_push k nr false xs = sym (zero-add (count_by (λ n. eqb k n) xs))

-- each once
pub stood_once : (p nr j k : ℕ) (ops : List Op) (es : List OpEnd) → nr + j ≡ k
    → count_by (λ n. eqb k n) (stood p nr ops es)
    ≡ cond (stands_named (slice_get ops j) (slice_get es j) p) 1 0
stood_once p nr j k [] es e = refl
stood_once p nr zero k (op ∷ ops) [] e = refl
stood_once p nr (suc j) k (op ∷ ops) [] e = by_named (slice_get ops j) where
  by_named : (o : Option Op) → let z : ℕ = 0 in z ≡ cond (stands_named o None p) 1 0
  by_named None = refl
  by_named (Some o) = refl
stood_once p nr zero k (op ∷ ops) (end ∷ es) e =
    count_push k nr (stands_on op end p) (stood p (nr + 1) ops es)
    ∙ rw (
      eq-eqb k nr (omega arith),
      count_none k (stood p (nr + 1) ops es)
          (above_stood p k (nr + 1) ops es (omega arith)),
    )
    (add-zero _
    ∙ elim (cases_Bool (stands_on op end p)) [ inl on ↦ rw on refl | inr off ↦ rw off refl ])
stood_once p nr (suc j) k (op ∷ ops) (end ∷ es) e =
    count_push k nr (stands_on op end p) (stood p (nr + 1) ops es)
    ∙ rw (and_right (stands_on op end p) (eqb k nr) (ne_eqb k nr (λ s. omega arith))) (zero-add _
    ∙ stood_once p (nr + 1) j k ops es (omega arith))
