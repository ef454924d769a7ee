-- An order whose operations of each actor rise.
use Rattle.std.proofs.Common.{◌≡◌, ℕ, zero, suc, ◌+◌, ◌<◌, Bool, true, ◌&&◌, cond, eqb, List, [], ◌∷◌, take, Some, slice_get, refl, sym, ap, ◌∙◌, subst, arith, zero-add, inl, inr}
use Rattle.std.specs.Prelude.{count_by}
use Rattle.std.specs.List.{AllByRecursion}
use Rattle.std.proofs.lemmas.Bool.{cases_Bool, eqb-true, eqb-false, eq-eqb, ne_eqb, and_left, and_parts, and_from}
use Rattle.std.proofs.lemmas.List.Sums.{sum_by-cons}
use Rattle.zr_base.specs.declared.op.Tag.{Tag}
use Rattle.zr_base.specs.Plain.{same_tag, Rises, order_before}
use Rattle.call_history.specs.Parts.{ops_of}

-- numbers that rise
abbrev pub Rising : List ℕ → Type 0
Rising [] = Unit {0}
Rising (x ∷ xs) = AllByRecursion (λ later. x < later) xs × Rising xs

abbrev tag_at : ℕ → ℕ → Tag
tag_at a k = record { actor = a; op = k }

-- a tag counts as its operation among the actor's
pub count_is : (a k : ℕ) (order : List Tag)
    → count_by (same_tag (tag_at a k)) order ≡ count_by (λ n. eqb k n) (ops_of a order)
count_is a k [] = refl
count_is a k (t ∷ ts) = sum_by-cons (λ u. cond (same_tag (tag_at a k) u) 1 0) t ts
    ∙ elim (cases_Bool (eqb t.actor a)) [
      | inl on ↦ rw on (sym (sum_by-cons (λ n. cond (eqb k n) 1 0) t.op (ops_of a ts)
          ∙ ap (λ (n : ℕ). cond (eqb k t.op) 1 0 + n) (sym (count_is a k ts))
          ∙ ap (λ (b : Bool). cond (b && eqb k t.op) 1 0 + count_by (same_tag (tag_at a k)) ts)
          (sym (eq-eqb a t.actor (sym (eqb-true t.actor a on))))))
      | inr off ↦ rw (
        off,
        and_left (eqb a t.actor) (eqb k t.op)
            (ne_eqb a t.actor (λ s. eqb-false t.actor a off (sym s))),
      )
          (zero-add (count_by (same_tag (tag_at a k)) ts) ∙ count_is a k ts)
    ]

rises_later : (a k : ℕ) (ts : List Tag) → AllByRecursion (λ later. k < later) (ops_of a ts)
    → AllByRecursion (λ later. a ≡ later.actor → k < later.op) ts
rises_later a k [] all = tt
rises_later a k (t ∷ ts) all = elim (cases_Bool (eqb t.actor a)) [
  | inl on ↦ let both : AllByRecursion (λ later. k < later) (t.op ∷ ops_of a ts) =
      subst (λ (b : Bool). AllByRecursion (λ later. k < later)
      (cond b (t.op ∷ ops_of a ts) (ops_of a ts))) on all in
      ((λ same. both.0), rises_later a k ts both.1)
  | inr off ↦ let rest : AllByRecursion (λ later. k < later) (ops_of a ts) =
      subst (λ (b : Bool). AllByRecursion (λ later. k < later)
      (cond b (t.op ∷ ops_of a ts) (ops_of a ts))) off all in
      ((λ same. absurd (eqb-false t.actor a off (sym same))), rises_later a k ts rest)
]

rising_tail : (a : ℕ) (t : Tag) (ts : List Tag) → Rising (ops_of a (t ∷ ts)) → Rising (ops_of a ts)
rising_tail a t ts r = elim (cases_Bool (eqb t.actor a)) [
  | inl on ↦ let both : Rising (t.op ∷ ops_of a ts) =
      subst (λ (b : Bool). Rising (cond b (t.op ∷ ops_of a ts) (ops_of a ts))) on r in both.1
  | inr off ↦ subst (λ (b : Bool). Rising (cond b (t.op ∷ ops_of a ts) (ops_of a ts))) off r
]

-- where each actor's operations rise, the order rises
pub rises_is : (order : List Tag) → ((a : ℕ) → Rising (ops_of a order)) → Rises order
rises_is [] r = tt
rises_is (t ∷ ts) r =
    let first : Rising (t.op ∷ ops_of t.actor ts) =
    subst (λ (b : Bool). Rising (cond b (t.op ∷ ops_of t.actor ts) (ops_of t.actor ts)))
    (eq-eqb t.actor t.actor refl) (r t.actor) in
    (rises_later t.actor t.op ts first.0, rises_is ts (λ a. rising_tail a t ts (r a)))

all_at : {A : Type 0} (P : A → Type 0) (xs : List A) (i : ℕ) (x : A) → AllByRecursion P xs
    → slice_get xs i ≡ Some x → P x
all_at P [] i x all e = absurd (cc)
all_at P (y ∷ ys) zero x all e = let q : y ≡ x = (let h : Some y ≡ Some x = e in cc) in
    subst P q all.0
all_at P (y ∷ ys) (suc i) x all e = all_at P ys i x all.1 e

-- the part before a tag is the part before its place
pub before_is : (order : List Tag) (t : Tag) (at : ℕ) → Rises order → slice_get order at ≡ Some t
    → order_before t order ≡ take at order
before_is [] t at r e = absurd (cc)
before_is (x ∷ xs) t zero r e =
    let q : x ≡ t = (let h : Some x ≡ Some t = e in cc) in
    let on : same_tag t x ≡ true =
    and_from (eqb t.actor x.actor) (eqb t.op x.op)
    (eq-eqb t.actor x.actor (ap (λ (y : Tag). y.actor) (sym q)))
    (eq-eqb t.op x.op (ap (λ (y : Tag). y.op) (sym q))) in
    rw on refl
before_is (x ∷ xs) t (suc at) r e = elim (cases_Bool (same_tag t x)) [
  | inl on ↦
      let p = and_parts (eqb t.actor x.actor) (eqb t.op x.op) on in
      let later = all_at (λ (later : Tag). x.actor ≡ later.actor
      → x.op < later.op) xs at t r.0 e (sym (eqb-true t.actor x.actor p.0)) in
      absurd (let s = eqb-true t.op x.op p.1 in let no_ : ⊥ = omega arith in no_)
  | inr off ↦ rw off (ap (λ (ys : List Tag). x ∷ ys) (before_is xs t at r.1 e))
]
