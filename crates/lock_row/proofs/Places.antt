-- The place of a lock among the names of a row, and a row's cell there.
use Rattle.std.proofs.Common.{◌≡◌, ◌≢◌, ℕ, zero, suc, ◌<◌, ◌≤◌, Bool, true, cond, List, [], ◌∷◌, length, Option, Some, None, slice_get, get_or, set, refl, sym, ap, ◌∙◌, arith, inl, inr}
use Rattle.std.specs.Prelude.{MatchOption, IfSome, IfNone}
use Rattle.std.proofs.lemmas.Bool.{cases_Bool, eqb-true, eq-eqb}
use Rattle.std.proofs.lemmas.List.{set-get_or}
use Rattle.std.proofs.lemmas.Option.{slice_get_within, slice_get-get_or}
use Rattle.lock_row.specs.declared.names.LockNo.{LockNo}
use Rattle.lock_row.specs.declared.names.LockNo.TheVariants.{Slot, Class, Account, Blocks, Device}
use Rattle.lock_row.specs.Rows.{Row, same_lock, place_in, IsDistinct, cell, with_cell}

-- ---- names

same_is : (k m : LockNo) → same_lock k m ≡ true → k ≡ m
same_is (Slot p) (Slot q) e = let s : p.0 ≡ q.0 = eqb-true p.0 q.0 e in
    λ i. Slot (record { 0 = s i })
same_is (Class c) (Class d) e = ap Class (eqb-true c d e)
same_is Account Account e = refl
same_is Blocks Blocks e = refl
same_is Device Device e = refl
same_is (Slot p) (Class d) e = absurd (cc)
same_is (Slot p) Account e = absurd (cc)
same_is (Slot p) Blocks e = absurd (cc)
same_is (Slot p) Device e = absurd (cc)
same_is (Class c) (Slot q) e = absurd (cc)
same_is (Class c) Account e = absurd (cc)
same_is (Class c) Blocks e = absurd (cc)
same_is (Class c) Device e = absurd (cc)
same_is Account (Slot q) e = absurd (cc)
same_is Account (Class d) e = absurd (cc)
same_is Account Blocks e = absurd (cc)
same_is Account Device e = absurd (cc)
same_is Blocks (Slot q) e = absurd (cc)
same_is Blocks (Class d) e = absurd (cc)
same_is Blocks Account e = absurd (cc)
same_is Blocks Device e = absurd (cc)
same_is Device (Slot q) e = absurd (cc)
same_is Device (Class d) e = absurd (cc)
same_is Device Account e = absurd (cc)
same_is Device Blocks e = absurd (cc)

is_same : (k : LockNo) → same_lock k k ≡ true
is_same (Slot p) = eq-eqb p.0 p.0 refl
is_same (Class c) = eq-eqb c c refl
is_same Account = refl
is_same Blocks = refl
is_same Device = refl

tail_distinct : (x : LockNo) (xs : List LockNo) → IsDistinct (x ∷ xs) → IsDistinct xs
tail_distinct x xs d =
    record { once = λ i j k e f. let q = d.once (suc i) (suc j) k e f in omega arith }

-- the place of a name that stands there
pub place_of : (names : List LockNo) (i : ℕ) (k : LockNo) → IsDistinct names
    → slice_get names i ≡ Some k
    → place_in names k ≡ i
place_of [] i k d e = absurd (cc)
place_of (x ∷ xs) zero k d e =
    let q : x ≡ k = (let h : Some x ≡ Some k = e in cc) in
    ap (λ (b : Bool). cond b 0 (suc (place_in xs k)))
    (ap (λ (y : LockNo). same_lock y k) q ∙ is_same k)
place_of (x ∷ xs) (suc i) k d e = elim (cases_Bool (same_lock x k)) [
  | inl on ↦ absurd (let q = d.once 0 (suc i) k (ap Some (same_is x k on)) e in
      let none : ⊥ = omega arith in none)
  | inr off ↦ ap (λ (b : Bool). cond b 0 (suc (place_in xs k))) off
      ∙ ap suc (place_of xs i k (tail_distinct x xs d) e)
]

-- that of a name that isn't there
pub place_none : (names : List LockNo) (k : LockNo) → ((i : ℕ) → slice_get names i ≢ Some k)
    → length names ≤ place_in names k
place_none [] k not = omega arith
place_none (x ∷ xs) k not = elim (cases_Bool (same_lock x k)) [
  | inl on ↦ absurd (not 0 (ap Some (same_is x k on)))
  | inr off ↦ (let q = ap (λ (b : Bool). cond b 0 (suc (place_in xs k))) off in
      let r = place_none xs k (λ i. not (suc i)) in omega arith)
]

pub placed : (names : List LockNo) (k : LockNo) (o : Option ℕ) → IsDistinct names
    → IfSome o (λ i. slice_get names i ≡ Some k) → IfNone o ((i : ℕ) → slice_get names i ≢ Some k)
    → MatchOption o (length names ≤ place_in names k)
    (λ i. (i ≡ place_in names k) × (i < length names))
placed names k None d found none = place_none names k none
placed names k (Some i) d found none =
    (sym (place_of names i k d found), slice_get_within names i k found)

-- ---- cells

module _ {V : Type 0} (r : Row V) (names : List LockNo) (cells : List (Option V)) (k : LockNo)
    (view : (let row : Row V = record { names = names; cells = cells } in row) ≡ r)
    (size : length cells ≡ length names) where
  module _ (i : ℕ) (is : i ≡ place_in names k) (below : i < length names) where
    cell_is : (x : Option V) → x ≡ get_or cells i x → cell r k ≡ Some x
    cell_is x e = ap (λ (s : Row V). cell s k) (sym view) ∙ ap (slice_get cells) (sym is)
        ∙ slice_get-get_or cells i x (omega arith) ∙ ap Some (sym e)

    set_is : (x : Option V)
        → (let row : Row V = record { names = names; cells = set cells i x } in row)
        ≡ with_cell r k x
    set_is x = (λ j. record { names = names; cells = set cells (is j) x })
        ∙ ap (λ (s : Row V). with_cell s k x) view

    pub taken : (old new result : Option V) → old ≡ get_or cells i old → result ≡ old → new ≡ None
        → MatchOption result
        ((cell r k ≡ Some None)
        × ((let row : Row V = record { names = names; cells = set cells i new } in row) ≡ r))
        (λ v. (cell r k ≡ Some (Some v))
        × ((let row : Row V = record { names = names; cells = set cells i new } in row)
        ≡ with_cell r k None))
    taken old new None e is_old none = (
      cell_is old e ∙ ap Some (sym is_old),
      (λ j. record {
        names = names;
        cells =
            (ap (set cells i) (none ∙ is_old ∙ e) ∙ set-get_or cells i old) j;
      })
          ∙ view,
    )
    taken old new (Some v) e is_old none = (
      cell_is old e
          ∙ ap Some (sym is_old),
      ap (λ (x : Option V). record { names = names; cells = set cells i x }) none
          ∙ set_is None,
    )
