-- What an actor has left at its place.
use Rattle.std.proofs.Common.{◌≡◌, ◌≢◌, ℕ, zero, suc, ◌+◌, ◌<◌, ◌≤◌, Bool, cond, List, [], ◌∷◌, ◌++◌, length, drop, refl, sym, ap, ◌∙◌, subst, arith}
use Rattle.zr_base.specs.declared.op.Op.{Op}
use Rattle.call_history.specs.Parts.{program}
use Rattle.actor_steps.specs.declared.place.Place.{Place}
use Rattle.actor_steps.specs.Places.{left_from, todo_by, todo_at, IsSettledBy, IsSettled}

drop_out : {A : Type 0} (xs : List A) (i : ℕ) → length xs ≤ i → drop i xs ≡ []
drop_out [] zero le = refl
drop_out [] (suc i) le = refl
drop_out (x ∷ xs) zero le = absurd (omega arith)
drop_out (x ∷ xs) (suc i) le = drop_out xs i (omega arith)

-- past all operations nothing is left
pub no_todo : (size : ℕ) (backed : Bool) (nr : ℕ) (ops : List Op) (page n : ℕ) → length ops ≤ nr
    → todo_by size backed nr page n (drop nr ops) ≡ []
no_todo size backed nr ops page n le = ap (todo_by size backed nr page n) (drop_out ops nr le)

drop_some : {A : Type 0} (xs : List A) (i : ℕ) → i < length xs
    → (x : A) × (rest : List A) × (drop i xs ≡ x ∷ rest)
drop_some [] i lt = absurd (omega arith)
drop_some (x ∷ xs) zero lt = (x, xs, refl)
drop_some (x ∷ xs) (suc i) lt = drop_some xs i (omega arith)

-- a piece with events is left at a place that is settled
some_left : (size : ℕ) (backed : Bool) (nr : ℕ) (op : Op) (later : List Op) (page n : ℕ)
    → IsSettledBy size backed page n (op ∷ later) → todo_by size backed nr page n (op ∷ later) ≢ []
some_left size backed nr op later page zero settled e = absurd (let q = settled.0 in
    let none : ⊥ = omega arith in none)
some_left size backed nr op later page (suc n) settled e =
    let q = sym (ap (λ (b : Bool). (cond b (record { nr = nr; op = op; page = page } ∷ []) []
    ++ left_from size backed nr op (page + 1) n) ++ program size backed (nr + 1) later) settled.1) ∙ e in cc

-- before the end of an actor's operations something is left
pub some_todo : (size : ℕ) (backed : Bool) (ops : List Op) (pl : Place) → IsSettled size backed ops pl
    → pl.nr < length ops → todo_at size backed ops pl ≢ []
some_todo size backed ops pl settled more e =
    let d = drop_some ops pl.nr more in
    some_left size backed pl.nr d.0 d.1 pl.page pl.left
    (subst (IsSettledBy size backed pl.page pl.left) d.2 settled)
    (sym (ap (todo_by size backed pl.nr pl.page pl.left) d.2) ∙ e)
