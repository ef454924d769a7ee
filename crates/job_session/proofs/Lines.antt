-- Lines one after the other, and the lines of operations, actors and pages from a place on.
use Rattle.std.proofs.Common.{◌≡◌, ℕ, zero, suc, ◌+◌, ◌-◌, ◌<◌, ◌≤◌, Bool, true, false, ◌||◌, List, [], ◌∷◌, ◌++◌, length, map, drop, get_or, Some, slice_get, refl, sym, ap, ◌∙◌, arith}
use Rattle.std.proofs.Math.ListN.{drop_of_length-le}
use Rattle.std.proofs.lemmas.List.{drop_more}
use Rattle.std.proofs.lemmas.Option.{get_or_from_slice_get, slice_get_within}
use Rattle.std.specs.List.{flat_map, range_with_len}
use Rattle.zr_base.specs.declared.op.Tag.{Tag}
use Rattle.zr_base.specs.declared.op.OpEnd.{OpEnd}
use Rattle.mem_account.specs.declared.weight.Weight.{Weight}
use Rattle.mem_account.specs.declared.weight.Weight.TheVariants.{Empty, Same, Packed, Huge, Back}
use Rattle.plain_disk.specs.Rests.{state_line}
use Rattle.plain_disk.specs.Output.{OutLine, state, ended, sector, op_lines, actor_lines, actors_lines, order_line, is_refusal, any_refusal}
use Rattle.zr_core.specs.States.{of_op}

-- ---- refusals

pub or_false : (b : Bool) → (b || false) ≡ b
or_false true = refl
or_false false = refl

pub or_true : (b : Bool) → (b || true) ≡ true
or_true true = refl
or_true false = refl

pub any_refusal-append : (xs ys : List OutLine) → any_refusal (xs ++ ys)
    ≡ (any_refusal xs || any_refusal ys)
any_refusal-append [] ys = refl
any_refusal-append (x ∷ xs) ys = by (is_refusal x) (any_refusal-append xs ys)
  where
    by : (b : Bool) → any_refusal (xs ++ ys) ≡ (any_refusal xs || any_refusal ys)
        → (b || any_refusal (xs ++ ys)) ≡ ((b || any_refusal xs) || any_refusal ys)
    by true e = refl
    by false e = e

any_refusal-sectors : (xs : List (List ℕ)) → any_refusal (map sector xs) ≡ false
any_refusal-sectors [] = refl
any_refusal-sectors (x ∷ xs) = any_refusal-sectors xs

pub any_refusal-order : (p : ℕ) (order : List Tag) → any_refusal (order_line p order) ≡ false
any_refusal-order p [] = refl
any_refusal-order p (tag ∷ tags) = refl

-- an operation's lines say a refusal where its end does
pub any_refusal-op : (tag : Tag) (end : OpEnd) (got : List (List ℕ))
    → any_refusal (op_lines tag end got) ≡ is_refusal (ended tag end)
any_refusal-op tag end got = ap (λ (b : Bool). is_refusal (ended tag end) || b)
    (any_refusal-sectors got)
    ∙ or_false (is_refusal (ended tag end))

-- a page that isn't empty has a line
pub state_line_is : (p : ℕ) (w : Weight) (idle : Bool) (t : ℕ) → (w ≡ Empty → ⊥)
    → state_line p w idle t ≡ state (record { page = p; kept = w; idle = idle; touched = t }) ∷ []
state_line_is p Empty idle t some = absurd (some refl)
state_line_is p Same idle t some = refl
state_line_is p (Packed bytes) idle t some = refl
state_line_is p Huge idle t some = refl
state_line_is p Back idle t some = refl

-- ---- lines from a place on

-- those that a function gives for the numbers from this one to the last
abbrev pub lines_on : (ℕ → List OutLine) → ℕ → ℕ → List OutLine
lines_on f at last = flat_map f (range_with_len at (last - at))

pub next_on : (f : ℕ → List OutLine) (at last : ℕ) → at < last
    → lines_on f at last ≡ f at ++ lines_on f (at + 1) last
next_on f at last lt =
    ap (λ (n : ℕ). flat_map f (range_with_len at n))
    (let n : last - at ≡ suc (last - (at + 1)) = omega (arith, lt) in n)

pub none_on : (f : ℕ → List OutLine) (at last : ℕ) → last ≤ at → lines_on f at last ≡ []
none_on f at last past =
    ap (λ (n : ℕ). flat_map f (range_with_len at n))
    (let n : last - at ≡ 0 = omega (arith, past) in n)

module _ {A : Type 0} where
  pub of_op_is : (all : List (List A)) (actor op : ℕ) → of_op all actor op
      ≡ slice_get (get_or all actor []) op
  of_op_is [] actor op = refl
  of_op_is (xs ∷ all) zero op = refl
  of_op_is (xs ∷ all) (suc actor) op = of_op_is all actor op

  drop_at : (xs : List A) (i : ℕ) (x : A) → slice_get xs i ≡ Some x
      → drop i xs ≡ x ∷ drop (i + 1) xs
  drop_at xs i x is = drop_more xs i x (slice_get_within xs i x is)
      ∙ ap (λ (y : A). y ∷ drop (i + 1) xs) (get_or_from_slice_get xs i x x is)

-- those of an actor's operations
pub next_op : (ends : List (List OpEnd)) (sectors : List (List (List (List ℕ)))) (actor op : ℕ)
    (end : OpEnd) (got : List (List ℕ))
    → of_op ends actor op ≡ Some end → of_op sectors actor op ≡ Some got
    → actor_lines actor op (drop op (get_or ends actor [])) (drop op (get_or sectors actor []))
    ≡ op_lines (record { actor = actor; op = op }) end got
    ++ actor_lines actor (op + 1) (drop (op + 1) (get_or ends actor []))
    (drop (op + 1) (get_or sectors actor []))
next_op ends sectors actor op end got e s = λ i. actor_lines actor op
    (drop_at (get_or ends actor []) op end (sym (of_op_is ends actor op) ∙ e) i)
    (drop_at (get_or sectors actor []) op got (sym (of_op_is sectors actor op) ∙ s) i)

pub no_op : (actor op : ℕ) (es : List OpEnd) (gots : List (List (List ℕ))) → length es ≤ op
    → actor_lines actor op (drop op es) (drop op gots) ≡ []
no_op actor op es gots past = λ i. actor_lines actor op (drop_of_length-le es past i) (drop op gots)

-- those of the actors
pub next_actor : (actor : ℕ) (es : List (List OpEnd)) (gots : List (List (List (List ℕ))))
    → actor < length es
    → actor < length gots
    → actors_lines actor (drop actor es) (drop actor gots)
    ≡ actor_lines actor 0 (get_or es actor []) (get_or gots actor [])
    ++ actors_lines (actor + 1) (drop (actor + 1) es) (drop (actor + 1) gots)
next_actor actor es gots e g = λ i. actors_lines actor (drop_more es actor [] e i)
    (drop_more gots actor [] g i)

pub no_actor : (actor : ℕ) (es : List (List OpEnd)) (gots : List (List (List (List ℕ))))
    → length es ≤ actor
    → actors_lines actor (drop actor es) (drop actor gots) ≡ []
no_actor actor es gots past = λ i. actors_lines actor (drop_of_length-le es past i)
    (drop actor gots)
