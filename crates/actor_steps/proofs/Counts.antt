-- The pieces of a page, counted.
use Rattle.std.proofs.Common.{◌≡◌, ℕ, zero, suc, ◌+◌, ◌*◌, ◌<◌, ◌≤◌, Bool, false, cond, eqb, List, [], ◌∷◌, ◌++◌, length, drop, Some, slice_get, refl, sym, ap, ◌∙◌, arith, inl, inr}
use Rattle.std.proofs.lemmas.Bool.{cases_Bool, eq-eqb, ltb-false}
use Rattle.std.specs.BTreeMap.{BTreeMap, Updates}
use Rattle.std.specs.Ordering.{nat_cmp}
use Rattle.zr_base.specs.declared.op.Op.{Op}
use Rattle.zr_base.specs.declared.op.Piece.{Piece}
use Rattle.zr_base.specs.Plain.{start_of, count_of, is_void, has_event, IsRequest}
use Rattle.plain_disk.specs.Ends.{is_single}
use Rattle.call_history.specs.declared.part.Part.{Part}
use Rattle.zr_base.specs.Pieces.{first_page, pages_of, pieces_from, pieces_of}
use Rattle.std.specs.List.{AllByRecursion}
use Rattle.call_history.specs.Parts.{parts_from, parts_of, parts, program}
use Rattle.actor_steps.specs.Counts.{piece_on, pieces_on, pieces_each, count_at, HasOnlyCounts}
use Rattle.actor_steps.specs.Places.{AreRequests, IsWork, operations}
use Rattle.actor_steps.proofs.Places.{drop_cons, few_pages, pages_some, in_bounds, request_on, not_void}

-- the piece of one page
abbrev one : ℕ → Op → ℕ → ℕ → ℕ
one size op page p =
    cond (has_event op page) (piece_on size p (record { nr = 0; op = op; page = page })) 0

pieces_append : (size p : ℕ) (xs ys : List Part)
    → pieces_on size p (xs ++ ys) ≡ pieces_on size p xs + pieces_on size p ys
pieces_append size p [] ys = omega arith
pieces_append size p (x ∷ xs) ys = let q = pieces_append size p xs ys in omega arith

pieces_next : (size nr p : ℕ) (op : Op) (page n : ℕ)
    → pieces_on size p (parts_from nr op page (suc n))
    ≡ one size op page p + pieces_on size p (parts_from nr op (page + 1) n)
pieces_next size nr p op page n = elim (cases_Bool (has_event op page)) [
  | inl on ↦ rw on refl
  | inr off ↦ rw off (omega arith)
]

-- the pieces with events on a page, among those of a walk
abbrev pub carried_on : ℕ → Op → ℕ → List Piece → ℕ
carried_on size op p [] = 0
carried_on size op p (piece ∷ more) = one size op piece.page.0 p + carried_on size op p more

-- the first piece of an operation on the disk, and then the others
pub carried_first : (size : ℕ) (op : Op) → is_single size op ≡ false → (p : ℕ) (piece : Piece)
    (pieces more : List Piece) (b : Bool) → pieces ≡ piece ∷ more → has_event op piece.page.0 ≡ b
    → carried_on size op p pieces
    ≡ cond b (cond (eqb piece.page.0 p) 1 0) 0 + carried_on size op p more
carried_first size op inside p piece pieces more b is e =
    ap (carried_on size op p) is
    ∙ (λ i. cond (e i) (cond (inside i) 0 (cond (eqb piece.page.0 p) 1 0)) 0
    + carried_on size op p more)

carried_from : (size p : ℕ) (op : Op) (page n : ℕ)
    → carried_on size op p (pieces_from (start_of op) (count_of op) page n)
    ≡ pieces_on size p (parts_from 0 op page n)
carried_from size p op page zero = refl
carried_from size p op page (suc n) =
    let q = pieces_next size 0 p op page n in
    let r = carried_from size p op (page + 1) n in omega arith

-- the number of the operation does not matter
nr_from : (size nr m p : ℕ) (op : Op) (page n : ℕ)
    → pieces_on size p (parts_from nr op page n) ≡ pieces_on size p (parts_from m op page n)
nr_from size nr m p op page zero = refl
nr_from size nr m p op page (suc n) = pieces_next size nr p op page n
    ∙ ap (λ (k : ℕ). one size op page p + k) (nr_from size nr m p op (page + 1) n)
    ∙ sym (pieces_next size m p op page n)

nr_parts_of : (size nr m p : ℕ) (op : Op)
    → pieces_on size p (parts_of size nr op) ≡ pieces_on size p (parts_of size m op)
nr_parts_of size nr m p op = elim (cases_Bool (is_single size op)) [
  | inl on ↦ rw on refl
  | inr off ↦ rw off (nr_from size nr m p op (first_page op) (pages_of op))
]

nr_parts : (size : ℕ) (backed : Bool) (nr m p : ℕ) (op : Op)
    → pieces_on size p (parts size backed nr op) ≡ pieces_on size p (parts size backed m op)
nr_parts size backed nr m p op = elim (cases_Bool (is_void backed op)) [
  | inl void ↦ rw void refl
  | inr does ↦ rw does (nr_parts_of size nr m p op)
]

nr_program : (size : ℕ) (backed : Bool) (nr m p : ℕ) (ops : List Op)
    → pieces_on size p (program size backed nr ops) ≡ pieces_on size p (program size backed m ops)
nr_program size backed nr m p [] = refl
nr_program size backed nr m p (op ∷ ops) =
    pieces_append size p (parts size backed nr op) (program size backed (nr + 1) ops)
    ∙ (λ i. nr_parts size backed nr m p op i + nr_program size backed (nr + 1) (m + 1) p ops i)
    ∙ sym (pieces_append size p (parts size backed m op) (program size backed (m + 1) ops))

-- the first operation, and then the later ones
pub program_next : (size : ℕ) (backed : Bool) (p i : ℕ) (ops : List Op) (op : Op)
    → slice_get ops i ≡ Some op
    → pieces_on size p (program size backed 0 (drop i ops))
    ≡ pieces_on size p (parts size backed 0 op)
    + pieces_on size p (program size backed 0 (drop (i + 1) ops))
program_next size backed p i ops op at =
    ap (λ (os : List Op). pieces_on size p (program size backed 0 os)) (drop_cons ops i op at
    ∙ ap (λ (j : ℕ). op ∷ drop j ops) (let q : suc i ≡ i + 1 = omega arith in q))
    ∙ pieces_append size p (parts size backed 0 op) (program size backed 1 (drop (i + 1) ops))
    ∙ ap (λ (k : ℕ). pieces_on size p (parts size backed 0 op) + k)
    (nr_program size backed 1 0 p (drop (i + 1) ops))

pub each_next : (size : ℕ) (backed : Bool) (p i : ℕ) (actors : List (List Op)) (ops : List Op)
    → slice_get actors i ≡ Some ops
    → pieces_each size backed (drop i actors) p
    ≡ pieces_on size p (program size backed 0 ops) + pieces_each size backed (drop (i + 1) actors) p
each_next size backed p i actors ops at =
    ap (λ (os : List (List Op)). pieces_each size backed os p)
    (drop_cons actors i ops at
    ∙ ap (λ (j : ℕ). ops ∷ drop j actors) (let q : suc i ≡ i + 1 = omega arith in q))

-- the walk over an operation on the disk: its pieces are on pages of the disk, and are all counted
module _ (size : ℕ) (op : Op) (inside : is_single size op ≡ false) where
  pub carried_of : (backed : Bool) (p : ℕ)
      → carried_on size op p (pieces_of (start_of op) (count_of op))
      ≡ pieces_on size p (parts size backed 0 op)
  carried_of backed p =
      carried_from size p op (first_page op) (pages_of op)
      ∙ sym (λ i. pieces_on size p (cond (not_void size backed op inside i) []
      (cond (inside i) (record { nr = 0; op = op; page = first_page op } ∷ [])
      (parts_from 0 op (first_page op) (pages_of op)))))

  pub pages_below : IsRequest op
      → AllByRecursion (λ (piece : Piece). piece.page.0 < size)
      (pieces_of (start_of op) (count_of op))
  pages_below r =
      let on = request_on size op inside in
      let end = ltb-false (8 * size) (start_of op + count_of op) on.1 in
      let n = pages_some op on.0 r in
      let some = (in_bounds op on.0 r).1 in
      below_from (first_page op) (pages_of op) (omega arith)
    where
      below_from : (page n : ℕ) → page + n ≤ size
          → AllByRecursion (λ (piece : Piece). piece.page.0 < size)
          (pieces_from (start_of op) (count_of op) page n)
      below_from page zero fits = tt
      below_from page (suc n) fits = (omega arith, below_from (page + 1) n (omega arith))

pub counts_itself : (page : ℕ) → let n : ℕ = cond (eqb page page) 1 0 in n ≡ 1
counts_itself page = ap (λ (b : Bool). cond b 1 0) (eq-eqb page page refl)

-- one piece more is counted
module _ (old new : BTreeMap ℕ ℕ) (page : ℕ)
    (u : Updates nat_cmp old new page (Some (count_at old page + 1))) where
  pub count_more : (p : ℕ) → count_at new p ≡ count_at old p + cond (eqb page p) 1 0
  count_more p = let q = u.0 p in grind (arith, q, u.1)

  pub only_more : (size : ℕ) → page < size → HasOnlyCounts size old → HasOnlyCounts size new
  only_more size lt only p = let q = u.0 p in let o = only p in grind (arith, q, u.1, o)

-- ---- there are not many

few_from : (size nr p : ℕ) (op : Op) (page n : ℕ) → pieces_on size p (parts_from nr op page n) ≤ n
few_from size nr p op page zero = omega arith
few_from size nr p op page (suc n) = let q = pieces_next size nr p op page n in
    let r = few_from size nr p op (page + 1) n in
    let s = few_one in omega arith where
      few_one : one size op page p ≤ 1
      few_one = elim (cases_Bool (has_event op page)) [
        | inl on ↦ rw on
            (elim (cases_Bool (is_single size op)) [
              | inl single ↦ rw single (omega arith)
              | inr many ↦ rw many
                  (elim (cases_Bool (eqb page p)) [
                    | inl same ↦ rw same (omega arith)
                    | inr other ↦ rw other (omega arith)
                  ])
            ])
        | inr off ↦ rw off (omega arith)
      ]

few_parts_of : (size nr p : ℕ) (op : Op) → IsRequest op
    → pieces_on size p (parts_of size nr op) ≤ 1000
few_parts_of size nr p op r = elim (cases_Bool (is_single size op)) [
  | inl on ↦ rw on (rw on (omega arith))
  | inr off ↦ rw off
      (let q = few_from size nr p op (first_page op) (pages_of op) in let f = few_pages op r in
      omega arith)
]

few_parts : (size : ℕ) (backed : Bool) (nr p : ℕ) (op : Op) → IsRequest op
    → pieces_on size p (parts size backed nr op) ≤ 1000
few_parts size backed nr p op r = elim (cases_Bool (is_void backed op)) [
  | inl void ↦ rw void (omega arith)
  | inr does ↦ rw does (few_parts_of size nr p op r)
]

pub few_program : (size : ℕ) (backed : Bool) (nr p : ℕ) (ops : List Op) → AreRequests ops
    → pieces_on size p (program size backed nr ops) ≤ 1000 * length ops
few_program size backed nr p [] r = omega arith
few_program size backed nr p (op ∷ ops) r =
    let q = pieces_append size p (parts size backed nr op) (program size backed (nr + 1) ops) in
    let f = few_parts size backed nr p op (r 0 op refl) in
    let g = few_program size backed (nr + 1) p ops (λ k o e. r (suc k) o e) in omega arith

few_each : (size : ℕ) (backed : Bool) (p : ℕ) (actors : List (List Op))
    → ((a : ℕ) (ops : List Op) → slice_get actors a ≡ Some ops
    → AreRequests ops) → pieces_each size backed actors p ≤ 1000 * operations actors
few_each size backed p [] r = omega arith
few_each size backed p (ops ∷ more) r = let f = few_program size backed 0 p ops (r 0 ops refl) in
    let g = few_each size backed p more (λ a os e. r (suc a) os e) in omega arith

pub few_pieces : (size : ℕ) (backed : Bool) (p : ℕ) (actors : List (List Op)) → IsWork actors
    → pieces_each size backed actors p ≤ 1000000000
few_pieces size backed p actors w = let f = few_each size backed p actors w.requests in
    let m = w.most in omega arith
