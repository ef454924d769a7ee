-- The places of an actor among its operations.
use Rattle.std.proofs.Common.{◌≡◌, ℕ, zero, suc, ◌+◌, ◌-◌, ◌*◌, ◌/◌, ◌^◌, ◌<◌, ◌≤◌, Bool, true, false, true≢false, not, ◌&&◌, ◌||◌, cond, eqb, List, [], ◌∷◌, ◌++◌, length, drop, get_or, max, Some, slice_get, IsTrue, refl, sym, ap, ◌∙◌, subst, arith, inl, inr}
use Rattle.std.proofs.lemmas.Bool.{cases_Bool, eq-eqb, ne_eqb, ltb-true}
use Rattle.std.proofs.lemmas.Bool.Decides.{nat_tests}
use Rattle.std.proofs.lemmas.Option.{slice_get-get_or}
use Rattle.zr_base.specs.declared.op.Op.{Op}
use Rattle.zr_base.specs.declared.op.Op.TheVariants.{Write, Read, Discard, Idle, Writeback, Compact}
use Rattle.zr_base.specs.Plain.{start_of, count_of, is_void, has_event, is_beyond, is_maintenance, touches, IsRequest, InBounds}
use Rattle.zr_base.specs.Pieces.{first_page, pages_of}
use Rattle.plain_disk.specs.Ends.{is_single}
use Rattle.call_history.specs.declared.part.Part.{Part}
use Rattle.call_history.specs.Parts.{parts_from, parts_of, parts, program, without}
use Rattle.actor_steps.specs.declared.place.Place.{Place}
use Rattle.actor_steps.specs.Places.{is_part, left_from, pages_to_do, todo_by, todo_at, part_at, behind, AreRequests, IsOn, IsPlaceBy, IsPlace, IsSettledBy, IsSettled}
use Rattle.actor_steps.specs.Work.{Touches}

module _ {A : Type 0} where
  pub at_index : (xs : List A) (i : ℕ) (x : A) → i < length xs → x ≡ get_or xs i x
      → slice_get xs i ≡ Some x
  at_index xs i x lt e = slice_get-get_or xs i x lt ∙ ap Some (sym e)

  pub there_is : (xs : List A) (i : ℕ) → i < length xs → (x : A) × (slice_get xs i ≡ Some x)
  there_is [] i h = absurd (omega arith)
  there_is (x ∷ xs) zero h = (x, refl)
  there_is (x ∷ xs) (suc i) h = there_is xs i (omega arith)

  pub drop_cons : (xs : List A) (i : ℕ) (x : A) → slice_get xs i ≡ Some x
      → drop i xs ≡ x ∷ drop (suc i) xs
  drop_cons [] i x e = absurd (cc)
  drop_cons (y ∷ ys) zero x e = let q : y ≡ x = (let h : Some y ≡ Some x = e in cc) in
      ap (λ (z : A). z ∷ ys) q
  drop_cons (y ∷ ys) (suc i) x e = drop_cons ys i x e

  drop_out : (xs : List A) (i : ℕ) → length xs ≤ i → drop i xs ≡ []
  drop_out [] zero le = refl
  drop_out [] (suc i) le = refl
  drop_out (y ∷ ys) zero le = absurd (omega arith)
  drop_out (y ∷ ys) (suc i) le = drop_out ys i (omega arith)

pub in_bounds : (op : Op) → is_maintenance op ≡ false → IsRequest op
    → InBounds (start_of op) (count_of op)
in_bounds (Write start count stuff) request r = r.0
in_bounds (Read start count) request r = r
in_bounds (Discard start count) request r = r
in_bounds (Idle age) request r = absurd (true≢false request)
in_bounds (Writeback mode) request r = absurd (true≢false request)
in_bounds Compact request r = absurd (true≢false request)

pub pages_some : (op : Op) → is_maintenance op ≡ false → IsRequest op
    → pages_of op ≡ (start_of op + count_of op - 1) / 8 + 1 - start_of op / 8
pages_some op request r =
    ap (λ (b : Bool). cond b 0 ((start_of op + count_of op - 1) / 8 + 1 - start_of op / 8))
    (ne_eqb (count_of op) 0 (λ z. let b = (in_bounds op request r).1 in omega arith))

few_of_request : (op : Op) → is_maintenance op ≡ false → IsRequest op
    → (first_page op < 2 ^ 29) × (pages_of op < 1000)
few_of_request op request r =
    let n = pages_some op request r in
    let b = in_bounds op request r in
    let b₀ = b.0 in
    let b₁ = b.2 in
    (omega arith, omega arith)

-- no operation is on a high page, or on many
few_of : (op : Op) → IsRequest op → (first_page op < 2 ^ 29) × (pages_of op < 1000)
few_of (Write start count stuff) r = few_of_request (Write start count stuff) refl r
few_of (Read start count) r = few_of_request (Read start count) refl r
few_of (Discard start count) r = few_of_request (Discard start count) refl r
few_of (Idle age) r = (omega arith, omega arith)
few_of (Writeback mode) r = (omega arith, omega arith)
few_of Compact r = (omega arith, omega arith)

pub few_pages : (op : Op) → IsRequest op → pages_of op < 1000
few_pages op r = (few_of op r).1

pub low_page : (op : Op) → IsRequest op → first_page op < 2 ^ 29
low_page op r = (few_of op r).0

-- one that isn't over in one piece is a request, on the disk
pub request_on : (size : ℕ) (op : Op) → is_single size op ≡ false
    → (is_maintenance op ≡ false) × (is_beyond size op ≡ false)
request_on size (Write start count stuff) off = (refl, off)
request_on size (Read start count) off = (refl, off)
request_on size (Discard start count) off = (refl, off)
request_on size (Idle age) off = absurd (true≢false off)
request_on size (Writeback mode) off = absurd (true≢false off)
request_on size Compact off = absurd (true≢false off)

-- only a request is beyond the disk
pub request_beyond : (size : ℕ) (op : Op) → is_beyond size op ≡ true → is_maintenance op ≡ false
request_beyond size (Write start count stuff) on = refl
request_beyond size (Read start count) on = refl
request_beyond size (Discard start count) on = refl
request_beyond size (Idle age) on =
    let lt = ltb-true (8 * size) 0 on in absurd (let none : ⊥ = omega arith in none)
request_beyond size (Writeback mode) on =
    let lt = ltb-true (8 * size) 0 on in absurd (let none : ⊥ = omega arith in none)
request_beyond size Compact on =
    let lt = ltb-true (8 * size) 0 on in absurd (let none : ⊥ = omega arith in none)

-- one that isn't over in one piece does something
pub not_void : (size : ℕ) (backed : Bool) (op : Op) → is_single size op ≡ false
    → is_void backed op ≡ false
not_void size backed (Write start count stuff) off = refl
not_void size backed (Read start count) off = refl
not_void size backed (Discard start count) off = refl
not_void size backed (Idle age) off = refl
not_void size backed (Writeback mode) off = absurd (true≢false off)
not_void size backed Compact off = refl

-- ---- the pieces of an operation

-- on the disk they are those of its pages
left_is : (size : ℕ) (backed : Bool) (nr : ℕ) (op : Op) → is_single size op ≡ false → (page n : ℕ)
    → left_from size backed nr op page n ≡ parts_from nr op page n
left_is size backed nr op off page zero = refl
left_is size backed nr op off page (suc n) =
    λ i. cond (not (not_void size backed op off i) && (off i || has_event op page))
    (record { nr = nr; op = op; page = page } ∷ []) []
    ++ left_is size backed nr op off (page + 1) n i

-- one that does nothing has none
left_void : (size : ℕ) (backed : Bool) (nr : ℕ) (op : Op) → is_void backed op ≡ true
    → (page n : ℕ) → left_from size backed nr op page n ≡ []
left_void size backed nr op void page zero = refl
left_void size backed nr op void page (suc n) =
    λ i. cond (not (void i) && (is_single size op || has_event op page))
    (record { nr = nr; op = op; page = page } ∷ []) []
    ++ left_void size backed nr op void (page + 1) n i

-- the whole operation, where it does something
left_does : (size : ℕ) (backed : Bool) (nr : ℕ) (op : Op) → is_void backed op ≡ false
    → left_from size backed nr op (first_page op) (pages_to_do size op) ≡ parts_of size nr op
left_does size backed nr op does = elim (cases_Bool (is_single size op)) [
  | inl on ↦
      ap (λ (b : Bool). left_from size backed nr op (first_page op) (cond b 1 (pages_of op))) on
      ∙ (λ i. cond (not (does i) && (on i || has_event op (first_page op)))
      (record { nr = nr; op = op; page = first_page op } ∷ []) [] ++ [])
      ∙ sym (ap (λ (b : Bool). cond b (record { nr = nr; op = op; page = first_page op } ∷ [])
      (parts_from nr op (first_page op) (pages_of op))) on)
  | inr off ↦
      ap (λ (b : Bool). left_from size backed nr op (first_page op) (cond b 1 (pages_of op))) off
      ∙ left_is size backed nr op off (first_page op) (pages_of op)
      ∙ sym (ap (λ (b : Bool). cond b (record { nr = nr; op = op; page = first_page op } ∷ [])
      (parts_from nr op (first_page op) (pages_of op))) off)
]

-- and any
left_all : (size : ℕ) (backed : Bool) (nr : ℕ) (op : Op)
    → left_from size backed nr op (first_page op) (pages_to_do size op) ≡ parts size backed nr op
left_all size backed nr op = elim (cases_Bool (is_void backed op)) [
  | inl void ↦ left_void size backed nr op void (first_page op) (pages_to_do size op)
      ∙ sym (ap (λ (b : Bool). cond b [] (parts_of size nr op)) void)
  | inr does ↦ left_does size backed nr op does
      ∙ sym (ap (λ (b : Bool). cond b [] (parts_of size nr op)) does)
]

-- ---- without the pieces of an operation

without_append : (nr : ℕ) (xs ys : List Part)
    → without nr (xs ++ ys) ≡ without nr xs ++ without nr ys
without_append nr [] ys = refl
without_append nr (x ∷ xs) ys = elim (cases_Bool (eqb x.nr nr)) [
  | inl on ↦ rw on (without_append nr xs ys)
  | inr off ↦ rw off (ap (λ (zs : List Part). x ∷ zs) (without_append nr xs ys))
]

-- its own are gone
without_own : (size : ℕ) (backed : Bool) (nr : ℕ) (op : Op) (page n : ℕ) → without nr (left_from size backed nr op page n) ≡ []
without_own size backed nr op page zero = refl
without_own size backed nr op page (suc n) = elim (cases_Bool (is_part size backed op page)) [
  | inl on ↦ rw on
      (ap (λ (b : Bool). cond b (without nr (left_from size backed nr op (page + 1) n))
      (record { nr = nr; op = op; page = page } ∷ without nr (left_from size backed nr op (page + 1) n)))
      (eq-eqb nr nr refl) ∙ without_own size backed nr op (page + 1) n)
  | inr off ↦ rw off (without_own size backed nr op (page + 1) n)
]

-- and those of a later one stay
without_left : (size : ℕ) (backed : Bool) (nr m : ℕ) (op : Op) → nr < m → (page n : ℕ)
    → without nr (left_from size backed m op page n) ≡ left_from size backed m op page n
without_left size backed nr m op lt page zero = refl
without_left size backed nr m op lt page (suc n) = elim (cases_Bool (is_part size backed op page)) [
  | inl on ↦ rw on
      (ap (λ (b : Bool). cond b (without nr (left_from size backed m op (page + 1) n))
      (record { nr = m; op = op; page = page } ∷ without nr (left_from size backed m op (page + 1) n)))
      (ne_eqb m nr (λ e. let none : ⊥ = omega arith in none))
      ∙ ap (λ (zs : List Part). record { nr = m; op = op; page = page } ∷ zs)
      (without_left size backed nr m op lt (page + 1) n))
  | inr off ↦ rw off (without_left size backed nr m op lt (page + 1) n)
]

without_program : (size : ℕ) (backed : Bool) (nr m : ℕ) (ops : List Op) → nr < m
    → without nr (program size backed m ops) ≡ program size backed m ops
without_program size backed nr m [] lt = refl
without_program size backed nr m (op ∷ ops) lt =
    without_append nr (parts size backed m op) (program size backed (m + 1) ops)
    ∙ (λ i. one i ++ without_program size backed nr (m + 1) ops (omega arith) i) where
      one : without nr (parts size backed m op) ≡ parts size backed m op
      one = ap (without nr) (sym (left_all size backed m op))
          ∙ without_left size backed nr m op lt (first_page op) (pages_to_do size op)
          ∙ left_all size backed m op

-- ---- an actor's place

module _ (size : ℕ) (backed : Bool) (ops : List Op) (nr : ℕ) (op : Op) (at : slice_get ops nr ≡ Some op) where
  abbrev pub later : List Op
  later = drop (suc nr) ops

  pub todo_here : (page n : ℕ)
      → todo_by size backed nr page n (drop nr ops)
      ≡ left_from size backed nr op page n ++ program size backed (nr + 1) later
  todo_here page n = ap (todo_by size backed nr page n) (drop_cons ops nr op at)

  pub place_here : (page n : ℕ) → IsOn op page n → IsPlaceBy page n (drop nr ops)
  place_here page n on = subst (IsPlaceBy page n) (sym (drop_cons ops nr op at)) on

  pub on_here : (page n : ℕ) → IsPlaceBy page n (drop nr ops) → IsOn op page n
  on_here page n on = subst (IsPlaceBy page n) (drop_cons ops nr op at) on

  pub has_settled : (page n : ℕ) → IsSettledBy size backed page n (drop nr ops)
      → (1 ≤ n) × (is_part size backed op page ≡ true)
  has_settled page n s = subst (IsSettledBy size backed page n) (drop_cons ops nr op at) s

  -- the first page of an operation
  module _ (page n : ℕ) (first : page ≡ first_page op) (all : n ≡ pages_to_do size op) where
    pub todo_first : todo_by size backed nr page n (drop nr ops) ≡ program size backed nr (drop nr ops)
    todo_first = todo_here page n
        ∙ (λ i. left_from size backed nr op (first i) (all i) ++ program size backed (nr + 1) later)
        ∙ ap (λ (ps : List Part). ps ++ program size backed (nr + 1) later) (left_all size backed nr op)
        ∙ sym (ap (program size backed nr) (drop_cons ops nr op at))

    few_to_do : pages_to_do size op ≤ max 1 (pages_of op)
    few_to_do = elim (cases_Bool (is_single size op)) [
      | inl on ↦ rw on (omega arith)
      | inr off ↦ rw off (omega arith)
    ]

    pub place_first : IsPlaceBy page n (drop nr ops)
    place_first = let f = few_to_do in
        place_here page n (record { first = omega arith; last = omega arith })

    pub few_first : IsRequest op → n < 1000
    few_first r = let f = few_to_do in let g = few_pages op r in omega arith

  -- a page without a piece is passed
  module _ (page n : ℕ) (some : 1 ≤ n) where
    next_left : left_from size backed nr op page n
        ≡ cond (is_part size backed op page) (record { nr = nr; op = op; page = page } ∷ []) []
        ++ left_from size backed nr op (page + 1) (n - 1)
    next_left = ap (left_from size backed nr op page) (let q : n ≡ suc (n - 1) = omega arith in q)

    pub pass_todo : is_part size backed op page ≡ false
        → todo_by size backed nr (page + 1) (n - 1) (drop nr ops) ≡ todo_by size backed nr page n (drop nr ops)
    pass_todo off = todo_here (page + 1) (n - 1)
        ∙ sym (ap (λ (xs : List Part). xs ++ program size backed (nr + 1) later) (next_left
        ∙ ap (λ (b : Bool). cond b (record { nr = nr; op = op; page = page } ∷ []) []
        ++ left_from size backed nr op (page + 1) (n - 1)) off))
        ∙ sym (todo_here page n)

    pub pass_place : IsPlaceBy page n (drop nr ops) → IsPlaceBy (page + 1) (n - 1) (drop nr ops)
    pass_place on = let o = on_here page n on in
        place_here (page + 1) (n - 1)
        (record { first = (let f = o.first in omega arith); last = (let l = o.last in omega arith) })

    -- and one with a piece is the next
    pub next_todo : is_part size backed op page ≡ true
        → todo_by size backed nr page n (drop nr ops)
        ≡ record { nr = nr; op = op; page = page } ∷ todo_by size backed nr (page + 1) (n - 1) (drop nr ops)
    next_todo on = todo_here page n
        ∙ ap (λ (xs : List Part). xs ++ program size backed (nr + 1) later) (next_left
        ∙ ap (λ (b : Bool). cond b (record { nr = nr; op = op; page = page } ∷ []) []
        ++ left_from size backed nr op (page + 1) (n - 1)) on)
        ∙ sym (ap (λ (ps : List Part). record { nr = nr; op = op; page = page } ∷ ps)
        (todo_here (page + 1) (n - 1)))

  -- an operation with no page left is passed
  pub last_todo : (page : ℕ)
      → program size backed (nr + 1) (drop (nr + 1) ops) ≡ todo_by size backed nr page 0 (drop nr ops)
  last_todo page =
      ap (λ (k : ℕ). program size backed (nr + 1) (drop k ops))
      (let q : nr + 1 ≡ suc nr = omega arith in q) ∙ sym (todo_here page 0)

  -- an operation that ended is left out
  pub without_rest : (page n : ℕ)
      → program size backed (nr + 1) (drop (nr + 1) ops)
      ≡ without nr (todo_by size backed nr page n (drop nr ops))
  without_rest page n =
      ap (λ (k : ℕ). program size backed (nr + 1) (drop k ops))
      (let q : nr + 1 ≡ suc nr = omega arith in q)
      ∙ sym (ap (without nr) (todo_here page n)
      ∙ without_append nr (left_from size backed nr op page n) (program size backed (nr + 1) later)
      ∙ (λ i. without_own size backed nr op page n i
      ++ without_program size backed nr (nr + 1) later (omega arith) i))

pub no_todo : (size : ℕ) (backed : Bool) (nr : ℕ) (ops : List Op) (page n : ℕ) → length ops ≤ nr
    → todo_by size backed nr page n (drop nr ops) ≡ []
no_todo size backed nr ops page n le = ap (todo_by size backed nr page n) (drop_out ops nr le)

-- the next piece, and those after it
pub todo_next : (size : ℕ) (backed : Bool) (ops : List Op) (pl : Place) (op : Op) → slice_get ops pl.nr ≡ Some op
    → IsSettled size backed ops pl → todo_at size backed ops pl ≡ part_at pl op ∷ todo_at size backed ops (behind pl)
todo_next size backed ops pl op at s =
    let h = has_settled size backed ops pl.nr op at pl.page pl.left s in
    next_todo size backed ops pl.nr op at pl.page pl.left h.0 h.1

-- the request at a place touches its page
pub touches_here : (size : ℕ) (backed : Bool) (ops : List Op) (pl : Place) (op : Op) → slice_get ops pl.nr ≡ Some op
    → AreRequests ops → IsPlace ops pl → IsSettled size backed ops pl → is_maintenance op ≡ false
    → Touches op pl.page
touches_here size backed ops pl op at requests place settled request =
    let on = on_here size backed ops pl.nr op at pl.page pl.left place in
    let some = (has_settled size backed ops pl.nr op at pl.page pl.left settled).0 in
    let n = pages_some op request (requests pl.nr op at) in
    let b = (in_bounds op request (requests pl.nr op at)).1 in record {
      request = requests pl.nr op at;
      first = on.first;
      last = (let l = on.last in omega arith);
    }

-- and so do its sectors
pub is_touched : (op : Op) (page : ℕ) → is_maintenance op ≡ false → Touches op page
    → IsTrue (touches (start_of op) (count_of op) page)
is_touched op page request t =
    let n = pages_some op request t.request in
    let b = (in_bounds op request t.request).1 in
    let first = t.first in
    let last = t.last in
    let low : start_of op < 8 * page + 8 = omega arith in
    let high : 8 * page < start_of op + count_of op = omega arith in
    grind (arith, nat_tests)
