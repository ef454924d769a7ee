-- The pieces of a request: the first, and then those of what is left.
use Rattle.std.proofs.Common.{◌≡◌, ◌⊎◌, ℕ, zero, suc, ◌+◌, ◌-◌, ◌*◌, ◌/◌, ◌%◌, ◌<◌, ◌≤◌, min, max, IsTrue, List, [], ◌∷◌, refl, sym, ap, ◌∙◌, inl, inr, arith}
use Rattle.std.specs.List.{AllByRecursion}
use Rattle.std.proofs.lemmas.Bool.Decides.{nat_tests}
use Rattle.zr_base.specs.declared.op.Piece.{Piece}
use Rattle.zr_base.specs.Plain.{touches}
use Rattle.zr_base.specs.Pieces.{pages_touched, piece_on, pieces_from, pieces_of, IsPieceOf, IsTouched}

-- the sectors from m on, up to e, on a page
abbrev from_to : ℕ → ℕ → ℕ → Piece
from_to page m e = record {
  page = record { 0 = page };
  first = m - 8 * page;
  count = min e (8 * page + 8) - m;
}

-- two requests that end alike and begin before a page have the same pieces from it on
same_from : (a c b d page n : ℕ) → a + c ≡ b + d → a ≤ 8 * page → b ≤ 8 * page
    → pieces_from a c page n ≡ pieces_from b d page n
same_from a c b d page zero e p q = refl
same_from a c b d page (suc n) e p q =
    ap (λ (x : Piece). x ∷ pieces_from a c (page + 1) n)
    (ap (λ (m : ℕ). from_to page m (a + c))
    (let f : max a (8 * page) ≡ max b (8 * page) = omega arith in f)
    ∙ ap (from_to page (max b (8 * page))) e)
    ∙ ap (λ (xs : List Piece). piece_on b d page ∷ xs)
    (same_from a c b d (page + 1) n e (omega arith) (omega arith))

-- of no sector there is no piece
pub pieces-none : (a c : ℕ) → c ≡ 0 → pieces_of a c ≡ []
pieces-none a c e = ap (pieces_of a) e

pages_some : (a c : ℕ) → 1 ≤ c → pages_touched a c ≡ (a + c - 1) / 8 + 1 - a / 8
pages_some a c h = grind arith

-- a piece by its numbers
abbrev pub piece_at : ℕ → ℕ → ℕ → Piece
piece_at page first count = record { page = record { 0 = page }; first = first; count = count }

-- the first piece of a request ends at the page's end or the request's
module _ (a c k : ℕ) (some : 1 ≤ c) (k_is : k ≡ min c (8 - a % 8)) where
  first_is : piece_on a c (a / 8) ≡ piece_at (a / 8) (a % 8) k
  first_is =
      let f : max a (8 * (a / 8)) - 8 * (a / 8) ≡ a % 8 = omega arith in
      let n : min (a + c) (8 * (a / 8) + 8) - max a (8 * (a / 8)) ≡ k = omega arith in
      ap (λ (x : ℕ). piece_at (a / 8) x (min (a + c) (8 * (a / 8) + 8) - max a (8 * (a / 8)))) f
      ∙ ap (piece_at (a / 8) (a % 8)) n

  rest_is : (m : ℕ) → m ≡ (a + c - 1) / 8 - a / 8
      → pieces_from a c (a / 8 + 1) m ≡ pieces_of (a + k) (c - k)
  rest_is m m_is = elim (cases_le c k) [
    | inl all ↦
        ap (pieces_from a c (a / 8 + 1)) (let z : m ≡ 0 = omega arith in z)
        ∙ sym (pieces-none (a + k) (c - k) (omega arith))
    | inr more ↦
        same_from a c (a + k) (c - k) (a / 8 + 1) m (omega arith) (omega arith) (omega arith)
        ∙ ap (λ (p : ℕ). pieces_from (a + k) (c - k) p m)
        (let p : a / 8 + 1 ≡ (a + k) / 8 = omega arith in p)
        ∙ ap (pieces_from (a + k) (c - k) ((a + k) / 8))
        (let n : m ≡ (a + k + (c - k) - 1) / 8 + 1 - (a + k) / 8 = omega arith in
        n ∙ sym (pages_some (a + k) (c - k) (omega arith)))
  ]
    where
      cases_le : (x y : ℕ) → (x ≤ y) ⊎ (y < x)
      cases_le x y = grind arith

  pub pieces-some : pieces_of a c ≡ piece_at (a / 8) (a % 8) k ∷ pieces_of (a + k) (c - k)
  pieces-some =
      let m : ℕ = (a + c - 1) / 8 - a / 8 in
      let n : pages_touched a c ≡ suc m = pages_some a c some ∙ (omega arith) in
      ap (pieces_from a c (a / 8)) n
      ∙ ap (λ (x : Piece). x ∷ pieces_from a c (a / 8 + 1) m) first_is
      ∙ ap (λ (xs : List Piece). piece_at (a / 8) (a % 8) k ∷ xs) (rest_is m refl)

-- ---- what the pieces have

-- a page on which a request has a sector
pub touched : (start count page : ℕ) → IsTrue (touches start count page)
    → IsTouched start count page
touched start count page on =
    let c : 0 < count = grind (arith, nat_tests) in
    let s : start < 8 * page + 8 = grind (arith, nat_tests) in
    let e : 8 * page < start + count = grind (arith, nat_tests) in
    let n = pages_some start count c in
    record { from_first = omega arith; to_last = omega arith }

-- the pages from the first one on are touched
module _ (start count page : ℕ) (at : IsTouched start count page) where
  counted : 1 ≤ count
  counted = elim (count_or count) [
    | inl none ↦ absurd (let n : pages_touched start count ≡ 0 = ap (pages_touched start) none in
        let f = at.from_first in let l = at.to_last in omega arith)
    | inr some ↦ some
  ]
    where
      count_or : (n : ℕ) → (n ≡ 0) ⊎ (1 ≤ n)
      count_or n = grind arith

  bounds : (start < 8 * page + 8) × (8 * page < start + count)
  bounds =
      let s : 1 ≤ count = counted in
      let n = pages_some start count s in
      let f = at.from_first in let l = at.to_last in (omega arith, omega arith)

  pub touched-back : IsTrue (touches start count page)
  touched-back = let s = counted in let b = bounds in grind (arith, nat_tests)

  pub is_piece_of : IsPieceOf start count page (piece_on start count page)
  is_piece_of =
      let s : 1 ≤ count = counted in
      let b : (start < 8 * page + 8) × (8 * page < start + count) = bounds in
      record {
        page_is = refl;
        some_sector = omega (arith, b.0, b.1);
        within = omega (arith, b.0, b.1);
        sectors = λ k below. grind (arith, nat_tests);
      }

-- each piece is that of its page
pieces_are : (start count page n : ℕ) → start / 8 ≤ page
    → page + n ≤ start / 8 + pages_touched start count
    → AllByRecursion (λ (p : Piece). IsPieceOf start count p.page.0 p)
    (pieces_from start count page n)
pieces_are start count page zero first last = tt
pieces_are start count page (suc n) first last = (
  is_piece_of start count page (record { from_first = first; to_last = omega arith }),
  pieces_are start count (page + 1) n (omega arith) (omega arith),
)

pub pieces_of-each : (start count : ℕ)
    → AllByRecursion (λ (p : Piece). IsPieceOf start count p.page.0 p) (pieces_of start count)
pieces_of-each start count =
    pieces_are start count (start / 8) (pages_touched start count) (omega arith) (omega arith)
