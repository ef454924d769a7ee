-- The chain of a class wastes least, and a class stands as itself where what it stands as does.
use Rattle.std.proofs.Common.{List, length, get_or, get_or-set_other, get_or-set_same, ◌≡◌, ℕ, zero, suc, ◌+◌, ◌-◌, ◌*◌, ◌/◌, ◌%◌, ◌<◌, ◌≤◌, ◌≢◌, ◌⊎◌, Bool, true, false, not, ◌||◌, nat_lt, if◌then◌else◌, refl, sym, ◌∙◌, inl, inr, arith}
use Rattle.std.proofs.lemmas.Bool.{cases_order, cases_eq, and_from, and_left, and_right, eq-eqb, ne_eqb, agree_below_at, or_cases, not-true, both_ways}
use Rattle.std.proofs.lemmas.Nat.{le-div, div_below}
use Rattle.std.proofs.Math.ListN.{set}
use Rattle.std.proofs.lemmas.Bool.Decides.{nat_tests}
use Rattle.size_class.specs.Classes.{class_size, waste, chain_of, IsChain, per_of, shares_next, stands_below, stands_of}

-- ---- the chain

-- one more number of frames is the best so far where it wastes less
pub chain_of-suc : (m k : ℕ) → chain_of (suc m) k ≡
    (if nat_lt (waste (suc m) k) (waste (chain_of m k) k) then suc m else chain_of m k)
unfolding chain_of
chain_of-suc m k = refl

-- what is chosen of two numbers of frames, each with its waste
chosen : (f : ℕ → ℕ) (new old : ℕ) →
    ((f new < f old) × ((if nat_lt (f new) (f old) then new else old) ≡ new))
    ⊎ ((f old ≤ f new) × ((if nat_lt (f new) (f old) then new else old) ≡ old))
chosen f new old = grind (arith, nat_tests)

pub chain_cases : (m k : ℕ) →
    ((waste (suc m) k < waste (chain_of m k) k) × (chain_of (suc m) k ≡ suc m))
    ⊎ ((waste (chain_of m k) k ≤ waste (suc m) k) × (chain_of (suc m) k ≡ chain_of m k))
chain_cases m k = rw (chain_of-suc m k) (chosen (λ i. waste i k) (suc m) (chain_of m k))

-- a chain has a frame
pub chain_some : (m k : ℕ) → 1 ≤ chain_of m k
unfolding chain_of
chain_some zero k = omega arith
chain_some (suc m) k = elim (chain_cases m k)
    [ inl p ↦ rw p.1 (omega arith) | inr p ↦ rw p.1 (chain_some m k) ]

-- a chain is within its limit
pub chain_within : (m k : ℕ) → chain_of (suc m) k ≤ suc m
unfolding chain_of
chain_within zero k = elim (chain_cases zero k)
    [ inl p ↦ rw p.1 (omega arith) | inr p ↦ rw p.1 (omega arith) ]
chain_within (suc m) k =
    let before : chain_of (suc m) k ≤ suc m = chain_within m k in
    elim (chain_cases (suc m) k) [ inl p ↦ rw p.1 (omega arith) | inr p ↦ rw p.1 (omega arith) ]

-- no number of frames within the limit wastes less
pub chain_least : (m k other : ℕ) → 1 ≤ other → other ≤ m → waste (chain_of m k) k ≤ waste other k
chain_least zero k other low high = absurd (omega arith)
chain_least (suc m) k other low high =
    elim (cases_order other (suc m)) [
      | inl e ↦ elim (chain_cases m k) [
        | inl p ↦ rw (p.1, e) (omega arith)
        | inr p ↦
            rw (p.1, e) p.0
      ]
      | inr o ↦ elim o [
        | inl lt ↦ let before : waste (chain_of m k) k ≤ waste other k =
            chain_least m k other low (omega arith) in
            elim (chain_cases m k) [ inl p ↦ rw p.1 (omega arith) | inr p ↦ rw p.1 before ]
        | inr gt ↦ absurd (omega arith)
      ]
    ]

-- each smaller number of frames wastes more
pub chain_first : (m k other : ℕ) → 1 ≤ other → other < chain_of m k
    → waste (chain_of m k) k < waste other k
unfolding chain_of
chain_first zero k other low high = absurd (omega arith)
chain_first (suc m) k other low high =
    elim (chain_cases m k) [
      | inl p ↦ let below : other < suc m = rw p.1 at high in
          let before : waste (chain_of m k) k ≤ waste other k =
          chain_least m k other low (omega arith) in
          rw p.1 (omega arith)
      | inr p ↦ rw p.1 (chain_first m k other low (rw p.1 at high))
    ]

-- the chain that is computed is the one that the rule means
pub chain_of-is : (m k : ℕ) → 1 ≤ m → IsChain m k (chain_of m k)
chain_of-is zero k some = absurd (omega arith)
chain_of-is (suc m) k some = record {
  some = chain_some (suc m) k;
  within = chain_within m k;
  least = chain_least (suc m) k;
  first = chain_first (suc m) k;
}

-- ---- what a class stands as

pub stands_below-suc : (m depth : ℕ) →
    stands_below m (suc depth) ≡ (if shares_next m (253 - depth)
    then stands_below m depth else 253 - depth)
unfolding stands_below
stands_below-suc m depth = refl

picked : (b : Bool) (x y : ℕ) → ((b ≡ true) × ((if b then x else y) ≡ x))
    ⊎ ((b ≡ false) × ((if b then x else y) ≡ y))
picked true x y = inl (refl, refl)
picked false x y = inr (refl, refl)

pub stands_cases : (m depth : ℕ) →
    ((shares_next m (253 - depth) ≡ true) × (stands_below m (suc depth) ≡ stands_below m depth))
    ⊎ ((shares_next m (253 - depth) ≡ false) × (stands_below m (suc depth) ≡ 253 - depth))
stands_cases m depth =
    rw (stands_below-suc m depth) (picked (shares_next m (253 - depth)) (stands_below m depth)
    (253 - depth))

pub stands_last : (m : ℕ) → stands_below m 0 ≡ 254
unfolding stands_below
stands_last m = refl

-- a class stands as itself or a greater one
pub stands_above : (m depth : ℕ) → depth ≤ 254 → 254 ≤ stands_below m depth + depth
stands_above m zero small = rw (stands_last m) (omega arith)
stands_above m (suc depth) small =
    let before : 254 ≤ stands_below m depth + depth = stands_above m depth (omega arith) in
    elim (stands_cases m depth) [ inl p ↦ rw p.1 (omega arith) | inr p ↦ rw p.1 (omega arith) ]

pub stands_bound : (m depth : ℕ) → stands_below m depth < 255
stands_bound m zero = rw (stands_last m) (omega arith)
stands_bound m (suc depth) =
    elim (stands_cases m depth) [
      | inl p ↦ rw p.1 (stands_bound m depth)
      | inr p ↦
          rw p.1 (omega arith)
    ]

-- what a class stands as stands as itself
pub stands_itself : (m depth : ℕ) → depth ≤ 254
    → stands_below m (254 - stands_below m depth) ≡ stands_below m depth
stands_itself m zero small = rw (stands_last m) (stands_last m)
stands_itself m (suc depth) small =
    elim (stands_cases m depth) [
      | inl p ↦ rw p.1 (stands_itself m depth (omega arith))
      | inr p ↦
          let back : 254 - (253 - depth) ≡ suc depth = omega arith in
          rw p.1 (rw back p.1)
    ]

-- no class below one that stands as itself stands as a greater one
pub stands_under : (m top depth : ℕ) → stands_below m top ≡ 254 - top → top ≤ 254 → top ≤ depth
    → depth ≤ 254
    → stands_below m depth + top ≤ 254
stands_under m top zero itself small above deep = let e : top ≡ 0 = omega arith in
    rw (stands_last m, e) (omega arith)
stands_under m top (suc depth) itself small above deep =
    elim (cases_order top (suc depth)) [
      | inl e ↦ rw (← e) (rw itself (omega arith))
      | inr o ↦ elim o [
        | inl lt ↦
            let before : stands_below m depth + top ≤ 254 =
            stands_under m top depth itself small (omega arith) (omega arith) in
            elim (stands_cases m depth) [ inl p ↦ rw p.1 before | inr p ↦ rw p.1 (omega arith) ]
        | inr gt ↦ absurd (omega arith)
      ]
    ]

-- ---- a step of the search for a chain

pub chain_taken : (m k cell best : ℕ) → cell ≡ class_size k → best ≡ chain_of m k
    → ((m + 1) * 4096) % cell < (best * 4096) % cell → m + 1 ≡ chain_of (m + 1) k
chain_taken m k cell best size so_far less =
    let e : m + 1 ≡ suc m = omega arith in
    let below : waste (suc m) k < waste (chain_of m k) k = rw (size, so_far, e) at less in
    rw e (elim (chain_cases m k) [ inl p ↦ sym p.1 | inr p ↦ absurd (omega arith) ])

pub chain_kept : (m k cell best : ℕ) → cell ≡ class_size k → best ≡ chain_of m k
    → (best * 4096) % cell ≤ ((m + 1) * 4096) % cell → best ≡ chain_of (m + 1) k
chain_kept m k cell best size so_far more =
    let e : m + 1 ≡ suc m = omega arith in
    let above : waste (chain_of m k) k ≤ waste (suc m) k = rw (size, so_far, e) at more in
    rw (e, so_far) (elim (chain_cases m k) [ inl p ↦ absurd (omega arith) | inr p ↦ sym p.1 ])

-- ---- the cells of a chain

pub per_some : (frames cell : ℕ) → 1 ≤ frames → 32 ≤ cell → cell ≤ 4096 → 1 ≤ frames * 4096 / cell
per_some frames cell some low high = le-div 1 (frames * 4096) cell (omega arith) (omega arith)

pub per_bound : (frames cell : ℕ) → frames ≤ 16 → 32 ≤ cell → frames * 4096 / cell ≤ 2048
per_bound frames cell few low =
    let below : frames * 4096 / cell < 2049 =
    div_below (frames * 4096) cell 2049 (omega arith) (omega arith) in
    omega arith

-- ---- the table of what classes stand as

pub stands_of-shared : (m k depth : ℕ) → k ≡ 253 - depth → depth < 254 → shares_next m k ≡ true
    → stands_of m k ≡ stands_of m (k + 1)
stands_of-shared m k depth at deep shares =
    let here : 254 - k ≡ suc depth = omega arith in
    let there : 254 - (k + 1) ≡ depth = omega arith in
    let same : shares_next m (253 - depth) ≡ true = rw at at shares in
    rw (here, there) (elim (stands_cases m depth) [ inl p ↦ p.1 | inr p ↦ absurd (cc (p.0, same)) ])

pub stands_of-alone : (m k depth : ℕ) → k ≡ 253 - depth → depth < 254 → shares_next m k ≡ false
    → stands_of m k ≡ k
stands_of-alone m k depth at deep shares =
    let here : 254 - k ≡ suc depth = omega arith in
    let same : shares_next m (253 - depth) ≡ false = rw at at shares in
    rw here (elim (stands_cases m depth) [ inl p ↦ absurd (cc (p.0, same)) | inr p ↦ p.1 ∙ sym at ])

-- a list that has what the classes from one on stand as, with the class before it put in
pub table_grows : (m k depth v : ℕ) (stands : List ℕ) → length stands ≡ 255 → k ≡ 253 - depth
    → depth < 254
    → v ≡ stands_of m k
    → ((j : ℕ) → 254 - depth ≤ j → j < 255 → get_or stands j 0 ≡ stands_of m j)
    → (j : ℕ) → 254 - (depth + 1) ≤ j → j < 255 → get_or (set stands k v) j 0 ≡ stands_of m j
table_grows m k depth v stands long at deep value above j low high =
    elim (cases_eq j k) [
      | inl e ↦ let lt : k < length stands = omega arith in rw e (rw get_or-set_same value)
      | inr ne ↦ let other : j ≢ k = ne in rw get_or-set_other (above j (omega arith) high)
    ]

-- ---- the clauses on what class k stands as, at r

pub shares_if : (m k : ℕ) → chain_of m k ≡ chain_of m (k + 1) → per_of m k ≡ per_of m (k + 1)
    → shares_next m k ≡ true
shares_if m k chains cells = and_from _ _ (eq-eqb _ _ chains) (eq-eqb _ _ cells)

pub other_chain : (m k : ℕ) → chain_of m k ≢ chain_of m (k + 1) → shares_next m k ≡ false
other_chain m k chains = and_left _ _ (ne_eqb _ _ chains)

pub other_per : (m k : ℕ) → per_of m k ≢ per_of m (k + 1) → shares_next m k ≡ false
other_per m k cells = and_right _ _ (ne_eqb _ _ cells)

pub stands_next : (m k r : ℕ) → r ≡ stands_of m k → k < 254 → shares_next m k ≡ true
    → r ≡ stands_of m (k + 1)
stands_next m k r is low shares = is ∙ stands_of-shared m k (253 - k) (omega arith) (omega arith)
    shares

pub stands_alone : (m k r : ℕ) → r ≡ stands_of m k → k < 254 → shares_next m k ≡ false → r ≡ k
stands_alone m k r is low shares = is
    ∙ stands_of-alone m k (253 - k) (omega arith) (omega arith) shares

pub stands_of-itself : (m k r : ℕ) → r ≡ stands_of m k → k < 255 → stands_of m r ≡ r
stands_of-itself m k r is low = rw is (stands_itself m (254 - k) (omega arith))

pub stands_of-above : (m k r : ℕ) → r ≡ stands_of m k → k < 255 → k ≤ r
stands_of-above m k r is low =
    let far : 254 ≤ stands_below m (254 - k) + (254 - k) =
    stands_above m (254 - k) (omega arith) in omega arith

pub stands_of-bound : (m k r : ℕ) → r ≡ stands_of m k → r < 255
stands_of-bound m k r is = rw is (stands_bound m (254 - k))

-- ---- packed objects have a class below 254, by a test that is computed for each limit

-- one of the first so many classes below class 254 shares nothing with the next
abbrev parts_above : ℕ → ℕ → Bool
parts_above m zero = false
parts_above m (suc depth) = not (shares_next m (253 - depth)) || parts_above m depth

-- at each limit from 4 to 16 one of the classes 202 to 253 does
parts_above-each : (m : ℕ) → 4 ≤ m → m ≤ 16 → parts_above m 52 ≡ true
unfolding chain_of
parts_above-each m low high =
    let e : m ≡ (m - 4) + 4 = omega arith in
    rw e (agree_below_at (λ i. parts_above (i + 4) 52) (λ i. true) 13 (m - 4) refl (omega arith))

-- then each class below them stands as one of them or a lower one
below_parts : (m depth k : ℕ) → parts_above m depth ≡ true → depth ≤ 254 → k + depth ≤ 254
    → stands_of m k < 254
below_parts m zero k parts small low = absurd (cc)
below_parts m (suc depth) k parts small low =
    elim (or_cases _ _ parts) [
      | inl here ↦
          let alone : stands_below m (suc depth) ≡ 254 - suc depth =
          elim (stands_cases m depth) [
            | inl p ↦ absurd (both_ways _ (not-true _ here) p.0)
            | inr p ↦ p.1 ∙ (omega arith)
          ] in
          let under : stands_below m (254 - k) + suc depth ≤ 254 =
          stands_under m (suc depth) (254 - k) alone small (omega arith) (omega arith) in
          omega arith
      | inr there ↦ below_parts m depth k there (omega arith) (omega arith)
    ]

pub packed_below : (m k : ℕ) → 4 ≤ m → m ≤ 16 → k ≤ 202 → stands_of m k < 254
packed_below m k low high packed = below_parts m 52 k (parts_above-each m low high) (omega arith)
    (omega arith)
