-- Values beside a base: when they are near it, what is written for them, and that no other payload
-- will do.
use Rattle.std.proofs.Common.{◌≡◌, ℕ, ◌+◌, ◌-◌, ◌/◌, ◌%◌, ◌^◌, ◌<◌, ◌≤◌, ◌⊎◌, inl, inr, List, [], ◌∷◌, ◌++◌, Bool, true, false, not, cond, eqb, length, get_or, map, refl, sym, ap, subst, ◌∙◌, arith, append_assoc}
use Rattle.std.proofs.Math.Nat.{mod-eq_of_lt, mod-lt, add-mod_right}
use Rattle.std.proofs.lemmas.Bool.{cases_lt, cases_Bool, false_from_ne_true}
use Rattle.std.proofs.lemmas.Grind.{same_number_lists}
use Rattle.std.proofs.lemmas.List.{length-map, get_or-map, get_or_past}
use Rattle.std.proofs.lemmas.Simd.{bit_mask_l, mask_l-lt, Each1-get_or}
use Rattle.std.specs.List.{prefix_len}
use Rattle.std.specs.Simd.Lanes.{digits_l, Each1}
use Rattle.bdi_line.specs.Line.{is_large, base_of, difference, low_bytes, Shape, bound_of, modulus_of, IsSplitBy, AreNear}
use Rattle.bdi_line.specs.Packed.{delta_of, deltas_of, marks_of, is_near, payload_by, split_payload}
use Rattle.bdi_line.specs.Written.{AreFar, IsParted}
use Rattle.bdi_line.proofs.Bits.{none_passes, no_marks, mask_unique, bit_times}
use Rattle.bdi_line.proofs.Large.{wrapped}

-- ---- one value and its delta

back : (m b v : ℕ) → v < m → b ≤ m → v ≡ (difference m b v + b) % m
back m b v lt le = elim (wrapped (m - b) m v lt (omega arith)) [
  | inl a ↦
      let e : v + (m - b) + b ≡ v + m = omega arith in
      sym (ap (λ n. (n + b) % m) a.1 ∙ ap (λ n. n % m) e ∙ add-mod_right v m ∙ mod-eq_of_lt lt)
  | inr a ↦
      let e : v + (m - b) - m + b ≡ v = omega (arith, a.0) in
      sym (ap (λ n. (n + b) % m) a.1 ∙ ap (λ n. n % m) e ∙ mod-eq_of_lt lt)
]

forth : (m b d : ℕ) → d < m → b ≤ m → d ≡ difference m b ((d + b) % m)
forth m b d lt le = elim (wrapped b m d lt le) [
  | inl a ↦
      let e : d + b + (m - b) ≡ d + m = omega arith in
      sym (ap (λ n. (n + (m - b)) % m) a.1 ∙ ap (λ n. n % m) e ∙ add-mod_right d m
      ∙ mod-eq_of_lt lt)
  | inr a ↦
      let e : d + b - m + (m - b) ≡ d = omega (arith, a.0) in
      sym (ap (λ n. (n + (m - b)) % m) a.1 ∙ ap (λ n. n % m) e ∙ mod-eq_of_lt lt)
]

value_of_delta : (h m b v : ℕ) → v < m → b ≤ m
    → v ≡ (delta_of h m b v + cond (is_large h m v) b 0) % m
value_of_delta h m b v lt le =
    elim (is_large h m v) as (λ t. v ≡ (cond t (difference m b v) v + cond t b 0) % m) [
      | true ↦ back m b v lt le
      | false ↦ sym (ap (λ n. n % m) (let e : v + 0 ≡ v = omega arith in e) ∙ mod-eq_of_lt lt)
    ]

delta_unique : (h m b v d : ℕ) → d < m → b ≤ m
    → v ≡ (d + cond (is_large h m v) b 0) % m → d ≡ delta_of h m b v
delta_unique h m b v d lt le =
    elim (is_large h m v) as (λ t. v ≡ (d + cond t b 0) % m → d ≡ cond t (difference m b v) v) [
      | true ↦ λ e. forth m b d lt le ∙ ap (difference m b) (sym e)
      | false ↦ λ e.
          sym (e ∙ ap (λ n. n % m) (let z : d + 0 ≡ d = omega arith in z) ∙ mod-eq_of_lt lt)
    ]

small_delta : (h m b v : ℕ)
    → (is_large h m v ≡ false) ⊎ (is_large h m (difference m b v) ≡ false)
    → is_large h m (delta_of h m b v) ≡ false
small_delta h m b v near = elim (cases_Bool (is_large h m v)) [
  | inl large ↦
      ap (λ t. is_large h m (cond t (difference m b v) v)) large
      ∙ (elim near as (λ _. is_large h m (difference m b v) ≡ false) [ inl e ↦ (cc) | inr e ↦ e ])
  | inr small ↦ ap (λ t. is_large h m (cond t (difference m b v) v)) small ∙ small
]

near_from_delta : (h m b v : ℕ) → is_large h m (delta_of h m b v) ≡ false
    → (is_large h m v ≡ false) ⊎ (is_large h m (difference m b v) ≡ false)
near_from_delta h m b v e = elim (cases_Bool (is_large h m v)) [
  | inl large ↦ inr (sym (ap (λ t. is_large h m (cond t (difference m b v) v)) large) ∙ e)
  | inr small ↦ inl small
]

delta_below : (h m b v : ℕ) → 0 < m → v < m → delta_of h m b v < m
delta_below h m b v pos lt =
    elim (is_large h m v) as (λ t. cond t (difference m b v) v < m) [
      | true ↦ mod-lt (v + (m - b)) pos
      | false ↦ lt
    ]

-- ---- all values

below_at : (m : ℕ) (vs : List ℕ) → 0 < m → Each1 (λ v. v < m) vs → (j : ℕ) → get_or vs j 0 < m
below_at m vs pos below j = elim (cases_lt j (length vs)) as (λ _. get_or vs j 0 < m) [
  | inl lt ↦ Each1-get_or (λ v. v < m) vs j 0 lt below
  | inr ge ↦ let e = get_or_past vs j 0 ge in omega (arith, e)
]

pub base_below : (h m : ℕ) (vs : List ℕ) → 0 < m → Each1 (λ v. v < m) vs → base_of h m vs < m
unfolding base_of
base_below h m vs pos below = below_at m vs pos below (prefix_len (λ v. not (is_large h m v)) vs)

module _ (n h m : ℕ) (vs : List ℕ) (count : length vs ≡ n) where
  delta_at : (j : ℕ) → j < n
      → get_or (deltas_of h m vs) j 0 ≡ delta_of h m (base_of h m vs) (get_or vs j 0)
  delta_at j lt = get_or-map (delta_of h m (base_of h m vs)) vs j 0 0 (omega arith)

  pub near_true : is_near h m vs ≡ true → AreNear n h m vs
  near_true e j lt =
      let within : j < length (deltas_of h m vs) =
      omega (arith, length-map vs (delta_of h m (base_of h m vs))) in
      near_from_delta h m (base_of h m vs) (get_or vs j 0)
      (ap (is_large h m) (sym (delta_at j lt))
      ∙ none_passes (is_large h m) (deltas_of h m vs) e j within)

  pub true_near : AreNear n h m vs → is_near h m vs ≡ true
  true_near near =
      no_marks (is_large h m) (deltas_of h m vs) (λ j lt.
      let inside : j < n = omega (arith, length-map vs (delta_of h m (base_of h m vs))) in
      ap (is_large h m) (delta_at j inside) ∙ small_delta h m _ (get_or vs j 0) (near j inside))

-- the first value and another are far from one another, so the values aren't near the base
pub far_misfits : (n h m j : ℕ) (vs : List ℕ) (first second : ℕ) → length vs ≡ n → j < n
    → first ≡ get_or vs 0 0 → second ≡ get_or vs j 0 → AreFar h m first second
    → is_near h m vs ≡ false
unfolding base_of
far_misfits n h m j [] first second count lt e f far = absurd (omega (arith, count))
far_misfits n h m j (v ∷ vs) first second count lt e f far =
    let all = v ∷ vs in
    let large : is_large h m v ≡ true = ap (is_large h m) (sym e) ∙ far.one in
    let none : prefix_len (λ x. not (is_large h m x)) all ≡ 0 =
    ap (λ b. cond (not b) (1 + prefix_len (λ x. not (is_large h m x)) vs) 0) large in
    let base : base_of h m all ≡ first = ap (λ k. get_or all k 0) none ∙ sym e in
    false_from_ne_true (is_near h m all) (λ yes.
    elim (near_true n h m all count yes j lt) as (λ _. ⊥) [
      | inl small ↦
          let no : is_large h m second ≡ false = ap (is_large h m) f ∙ small in
          let two = far.two in
          (cc)
      | inr close ↦
          let no : is_large h m (difference m first second) ≡ false =
          ap (λ b. is_large h m (difference m b second)) (sym base)
          ∙ ap (λ x. is_large h m (difference m (base_of h m all) x)) f ∙ close in
          let apart = far.apart in
          (cc)
    ])

-- marks of deltas beside the base are those that `is_near` looks at
pub near_by_marks : (h m : ℕ) (vs : List ℕ) (b marks : ℕ) (ds : List ℕ) → b ≡ base_of h m vs
    → ds ≡ map (delta_of h m b) vs → marks ≡ marks_of (is_large h m) ds
    → eqb marks 0 ≡ is_near h m vs
near_by_marks h m vs b marks ds eb ed em =
    ap (λ n. eqb n 0) em
    ∙ ap (λ l. eqb (marks_of (is_large h m) l) 0) (ed ∙ ap (λ x. map (delta_of h m x) vs) eb)

-- ---- the payload

module _ (h m : ℕ) (s : Shape) (vs : List ℕ) (count : length vs ≡ s.count)
    (below : Each1 (λ v. v < m) vs) (pos : 0 < m) where
  mark_at : (j : ℕ) → j < s.count
      → get_or (map (is_large h m) vs) j false ≡ is_large h m (get_or vs j 0)
  mark_at j lt = get_or-map (is_large h m) vs j 0 false (omega arith)

  marks_below : marks_of (is_large h m) vs < 2 ^ s.count
  marks_below =
      let P : ℕ → Type 0 = λ k. marks_of (is_large h m) vs < 2 ^ k in
      subst P (length-map vs (is_large h m) ∙ count) (mask_l-lt (map (is_large h m) vs))

  base_le : base_of h m vs ≤ m
  base_le = omega (arith, base_below h m vs pos below)

  pub split_of : AreNear s.count h m vs → IsSplitBy h m s vs (payload_by h m s vs)
  split_of near =
      let b = base_of h m vs in
      let marked : (j : ℕ) → j < s.count
      → marks_of (is_large h m) vs / 2 ^ j % 2 ≡ cond (is_large h m (get_or vs j 0)) 1 0 =
      λ j lt. bit_mask_l (map (is_large h m) vs) j ∙ ap (λ t. cond t 1 0) (mark_at j lt) in
      let at = delta_at s.count h m vs count in
      record {
        mask = marks_of (is_large h m) vs;
        deltas = deltas_of h m vs;
        payload_is = refl;
        mask_fits = marks_below;
        marked = marked;
        count_is = length-map vs (delta_of h m b) ∙ count;
        small = λ j lt. ap (is_large h m) (at j lt) ∙ small_delta h m b (get_or vs j 0) (near j lt);
        below = λ j lt.
            (let e = at j lt in
            omega (arith, e, delta_below h m b (get_or vs j 0) pos (below_at m vs pos below j)));
        value_is = λ j lt.
            value_of_delta h m b (get_or vs j 0) (below_at m vs pos below j) base_le
            ∙ ap (λ d. (d + cond (is_large h m (get_or vs j 0)) b 0) % m) (sym (at j lt))
            ∙ ap (λ x. (get_or (deltas_of h m vs) j 0 + x) % m)
            (sym (bit_times (is_large h m (get_or vs j 0)) _ b (marked j lt)));
      }

  module _ (p : List ℕ) (k : IsSplitBy h m s vs p) where
    mask_is : k.mask ≡ marks_of (is_large h m) vs
    mask_is =
        let long : length (map (is_large h m) vs) ≡ s.count = length-map vs (is_large h m)
        ∙ count in
        let P : ℕ → Type 0 = λ n. k.mask < 2 ^ n in
        mask_unique (map (is_large h m) vs) k.mask (subst P (sym long) k.mask_fits) (λ j lt.
        let inside : j < s.count = omega arith in
        k.marked j inside ∙ ap (λ t. cond t 1 0) (sym (mark_at j inside)))

    deltas_are : k.deltas ≡ deltas_of h m vs
    deltas_are =
        let b = base_of h m vs in
        same_number_lists k.deltas (deltas_of h m vs)
        (k.count_is ∙ sym (length-map vs (delta_of h m b) ∙ count)) (λ j lt.
        let inside : j < s.count = omega (arith, k.count_is) in
        delta_unique h m b (get_or vs j 0) (get_or k.deltas j 0) (k.below j inside) base_le
        (k.value_is j inside ∙ ap (λ x. (get_or k.deltas j 0 + x) % m)
        (bit_times (is_large h m (get_or vs j 0)) _ b (k.marked j inside)))
        ∙ sym (delta_at s.count h m vs count j inside))

    pub payload_unique : p ≡ payload_by h m s vs
    payload_unique =
        let base = digits_l 256 s.width (base_of h m vs) in
        k.payload_is
        ∙ ap (λ x. digits_l 256 (s.count / 8) x ++ base ++ low_bytes s.delta k.deltas) mask_is
        ∙ ap (λ l. digits_l 256 (s.count / 8) (marks_of (is_large h m) vs) ++ base ++ low_bytes
        s.delta l)
        deltas_are

-- what three appends write
pub written : (s : Shape) (vs : List ℕ) (marks b : ℕ)
    (ds old one two three first second third : List ℕ)
    → IsParted (bound_of s) (modulus_of s) vs marks b ds
    → one ≡ old ++ first → two ≡ one ++ second → three ≡ two ++ third
    → first ≡ digits_l 256 (s.count / 8) marks → second ≡ digits_l 256 s.width b
    → third ≡ low_bytes s.delta ds → three ≡ old ++ split_payload s vs
unfolding split_payload
written s vs marks b ds old one two three first second third part e1 e2 e3 f1 f2 f3 =
    let h = bound_of s in
    let m = modulus_of s in
    let deltas : ds ≡ deltas_of h m vs =
    part.deltas_is ∙ ap (λ c. map (delta_of h m c) vs) part.base_is in
    let parts : first ++ second ++ third ≡ payload_by h m s vs =
    ap (λ l. l ++ second ++ third) (f1 ∙ ap (digits_l 256 (s.count / 8)) part.marks_is)
    ∙ ap (λ l. digits_l 256 (s.count / 8) (marks_of (is_large h m) vs) ++ l ++ third)
    (f2 ∙ ap (digits_l 256 s.width) part.base_is)
    ∙ ap (λ l. digits_l 256 (s.count / 8) (marks_of (is_large h m) vs)
    ++ digits_l 256 s.width (base_of h m vs) ++ l)
    (f3 ∙ ap (low_bytes s.delta) deltas) in
    e3 ∙ ap (λ l. l ++ third) (e2 ∙ ap (λ l. l ++ second) e1)
    ∙ append_assoc (old ++ first) second third
    ∙ append_assoc old first (second ++ third)
    ∙ ap (λ l. old ++ l) (sym (append_assoc first second third) ∙ parts)

-- the marks of n values fit n bits
pub marks_fit : (n : ℕ) (p : ℕ → Bool) (vs : List ℕ) (marks : ℕ) → length vs ≡ n
    → marks ≡ marks_of p vs → marks < 2 ^ n
marks_fit n p vs marks long e =
    let P : ℕ → Type 0 = λ j. marks_of p vs < 2 ^ j in
    let lt = subst P (length-map vs p ∙ long) (mask_l-lt (map p vs)) in
    omega (arith, e, lt)
