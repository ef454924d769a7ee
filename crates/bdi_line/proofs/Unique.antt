-- A line has one code and payload, and these have one line.
use Rattle.std.proofs.Common.{◌≡◌, ℕ, suc, ◌-◌, ◌*◌, ◌/◌, ◌^◌, ◌<◌, ◌≤◌, ◌⊎◌, inl, inr, List, length, get_or, take, replicate, refl, sym, ap, subst, ◌∙◌, arith, lit<, length-take}
use Rattle.std.proofs.lemmas.Grind.{same_number_lists}
use Rattle.std.proofs.lemmas.List.{get_or-replicate, take_all}
use Rattle.std.proofs.lemmas.Simd.{get_or_wider, Each1-from_get_or}
use Rattle.std.specs.Simd.Lanes.{number_l, digits_l, chunk, Each1}
use Rattle.bdi_line.specs.Line.{values, bound_of, modulus_of, Shape, IsSplit, IsSplitBy, b8d1, b8d2, b8d4, b4d1, b4d2, b2d1}
use Rattle.bdi_line.specs.Coded.{code_number, size_of, FitsCode, IsPayload, IsCoded, IsByteLine}
use Rattle.bdi_line.specs.Packed.{code_of, payload_of}
use Rattle.bdi_line.specs.declared.codes.Code.{Code}
use Rattle.bdi_line.specs.declared.codes.Code.TheVariants.{Zeros, Repeated, B8D1, B8D2, B8D4, B4D1, B4D2, B2D1, Raw}
use Rattle.bdi_line.proofs.Digits.{length-values, values_below, bytes_back}
use Rattle.bdi_line.proofs.Decoded.{value_read}
use Rattle.bdi_line.proofs.Least.{same_code, coded_line}
use Rattle.bdi_line.proofs.Split.{payload_unique}

same_number : (m n a b : ℕ) → (m < n) ⊎ ((m ≡ n) × (a ≤ b)) → (n < m) ⊎ ((n ≡ m) × (b ≤ a)) → a ≡ b
same_number m n a b p q = elim p as (λ _. a ≡ b) [
  | inl lt ↦ elim q as (λ _. a ≡ b) [ inl gt ↦ absurd (omega arith) | inr s ↦ absurd (omega arith) ]
  | inr r ↦ elim q as (λ _. a ≡ b) [ inl gt ↦ absurd (omega arith) | inr s ↦ omega arith ]
]

split_same : (s : Shape) (line p q : List ℕ) → 0 < modulus_of s
    → IsSplit s (values s.width s.count line) p → IsSplit s (values s.width s.count line) q → p ≡ q
split_same s line p q pos k l =
    let one = payload_unique (bound_of s) (modulus_of s) s (values s.width s.count line)
    (length-values s.width s.count line) (values_below s.width s.count line pos) pos in
    one p k ∙ sym (one q l)

payload_same : (c : Code) (line p q : List ℕ) → IsPayload c line p → IsPayload c line q → p ≡ q
payload_same Zeros line p q k l = k ∙ sym l
payload_same Repeated line p q k l = k ∙ sym l
payload_same B8D1 line p q k l = split_same b8d1 line p q (lit< tt) k l
payload_same B8D2 line p q k l = split_same b8d2 line p q (lit< tt) k l
payload_same B8D4 line p q k l = split_same b8d4 line p q (lit< tt) k l
payload_same B4D1 line p q k l = split_same b4d1 line p q (lit< tt) k l
payload_same B4D2 line p q k l = split_same b4d2 line p q (lit< tt) k l
payload_same B2D1 line p q k l = split_same b2d1 line p q (lit< tt) k l
payload_same Raw line p q k l = k ∙ sym l

pub coded_unique : (line p : List ℕ) (c : Code) → length line ≡ 64 → IsCoded line c p
    → (c ≡ code_of line) × (p ≡ payload_of line)
coded_unique line p c long k =
    let d = code_of line in
    let l = coded_line line long in
    let same : c ≡ d = same_code c d
    (same_number (size_of c) (size_of d) (code_number c) (code_number d)
    (k.least d l.fits) (l.least c k.fits)) in
    let P : Code → Type 0 = λ x. IsPayload x line p in
    (same, payload_same d line p (payload_of line) (subst P same k.payload_is) l.payload_is)

-- ---- lines that are decoded without a base

pub bytes_of_line : (line : List ℕ) → IsByteLine line → Each1 (λ x. x < 256) line
bytes_of_line line is = Each1-from_get_or (λ x. x < 256) line 0 (λ i lt. is.1 i 0 lt)

pub zero_line : (line : List ℕ) → IsByteLine line → FitsCode Zeros line → replicate 64 0 ≡ line
zero_line line is zeros =
    same_number_lists (replicate 64 0) line (sym is.0) (λ k lt.
    get_or-replicate 64 k 0 0 lt ∙ sym (zeros k 0 (omega (arith, is.0))))

pub repeated_line : (line p : List ℕ) (v : ℕ) → IsByteLine line → FitsCode Repeated line
    → p ≡ take 8 line → v ≡ number_l 256 (chunk 0 8 p) → replicate 8 v ≡ values 8 8 line
unfolding values
repeated_line line p v is repeated e ev =
    let first : get_or (values 8 8 line) 0 0 ≡ number_l 256 (chunk 0 8 line) =
    get_or_wider 256 8 (256 ^ 8) 8 line 0 refl (bytes_of_line line is) (lit< tt) in
    let front : chunk 0 8 p ≡ chunk 0 8 line =
    take_all 8 p (omega (arith, ap length e, length-take 8 line)) ∙ e in
    same_number_lists (replicate 8 v) (values 8 8 line) (sym (length-values 8 8 line)) (λ j lt.
    get_or-replicate 8 j v 0 lt ∙ ev ∙ ap (number_l 256) front ∙ sym first ∙ sym (repeated j lt))

pub under : (line p : List ℕ) (c d : Code) → c ≡ d → IsCoded line c p → IsCoded line d p
under line p c d e k = let P : Code → Type 0 = λ x. IsCoded line x p in subst P e k

-- ---- a code and a payload have one line

module _ (one other : List ℕ) (long : IsByteLine one) (wide : IsByteLine other) where
  -- the same values are those of one line
  same_line : (w n : ℕ) → 0 < 256 ^ w → (256 ^ w) ^ n ≡ 256 ^ 64
      → values w n one ≡ values w n other → one ≡ other
  same_line w n pos e same =
      sym (bytes_back w n one long.0 (bytes_of_line one long) pos e)
      ∙ ap (λ l. digits_l 256 64 (number_l (256 ^ w) l)) same
      ∙ bytes_back w n other wide.0 (bytes_of_line other wide) pos e

  split_line : (h q c m : ℕ) (s : Shape) (p : List ℕ) → m ≡ 256 ^ s.width → 0 < m
      → q ≡ 256 ^ s.delta → q ≡ 2 * h → m ≡ q * suc c → 2 ^ s.count ≡ 256 ^ (s.count / 8)
      → (256 ^ s.width) ^ s.count ≡ 256 ^ 64
      → IsSplitBy h m s (values s.width s.count one) p
      → IsSplitBy h m s (values s.width s.count other) p → one ≡ other
  split_line h q c m s p width pos eq twice multiple mask_bytes whole k l =
      let P : ℕ → Type 0 = λ n. 0 < n in
      let wrap : 0 < 256 ^ s.width = subst P width pos in
      let Q : List ℕ → ℕ → Type 0 = λ xs n. Each1 (λ v. v < n) xs in
      let below : (line : List ℕ) → Each1 (λ v. v < m) (values s.width s.count line) =
      λ line. subst (Q (values s.width s.count line)) (sym width)
      (values_below s.width s.count line wrap) in
      let read : (line : List ℕ) → (IsSplitBy h m s (values s.width s.count line) p)
      → (j : ℕ) → j < s.count → get_or (values s.width s.count line) j 0 ≡ _ =
      λ line r. value_read h q c m s (values s.width s.count line) p r eq twice multiple mask_bytes
      width (length-values s.width s.count line) (below line) pos in
      same_line s.width s.count wrap whole
      (same_number_lists _ _
      (length-values s.width s.count one ∙ sym (length-values s.width s.count other)) (λ j lt.
      let inside : j < s.count = omega (arith, length-values s.width s.count one) in
      read one k j inside ∙ sym (read other l j inside)))

  pub one_line : (c : Code) (p : List ℕ) → IsCoded one c p → IsCoded other c p → one ≡ other
  one_line Zeros p k l = sym (zero_line one long k.fits) ∙ zero_line other wide l.fits
  one_line Repeated p k l =
      same_line 8 8 (lit< tt) refl
      (sym (repeated_line one p _ long k.fits k.payload_is refl)
      ∙ repeated_line other p _ wide l.fits l.payload_is refl)
  one_line B8D1 p k l = split_line 128 256 (2 ^ 56 - 1) (2 ^ 64) b8d1 p refl (lit< tt) refl refl refl
      refl refl k.payload_is l.payload_is
  one_line B8D2 p k l = split_line 32768 65536 (2 ^ 48 - 1) (2 ^ 64) b8d2 p refl (lit< tt) refl refl
      refl refl refl k.payload_is l.payload_is
  one_line B8D4 p k l = split_line (2 ^ 31) (2 ^ 32) (2 ^ 32 - 1) (2 ^ 64) b8d4 p refl (lit< tt) refl
      refl refl refl refl k.payload_is l.payload_is
  one_line B4D1 p k l = split_line 128 256 (2 ^ 24 - 1) (2 ^ 32) b4d1 p refl (lit< tt) refl refl refl
      refl refl k.payload_is l.payload_is
  one_line B4D2 p k l = split_line 32768 65536 (2 ^ 16 - 1) (2 ^ 32) b4d2 p refl (lit< tt) refl refl
      refl refl refl k.payload_is l.payload_is
  one_line B2D1 p k l = split_line 128 256 (2 ^ 8 - 1) (2 ^ 16) b2d1 p refl (lit< tt) refl refl refl
      refl refl k.payload_is l.payload_is
  one_line Raw p k l = sym k.payload_is ∙ l.payload_is
