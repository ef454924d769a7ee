-- What the reader's loops read, one item more.
use Rattle.std.proofs.Common.{◌≡◌, ℕ, ◌+◌, ◌*◌, ◌%◌, ◌<◌, ◌≤◌, ◌⊎◌, inl, inr, nat_lt, Bool, true, false, ◌&&◌, List, [], ◌∷◌, ◌++◌, length, take, drop, get_or, Option, None, Some, refl, sym, ap, ◌∙◌, append_assoc, arith}
use Rattle.std.specs.Prelude.{max, if◌then◌else◌}
use Rattle.std.specs.List.{slice_set}
use Rattle.std.proofs.lemmas.Bool.{cases_lt, lt-ltb, le-ltb}
use Rattle.std.proofs.lemmas.Bool.Decides.{nat_tests}
use Rattle.std.proofs.lemmas.List.{drop_more, take_more_set}
use Rattle.job_print.specs.Reading.{◌>>=◌, after, digit_in, byte_in, bytes_in}

after-cons : {A : Type 0} (xs : List A) (y : A) (o : Option (List A))
    → after xs (o >>= (λ ys. Some (y ∷ ys))) ≡ after (xs ++ y ∷ []) o
after-cons xs y None = refl
after-cons xs y (Some ys) = ap (λ zs. Some zs) (sym (append_assoc xs (y ∷ []) ys))

-- a byte by the values of its digits, each below 16 where it is one
byte_by : (c d high low : ℕ) → digit_in c ≡ (if nat_lt high 16 then Some high else None)
    → digit_in d ≡ (if nat_lt low 16 then Some low else None)
    → byte_in c d
    ≡ (if nat_lt high 16 && nat_lt low 16 then Some (16 * high + low) else None)
unfolding byte_in
byte_by c d high low one two = by (nat_lt high 16) (nat_lt low 16) one two
  where
    by : (a b : Bool) → digit_in c ≡ (if a then Some high else None)
        → digit_in d ≡ (if b then Some low else None)
        → digit_in c >>= (λ x. digit_in d >>= (λ y. Some (16 * x + y)))
        ≡ (if a && b then Some (16 * high + low) else None)
    by true true one two = rw (one, two) refl
    by true false one two = rw (one, two) refl
    by false b one two = rw one refl

module _ (digits into : List ℕ) (k : ℕ) (below : k < length into)
    (twice : length digits ≡ 2 * length into) where
  -- the two digits that come next
  two : drop (2 * k) digits
      ≡ get_or digits (2 * k) 0 ∷ get_or digits (2 * k + 1) 0 ∷ drop (2 * (k + 1)) digits
  two =
      let next : 2 * k + 1 + 1 ≡ 2 * (k + 1) = omega arith in
      drop_more digits (2 * k) 0 (omega arith)
      ∙ ap (λ ds. get_or digits (2 * k) 0 ∷ ds) (drop_more digits (2 * k + 1) 0 (omega arith))
      ∙ ap (λ i. get_or digits (2 * k) 0 ∷ get_or digits (2 * k + 1) 0 ∷ drop i digits) next

  -- what is read from them on, by the byte that they are
  from_byte : (o : Option ℕ)
      → byte_in (get_or digits (2 * k) 0) (get_or digits (2 * k + 1) 0) ≡ o
      → after (take k into) (bytes_in (drop (2 * k) digits))
      ≡ after (take k into)
      (o >>= (λ y. bytes_in (drop (2 * (k + 1)) digits) >>= (λ ys. Some (y ∷ ys))))
  from_byte o is =
      let rest = bytes_in (drop (2 * (k + 1)) digits) in
      ap (λ ds. after (take k into) (bytes_in ds)) two
      ∙ ap (λ (o : Option ℕ). after (take k into) (o >>= (λ y. rest >>= (λ ys. Some (y ∷ ys))))) is

  bytes_more : (b : ℕ)
      → byte_in (get_or digits (2 * k) 0) (get_or digits (2 * k + 1) 0) ≡ Some b
      → after (take k into) (bytes_in (drop (2 * k) digits))
      ≡ after (take (k + 1) (slice_set into k b)) (bytes_in (drop (2 * (k + 1)) digits))
  bytes_more b is =
      let rest = bytes_in (drop (2 * (k + 1)) digits) in
      from_byte (Some b) is ∙ after-cons (take k into) b rest
      ∙ ap (λ bs. after bs rest) (sym (take_more_set into k b below))

  -- the same by the values of the two digits, and the greatest of those before
  pub digits_more : (high low greatest most : ℕ)
      → digit_in (get_or digits (2 * k) 0) ≡ (if nat_lt high 16 then Some high else None)
      → digit_in (get_or digits (2 * k + 1) 0) ≡ (if nat_lt low 16 then Some low else None)
      → most ≡ max (max greatest high) low
      → (if nat_lt greatest 16 then after (take k into) (bytes_in (drop (2 * k) digits)) else None)
      ≡ (if nat_lt most 16
      then after (take (k + 1) (slice_set into k (16 * (high % 16) + low % 16)))
      (bytes_in (drop (2 * (k + 1)) digits)) else None)
  digits_more high low greatest most one other is = by (cases_lt most 16) (cases_lt greatest 16)
    where
      byte : byte_in (get_or digits (2 * k) 0) (get_or digits (2 * k + 1) 0)
          ≡ (if nat_lt high 16 && nat_lt low 16 then Some (16 * high + low) else None)
      byte = byte_by (get_or digits (2 * k) 0) (get_or digits (2 * k + 1) 0) high low one other

      by : (most < 16) ⊎ (16 ≤ most) → (greatest < 16) ⊎ (16 ≤ greatest)
          → (if nat_lt greatest 16 then after (take k into) (bytes_in (drop (2 * k) digits))
          else None)
          ≡ (if nat_lt most 16
          then after (take (k + 1) (slice_set into k (16 * (high % 16) + low % 16)))
          (bytes_in (drop (2 * (k + 1)) digits)) else None)
      by (inl few) (inl small) =
          let a : nat_lt greatest 16 ≡ true = lt-ltb greatest 16 small in
          let b : nat_lt most 16 ≡ true = lt-ltb most 16 few in
          let c : nat_lt high 16 ≡ true = lt-ltb high 16 (omega arith) in
          let d : nat_lt low 16 ≡ true = lt-ltb low 16 (omega arith) in
          let same : 16 * high + low ≡ 16 * (high % 16) + low % 16 = omega arith in
          rw (a, b) (bytes_more (16 * (high % 16) + low % 16) (byte ∙ rw (c, d) (ap (λ n. Some n) same)))
      by (inl few) (inr great) = absurd (omega arith)
      by (inr many) (inl small) =
          let a : nat_lt greatest 16 ≡ true = lt-ltb greatest 16 small in
          let b : nat_lt most 16 ≡ false = le-ltb most 16 many in
          let none : (nat_lt high 16 && nat_lt low 16) ≡ false = grind (arith, nat_tests) in
          rw (a, b) (from_byte None (byte ∙ rw none refl))
      by (inr many) (inr great) =
          let a : nat_lt greatest 16 ≡ false = le-ltb greatest 16 great in
          let b : nat_lt most 16 ≡ false = le-ltb most 16 many in
          rw (a, b) refl
