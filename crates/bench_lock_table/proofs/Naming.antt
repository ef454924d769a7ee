-- Where the names of a row of tags stand.
use Rattle.std.proofs.Common.{◌≡◌, ℕ, zero, suc, ◌+◌, ◌<◌, ◌≤◌, ◌⊎◌, List, [], ◌∷◌, ◌++◌, map, length, Some, slice_get, sym, refl, ap, ◌∙◌, subst, inl, inr, ⊎_elim, arith, length-append}
use Rattle.std.proofs.Math.Nat.{eq-or-lt_of_le}
use Rattle.zr_base.specs.declared.op.Tag.{Tag}
use Rattle.lock_row.specs.declared.names.LockNo.{LockNo}
use Rattle.lock_row.specs.declared.names.LockNo.TheVariants.{Slot, Class, Account, Blocks, Device}
use Rattle.lock_table.specs.Starts.{StandAt}
use Rattle.bench_lock_table.specs.Tagging.{spot}
use Rattle.bench_lock_table.specs.Names.{slot, names_to, IsAmong}
use Rattle.bench_lock_table.specs.Made.{IsOwn}

names_length : (n : ℕ) → length (names_to n) ≡ n + 1
names_length zero = refl
names_length (suc n) = let r = names_length n in
    omega (arith, length-append (names_to n) (slot n ∷ []))

-- the last of a list, or one before it
at_snoc : {A : Type 0} (xs : List A) (x y : A) (i : ℕ) → slice_get (xs ++ x ∷ []) i ≡ Some y
    → (slice_get xs i ≡ Some y) ⊎ ((i ≡ length xs) × (x ≡ y))
at_snoc [] x y zero e = inr (refl, cc)
at_snoc [] x y (suc i) e = absurd (cc)
at_snoc (z ∷ xs) x y zero e = inl e
at_snoc (z ∷ xs) x y (suc i) e = ⊎_elim (λ h. inl h) (λ h. inr (ap suc h.0, h.1))
    (at_snoc xs x y i e)

before : {A : Type 0} (xs ys : List A) (y : A) (i : ℕ) → slice_get xs i ≡ Some y
    → slice_get (xs ++ ys) i ≡ Some y
before [] ys y i e = absurd (cc)
before (x ∷ xs) ys y zero e = e
before (x ∷ xs) ys y (suc i) e = before xs ys y i e

last_at : {A : Type 0} (xs : List A) (x : A) → slice_get (xs ++ x ∷ []) (length xs) ≡ Some x
last_at [] x = refl
last_at (y ∷ xs) x = last_at xs x

-- each name stands at its place
names_placed : (n i : ℕ) (k : LockNo) → slice_get (names_to n) i ≡ Some k → spot k ≡ i
names_placed zero zero k e = let q : Account ≡ k = cc in ap spot (sym q)
names_placed zero (suc i) k e = absurd (cc)
names_placed (suc n) i k e = ⊎_elim
    (λ h. names_placed n i k h)
    (λ h. ap spot (sym h.1)
    ∙ (let l = names_length n in let q = h.0 in let s : suc n ≡ i = omega arith in s))
    (at_snoc (names_to n) (slot n) k i e)

slot_there : (n p : ℕ) → p < n → slice_get (names_to n) (suc p) ≡ Some (slot p)
slot_there zero p h = absurd (omega arith)
slot_there (suc n) p h = ⊎_elim
    (λ same. subst (λ q. slice_get (names_to n ++ slot n ∷ []) (suc q) ≡ Some (slot q)) (sym same)
    (ap (slice_get (names_to n ++ slot n ∷ []))
    (let l = names_length n in let s : suc n ≡ length (names_to n) = omega arith in s)
    ∙ last_at (names_to n) (slot n)))
    (λ less. before (names_to n) (slot n ∷ []) (slot p) (suc p) (slot_there n p less))
    (eq-or-lt_of_le (let b : p ≤ n = omega arith in b))

account_there : (n : ℕ) → slice_get (names_to n) 0 ≡ Some Account
account_there zero = refl
account_there (suc n) = before (names_to n) (slot n ∷ []) Account 0 (account_there n)

module _ (values : List (LockNo × List Tag)) (n : ℕ)
    (e : map (λ (x : LockNo × List Tag). x.0) values ≡ names_to n) where
  pub stand : StandAt spot values
  stand i x at = names_placed n i x.0 (ap (λ ks. slice_get ks i) (sym e) ∙ named values i x at)
    where
      named : (xs : List (LockNo × List Tag)) (i : ℕ) (x : LockNo × List Tag)
          → slice_get xs i ≡ Some x
          → slice_get (map (λ (y : LockNo × List Tag). y.0) xs) i ≡ Some x.0
      named [] i x h = absurd (cc)
      named (y ∷ ys) zero x h = let q : y ≡ x = cc in ap (λ (z : LockNo × List Tag). Some z.0) q
      named (y ∷ ys) (suc i) x h = named ys i x h

  pub are_own : (k : LockNo) → IsAmong n k → IsOwn values k
  are_own (Slot page) h = (ap (λ ks. slice_get ks (suc page.0)) e ∙ slot_there n page.0 h, refl)
  are_own Account h = (ap (λ ks. slice_get ks 0) e ∙ account_there n, refl)
  are_own (Class c) h = absurd h
  are_own Blocks h = absurd h
  are_own Device h = absurd h
