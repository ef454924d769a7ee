-- Totals over a row and its actors, and what they tell of a value that one actor holds.
use Rattle.std.proofs.Common.{◌≡◌, ◌≢◌, ◌+◌, ◌≤◌, ◌<◌, ◌∷◌, ◌∙◌, ◌⊎◌, ℕ, zero, suc, List, [], Option, Some, None, slice_get, slice_set, refl, sym, ap, subst, arith, inl, inr, ⊎_elim}
use Rattle.joint_rule.specs.Weights.{Each, HeldAll, none, nothing}
use Rattle.lock_row.specs.Totals.{by_option, held_sum, locals_sum, mass, row_sum, total}
use Rattle.lock_row.specs.declared.names.LockNo.{LockNo}
use Rattle.lock_row.specs.declared.names.State.{State}
use Rattle.page_steps.specs.Steps.{DiskHeld, Here, spot}
use mathlib.Core.Logic.{dite}
use native.Mathlib.Decide.{ℕ_discrete}

module _ {A : Type 0} where
  pub get_here : (l : List A) (i : ℕ) (a b : A) → slice_get l i ≡ Some b
      → slice_get (slice_set l i a) i ≡ Some a
  get_here [] i a b e = absurd (cc)
  get_here (x ∷ xs) zero a b e = refl
  get_here (x ∷ xs) (suc i) a b e = get_here xs i a b e

  pub get_else : (l : List A) (i j : ℕ) (a : A) → j ≢ i
      → slice_get (slice_set l i a) j ≡ slice_get l j
  get_else [] i j a n = refl
  get_else (x ∷ xs) zero zero a n = absurd (n refl)
  get_else (x ∷ xs) zero (suc j) a n = refl
  get_else (x ∷ xs) (suc i) zero a n = refl
  get_else (x ∷ xs) (suc i) (suc j) a n = get_else xs i j a (λ e. n (ap suc e))

  pub get_set : (l : List A) (i j : ℕ) (a b c : A) → slice_get l i ≡ Some c
      → slice_get (slice_set l i a) j ≡ Some b → ((j ≡ i) × (a ≡ b))
      ⊎ ((j ≢ i) × (slice_get l j ≡ Some b))
  get_set l i j a b c here e =
      dite (ℕ_discrete j i)
      (λ same. inl (
        same,
        let q : Some a ≡ Some b = sym (get_here l i a c here)
            ∙ (ap (λ k. slice_get (slice_set l i a) k) (sym same) ∙ e) in cc,
      ))
      (λ ne. inr (ne, sym (get_else l i j a ne) ∙ e))

module _ (size : ℕ) where
  pub row_le : (f : ℕ → DiskHeld → ℕ) (row : List (Option DiskHeld)) (k : ℕ) (x : Option DiskHeld)
      → slice_get row k ≡ Some x → by_option (f k) x ≤ row_sum f row
  row_le f [] k x e = absurd (cc)
  row_le f (z ∷ zs) zero x e = let q : z ≡ x = cc in let r : by_option (f 0) z ≡ by_option (f 0) x =
      ap (by_option (f 0)) q in omega arith
  row_le f (z ∷ zs) (suc k) x e = let r = row_le (λ j. f (suc j)) zs k x e in omega arith

  pub locals_le : (g : Here → ℕ) (ls : List (Here)) (a : ℕ) (l : Here) → slice_get ls a ≡ Some l
      → g l ≤ locals_sum g ls
  locals_le g [] a l e = absurd (cc)
  locals_le g (x ∷ xs) zero l e = let q : x ≡ l = cc in let r : g x ≡ g l = ap g q in omega arith
  locals_le g (x ∷ xs) (suc a) l e = let r = locals_le g xs a l e in omega arith

  module _ (w : State DiskHeld) (a : ℕ) (l : Here) (who : slice_get w.locals a ≡ Some l) where
    -- the state after an event
    abbrev pub gone : LockNo → Option DiskHeld → Here → State DiskHeld
    gone k x m = record { row = slice_set w.row (spot size k) x; locals = slice_set w.locals a m }

    module _ (P : ℕ → DiskHeld → Type 0) (Q : ℕ → Here → Type 0) (each : Each P Q w) where
      pub each_take : (k : LockNo) (v : DiskHeld) (m : Here)
          → slice_get w.row (spot size k) ≡ Some (Some v) → Q a m → Each P Q (gone k None m)
      each_take k v m there q = record {
        in_row = λ j u e. ⊎_elim (λ s. absurd (let z = s.1 in cc)) (λ o. each.in_row j u o.1)
            (get_set w.row (spot size k) j None (Some u) (Some v) there e);
        in_local = λ b n e. ⊎_elim (λ s. subst (λ (p : ℕ × Here). Q p.0 p.1)
            (λ i. (sym s.0 i, s.1 i)) q) (λ o. each.in_local b n o.1)
            (get_set w.locals a b m n l who e);
      }

      pub each_give : (k : LockNo) (v : DiskHeld) (m : Here)
          → slice_get w.row (spot size k) ≡ Some None → P (spot size k) v → Q a m
          → Each P Q (gone k (Some v) m)
      each_give k v m there p q = record {
        in_row = λ j u e. ⊎_elim (λ s. let z : v ≡ u = (let y = s.1 in cc) in
            subst (λ (x : ℕ × DiskHeld). P x.0 x.1) (λ i. (sym s.0 i, z i)) p)
            (λ o. each.in_row j u o.1) (get_set w.row (spot size k) j (Some v)
            (Some u) None there e);
        in_local = λ b n e. ⊎_elim (λ s. subst (λ (x : ℕ × Here). Q x.0 x.1)
            (λ i. (sym s.0 i, s.1 i)) q) (λ o. each.in_local b n o.1)
            (get_set w.locals a b m n l who e);
      }

  -- where a value weighs nothing by p, it weighs nothing by f
  abbrev pub Under : (ℕ → DiskHeld → Type 0) → (ℕ → DiskHeld → ℕ) → (ℕ → DiskHeld → ℕ) → Type 0
  Under P p f = (j : ℕ) (v : DiskHeld) → P j v → p j v ≡ 0 → f j v ≡ 0

  row_zero : (P : ℕ → DiskHeld → Type 0) (p f : ℕ → DiskHeld → ℕ) → Under P p f
      → (row : List (Option DiskHeld)) → ((j : ℕ) (v : DiskHeld) → slice_get row j ≡ Some (Some v)
      → P j v) → row_sum p row ≡ 0 → row_sum f row ≡ 0
  row_zero P p f u [] at z = refl
  row_zero P p f u (None ∷ xs) at z = let r = row_zero (λ j. P (suc j)) (λ j. p (suc j))
      (λ j. f (suc j)) (λ j. u (suc j)) xs (λ j. at (suc j)) (omega arith) in omega arith
  row_zero P p f u (Some x ∷ xs) at z =
      let h = u 0 x (at 0 x refl) (omega arith) in
      let r = row_zero (λ j. P (suc j)) (λ j. p (suc j)) (λ j. f (suc j)) (λ j. u (suc j)) xs
      (λ j. at (suc j)) (omega arith) in omega arith

  held_zero : (P : ℕ → DiskHeld → Type 0) (p f : ℕ → DiskHeld → ℕ) → Under P p f
      → (xs : List (LockNo × DiskHeld)) → HeldAll size P xs → held_sum (spot size) p xs ≡ 0
      → held_sum (spot size) f xs ≡ 0
  held_zero P p f u [] all z = refl
  held_zero P p f u (x ∷ xs) all z = let h = u (spot size x.0) x.1 all.0 (omega arith) in
      let r = held_zero P p f u xs all.1 (omega arith) in omega arith

  locals_zero : (p f : Here → ℕ) (ls : List (Here)) → ((b : ℕ) (m : Here) → slice_get ls b ≡ Some m
      → p m ≡ 0 → f m ≡ 0) → locals_sum p ls ≡ 0 → locals_sum f ls ≡ 0
  locals_zero p f [] u z = refl
  locals_zero p f (x ∷ xs) u z = let h = u 0 x refl (omega arith) in
      let r = locals_zero p f xs (λ b. u (suc b)) (omega arith) in omega arith

  locals_lone : (p f : Here → ℕ) (ls : List (Here)) (a : ℕ) (l : Here) → slice_get ls a ≡ Some l
      → ((b : ℕ) (m : Here) → slice_get ls b ≡ Some m → p m ≡ 0 → f m ≡ 0) → locals_sum p ls ≡ p l
      → locals_sum f ls ≡ f l
  locals_lone p f [] a l e u z = absurd (cc)
  locals_lone p f (x ∷ xs) zero l e u z =
      let q : x ≡ l = cc in let h : p x ≡ p l = ap p q in let i : f x ≡ f l = ap f q in
      let r = locals_zero p f xs (λ b. u (suc b)) (omega arith) in omega arith
  locals_lone p f (x ∷ xs) (suc a) l e u z =
      let g = locals_le p xs a l e in let h = u 0 x refl (omega arith) in
      let r = locals_lone p f xs a l e (λ b. u (suc b)) (omega arith) in omega arith

  -- where an actor has all that weighs by p, it has all that weighs by f
  pub total_lone : (P : ℕ → DiskHeld → Type 0) (p f : ℕ → DiskHeld → ℕ) → Under P p f
      → (w : State DiskHeld) → ((j : ℕ) (v : DiskHeld) → slice_get w.row j ≡ Some (Some v) → P j v)
      → ((b : ℕ) (m : Here) → slice_get w.locals b ≡ Some m → HeldAll size P m.held)
      → (a : ℕ) (l : Here) → slice_get w.locals a ≡ Some l
      → total (spot size) p none w ≤ held_sum (spot size) p l.held
      → total (spot size) f none w ≡ held_sum (spot size) f l.held
  total_lone P p f u w at all a l who z =
      let g = locals_le (mass (spot size) p none) w.locals a l who in
      let r = row_zero P p f u w.row at (omega arith) in
      let s = locals_lone (mass (spot size) p none) (mass (spot size) f none) w.locals a l who
      (λ b m e h. let y = held_zero P p f u m.held (all b m e) (omega arith) in
      omega arith) (omega arith) in omega arith

  -- a total (spot size) above zero has a cause
  by_head : (g : Here → ℕ) (x : Here) (xs : List (Here)) (n : ℕ) → g x ≡ n
      → 0 < g x + locals_sum g xs → (0 < locals_sum g xs
      → (a : ℕ) × (l : Here) × (slice_get xs a ≡ Some l) × (0 < g l))
      → (a : ℕ) × (l : Here) × (slice_get (x ∷ xs) a ≡ Some l) × (0 < g l)
  by_head g x xs zero e h more = let r = more (omega arith) in (suc r.0, r.1, r.2, r.3)
  by_head g x xs (suc n) e h more = (0, x, refl, omega arith)

  pub some_local : (g : Here → ℕ) (ls : List (Here)) → 0 < locals_sum g ls
      → (a : ℕ) × (l : Here) × (slice_get ls a ≡ Some l) × (0 < g l)
  some_local g [] h = absurd (omega arith)
  some_local g (x ∷ xs) h = by_head g x xs (g x) refl h (some_local g xs)

  -- an order of two weights is one of their totals
  pub locals_mono : (p f : Here → ℕ) (ls : List (Here))
      → ((b : ℕ) (m : Here) → slice_get ls b ≡ Some m → p m ≤ f m)
      → locals_sum p ls ≤ locals_sum f ls
  locals_mono p f [] u = omega arith
  locals_mono p f (x ∷ xs) u = let h = u 0 x refl in let r = locals_mono p f xs (λ b. u (suc b)) in
      omega arith

  pub locals_over : (p f : Here → ℕ) (ls : List (Here))
      → ((b : ℕ) (m : Here) → slice_get ls b ≡ Some m → p m ≤ f m) → (a : ℕ) (l : Here)
      → slice_get ls a ≡ Some l → locals_sum p ls + f l ≤ locals_sum f ls + p l
  locals_over p f [] u a l e = absurd (cc)
  locals_over p f (x ∷ xs) u zero l e = let q : x ≡ l = cc in let h : p x ≡ p l = ap p q in
      let i : f x ≡ f l = ap f q in let r = locals_mono p f xs (λ b. u (suc b)) in omega arith
  locals_over p f (x ∷ xs) u (suc a) l e = let h = u 0 x refl in
      let r = locals_over p f xs (λ b. u (suc b)) a l e in omega arith

  pub held_nothing : (xs : List (LockNo × DiskHeld)) → held_sum (spot size) nothing xs ≡ 0
  held_nothing [] = refl
  held_nothing (x ∷ xs) = let r = held_nothing xs in omega arith

  pub row_nothing : (xs : List (Option DiskHeld)) → row_sum (λ j v. 0) xs ≡ 0
  row_nothing [] = refl
  row_nothing (None ∷ xs) = let r = row_nothing xs in omega arith
  row_nothing (Some x ∷ xs) = let r = row_nothing xs in omega arith

  row_mono : (P : ℕ → DiskHeld → Type 0) (p f : ℕ → DiskHeld → ℕ)
      → ((j : ℕ) (v : DiskHeld) → P j v → p j v ≤ f j v) → (row : List (Option DiskHeld))
      → ((j : ℕ) (v : DiskHeld) → slice_get row j ≡ Some (Some v) → P j v)
      → row_sum p row ≤ row_sum f row
  row_mono P p f u [] at = omega arith
  row_mono P p f u (None ∷ xs) at = let r = row_mono (λ j. P (suc j)) (λ j. p (suc j))
      (λ j. f (suc j)) (λ j. u (suc j)) xs (λ j. at (suc j)) in omega arith
  row_mono P p f u (Some x ∷ xs) at = let h = u 0 x (at 0 x refl) in
      let r = row_mono (λ j. P (suc j)) (λ j. p (suc j)) (λ j. f (suc j)) (λ j. u (suc j)) xs
      (λ j. at (suc j)) in omega arith

  held_mono : (P : ℕ → DiskHeld → Type 0) (p f : ℕ → DiskHeld → ℕ)
      → ((j : ℕ) (v : DiskHeld) → P j v → p j v ≤ f j v) → (xs : List (LockNo × DiskHeld))
      → HeldAll size P xs → held_sum (spot size) p xs ≤ held_sum (spot size) f xs
  held_mono P p f u [] all = omega arith
  held_mono P p f u (x ∷ xs) all = let h = u (spot size x.0) x.1 all.0 in
      let r = held_mono P p f u xs all.1 in omega arith

  pub total_mono : (P : ℕ → DiskHeld → Type 0) (p f : ℕ → DiskHeld → ℕ)
      → ((j : ℕ) (v : DiskHeld) → P j v → p j v ≤ f j v) → (w : State DiskHeld)
      → ((j : ℕ) (v : DiskHeld) → slice_get w.row j ≡ Some (Some v) → P j v)
      → ((b : ℕ) (m : Here) → slice_get w.locals b ≡ Some m → HeldAll size P m.held)
      → total (spot size) p none w ≤ total (spot size) f none w
  total_mono P p f u w at all =
      let r = row_mono P p f u w.row at in
      let s = locals_mono (mass (spot size) p none) (mass (spot size) f none) w.locals
      (λ b m e. let x = held_mono P p f u m.held (all b m e) in omega arith) in omega arith

  -- two actors
  pub locals_two : (g : Here → ℕ) (ls : List (Here)) (a b : ℕ) (l n : Here)
      → slice_get ls a ≡ Some l → slice_get ls b ≡ Some n → b ≢ a → g l + g n ≤ locals_sum g ls
  locals_two g [] a b l n e f d = absurd (cc)
  locals_two g (x ∷ xs) zero zero l n e f d = absurd (d refl)
  locals_two g (x ∷ xs) zero (suc b) l n e f d = let q : x ≡ l = cc in let r : g x ≡ g l = ap g q in
      let h = locals_le g xs b n f in omega arith
  locals_two g (x ∷ xs) (suc a) zero l n e f d = let q : x ≡ n = cc in let r : g x ≡ g n = ap g q in
      let h = locals_le g xs a l e in omega arith
  locals_two g (x ∷ xs) (suc a) (suc b) l n e f d = let h =
      locals_two g xs a b l n e f (λ i. d (ap suc i)) in omega arith

  -- two places
  pub row_two : (f : ℕ → DiskHeld → ℕ) (row : List (Option DiskHeld)) (i k : ℕ)
      (x y : Option DiskHeld) → slice_get row i ≡ Some x → slice_get row k ≡ Some y → i ≢ k
      → by_option (f i) x + by_option (f k) y ≤ row_sum f row
  row_two f [] i k x y d e ne = absurd (cc)
  row_two f (z ∷ zs) zero zero x y d e ne = absurd (ne refl)
  row_two f (z ∷ zs) zero (suc k) x y d e ne =
      let q : z ≡ x = cc in let r = ap (by_option (f 0)) q in
      let h = row_le (λ j. f (suc j)) zs k y e in omega arith
  row_two f (z ∷ zs) (suc i) zero x y d e ne =
      let q : z ≡ y = cc in let r = ap (by_option (f 0)) q in
      let h = row_le (λ j. f (suc j)) zs i x d in omega arith
  row_two f (z ∷ zs) (suc i) (suc k) x y d e ne =
      let h = row_two (λ j. f (suc j)) zs i k x y d e (λ s. ne (ap suc s)) in omega arith

  pub total_up : (P : ℕ → DiskHeld → Type 0) (p f : ℕ → DiskHeld → ℕ) (g h : Here → ℕ)
      → ((j : ℕ) (v : DiskHeld) → P j v → p j v ≤ f j v) → (w : State DiskHeld)
      → ((j : ℕ) (v : DiskHeld) → slice_get w.row j ≡ Some (Some v) → P j v)
      → ((b : ℕ) (m : Here) → slice_get w.locals b ≡ Some m
      → mass (spot size) p g m ≤ mass (spot size) f h m)
      → total (spot size) p g w ≤ total (spot size) f h w
  total_up P p f g h u w at each = let r = row_mono P p f u w.row at in
      let s = locals_mono (mass (spot size) p g) (mass (spot size) f h) w.locals each in omega arith

  locals_split : (f : ℕ → DiskHeld → ℕ) (g : Here → ℕ) (ls : List (Here))
      → locals_sum (mass (spot size) f g) ls ≡ locals_sum (mass (spot size) f none) ls
      + locals_sum g ls
  locals_split f g [] = refl
  locals_split f g (l ∷ ls) = let r = locals_split f g ls in omega arith

  pub total_split : (f : ℕ → DiskHeld → ℕ) (g : Here → ℕ) (w : State DiskHeld)
      → total (spot size) f g w ≡ total (spot size) f none w + locals_sum g w.locals
  total_split f g w = let r = locals_split f g w.locals in omega arith

  -- where an actor is under it, so are the totals
  pub total_up_over : (P : ℕ → DiskHeld → Type 0) (p f : ℕ → DiskHeld → ℕ) (g h : Here → ℕ)
      → ((j : ℕ) (v : DiskHeld) → P j v → p j v ≤ f j v) → (w : State DiskHeld)
      → ((j : ℕ) (v : DiskHeld) → slice_get w.row j ≡ Some (Some v) → P j v)
      → ((b : ℕ) (m : Here) → slice_get w.locals b ≡ Some m
      → mass (spot size) p g m ≤ mass (spot size) f h m)
      → (a : ℕ) (l : Here) → slice_get w.locals a ≡ Some l
      → total (spot size) p g w + mass (spot size) f h l
      ≤ total (spot size) f h w + mass (spot size) p g l
  total_up_over P p f g h u w at each a l who =
      let r = row_mono P p f u w.row at in
      let s = locals_over (mass (spot size) p g) (mass (spot size) f h) w.locals each a l who in
      omega arith

  pub locals_add : (g h : Here → ℕ) (ls : List (Here)) → locals_sum (λ l. g l + h l) ls
      ≡ locals_sum g ls + locals_sum h ls
  locals_add g h [] = refl
  locals_add g h (l ∷ ls) = let r = locals_add g h ls in omega arith

-- a row of values that weigh nothing
pub row_none : (f : ℕ → DiskHeld → ℕ) (row : List (Option DiskHeld))
    → ((i : ℕ) (u : DiskHeld) → slice_get row i ≡ Some (Some u) → f i u ≡ 0) → row_sum f row ≡ 0
row_none f [] z = refl
row_none f (None ∷ xs) z = let r = row_none (λ j. f (suc j)) xs (λ i. z (suc i)) in omega arith
row_none f (Some x ∷ xs) z = let r = row_none (λ j. f (suc j)) xs (λ i. z (suc i)) in
    let s = z 0 x refl in omega arith
