-- Each event moves one value.
use Rattle.std.proofs.Common.{◌≡◌, ◌≢◌, ℕ, zero, suc, List, ◌∷◌, Option, Some, None, slice_get, slice_set, sym, refl, ap, ◌∙◌, subst, arith, ◌⊎◌, inl, inr, ⊎_elim}
use mathlib.Core.Logic.{dite}
use native.Mathlib.Decide.{ℕ_discrete}
use Rattle.lock_row.specs.declared.names.LockNo.{LockNo}
use Rattle.lock_row.specs.declared.names.Local.{Local}
use Rattle.lock_row.specs.declared.names.State.{State}
use Rattle.lock_row.specs.Values.{Exclusive, Keeper}
use Rattle.lock_row.proofs.Lists.{get_here, get_else}

-- what stands at a place after a write of it
pub get_set : {A : Type 0} (l : List A) (i j : ℕ) (a b c : A) → slice_get l i ≡ Some c
    → slice_get (slice_set l i a) j ≡ Some b
    → ((j ≡ i) × (a ≡ b)) ⊎ ((j ≢ i) × (slice_get l j ≡ Some b))
get_set l i j a b c here e =
    dite (ℕ_discrete j i)
    (λ same. inl (
      same,
      let q : Some a ≡ Some b = sym (get_here l i a c here)
          ∙ (ap (λ k. slice_get (slice_set l i a) k) (sym same) ∙ e) in cc,
    ))
    (λ ne. inr (ne, sym (get_else l i j a ne) ∙ e))

module _ {V : Type 0} (spot : LockNo
    → ℕ) (w : State V) (a : ℕ) (l : Local V) (k : LockNo)
    (who : slice_get w.locals a ≡ Some l) where
  -- the world after an event of the actor
  abbrev pub put : Option V → Local V → State V
  put cell m = record { row = slice_set w.row (spot k) cell; locals = slice_set w.locals a m }

  out_else : (cell : Option V) (n : ℕ) → n ≢ spot k → slice_get w.row n ≡ Some None
      → slice_get (slice_set w.row (spot k) cell) n ≡ Some None
  out_else cell n ne e = get_else w.row (spot k) n cell ne ∙ e

  module _ (ex : Exclusive spot w) (v : V) (m : Local V) where
    module _ (there : slice_get w.row (spot k) ≡ Some (Some v))
        (held : m.held ≡ (k, v) ∷ l.held) where
      -- what is out is not the place that was free
      apart : (n : ℕ) → slice_get w.row n ≡ Some None → n ≢ spot k
      apart n e same = let q : Some None ≡ Some (Some v) = sym e ∙ (ap (λ i. slice_get w.row i) same
          ∙ there) in absurd (cc)

      abbrev Was : ℕ → ℕ → LockNo × V → Type 0
      Was b i x = ((b ≡ a) × (i ≡ 0) × (spot x.0 ≡ spot k))
          ⊎ ((n : Local V) × (h : ℕ) × (slice_get w.locals b ≡ Some n)
          × (slice_get n.held h ≡ Some x) × (((b ≡ a) × (i ≡ suc h)) ⊎ ((b ≢ a) × (i ≡ h))))

      -- the actor b held each lock of n before but the one that was taken
      was : (b i : ℕ) (n : Local V) (x : LockNo × V) → slice_get (slice_set w.locals a m) b ≡ Some n
          → slice_get n.held i ≡ Some x → Was b i x
      was b i n x at e = ⊎_elim
          (λ s. mine s.0 i
          (subst (λ (ys : List (LockNo × V)). slice_get ys i ≡ Some x)
          (ap (λ (y : Local V). y.held) (sym s.1) ∙ held) e))
          (λ o. inr (n, i, o.1, e, inr (o.0, refl)))
          (get_set w.locals a b m n l who at) where
            mine : b ≡ a → (i : ℕ) → slice_get ((k, v) ∷ l.held) i ≡ Some x → Was b i x
            mine same zero e = inl (
              same,
              refl,
              let z : (k, v) ≡ x = cc in
                  ap (λ (y : LockNo × V). spot y.0) (sym z),
            )
            mine same (suc i) e =
                inr (l, i, ap (λ c. slice_get w.locals c) same ∙ who, e, inl (same, refl))

      one : (b c i j : ℕ) (x y : LockNo × V) → spot x.0 ≡ spot y.0 → Was b i x → Was c j y
          → (b ≡ c) × (i ≡ j)
      one b c i j x y same (inl p) (inl q) = (omega arith, omega arith)
      one b c i j x y same (inl p) (inr q) =
          absurd (apart (spot y.0) (ex.out c q.1 q.0 y q.2 q.3) (sym same
          ∙ p.2))
      one b c i j x y same (inr p) (inl q) =
          absurd (apart (spot x.0) (ex.out b p.1 p.0 x p.2 p.3) (same ∙ q.2))
      one b c i j x y same (inr p) (inr q) =
          let r = ex.alone b c p.1 q.1 p.0 q.0 x y p.2 q.2 p.3 q.3 same in (
            r.0,
            ⊎_elim
                (λ s. ⊎_elim (λ t. s.1 ∙ (ap suc r.1 ∙ sym t.1))
                (λ t. absurd (t.0 (sym r.0 ∙ s.0))) q.4)
                (λ s. ⊎_elim (λ t. absurd (s.0 (r.0 ∙ t.0))) (λ t. s.1 ∙ (r.1 ∙ sym t.1)) q.4)
                p.4,
          )

      is_out : (b i : ℕ) (x : LockNo × V) → Was b i x
          → slice_get (slice_set w.row (spot k) None) (spot x.0) ≡ Some None
      is_out b i x (inl p) = ap (λ (n : ℕ). slice_get (slice_set w.row (spot k) None) n) p.2
          ∙ get_here w.row (spot k) None (Some v) there
      is_out b i x (inr p) = let o = ex.out b p.1 p.0 x p.2 p.3 in
          out_else None (spot x.0) (apart (spot x.0) o) o

      pub take_exclusive : Exclusive spot (put None m)
      take_exclusive = record {
        out = λ b i n x at e. is_out b i x (was b i n x at e);
        alone = λ b c i j n o x y atb atc eb ec same. one b c i j x y same (was b i n x atb eb)
            (was c j o y atc ec);
        keeper = λ c e. ⊎_elim
            (λ s. (
              a,
              m,
              0,
              (k, v),
              get_here w.locals a m l who,
              ap
                  (λ (ys : List (LockNo × V)). slice_get ys 0) held,
              sym s.0,
            ))
            (λ o. move c (ex.keeper c o.1))
            (get_set w.row (spot k) c None None (Some v) there e);
      } where
        move : (c : ℕ) → Keeper spot w c → Keeper spot (put None m) c
        move c (b, n, i, x, at, e, is) = dite (ℕ_discrete b a)
            (λ s. let q : Some n ≡ Some l = sym at ∙ (ap (λ d. slice_get w.locals d) s ∙ who) in
            let r : n ≡ l = cc in (
              a,
              m,
              suc i,
              x,
              get_here w.locals a m l who,
              ap
                  (λ (ys : List (LockNo × V)). slice_get ys (suc i)) held
                  ∙ (ap (λ (y : Local V). slice_get y.held i) (sym r) ∙ e),
              is,
            ))
            (λ ne. (b, n, i, x, get_else w.locals a b m ne ∙ at, e, is))

    module _ (v₀ : V) (there : slice_get w.row (spot k) ≡ Some None)
        (held : l.held ≡ (k, v₀) ∷ m.held) where
      -- the actor b held each lock of n before
      had : (b i : ℕ) (n : Local V) (x : LockNo × V) → slice_get (slice_set w.locals a m) b ≡ Some n
          → slice_get n.held i ≡ Some x
          → (o : Local V) × (h : ℕ) × (slice_get w.locals b ≡ Some o)
          × (slice_get o.held h ≡ Some x) × (((b ≡ a) × (h ≡ suc i)) ⊎ ((b ≢ a) × (h ≡ i)))
      had b i n x at e = ⊎_elim
          (λ s. (
            l,
            suc i,
            ap (λ d. slice_get w.locals d) s.0
                ∙ who,
            ap (λ (ys : List (LockNo × V)). slice_get ys (suc i)) held
                ∙ subst (λ (y : Local V). slice_get y.held i ≡ Some x) (sym s.1) e,
            inl (s.0, refl),
          ))
          (λ o. (n, i, o.1, e, inr (o.0, refl)))
          (get_set w.locals a b m n l who at)

      pub give_exclusive : Exclusive spot (put (Some v) m)
      give_exclusive = record {
        out = λ b i n x at e. let p = had b i n x at e in
            get_else w.row (spot k) (spot x.0) (Some v) (λ same.
            let z = ex.alone b a p.1 0 p.0 l x (k, v₀) p.2 who p.3
            (ap (λ (ys : List (LockNo × V)). slice_get ys 0) held) same in
            ⊎_elim (λ s. absurd (let y = z.1 in let y₁ = s.1 in omega arith))
            (λ s. absurd (s.0 z.0)) p.4)
            ∙ ex.out b p.1 p.0 x p.2 p.3;
        alone = λ b c i j n o x y atb atc eb ec same.
            let p = had b i n x atb eb in let q = had c j o y atc ec in
            let r = ex.alone b c p.1 q.1 p.0 q.0 x y p.2 q.2 p.3 q.3 same in (
              r.0,
              ⊎_elim
                  (λ s. ⊎_elim (λ t. let z = r.1 in let z₁ = s.1 in let z₂ = t.1 in
                  omega arith) (λ t. absurd (t.0 (sym r.0 ∙ s.0))) q.4)
                  (λ s. ⊎_elim (λ t. absurd (s.0 (r.0 ∙ t.0))) (λ t. let z = r.1 in let z₁ = s.1 in
                  let z₂ = t.1 in omega arith) q.4)
                  p.4,
            );
        keeper = λ c e. ⊎_elim (λ s. absurd (let q = s.1 in cc)) (λ o. move c o.0 (ex.keeper c o.1))
            (get_set w.row (spot k) c (Some v) None None there e);
      } where
        move : (c : ℕ) → c ≢ spot k → Keeper spot w c → Keeper spot (put (Some v) m) c
        move c other (b, n, i, x, at, e, is) = dite (ℕ_discrete b a)
            (λ s. let q : Some n ≡ Some l = sym at ∙ (ap (λ d. slice_get w.locals d) s ∙ who) in
            let r : n ≡ l = cc in
            mine i (sym (ap (λ (ys : List (LockNo × V)). slice_get ys i) held)
            ∙ (ap (λ (y : Local V). slice_get y.held i) (sym r) ∙ e)))
            (λ ne. (b, n, i, x, get_else w.locals a b m ne ∙ at, e, is)) where
              mine : (i : ℕ) → slice_get ((k, v₀) ∷ m.held) i ≡ Some x
                  → Keeper spot (put (Some v) m) c
              mine zero e = absurd (other (sym is
                  ∙ ap (λ (y : LockNo × V). spot y.0) (let q : x ≡ (k, v₀) = cc in q)))
              mine (suc i) e = (a, m, i, x, get_here w.locals a m l who, e, is)
