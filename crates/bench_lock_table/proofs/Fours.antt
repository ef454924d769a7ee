-- The four hands of a row of tags.
use Rattle.std.proofs.Common.{◌≡◌, ℕ, zero, suc, List, [], ◌∷◌, ◌++◌, map, ◌<◌, Some, slice_get, arith, refl, sym, ap, ◌∙◌, subst}
use Rattle.zr_base.specs.declared.op.Tag.{Tag}
use Rattle.lock_row.specs.declared.names.LockNo.{LockNo}
use Rattle.lock_row.specs.declared.names.State.{State}
use Rattle.lock_table.specs.Sittings.{Ground}
use Rattle.lock_table.specs.Starts.{fresh}
use Rattle.lock_table.specs.Shut.{AllHands}
use Rattle.bench_lock_table.specs.declared.rows.Locks.{Locks}
use Rattle.bench_lock_table.specs.declared.rows.Job.{Job}
use Rattle.bench_lock_table.specs.declared.rows.Made.{Made}
use Rattle.bench_lock_table.specs.Tagging.{spot, idle}
use Rattle.bench_lock_table.specs.Ready.{Mine}
use Rattle.bench_lock_table.specs.Made.{start_of, IsOwn, IsSeat, IsMade, IsServed}

same_ends : {A : Type 0} (xs ys : List A) (x y : A) → xs ++ x ∷ [] ≡ ys ++ y ∷ []
    → (xs ≡ ys) × (x ≡ y)
same_ends [] [] x y e = (refl, cc)
same_ends [] (b ∷ []) x y e = absurd (cc)
same_ends [] (b ∷ d ∷ ys) x y e = absurd (cc)
same_ends (a ∷ []) [] x y e = absurd (cc)
same_ends (a ∷ c ∷ xs) [] x y e = absurd (cc)
same_ends (a ∷ xs) (b ∷ ys) x y e =
    let t : xs ++ x ∷ [] ≡ ys ++ y ∷ [] = cc in
    let h : a ≡ b = cc in
    let r = same_ends xs ys x y t in
    ((λ i. h i ∷ r.0 i), r.1)

-- four hands that are taken out, the last first
pub four_out : (l0 l1 l2 l3 l4 : List Mine) (a b c d one two three four : Mine)
    → l0 ≡ a ∷ b ∷ c ∷ d ∷ [] → l0 ≡ l1 ++ four ∷ [] → l1 ≡ l2 ++ three ∷ []
    → l2 ≡ l3 ++ two ∷ [] → l3 ≡ l4 ++ one ∷ [] → (l4 ≡ []) × (a ≡ one) × (b ≡ two) × (c ≡ three)
    × (d ≡ four)
four_out l0 l1 l2 l3 l4 a b c d one two three four is e1 e2 e3 e4 =
    let r1 = same_ends (a ∷ b ∷ c ∷ []) l1 d four (sym is ∙ e1) in
    let r2 = same_ends (a ∷ b ∷ []) l2 c three (r1.0 ∙ e2) in
    let r3 = same_ends (a ∷ []) l3 b two (r2.0 ∙ e3) in
    let r4 = same_ends [] l4 a one (r3.0 ∙ e4) in
    (sym r4.0, r4.1, r3.1, r2.1, r1.1)

pub seat_is : (values : List (LockNo × List Tag)) (g : Ground) (start : State (List Tag)) (a : ℕ)
    (k : LockNo) (h : Mine) → IsOwn values k → g.names ≡ map (λ x. x.0) values
    → fresh g.id start a (idle a k) ≡ h → IsSeat g start a k h
seat_is values g start a k h own names e = subst (IsSeat g start a k) e record {
  ready = record {
    own = refl;
    there = ap (λ ns. slice_get ns (spot k)) names
        ∙ own.0;
    its = own.1;
    held_so = refl;
  };
  start_is = refl;
  actor = refl;
  number = refl;
  none_done = refl;
}

-- ---- the hands that come back

abbrev pub IsBack : Ground → State (List Tag) → ℕ → Mine → Type 0
IsBack g start a h = (h.id ≡ g.id) × (h.start ≡ start) × (h.local.held ≡ []) × (h.actor ≡ a)

pub comes_back : (g : Ground) (start : State (List Tag)) (a : ℕ) (j : Job) (h after : Mine)
    → IsSeat g start a j.lock h → IsServed g h j after → IsBack g start a after
comes_back g start a j h after s d =
    (d.ready.own, d.same.start ∙ s.start_is, d.ready.held_so, d.same.actor ∙ s.actor)

module _ (g : Ground) (values : List (LockNo × List Tag)) (locks : Locks) (a b c d : Mine) where
  abbrev start : State (List Tag)
  start = start_of values locks

  module _ (h0 : IsBack g start 0 a) (h1 : IsBack g start 1 b) (h2 : IsBack g start 2 c)
      (h3 : IsBack g start 3 d) where
    each : (i : ℕ) (h : Mine) → slice_get (a ∷ b ∷ c ∷ d ∷ []) i ≡ Some h
        → (k : ℕ) × IsBack g start k h
    each zero h e = let q : a ≡ h = cc in (0, subst (IsBack g start 0) q h0)
    each (suc zero) h e = let q : b ≡ h = cc in (1, subst (IsBack g start 1) q h1)
    each (suc (suc zero)) h e = let q : c ≡ h = cc in (2, subst (IsBack g start 2) q h2)
    each (suc (suc (suc zero))) h e = let q : d ≡ h = cc in (3, subst (IsBack g start 3) q h3)
    each (suc (suc (suc (suc i)))) h e = absurd (cc)

    found : (n : ℕ) → n < 4 → (i : ℕ) × (h : Mine) × (slice_get (a ∷ b ∷ c ∷ d ∷ []) i ≡ Some h)
        × (h.actor ≡ n)
    found zero n = (0, a, refl, h0.3)
    found (suc zero) n = (1, b, refl, h1.3)
    found (suc (suc zero)) n = (2, c, refl, h2.3)
    found (suc (suc (suc zero))) n = (3, d, refl, h3.3)
    found (suc (suc (suc (suc i)))) n = absurd (omega arith)

    pub all_four : (hands : List Mine) → hands ≡ a ∷ b ∷ c ∷ d ∷ [] → AllHands g start hands
    all_four hands e = subst (AllHands g start) (sym e) record {
      some = omega arith;
      own = λ i h at. (each i h at).1.0;
      one_start = λ i h at. (each i h at).1.1;
      free = λ i h at. (each i h at).1.2;
      all = found;
    }

-- all hands are back after their jobs
pub four_back : (values : List (LockNo × List Tag)) (locks : Locks) (m : Made)
    (is : IsMade (start_of values locks) locks m) (j0 j1 j2 j3 : Job) (a b c d : Mine)
    → j0.lock ≡ locks.one → j1.lock ≡ locks.two → j2.lock ≡ locks.three → j3.lock ≡ locks.four
    → IsServed m.row m.one j0 a → IsServed m.row m.two j1 b → IsServed m.row m.three j2 c
    → IsServed m.row m.four j3 d
    → (l0 l1 l2 l3 l4 : List Mine) → l0 ≡ [] → l1 ≡ l0 ++ a ∷ [] → l2 ≡ l1 ++ b ∷ []
    → l3 ≡ l2 ++ c ∷ [] → l4 ≡ l3 ++ d ∷ []
    → AllHands m.row (start_of values locks) l4
four_back values locks m is j0 j1 j2 j3 a b c d e0 e1 e2 e3 s0 s1 s2 s3 l0 l1 l2 l3 l4 p0 p1 p2 p3
    p4 =
    let start = start_of values locks in
    all_four m.row values locks a b c d
    (comes_back m.row start 0 j0 m.one a
    (subst (λ k. IsSeat m.row start 0 k m.one) (sym e0) is.one) s0)
    (comes_back m.row start 1 j1 m.two b
    (subst (λ k. IsSeat m.row start 1 k m.two) (sym e1) is.two) s1)
    (comes_back m.row start 2 j2 m.three c
    (subst (λ k. IsSeat m.row start 2 k m.three) (sym e2) is.three) s2)
    (comes_back m.row start 3 j3 m.four d
    (subst (λ k. IsSeat m.row start 3 k m.four) (sym e3) is.four) s3)
    l4
    (p4 ∙ ap (λ hs. hs ++ d ∷ [])
    (p3 ∙ ap (λ hs. hs ++ c ∷ [])
    (p2 ∙ ap (λ hs. hs ++ b ∷ []) (p1 ∙ ap (λ hs. hs ++ a ∷ []) p0))))
