-- What a class stands as, and that only classes that stand for themselves have objects.
use Rattle.std.proofs.Common.{◌≡◌, ◌+◌, ◌-◌, ◌/◌, ◌≤◌, ◌<◌, ◌∙◌, ℕ, zero, suc, Bool, true, false, cond, eqb, List, length, refl, sym, ap, arith, inl, inr}
use Rattle.joint_rule.specs.Stages.{IsForm}
use Rattle.joint_rule.specs.Weights.{Weigh, claim_by}
use Rattle.size_class.specs.Classes.{shares_next, stands_below, stands_of}
use Rattle.slot_entry.specs.Forms.{Blank, PageForm, Pooled, Word, class_for, object_class}
use Rattle.slot_entry.specs.declared.kept.Kept.{Kept}
use Rattle.std.proofs.lemmas.Bool.{cases_Bool, cases_eq, eq-eqb}
use Rattle.slot_entry.specs.declared.kept.Kept.TheVariants as kept

-- ---- what a class stands as

module _ (m : ℕ) where
  stands_last : stands_below m zero ≡ 254
  unfolding stands_below
  stands_last = refl

  stands_next : (d : ℕ) → shares_next m (253 - d) ≡ true → stands_below m (suc d) ≡ stands_below m d
  unfolding stands_below
  stands_next d shares = rw shares refl

  stands_here : (d : ℕ) → shares_next m (253 - d) ≡ false → stands_below m (suc d) ≡ 253 - d
  unfolding stands_below
  stands_here d not = rw not refl

  -- it is one of the classes
  pub stands_low : (d : ℕ) → stands_below m d < 255
  stands_low zero = let e = stands_last in omega arith
  stands_low (suc d) = elim (cases_Bool (shares_next m (253 - d))) [
    | inl shares ↦ let e = stands_next d shares in let r = stands_low d in omega arith
    | inr not ↦ let e = stands_here d not in omega arith
  ]

  -- and no lower one
  pub stands_high : (d : ℕ) → d ≤ 254 → 254 ≤ stands_below m d + d
  stands_high zero le = let e = stands_last in omega arith
  stands_high (suc d) le = elim (cases_Bool (shares_next m (253 - d))) [
    | inl shares ↦ let e = stands_next d shares in let r = stands_high d (omega arith) in
        omega arith
    | inr not ↦ let e = stands_here d not in omega arith
  ]

  -- that stands for itself
  stands_itself : (d : ℕ) → d ≤ 254 → stands_below m (254 - stands_below m d) ≡ stands_below m d
  stands_itself zero le = ap (λ (s : ℕ). stands_below m (254 - s)) stands_last
  stands_itself (suc d) le = elim (cases_Bool (shares_next m (253 - d))) [
    | inl shares ↦ let e = stands_next d shares in
        ap (λ (s : ℕ). stands_below m (254 - s)) e ∙ stands_itself d (omega arith) ∙ sym e
    | inr not ↦
        ap (λ (s : ℕ). stands_below m (254 - s)) (stands_here d not)
        ∙ ap (stands_below m) (let q : 254 - (253 - d) ≡ suc d = omega arith in q)
  ]

  -- the classes between stand as it too
  pub stands_between : (d k : ℕ) → d ≤ 254 → 254 ≤ k + d → k < stands_below m d
      → stands_of m k ≡ stands_below m d
  stands_between zero k le high low = let e = stands_last in absurd (omega arith)
  stands_between (suc d) k le high low = elim (cases_Bool (shares_next m (253 - d))) [
    | inl shares ↦ let e = stands_next d shares in elim (cases_eq (k + suc d) 254) [
      | inl here ↦ ap (stands_below m) (let q : 254 - k ≡ suc d = omega arith in q)
      | inr later ↦ stands_between d k (omega arith) (omega arith) (omega arith) ∙ sym e
    ]
    | inr not ↦ let e = stands_here d not in absurd (omega arith)
  ]

  -- ---- objects

  object_stands : (bytes : List ℕ) (huge : Bool)
      → stands_of m (object_class m bytes huge) ≡ object_class m bytes huge
  unfolding class_for
  object_stands bytes true = stands_last
  object_stands bytes false = stands_itself (254 - (length bytes - 9) / 16) (omega arith)

  -- 1 for an object of a class that doesn't stand for itself
  abbrev pub strange : Weigh
  strange c h b = cond (eqb (stands_of m c) c) 0 1

  pub strange_none : (f : PageForm) (k : Kept) (b : List ℕ) → IsForm m f k
      → claim_by strange k b ≡ 0
  strange_none f kept.Empty b i = refl
  strange_none f (kept.Same w) b i = refl
  strange_none f (kept.Wb x) b i = refl
  strange_none Blank (kept.Obj o) b i = absurd i
  strange_none (Word w) (kept.Obj o) b i = absurd i
  strange_none (Pooled bytes huge) (kept.Obj o) b i =
      let c : ℕ = object_class m bytes huge in
      ap (λ (x : ℕ). cond {A = ℕ} (eqb (stands_of m x) x) 0 1) i.0
      ∙ ap (λ (t : Bool). cond {A = ℕ} t 0 1) (eq-eqb (stands_of m c) c (object_stands bytes huge))
