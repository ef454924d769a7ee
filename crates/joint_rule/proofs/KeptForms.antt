-- What a page weighs by the form in which it is kept.
use Rattle.std.proofs.Common.{◌≡◌, ◌+◌, ◌-◌, ◌/◌, ◌∙◌, ℕ, Bool, true, false, cond, eqb, List, length, refl, sym, ap, arith, inl, inr}
use Rattle.joint_rule.proofs.Pages.{pooled_weight}
use Rattle.joint_rule.specs.Stages.{IsForm}
use Rattle.joint_rule.specs.Weights.{Weigh, claim_by, each_one}
use Rattle.mem_account.specs.declared.weight.Weight.{Weight}
use Rattle.plain_disk.specs.Forms.{is_pooled, of_class}
use Rattle.size_class.specs.Classes.{stands_of}
use Rattle.slot_entry.specs.Entries.{is_obj, is_wb, weight_of}
use Rattle.slot_entry.specs.Forms.{Blank, PageForm, Pooled, Word, class_for, form_weight, object_class}
use Rattle.slot_entry.specs.declared.kept.Kept.{Kept}
use Rattle.std.proofs.lemmas.Bool.{cases_Bool}
use Rattle.slot_entry.specs.declared.kept.Kept.TheVariants as kept
use Rattle.mem_account.specs.declared.weight.Weight.TheVariants as weight

-- a page on the device has the weight of one there, and another that of its form
pub kept_weight : (k : Kept) (b : Bool) (w : Weight) → is_wb k ≡ b
    → (is_wb k ≡ false → weight_of k ≡ w) → weight_of k ≡ cond b weight.Back w
kept_weight kept.Empty b w e f = f refl ∙ ap (λ (x : Bool). cond x weight.Back w) e
kept_weight (kept.Same v) b w e f = f refl ∙ ap (λ (x : Bool). cond x weight.Back w) e
kept_weight (kept.Obj o) b w e f = f refl ∙ ap (λ (x : Bool). cond x weight.Back w) e
kept_weight (kept.Wb i) b w e f = ap (λ (x : Bool). cond x weight.Back w) e

module _ (chain : ℕ) where
  pub form_weight_is : (f : PageForm) (k : Kept) → IsForm chain f k → is_wb k ≡ false
      → weight_of k ≡ form_weight f
  form_weight_is Blank kept.Empty i n = refl
  form_weight_is Blank (kept.Same w) i n = absurd i
  form_weight_is Blank (kept.Obj o) i n = absurd i
  form_weight_is (Word v) kept.Empty i n = absurd i
  form_weight_is (Word v) (kept.Same w) i n = refl
  form_weight_is (Word v) (kept.Obj o) i n = absurd i
  form_weight_is (Pooled bytes huge) kept.Empty i n = absurd i
  form_weight_is (Pooled bytes huge) (kept.Same w) i n = absurd i
  form_weight_is (Pooled bytes huge) (kept.Obj o) i n = λ j.
      cond (i.2 j) weight.Huge (weight.Packed (i.1 j))
  form_weight_is f (kept.Wb b) i n = absurd (cc)

  -- 1 for an object of class k
  abbrev pub of_kind : ℕ → Weigh
  of_kind k c h b = cond (eqb c k) 1 0

  of_pooled : (k : ℕ) (bytes : List ℕ) (huge : Bool) → cond {A = ℕ}
      (eqb (object_class chain bytes huge) k) 1 0 ≡ of_class chain k
      (form_weight (Pooled bytes huge))
  unfolding class_for
  of_pooled k bytes true = refl
  of_pooled k bytes false = ap (λ (m : ℕ). cond {A = ℕ} (eqb (stands_of chain (m / 16)) k) 1 0)
      (let q : length bytes - 9 ≡ length bytes + 8 - 17 = omega arith in q)

  pub claim_class : (k : ℕ) (f : PageForm) (x : Kept) (b : List ℕ) → IsForm chain f x
      → claim_by (of_kind k) x b ≡ of_class chain k (weight_of x)
  claim_class k f kept.Empty b i = refl
  claim_class k f (kept.Same w) b i = refl
  claim_class k f (kept.Wb n) b i = refl
  claim_class k Blank (kept.Obj o) b i = absurd i
  claim_class k (Word v) (kept.Obj o) b i = absurd i
  claim_class k (Pooled bytes huge) (kept.Obj o) b i = ap
      (λ (c : ℕ). cond {A = ℕ} (eqb c k) 1 0) i.0 ∙ of_pooled k bytes huge
      ∙ sym (ap (of_class chain k) (form_weight_is (Pooled bytes huge) (kept.Obj o) i refl))

-- 1 for a page in the pool
abbrev pub pooled_one : Weight → ℕ
pooled_one w = cond (is_pooled w) 1 0

pub claim_one : (k : Kept) (b : List ℕ) → claim_by each_one k b ≡ pooled_one (weight_of k)
claim_one kept.Empty b = refl
claim_one (kept.Same w) b = refl
claim_one (kept.Obj o) b = elim (cases_Bool o.huge) [ inl on ↦ rw on refl | inr off ↦ rw off refl ]
claim_one (kept.Wb n) b = refl

-- an object is that of a page in the pool
pub obj_pooled : (k : Kept) → is_obj k ≡ true → is_pooled (weight_of k) ≡ true
obj_pooled kept.Empty e = absurd (cc)
obj_pooled (kept.Same w) e = absurd (cc)
obj_pooled (kept.Obj o) e = elim (cases_Bool o.huge) [ inl on ↦ rw on refl | inr off ↦ rw off refl ]
obj_pooled (kept.Wb n) e = absurd (cc)

-- so is one in a block
pub wb_pooled : (chain : ℕ) (f : PageForm) (k : Kept) → IsForm chain f k → is_wb k ≡ true
    → is_pooled (form_weight f) ≡ true
wb_pooled chain Blank (kept.Wb b) i e = absurd i
wb_pooled chain (Word w) (kept.Wb b) i e = absurd i
wb_pooled chain (Pooled bytes huge) (kept.Wb b) i e = pooled_weight (Pooled bytes huge) tt
wb_pooled chain f kept.Empty i e = absurd (cc)
wb_pooled chain f (kept.Same w) i e = absurd (cc)
wb_pooled chain f (kept.Obj o) i e = absurd (cc)
