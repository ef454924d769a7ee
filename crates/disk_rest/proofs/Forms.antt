-- What a page in the form that it has to have weighs.
use Rattle.std.proofs.Common.{◌≡◌, ℕ, Bool, true, false, ◌&&◌, cond, List, [], refl, sym, ap, ◌∙◌}
use Rattle.std.proofs.lemmas.Bool.{true≢false}
use Rattle.plain_disk.specs.Rests.{Rest, is_backed}
use Rattle.plain_disk.specs.Idles.{may_write}
use Rattle.zr_base.specs.declared.op.Tag.{Tag}
use Rattle.mem_account.specs.declared.weight.Weight.{Weight}
use Rattle.mem_account.specs.declared.weight.Weight.TheVariants as weights
use Rattle.plain_disk.specs.Calls.{kept_as}
use Rattle.slot_entry.specs.declared.kept.Kept.{Kept}
use Rattle.slot_entry.specs.declared.kept.Kept.TheVariants as kept
use Rattle.slot_entry.specs.Entries.{weight_of, is_wb}
use Rattle.slot_entry.specs.Forms.{PageForm, Blank, Word, Pooled, form_of, form_weight, page_weight}
use Rattle.joint_rule.specs.Begins.{Begin, content, form_by, form_at, found_after, back_at}
use Rattle.joint_rule.specs.Ends.{begin_at}
use Rattle.joint_rule.specs.Stages.{IsForm, IsBack}

-- the account counts a kept form as the form, where its page isn't on the device
weight_same : (chain : ℕ) (f : PageForm) (k : Kept) → IsForm chain f k → is_wb k ≡ false
    → weight_of k ≡ form_weight f
weight_same chain Blank kept.Empty is here = refl
weight_same chain Blank (kept.Same w) is here = absurd is
weight_same chain Blank (kept.Obj o) is here = absurd is
weight_same chain (Word v) kept.Empty is here = absurd is
weight_same chain (Word v) (kept.Same w) is here = refl
weight_same chain (Word v) (kept.Obj o) is here = absurd is
weight_same chain (Pooled bytes huge) kept.Empty is here = absurd is
weight_same chain (Pooled bytes huge) (kept.Same w) is here = absurd is
weight_same chain (Pooled bytes huge) (kept.Obj o) is here =
    λ i. cond (is.2 i) weights.Huge (weights.Packed (is.1 i))
weight_same chain f (kept.Wb b) is here = absurd (true≢false here)

-- a page on the device is counted as one
weight_back : (k : Kept) → is_wb k ≡ true → weight_of k ≡ weights.Back
weight_back kept.Empty back = absurd (true≢false (sym back))
weight_back (kept.Same w) back = absurd (true≢false (sym back))
weight_back (kept.Obj o) back = absurd (true≢false (sym back))
weight_back (kept.Wb b) back = refl

-- a page is counted by where it is
pub weight_kept : (chain : ℕ) (f : PageForm) (k : Kept) (back : Bool) (w : Weight)
    → IsForm chain f k → is_wb k ≡ back → form_weight f ≡ w
    → weight_of k ≡ cond back weights.Back w
weight_kept chain f k true w is where_it weighs = weight_back k where_it
weight_kept chain f k false w is where_it weighs = weight_same chain f k is where_it ∙ weighs

by_blank : (b : Bool) (f : PageForm)
    → form_weight (form_by b f) ≡ cond b weights.Empty (form_weight f)
by_blank true f = refl
by_blank false f = refl

-- the form in which a page has to be kept weighs as the plain disk keeps the page
pub form_keeps : (g : Begin) (p : ℕ) (order : List Tag)
    → form_weight (form_at g p order) ≡ kept_as page_weight p (found_after g p order)
unfolding form_at content
form_keeps g p order =
    by_blank (found_after g p order).blank (form_of (content g p order))

-- without calls a page stays where it is
back_still : (back : Bool) → (back && true) ≡ back
back_still true = refl
back_still false = refl

-- where there is no actor nothing is written back
none_written : (backed : Bool) → may_write backed [] ≡ false
none_written true = refl
none_written false = refl

-- between two phases a page without calls is on the device where the rest says
pub backed_still : (r : Rest) (p : ℕ) (k : Kept) (order : List Tag) → order ≡ []
    → IsBack (begin_at r []) k (back_at (begin_at r []) p order) → is_wb k ≡ r.back p
backed_still r p k order none is = is.only (none_written (is_backed r))
    ∙ ap (back_at (begin_at r []) p) none ∙ back_still (r.back p)
