-- What stands beside the row before the disk's size is given, and the device and the map of blocks.
use Rattle.std.proofs.Common.{◌≡◌, ℕ, zero, suc, ◌+◌, ◌<◌, ◌≤◌, true, false, [], ◌∷◌, get_or, is_some, Option, Some, None, slice_get, refl, sym, ap, ◌∙◌, subst, arith}
use Rattle.std.specs.Prelude.{IfSome, replicate}
use Rattle.std.proofs.lemmas.Bool.{eqb-true, eq-eqb, ne_eqb}
use Rattle.std.proofs.lemmas.List.{get_or-replicate, length-replicate}
use Rattle.std.proofs.lemmas.Option.{slice_get_within, slice_get-get_or}
use Rattle.block_map.specs.declared.state.BlockState.TheVariants.{Free}
use Rattle.lock_row.specs.Rows.{at_home}
use Rattle.joint_rule.specs.Ends.{device_in}
use Rattle.joint_rule.specs.Starts.{AreFree}
use Rattle.zr_core.specs.declared.spare.Spare.{Spare}
use Rattle.zr_core.specs.Rests.{no_device, blocks_in, IsSpare, IsEarly, device_by, blocks_by}
use Rattle.zr_core.proofs.Matches.{Row}

-- where nothing stands beside the row, the disk has pages
pub some_pages : {D : Type 0} (pages : ℕ) (s : Option (Spare D)) → IsEarly pages s → None ≡ s
    → 1 ≤ pages
some_pages zero s early none = absurd (let q : false ≡ true = ap is_some none ∙ early.0 in cc)
some_pages (suc n) s early none = omega arith

-- else it has none
pub no_pages : {D : Type 0} (pages : ℕ) (s : Option (Spare D)) (v : Spare D) → IsEarly pages s
    → Some v ≡ s → (pages ≡ 0) × IsSpare v
no_pages pages s v early is = (
  eqb-true pages 0 (sym early.0 ∙ sym (ap is_some is)),
  subst (λ o. IfSome o IsSpare) (sym is) early.1,
)

pub early_zero : {D : Type 0} (pages : ℕ) (v : Spare D) → pages ≡ 0 → IsSpare v
    → IsEarly pages (Some v)
early_zero pages v none is = (sym (eq-eqb pages 0 none), is)

pub early_some : (D : Type 0) (pages : ℕ) → 1 ≤ pages → IsEarly {D = D} pages None
early_some D pages some =
    (sym (ne_eqb pages 0 (λ e. let none : ⊥ = omega arith in none)), tt)

-- a map of new blocks has free ones alone
pub all_free : (n : ℕ) → AreFree (replicate n Free)
all_free n b s at =
    let lt : b < n = (let q = slice_get_within (replicate n Free) b s at in
    let r = length-replicate n Free in omega arith) in
    let q : Some s ≡ Some Free = sym at ∙ slice_get-get_or (replicate n Free) b Free
    (let r = length-replicate n Free in omega arith) ∙ ap Some (get_or-replicate n b Free Free lt) in cc

-- ---- rows that have one device and one map

pub home_is : (row : Row) (k : ℕ) → at_home (slice_get row k) ≡ get_or row k None
home_is [] k = refl
home_is (x ∷ row) zero = refl
home_is (x ∷ row) (suc k) = home_is row k

module _ (old new : Row) (pages : ℕ) where
  same_or : (k : ℕ) → slice_get new k ≡ slice_get old k → get_or new k None ≡ get_or old k None
  same_or k e = sym (home_is new k) ∙ ap at_home e ∙ home_is old k

  pub device_same : {D : Type 0} (s : Option (Spare D))
      → slice_get new (pages + 257) ≡ slice_get old (pages + 257)
      → device_by s pages new ≡ device_by s pages old
  device_same None e = ap (device_in no_device) (same_or (pages + 257) e)
  device_same (Some s) e = refl

  pub blocks_same : {D : Type 0} (s : Option (Spare D))
      → slice_get new (pages + 256) ≡ slice_get old (pages + 256)
      → blocks_by s pages new ≡ blocks_by s pages old
  blocks_same None e = ap blocks_in (same_or (pages + 256) e)
  blocks_same (Some s) e = refl
