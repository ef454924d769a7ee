-- What the walks that take a block in and give it up share. Assumes `Logic`.
--     lease_told              a lease is one machine value
--     deed_had, deed_made     a deed is taken apart into its lease, and made of it
--     of_slots, to_slots      a full row of slots is bytes side by side
use Rattle.cell_arena.proofs.Steps.{◌≡◌, ℕ, ◌<◌, List, [], ◌∷◌, ◌++◌, length, refl, ap, ◌∙◌, u8, Ura, Val, vstruct, vcons, vnil, ent, fsep, Logic, sem, cells, Item, Goal, Seq, Step, step, ‵, ◌$◌, move, skip, fsplit, fjoin, rewrite, mem, nothing, owns}
use mathlib.Core.Bool.{Bool, true, false}
use lib.ListN.{get_or, replicate}
use base.Fml.{feq}
use base.Logic.{via}
use mir.Val.{of_list}
use types.Kit.{feq_i, feq_l, fpick, fpack}
use denote.Index.{whole_in, whole_out}
use denote.Laws.{Is, shows}
use denote.Param.{layout}
use denote.Param.Laws.{Laws, of_field}
use denote.Param.Shared.{copy_shared}
use denote.RattleType.{RattleType, Valss}
use denote.Steps.{peeks}
use denote.Struct.Field.{u8-field}
use denote.Struct.Laws.{u8-laws, u8-copy}
use Rattle.core.proofs.cell.Inside.{Good, one}
use Rattle.core.proofs.slots.Places.{of_row, to_row}
use Rattle.core.proofs.slots.Lease.TheLaws as lease_laws
use Rattle.core.specs.contracts.slots.Lease as lease
use Rattle.std.proofs.alloc.Global.TheLaws as global_laws
use Rattle.std.specs.contracts.alloc.Global as global
use Rattle.std.specs.contracts.impls.GlobalAllocator.TheImpl.{ghosts}
use Rattle.std_alloc.proofs.VecSteps.El.{El, R, no_al}
use Rattle.std_alloc.proofs.vec.Blocks.{el, all}
use Rattle.cell_arena.specs.declared.raw.Deed.{Deed}
use Rattle.cell_arena.specs.contracts.raw.Deed.{the_row}

pub u8_laws : Laws u8
u8_laws = of_field u8-field u8-laws refl (copy_shared u8-field u8-copy)

abbrev pub E : El
E = record { row = u8; laws = u8_laws; al = no_al }

abbrev pub Lr : RattleType
Lr = lease.the_row u8 global.the_row ghosts

Lr_laws : Laws Lr
Lr_laws = lease_laws.the_row_laws u8 global.the_row ghosts u8_laws global_laws.the_row_laws

abbrev pub deed_val : Val → Val
deed_val v = vstruct (vcons v vnil)

pub lease_told : {M : Type 1} {𝓤 : Ura M} (𝓛 : Logic 𝓤) (d : Lr.Denot) (vs : List Val) → Is Lr d vs
    → (v : Val) × (vs ≡ v ∷ []) × Good (layout Lr) v
lease_told 𝓛 d vs so = one (layout Lr) vs ((Lr_laws.lawful 𝓛).typed d vs so)

module _ {M : Type 1} {𝓤 : Ura M} {𝓛 : Logic 𝓤} {K : Type 0} {Γ : List (Item 𝓤)}
    {G : Goal 𝓤 𝓛.H} where
  pub deed_made : K → (d : Lr.Denot) (v : Val)
      → Step K 𝓛 (‵ (the_row.own_val (record { lease = d }) (deed_val v ∷ [])) ∷ Γ) G
      (‵ (Lr.own_val d (v ∷ [])) ∷ Γ) G
  deed_made t d v = step (λ k. nothing t $ move t (1 ∷ 0 ∷ []) $ fjoin t $
      feq_i t (List Val) (deed_val v ∷ []) (deed_val v ∷ []) refl $ fjoin t $
      fpack t (Valss (Lr ∷ [])) (λ vss. fsep (feq (List Val) (deed_val v ∷ [])
      (vstruct (of_list (vss.0 ++ [])) ∷ [])) (owns (Lr ∷ []) (d, tt) vss)) (v ∷ [], tt) $
      nothing t $ move t (1 ∷ 0 ∷ []) $ fjoin t $ k)

  pub deed_had : K → (d : Deed) (vs : List Val)
      → ((v : Val) → vs ≡ deed_val v ∷ [] → Good (layout Lr) v
      → Seq K 𝓛 (‵ (Lr.own_val d.lease (v ∷ [])) ∷ Γ) G)
      → Seq K 𝓛 (‵ (the_row.own_val d vs) ∷ Γ) G
  deed_had t d vs k = fsplit t $ fpick t (λ us. fsplit t $ feq_l t (λ is. fsplit t $
      peeks t Lr (Is Lr) (shows 𝓛 Lr) d.lease us.0 (λ so.
      let got = lease_told 𝓛 d.lease us.0 so in
      rewrite t 0 (λ (ws : List Val). ‵ (Lr.own_val d.lease ws)) got.1 refl $
      move t (1 ∷ []) $ skip t $ move t (1 ∷ []) $ skip t $
      k got.0 (is ∙ ap (λ (ws : List Val). vstruct (of_list (ws ++ [])) ∷ []) got.1) got.2)))

module _ {M : Type 1} {𝓤 : Ura M} (𝓛 : Logic 𝓤) (b o : ℕ) (xs : List ℕ) where
  pub of_slots : (fs : List Bool) → length fs ≡ length xs
      → ((k : ℕ) → k < length fs → get_or fs k false ≡ true)
      → ent 𝓤 (sem 𝓛 (all E b o xs fs)) (sem 𝓛 (cells (mem u8) xs b o))
  of_slots fs long full = via 𝓤 _ (to_row (el E) 𝓛 b xs fs o long full) (whole_in 𝓛 (R E) xs b o)

  pub to_slots : ent 𝓤 (sem 𝓛 (cells (mem u8) xs b o))
      (sem 𝓛 (all E b o xs (replicate (length xs) true)))
  to_slots = via 𝓤 _ (whole_out 𝓛 (R E) xs b o) (of_row (el E) 𝓛 b xs o)
