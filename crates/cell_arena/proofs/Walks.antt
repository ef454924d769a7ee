-- What the walks share. Assumes `Logic`.
--     strip_vals, strip_told    the one word of a strip, as the machine has it
--     strip_had, strip_made     a strip is taken apart into its bytes, and made of them
--     cut, glue                 bytes side by side are two runs of them
use Rattle.cell_arena.proofs.Steps.{◌≡◌, ℕ, ◌+◌, List, [], ◌∷◌, ◌++◌, length, refl, arith, u8, Ura, Val, ent, emp, ftrue, Logic, sem, cells, Item, Goal, Step, step, ‵, ◌⊛◌, ◌$◌, ◌∵◌, !, qed, done, move, skip, use0, use1, use2, split, fsplit, fjoin, rewrite, mem, nothing, word, Ptr}
use base.Fml.{Lft, Fml, fhide}
use types.Kit.{keep}
use denote.Memory.{hidden_shr}
use denote.Opens.{unhide}
use denote.RawPtr.{RawPtr}
use denote.Struct.Lending.{lent_out}
use base.Logic.{sep}
use denote.Laws.{Is}
use denote.RattleType.{RattleType}
use denote.Shadow.{makes_shadow}
use denote.Struct.Struct.{Struct}
use denote.Struct.Owning.{shape}
use Rattle.cell_arena.specs.Ownership.{bytes_own, bytes_lent}
use Rattle.cell_arena.specs.declared.raw.Strip.{Strip}
use Rattle.cell_arena.specs.contracts.raw.Strip.{the_row, the_type, struct, the_codes, the_heap, the_lent}
use Rattle.cell_arena.proofs.raw.Strip.TheLaws.{lowers}

abbrev pub strip_vals : Strip → List Val
strip_vals s = word s.ptr ∷ []

pub strip_told : (s : Strip) (vs : List Val) → Is the_row s vs → vs ≡ strip_vals s
strip_told s vs is = lowers.val_is s vs is

-- the word alone, as a plain struct
abbrev pub Data : RattleType
Data = Struct (shape the_type)

pub data_made : {M : Type 1} {𝓤 : Ura M} (𝓛 : Logic 𝓤) (p : Ptr)
    → ent 𝓤 (emp 𝓤) (sem 𝓛 (Data.own_val (p, tt) (word p ∷ [])))
data_made 𝓛 p = makes_shadow 𝓛 (Data.own_val (p, tt) (word p ∷ [])) (λ vss. (tt, (tt, tt)))
    ((denote.RawPtr.ptr_val p ∷ [], tt), (refl, (refl, tt)))

module _ {M : Type 1} {𝓤 : Ura M} {𝓛 : Logic 𝓤} {K : Type 0} {Γ : List (Item 𝓤)}
    {G : Goal 𝓤 𝓛.H} where
  pub strip_had : K → (s : Strip) → Step K 𝓛 (‵ (bytes_own s.ptr s.bytes) ∷ Γ) G
      (‵ (the_row.own_val s (strip_vals s)) ∷ Γ) G
  strip_had t s = step (λ k. fsplit t $ skip t $ k)

  pub strip_made : K → (s : Strip) → Step K 𝓛 (‵ (the_row.own_val s (strip_vals s)) ∷ Γ) G
      (‵ (bytes_own s.ptr s.bytes) ∷ Γ) G
  strip_made t s = step (λ k.
      use0 𝓛 (‵ (Data.own_val (s.ptr, tt) (strip_vals s))) (data_made 𝓛 s.ptr) $ fjoin t $ k)

-- a `&` to a strip shows its word, and its bytes
pub shown : {M : Type 1} {𝓤 : Ura M} (𝓛 : Logic 𝓤) (κ : Lft) (s : Strip) (b o : ℕ)
    → ent 𝓤 (sem 𝓛 (hidden_shr the_row κ s b o))
    (sep 𝓤 (sem 𝓛 (hidden_shr RawPtr κ s.ptr b (o + 0))) (sem 𝓛 (bytes_lent s.ptr s.bytes κ)))
shown 𝓛 κ s b o = qed 𝓛 (‵ (hidden_shr the_row κ s b o) ∷ []) ∵
    use1 𝓛 (‵ (hidden_shr Data κ (s.ptr, tt) b o) ⊛ ‵ (fhide (bytes_lent s.ptr s.bytes κ)))
    (lent_out 𝓛 struct the_codes the_heap the_lent κ s b o) $ split ! $
    unhide ! $ fsplit ! $ fsplit ! $ keep ! (0 ∷ 3 ∷ []) $ done !

module _ {M : Type 1} {𝓤 : Ura M} (𝓛 : Logic 𝓤) (b : ℕ) where
  abbrev Run : ℕ → List ℕ → Fml
  Run o xs = cells (mem u8) xs b o

  pub cut : (xs ys : List ℕ) (o at : ℕ) → at ≡ o + length xs
      → ent 𝓤 (sem 𝓛 (Run o (xs ++ ys))) (sep 𝓤 (sem 𝓛 (Run o xs)) (sem 𝓛 (Run at ys)))
  cut [] ys o at e = qed 𝓛 (‵ (Run o ys) ∷ []) ∵
      rewrite ! 0 (λ (k : ℕ). ‵ (Run k ys)) {x = at} (omega arith) refl $ nothing ! $ done !
  cut (x ∷ xs) ys o at e = let more : at ≡ o + length (x ∷ xs) = e in
      qed 𝓛 (‵ (Run o (x ∷ xs ++ ys)) ∷ []) ∵ fsplit ! $ move ! (1 ∷ []) $
      use1 𝓛 (‵ (Run (o + 1) xs) ⊛ ‵ (Run at ys)) (cut xs ys (o + 1) at (omega arith)) $ split ! $ move ! (2 ∷ 0 ∷ []) $ fjoin ! $ done !

  pub glue : (xs ys : List ℕ) (o at : ℕ) → at ≡ o + length xs
      → ent 𝓤 (sep 𝓤 (sem 𝓛 (Run o xs)) (sem 𝓛 (Run at ys))) (sem 𝓛 (Run o (xs ++ ys)))
  glue [] ys o at e = qed 𝓛 (‵ ftrue ∷ ‵ (Run at ys) ∷ []) ∵ skip ! $
      rewrite ! 0 (λ (k : ℕ). ‵ (Run k ys)) {x = o} (omega arith) refl $ done !
  glue (x ∷ xs) ys o at e = let more : at ≡ o + length (x ∷ xs) = e in
      qed 𝓛 (‵ (Run o (x ∷ xs)) ∷ ‵ (Run at ys) ∷ []) ∵ fsplit ! $ move ! (1 ∷ 2 ∷ []) $
      use2 𝓛 (‵ (Run (o + 1) (xs ++ ys))) (glue xs ys (o + 1) at (omega arith)) $
      move ! (1 ∷ 0 ∷ []) $ fjoin ! $ done !
