-- `bytes_mut` lends the bytes, and the strip follows them.
use Rattle.cell_arena.proofs.Steps.{◌≡◌, ℕ, ◌<◌, ◌^◌, List, [], ◌∷◌, length, refl, sym, ap, ◌∙◌, arith, u8, Ura, Val, w64, named, full_share, ent, emp, never, id⊢, Fml, ftrue, fsep, flft, fact, fact_i, tables, Logic, sem, cells, ‵, raw, ◌⊛◌, at_ret, ◌$◌, ◌∵◌, !, qed, done, by, move, keep, skip, use0, use1, split, join, fsplit, fjoin, rewrite, whole, sub, agg, of_opd, and_then, no_more, fld, stop, first, blocks, exec, returns, enter, alloc_all, pass_all, free_all, look_at, get, sets, sets_last, env, usize, yes, mem, uint_vals, uint_Tells, owns, Ptr, block_ptr, in_a_block, plain, types_at, nothing, heard, Stays, stay_dropped, walk_of, Goes-dropped, word, after, proved, leaves}
use base.Fml.{GName}
use base.Logic.{sep}
use types.Kit.{later, some, await, pick, group, fsplit3, fpack, split3}
use types.Part.{look_in}
use types.Run.{load}
use types.ByLocal.{through}
use denote.Array.{Array}
use denote.Builtin.{RefMutOf}
use denote.Exit.{no}
use denote.Follow.{follows}
use denote.FollowSlice.{lends_Elements}
use denote.Laws.{shows}
use denote.Memory.{cell_at, part_of}
use denote.Ref.{MutBor, mut_vals, mut_Tells}
use denote.Slice.{MutSlice, slice_val}
use denote.Steps.{opens, peeks}
use denote.Triple.Walked.{Goes-spent_ref}
use Rattle.cell_arena.specs.Ownership.{bytes_own}
use Rattle.cell_arena.specs.declared.raw.Strip.{Strip}
use Rattle.cell_arena.specs.contracts.raw.Strip.{the_row}
use Rattle.cell_arena.specs.contracts.raw.Strip.bytes_mut as F
use Rattle.cell_arena.proofs.Walks.{Data, strip_told}
use Rattle.cell_arena.proofs.raw.Strip.bytes_mut.Statement.{statement}
use Rattle.cell_arena.proofs.raw.Strip.bytes_mut.Code as code

abbrev hs : Stays F.ended.signature.params F.ended.kept
hs = (
  stay_dropped (RefMutOf (0 ∷ []) tt (plain (λ _. the_row)) (λ _. tt)) no,
  (stay_dropped (plain (λ _. usize)) yes, tt),
)

module _ (s : Strip) where
  abbrev new : List ℕ → Strip
  new ws = record s { bytes = ws }

  -- what a strip is beside its bytes
  abbrev Rest : List Val → ℕ → ℕ → Fml
  Rest vs rb ro = fsep (Data.own_val (s.ptr, tt) vs) (cell_at full_share the_row.mir vs rb ro)

  back : {M : Type 1} {𝓤 : Ura M} (𝓛 : Logic 𝓤) (vs : List Val) (rb ro b o : ℕ)
      → s.ptr ≡ block_ptr b o → (ws : List ℕ) → length ws ≡ length s.bytes
      → ent 𝓤 (sep 𝓤 (sem 𝓛 (cells (mem u8) ws b o)) (sem 𝓛 (Rest vs rb ro)))
      (sem 𝓛 ((mem the_row).own_at (new ws) rb ro))
  unfolding part_of
  back 𝓛 vs rb ro b o e ws same =
      qed 𝓛 (‵ (cells (mem u8) ws b o) ∷ ‵ (Rest vs rb ro) ∷ []) ∵
      rewrite ! 0 (λ (p : Ptr). ‵ (bytes_own p ws)) (sym e) refl $
      move ! (1 ∷ []) $ fsplit ! $ move ! (0 ∷ 2 ∷ []) $ fjoin ! $ move ! (1 ∷ 0 ∷ []) $ fjoin ! $
      fpack ! (List Val) (λ us. fsep (cell_at full_share the_row.mir us rb ro)
      (the_row.own_val (new ws) us)) vs $ done !

pub bytes_mut_spec : {M : Type 1} → statement M
bytes_mut_spec 𝓤 𝓛 𝓜 𝓡 wired =
    let c = F.clauses 𝓛 𝓜.mem 𝓡.returns in let 𝓣 = tables 𝓤 𝓛.H 𝓜 𝓡 𝓡.env in
    let goes = Goes-dropped 𝓛 1 (plain (λ _. usize)) yes (λ κs x w. refl) in
    proved 𝓛 F.ended hs c 𝓜 𝓡 (Goes-spent_ref 𝓛 1 (0 ∷ []) tt (plain (λ _. the_row)), (goes, tt))
    F.Key.name code.function (code.unfolded 𝓤 𝓛.H 𝓜 𝓡 wired)
    (λ κs. (mut_vals, (uint_vals w64, tt)))
    (λ κs. (mut_Tells (named 0) κs.0 the_row, (uint_Tells w64, tt))) (λ κs qs bounds a g are.
    let κ = κs.0 in let q = qs.0 in let s : Strip = a.0.now in let n : ℕ = a.1.0 in
    let rb : ℕ = a.0.ref_ptr.0 in let ro : ℕ = a.0.ref_ptr.1 in let xs : List ℕ = s.bytes in
    let γ : GName = a.0.ghost_name in
    let y : (walk_of 𝓛 F.ended hs c).Ghost =
    ((κs, qs, bounds, a, (mut_vals a.0, (uint_vals w64 n, tt))), g) in
    let Post = (walk_of 𝓛 F.ended hs c).post y in
    qed 𝓛 (((‵ (flft κ q) ⊛ ‵ ftrue) ⊛ ‵ (owns (types_at F.signature.params κs) a y.0.4))
    ∷ raw (fact 𝓤 ((n ≡ length xs) × (n < 2 ^ 63))) ∷ []) ∵
    move ! (1 ∷ []) $ heard ! _ (λ asked. split ! $ move ! (1 ∷ []) $ fsplit ! $ fsplit3 ! $ skip ! $
    move ! (3 ∷ []) $ split ! $ keep ! (2 ∷ 3 ∷ 0 ∷ []) $
    enter ! _ _ _ _ _ $ alloc_all ! (λ l.
    pass_all ! refl ((tt, tt), ((tt, record { fits = are.1.0.1 }), tt)) $
    opens ! tt the_row {h = s} rb ro (λ vs. move ! (1 ∷ []) $
    peeks ! the_row _ (shows 𝓛 the_row) s vs (λ so. fsplit ! $ move ! (1 ∷ []) $
    in_a_block ! s.ptr (λ p. bytes_own p xs) (id⊢ 𝓤 (never 𝓤)) (λ b o e.
    let told = strip_told s vs so ∙ ap (λ p. word p ∷ []) e in
    let Cell = λ (ws : List Val). ‵ (cell_at full_share the_row.mir ws rb ro) in
    rewrite ! 2 Cell told refl $ first ! $ blocks ! $
    sets ! (of_opd ! (load ! (through ! refl (fld ! refl (stop !)))
    (look_in ! 2 (sub ! 0 refl (whole !))))) refl (tt, tt) $
    sets_last ! (agg ! (and_then ! (get ! refl) (and_then ! (get ! refl) (no_more !)))) refl
    (tt, (tt, (record { fits = are.1.0.1 }, tt))) $
    exec ! 𝓣.C 𝓣.Λ (env code.function.locals l) (after 1 code.function.body) (at_ret _ Post) $
    sets ! (of_opd ! (get ! refl)) refl (tt, (tt, (record { fits = are.1.0.1 }, tt))) $
    rewrite ! 2 Cell (sym told) refl $ move ! (1 ∷ 2 ∷ []) $ fjoin ! $
    move ! (2 ∷ 3 ∷ 4 ∷ 1 ∷ 0 ∷ []) $ group ! 5 $
    let r : GName → MutBor (List ℕ) =
    λ δ. record { ref_ptr = (b, o); ghost_name = δ; now = xs } in
    use1 𝓛 (later (some (λ (δ : GName).
    ‵ ((MutSlice (named 0) κ u8).own_val (r δ) (slice_val (b, o) (length xs) ∷ []))
    ⊛ ‵ (flft κ q) ⊛ ‵ (follows the_row (Array u8 0) γ δ (new s)))))
    (lends_Elements 𝓛 the_row u8 (new s) (named 0) κ q rb ro b o γ xs
    (omega (arith, asked.0, asked.1), omega (arith, asked.0, asked.1))
    (sem 𝓛 (Rest s vs rb ro)) (back s 𝓛 vs rb ro b o e) (the_row.coded.code s)
    (the_row.coded.code s)) $ await ! tt $ pick ! (λ δ. split3 ! $
    returns ! (look_at ! 0 refl) $ free_all ! refl $
    rewrite ! 0 (λ (k : ℕ). ‵ ((MutSlice (named 0) κ u8).own_val (r δ) (slice_val (b, o) k ∷ [])))
    (sym asked.0) refl $
    use0 𝓛 (raw (fact 𝓤 (xs ≡ xs))) (fact_i 𝓤 (xs ≡ xs) (emp 𝓤) refl) $
    move ! (3 ∷ 0 ∷ []) $ join ! $ nothing ! $ move ! (3 ∷ 0 ∷ []) $ join ! $
    nothing ! $ nothing ! $ fjoin ! $ nothing ! $ fjoin ! $ keep ! (1 ∷ 0 ∷ 3 ∷ 2 ∷ []) $
    by ! (leaves 𝓛 F.ended hs c y (slice_val (b, o) n) (r δ) (tt, (tt, tt)) (tt, (tt, tt))))))))))
