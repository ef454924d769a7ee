-- `bytes` shows the bytes that the strip lends.
use Rattle.cell_arena.proofs.Steps.{◌≡◌, ℕ, ◌+◌, ◌*◌, ◌<◌, ◌^◌, List, [], ◌∷◌, length, refl, ap, arith, Val, w64, named, emp, never, id⊢, ftrue, flft, fact, fact_i, tables, ‵, raw, ◌⊛◌, at_ret, ◌$◌, ◌∵◌, !, qed, by, move, keep, skip, use0, use1, split, join, fsplit, fjoin, agg, of_opd, and_then, no_more, fld, stop, first, blocks, exec, returns, enter, alloc_all, pass_all, free_all, look_at, get, sets, sets_last, env, usize, yes, uint_vals, uint_Tells, owns, in_a_block, plain, types_at, nothing, heard, Stays, stay_dropped, walk_of, Goes-dropped, after, proved, leaves}
use types.Kit.{feq_i, flt_i}
use types.Run.{load, look}
use types.ByLocal.{through}
use denote.Builtin.{RefOf}
use denote.Memory.{hidden_shr}
use denote.Opens.{hide}
use denote.RawPtr.{RawPtr}
use denote.Ref.{Bor, shr_vals, shr_Tells}
use denote.Slice.{slice_val}
use Rattle.core.proofs.slots.Lent.{pointer_in, pointer_out}
use Rattle.cell_arena.specs.Ownership.{bytes_lent}
use Rattle.cell_arena.specs.declared.raw.Strip.{Strip}
use Rattle.cell_arena.specs.contracts.raw.Strip.{the_row}
use Rattle.cell_arena.specs.contracts.raw.Strip.bytes as F
use Rattle.cell_arena.proofs.Walks.{shown}
use Rattle.cell_arena.proofs.raw.Strip.bytes.Statement.{statement}
use Rattle.cell_arena.proofs.raw.Strip.bytes.Code as code

abbrev hs : Stays F.ended.signature.params F.ended.kept
hs = (
  stay_dropped (RefOf (0 ∷ []) tt (plain (λ _. the_row)) (λ _. tt)) yes,
  (stay_dropped (plain (λ _. usize)) yes, tt),
)

pub bytes_spec : {M : Type 1} → statement M
bytes_spec 𝓤 𝓛 𝓜 𝓡 wired =
    let c = F.clauses 𝓛 𝓜.mem 𝓡.returns in let 𝓣 = tables 𝓤 𝓛.H 𝓜 𝓡 𝓡.env in
    let goes = Goes-dropped 𝓛 1 (RefOf (0 ∷ []) tt (plain (λ _. the_row)) (λ _. tt)) yes
    (λ κs x w. refl) in
    let goes' = Goes-dropped 𝓛 1 (plain (λ _. usize)) yes (λ κs x w. refl) in
    proved 𝓛 F.ended hs c 𝓜 𝓡 (goes, (goes', tt)) F.Key.name code.function
    (code.unfolded 𝓤 𝓛.H 𝓜 𝓡 wired) (λ κs. (shr_vals, (uint_vals w64, tt)))
    (λ κs. (shr_Tells (named 0) κs.0 the_row, (uint_Tells w64, tt))) (λ κs qs bounds a g are.
    let κ = κs.0 in let s : Strip = a.0.now in let n : ℕ = a.1.0 in
    let rb : ℕ = a.0.ref_ptr.0 in let ro : ℕ = a.0.ref_ptr.1 in let xs : List ℕ = s.bytes in
    let y : (walk_of 𝓛 F.ended hs c).Ghost =
    ((κs, qs, bounds, a, (shr_vals a.0, (uint_vals w64 n, tt))), g) in
    let Post = (walk_of 𝓛 F.ended hs c).post y in
    qed 𝓛 (((‵ (flft κ qs.0) ⊛ ‵ ftrue) ⊛ ‵ (owns (types_at F.signature.params κs) a y.0.4))
    ∷ raw (fact 𝓤 ((n ≡ length xs) × (n < 2 ^ 63))) ∷ []) ∵
    move ! (1 ∷ []) $ heard ! _ (λ asked. split ! $ move ! (1 ∷ []) $ fsplit ! $ fsplit ! $ skip ! $
    use1 𝓛 (‵ (hidden_shr RawPtr κ s.ptr rb (ro + 0)) ⊛ ‵ (bytes_lent s.ptr xs κ))
    (shown 𝓛 κ s rb ro) $ split ! $ move ! (1 ∷ []) $
    in_a_block ! s.ptr (λ p. bytes_lent p xs κ) (id⊢ 𝓤 (never 𝓤)) (λ b o e.
    move ! (3 ∷ []) $ split ! $ keep ! (3 ∷ 0 ∷ 2 ∷ []) $
    enter ! _ _ _ _ _ $ alloc_all ! (λ l.
    pass_all ! refl ((tt, tt), ((tt, record { fits = are.1.0.1 }), tt)) $
    first ! $ blocks ! $ pointer_in ! tt s.ptr b o e rb (ro + 0) (λ q'.
    sets ! (of_opd ! (load ! (through ! refl (fld ! refl (stop !))) (look ! 0 refl))) refl (tt, tt) $
    pointer_out ! tt s.ptr b o e rb (ro + 0) $ move ! (1 ∷ []) $ hide ! $
    sets_last ! (agg ! (and_then ! (get ! refl) (and_then ! (get ! refl) (no_more !)))) refl
    (tt, (tt, (record { fits = are.1.0.1 }, tt))) $
    exec ! 𝓣.C 𝓣.Λ (env code.function.locals l) (after 1 code.function.body) (at_ret _ Post) $
    sets ! (of_opd ! (get ! refl)) refl (tt, (tt, (record { fits = are.1.0.1 }, tt))) $
    flt_i ! (length xs * 1) (2 ^ 63) (omega (arith, asked.0, asked.1)) $
    flt_i ! (length xs) (2 ^ 64) (omega (arith, asked.0, asked.1)) $ fjoin ! $
    feq_i ! (List Val) (slice_val (b, o) n ∷ []) (slice_val (b, o) (length xs) ∷ [])
    (ap (λ k. slice_val (b, o) k ∷ []) asked.0) $ fjoin ! $ fjoin ! $
    returns ! (look_at ! 0 refl) $ free_all ! refl $
    let r : Bor (List ℕ) = record { ref_ptr = (b, o); now = xs } in
    nothing ! $ move ! (2 ∷ 0 ∷ []) $ join ! $
    use0 𝓛 (raw (fact 𝓤 (xs ≡ xs))) (fact_i 𝓤 (xs ≡ xs) (emp 𝓤) refl) $
    nothing ! $ nothing ! $ fjoin ! $ nothing ! $ fjoin ! $ keep ! (2 ∷ 0 ∷ 3 ∷ 1 ∷ []) $
    by ! (leaves 𝓛 F.ended hs c y (slice_val (b, o) n) r (tt, (tt, tt)) (tt, (tt, tt))))))))
