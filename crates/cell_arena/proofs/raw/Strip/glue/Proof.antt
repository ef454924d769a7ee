-- `glue` makes one run of two.
use Rattle.cell_arena.proofs.Steps.{◌≡◌, ◌+◌, [], ◌∷◌, ◌++◌, length, refl, sym, ap, ◌∙◌, u8, emp, never, id⊢, fact, fact_i, cells, ‵, raw, ◌⊛◌, ◌$◌, ◌∵◌, !, qed, by, move, keep, use0, use2, split, fsplit, fjoin, rewrite, whole, sub, agg, of_opd, and_then, no_more, fld, stop, returns, enter, alloc_all, pass_all, free_all, look_at, get, get_in, sets, yes, mem, owns, Ptr, in_a_block, ◌+ₚ◌, plain, types_at, nothing, heard, alive, Stays, stay_dropped, walk_of, Goes-dropped, word-Good, Ptr-Good, proved, leaves}
use Rattle.cell_arena.specs.Ownership.{bytes_own}
use Rattle.cell_arena.specs.declared.raw.Strip.{Strip}
use Rattle.cell_arena.specs.contracts.raw.Strip.{the_row}
use Rattle.cell_arena.specs.contracts.raw.Strip.glue as F
use Rattle.cell_arena.proofs.Walks.{strip_vals, strip_told, strip_had, strip_made, glue}
use Rattle.cell_arena.proofs.raw.Strip.glue.Statement.{statement}
use Rattle.cell_arena.proofs.raw.Strip.glue.Code as code

abbrev hs : Stays F.ended.signature.params F.ended.kept
hs = (stay_dropped (plain (λ _. the_row)) yes, (stay_dropped (plain (λ _. the_row)) yes, tt))

pub glue_spec : {M : Type 1} → statement M
glue_spec 𝓤 𝓛 𝓜 𝓡 wired =
    let c = F.clauses 𝓛 𝓜.mem 𝓡.returns in
    let goes = Goes-dropped 𝓛 0 (plain (λ _. the_row)) yes (λ κs x w. refl) in
    proved 𝓛 F.ended hs c 𝓜 𝓡 (goes, (goes, tt)) F.Key.name code.function
    (code.unfolded 𝓤 𝓛.H 𝓜 𝓡 wired) (λ κs. (strip_vals, (strip_vals, tt)))
    (λ κs. (strip_told, (strip_told, tt))) (λ κs qs bounds a g are.
    let s = a.0 in let t = a.1.0 in
    let y : (walk_of 𝓛 F.ended hs c).Ghost =
    ((κs, qs, bounds, a, (strip_vals s, (strip_vals t, tt))), g) in
    let r : Strip = record s { bytes = s.bytes ++ t.bytes } in
    qed 𝓛 ((raw (alive 𝓛 F.signature κs qs) ⊛ ‵ (owns (types_at F.signature.params κs) a y.0.4))
    ∷ raw (fact 𝓤 (t.ptr ≡ s.ptr +ₚ length s.bytes)) ∷ []) ∵
    move ! (1 ∷ []) $ heard ! _ (λ next. split ! $ move ! (1 ∷ []) $ fsplit ! $ strip_had ! s $
    in_a_block ! s.ptr (λ p. bytes_own p s.bytes) (id⊢ 𝓤 (never 𝓤)) (λ b o e.
    move ! (1 ∷ []) $ fsplit ! $ strip_had ! t $
    rewrite ! 0 (λ (p : Ptr). ‵ (bytes_own p t.bytes)) (next ∙ ap (λ p. p +ₚ length s.bytes) e) refl $
    move ! (2 ∷ 0 ∷ 3 ∷ []) $
    use2 𝓛 (‵ (cells (mem u8) (s.bytes ++ t.bytes) b o))
    (glue 𝓛 b s.bytes t.bytes o (o + length s.bytes) refl) $
    rewrite ! 0 (λ (p : Ptr). ‵ (bytes_own p (s.bytes ++ t.bytes))) (sym e) refl $
    strip_made ! r $ move ! (1 ∷ 0 ∷ []) $
    enter ! _ _ _ _ _ $ alloc_all ! (λ l.
    pass_all ! refl (word-Good [] s.ptr, (word-Good [] t.ptr, tt)) $
    sets ! (of_opd ! (get_in ! (fld ! refl (stop !)) (sub ! 0 refl (whole !)))) refl
    (Ptr-Good s.ptr) $
    sets ! (agg ! (and_then ! (get ! refl) (no_more !))) refl (word-Good [] s.ptr) $
    returns ! (look_at ! 0 refl) $ free_all ! refl $
    use0 𝓛 (raw (fact 𝓤 (r ≡ r))) (fact_i 𝓤 (r ≡ r) (emp 𝓤) refl) $
    nothing ! $ nothing ! $ fjoin ! $ nothing ! $ fjoin ! $ keep ! (2 ∷ 0 ∷ 3 ∷ 1 ∷ []) $
    by ! (leaves 𝓛 F.ended hs c y (Rattle.std_alloc.proofs.RcSteps.word s.ptr) r (tt, (tt, tt))
    (tt, (tt, tt)))))))
