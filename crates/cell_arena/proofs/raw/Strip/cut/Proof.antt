-- `cut` gives the bytes out in two runs.
use Rattle.cell_arena.proofs.Steps.{◌≡◌, ℕ, ◌+◌, ◌≤◌, List, [], ◌∷◌, length, take, drop, refl, sym, ap, arith, u8, vptr, w64, emp, never, id⊢, fact, fact_i, tables, cells, ‵, raw, ◌⊛◌, at_ret, ◌$◌, ◌∵◌, !, qed, by, move, keep, use0, use1, use2, split, fsplit, fjoin, rewrite, whole, sub, agg, of_opd, bin, and_then, no_more, fld, stop, first, blocks, exec, returns, enter, alloc_all, pass_all, free_all, look_at, get, get_in, sets, sets_last, env, usize, yes, mem, uint_vals, uint_Tells, owns, block_ptr, in_a_block, ◌+ₚ◌, plain, types_at, nothing, heard, alive, Stays, stay_dropped, walk_of, Goes-dropped, word, word-Good, after, proved, leaves}
use lib.ListN.{take-append-drop, length-take}
use types.ByLocal.{is}
use denote.RawPtr.{ptr_val}
use denote.Struct.Tuple.{Tuple}
use Rattle.std_alloc.proofs.Pairs.{pair_val, pair_of}
use Rattle.cell_arena.specs.Ownership.{bytes_own}
use Rattle.cell_arena.specs.declared.raw.Strip.{Strip}
use Rattle.cell_arena.specs.contracts.raw.Strip.{the_row}
use Rattle.cell_arena.specs.contracts.raw.Strip.cut as F
use Rattle.cell_arena.proofs.Walks.{strip_vals, strip_told, strip_had, strip_made, cut}
use Rattle.cell_arena.proofs.raw.Strip.cut.Statement.{statement}
use Rattle.cell_arena.proofs.raw.Strip.cut.Code as code

abbrev hs : Stays F.ended.signature.params F.ended.kept
hs = (stay_dropped (plain (λ _. the_row)) yes, (stay_dropped (plain (λ _. usize)) yes, tt))

pub cut_spec : {M : Type 1} → statement M
cut_spec 𝓤 𝓛 𝓜 𝓡 wired =
    let c = F.clauses 𝓛 𝓜.mem 𝓡.returns in let 𝓣 = tables 𝓤 𝓛.H 𝓜 𝓡 𝓡.env in
    let goes = Goes-dropped 𝓛 0 (plain (λ _. the_row)) yes (λ κs x w. refl) in
    let goes' = Goes-dropped 𝓛 0 (plain (λ _. usize)) yes (λ κs x w. refl) in
    proved 𝓛 F.ended hs c 𝓜 𝓡 (goes, (goes', tt)) F.Key.name code.function
    (code.unfolded 𝓤 𝓛.H 𝓜 𝓡 wired) (λ κs. (strip_vals, (uint_vals w64, tt)))
    (λ κs. (strip_told, (uint_Tells w64, tt))) (λ κs qs bounds a g are.
    let s = a.0 in let n : ℕ = a.1.0 in
    let y : (walk_of 𝓛 F.ended hs c).Ghost =
    ((κs, qs, bounds, a, (strip_vals s, (uint_vals w64 n, tt))), g) in
    let Post = (walk_of 𝓛 F.ended hs c).post y in
    let xs : List ℕ = take n s.bytes in let ys : List ℕ = drop n s.bytes in
    qed 𝓛 ((raw (alive 𝓛 F.signature κs qs) ⊛ ‵ (owns (types_at F.signature.params κs) a y.0.4))
    ∷ raw (fact 𝓤 (n ≤ length s.bytes)) ∷ []) ∵
    move ! (1 ∷ []) $ heard ! _ (λ le. split ! $ move ! (1 ∷ []) $ fsplit ! $ strip_had ! s $
    in_a_block ! s.ptr (λ p. bytes_own p s.bytes) (id⊢ 𝓤 (never 𝓤)) (λ b o e.
    let left : Strip = record s { ptr = block_ptr b o; bytes = xs } in
    let right : Strip = record s { ptr = block_ptr b (o + n); bytes = ys } in
    rewrite ! 0 (λ (l : List ℕ). ‵ (cells (mem u8) l b o)) (sym (take-append-drop n s.bytes)) refl $
    use1 𝓛 (‵ (cells (mem u8) xs b o) ⊛ ‵ (cells (mem u8) ys b (o + n)))
    (cut 𝓛 b xs ys o (o + n) (omega (arith, length-take n s.bytes))) $ split ! $
    strip_made ! left $ move ! (1 ∷ []) $ strip_made ! right $ move ! (1 ∷ 0 ∷ []) $
    use2 𝓛 (‵ ((Tuple (the_row ∷ the_row ∷ [])).own_val (left, right)
    (pair_val (word left.ptr) (word right.ptr) ∷ [])))
    (pair_of 𝓛 the_row the_row left right (word left.ptr) (word right.ptr)) $
    keep ! (0 ∷ 2 ∷ []) $
    enter ! _ _ _ _ _ $ alloc_all ! (λ l.
    pass_all ! refl (word-Good [] s.ptr, ((tt, record { fits = are.1.0.1 }), tt)) $
    sets ! (is ! (of_opd ! (get_in ! (fld ! refl (stop !)) (sub ! 0 refl (whole !)))) (ap ptr_val e))
    refl (tt, tt) $
    sets ! (of_opd ! (get ! refl)) refl (tt, tt) $
    sets ! (agg ! (and_then ! (get ! refl) (no_more !))) refl (tt, (tt, tt)) $
    first ! $ blocks ! $
    sets ! (of_opd ! (get ! refl)) refl (tt, tt) $
    sets ! (of_opd ! (get ! refl)) refl (tt, record { fits = are.1.0.1 }) $
    sets_last ! (is ! (bin ! (get ! refl) (get ! refl) tt) (ap (λ k. vptr b k) (omega arith))) refl
    (tt, tt) $
    exec ! 𝓣.C 𝓣.Λ (env code.function.locals l) (after 4 code.function.body) (at_ret _ Post) $
    sets ! (of_opd ! (get ! refl)) refl (tt, tt) $
    sets ! (agg ! (and_then ! (get ! refl) (no_more !))) refl (tt, (tt, tt)) $
    sets ! (agg ! (and_then ! (get ! refl) (and_then ! (get ! refl) (no_more !)))) refl
    (tt, ((tt, tt), ((tt, tt), tt))) $
    returns ! (look_at ! 0 refl) $ free_all ! refl $
    let Told : Type 0 = (left ≡ record s { bytes = xs })
    × (right ≡ record s { ptr = s.ptr +ₚ n; bytes = ys }) in
    use0 𝓛 (raw (fact 𝓤 Told)) (fact_i 𝓤 Told (emp 𝓤)
    ((λ i. record s { ptr = sym e i; bytes = xs }), (λ i. record s { ptr = sym e i +ₚ n; bytes = ys }))) $
    nothing ! $ nothing ! $ fjoin ! $ nothing ! $ fjoin ! $ keep ! (3 ∷ 0 ∷ 2 ∷ 1 ∷ []) $
    by ! (leaves 𝓛 F.ended hs c y (pair_val (word left.ptr) (word right.ptr)) (left, right)
    (tt, (tt, tt)) (tt, (tt, tt)))))))
