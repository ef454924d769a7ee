-- `detach` makes a strip of a full row of slots.
use Rattle.cell_arena.proofs.Steps.{◌≡◌, ℕ, List, [], ◌∷◌, ◌++◌, refl, sym, ◌∙◌, arith, u8, Val, full_share, emp, fact, fact_i, flft, tables, cells, ‵, raw, ◌⊛◌, at_ret, ◌$◌, ◌∵◌, !, qed, by, move, keep, use0, use1, use2, split, fsplit, fjoin, rewrite, whole, sub, agg, of_opd, and_then, no_more, fld, stop, first, blocks, exec, returns, enter, alloc_all, pass_all, free_all, look_at, get, get_in, sets, env, yes, mem, owns, block_ptr, plain, types_at, nothing, heard, alive, Stays, stay_dropped, walk_of, Goes-dropped, word, after, leaves}
use contract.BorrowLft.{⊑_static}
use prog.Wp.{WpFn}
use types.Kit.{later, given, prop, await, learn, regoal}
use types.ByLocal.{is, lands_last}
use types.Tokens.{lft_new}
use denote.Param.{layout}
use denote.Struct.Struct.{as_fields}
use denote.Struct.Tuple.{Tuple}
use denote.Triple.Call.{calls_at_last}
use denote.Triple.Table.{framed}
use Rattle.core.proofs.alloc.Calls.{Goes-blank}
use Rattle.core.proofs.cell.Inside.{Good}
use Rattle.core.proofs.slots.Opens.{row_val}
use Rattle.core.proofs.slots.Slots.into_raw_parts.Met as callee
use Rattle.core.specs.Mem.Slots.{slots_items, slots_filled, slots_ptr, slots_len, slots_counts, IsFull}
use Rattle.core.specs.contracts.slots.Slots as slots
use Rattle.std.proofs.raw_atomic.Walks.{proved_at}
use Rattle.std_alloc.proofs.Pairs.{pair_val, pair_of, pair_Typed}
use Rattle.std_alloc.proofs.vec.Blocks.{all}
use Rattle.std_alloc.proofs.vec.Spares.{Row-seen, parts_typed, Into, at_into, Into-goes, Into-gives}
use Rattle.cell_arena.specs.declared.raw.Strip.{Strip}
use Rattle.cell_arena.specs.declared.raw.Deed.{Deed}
use Rattle.cell_arena.specs.contracts.raw.Strip.{the_row}
use Rattle.cell_arena.specs.contracts.raw.Deed as deed
use Rattle.cell_arena.specs.contracts.raw.detach as F
use Rattle.cell_arena.proofs.Deeds.{E, Lr, u8_laws, deed_val, lease_told, deed_made, of_slots}
use Rattle.cell_arena.proofs.Walks.{strip_made}
use Rattle.cell_arena.proofs.raw.detach.Statement.{statement}
use Rattle.cell_arena.proofs.raw.detach.Code as code

abbrev hs : Stays F.ended.signature.params F.ended.kept
hs = (
  stay_dropped (plain (λ _. slots.the_row u8)) yes,
  (stay_dropped (plain (λ _. Lr)) yes, tt),
)

pub detach_spec : {M : Type 1} → statement M
detach_spec 𝓤 𝓛 𝓜 𝓡 wired =
    let c = F.clauses 𝓛 𝓜.mem 𝓡.returns in let 𝓣 = tables 𝓤 𝓛.H 𝓜 𝓡 𝓡.env in
    let goes = Goes-dropped 𝓛 0 (plain (λ _. slots.the_row u8)) yes (λ κs x w. refl) in
    let goes' = Goes-blank 𝓛 0 (plain (λ _. Lr)) yes (λ κs x w. tt) in
    proved_at 𝓛 F.ended hs c 𝓜 𝓡 (goes, (goes', tt)) F.Key.name code.function
    (code.unfolded 𝓤 𝓛.H 𝓜 𝓡 wired) (λ y are.
    let r = y.0.3.0 in let d = y.0.3.1.0 in let vss = y.0.4 in let xs : List ℕ = slots_items r in
    let k : ℕ = slots_len r in let got = lease_told 𝓛 d vss.1.0 are.1.0 in let v : Val = got.0 in
    let Post = (walk_of 𝓛 F.ended hs c).post y in
    qed 𝓛 ((raw (alive 𝓛 F.signature y.0.0 y.0.1)
    ⊛ ‵ (owns (types_at F.signature.params y.0.0) y.0.3 vss)) ∷ raw (fact 𝓤 (IsFull r)) ∷ []) ∵
    move ! (1 ∷ []) $ heard ! _ (λ full. split ! $ move ! (1 ∷ []) $ fsplit ! $
    Row-seen E ! r vss.0 (λ b o at e fk. move ! (1 ∷ []) $ fsplit ! $
    rewrite ! 0 (λ (us : List Val). ‵ (Lr.own_val d us)) got.1 refl $ deed_made ! d v $
    keep ! (2 ∷ 0 ∷ 3 ∷ []) $
    regoal ! (λ (us : List Val). prop (WpFn 𝓤 𝓛.H 𝓣.C 𝓣.Λ code.function us Post))
    (λ i. e i ++ (got.1 i ++ [])) refl $
    let words : Good (layout (slots.the_row u8)) (row_val b o k) =
    (tt, (tt, (record { fits = fk }, tt))) in
    let s : Strip = record { ptr = block_ptr b o; chain = block_ptr b o; bytes = xs } in
    let D : Deed = record { lease = d } in
    let held : Good (layout deed.the_row) (deed_val v) =
    as_fields (layout Lr ∷ []) (v ∷ []) (got.2, tt) in
    enter ! _ _ _ _ _ $ alloc_all ! (λ l. pass_all ! refl (words, (got.2, tt)) $
    lft_new ! tt (λ α. first ! $ blocks ! $ sets ! (of_opd ! (get ! refl)) refl words $
    move ! (1 ∷ 0 ∷ []) $
    let K = Into E 𝓛 𝓜.mem 𝓡.returns in
    let z = at_into E 𝓛 𝓜.mem 𝓡.returns (α ∷ []) full_share r b o in
    use2 𝓛 (raw (K.pre z)) (Into-goes E 𝓛 𝓜.mem 𝓡.returns (α ∷ []) full_share r b o
    (⊑_static (α ∷ []))) $
    calls_at_last ! (framed 𝓤 𝓛.H 𝓜 𝓣) K
    (callee.met 𝓤 𝓛 𝓜 𝓡 (code.calls-core::slots::Slots::into_raw_parts 𝓡.env wired) u8 u8_laws) z
    (and_then ! (get ! refl) (no_more !)) (λ u.
    use1 𝓛 (later (given (u ≡ row_val b o k) (‵ (all E b o xs (slots_filled r))
    ⊛ ‵ (flft (α ∷ []) full_share))))
    (Into-gives E 𝓛 𝓜.mem 𝓡.returns (α ∷ []) full_share r b o u at) $ await ! tt $
    learn ! (λ ev. split ! $ lands_last ! refl (parts_typed u b o k ev fk) $
    exec ! 𝓣.C 𝓣.Λ (env code.function.locals l) (after 1 code.function.body) (at_ret _ Post) $
    sets ! (is ! (of_opd ! (get ! refl)) ev) refl words $
    sets ! (agg ! (and_then ! (get_in ! (fld ! refl (stop !)) (sub ! 0 refl (whole !)))
    (no_more !))) refl (tt, (tt, tt)) $
    sets ! (of_opd ! (get ! refl)) refl got.2 $
    sets ! (agg ! (and_then ! (get ! refl) (no_more !))) refl held $
    sets ! (agg ! (and_then ! (get ! refl) (and_then ! (get ! refl) (no_more !)))) refl
    (pair_Typed (layout the_row) (layout deed.the_row) (word s.ptr) (deed_val v) (tt, (tt, tt))
    held) $
    use1 𝓛 (‵ (cells (mem u8) xs b o)) (of_slots 𝓛 b o xs (slots_filled r)
    (sym (slots_counts r).1 ∙ (slots_counts r).0)
    (λ j lt. full j (omega arith) (omega (arith, (slots_counts r).1)))) $
    strip_made ! s $ move ! (0 ∷ 2 ∷ []) $
    use2 𝓛 (‵ ((Tuple (the_row ∷ deed.the_row ∷ [])).own_val (s, D)
    (pair_val (word s.ptr) (deed_val v) ∷ [])))
    (pair_of 𝓛 the_row deed.the_row s D (word s.ptr) (deed_val v)) $
    returns ! (look_at ! 0 refl) $ free_all ! refl $
    let Told : Type 0 = (block_ptr b o ≡ slots_ptr r) × (block_ptr b o ≡ slots_ptr r) × (xs ≡ xs)
    × (d ≡ d) in
    use0 𝓛 (raw (fact 𝓤 Told)) (fact_i 𝓤 Told (emp 𝓤) (sym at, sym at, refl, refl)) $
    nothing ! $ nothing ! $ fjoin ! $ nothing ! $ fjoin ! $ keep ! (4 ∷ 0 ∷ 2 ∷ 1 ∷ []) $
    by ! (leaves 𝓛 F.ended hs c y (pair_val (word s.ptr) (deed_val v)) (s, D) (tt, (tt, tt))
    (tt, (tt, tt))))))))))
