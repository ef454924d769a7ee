-- `attach` makes a full row of slots of a strip.
use Rattle.cell_arena.proofs.Steps.{◌≡◌, ℕ, ◌<◌, ◌^◌, List, [], ◌∷◌, ◌++◌, length, refl, sym, ap, ◌∙◌, arith, u8, Val, full_share, emp, never, id⊢, fact, fact_i, flft, tables, ‵, raw, ◌⊛◌, at_ret, ◌$◌, ◌∵◌, !, qed, by, move, keep, skip, use0, use1, use2, split, fsplit, fjoin, rewrite, whole, sub, agg, of_opd, and_then, no_more, fld, stop, first, blocks, exec, returns, enter, alloc_all, pass_all, free_all, look_at, get, get_in, sets, env, usize, yes, owns, in_a_block, plain, types_at, nothing, heard, alive, Stays, stay_dropped, walk_of, Goes-dropped, word-Good, after, leaves}
use mathlib.Core.Bool.{Bool, true}
use lib.ListN.{replicate, length-replicate}
use contract.BorrowLft.{⊑_static}
use prog.Wp.{WpFn}
use types.Kit.{later, given, prop, some, pick, await, learn, regoal}
use types.ByLocal.{is, lands_last}
use types.Tokens.{lft_new}
use denote.Param.{layout}
use denote.RawPtr.{ptr_val}
use denote.Struct.Struct.{as_fields}
use denote.Struct.Tuple.{Tuple}
use denote.Triple.Call.{calls_at_last}
use denote.Triple.Table.{framed}
use Rattle.core.proofs.alloc.Calls.{Goes-blank}
use Rattle.core.proofs.cell.Inside.{Good}
use Rattle.core.proofs.slots.Opens.{row_val}
use Rattle.core.proofs.slots.Slots.from_raw_parts.Met as callee
use Rattle.core.specs.Mem.Slots.{slots_ptr, slots_len}
use Rattle.core.specs.contracts.slots.Slots as slots
use Rattle.std.proofs.raw_atomic.Walks.{proved_at}
use Rattle.std_alloc.proofs.Pairs.{pair_val, pair_of, pair_Typed}
use Rattle.std_alloc.proofs.vec.Blocks.{all}
use Rattle.std_alloc.proofs.vec.Spares.{Row, row_Typed, From, Made, at_from, from_goes, from_gives}
use Rattle.cell_arena.specs.Ownership.{bytes_own}
use Rattle.cell_arena.specs.contracts.raw.Strip.{the_row}
use Rattle.cell_arena.specs.contracts.raw.Deed as deed
use Rattle.cell_arena.specs.contracts.raw.attach as F
use Rattle.cell_arena.proofs.Deeds.{E, Lr, u8_laws, deed_val, deed_had, to_slots}
use Rattle.cell_arena.proofs.Walks.{strip_told, strip_had}
use Rattle.cell_arena.proofs.raw.attach.Statement.{statement}
use Rattle.cell_arena.proofs.raw.attach.Code as code

abbrev hs : Stays F.ended.signature.params F.ended.kept
hs = (
  stay_dropped (plain (λ _. the_row)) yes,
  (stay_dropped (plain (λ _. usize)) yes, (stay_dropped (plain (λ _. deed.the_row)) yes, tt)),
)

pub attach_spec : {M : Type 1} → statement M
attach_spec 𝓤 𝓛 𝓜 𝓡 wired =
    let c = F.clauses 𝓛 𝓜.mem 𝓡.returns in let 𝓣 = tables 𝓤 𝓛.H 𝓜 𝓡 𝓡.env in
    let goes = Goes-dropped 𝓛 0 (plain (λ _. the_row)) yes (λ κs x w. refl) in
    let goes' = Goes-dropped 𝓛 0 (plain (λ _. usize)) yes (λ κs x w. refl) in
    let goes'' = Goes-blank 𝓛 0 (plain (λ _. deed.the_row)) yes (λ κs x w. tt) in
    proved_at 𝓛 F.ended hs c 𝓜 𝓡 (goes, (goes', (goes'', tt))) F.Key.name code.function
    (code.unfolded 𝓤 𝓛.H 𝓜 𝓡 wired) (λ y are.
    let s = y.0.3.0 in let n : ℕ = y.0.3.1.0 in let d = y.0.3.1.1.0 in let vss = y.0.4 in
    let xs : List ℕ = s.bytes in let fits : n < 2 ^ 64 = are.1.0.1 in
    let Post = (walk_of 𝓛 F.ended hs c).post y in
    qed 𝓛 ((raw (alive 𝓛 F.signature y.0.0 y.0.1)
    ⊛ ‵ (owns (types_at F.signature.params y.0.0) y.0.3 vss))
    ∷ raw (fact 𝓤 ((n ≡ length xs) × (n < 2 ^ 63))) ∷ []) ∵
    move ! (1 ∷ []) $ heard ! _ (λ asked. split ! $ move ! (1 ∷ []) $ fsplit ! $
    rewrite ! 0 (λ (us : List Val). ‵ (the_row.own_val s us)) (strip_told s vss.0 are.0) refl $
    strip_had ! s $ in_a_block ! s.ptr (λ p. bytes_own p xs) (id⊢ 𝓤 (never 𝓤)) (λ b o e.
    move ! (1 ∷ []) $ fsplit ! $ skip ! $ fsplit ! $ deed_had ! d vss.1.1.0 (λ v seen good.
    keep ! (2 ∷ 0 ∷ 3 ∷ []) $
    regoal ! (λ (us : List Val). prop (WpFn 𝓤 𝓛.H 𝓣.C 𝓣.Λ code.function us Post))
    (λ i. strip_told s vss.0 are.0 i ++ (are.1.0.0 i ++ (seen i ++ []))) refl $
    let held : Good (layout deed.the_row) (deed_val v) =
    as_fields (layout Lr ∷ []) (v ∷ []) (good, tt) in
    enter ! _ _ _ _ _ $ alloc_all ! (λ l.
    pass_all ! refl (word-Good [] s.ptr, ((tt, record { fits = fits }), (held, tt))) $
    sets ! (is ! (of_opd ! (get_in ! (fld ! refl (stop !)) (sub ! 0 refl (whole !)))) (ap ptr_val e))
    refl (tt, tt) $
    sets ! (of_opd ! (get_in ! (fld ! refl (stop !)) (sub ! 0 refl (whole !)))) refl good $
    lft_new ! tt (λ α. first ! $ blocks ! $
    sets ! (of_opd ! (get ! refl)) refl (tt, tt) $
    sets ! (of_opd ! (get ! refl)) refl (tt, record { fits = fits }) $
    let fs : List Bool = replicate (length xs) true in
    let K = From E 𝓛 𝓜.mem 𝓡.returns in
    let z = at_from E 𝓛 𝓜.mem 𝓡.returns (α ∷ []) full_share b o n xs fs in
    move ! (1 ∷ []) $ use1 𝓛 (‵ (all E b o xs fs)) (to_slots 𝓛 b o xs) $
    use2 𝓛 (raw (K.pre z)) (from_goes E 𝓛 𝓜.mem 𝓡.returns (α ∷ []) full_share b o n xs fs
    (⊑_static (α ∷ [])) asked.0 (asked.0 ∙ sym (length-replicate (length xs) true)) fits
    (omega (arith, asked.1))) $
    calls_at_last ! (framed 𝓤 𝓛.H 𝓜 𝓣) K
    (callee.met 𝓤 𝓛 𝓜 𝓡 (code.calls-core::slots::Slots::from_raw_parts 𝓡.env wired) u8 u8_laws) z
    (and_then ! (get ! refl) (and_then ! (get ! refl) (no_more !))) (λ u.
    use1 𝓛 (later (some (λ (r : (Row E).Denot).
    given ((u ≡ row_val b o n) × Made E 𝓛 𝓜.mem 𝓡.returns (α ∷ []) full_share b o n xs fs r)
    (‵ ((Row E).own_val r (row_val b o n ∷ [])) ⊛ ‵ (flft (α ∷ []) full_share)))))
    (from_gives E 𝓛 𝓜.mem 𝓡.returns (α ∷ []) full_share b o n xs fs u) $ await ! tt $
    pick ! (λ r. learn ! (λ made. split ! $
    let words : Good (layout (slots.the_row u8)) (row_val b o n) =
    (tt, (tt, (record { fits = fits }, tt))) in
    lands_last ! refl (row_Typed E u b o n made.0 fits) $
    exec ! 𝓣.C 𝓣.Λ (env code.function.locals l) (after 3 code.function.body) (at_ret _ Post) $
    sets ! (is ! (of_opd ! (get ! refl)) made.0) refl words $
    sets ! (of_opd ! (get ! refl)) refl good $
    sets ! (agg ! (and_then ! (get ! refl) (and_then ! (get ! refl) (no_more !)))) refl
    (pair_Typed (layout (slots.the_row u8)) (layout Lr) (row_val b o n) v words good) $
    move ! (0 ∷ 2 ∷ []) $
    use2 𝓛 (‵ ((Tuple (Row E ∷ Lr ∷ [])).own_val (r, d.lease) (pair_val (row_val b o n) v ∷ [])))
    (pair_of 𝓛 (Row E) Lr r d.lease (row_val b o n) v) $
    returns ! (look_at ! 0 refl) $ free_all ! refl $
    let Told : Type 0 = (slots_ptr r ≡ s.ptr) × (slots_len r ≡ n) × (d.lease ≡ d.lease) in
    use0 𝓛 (raw (fact 𝓤 Told)) (fact_i 𝓤 Told (emp 𝓤) (made.1.0 ∙ sym e, made.1.1, refl)) $
    nothing ! $ nothing ! $ fjoin ! $ nothing ! $ fjoin ! $ nothing ! $ fjoin ! $
    keep ! (4 ∷ 0 ∷ 2 ∷ 1 ∷ []) $
    by ! (leaves 𝓛 F.ended hs c y (pair_val (row_val b o n) v) (r, d.lease) (tt, (tt, ((tt, tt), tt)))
    (tt, (tt, (tt, tt)))))))))))))
