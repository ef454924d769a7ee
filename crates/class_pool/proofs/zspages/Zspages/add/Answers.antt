-- The new zspage stands at its id, which was absent or the next.
use Rattle.std.proofs.Common.{◌≡◌, ◌<◌, ◌≤◌, ◌+◌, ◌^◌, ℕ, List, take, [], ◌∷◌, ◌++◌, Some, None, length, replicate, map, refl, arith, ap, sym, subst, ◌∙◌}
use Rattle.std.proofs.Math.Seq.{take-append_seam}
use Rattle.std.proofs.lemmas.List.{length-map, map-append}
use Rattle.class_pool.specs.Zspages.{cells_of}
use Rattle.class_pool.proofs.Ranks.{slot_changes, put_at-set, put_at-end, updated_ranks, new_stays, appended, new_fits, zspages_made}
use Rattle.class_pool.proofs.zspages.Zspages.add.Goals as goal

pub invariant_of-self : goal.invariant_of-self
invariant_of-self c =
    let low : c.args.id < length c.self.inside.items.items = omega arith in
    rw (c.set.ensures, c.set-then-id-len.ensures)
    (updated_ranks _ _ _ _ _ _ _ _ _ _ c.self.invariant low
    (new_fits _ _ _ _ _ _ c.self.invariant.cells refl c.in_ok-zspage.ensures) c.rank-rank.ensures
    (new_stays c.in_ok-zspage.zspage _ (ap (λ z. z.cells) c.in_ok-zspage.ensures)))

-- the last of a list is taken away again
taken_back : {A : Type 0} (xs all : List A) (z : A) (n : ℕ) → all ≡ xs ++ z ∷ [] → n ≡ length xs
    → take n all ≡ xs
taken_back xs all z n is size = ap (take n) is ∙ ap (λ k. take k (xs ++ z ∷ [])) size
    ∙ take-append_seam xs (z ∷ [])

-- the zspage that found no room among the ranks is taken away again
pub invariant_of-self-in-Err : goal.invariant_of-self-in-Err
invariant_of-self-in-Err c =
    let back : c.pop.new.self.items ≡ c.self.inside.items.items =
    c.pop.ensures.rest
    ∙ taken_back c.self.inside.items.items c.push.new.self.items _ _ c.in_ok-push.ensures.items
    (omega (arith, c.in_ok-push.ensures.len)) in
    rw (back, c.in-Err.ensures.ranks_err, c.in-Err.ensures.sources_err) c.self.invariant

pub returns-then-id-len-clause-ok : goal.returns-then-id-len-clause-ok
returns-then-id-len-clause-ok c =
    let low : c.args.id < length c.self.inside.items.items = omega arith in
    let cells : c.in_ok-zspage.zspage.cells ≡ replicate c.self.inside.per None =
    ap (λ z. z.cells) c.in_ok-zspage.ensures
    ∙ ap (λ n. replicate n None) (sym c.self.invariant.cells) in
    rw (← c.self.view_is)
    (ap (λ zs. zspages_made c.self.inside.size c.self.inside.chain c.self.inside.per zs)
    (slot_changes _ _ _ _ cells ∙ sym (put_at-set _ _ _ (rw length-map low))))

pub invariant_of-self-in_default : goal.invariant_of-self-in_default
invariant_of-self-in_default c =
    let within : c.args.id ≤ length c.self.inside.items.items =
    rw length-map at (subst (λ z. c.args.id ≤ length z.zspages) (sym c.self.view_is)
    c.requires.absent.within) in
    let last : c.args.id ≡ length c.self.inside.items.items = omega arith in
    let short : length c.self.inside.items.items + 1 < 2 ^ 32 =
    omega (arith, last, c.requires.short) in
    rw (c.in_ok-push.ensures.items, c.in_default.ensures.ranks, c.in_default.ensures.sources)
    (appended _ _ _ _ _ _ _ _ _ c.self.invariant
    (new_fits _ _ _ _ _ _ c.self.invariant.cells last c.in_ok-zspage.ensures)
    c.rank-rank.ensures
    (new_stays c.in_ok-zspage.zspage _ (ap (λ z. z.cells) c.in_ok-zspage.ensures)) short)

pub returns-clause-ok : goal.returns-clause-ok
returns-clause-ok c =
    let within : c.args.id ≤ length c.self.inside.items.items =
    rw length-map at (subst (λ z. c.args.id ≤ length z.zspages) (sym c.self.view_is)
    c.requires.absent.within) in
    let last : c.args.id ≡ length c.self.inside.items.items = omega arith in
    let cells : c.in_ok-zspage.zspage.cells ≡ replicate c.self.inside.per None =
    ap (λ z. z.cells) c.in_ok-zspage.ensures
    ∙ ap (λ n. replicate n None) (sym c.self.invariant.cells) in
    rw (← c.self.view_is)
    (ap (λ zs. zspages_made c.self.inside.size c.self.inside.chain c.self.inside.per zs)
    (ap (map cells_of) c.in_ok-push.ensures.items ∙ map-append cells_of _ _
    ∙ ap (λ cs. map cells_of c.self.inside.items.items ++ Some cs ∷ []) cells
    ∙ sym (put_at-end _ _ _ (last ∙ sym (length-map _ _)))))
