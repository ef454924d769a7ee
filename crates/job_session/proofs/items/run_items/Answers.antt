use Rattle.std.proofs.Common.{◌≡◌, ℕ, ◌+◌, ◌<◌, List, [], ◌∷◌, ◌++◌, length, get_or, take, drop, Ok, Err, sym, ap, ◌∙◌, subst, append_assoc}
use Rattle.std.proofs.lemmas.List.{take-append-drop, take_more, drop_more}
use Rattle.std.proofs.lemmas.Result.{err_from_is_err_and}
use Rattle.job_text.specs.declared.job.Item.{Item}
use Rattle.job_session.specs.Stepped.{Disk, disk_of}
use Rattle.job_session.specs.Telling.{MayStand, NoPhases, ItemsTold}
use Rattle.job_session.proofs.Extends.{none_first, none_later, stand_after}
use Rattle.job_session.proofs.Jobs.{items_none, items_more, items_cut, all_stepped}
use Rattle.job_session.proofs.Lawful.{stand_first}
use Rattle.job_session.proofs.items.run_items.Goals as goal

pub loop-item-init : goal.loop-item-init
loop-item-init g c = record {
  told = items_none (disk_of c.args.clock.now c.args.world.now) c.args.out.now;
  may = c.requires.may;
  none = c.requires.none;
  rest = c.requires.rest;
}

-- an item of a job, and what is left of it
left_at : (job : List Item) (at : ℕ) (item : Item) → at < length job → item ≡ get_or job at item
    → drop at job ≡ item ∷ drop (at + 1) job
left_at job at item lt is = drop_more job at item lt
    ∙ ap (λ (x : Item). x ∷ drop (at + 1) job) (sym is)

pub run_item-requires-clause-may : goal.run_item-requires-clause-may
run_item-requires-clause-may g c =
    stand_first c.loop-item.world.pages c.loop-item.clock c.item-item.result
    (drop (c.loop-item.item-index + 1) c.args.job.now)
    (subst (MayStand c.loop-item.world.pages c.loop-item.clock)
    (left_at c.args.job.now c.loop-item.item-index c.item-item.result c.loop-item-test.true
    c.item-item.is)
    c.loop-item.invariant.may)

pub run_item-requires-clause-none : goal.run_item-requires-clause-none
run_item-requires-clause-none g c =
    none_first c.item-item.result (drop (c.loop-item.item-index + 1) c.args.job.now)
    (subst NoPhases
    (left_at c.args.job.now c.loop-item.item-index c.item-item.result c.loop-item-test.true
    c.item-item.is)
    c.loop-item.invariant.none)

pub returns-in_err-run_item-clause-items : goal.returns-in_err-run_item-clause-items
returns-in_err-run_item-clause-items g c =
    let at : ℕ = c.loop-item.item-index in
    let item : Item = c.item-item.result in
    let front : List Item = take at c.args.job.now in
    let back : List Item = drop (at + 1) c.args.job.now in
    let first : Disk = disk_of c.args.clock.now c.args.world.now in
    let d : Disk = disk_of c.loop-item.clock c.loop-item.world in
    let n : Disk = disk_of c.run_item.new.clock c.run_item.new.world in
    let whole : front ++ item ∷ [] ++ back ≡ c.args.job.now =
    append_assoc front (item ∷ []) back
    ∙ ap (λ (xs : List Item). front ++ xs)
    (sym (left_at c.args.job.now at item c.loop-item-test.true c.item-item.is))
    ∙ take-append-drop at c.args.job.now in
    let p = err_from_is_err_and c.from_residual.result c.from_residual.ensures.1 in
    rw (p.1, p.2)
    (subst (λ (xs : List Item). ItemsTold first xs n c.args.out.now c.run_item.new.out
    (Err c.in_err-run_item.field-0.0)) whole
    (items_cut (front ++ item ∷ []) back first n _ _ _
    (items_more front (item ∷ []) first d n _ _ _ _ c.loop-item.invariant.told
    c.in_err-run_item.ensures.item)))

pub loop-item-preserved : goal.loop-item-preserved
loop-item-preserved g c =
    let at : ℕ = c.loop-item.item-index in
    let item : Item = c.item-item.result in
    let front : List Item = take at c.args.job.now in
    let back : List Item = drop (at + 1) c.args.job.now in
    let first : Disk = disk_of c.args.clock.now c.args.world.now in
    let d : Disk = disk_of c.loop-item.clock c.loop-item.world in
    let n : Disk = disk_of c.run_item.new.clock c.run_item.new.world in
    let taken : take (at + 1) c.args.job.now ≡ front ++ item ∷ [] =
    take_more c.args.job.now at item c.loop-item-test.true
    ∙ ap (λ (x : Item). front ++ x ∷ []) (sym c.item-item.is) in
    let left = left_at c.args.job.now at item c.loop-item-test.true c.item-item.is in
    let may = subst (MayStand c.loop-item.world.pages c.loop-item.clock) left
    c.loop-item.invariant.may in
    let told = c.in_ok-run_item.ensures.item in
    record {
      told = subst (λ (xs : List Item). ItemsTold first xs n c.args.out.now c.run_item.new.out
          (Ok tt)) (sym taken)
          (items_more front (item ∷ []) first d n _ _ _ _ c.loop-item.invariant.told told);
      may = stand_after (item ∷ []) back d n told.turns told.lines
          (all_stepped (item ∷ []) d n _ _ told) may;
      none = none_later item back (subst NoPhases left c.loop-item.invariant.none);
      rest = c.in_ok-run_item.ensures.rest;
    }
