-- What holds of the front that is written holds of the blocks.
use Rattle.std.proofs.Common.{◌<◌, List, ℕ, Some, length, slice_get, refl, ap, sym, subst, ◌∙◌}
use Rattle.backing_dev.specs.Contents.{ChangesOnly, page_full_of}
use Rattle.backing_dev.specs.Memory.{Memory}
use Rattle.backing_dev.specs.MemoryInside.{all_blocks}
use Rattle.backing_dev.specs.Plan.{IsNextPlanned}
use Rattle.backing_dev.proofs.Blocks.{block_set, others_set}
use Rattle.backing_dev.proofs.memory.MemBackingBacking.write.Goals as goal

pub returns-then-call-clause-planned : goal.returns-then-call-clause-planned
returns-then-call-clause-planned c =
    let P : Memory → Type 0 = λ m. IsNextPlanned m.writes in
    (λ _. subst P c.self.view_is (c.call.ensures.fails.0 c.if-call.true), λ _. refl)

pub returns-then-call-clause-spoilt : goal.returns-then-call-clause-spoilt
unfolding page_full_of
returns-then-call-clause-spoilt c =
    let d = c.self.inside in
    let P : Memory → Type 0 = λ m. c.args.b < length m.pages in
    ap (λ all. slice_get all c.args.b) c.put_block.ensures.set
    ∙ block_set (all_blocks d.blocks d.pages.items) c.args.b _
    (subst P (sym c.self.view_is) c.requires)

pub returns-clause-others : goal.returns-clause-others
returns-clause-others c =
    let d = c.self.inside in
    let new = all_blocks d.blocks c.put_block-2.new.pages.items in
    let P : List (List ℕ) → Type 0 =
    λ all. ChangesOnly (Some (all_blocks d.blocks d.pages.items)) (Some all) c.args.b in
    let Q : Memory → Type 0 = λ m. ChangesOnly (Some m.pages) (Some new) c.args.b in
    subst Q c.self.view_is (subst P (sym c.put_block-2.ensures.set)
    (others_set (all_blocks d.blocks d.pages.items) c.args.b _))
