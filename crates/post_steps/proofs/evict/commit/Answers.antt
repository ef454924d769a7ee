use Rattle.std.proofs.Common.{refl}
use Rattle.page_steps.specs.Visits.{committing}
use Rattle.post_steps.proofs.VisitTurns.{goes_on}
use Rattle.post_steps.proofs.Writebacks.{can_commit, held_block}
use Rattle.post_steps.proofs.evict.commit.Goals as goal

pub block_of-requires : goal.block_of-requires
block_of-requires g c = c.requires.fit.0.block

pub commit-requires : goal.commit-requires
commit-requires g c =
    held_block c.args.x.block c.block_of.result c.args.blocks c.block_of.ensures c.requires.fit.2

pub give-requires : goal.give-requires
give-requires g c =
    let a = c.args in
    c.requires.allows.give _ _ _ refl
    (can_commit a.head a.scratch.now a.x a.entry a.frames a.was a.blocks c.commit.new.self
    c.block_of.result c.block_of.ensures c.commit.ensures.owned)

pub returns : goal.returns
returns g c =
    let a = c.args in
    goes_on committing c.requires tt refl
    (can_commit a.head a.scratch.now a.x a.entry a.frames a.was a.blocks c.commit.new.self
    c.block_of.result c.block_of.ensures c.commit.ensures.owned)
    c.give.ensures (c.requires.fit.0, c.requires.fit.1) tt (λ x w. refl)
