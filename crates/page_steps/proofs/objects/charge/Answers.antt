use Rattle.std.proofs.Common.{refl, sym, subst}
use Rattle.class_pool.specs.Pool.{PoolState}
use Rattle.mem_account.specs.Counters.{counted}
use Rattle.mem_account.specs.declared.weight.Delta.TheVariants as delta
use Rattle.lock_row.specs.declared.names.Held.TheVariants as holds
use Rattle.page_steps.specs.Nexts.{charging, denying}
use Rattle.page_steps.specs.Calls.{bytes_by, end_of}
use Rattle.page_steps.specs.Turns.{GivesAs}
use Rattle.page_steps.specs.declared.stage.PieceEnd.TheVariants as piece
use Rattle.page_steps.specs.declared.stage.Stage.TheVariants as stage
use Rattle.page_steps.proofs.Plans.{AnyDevice}
use Rattle.page_steps.proofs.Moves.{gives_it}
use Rattle.page_steps.proofs.Given.{can_limit, can_starve, can_charge, made_next, new_class_is}
use Rattle.page_steps.proofs.objects.charge.Goals as goal

pub deny-requires-clause-gives : goal.deny-requires-clause-gives
deny-requires-clause-gives g c =
    let a = c.args in
    can_limit a.head a.scratch.now a.own a.new a.pool a.account c.need_of.result c.in-AtLimit.pages
    c.in-AtLimit.need c.in-AtLimit.limit c.need_of.ensures c.in-AtLimit.ensures.answer

pub deny-requires-in-Err-clause-gives : goal.deny-requires-in-Err-clause-gives
deny-requires-in-Err-clause-gives g c =
    let a = c.args in
    subst (λ (q : PoolState). GivesAs {D = AnyDevice} a.head a.scratch.now (stage.Both a.own a.new q a.account)
    (denying (end_of piece.NoMemory)) (holds.Account (counted a.account delta.FailedWrite)))
    (sym c.in-Err.ensures.same)
    (can_starve a.head a.scratch.now a.own a.new a.pool a.account c.need_of.result c.in-Err.ensures.full
    c.need_of.ensures c.in-Charged.ensures.answer)

pub give_by-requires : goal.give_by-requires
give_by-requires g c =
    let a = c.args in
    let added = c.in-Ok.ensures.added in
    c.requires.allows.give _ _ _ refl
    (can_charge a.head a.scratch.now a.own a.new a.pool c.add.new.pool a.account c.charge.new.self
    c.in-Ok.handle.0 c.need_of.result added.0 c.bytes_in-bytes.result.now c.requires.fit.0 c.requires.fit.1
    c.bytes_in-bytes.ensures c.need_of.ensures c.in-Charged.ensures.answer
    (c.charge.ensures.taken c.in-Charged.ensures.answer) added.1 added.2)

pub returns-in-Ok : goal.returns-in-Ok
returns-in-Ok g c =
    let a = c.args in
    let added = c.in-Ok.ensures.added in
    gives_it (charging a.new.class c.in-Ok.handle.0 (bytes_by a.scratch.now a.new.huge) c.add.new.pool)
    c.requires tt refl
    (can_charge a.head a.scratch.now a.own a.new a.pool c.add.new.pool a.account c.charge.new.self
    c.in-Ok.handle.0 c.need_of.result added.0 c.bytes_in-bytes.result.now c.requires.fit.0 c.requires.fit.1
    c.bytes_in-bytes.ensures c.need_of.ensures c.in-Charged.ensures.answer
    (c.charge.ensures.taken c.in-Charged.ensures.answer) added.1 added.2)
    c.give_by.ensures (
      c.requires.fit.0,
      new_class_is a.head a.scratch.now a.new c.requires.fit.1,
      made_next a.head a.scratch.now a.new c.in-Ok.handle.0 c.bytes_in-bytes.result.now c.requires.fit.1
          c.bytes_in-bytes.ensures,
    ) tt (λ x w. refl)
