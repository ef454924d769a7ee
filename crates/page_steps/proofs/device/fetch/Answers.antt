use Rattle.std.proofs.Common.{refl}
use Rattle.lock_row.specs.declared.names.Held.TheVariants as holds
use Rattle.page_steps.specs.Nexts.{fetching, missing}
use Rattle.page_steps.specs.declared.stage.Scratch.{Scratch}
use Rattle.page_steps.proofs.Moves.{ends}
use Rattle.page_steps.proofs.Merges.{work_merged}
use Rattle.page_steps.proofs.Backed.{can_fetch, can_miss}
use Rattle.page_steps.proofs.Formed.{fetched_here}
use Rattle.page_steps.proofs.device.fetch.Goals as goal

pub give_by-requires : goal.give_by-requires
give_by-requires g c =
    let a = c.args in
    c.requires.allows.give _ _ _ refl
    (can_fetch a.head a.scratch.now a.entry a.block a.device c.read.new.self c.read.new.into
    c.requires.fit.0.kept c.in-Ok.ensures.read c.is_page.ensures)

pub give_by-requires-in-Err : goal.give_by-requires-in-Err
give_by-requires-in-Err g c =
    let a = c.args in
    c.requires.allows.give _ _ _ refl
    (can_miss a.head a.scratch.now a.entry a.block a.device c.read.new.self c.in-Err.fault
    c.requires.fit.0.kept c.in-Err.ensures.fault)

pub returns-in-Ok : goal.returns-in-Ok
returns-in-Ok g c =
    let a = c.args in
    let m : Scratch = record {
      page = c.read.new.into;
      fresh = a.scratch.now.fresh;
      packed = a.scratch.now.packed;
      table = a.scratch.now.table;
    } in
    let read = c.fetched.ensures in
    let go = work_merged a.head a.scratch.now m in
    ends (fetching c.read.new.into) c.requires tt refl
    (can_fetch a.head a.scratch.now a.entry a.block a.device c.read.new.self c.read.new.into
    c.requires.fit.0.kept c.in-Ok.ensures.read c.is_page.ensures)
    c.give_by.ensures read.fit read.going
    (λ x w. read.work x (go x (λ k few low high. refl) refl w)) read.table (λ x. tt)
    (λ x w. fetched_here a.head a.scratch.now m c.fetched.new.scratch a.entry a.block a.device
    c.fetched.result (holds.Device c.read.new.self) read x (go x (λ k few low high. refl) refl w))

pub returns-in-Err : goal.returns-in-Err
returns-in-Err g c =
    let a = c.args in
    let m : Scratch = record {
      page = c.read.new.into;
      fresh = a.scratch.now.fresh;
      packed = a.scratch.now.packed;
      table = a.scratch.now.table;
    } in
    ends (missing c.in-Err.fault) c.requires tt refl
    (can_miss a.head a.scratch.now a.entry a.block a.device c.read.new.self c.in-Err.fault
    c.requires.fit.0.kept c.in-Err.ensures.fault)
    c.give_by-in-Err.ensures (c.requires.fit.0.piece, c.requires.fit.0.place) tt
    (λ x w. work_merged a.head a.scratch.now m x (λ k few low high. refl) refl w) refl (λ x. tt)
    (λ x w. refl)
