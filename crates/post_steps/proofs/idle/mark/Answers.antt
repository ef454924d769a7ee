use Rattle.std.proofs.Common.{◌≡◌, ◌+◌, refl, sym, ap, ◌∙◌, arith}
use Rattle.lock_row.specs.declared.names.Held.TheVariants as holds
use Rattle.lock_row.specs.declared.names.Scan.{Scan}
use Rattle.page_steps.specs.Steps.{slot}
use Rattle.page_steps.specs.Scans.{marking}
use Rattle.page_steps.specs.declared.stage.Progress.TheVariants as progress
use Rattle.page_steps.specs.declared.stage.PieceEnd.TheVariants as ends
use Rattle.post_steps.specs.declared.idle.IdleStage.TheVariants as stage
use Rattle.post_steps.proofs.ScanTurns.{gives_it, told_so}
use Rattle.post_steps.proofs.Scans.{can_mark, scanned_here, ended_here, next_room}
use Rattle.post_steps.proofs.idle.mark.Goals as goal

pub passed-next-requires : goal.passed-next-requires
passed-next-requires g c =
    let room = c.requires.fit.0 in (omega (arith, room.page), room.marked)

pub give_by-requires : goal.give_by-requires
give_by-requires g c =
    let a = c.args in
    let new = c.mark_idle-new.result in
    c.requires.allows.give (slot a.x.page) (marking a.head.pages new)
    (holds.Slot c.mark_idle-new.new.self) refl
    (can_mark a.head a.x a.entry c.mark_idle-new.new.self new c.mark_idle-new.ensures.marked
    c.mark_idle-new.ensures.new)

pub returns-then-next-head : goal.returns-then-next-head
returns-then-next-head g c =
    let a = c.args in
    let new = c.mark_idle-new.result in
    let last : a.x.page + 1 ≡ a.head.pages =
    ap (λ (n : Scan). n.page) (sym c.passed-next.ensures) ∙ c.if-next-head.true in
    told_so refl (ap (λ (n : Scan). progress.Done (ends.Marked n.marked)) c.passed-next.ensures)
    (gives_it (marking a.head.pages new) {s' = stage.Over} c.requires tt refl
    (can_mark a.head a.x a.entry c.mark_idle-new.new.self new c.mark_idle-new.ensures.marked
    c.mark_idle-new.ensures.new) c.give_by.ensures tt refl (λ x. tt)
    (λ x w. ended_here a.head x a.x a.entry new (holds.Slot c.mark_idle-new.new.self) last))

pub returns-else-next-head : goal.returns-else-next-head
returns-else-next-head g c =
    let a = c.args in
    let new = c.mark_idle-new.result in
    let other : a.x.page + 1 ≡ a.head.pages → ⊥ =
    λ e. c.if-next-head.false (ap (λ (n : Scan). n.page) c.passed-next.ensures ∙ e) in
    told_so (ap (λ (n : Scan). stage.Scanning n) c.passed-next.ensures) refl
    (gives_it (marking a.head.pages new) c.requires tt refl
    (can_mark a.head a.x a.entry c.mark_idle-new.new.self new c.mark_idle-new.ensures.marked
    c.mark_idle-new.ensures.new) c.give_by.ensures
    (next_room a.head a.x new c.requires.fit.0 other) tt (λ x. tt)
    (λ x w. scanned_here a.head x a.x a.entry new (holds.Slot c.mark_idle-new.new.self) other))
