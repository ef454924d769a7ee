use Rattle.std.proofs.Common.{refl, sym, ◌∙◌, inl, inr, arith}
use Rattle.std.proofs.lemmas.Bool.{cases_eq}
use Rattle.lock_row.specs.declared.names.LockNo.TheVariants as lock
use Rattle.lock_row.specs.declared.names.Held.TheVariants as holds
use Rattle.page_steps.specs.Compactions.{with_move, moving, resting}
use Rattle.post_steps.proofs.Moves.{gives_it, told_so}
use Rattle.post_steps.proofs.Events.{can_move, can_rest, moved_here, moved_going, rested_here, ended_here}
use Rattle.post_steps.proofs.Numbers.{moves_few, moved_fit, rested_room}
use Rattle.post_steps.proofs.sweep.move_one.Goals as goal

pub overflow_add-next : goal.overflow_add-next
overflow_add-next g c = omega (arith, moves_few c.args.table.now 0 c.args.x c.requires.fit.0)

pub give_by-requires : goal.give_by-requires
give_by-requires g c =
    let m = c.in-Moved.ensures.moved in
    c.requires.allows.give (lock.Class c.args.x.class) (moving c.move_one.new.budget c.in-Moved.frames)
    (holds.Class c.move_one.new.self) refl
    (can_move c.args.table.now c.args.x c.args.pool c.move_one.new.self c.move_one.new.budget
    c.in-Moved.frames (sym c.budget_of-budget.ensures ∙ sym m.0)
    (record { move = m.1; plan = m.2; moves = m.3; pool = c.move_one.ensures.pool }))

pub returns-in-Moved : goal.returns-in-Moved
returns-in-Moved g c =
    let chain = c.args.table.now in
    let m = c.in-Moved.ensures.moved in
    let some = sym c.budget_of-budget.ensures ∙ sym m.0 in
    let few = (c.objects_move.ensures.moved c.args.pool c.move_one.new.self m.1 c.in-Moved.frames m.3).3 in
    told_so (c.put.ensures ∙ c.moved.ensures) refl
    (gives_it (moving c.move_one.new.budget c.in-Moved.frames) c.requires tt refl
    (can_move chain c.args.x c.args.pool c.move_one.new.self c.move_one.new.budget
    c.in-Moved.frames some
    (record { move = m.1; plan = m.2; moves = m.3; pool = c.move_one.ensures.pool }))
    c.give_by.ensures
    (moved_fit chain c.in-Moved.frames c.move_one.new.budget c.args.x c.args.pool c.requires.fit.0
    (omega (arith, few, c.requires.fit.1))
    (omega (arith, c.budget_of-budget.type_inv, c.budget_of-budget.ensures)) some)
    (moved_going c.in-Moved.frames (with_move c.args.x c.move_one.new.budget)) (λ x. tt)
    (λ x w. moved_here x c.args.x c.args.pool c.move_one.new.budget c.in-Moved.frames
    (holds.Class c.move_one.new.self)))

pub give_by-requires-in-Done : goal.give_by-requires-in-Done
give_by-requires-in-Done g c =
    let d = c.in-Done.ensures.done in
    c.requires.allows.give (lock.Class c.args.x.class) (resting c.args.table.now)
    (holds.Class c.move_one.new.self) refl
    (can_rest c.args.table.now c.args.x c.args.pool c.move_one.new.self
    (elim d.2 [ inl e ↦ inl (sym c.budget_of-budget.ensures ∙ e) | inr none ↦ inr none ]) d.0)

pub returns-in-Done : goal.returns-in-Done
returns-in-Done g c =
    let chain = c.args.table.now in
    let d = c.in-Done.ensures.done in
    let rests = can_rest chain c.args.x c.args.pool c.move_one.new.self
    (elim d.2 [ inl e ↦ inl (sym c.budget_of-budget.ensures ∙ e) | inr none ↦ inr none ]) d.0 in
    elim (cases_eq c.args.x.class 254) [
      | inl last ↦
          let is = c.rested.ensures.over last in
          told_so is.0 is.1 (gives_it (resting chain) c.requires tt refl rests c.give_by-in-Done.ensures
          tt refl (λ x. tt)
          (λ x w. ended_here chain x c.args.x c.args.pool (holds.Class c.move_one.new.self) last))
      | inr other ↦
          let is = c.rested.ensures.next other in
          told_so is.0 is.1 (gives_it (resting chain) c.requires tt refl rests c.give_by-in-Done.ensures
          (rested_room chain c.args.x c.requires.fit.0 is.2 is.3) tt (λ x. tt)
          (λ x w.
          rested_here chain x c.args.x c.args.pool (holds.Class c.move_one.new.self) other))
    ]
