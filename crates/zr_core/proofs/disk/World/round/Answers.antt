use Rattle.std.proofs.Common.{◌≡◌, ℕ, length, refl, subst, arith}
use Rattle.std.specs.List.{range_with_len}
use Rattle.zr_core.specs.Playing.{playing}
use Rattle.zr_core.specs.Runs.{Plays}
use Rattle.zr_core.specs.States.{state_of}
use Rattle.zr_core.proofs.Fewer.{can_few}
use Rattle.zr_core.proofs.Runs.{plays_none, plays_once, then_turn, turn_more, round_none, rule, round_left}
use Rattle.zr_core.proofs.disk.World.round.Goals as goal

pub loop-actor-init : goal.loop-actor-init
loop-actor-init o c = record {
  plays = plays_none _ c.requires.can;
  falls = λ dones kept. (dones, kept, refl, round_none (playing c.args.self.now c.args.phase.now c.args.actors.now).terms _);
}

pub loop-actor-preserved : goal.loop-actor-preserved
loop-actor-preserved o c =
    let i = c.loop-actor.invariant in
    let t = c.step-turn.ensures in record {
      plays = then_turn _ _ _ c.loop-actor.actor i.plays
          (plays_once c.loop-actor.actor _ _ c.step-turn.result t.same t.limit t.backed t.spare t.can t.turn);
      falls = λ dones kept. turn_more c.sums_move.ensures.moves
          (state_of (playing c.args.self.now c.args.phase.now c.args.actors.now) dones)
          (playing c.loop-actor.self c.loop-actor.phase c.args.actors.now)
          (playing c.step-turn.new.self c.step-turn.new.phase c.args.actors.now) t.same
          c.loop-actor.actor
          c.step-turn.result
          (can_few c.values_fit.ensures.compacted c.locks_are_of_the_disk.ensures.takes
          c.locks_are_of_the_disk.ensures.gives
          (playing c.loop-actor.self c.loop-actor.phase c.args.actors.now) i.plays.can)
          (i.falls dones kept) t.turn;
    }

pub returns-clause-plays : goal.returns-clause-plays
returns-clause-plays o c =
    let all : c.loop-actor.actor ≡ length c.args.actors.now = (let t = c.loop-actor-test.false in
    let le = c.loop-actor.auto in omega arith) in
    subst (λ (n : ℕ). Plays (range_with_len 0 n)
    (playing c.args.self.now c.args.phase.now c.args.actors.now)
    (playing c.loop-actor.self c.loop-actor.phase c.args.actors.now)) all
    c.loop-actor.invariant.plays

pub returns-clause-falls : goal.returns-clause-falls
returns-clause-falls o c busy =
    let i = c.loop-actor.invariant in
    let x = playing c.args.self.now c.args.phase.now c.args.actors.now in
    let j = (rule c.rule_keeps.ensures.free x c.requires.can busy).1 in
    round_left c.rule_keeps.ensures.free x c.requires.can busy
    c.sums_move.ensures.moves
    (playing c.loop-actor.self c.loop-actor.phase c.args.actors.now) i.plays.same refl
    c.loop-actor.actor
    (let t = c.loop-actor-test.false in omega arith) (i.falls j.dones j.kept)
