use Rattle.std.proofs.Common.{refl, ◌∙◌}
use Rattle.actor_steps.proofs.Beginners.{is_new_worker}
use Rattle.actor_steps.proofs.prepare.push_worker.Goals as goal

pub returns-clause-added : goal.returns-clause-added
returns-clause-added g c =
    let s = c.settled-place.ensures in (
      _,
      is_new_worker c.args.size c.args.backed c.args.chain _ c.args.ops.now _ c.requires.some c.requires.requests
          c.requires.few c.len.ensures refl refl c.new-2.ensures.limit c.requires.high s.place s.settled (s.same ∙ c.first_piece.ensures.todo c.args.backed)
          c.in_ok-replies.ensures,
      c.push_reserved.ensures.items,
    )
