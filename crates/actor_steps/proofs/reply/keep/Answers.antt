use Rattle.std.proofs.Common.{◌<◌, length, arith, length-set}
use Rattle.actor_steps.proofs.Lists.{get_here, get_else}
use Rattle.actor_steps.proofs.Places.{at_index}
use Rattle.actor_steps.proofs.reply.keep.Goals as goal

pub returns : goal.returns
returns c p op page =
    let replies = c.args.replies.now.items in
    let was = c.index_mut-reply.result.now in
    let below : c.args.nr < length replies =
    (let q = c.requires.there in let k = c.args.replies.now.ok in
    omega (arith, k.0)) in
    let at = at_index replies c.args.nr was below c.index_mut-reply.ensures.value in record {
      size = length-set replies c.args.nr _;
      others = λ k ne. get_else replies c.args.nr k _ ne;
      was = was;
      is = record { end = c.op_end-reply.result; sectors = c.keep_sectors.new.sectors };
      before = at;
      after = get_here replies c.args.nr _ was at;
      ends = c.op_end-reply.ensures;
      sectors = c.keep_sectors.ensures.got p op page;
      len = c.keep_sectors.ensures.len;
      room = c.keep_sectors.ensures.capacity;
    }
