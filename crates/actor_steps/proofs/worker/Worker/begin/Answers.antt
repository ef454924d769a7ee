use Rattle.std.proofs.Common.{◌≡◌, None, Some, refl, sym}
use Rattle.actor_steps.specs.Workers.{terms_of}
use Rattle.actor_steps.proofs.Places.{there_is}
use Rattle.actor_steps.proofs.Turns.{begun_fit, begun_here}
use Rattle.actor_steps.proofs.worker.Worker.begin.Goals as goal

pub begun-requires : goal.begun-requires
begun-requires g c =
    record {
      some = c.requires.fit.1.some;
      requests = c.requires.fit.1.requests;
      few = c.requires.fit.1.few;
      more = c.requires.more;
      place = c.requires.fit.1.place;
      settled = (c.requires.fit.0, c.requires.fit.1.settled);
    }

pub returns : goal.returns
returns g c backed fit =
    let v = c.args.self.now in
    let ops = c.args.ops.now in
    let op = there_is ops v.place.nr c.requires.more in
    let t = terms_of c.args.size c.args.now v in
    let begins = c.begun.ensures op.0 op.1 in record {
      call = λ e. absurd (let q : None ≡ Some c.begun.result = sym e in cc);
      place = refl;
      table = refl;
      fit = begun_fit t backed ops v (sym c.requires.none) fit op.0 op.1 c.begun.new.fresh
          c.begun.result begins;
      same = begun_here t backed ops v (sym c.requires.none) fit op.0 op.1 c.begun.new.fresh
          c.begun.result begins;
      keeps = λ done keeps. record {
        ends = keeps.ends;
        sectors = keeps.sectors;
        count = keeps.count;
        carried = keeps.carried;
        later = keeps.later;
      };
    }
