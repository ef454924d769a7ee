use Rattle.std.proofs.Common.{length, sym, ap, ◌∙◌}
use Rattle.std.proofs.lemmas.List.{length-map}
use Rattle.lock_table.specs.Starts.{fresh_from}
use Rattle.bench_lock_table.specs.Made.{start_of}
use Rattle.bench_lock_table.proofs.Fours.{four_out, seat_is}
use Rattle.bench_lock_table.proofs.rows.make_by.Goals as goal

pub returns : goal.returns
returns g c =
    let values = c.args.values.items in
    let locks = c.args.locks.now in
    let start = start_of values locks in
    let row = c.in_ok-row.row in
    let can = c.requires.can in
    let all = c.in_ok-row.ensures.hands
    ∙ ap (λ s. fresh_from row.id s 0 s.locals) c.requires.start in
    let o = four_out c.in_ok-row.hands.list c.pop.new.self.list c.pop-2.new.self.list
    c.pop-3.new.self.list c.pop-4.new.self.list _ _ _ _ c.in-Some-pop-3.one c.in-Some-pop-2.two
    c.in-Some-pop.three c.in-Some.four all
    c.in-Some.ensures.hand c.in-Some-pop.ensures.hand c.in-Some-pop-2.ensures.hand
    c.in-Some-pop-3.ensures.hand in
    let named = c.in_ok-row.ensures.names in
    record {
      one = seat_is values row start 0 locks.one c.in-Some-pop-3.one can.one named o.1;
      two = seat_is values row start 1 locks.two c.in-Some-pop-2.two can.two named o.2;
      three = seat_is values row start 2 locks.three c.in-Some-pop.three can.three named o.3;
      four = seat_is values row start 3 locks.four c.in-Some.four can.four named o.4;
      empty = o.0;
      most = c.pop-4.ensures.most ∙ c.pop-3.ensures.most ∙ c.pop-2.ensures.most
          ∙ c.pop.ensures.most ∙ c.in_ok-row.ensures.most;
      locks_are = c.pop-4.ensures.locks ∙ c.pop-3.ensures.locks ∙ c.pop-2.ensures.locks
          ∙ c.pop.ensures.locks ∙ c.in_ok-row.ensures.locks
          ∙ sym (ap length named ∙ length-map values _);
    }
