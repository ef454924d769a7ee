use Rattle.page_steps.proofs.Pooled.{lends, place_there}
use Rattle.page_steps.proofs.pins.pin_object.Goals as goal

pub returns-clause-lends : goal.returns-clause-lends
returns-clause-lends c =
    let p = c.args.pool.now in
    lends p c.pin.new.self c.args.object.handle.0 c.pin.result c.pin.ensures.cell c.pin.ensures.pool

pub returns-clause-read : goal.returns-clause-read
returns-clause-read c =
    let p = c.args.pool.now in
    let o = c.args.object in
    let l = lends p c.pin.new.self o.handle.0 c.pin.result c.pin.ensures.cell c.pin.ensures.pool in
    record {
      bytes = l.object.bytes;
      stored = l.stored;
      kept = c.requires.kept l.object (place_there p o.handle.0 l.id l.ix l.cells l.object l.place)
          l.place.handle_is;
    }
