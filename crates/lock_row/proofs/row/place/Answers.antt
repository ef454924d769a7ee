use Rattle.lock_row.proofs.Places.{placed}
use Rattle.lock_row.proofs.row.place.Goals as goal

pub returns : goal.returns
returns c = placed c.args.names.now c.args.lock c.find.result c.requires c.find.ensures.found
    c.find.ensures.none
