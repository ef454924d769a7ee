use Rattle.slot_entry.proofs.Options.{first_whole}
use Rattle.slot_entry.proofs.form.whole.Goals as goal

pub returns-clause-some : goal.returns-clause-some
returns-clause-some c =
    first_whole c.first_chunk.result c.args.bytes.now 4096 c.if-bytes-ne4096.false
    c.first_chunk.ensures.cases
