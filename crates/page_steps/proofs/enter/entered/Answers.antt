use Rattle.page_steps.proofs.Formed.{entered_as, entered_reads, entered_discards}
use Rattle.page_steps.proofs.enter.entered.Goals as goal

pub returns-in-Reads : goal.returns-in-Reads
returns-in-Reads g c =
    let a = c.args in
    entered_as c.entered_read.ensures.is
    (entered_reads a.head a.scratch.now a.entry c.in-Reads.is c.requires.piece c.requires.within
    c.requires.place)

pub returns-in-Discards : goal.returns-in-Discards
returns-in-Discards g c =
    let a = c.args in
    entered_as c.entered_discard.ensures.is
    (entered_discards a.head a.scratch.now a.entry c.in-Discards.is c.requires.piece c.requires.within
    c.requires.place)
