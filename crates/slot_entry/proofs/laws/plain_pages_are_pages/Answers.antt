use Rattle.slot_entry.proofs.Words.{zero_is, zero_filled, filled_is, filled_words}
use Rattle.slot_entry.proofs.laws.plain_pages_are_pages.Goals as goal

pub returns-clause-zero : goal.returns-clause-zero
returns-clause-zero c = zero_is

pub returns-clause-filled : goal.returns-clause-filled
returns-clause-filled c = filled_is

pub returns-clause-words : goal.returns-clause-words
returns-clause-words c = filled_words

pub returns-clause-same : goal.returns-clause-same
returns-clause-same c = zero_filled
