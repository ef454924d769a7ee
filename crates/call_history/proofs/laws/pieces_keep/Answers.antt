use Rattle.call_history.proofs.Grown.{page_here, page_still}
use Rattle.call_history.proofs.laws.pieces_keep.Goals as goal

pub returns-clause-here : goal.returns-clause-here
returns-clause-here c g D D' a d p page seen order page' order' grown is stands work named_p sees
    got sh =
    page_here g D D' a d grown p page seen order page' order' is stands work named_p sees got sh

pub returns-clause-elsewhere : goal.returns-clause-elsewhere
returns-clause-elsewhere c g D D' a d p page order grown off sh =
    page_still g D D' a d grown p page order off sh
