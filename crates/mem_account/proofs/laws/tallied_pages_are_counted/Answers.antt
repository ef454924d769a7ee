use Rattle.mem_account.proofs.Tallied.{counted-tally}
use Rattle.mem_account.proofs.laws.tallied_pages_are_counted.Goals as goal

pub returns : goal.returns
returns c = counted-tally
