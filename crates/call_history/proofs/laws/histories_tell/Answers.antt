use Rattle.call_history.proofs.Phases.{is_phase, stats_are}
use Rattle.call_history.proofs.laws.histories_tell.Goals as goal

pub returns-clause-phase : goal.returns-clause-phase
returns-clause-phase c form r actors finds dones orders k m some held agree told =
    is_phase form r actors finds dones orders m some held agree k told

pub returns-clause-account : goal.returns-clause-account
returns-clause-account c form r g dones orders k m told =
    stats_are form r g dones orders k m told
