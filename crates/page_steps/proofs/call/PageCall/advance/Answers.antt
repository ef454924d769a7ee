use Rattle.std.proofs.Common.{◌&&◌, not, ◌∙◌}
use Rattle.std.specs.Prelude.{◌||◌}
use Rattle.page_steps.proofs.DeviceReads.{fetched_is}
use Rattle.page_steps.proofs.call.PageCall.advance.Goals as goal

pub returns-clause-read : goal.returns-clause-read
returns-clause-read g c =
    let was = c.args.self.now.fetched in
    c.has_read-self.ensures
    ∙ (λ i. was || (c.is_fetching-fetches.ensures i && not (c.is_failing.ensures i)))
    ∙ fetched_is was c.args.self.now.stage c.step-progress.new.at
