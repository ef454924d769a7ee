use Rattle.std.proofs.Common.{◌≡◌, ◌≤◌, Option, Some, None, sym, ap, ◌∙◌, arith}
use Rattle.std.specs.Option.{option_copied}
use Rattle.mem_account.specs.Counters.{Counters, no_counts}
use Rattle.page_steps.specs.Steps.{DiskHeld}
use Rattle.zr_core.specs.Rests.{account_in, account_of}
use Rattle.zr_core.proofs.Names.{names_some}
use Rattle.zr_core.proofs.Telling.{account_value}
use Rattle.zr_core.proofs.disk.World.account.Goals as goal
use Rattle.zr_core.proofs.disk.World.account.Goals.{After-value}

-- the account that has the limit alone
limit_alone : (o : _) (c : After-value o)
    → c.set_limit.new.self ≡ record no_counts { limit = c.args.self.now.limit }
limit_alone o c = c.set_limit.ensures.limit
    ∙ ap (λ (a : Counters). record a { limit = c.args.self.now.limit }) c.new-none.ensures.zeros

-- what the row has at the account's place
account_is : (o : _) (c : After-value o) (x : Option DiskHeld) → option_copied c.value.result ≡ x
    → account_of c.args.self.now.limit c.args.self.now.pages c.args.self.now.row.cells
    ≡ account_in (record no_counts { limit = c.args.self.now.limit }) x
account_is o c x e =
    let some : 1 ≤ c.args.self.now.pages = (let q = c.if-self-eq0.false in omega arith) in
    account_value c.names_have_places.ensures.there c.args.self.now.pages some c.args.self.now.row
    (c.args.self.now.names ∙ names_some c.args.self.now.pages some) x c.args.self.now.limit
    (sym e ∙ c.value.ensures)

pub returns-in-None : goal.returns-in-None
returns-in-None o c = let a = (goal.at.returns-in-None o c).After-value in
    limit_alone o a ∙ sym (account_is o a None (ap option_copied c.in-None.is))

pub returns-in-Some : goal.returns-in-Some
returns-in-Some o c = let a = (goal.at.returns-in-Some o c).After-value in
    c.account_in.ensures
    ∙ ap (λ (d : Counters). account_in d (Some c.in-Some.value.now)) (limit_alone o a)
    ∙ sym (account_is o a (Some c.in-Some.value.now) (ap option_copied c.in-Some.is))
