use Rattle.std.proofs.Common.{◌≤◌, refl, arith}
use Rattle.zr_core.proofs.Telling.{account_home, no_account, put_back, put_as, put_rests}
use Rattle.zr_core.proofs.disk.World.lower_max.Goals as goal

-- a disk without pages

pub returns-then-self-eq0-clause-cells : goal.returns-then-self-eq0-clause-cells
returns-then-self-eq0-clause-cells o c counters at =
    absurd (no_account c.args.self.now.pages c.args.self.now.noted.items c.args.self.now.row.cells
    c.requires.rest c.if-self-eq0.true counters at)

pub returns-then-self-eq0-clause-rests_as : goal.returns-then-self-eq0-clause-rests_as
returns-then-self-eq0-clause-rests_as o c g rests =
    absurd (let a = rests.some in let b = c.if-self-eq0.true in let none : ⊥ = omega arith in none)

-- one with pages

pub put_account-requires-clause-home : goal.put_account-requires-clause-home
put_account-requires-clause-home o c =
    account_home c.args.self.now.pages c.args.self.now.noted.items c.args.self.now.row.cells
    c.requires.rest (let b = c.if-self-eq0.false in omega arith)

pub returns-clause-cells : goal.returns-clause-cells
returns-clause-cells o c counters at =
    put_back
    c.args.self.now.pages c.args.self.now.noted.items c.args.self.now.row.cells c.requires.rest
    (let b = c.if-self-eq0.false in omega arith) (λ d. record d { most = d.pages }) (λ d. refl)
    (λ d le. let same : d.pages ≤ d.pages = omega arith in same) c.phases_go_on.ensures.next c.args.self.now.limit
    c.account-account.result c.lower_max.new.self c.put_account.new.row.cells
    c.account-account.ensures c.lower_max.ensures.most c.put_account.ensures.cells counters at

pub returns-clause-rest : goal.returns-clause-rest
returns-clause-rest o c =
    put_rests
    c.args.self.now.pages c.args.self.now.noted.items c.args.self.now.row.cells c.requires.rest
    (let b = c.if-self-eq0.false in omega arith) (λ d. record d { most = d.pages }) (λ d. refl)
    (λ d le. let same : d.pages ≤ d.pages = omega arith in same) c.phases_go_on.ensures.next c.args.self.now.limit
    c.account-account.result c.lower_max.new.self c.put_account.new.row.cells
    c.account-account.ensures c.lower_max.ensures.most c.put_account.ensures.cells

pub returns-clause-rests_as : goal.returns-clause-rests_as
returns-clause-rests_as o c =
    put_as
    c.args.self.now.pages c.args.self.now.noted.items c.args.self.now.row.cells c.requires.rest
    (let b = c.if-self-eq0.false in omega arith) (λ d. record d { most = d.pages }) (λ d. refl)
    (λ d le. let same : d.pages ≤ d.pages = omega arith in same) c.phases_go_on.ensures.next c.args.self.now.limit
    c.account-account.result c.lower_max.new.self c.put_account.new.row.cells
    c.account-account.ensures c.lower_max.ensures.most c.put_account.ensures.cells
