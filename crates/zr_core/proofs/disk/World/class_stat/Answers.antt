use Rattle.std.proofs.Common.{◌≡◌, ◌≤◌, Option, Some, None, sym, ap, ◌∙◌, arith}
use Rattle.std.specs.Option.{option_copied}
use Rattle.page_steps.specs.Steps.{DiskHeld}
use Rattle.zr_core.specs.Rests.{pool_in, pool_of}
use Rattle.zr_core.specs.Stats.{zspages_of}
use Rattle.zr_core.proofs.Names.{names_some}
use Rattle.zr_core.proofs.Telling.{pool_value}
use Rattle.zr_core.proofs.disk.World.class_stat.Goals as goal
use Rattle.zr_core.proofs.disk.World.class_stat.Goals.{After-value}

-- what the row has at the class's place
pool_is : (o : _) (c : After-value o) (x : Option DiskHeld) → option_copied c.value.result ≡ x
    → pool_of c.args.self.now.pages c.args.self.now.row.cells c.args.class ≡ pool_in x
pool_is o c x e =
    let some : 1 ≤ c.args.self.now.pages = (let q = c.if-self-eq0.false in omega arith) in
    pool_value c.names_have_places.ensures.there c.args.self.now.pages some c.args.self.now.row
    (c.args.self.now.names ∙ names_some c.args.self.now.pages some) x c.args.class
    (let q = c.if-class-eq-CLASSES.false in let f = c.ranges.class.fits in omega arith)
    (sym e ∙ c.value.ensures)

pub returns-in_default-clause-none : goal.returns-in_default-clause-none
returns-in_default-clause-none o c = ap zspages_of
    (pool_is o (goal.at.returns-in_default-clause-none o c).After-value None
    (ap option_copied c.in_default.is))

pub returns-in_default-pool_in-clause-none : goal.returns-in_default-pool_in-clause-none
returns-in_default-pool_in-clause-none o c =
    let a = (goal.at.returns-in_default-pool_in-clause-none o c).After-value in
    ap zspages_of (pool_is o a (Some c.in-Some.value.now) (ap option_copied c.in-Some.is)
    ∙ sym c.pool_in.ensures ∙ ap option_copied c.in_default-pool_in.is)

pub returns-then-stat-eq0-clause-none : goal.returns-then-stat-eq0-clause-none
returns-then-stat-eq0-clause-none o c =
    let a = (goal.at.returns-then-stat-eq0-clause-none o c).After-value in
    ap zspages_of (pool_is o a (Some c.in-Some.value.now) (ap option_copied c.in-Some.is)
    ∙ sym c.pool_in.ensures ∙ ap option_copied c.in-Some-pool_in.is)
    ∙ sym c.stat-stat.ensures.zspages ∙ c.if-stat-eq0.true

pub returns-clause-some : goal.returns-clause-some
returns-clause-some o c = let a = (goal.at.returns-clause-some o c).After-value in record {
  pool = c.in-Some-pool_in.pool.now;
  there = pool_is o a (Some c.in-Some.value.now) (ap option_copied c.in-Some.is)
      ∙ sym c.pool_in.ensures ∙ ap option_copied c.in-Some-pool_in.is;
  stat = record {
    class = c.stat-stat.ensures.class;
    size = c.stat-stat.ensures.size;
    chain = c.stat-stat.ensures.chain;
    per = c.stat-stat.ensures.per;
    used = c.stat-stat.ensures.used;
    zspages = c.stat-stat.ensures.zspages;
    groups = c.stat-stat.ensures.groups;
  };
  some = let q = c.if-stat-eq0.false in omega arith;
}
