use Rattle.std.proofs.Common.{◌≡◌, ap, ◌∙◌, arith}
use Rattle.bench_lock_table.specs.Names.{names_to}
use Rattle.bench_lock_table.proofs.Naming.{stand, are_own}
use Rattle.bench_lock_table.proofs.values.new_values.Goals as goal

pub returns : goal.returns
returns c locks among =
    let values = c.loop-page.values.items in
    let named = c.loop-page.invariant.names in
    let whole = named ∙ ap names_to
    (let t = c.loop-page-test.false in
    let q : c.loop-page.page ≡ c.args.slots = omega (arith, c.loop-page.auto.page-end) in q) in
    record {
      some = (let n = c.loop-page.values.ok in let l = c.loop-page.invariant.len in
          omega (arith, n.0));
      placed = stand values c.loop-page.page named;
      one = are_own values c.args.slots whole locks.one among.0;
      two = are_own values c.args.slots whole locks.two among.1;
      three = are_own values c.args.slots whole locks.three among.2;
      four = are_own values c.args.slots whole locks.four among.3;
    }
