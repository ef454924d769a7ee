use Rattle.std.proofs.Common.{arith}
use Rattle.std.proofs.lemmas.Grind.{get_or_default_zero}
use Rattle.bench_packing.proofs.tell_bytes.Goals as goal

pub returns : goal.returns
returns c = (
  c.requires,
  λ k d lt. (let fits = c.type_inv.bytes k in let e =
      get_or_default_zero c.args.bytes.now k d lt in omega (arith, fits, e)),
)
