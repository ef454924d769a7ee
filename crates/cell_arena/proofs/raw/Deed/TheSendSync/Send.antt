use denote.Param.Send.{IsSend}
use Rattle.std.proofs.Crossing.{frees}
use Rattle.cell_arena.specs.contracts.raw.Deed.{the_row}

pub send : IsSend the_row
send = record {
  owned = λ d vs. (
    (λ vss. (tt, (((λ us. (tt, (tt, ((tt, tt), ((λ ws. (tt, tt)), tt))))), frees.frees _ _ _), tt))),
    tt,
  );
  leaving = λ k x vs. (tt, tt);
}
