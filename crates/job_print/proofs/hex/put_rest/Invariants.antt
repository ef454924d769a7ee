use Rattle.std.proofs.Common.{◌≡◌, ◌*◌, length}
use Rattle.std.specs.Prelude.{take}
use Rattle.std.specs.List.{flat_map}
use Rattle.job_print.specs.Texts.{hex_byte}
use Rattle.job_print.proofs.hex.put_rest.Given as goal

abbrev pub invariant-loop-k : goal.invariant-loop-k
invariant-loop-k l = record {
  size : length l.digits ≡ 2 * length l.bytes;
  so_far : take (2 * l.k) l.digits ≡ flat_map hex_byte (take l.k l.bytes);
}
