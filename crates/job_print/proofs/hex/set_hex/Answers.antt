use Rattle.std.proofs.Common.{◌++◌, ◌*◌, ap, ◌∙◌}
use Rattle.std.specs.List.{flat_map}
use Rattle.std.specs.Simd.Lanes.{chunk}
use Rattle.job_print.specs.Texts.{hex_byte}
use Rattle.job_print.proofs.Sixteen.{sixteen_more}
use Rattle.job_print.proofs.hex.set_hex.Goals as goal

pub loop-k-preserved : goal.loop-k-preserved
loop-k-preserved c = record {
  size = c.put_sixteen.ensures.size ∙ c.loop-k.invariant.size;
  so_far = sixteen_more c.loop-k.k c.put_sixteen.new.digits c.args.bytes.now
      (c.put_sixteen.ensures.put ∙ ap (λ ds. ds ++ flat_map hex_byte (chunk (16 * c.loop-k.k) 16 c.args.bytes.now))
      c.loop-k.invariant.so_far);
}
