use Rattle.std.proofs.Common.{refl, arith}
use Rattle.lock_row.specs.declared.names.LockNo.TheVariants as lock
use Rattle.page_steps.specs.Steps.{slot}
use Rattle.device_faults.specs.OnePage.{away, fetching, failing, counting, missed, leaving}
use Rattle.device_faults.proofs.Rows.{in_disk}
use Rattle.device_faults.proofs.tests.is_ready.Goals as goal

pub is_out-requires : goal.is_out-requires
is_out-requires c = in_disk c.args.disk.now c.requires.disk lock.Device (omega arith)

pub is_out-requires-in-Counting : goal.is_out-requires-in-Counting
is_out-requires-in-Counting c = in_disk c.args.disk.now c.requires.disk lock.Account (omega arith)

pub is_out-requires-in-Missed : goal.is_out-requires-in-Missed
is_out-requires-in-Missed c = in_disk c.args.disk.now c.requires.disk (slot 0) (omega arith)

pub is_out-requires-in-Leaving : goal.is_out-requires-in-Leaving
is_out-requires-in-Leaving c = in_disk c.args.disk.now c.requires.disk (slot 0) (omega arith)

pub returns-in-Away : goal.returns-in-Away
returns-in-Away c = record {
  ready = λ t. away c.in-Away.field-0 c.in-Away.block c.in-Away.is (c.has_block.ensures t);
}

pub returns-in-Fetching : goal.returns-in-Fetching
returns-in-Fetching c = record {
  ready = λ t. fetching c.in-Fetching.field-0 c.in-Fetching.field-1 c.in-Fetching.field-2
      c.in-Fetching.is (c.is_out.ensures t);
}

pub returns-in-Failing : goal.returns-in-Failing
returns-in-Failing c = record {
  ready = λ t. failing c.in-Failing.field-0 c.in-Failing.field-1 c.in-Failing.is
      (c.has_account.ensures t);
}

pub returns-in-Counting : goal.returns-in-Counting
returns-in-Counting c = record {
  ready = λ t. counting c.in-Counting.field-0 c.in-Counting.field-1 c.in-Counting.field-2
      c.in-Counting.is (c.is_out-in-Counting.ensures t);
}

pub returns-in-Missed : goal.returns-in-Missed
returns-in-Missed c = record {
  ready = λ t. missed c.in-Missed.field-0 c.in-Missed.field-1 c.in-Missed.is
      (c.is_out-in-Missed.ensures t);
}

pub returns-in-Leaving : goal.returns-in-Leaving
returns-in-Leaving c = record {
  ready = λ t. leaving c.in-Leaving.field-0 c.in-Leaving.is (c.is_out-in-Leaving.ensures t);
}
