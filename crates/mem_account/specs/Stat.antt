-- The statistics as fields of zram's `mm_stat` and `io_stat`.
use Rattle.std.specs.Prelude.{◌*◌}
use Rattle.mem_account.specs.Counters.{Counters, original_size, packed_size}
use Rattle.mem_account.specs.declared.account.MmStat.{MmStat}
use Rattle.mem_account.specs.declared.account.IoStat.{IoStat}

-- sizes in bytes, at 4096 bytes a frame or a page; the other fields in pages
abbrev pub mm_stat_of : Counters → MmStat
mm_stat_of c = record {
  orig = original_size c;
  compr = packed_size c;
  used = 4096 * c.pages;
  limit = 4096 * c.limit;
  max = 4096 * c.most;
  same = c.same;
  compacted = c.compacted;
  huge = c.huge;
  huge_since = c.huge_since;
}

-- the four counts of what failed, was refused or was discarded
abbrev pub io_stat_of : Counters → IoStat
io_stat_of c = record {
  failed_reads = c.failed_reads;
  failed_writes = c.failed_writes;
  invalid_io = c.invalid_io;
  notify_free = c.notify_free;
}
