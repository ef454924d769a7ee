-- An account's fields as counters, and back.
use Rattle.mem_account.specs.Counters.{Counters}
use Rattle.mem_account.specs.declared.account.Account.TheInside.{Inside}

-- the counters that an account's fields stand for
abbrev pub counters_of : Inside → Counters
counters_of a = record {
  pages = a.pages;
  limit = a.limit;
  most = a.most;
  same = a.same;
  packed = a.packed;
  packed_bytes = a.packed_bytes;
  huge = a.huge;
  back = a.back;
  huge_since = a.huge_since;
  compacted = a.compacted;
  failed_reads = a.failed_reads;
  failed_writes = a.failed_writes;
  invalid_io = a.invalid_io;
  notify_free = a.notify_free;
}

-- the fields of these counters
abbrev pub account_of : Counters → Inside
account_of c = record {
  pages = c.pages;
  limit = c.limit;
  most = c.most;
  same = c.same;
  packed = c.packed;
  packed_bytes = c.packed_bytes;
  huge = c.huge;
  back = c.back;
  huge_since = c.huge_since;
  compacted = c.compacted;
  failed_reads = c.failed_reads;
  failed_writes = c.failed_writes;
  invalid_io = c.invalid_io;
  notify_free = c.notify_free;
}
