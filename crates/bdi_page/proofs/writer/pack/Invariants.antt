-- The pairs before j are packed.
use Rattle.std.proofs.Common.{◌≡◌, ℕ, ◌+◌, ◌*◌, ◌≤◌, List, length, take, drop}
use Rattle.bdi_page.specs.Packing.{lines_of, codes_of, payloads_of}
use Rattle.bdi_page.proofs.writer.pack.Given as goal

pub record IsPackedTo (page codes items : List ℕ) (j : ℕ) : Type 0 where
  pub size : length page ≡ 4096
  pub from : 32 ≤ length items
  pub most : length items ≤ 32 + 128 * j
  pub long : length codes ≡ 32
  pub front : take j codes ≡ codes_of (lines_of j page)
  pub back : drop 32 items ≡ payloads_of (lines_of j page)

abbrev pub invariant-loop-j : goal.invariant-loop-j
invariant-loop-j l = IsPackedTo l.bytes l.codes l.out.items l.j
