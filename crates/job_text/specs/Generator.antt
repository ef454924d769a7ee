-- The job that the generator makes.
use Rattle.std.specs.Prelude.{ℕ, zero, suc, ◌+◌, ◌*◌, ◌/◌, ◌%◌, ◌==◌, List, [], ◌∷◌, ◌++◌, Option, Some, None, if◌then◌else◌}
use Rattle.zr_base.specs.declared.op.Op.{Op}
use Rattle.zr_base.specs.declared.op.Op.TheVariants.{Write, Read, Writeback, Compact}
use Rattle.zr_base.specs.declared.op.Mode.TheVariants.{Huge}
use Rattle.zr_base.specs.declared.op.Stuff.{Stuff}
use Rattle.zr_base.specs.declared.op.Stuff.TheVariants.{Fill, Seq}
use Rattle.job_text.specs.declared.job.Attr.TheVariants.{Backing, DiskPages}
use Rattle.job_text.specs.declared.job.Report.TheVariants.{MmStat, IoStat, BdStat}
use Rattle.job_text.specs.declared.job.Item.{Item}
use Rattle.job_text.specs.declared.job.Item.TheVariants as items

-- what the pages of a kind are written with: one word, the seed; words by 1; words that no code fits;
-- words by 2^24
abbrev pub stuff_of : ℕ → ℕ → Stuff
stuff_of seed kind =
    if kind == 0 then Fill seed
    else if kind == 1 then Seq 1000000 1
    else if kind == 2 then Seq 0 11400714819323198485
    else Seq 1000000 16777216

-- the kind of a page, by the seed
abbrev pub kind_of : ℕ → ℕ → ℕ
kind_of seed page = (page + seed % 4) % 4

-- the whole page is written, where a seed is given, or else read
abbrev pub op_of : Option ℕ → ℕ → Op
op_of (Some seed) page = Write (8 * page) 8 (stuff_of seed (kind_of seed page))
op_of None page = Read (8 * page) 8

-- the operations of an actor on its pages, of so many, in rising order: each four pages in a row are
-- one actor's, by turns
abbrev pub ops_of : Option ℕ → ℕ → ℕ → List Op
ops_of seed actor zero = []
ops_of seed actor (suc page) = ops_of seed actor page
    ++ (if page / 4 % 4 == actor then op_of seed page ∷ [] else [])

-- those of four actors
abbrev pub actors_of : Option ℕ → ℕ → List (List Op)
actors_of seed pages = ops_of seed 0 pages ∷ ops_of seed 1 pages ∷ ops_of seed 2 pages
    ∷ ops_of seed 3 pages ∷ []

-- a phase of four actors that go through the pages
abbrev pub pages_phase : Option ℕ → ℕ → Item
pages_phase seed pages = items.Phase (record { actors = actors_of seed pages; schedule = [] })

-- a phase of one actor that writes the huge pages back and compacts the pools
abbrev pub upkeep_phase : Item
upkeep_phase = items.Phase (record {
  actors = (Writeback Huge ∷ Compact ∷ []) ∷ [];
  schedule = [];
})

-- the items of the job
abbrev pub generated : ℕ → ℕ → List Item
generated pages seed = items.Attr (Backing 4096) ∷ items.Attr (DiskPages pages)
    ∷ pages_phase (Some seed) pages ∷ upkeep_phase ∷ pages_phase None pages
    ∷ items.Report MmStat ∷ items.Report IoStat ∷ items.Report BdStat ∷ []
