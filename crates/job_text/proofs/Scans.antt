-- Where the limit on pages to scan is kept operation by operation, it is kept in total.
use Rattle.std.proofs.Common.{◌≡◌, ℕ, ◌+◌, ◌≤◌, ◌&&◌, nat_le, cond, List, [], ◌∷◌, refl, sym, ap, ◌∙◌, arith}
use Rattle.std.specs.Prelude.{sum_by}
use Rattle.std.proofs.lemmas.Bool.{and_parts, leb-true}
use Rattle.std.proofs.lemmas.List.Sums.{sum_by-cons}
use Rattle.zr_base.specs.declared.op.Op.{Op}
use Rattle.zr_base.specs.declared.limits.TheConstants.{MOST_OPERATIONS}
use Rattle.zr_base.specs.Pieces.{pages_of}
use Rattle.job_text.specs.declared.limits.TheConstants.{MOST_PIECES, MOST_SCANNED, MOST_SECTORS_READ}
use Rattle.job_text.specs.declared.job.Attr.{Attr}
use Rattle.job_text.specs.declared.job.Attr.TheVariants.{DiskPages, LimitPages, Backing, WritebackLimit, WritebackLimitEnable, Clock, LowerMax}
use Rattle.job_text.specs.declared.job.Item.{Item}
use Rattle.job_text.specs.declared.job.Item.TheVariants as items
use Rattle.job_text.specs.Jobs.{Used, nothing_used, with_attr, with_phase, with_op, with_ops, with_actors, with_text, sectors_to_read, pages_to_scan, MayOperate, MayAct, HasDisk, MayFollow}
use Rattle.job_text.specs.Totals.{sum_in, disk_pages}

-- ---- the operations of a phase

-- what operations leave as it was, and the pages that they scan
record Scans (u v : Used) (more : ℕ) : Type 0 where
  disk_stays : v.disk ≡ u.disk
  pages_stay : v.pages ≡ u.pages
  scanned_grow : v.scanned ≡ u.scanned + more
  fits : u.scanned ≤ MOST_SCANNED → v.scanned ≤ MOST_SCANNED

ops_scan : (u : Used) (ops : List Op) → MayOperate u ops
    → Scans u (with_ops u ops) (sum_by (pages_to_scan u.pages) ops)
ops_scan u [] may = record {
  disk_stays = refl;
  pages_stay = refl;
  scanned_grow = omega arith;
  fits = λ few. few;
}
ops_scan u (op ∷ ops) may =
    let operations = nat_le (u.operations + 1) MOST_OPERATIONS in
    let pieces = nat_le (u.pieces + pages_of op) MOST_PIECES in
    let sectors = nat_le (u.sectors + sectors_to_read op) MOST_SECTORS_READ in
    let scanned = nat_le (u.scanned + pages_to_scan u.pages op) MOST_SCANNED in
    let few = and_parts (operations && pieces && sectors) scanned may.1 in
    let now : u.scanned + pages_to_scan u.pages op ≤ MOST_SCANNED = leb-true _ _ few.1 in
    let later = ops_scan (with_op u op) ops may.2 in record {
      disk_stays = later.disk_stays;
      pages_stay = later.pages_stay;
      scanned_grow =
          omega (arith, later.scanned_grow, sum_by-cons (pages_to_scan u.pages) op ops);
      fits = λ all. later.fits now;
    }

-- the pages that the operations of all actors scan
abbrev over : ℕ → List (List Op) → ℕ
over pages actors = sum_by (λ ops. sum_by (pages_to_scan pages) ops) actors

actors_scan : (u : Used) (actors : List (List Op)) → MayAct u actors
    → Scans u (with_actors u actors) (over u.pages actors)
actors_scan u [] may = record {
  disk_stays = refl;
  pages_stay = refl;
  scanned_grow = omega arith;
  fits = λ few. few;
}
actors_scan u (ops ∷ more) may =
    let now = ops_scan u ops may.0 in
    let later = actors_scan (with_ops u ops) more may.1 in
    let same = ap (λ n. over n more) now.pages_stay in record {
      disk_stays = later.disk_stays ∙ now.disk_stays;
      pages_stay = later.pages_stay ∙ now.pages_stay;
      scanned_grow = omega (
        arith,
        now.scanned_grow,
        later.scanned_grow,
        same,
        sum_by-cons (λ (ops : List Op). sum_by (pages_to_scan u.pages) ops) ops more,
      );
      fits = λ few. later.fits (now.fits few);
    }

-- ---- the items

-- the pages of the disk of a job, after what was counted
abbrev size_from : Used → List Item → ℕ
size_from u job = cond u.disk u.pages (disk_pages job)

-- the pages that the items scan on a disk of so many
abbrev scanned_by : ℕ → List Item → ℕ
scanned_by pages job = sum_by (sum_in (pages_to_scan pages)) job

attr_keeps : (u : Used) (attr : Attr) (more : List Item)
    → size_from (with_attr u attr) more ≡ size_from u (items.Attr attr ∷ more)
attr_keeps u (DiskPages pages) more = refl
attr_keeps u (LimitPages pages) more = refl
attr_keeps u (Backing blocks) more = refl
attr_keeps u (WritebackLimit units) more = refl
attr_keeps u (WritebackLimitEnable on) more = refl
attr_keeps u (Clock seconds) more = refl
attr_keeps u LowerMax more = refl

-- the operations of a phase scan the pages of the job's disk
phase_scans : (u : Used) (actors : List (List Op)) (pages : ℕ) → HasDisk u actors
    → over u.pages actors ≡ over (cond u.disk u.pages pages) actors
phase_scans u [] pages has = refl
phase_scans u (ops ∷ more) pages has =
    ap (λ b. over (cond b u.pages pages) (ops ∷ more)) (sym has)

-- the items scan so many pages that the limit is kept
items_scan : (u : Used) (job : List Item) → MayFollow u job → u.scanned ≤ MOST_SCANNED
    → u.scanned + scanned_by (size_from u job) job ≤ MOST_SCANNED
items_scan u [] may few = omega arith
items_scan u (items.Attr attr ∷ more) may few =
    let size = size_from u (items.Attr attr ∷ more) in
    let later = items_scan (with_attr u attr) more may.2 few in
    let same = ap (λ n. scanned_by n more) (attr_keeps u attr more) in
    omega (arith, later, same, sum_by-cons (sum_in (pages_to_scan size)) (items.Attr attr) more)
items_scan u (items.Report report ∷ more) may few =
    let size = size_from u (items.Report report ∷ more) in
    let later = items_scan u more may few in
    omega (arith, later, sum_by-cons (sum_in (pages_to_scan size)) (items.Report report) more)
items_scan u (items.Phase text ∷ more) may few =
    let size = size_from u (items.Phase text ∷ more) in
    let v = with_text u text.actors text.schedule in
    let now = actors_scan (with_phase u) text.actors may.0.may_act in
    let later = items_scan v more may.1 (now.fits few) in
    let kept : size_from v more ≡ size =
    ap (λ b. cond b v.pages (disk_pages more)) now.disk_stays
    ∙ ap (λ n. cond u.disk n (disk_pages more)) now.pages_stay in
    let same = ap (λ n. scanned_by n more) kept in
    let by_size = phase_scans u text.actors (disk_pages more) may.0.has_disk in
    omega (
      arith,
      later,
      same,
      now.scanned_grow,
      by_size,
      sum_by-cons (sum_in (pages_to_scan size)) (items.Phase text) more,
    )

pub job_scans : (job : List Item) → MayFollow nothing_used job
    → scanned_by (disk_pages job) job ≤ MOST_SCANNED
job_scans job may = let all = items_scan nothing_used job may (omega arith) in omega (arith, all)
