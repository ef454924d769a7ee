-- Where the limits are kept item by item, they are kept in total.
use Rattle.std.proofs.Common.{◌≡◌, ℕ, ◌+◌, ◌≤◌, ◌&&◌, nat_le, List, [], ◌∷◌, refl, ◌∙◌, arith}
use Rattle.std.specs.Prelude.{sum_by}
use Rattle.std.proofs.lemmas.Bool.{and_parts, leb-true}
use Rattle.std.proofs.lemmas.List.Sums.{sum_by-cons}
use Rattle.zr_base.specs.declared.op.Op.{Op}
use Rattle.zr_base.specs.declared.limits.TheConstants.{MOST_OPERATIONS}
use Rattle.zr_base.specs.Pieces.{pages_of}
use Rattle.job_text.specs.declared.limits.TheConstants.{MOST_PHASES, MOST_PIECES, MOST_SCANNED, MOST_SECTORS_READ, MOST_TURNS}
use Rattle.job_text.specs.declared.job.Item.{Item}
use Rattle.job_text.specs.declared.job.Item.TheVariants as items
use Rattle.job_text.specs.Jobs.{Used, nothing_used, with_attr, with_phase, with_op, with_ops, with_actors, with_text, sectors_to_read, pages_to_scan, MayOperate, MayAct, MayFollow, IsJob}
use Rattle.job_text.specs.Totals.{phases_in, sum_in, scheduled_in, IsWithinLimits}
use Rattle.job_text.proofs.Scans.{job_scans}

-- what is used is within the limits, with so much more
record Fits (u : Used) (phases operations pieces sectors turns : ℕ) : Type 0 where
  phases_fit : u.phases + phases ≤ MOST_PHASES
  operations_fit : u.operations + operations ≤ MOST_OPERATIONS
  pieces_fit : u.pieces + pieces ≤ MOST_PIECES
  sectors_fit : u.sectors + sectors ≤ MOST_SECTORS_READ
  turns_fit : u.turns + turns ≤ MOST_TURNS

-- what operations add
pub record Adds (u v : Used) (operations pieces sectors : ℕ) : Type 0 where
  pub phases_stay : v.phases ≡ u.phases
  pub operations_grow : v.operations ≡ u.operations + operations
  pub pieces_grow : v.pieces ≡ u.pieces + pieces
  pub sectors_grow : v.sectors ≡ u.sectors + sectors
  pub turns_stay : v.turns ≡ u.turns

abbrev pub AddsOps : Used → Used → List Op → Type 0
AddsOps u v ops = Adds u v (sum_by (λ op. 1) ops) (sum_by pages_of ops) (sum_by sectors_to_read ops)

pub ops_add : (u : Used) (ops : List Op) → AddsOps u (with_ops u ops) ops
ops_add u [] = record {
  phases_stay = refl;
  operations_grow = omega arith;
  pieces_grow = omega arith;
  sectors_grow = omega arith;
  turns_stay = refl;
}
ops_add u (op ∷ ops) =
    let later = ops_add (with_op u op) ops in record {
      phases_stay = later.phases_stay;
      operations_grow = omega (arith, later.operations_grow, sum_by-cons (λ (op : Op). 1) op ops);
      pieces_grow = omega (arith, later.pieces_grow, sum_by-cons pages_of op ops);
      sectors_grow = omega (arith, later.sectors_grow, sum_by-cons sectors_to_read op ops);
      turns_stay = later.turns_stay;
    }

-- the sum of a number of each operation, over actors
abbrev pub over : (Op → ℕ) → List (List Op) → ℕ
over f actors = sum_by (λ ops. sum_by f ops) actors

pub over-cons : (f : Op → ℕ) (ops : List Op) (more : List (List Op))
    → over f (ops ∷ more) ≡ sum_by f ops + over f more
over-cons f ops more = sum_by-cons (λ (ops : List Op). sum_by f ops) ops more

pub actors_add : (u : Used) (actors : List (List Op))
    → Adds u (with_actors u actors) (over (λ op. 1) actors) (over pages_of actors)
    (over sectors_to_read actors)
actors_add u [] = record {
  phases_stay = refl;
  operations_grow = omega arith;
  pieces_grow = omega arith;
  sectors_grow = omega arith;
  turns_stay = refl;
}
actors_add u (ops ∷ more) =
    let now = ops_add u ops in
    let later = actors_add (with_ops u ops) more in record {
      phases_stay = later.phases_stay ∙ now.phases_stay;
      operations_grow =
          omega (arith, now.operations_grow, later.operations_grow, over-cons (λ op. 1) ops more);
      pieces_grow = omega (arith, now.pieces_grow, later.pieces_grow, over-cons pages_of ops more);
      sectors_grow =
          omega (arith, now.sectors_grow, later.sectors_grow, over-cons sectors_to_read ops more);
      turns_stay = later.turns_stay ∙ now.turns_stay;
    }

-- ---- within the limits so far

abbrev IsWithin : Used → Type 0
IsWithin u = Fits u 0 0 0 0 0

ops_within : (u : Used) (ops : List Op) → MayOperate u ops → IsWithin u → IsWithin (with_ops u ops)
ops_within u [] may is = is
ops_within u (op ∷ ops) may is =
    let operations = nat_le (u.operations + 1) MOST_OPERATIONS in
    let pieces = nat_le (u.pieces + pages_of op) MOST_PIECES in
    let sectors = nat_le (u.sectors + sectors_to_read op) MOST_SECTORS_READ in
    let scanned = nat_le (u.scanned + pages_to_scan u.pages op) MOST_SCANNED in
    let few = and_parts (operations && pieces && sectors) scanned may.1 in
    let left = and_parts (operations && pieces) sectors few.0 in
    let first = and_parts operations pieces left.0 in
    let o : u.operations + 1 ≤ MOST_OPERATIONS = leb-true _ _ first.0 in
    let p : u.pieces + pages_of op ≤ MOST_PIECES = leb-true _ _ first.1 in
    let s : u.sectors + sectors_to_read op ≤ MOST_SECTORS_READ = leb-true _ _ left.1 in
    ops_within (with_op u op) ops may.2 (record {
      phases_fit = is.phases_fit;
      operations_fit = omega (arith, o);
      pieces_fit = omega (arith, p);
      sectors_fit = omega (arith, s);
      turns_fit = is.turns_fit;
    })

actors_within : (u : Used) (actors : List (List Op)) → MayAct u actors → IsWithin u
    → IsWithin (with_actors u actors)
actors_within u [] may is = is
actors_within u (ops ∷ more) may is =
    actors_within (with_ops u ops) more may.1 (ops_within u ops may.0 is)

-- ---- the items

abbrev FitsAll : Used → List Item → Type 0
FitsAll u job =
    Fits u (sum_by phases_in job) (sum_by (sum_in (λ op. 1)) job) (sum_by (sum_in pages_of) job)
    (sum_by (sum_in sectors_to_read) job) (sum_by scheduled_in job)

-- an item, where those after it fit with what it adds
module _ (u v : Used) (item : Item) (more : List Item)
    (p : v.phases ≡ u.phases + phases_in item)
    (o : v.operations ≡ u.operations + sum_in (λ op. 1) item)
    (q : v.pieces ≡ u.pieces + sum_in pages_of item)
    (s : v.sectors ≡ u.sectors + sum_in sectors_to_read item)
    (t : v.turns ≡ u.turns + scheduled_in item) where
  with_first : FitsAll v more → FitsAll u (item ∷ more)
  with_first later = record {
    phases_fit = omega (arith, later.phases_fit, sum_by-cons phases_in item more);
    operations_fit =
        omega (arith, later.operations_fit, sum_by-cons (sum_in (λ (op : Op). 1)) item more);
    pieces_fit = omega (arith, later.pieces_fit, sum_by-cons (sum_in pages_of) item more);
    sectors_fit =
        omega (arith, later.sectors_fit, sum_by-cons (sum_in sectors_to_read) item more);
    turns_fit = omega (arith, later.turns_fit, sum_by-cons scheduled_in item more);
  }

items_fit : (u : Used) (job : List Item) → MayFollow u job → IsWithin u → FitsAll u job
items_fit u [] may is = is
items_fit u (items.Attr attr ∷ more) may is =
    with_first u (with_attr u attr) (items.Attr attr) more
    (omega arith) (omega arith) (omega arith) (omega arith) (omega arith)
    (items_fit (with_attr u attr) more may.2 (record {
      phases_fit = is.phases_fit;
      operations_fit = is.operations_fit;
      pieces_fit = is.pieces_fit;
      sectors_fit = is.sectors_fit;
      turns_fit = is.turns_fit;
    }))
items_fit u (items.Report report ∷ more) may is =
    with_first u u (items.Report report) more
    (omega arith) (omega arith) (omega arith) (omega arith) (omega arith)
    (items_fit u more may is)
items_fit u (items.Phase text ∷ more) may is =
    let started = with_phase u in
    let n : u.phases + 1 ≤ MOST_PHASES = leb-true _ _ may.0.phase_left in
    let kept = actors_within started text.actors may.0.may_act (record {
      phases_fit = omega (arith, n);
      operations_fit = is.operations_fit;
      pieces_fit = is.pieces_fit;
      sectors_fit = is.sectors_fit;
      turns_fit = is.turns_fit;
    }) in
    let added = actors_add started text.actors in
    let v = with_text u text.actors text.schedule in
    let turns : v.turns ≤ MOST_TURNS = leb-true _ _ may.0.turns_left in
    with_first u v (items.Phase text) more
    added.phases_stay added.operations_grow added.pieces_grow added.sectors_grow
    (omega (arith, added.turns_stay))
    (items_fit v more may.1 (record {
      phases_fit = kept.phases_fit;
      operations_fit = kept.operations_fit;
      pieces_fit = kept.pieces_fit;
      sectors_fit = kept.sectors_fit;
      turns_fit = omega (arith, turns);
    }))

pub job_fits : (bytes : List ℕ) (job : List Item) → IsJob bytes job → IsWithinLimits job
job_fits bytes job is =
    let all = items_fit nothing_used job is.lawful (record {
      phases_fit = omega arith;
      operations_fit = omega arith;
      pieces_fit = omega arith;
      sectors_fit = omega arith;
      turns_fit = omega arith;
    }) in record {
      phases = omega (arith, all.phases_fit);
      operations = omega (arith, all.operations_fit);
      pieces = omega (arith, all.pieces_fit);
      sectors = omega (arith, all.sectors_fit);
      scanned = job_scans job is.lawful;
      turns = omega (arith, all.turns_fit);
    }
