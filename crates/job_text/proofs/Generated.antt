-- The generator's job is lawful.
use Rattle.std.proofs.Common.{◌≡◌, ℕ, ◌+◌, ◌*◌, ◌<◌, ◌≤◌, ◌&&◌, nat_le, true, List, [], ◌∷◌, Option, Some, None, refl, ◌∙◌, arith}
use Rattle.std.proofs.lemmas.Bool.{le-leb}
use Rattle.zr_base.specs.declared.op.Op.{Op}
use Rattle.zr_base.specs.declared.op.Op.TheVariants.{Writeback, Compact}
use Rattle.zr_base.specs.declared.op.Mode.TheVariants.{Huge}
use Rattle.zr_base.specs.declared.limits.TheConstants.{MOST_OPERATIONS}
use Rattle.job_text.specs.declared.limits.TheConstants.{MOST_PIECES, MOST_SCANNED, MOST_SECTORS_READ, MOST_GENERATED}
use Rattle.job_text.specs.declared.job.Attr.TheVariants.{Backing, DiskPages}
use Rattle.job_text.specs.Jobs.{Used, nothing_used, with_attr, with_phase, with_text, sectors_to_read, MayRun, MayFollow}
use Rattle.job_text.specs.Generator.{actors_of, generated}
use Rattle.job_text.proofs.Totals.{over, actors_add}
use Rattle.job_text.proofs.Rooms.{may_act, actors_stay, actors_still, count_made, pieces_made, sectors_written, sectors_read}

-- so much is used after some items of the job
record At (u : Used) (pages phases operations pieces sectors scanned : ℕ) : Type 0 where
  disk_is : u.disk ≡ true
  pages_are : u.pages ≡ pages
  phases_are : u.phases ≡ phases
  operations_are : u.operations ≡ operations
  pieces_are : u.pieces ≡ pieces
  sectors_are : u.sectors ≡ sectors
  scanned_are : u.scanned ≡ scanned
  no_turns : u.turns ≡ 0

-- a phase that goes through the pages, and reads so many sectors
module _ (u : Used) (seed : Option ℕ) (pages phases operations pieces sectors scanned more : ℕ)
    (at : At u pages phases operations pieces sectors scanned) (most : pages ≤ MOST_GENERATED)
    (reads : over sectors_to_read (actors_of seed pages) ≡ more) where
  runs : phases < 3 → operations ≤ 20000 → pieces ≤ 20000 → sectors ≡ 0 → scanned ≤ pages
      → more ≤ 8 * pages → MayRun u (actors_of seed pages) []
  runs few ops ps none scans short =
      let made = actors_add (with_phase u) (actors_of seed pages) in record {
        phase_left = le-leb _ _ (omega (arith, few, at.phases_are));
        few_actors = omega arith;
        has_disk = at.disk_is;
        may_act = may_act (with_phase u) (actors_of seed pages) (actors_still seed pages most)
            (record {
              operations_left = omega (arith, count_made seed pages, at.operations_are, ops, most);
              pieces_left = omega (arith, pieces_made seed pages, at.pieces_are, ps, most);
              sectors_left = omega (arith, reads, short, at.sectors_are, none, most);
              scanned_left = omega (arith, at.scanned_are, scans, most);
            });
        may_turn = tt;
        turns_left = le-leb _ _ (omega (arith, made.turns_stay, at.no_turns));
      }

  after : At (with_text u (actors_of seed pages) []) pages (phases + 1) (operations + pages)
      (pieces + pages) (sectors + more) scanned
  after =
      let made = actors_add (with_phase u) (actors_of seed pages) in
      let stays = actors_stay (with_phase u) (actors_of seed pages) (actors_still seed pages most) in
      record {
        disk_is = stays.disk_stays ∙ at.disk_is;
        pages_are = stays.pages_stay ∙ at.pages_are;
        phases_are = omega (arith, made.phases_stay, at.phases_are);
        operations_are =
            omega (arith, made.operations_grow, count_made seed pages, at.operations_are);
        pieces_are = omega (arith, made.pieces_grow, pieces_made seed pages, at.pieces_are);
        sectors_are = omega (arith, made.sectors_grow, reads, at.sectors_are);
        scanned_are = stays.scanned_stay ∙ at.scanned_are;
        no_turns = omega (arith, made.turns_stay, at.no_turns);
      }

-- the phase of one actor that writes back and compacts
abbrev upkeep : List (List Op)
upkeep = (Writeback Huge ∷ Compact ∷ []) ∷ []

left : (o p s n : ℕ) → o ≤ MOST_OPERATIONS → p ≤ MOST_PIECES → s ≤ MOST_SECTORS_READ
    → n ≤ MOST_SCANNED
    → (nat_le o MOST_OPERATIONS && nat_le p MOST_PIECES && nat_le s MOST_SECTORS_READ
    && nat_le n MOST_SCANNED) ≡ true
left o p s n a b c d =
    let e : nat_le o MOST_OPERATIONS ≡ true = le-leb _ _ a in
    let f : nat_le p MOST_PIECES ≡ true = le-leb _ _ b in
    let g : nat_le s MOST_SECTORS_READ ≡ true = le-leb _ _ c in
    let h : nat_le n MOST_SCANNED ≡ true = le-leb _ _ d in cc

module _ (u : Used) (pages : ℕ) (most : pages ≤ MOST_GENERATED) (at : At u pages 1 pages pages 0 0)
  where
    upkeep_runs : MayRun u upkeep []
    upkeep_runs = record {
      phase_left = le-leb _ _ (omega (arith, at.phases_are));
      few_actors = omega arith;
      has_disk = at.disk_is;
      may_act = (
        (
          tt,
          left (u.operations + 1) (u.pieces + 0) (u.sectors + 0) (u.scanned + u.pages)
              (omega (arith, at.operations_are, most)) (omega (arith, at.pieces_are, most))
              (omega (arith, at.sectors_are)) (omega (arith, at.scanned_are, at.pages_are, most)),
          (
            tt,
            left (u.operations + 1 + 1) (u.pieces + 0 + 0) (u.sectors + 0 + 0)
                (u.scanned + u.pages + 0)
                (omega (arith, at.operations_are, most)) (omega (arith, at.pieces_are, most))
                (omega (arith, at.sectors_are)) (omega (arith, at.scanned_are, at.pages_are, most)),
            tt,
          ),
        ),
        tt,
      );
      may_turn = tt;
      turns_left = le-leb _ _ (omega (arith, at.no_turns));
    }

    after_upkeep : At (with_text u upkeep []) pages 2 (pages + 2) pages 0 pages
    after_upkeep = record {
      disk_is = at.disk_is;
      pages_are = at.pages_are;
      phases_are = omega (arith, at.phases_are);
      operations_are = omega (arith, at.operations_are);
      pieces_are = omega (arith, at.pieces_are);
      sectors_are = omega (arith, at.sectors_are);
      scanned_are = omega (arith, at.scanned_are, at.pages_are);
      no_turns = omega (arith, at.no_turns);
    }

-- after the attributes of the job
abbrev begun_with : ℕ → Used
begun_with pages = with_attr (with_attr nothing_used (Backing 4096)) (DiskPages pages)

begins : (pages : ℕ) → At (begun_with pages) pages 0 0 0 0 0
begins pages = record {
  disk_is = refl;
  pages_are = refl;
  phases_are = refl;
  operations_are = refl;
  pieces_are = refl;
  sectors_are = refl;
  scanned_are = refl;
  no_turns = refl;
}

pub generated_follows : (pages seed : ℕ) → 1 ≤ pages → pages ≤ MOST_GENERATED
    → MayFollow nothing_used (generated pages seed)
generated_follows pages seed some most =
    let u = begun_with pages in
    let at = begins pages in
    let written = sectors_written seed pages in
    let v = with_text u (actors_of (Some seed) pages) [] in
    let raw = after u (Some seed) pages 0 0 0 0 0 0 at most written in
    let at_v : At v pages 1 pages pages 0 0 = record {
      disk_is = raw.disk_is;
      pages_are = raw.pages_are;
      phases_are = omega (arith, raw.phases_are);
      operations_are = omega (arith, raw.operations_are);
      pieces_are = omega (arith, raw.pieces_are);
      sectors_are = omega (arith, raw.sectors_are);
      scanned_are = raw.scanned_are;
      no_turns = raw.no_turns;
    } in
    let w = with_text v upkeep [] in
    let at_w = after_upkeep v pages most at_v in (
      (omega arith, omega arith),
      tt,
      (
        (some, omega (arith, most)),
        tt,
        (
          runs u (Some seed) pages 0 0 0 0 0 0 at most written (omega arith) (omega arith)
              (omega arith) refl (omega arith) (omega arith),
          (
            upkeep_runs v pages most at_v,
            (
              runs w None pages 2 (pages + 2) pages 0 pages (8 * pages) at_w most (sectors_read pages)
                  (omega arith) (omega (arith, most)) (omega (arith, most)) refl (omega arith)
                  (omega arith),
              tt,
            ),
          ),
        ),
      ),
    )
