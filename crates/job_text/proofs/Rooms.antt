-- The generator's job keeps the limits of a job.
use Rattle.std.proofs.Common.{◌≡◌, ℕ, zero, suc, ◌+◌, ◌*◌, ◌/◌, ◌%◌, ◌<◌, ◌≤◌, ◌==◌, Bool, true, false, nat_le, List, [], ◌∷◌, ◌++◌, Option, Some, None, refl, sym, ap, subst, ◌∙◌, arith}
use Rattle.std.specs.Prelude.{sum_by, if◌then◌else◌}
use Rattle.std.specs.List.{AllByRecursion}
use Rattle.std.proofs.lemmas.Bool.{le-leb}
use Rattle.std.proofs.lemmas.List.Sums.{sum_by-cons, sum_by-append}
use Rattle.std.proofs.Math.Nat.{mod-lt}
use Rattle.zr_base.specs.declared.op.Op.{Op}
use Rattle.zr_base.specs.declared.limits.TheConstants.{MOST_OPERATIONS}
use Rattle.zr_base.specs.declared.op.Stuff.{Stuff}
use Rattle.zr_base.specs.declared.op.Stuff.TheVariants.{Fill, Seq}
use Rattle.zr_base.specs.Plain.{IsRequest, HasSectors, HasBytes}
use Rattle.zr_base.specs.Pieces.{pages_of}
use Rattle.job_text.specs.declared.limits.TheConstants.{MOST_PIECES, MOST_SCANNED, MOST_SECTORS_READ, MOST_GENERATED}
use Rattle.job_text.specs.Jobs.{Used, with_op, with_ops, with_actors, sectors_to_read, pages_to_scan, has_left_for, MayOperate, MayAct}
use Rattle.job_text.specs.Generator.{stuff_of, kind_of, op_of, ops_of, actors_of}
use Rattle.job_text.proofs.Totals.{over, over-cons, ops_add}

-- ---- limits that are kept in total are kept operation by operation

-- A request that scans no page.
pub record IsStill (op : Op) : Type 0 where
  pub request : IsRequest op
  pub still : (pages : ℕ) → pages_to_scan pages op ≡ 0

abbrev pub AreStill : List Op → Type 0
AreStill ops = AllByRecursion IsStill ops

-- so much is used, and there is room for so much more
pub record HasRoom (u : Used) (operations pieces sectors : ℕ) : Type 0 where
  pub operations_left : u.operations + operations ≤ MOST_OPERATIONS
  pub pieces_left : u.pieces + pieces ≤ MOST_PIECES
  pub sectors_left : u.sectors + sectors ≤ MOST_SECTORS_READ
  pub scanned_left : u.scanned ≤ MOST_SCANNED

abbrev RoomFor : Used → List Op → Type 0
RoomFor u ops = HasRoom u (sum_by (λ (op : Op). 1) ops) (sum_by pages_of ops)
    (sum_by sectors_to_read ops)

abbrev RoomOver : Used → List (List Op) → Type 0
RoomOver u actors = HasRoom u (over (λ op. 1) actors) (over pages_of actors)
    (over sectors_to_read actors)

some_left : (u : Used) (op : Op) (ops : List Op) → IsStill op → RoomFor u (op ∷ ops)
    → has_left_for u op ≡ true
some_left u op ops is room =
    let a : nat_le (u.operations + 1) MOST_OPERATIONS ≡ true =
    le-leb _ _ (omega (arith, room.operations_left, sum_by-cons (λ (op : Op). 1) op ops)) in
    let b : nat_le (u.pieces + pages_of op) MOST_PIECES ≡ true =
    le-leb _ _ (omega (arith, room.pieces_left, sum_by-cons pages_of op ops)) in
    let c : nat_le (u.sectors + sectors_to_read op) MOST_SECTORS_READ ≡ true =
    le-leb _ _ (omega (arith, room.sectors_left, sum_by-cons sectors_to_read op ops)) in
    let d : nat_le (u.scanned + pages_to_scan u.pages op) MOST_SCANNED ≡ true =
    le-leb _ _ (omega (arith, room.scanned_left, is.still u.pages)) in
    cc

may_operate : (u : Used) (ops : List Op) → AreStill ops → RoomFor u ops → MayOperate u ops
may_operate u [] all room = tt
may_operate u (op ∷ ops) all room = (
  all.0.request,
  some_left u op ops all.0 room,
  may_operate (with_op u op) ops all.1 (record {
    operations_left = omega (arith, room.operations_left, sum_by-cons (λ (op : Op). 1) op ops);
    pieces_left = omega (arith, room.pieces_left, sum_by-cons pages_of op ops);
    sectors_left = omega (arith, room.sectors_left, sum_by-cons sectors_to_read op ops);
    scanned_left = omega (arith, room.scanned_left, all.0.still u.pages);
  }),
)

-- what stays where nothing is scanned
pub record Stays (u v : Used) : Type 0 where
  pub disk_stays : v.disk ≡ u.disk
  pub pages_stay : v.pages ≡ u.pages
  pub scanned_stay : v.scanned ≡ u.scanned

ops_stay : (u : Used) (ops : List Op) → AreStill ops → Stays u (with_ops u ops)
ops_stay u [] all = record { disk_stays = refl; pages_stay = refl; scanned_stay = refl }
ops_stay u (op ∷ ops) all =
    let later = ops_stay (with_op u op) ops all.1 in record {
      disk_stays = later.disk_stays;
      pages_stay = later.pages_stay;
      scanned_stay = omega (arith, later.scanned_stay, all.0.still u.pages);
    }

pub may_act : (u : Used) (actors : List (List Op)) → AllByRecursion AreStill actors → RoomOver u actors
    → MayAct u actors
may_act u [] all room = tt
may_act u (ops ∷ more) all room =
    let grown = ops_add u ops in
    let stays = ops_stay u ops all.0 in
    let n = over-cons (λ (op : Op). 1) ops more in
    let p = over-cons pages_of ops more in
    let s = over-cons sectors_to_read ops more in (
      may_operate u ops all.0 (record {
        operations_left = omega (arith, room.operations_left, n);
        pieces_left = omega (arith, room.pieces_left, p);
        sectors_left = omega (arith, room.sectors_left, s);
        scanned_left = room.scanned_left;
      }),
      may_act (with_ops u ops) more all.1 (record {
        operations_left = omega (arith, room.operations_left, n, grown.operations_grow);
        pieces_left = omega (arith, room.pieces_left, p, grown.pieces_grow);
        sectors_left = omega (arith, room.sectors_left, s, grown.sectors_grow);
        scanned_left = omega (arith, room.scanned_left, stays.scanned_stay);
      }),
    )

pub actors_stay : (u : Used) (actors : List (List Op)) → AllByRecursion AreStill actors
    → Stays u (with_actors u actors)
actors_stay u [] all = record { disk_stays = refl; pages_stay = refl; scanned_stay = refl }
actors_stay u (ops ∷ more) all =
    let now = ops_stay u ops all.0 in
    let later = actors_stay (with_ops u ops) more all.1 in record {
      disk_stays = later.disk_stays ∙ now.disk_stays;
      pages_stay = later.pages_stay ∙ now.pages_stay;
      scanned_stay = later.scanned_stay ∙ now.scanned_stay;
    }

-- ---- the operations that are made

has_one : (seed : ℕ) (a b c : Bool) (s : Stuff)
    → s ≡ (if a then Fill seed else if b then Seq 1000000 1
    else if c then Seq 0 11400714819323198485 else Seq 1000000 16777216)
    → HasSectors s 8 × HasBytes s
has_one seed true b c s e = subst (λ t. HasSectors t 8 × HasBytes t) (sym e) (tt, tt)
has_one seed false true c s e = subst (λ t. HasSectors t 8 × HasBytes t) (sym e) (tt, tt)
has_one seed false false true s e = subst (λ t. HasSectors t 8 × HasBytes t) (sym e) (tt, tt)
has_one seed false false false s e = subst (λ t. HasSectors t 8 × HasBytes t) (sym e) (tt, tt)

has_stuff : (seed kind : ℕ) → HasSectors (stuff_of seed kind) 8 × HasBytes (stuff_of seed kind)
has_stuff seed kind = has_one seed (kind == 0) (kind == 1) (kind == 2) (stuff_of seed kind) refl

one_page : (seed : Option ℕ) (page : ℕ) → pages_of (op_of seed page) ≡ 1
one_page (Some seed) page = omega arith
one_page None page = omega arith

made_still : (seed : Option ℕ) (page : ℕ) → page < MOST_GENERATED → IsStill (op_of seed page)
made_still (Some seed) page lt = record {
  request = (
    (omega (arith, lt), omega arith, omega arith),
    (has_stuff seed (kind_of seed page)).0,
    (has_stuff seed (kind_of seed page)).1,
  );
  still = λ pages. refl;
}
made_still None page lt = record {
  request = (omega (arith, lt), omega arith, omega arith);
  still = λ pages. refl;
}

-- one operation or none
abbrev some_of : Bool → Op → List Op
some_of b op = if b then op ∷ [] else []

some_still : (b : Bool) (op : Op) → IsStill op → AreStill (some_of b op)
some_still true op is = (is, tt)
some_still false op is = tt

still_append : (xs ys : List Op) → AreStill xs → AreStill ys → AreStill (xs ++ ys)
still_append [] ys a b = b
still_append (x ∷ xs) ys a b = (a.0, still_append xs ys a.1 b)

ops_still : (seed : Option ℕ) (actor pages : ℕ) → pages ≤ MOST_GENERATED
    → AreStill (ops_of seed actor pages)
ops_still seed actor zero le = tt
ops_still seed actor (suc page) le =
    still_append (ops_of seed actor page) (some_of (page / 4 % 4 == actor) (op_of seed page))
    (ops_still seed actor page (omega (arith, le)))
    (some_still (page / 4 % 4 == actor) (op_of seed page)
    (made_still seed page (omega (arith, le))))

pub actors_still : (seed : Option ℕ) (pages : ℕ) → pages ≤ MOST_GENERATED
    → AllByRecursion AreStill (actors_of seed pages)
actors_still seed pages le = (
  ops_still seed 0 pages le,
  (
    ops_still seed 1 pages le,
    (ops_still seed 2 pages le, (ops_still seed 3 pages le, tt)),
  ),
)

-- ---- their totals

sum_some : (f : Op → ℕ) (b : Bool) (op : Op) → sum_by f (some_of b op) ≡ if b then f op else 0
sum_some f true op = omega arith
sum_some f false op = refl

sum_step : (f : Op → ℕ) (seed : Option ℕ) (actor page : ℕ)
    → sum_by f (ops_of seed actor (suc page)) ≡ sum_by f (ops_of seed actor page)
    + (if page / 4 % 4 == actor then f (op_of seed page) else 0)
sum_step f seed actor page =
    let b = page / 4 % 4 == actor in
    sum_by-append f (ops_of seed actor page) (some_of b (op_of seed page))
    ∙ ap (λ n. sum_by f (ops_of seed actor page) + n) (sum_some f b (op_of seed page))

one_of_four : (n x : ℕ) → n < 4
    → (if n == 0 then x else 0) + (if n == 1 then x else 0) + (if n == 2 then x else 0)
    + (if n == 3 then x else 0) ≡ x
one_of_four zero x lt = omega arith
one_of_four (suc zero) x lt = omega arith
one_of_four (suc (suc zero)) x lt = omega arith
one_of_four (suc (suc (suc zero))) x lt = omega arith
one_of_four (suc (suc (suc (suc n)))) x lt = absurd (omega (arith, lt))

over_step : (f : Op → ℕ) (seed : Option ℕ) (page : ℕ)
    → over f (actors_of seed (suc page)) ≡ over f (actors_of seed page) + f (op_of seed page)
over_step f seed page =
    let four = one_of_four (page / 4 % 4) (f (op_of seed page)) (mod-lt (page / 4) (omega arith)) in
    let a = sum_step f seed 0 page in
    let b = sum_step f seed 1 page in
    let c = sum_step f seed 2 page in
    let d = sum_step f seed 3 page in omega (arith, four, a, b, c, d)

pub count_made : (seed : Option ℕ) (pages : ℕ) → over (λ op. 1) (actors_of seed pages) ≡ pages
count_made seed zero = refl
count_made seed (suc page) =
    omega (arith, over_step (λ op. 1) seed page, count_made seed page)

pub pieces_made : (seed : Option ℕ) (pages : ℕ) → over pages_of (actors_of seed pages) ≡ pages
pieces_made seed zero = refl
pieces_made seed (suc page) =
    omega (arith, over_step pages_of seed page, pieces_made seed page, one_page seed page)

pub sectors_written : (seed pages : ℕ) → over sectors_to_read (actors_of (Some seed) pages) ≡ 0
sectors_written seed zero = refl
sectors_written seed (suc page) =
    omega (arith, over_step sectors_to_read (Some seed) page, sectors_written seed page)

pub sectors_read : (pages : ℕ) → over sectors_to_read (actors_of None pages) ≡ 8 * pages
sectors_read zero = refl
sectors_read (suc page) =
    omega (arith, over_step sectors_to_read None page, sectors_read page)
