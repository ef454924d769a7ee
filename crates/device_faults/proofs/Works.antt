-- A read of the one page, and a write of its first sector, are an actor's work.
use Rattle.std.proofs.Common.{◌≡◌, ℕ, ◌+◌, ◌*◌, ◌-◌, true, List, [], refl, sym, ap, subst, arith}
use Rattle.std.proofs.lemmas.Bool.Decides.{nat_tests}
use Rattle.zr_base.specs.Sectors.{page_sector}
use Rattle.zr_base.specs.Plain.{covers, stuff_sector}
use Rattle.zr_base.specs.Pieces.{IsPieceOf}
use Rattle.zr_base.specs.declared.op.Op.TheVariants.{Read, Write}
use Rattle.zr_base.specs.declared.op.Piece.{Piece}
use Rattle.zr_base.specs.declared.op.Stuff.{Stuff}
use Rattle.page_steps.specs.declared.stage.Head.{Head}
use Rattle.page_steps.specs.declared.stage.Scratch.{Scratch}
use Rattle.page_steps.specs.declared.stage.Work.TheVariants as work
use Rattle.page_steps.specs.declared.call.PageCall.{PageCall}
use Rattle.page_steps.specs.Calls.{Brings, started}
use Rattle.backing_dev.specs.declared.memory.MemBacking.{MemBacking}
use Rattle.device_faults.specs.OnePage.{DoesWork, IsNew}

-- all sectors of the page, and the first one
abbrev pub whole : Piece
whole = record { page = record { 0 = 0 }; first = 0; count = 8 }

abbrev pub part : Piece
part = record { page = record { 0 = 0 }; first = 0; count = 1 }

-- a read of the page at 7 seconds
abbrev pub reading : ℕ → Head
reading op =
    record { work = work.Reads; piece = whole; tag = record { actor = 0; op = op }; now = 7 }

-- a write of its first sector then
abbrev pub writing : ℕ → Head
writing op =
    record { work = work.Writes; piece = part; tag = record { actor = 0; op = op }; now = 7 }

reads : (op : ℕ) (r : Scratch) → DoesWork (reading op) r
reads op r = (
  record {
    terms = record { size = 1; chain = r.table; clock = 7 };
    actor = 0;
    part = record { nr = op; op = Read 0 8; page = 0 };
    rest = [];
    done = [];
  },
  record {
    chain = refl;
    request = refl;
    beyond = refl;
    call = λ e. record { tag = refl; page = refl; clock = refl; asks = tt };
  },
)

-- the one sector that is covered is the first
is_first : (k : ℕ) → covers 0 1 (8 * 0 + k) ≡ true → k ≡ 0
is_first k e = grind (arith, nat_tests)

brings_first : (fresh : List ℕ) (x : Stuff) → page_sector fresh 0 ≡ stuff_sector x 0
    → Brings part 0 1 x fresh
brings_first fresh x has = record {
  cut = record {
    page_is = refl;
    some_sector = grind arith;
    within = grind arith;
    sectors = λ k lt. ap (covers 0 1) (let q : 8 * 0 + k ≡ k = omega arith in q);
  };
  sectors = λ k lt e. subst (λ n. page_sector fresh n ≡ stuff_sector x (8 * 0 + n - 0))
      (sym (is_first k e)) has;
}

writes : (op : ℕ) (r : Scratch) (x : Stuff) → page_sector r.fresh 0 ≡ stuff_sector x 0
    → DoesWork (writing op) r
writes op r x has = (
  record {
    terms = record { size = 1; chain = r.table; clock = 7 };
    actor = 0;
    part = record { nr = op; op = Write 0 1 x; page = 0 };
    rest = [];
    done = [];
  },
  record {
    chain = refl;
    request = refl;
    beyond = refl;
    call = λ e. record {
      tag = refl;
      page = refl;
      clock = refl;
      asks = brings_first r.fresh x has;
    };
  },
)

-- ---- new calls

-- a read that begins is new, and so is a write
pub new_read : (op : ℕ) (r : Scratch) (y : PageCall MemBacking)
    → y ≡ started work.Reads whole (record { actor = 0; op = op }) 7 → IsNew y.head r y.stage
new_read op r y is = subst (λ (z : PageCall MemBacking). IsNew z.head r z.stage) (sym is) record {
  page = refl;
  start = refl;
  fit = (refl, grind arith);
  work = reads op r;
}

pub new_write : (op : ℕ) (r : Scratch) (x : Stuff) (y : PageCall MemBacking)
    → y ≡ started work.Writes part (record { actor = 0; op = op }) 7
    → page_sector r.fresh 0 ≡ stuff_sector x 0 → IsNew y.head r y.stage
new_write op r x y is has =
    subst (λ (z : PageCall MemBacking). IsNew z.head r z.stage) (sym is) record {
      page = refl;
      start = refl;
      fit = (refl, grind arith);
      work = writes op r x has;
    }
