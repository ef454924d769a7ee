-- A compaction's numbers have room.
use Rattle.std.proofs.Common.{◌≡◌, ℕ, zero, suc, ◌+◌, ◌*◌, ◌^◌, ◌<◌, ◌≤◌, Option, None, Some, length, arith}
use Rattle.std.specs.Prelude.{unwrap_or}
use Rattle.size_class.specs.Classes.{stands_of}
use Rattle.class_pool.specs.Pool.{PoolState, objects}
use Rattle.lock_row.specs.declared.names.Compaction.{Compaction}
use Rattle.page_steps.specs.Compactions.{budget_in, with_move, with_frames, with_next}
use Rattle.post_steps.specs.Compact.{MovesFit, HasRoom, IsFit, moved_by}

-- ---- moves

-- one object more has moved
fit_more : (b : Option ℕ) (moves class n budget : ℕ) → MovesFit b moves class
    → unwrap_or b n < 2 ^ 32 → unwrap_or b n ≡ budget + 1
    → moves + 1 + budget ≤ 2 ^ 32 * (class + 1)
fit_more None moves class n budget fit few is = omega arith
fit_more (Some b) moves class n budget fit few is = omega arith

-- what has moved in the classes so far
fit_below : (b : Option ℕ) (moves class : ℕ) → MovesFit b moves class
    → moves ≤ 2 ^ 32 * (class + 1)
fit_below None moves class fit = omega arith
fit_below (Some b) moves class fit = omega arith

pub moves_few : (chain owed : ℕ) (x : Compaction) → HasRoom chain owed x → x.moves ≤ 2 ^ 40
moves_few chain owed x room =
    omega (arith, fit_below x.budget x.moves x.class room.moves, room.class)

-- ---- stages

more_frames : (chain moves frames owed : ℕ) → frames + 0 ≤ chain * moves → owed ≤ chain
    → frames + owed ≤ chain * (moves + 1)
more_frames chain moves frames owed fit few =
    let next : chain * (moves + 1) ≡ chain * moves + chain = omega arith in omega arith

moved_room : (chain frames budget : ℕ) (x : Compaction) (q : PoolState) → HasRoom chain 0 x
    → frames ≤ chain → budget_in x q < 2 ^ 32 → budget_in x q ≡ budget + 1
    → HasRoom chain frames (with_move x budget)
moved_room chain frames budget x q room few budget_few is = record {
  most = room.most;
  class = room.class;
  moves = fit_more x.budget x.moves x.class (length (objects q)) budget room.moves budget_few is;
  frames = more_frames chain x.moves x.frames frames room.frames few;
}

-- an object was moved
pub moved_fit : (chain frames budget : ℕ) (x : Compaction) (q : PoolState) → HasRoom chain 0 x
    → frames ≤ chain → budget_in x q < 2 ^ 32 → budget_in x q ≡ budget + 1
    → IsFit chain (moved_by frames (with_move x budget))
moved_fit chain zero budget x q room few budget_few is =
    moved_room chain zero budget x q room few budget_few is
moved_fit chain (suc frames) budget x q room few budget_few is =
    moved_room chain (suc frames) budget x q room few budget_few is

-- the next class that stands for itself is at hand
pub rested_room : (chain : ℕ) (x : Compaction) → HasRoom chain 0 x
    → x.class < stands_of chain (x.class + 1) → stands_of chain (x.class + 1) < 255
    → HasRoom chain 0 (with_next chain x)
rested_room chain x room above known = record {
  most = room.most;
  class = known;
  moves = omega (arith, fit_below x.budget x.moves x.class room.moves);
  frames = room.frames;
}

-- the frames are given back
pub shrunk_room : (chain frames : ℕ) (x : Compaction) → HasRoom chain frames x
    → HasRoom chain 0 (with_frames x frames)
shrunk_room chain frames x room = record {
  most = room.most;
  class = room.class;
  moves = room.moves;
  frames = omega (arith, room.frames);
}

-- it begins
pub first_room : (chain : ℕ) → chain ≤ 16
    → HasRoom chain 0 (record { class = 0; budget = None; moves = 0; frames = 0 })
first_room chain most =
    record { most = most; class = omega arith; moves = omega arith; frames = omega arith }
