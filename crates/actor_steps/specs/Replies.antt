-- What an operation has told so far.
use Rattle.std.specs.Prelude.{◌≡◌, ◌≢◌, ℕ, ◌+◌, ◌≤◌, List, ◌++◌, length, Some, slice_get, vec_len, vec_capacity, ⊤}
use Rattle.zr_base.specs.declared.op.OpEnd.{OpEnd}
use Rattle.page_steps.specs.declared.stage.PieceEnd.{PieceEnd}
use Rattle.page_steps.specs.declared.stage.PieceEnd.TheVariants as piece
use Rattle.actor_steps.specs.declared.reply.Reply.{Reply}

-- a piece that has read something fits the reply
abbrev pub HasRoomFor : PieceEnd → ℕ → ℕ → Type 0
HasRoomFor (piece.Read at) n room = n ≤ room
HasRoomFor end n room = ⊤

-- One reply has this end and more sectors, at most n, and the others are as before.
pub record HasMore (nr : ℕ) (end : OpEnd) (got : List (List ℕ)) (n : ℕ) (old new : List Reply)
    : Type 0 where
  pub size : length new ≡ length old
  pub others : (k : ℕ) → k ≢ nr → slice_get new k ≡ slice_get old k
  pub was : Reply
  pub is : Reply
  pub before : slice_get old nr ≡ Some was
  pub after : slice_get new nr ≡ Some is
  pub ends : is.end ≡ end
  pub sectors : is.sectors.items ≡ was.sectors.items ++ got
  pub len : vec_len is.sectors ≤ vec_len was.sectors + n
  pub room : vec_capacity was.sectors ≤ vec_capacity is.sectors
