-- A world and its phase, as they stand between two turns, and what they show.
use Rattle.std.specs.Prelude.{◌≡◌, List}
use Rattle.zr_base.specs.declared.op.Op.{Op}
use Rattle.backing_dev.specs.declared.backing.Backing.{Ghosts}
use Rattle.plain_disk.specs.Output.{OutLine, phase_lines}
use Rattle.call_history.specs.declared.part.Done.{Done}
use Rattle.joint_rule.specs.Begins.{Begin, finding}
use Rattle.joint_rule.specs.Rule.{Rule}
use Rattle.zr_core.specs.declared.limits.TheConstants.{MOST_CHAIN}
use Rattle.zr_core.specs.declared.disk.World.{World}
use Rattle.zr_core.specs.declared.phase.Phase.{Phase}
use Rattle.zr_core.specs.Machines.{AllFinished, orders_of, printed}
use Rattle.zr_core.specs.Rests.{RestsAs, left}
use Rattle.zr_core.specs.States.{HasKept, IsOf, Playing, ends_shown, sectors_shown, state_of}

-- a world and its phase, between two turns
abbrev pub playing : {D : Type 0} {b : Ghosts D} → World D b → Phase D → List (List Op) → Playing D
playing world phase actors = record {
  terms = record { size = world.pages; chain = MOST_CHAIN; clock = phase.clock };
  limit = world.limit;
  backed = world.backed;
  spare = world.spare;
  noted = world.noted.items;
  actors = actors;
  cells = world.row.cells;
  workers = phase.workers.items;
}

-- the lines of the ends, the sectors that were read, and the orders
abbrev pub lines_shown : {D : Type 0} → Playing D → List OutLine
lines_shown x =
    phase_lines (ends_shown x.workers) (sectors_shown x.workers) (orders_of x.terms.size x.cells)

-- The phase that began so is over, by its rule: the lines are what the machine prints of this state,
-- and the row is at rest.
pub record HasEndedAs {D : Type 0} (g : Begin) (x : Playing D) : Type 0 where
  pub of : IsOf g x
  pub dones : List (List Done)
  pub kept : HasKept x dones
  pub rule : Rule g (state_of x dones)
  pub finished : AllFinished (state_of x dones)
  pub lines : lines_shown x ≡ printed x.terms.size x.backed x.actors (state_of x dones)
  pub rests : RestsAs (left (finding g rule.finds) x.cells) x.terms.size x.cells
