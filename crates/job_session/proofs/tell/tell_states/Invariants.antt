use Rattle.std.specs.List.{flat_map, range_with_len}
use Rattle.job_session.proofs.Lines.{lines_on}
use Rattle.job_session.proofs.Reports.{state_lines}
use Rattle.job_session.proofs.Sending.{SoFar}
use Rattle.job_session.proofs.tell.tell_states.Given as goal

abbrev pub invariant-loop-page : goal.invariant-loop-page
invariant-loop-page g l =
    SoFar l.fn.out l.out (lines_on (state_lines l.world.row.cells) l.page l.world.pages)
    (flat_map (state_lines l.world.row.cells) (range_with_len 0 l.world.pages))
