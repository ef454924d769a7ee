use Rattle.std.specs.List.{flat_map, range_with_len}
use Rattle.job_session.proofs.Lines.{lines_on}
use Rattle.job_session.proofs.Reports.{class_lines}
use Rattle.job_session.proofs.Sending.{SoFar}
use Rattle.job_session.proofs.tell.tell_classes.Given as goal

abbrev pub invariant-loop-class : goal.invariant-loop-class
invariant-loop-class g l =
    SoFar l.fn.out l.out (lines_on (class_lines l.world.pages l.world.row.cells) l.class 255)
    (flat_map (class_lines l.world.pages l.world.row.cells) (range_with_len 0 255))
