use Rattle.std.proofs.Common.{◌≡◌, ◌-◌, ◌≤◌, length}
use Rattle.std.specs.Io.KnownBytes.{Appends}
use Rattle.plain_disk.specs.Rests.{Rest}
use Rattle.job_session.specs.Stands.{Stands}
use Rattle.job_session.specs.Stepped.{without_pages}
use Rattle.job_session.specs.Sessions.{place, done_at, session_disk, IsBetween}
use Rattle.job_session.specs.Advances.{IsSoFar}
use Rattle.job_session.proofs.sim.run_session.Given as goal

abbrev pub invariant-phases : goal.invariant-phases
invariant-phases g l = record {
  between : IsBetween l.session;
  same : l.session.job ≡ l.fn.session.job;
  later : g.K.Sink.fault_count l.fn.sink ≤ g.K.Sink.fault_count l.sink;
  so_far : (first : Rest) → Stands first (session_disk l.fn.session)
      → session_disk l.fn.session ≡ without_pages first.device
      → IsSoFar first (done_at (place l.session)) (session_disk l.session)
      (Appends (g.K.Sink.written l.fn.sink) (g.K.Sink.written l.sink)) l.session.refused;
}

abbrev pub decreases-phases : goal.decreases-phases
decreases-phases g l = length l.session.job - l.session.at
