use Rattle.std.proofs.Common.{◌≡◌}
use Rattle.plain_disk.specs.Rests.{Rest}
use Rattle.job_session.specs.Stands.{Stands}
use Rattle.job_session.specs.Stepped.{without_pages}
use Rattle.job_session.specs.Sessions.{place, done_at, left_at, session_disk, IsBetween}
use Rattle.job_session.specs.Generated.{HaveLed, after_phases}
use Rattle.job_session.proofs.generated.run_to_reports.Given as goal

abbrev pub invariant-loop-done : goal.invariant-loop-done
invariant-loop-done g l = record {
  between : IsBetween l.session;
  same : l.session.job ≡ l.fn.session.job;
  left : left_at (place l.session) ≡ after_phases l._done l.fn.session.job;
  led : (first : Rest) → Stands first (session_disk l.fn.session)
      → session_disk l.fn.session ≡ without_pages first.device
      → HaveLed first (done_at (place l.session)) (session_disk l.session) l.session.refused;
}
