use Rattle.std.specs.Prelude.{⊤}
use Rattle.std.proofs.Common.{[], sym}
use Rattle.std.proofs.lemmas.Result.{err_from_is_err_and}
use Rattle.job_session.specs.Stepped.{disk_of}
use Rattle.job_session.specs.Sessions.{place}
use Rattle.job_session.proofs.Extends.{gave_up_after}
use Rattle.job_session.proofs.session.Session.advance.Goals as goal

pub returns-in_err-ready-clause-goes : goal.returns-in_err-ready-clause-goes
returns-in_err-ready-clause-goes g c =
    let p = err_from_is_err_and c.from_residual-in_err-ready.result
    c.from_residual-in_err-ready.ensures.1 in
    let s = c.go_on.new.self in
    rw p.1 (
      gave_up_after (place c.args.self.now) (place s) _ (disk_of s.clock c.go_on.new.world)
          (disk_of s.clock c.prepare.new.world) [] ⊤ _ _ (sym c.prepare.ensures.device)
          c.in_ok-go_on.ensures.goes,
      c.in_err-ready.ensures.rest,
    )
