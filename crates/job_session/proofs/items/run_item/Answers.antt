use Rattle.job_session.specs.Stepped.{disk_of}
use Rattle.job_session.proofs.Jobs.{report_told}
use Rattle.job_session.proofs.items.run_item.Goals as goal

pub returns-in-Report-clause-item : goal.returns-in-Report-clause-item
returns-in-Report-clause-item g c =
    rw c.in-Report.is (report_told (disk_of c.args.clock.now c.args.world.now) c.in-Report.report c.args.out.now
    c.tell_report.new.out c.tell_report.result (c.tell_report.ensures c.args.clock.now))
