use Rattle.std.proofs.Common.{arith}
use Rattle.disk_rest.proofs.Bare.{nothing_counted, none_on_device, no_states, no_classes}
use Rattle.disk_rest.proofs.Reports.{prints, entry_tells, pool_tells, account_tells}
use Rattle.disk_rest.proofs.laws.rows_print.Goals as goal

pub returns-clause-reports : goal.returns-clause-reports
returns-clause-reports c r row q st = prints r row st q

pub returns-clause-entries : goal.returns-clause-entries
returns-clause-entries c r row p st lt =
    let e = entry_tells r row st p lt in let time = st.plain.times p lt in
    let touched = e.touched in (e.entry, e.at, e.weight, e.idle, touched, omega arith)

pub returns-clause-pools : goal.returns-clause-pools
returns-clause-pools c r row k st lt =
    let q = pool_tells r row st k lt in (q.pool, q.at, q.class, q.fits, q.used)

pub returns-clause-account : goal.returns-clause-account
returns-clause-account c r row st = account_tells r row st

pub returns-clause-map : goal.returns-clause-map
returns-clause-map c r row st = st.map

pub returns-clause-nothing : goal.returns-clause-nothing
returns-clause-nothing c r empty unused = (
  nothing_counted r empty unused,
  none_on_device r empty unused,
  no_states r empty unused,
  no_classes r empty unused,
)
