use Rattle.job_session.proofs.tell.tell_report.Goals as goal

pub returns-in-States : goal.returns-in-States
returns-in-States g c = λ clock. rw c.in-States.is c.tell_states.ensures
