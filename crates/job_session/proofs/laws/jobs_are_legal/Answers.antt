use Rattle.job_session.proofs.Legal.{Laws, legal_by}
use Rattle.job_session.proofs.laws.jobs_are_legal.Goals as goal

pub returns : goal.returns
returns c =
    let laws : Laws = record {
      starts = c.rule_keeps.ensures.start;
      reached = c.rule_keeps.ensures.reached;
      begin = c.phases_begin.ensures.start;
      proper = c.phases_begin.ensures.proper;
      prints = c.phases_end.ensures.prints;
      leaves = c.phases_end.ensures.leaves;
      new = c.disks_begin.ensures;
      limits = c.rows_stand.ensures.limit;
      budgets = c.rows_stand.ensures.budget;
      clocks = c.rows_stand.ensures.clock;
      max = c.rows_stand.ensures.max;
      reports = c.rows_print.ensures.reports;
      account = c.rows_print.ensures.account;
      map = c.rows_print.ensures.map;
      nothing = c.rows_print.ensures.nothing;
    } in
    record {
      legal = λ u r d job turns lines last may bare timed s steps.
          legal_by laws u job r d turns lines last may bare timed s steps;
    }
