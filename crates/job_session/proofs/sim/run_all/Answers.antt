use Rattle.std.proofs.Common.{ap, sym, ◌∙◌, refl, rules, subst}
use Rattle.backing_dev.specs.Dev.{DeviceState}
use Rattle.job_session.specs.Stands.{Stands}
use Rattle.job_session.specs.Stepped.{without_pages}
use Rattle.job_session.specs.Runs.{Shows, IsUncounted, seen}
use Rattle.job_session.specs.Sessions.{session_disk}
use Rattle.job_session.specs.Advances.{SessionRan}
use Rattle.job_session.proofs.SoFar.{run_written, run_cut, lent_back, ran_over, first_over}
use Rattle.job_session.proofs.sim.run_all.Goals as goal

pub returns-clause-written : goal.returns-clause-written
returns-clause-written g c =
    let new = c.new-session.ensures.new in
    let over = new.is_first.over in
    let ran = c.run_session-run.ensures.runs new.first
    (subst (Stands new.first) (sym new.disk) new.stands)
    (new.disk ∙ ap without_pages (sym over)) in
    let named = lent_back _ _ _ _ _ _
    (ran_over new.first _ _ _ _ c.run_session-run.result ran)
    (ap (λ (x : DeviceState). x.references) over) c.close-dev.ensures.same in
    run_written new.first (first_over _ new.first new.is_first) _ _
    (subst (IsUncounted _) (sym over) (record {
      shows = record { blocks = refl; contents = refl; faults = refl; calls = refl };
      reads = refl;
      writes = refl;
    }))
    c.args.job _ _ _ c.run_session-run.result
    (subst (λ x. Shows (seen g.D.Backing.block_count g.D.Backing.contents g.D.Backing.fault_count
    g.D.Backing.calls x) (session_disk c.run_session-run.new.session).device)
    (sym (search (rules, named.0))) (record {
      blocks = sym c.close-dev.ensures.blocks;
      contents = sym c.close-dev.ensures.contents;
      faults = sym c.close-dev.ensures.faults;
      calls = sym c.close-dev.ensures.calls;
    }))
    (subst (λ job. SessionRan new.first job (session_disk c.run_session-run.new.session)
    (g.K.Sink.written c.args.sink.now) (g.K.Sink.written c.run_session-run.new.sink)
    c.run_session-run.result) new.whole ran)

pub returns-clause-cut : goal.returns-clause-cut
returns-clause-cut g c =
    let new = c.new-session.ensures.new in
    let over = new.is_first.over in
    let ran = c.run_session-run.ensures.runs new.first
    (subst (Stands new.first) (sym new.disk) new.stands)
    (new.disk ∙ ap without_pages (sym over)) in
    let named = lent_back _ _ _ _ _ _
    (ran_over new.first _ _ _ _ c.run_session-run.result ran)
    (ap (λ (x : DeviceState). x.references) over) c.close-dev.ensures.same in
    run_cut new.first (first_over _ new.first new.is_first) _ _
    (subst (IsUncounted _) (sym over) (record {
      shows = record { blocks = refl; contents = refl; faults = refl; calls = refl };
      reads = refl;
      writes = refl;
    }))
    c.args.job _ _ _ c.run_session-run.result
    (subst (λ x. Shows (seen g.D.Backing.block_count g.D.Backing.contents g.D.Backing.fault_count
    g.D.Backing.calls x) (session_disk c.run_session-run.new.session).device)
    (sym (search (rules, named.0))) (record {
      blocks = sym c.close-dev.ensures.blocks;
      contents = sym c.close-dev.ensures.contents;
      faults = sym c.close-dev.ensures.faults;
      calls = sym c.close-dev.ensures.calls;
    }))
    (subst (λ job. SessionRan new.first job (session_disk c.run_session-run.new.session)
    (g.K.Sink.written c.args.sink.now) (g.K.Sink.written c.run_session-run.new.sink)
    c.run_session-run.result) new.whole ran)

pub returns-clause-same : goal.returns-clause-same
returns-clause-same g c =
    let new = c.new-session.ensures.new in
    let over = new.is_first.over in
    let ran = c.run_session-run.ensures.runs new.first
    (subst (Stands new.first) (sym new.disk) new.stands)
    (new.disk ∙ ap without_pages (sym over)) in
    let named = lent_back _ _ _ _ _ _
    (ran_over new.first _ _ _ _ c.run_session-run.result ran)
    (ap (λ (x : DeviceState). x.references) over) c.close-dev.ensures.same in
    ap g.D.Backing.references (search (rules, named.0)) ∙ named.1
