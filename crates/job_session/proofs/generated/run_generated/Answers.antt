use Rattle.std.proofs.Common.{ap, sym, ◌∙◌, refl, rules, subst}
use Rattle.backing_dev.specs.Dev.{DeviceState}
use Rattle.job_session.specs.Stands.{Stands}
use Rattle.job_session.specs.Stepped.{without_pages}
use Rattle.job_session.specs.Runs.{Shows, IsUncounted, seen}
use Rattle.job_session.specs.Sessions.{session_disk}
use Rattle.job_session.specs.Generated.{LastRan}
use Rattle.job_session.proofs.Last.{last_over, gen_written, gen_cut}
use Rattle.job_session.proofs.SoFar.{lent_back, first_over}
use Rattle.job_session.proofs.generated.run_generated.Goals as goal

pub returns-clause-written : goal.returns-clause-written
returns-clause-written g c =
    let new = c.new-session.ensures.new in
    let over = new.is_first.over in
    let m = session_disk c.run_to_reports-run.new.session in
    let ran = subst (λ (job : _). LastRan new.first job m (g.K.Sink.written c.args.sink.now)
    (g.K.Sink.written c.run_to_reports-run.new.sink) c.run_to_reports-run.result)
    (new.whole ∙ c.in_ok-job.ensures.job)
    (c.run_to_reports-run.ensures.runs new.first
    (subst (Stands new.first) (sym new.disk) new.stands)
    (new.disk ∙ ap without_pages (sym over))) in
    let named = lent_back _ _ _ _ _ _ (last_over new.first _ m _ _ c.run_to_reports-run.result ran)
    (ap (λ (x : DeviceState). x.references) over) c.close-dev.ensures.same in
    gen_written new.first (first_over _ new.first new.is_first) _ _
    (subst (IsUncounted _) (sym over) (record {
      shows = record { blocks = refl; contents = refl; faults = refl; calls = refl };
      reads = refl;
      writes = refl;
    }))
    c.args.pages c.args.seed m
    (subst (λ x. Shows (seen g.D.Backing.block_count g.D.Backing.contents g.D.Backing.fault_count
    g.D.Backing.calls x) m.device) (sym (search (rules, named.0))) (record {
      blocks = sym c.close-dev.ensures.blocks;
      contents = sym c.close-dev.ensures.contents;
      faults = sym c.close-dev.ensures.faults;
      calls = sym c.close-dev.ensures.calls;
    }))
    _ _ c.run_to_reports-run.result ran

pub returns-clause-cut : goal.returns-clause-cut
returns-clause-cut g c =
    let new = c.new-session.ensures.new in
    let over = new.is_first.over in
    let m = session_disk c.run_to_reports-run.new.session in
    let ran = subst (λ (job : _). LastRan new.first job m (g.K.Sink.written c.args.sink.now)
    (g.K.Sink.written c.run_to_reports-run.new.sink) c.run_to_reports-run.result)
    (new.whole ∙ c.in_ok-job.ensures.job)
    (c.run_to_reports-run.ensures.runs new.first
    (subst (Stands new.first) (sym new.disk) new.stands)
    (new.disk ∙ ap without_pages (sym over))) in
    let named = lent_back _ _ _ _ _ _ (last_over new.first _ m _ _ c.run_to_reports-run.result ran)
    (ap (λ (x : DeviceState). x.references) over) c.close-dev.ensures.same in
    gen_cut new.first (first_over _ new.first new.is_first) _ _
    (subst (IsUncounted _) (sym over) (record {
      shows = record { blocks = refl; contents = refl; faults = refl; calls = refl };
      reads = refl;
      writes = refl;
    }))
    c.args.pages c.args.seed m
    (subst (λ x. Shows (seen g.D.Backing.block_count g.D.Backing.contents g.D.Backing.fault_count
    g.D.Backing.calls x) m.device) (sym (search (rules, named.0))) (record {
      blocks = sym c.close-dev.ensures.blocks;
      contents = sym c.close-dev.ensures.contents;
      faults = sym c.close-dev.ensures.faults;
      calls = sym c.close-dev.ensures.calls;
    }))
    _ _ _ c.run_to_reports-run.result ran

pub returns-clause-same : goal.returns-clause-same
returns-clause-same g c =
    let new = c.new-session.ensures.new in
    let over = new.is_first.over in
    let m = session_disk c.run_to_reports-run.new.session in
    let ran = c.run_to_reports-run.ensures.runs new.first
    (subst (Stands new.first) (sym new.disk) new.stands)
    (new.disk ∙ ap without_pages (sym over)) in
    let named = lent_back _ _ _ _ _ _ (last_over new.first _ m _ _ c.run_to_reports-run.result ran)
    (ap (λ (x : DeviceState). x.references) over) c.close-dev.ensures.same in
    ap g.D.Backing.references (search (rules, named.0)) ∙ named.1
