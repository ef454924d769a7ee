use Rattle.std.proofs.Common.{inl, inr, rules, subst}
use Rattle.job_session.specs.Generated.{GenEnds}
use Rattle.job_session.proofs.sim.sim_main.Goals as goal

pub returns-in-Gen-clause-done : goal.returns-in-Gen-clause-done
returns-in-Gen-clause-done g c is =
    inr (c.in-Gen.pages, c.in-Gen.seed, c.in-Gen.ensures, subst (GenEnds _ _ _ _ _ _ _) is c.generate.ensures.ends)

pub returns-in-Gen-clause-refused : goal.returns-in-Gen-clause-refused
returns-in-Gen-clause-refused g c is =
    inr (c.in-Gen.pages, c.in-Gen.seed, c.in-Gen.ensures, subst (GenEnds _ _ _ _ _ _ _) is c.generate.ensures.ends)

pub returns-in-Gen-clause-cut_write : goal.returns-in-Gen-clause-cut_write
returns-in-Gen-clause-cut_write g c is =
    inr (inr (
      c.in-Gen.pages,
      c.in-Gen.seed,
      c.in-Gen.ensures,
      subst (GenEnds _ _ _ _ _ _ _) is c.generate.ensures.ends,
    ))

pub returns-in-Err-run-clause-cut_write : goal.returns-in-Err-run-clause-cut_write
returns-in-Err-run-clause-cut_write g c is = inr (inl (c.in-Run.ensures, search rules))
