use Rattle.std.proofs.Common.{◌≡◌, length, sym, ap, ◌∙◌, subst, arith}
use Rattle.std.specs.Prelude.{replicate}
use Rattle.std.proofs.lemmas.List.{length-replicate}
use Rattle.block_map.specs.declared.state.BlockState.TheVariants.{Free}
use Rattle.joint_rule.specs.Starts.{AreFree}
use Rattle.zr_core.specs.Rests.{device_by, blocks_by}
use Rattle.zr_core.proofs.Spares.{no_pages, early_zero, all_free}
use Rattle.zr_core.proofs.disk.World.set_backing.Goals as goal
use Rattle.zr_core.proofs.disk.World.set_backing.Goals.{After-set_enable}

states_are : (o : _) (c : After-set_enable o)
    → c.set_enable.new.self.states ≡ replicate c.args.blocks Free
states_are o c = ap (λ m. m.states) c.set_enable.ensures.enabled
    ∙ ap (λ m. m.states) c.set_limit.ensures.budget ∙ c.in_ok-map.ensures.free

pub invariant_of-self-clause-early : goal.invariant_of-self-clause-early
invariant_of-self-clause-early o c =
    let a = (goal.at.invariant_of-self-clause-early o c).After-set_enable in
    let x = c.args.self.now in
    let was = (no_pages x.pages x.spare c.in-Some.spare x.early c.in-Some.ensures.value).1 in
    early_zero x.pages _ c.requires.none record {
      free = subst AreFree (sym (states_are o a)) (all_free c.args.blocks);
      fits = let n = ap length (states_are o a) ∙ length-replicate c.args.blocks Free in
          let d = ap (λ s. (device_by s x.pages x.row.cells).blocks) c.in-Some.ensures.value in
          let f = c.requires.fits in omega arith;
      reads = was.reads;
      writes = was.writes;
    }

pub returns-clause-blocks : goal.returns-clause-blocks
returns-clause-blocks o c =
    let a = (goal.at.returns-clause-blocks o c).After-set_enable in
    let x = c.args.self.now in λ i. record {
      states = states_are o a i;
      budget = (ap (λ m. m.budget) c.set_enable.ensures.enabled
          ∙ ap (λ m. m.budget) c.set_limit.ensures.budget ∙ c.budget.ensures
          ∙ ap (λ s. (blocks_by s x.pages x.row.cells).budget) c.in-Some.ensures.value) i;
      enabled = (ap (λ m. m.enabled) c.set_enable.ensures.enabled ∙ c.is_enabled.ensures
          ∙ ap (λ s. (blocks_by s x.pages x.row.cells).enabled) c.in-Some.ensures.value) i;
    }
