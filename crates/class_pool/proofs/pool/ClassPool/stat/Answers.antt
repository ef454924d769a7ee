-- Each zspage that is there is counted, and its group.
use Rattle.std.proofs.Common.{◌≡◌, ◌<◌, ◌≤◌, ◌+◌, ◌-◌, take, None, length, ap, sym, ◌∙◌, subst, count_by, arith, inl, inr}
use Rattle.std.proofs.lemmas.Bool.{cases_lt}
use Rattle.std.proofs.Math.ListN.{length-set}
use Rattle.size_class.specs.Groups.{group_of}
use Rattle.zspage.specs.Cells.{entry}
use Rattle.std.specs.Prelude.{is_some}
use Rattle.std.proofs.lemmas.List.{length-take-le, take_all}
use Rattle.std.proofs.lemmas.List.Sums.{count_by-le-length, count_by_more_yes, count_by_more_no}
use Rattle.class_pool.specs.Pool.{IsPool, is_in_group}
use Rattle.class_pool.proofs.PoolLaws.{pool_is}
use Rattle.class_pool.proofs.StatLaws.{there, not_there, group_more, group_same}
use Rattle.class_pool.proofs.pool.ClassPool.stat.Goals as goal
use Rattle.class_pool.proofs.pool.ClassPool.stat.Goals.{then-used-gt0, else-used-gt0}

pub overflow_add-zspages : goal.overflow_add-zspages
overflow_add-zspages c =
    omega (
      arith,
      count_by-le-length is_some (take c.loop-id.id c.self.inside.zspages.zspages),
      length-take-le c.loop-id.id c.self.inside.zspages.zspages (omega arith),
      c.loop-id.invariant.zspages,
    )

pub loop-id-preserved : goal.loop-id-preserved
loop-id-preserved c =
    let low : c.loop-id.id < length c.self.inside.zspages.zspages = omega arith in
    elim c.if-used-gt0.branch [
      | then-used-gt0 w ↦
          let case = there _ _ c.used-used.ensures.used w.if-used-gt0.true in
          let group_there : 1 ≤ w.group.result =
          elim (cases_lt 0 w.group.result) [
            | inl some ↦ some
            | inr none ↦
                let empty : c.used-used.result ≡ 0 = w.group.ensures.empty.0 (omega arith) in
                absurd (omega (arith, empty, w.if-used-gt0.true))
          ] in
          record {
            zspages = w.zspages-is ∙ ap (λ n. n + 1) c.loop-id.invariant.zspages
                ∙ sym (count_by_more_yes is_some c.self.inside.zspages.zspages
                c.loop-id.id None low (ap is_some case.1));
            long = ap length w.groups-is ∙ length-set _ _ _ ∙ c.loop-id.invariant.long;
            counts = rw w.groups-is
                (group_more c.per-per.result (w.group.result - 1)
                c.loop-id.id c.self.inside.zspages.zspages case.0 c.loop-id.groups
                low case.1 (ap (λ n. group_of n c.per-per.result) (sym case.2)
                ∙ sym w.group.ensures.value
                ∙ (omega arith))
                c.loop-id.invariant.long (omega (arith, w.group.ensures.bound))
                c.loop-id.invariant.counts);
          }
      | else-used-gt0 w ↦
          let gone : entry c.self.inside.zspages.zspages c.loop-id.id ≡ None =
          not_there _ _ c.used-used.ensures.used w.if-used-gt0.false
          (c.self.invariant.filled c.loop-id.id) in
          record {
            zspages = w.zspages-is ∙ c.loop-id.invariant.zspages
                ∙ sym (count_by_more_no is_some c.self.inside.zspages.zspages
                c.loop-id.id None low (ap is_some gone));
            long = ap length w.groups-is ∙ c.loop-id.invariant.long;
            counts = rw w.groups-is (group_same _ _ _ _ low gone c.loop-id.invariant.counts);
          }
    ]

pub returns-clause-groups : goal.returns-clause-groups
returns-clause-groups c = (
  c.loop-id.invariant.long,
  λ g few.
      c.loop-id.invariant.counts g few
      ∙ ap (λ zs. count_by (is_in_group c.per-per.result (g + 1)) zs)
      (take_all c.loop-id.id c.self.inside.zspages.zspages (omega arith))
      ∙ ap (λ n. count_by (is_in_group n (g + 1)) c.self.inside.zspages.zspages) c.per-per.ensures
      ∙ ap (λ p. count_by (is_in_group p.per (g + 1)) p.zspages) c.self.view_is,
)

pub returns-clause-pool : goal.returns-clause-pool
returns-clause-pool c =
    subst IsPool c.self.view_is (pool_is c.self.inside.class _ _ _ c.self.invariant)
