-- What a hand that has its lock may give.
use Rattle.std.proofs.Common.{◌≡◌, List, [], ◌∷◌, ◌++◌, refl, ap}
use Rattle.zr_base.specs.declared.op.Tag.{Tag}
use Rattle.lock_row.specs.declared.names.LockNo.{LockNo}
use Rattle.lock_table.specs.Sittings.{Ground}
use Rattle.lock_table.specs.Hands.{MayGive}
use Rattle.bench_lock_table.specs.Tagging.{plan_by, next_tag, gave, tagged, as_was, one_more}
use Rattle.bench_lock_table.specs.TagRule.{tagging}
use Rattle.bench_lock_table.specs.Ready.{Mine, Has}

module _ (g : Ground) (h : Mine) (k : LockNo) (v : List Tag) where
  pub may_give : Has g h k v → MayGive tagging g h k gave v
  may_give s = record {
    own = s.own;
    there = s.there;
    plan =
        ap (plan_by h.local.todo) s.held_so;
    works = as_was k [] s.held_so refl;
  }

  pub may_tag : (last : List Tag) → Has g h k last → v ≡ last ++ next_tag h.local ∷ []
      → MayGive tagging g h k tagged v
  may_tag last s e = record {
    own = s.own;
    there = s.there;
    plan =
        ap (plan_by h.local.todo) s.held_so;
    works = one_more k last [] s.held_so e refl;
  }
