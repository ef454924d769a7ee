-- The statistics of a class are what the used cells of its zspages say.
use Rattle.std.proofs.Common.{◌≡◌, ℕ, ◌+◌, ◌<◌, List, map, sym, ◌∙◌, arith}
use Rattle.std.specs.List.{range_with_len}
use Rattle.std.proofs.lemmas.Grind.{same_number_lists}
use Rattle.std.proofs.lemmas.List.FromFn.{length-map-range_with_len, get_or-map-range_with_len}
use Rattle.size_class.specs.declared.stat.ClassStat.{ClassStat}
use Rattle.size_class.specs.Classes.{per_of}
use Rattle.plain_disk.specs.Output.{ClassLine}
use Rattle.job_print.specs.Texts.{in_group, stat_of, IsSummary}

groups_are : (c : ClassLine) (stat : ClassStat) → IsSummary c stat
    → stat.groups ≡ (stat_of c).groups
groups_are c stat is =
    let f : ℕ → ℕ = in_group (per_of c.chain c.class) c.used in
    same_number_lists stat.groups (map f (range_with_len 1 11))
    (is.all ∙ sym (length-map-range_with_len f 1 11))
    (λ g lt. let few : g < 11 = omega (arith, is.all) in
    is.groups g few ∙ sym (get_or-map-range_with_len f 1 11 g (g + 1) 0 few (omega arith)))

make : (class size chain per used zspages : ℕ) (groups : List ℕ) → ClassStat
make class size chain per used zspages groups = record {
  class = class;
  size = size;
  chain = chain;
  per = per;
  used = used;
  zspages = zspages;
  groups = groups;
}

pub summary_is : (c : ClassLine) (stat : ClassStat) → IsSummary c stat → stat ≡ stat_of c
unfolding make
summary_is c stat is = by (stat_of c) is.class is.size is.chain is.per is.used is.zspages
    (groups_are c stat is)
  where
    by : (other : ClassStat) → stat.class ≡ other.class → stat.size ≡ other.size
        → stat.chain ≡ other.chain → stat.per ≡ other.per → stat.used ≡ other.used
        → stat.zspages ≡ other.zspages → stat.groups ≡ other.groups → stat ≡ other
    by other a b d e f g h = joined
      where
        joined : make stat.class stat.size stat.chain stat.per stat.used stat.zspages stat.groups
            ≡ make other.class other.size other.chain other.per other.used other.zspages other.groups
        joined = cc
