use Rattle.std.proofs.Common.{refl, arith}
use Rattle.disk_rest.proofs.Asked.{are_requests}
use Rattle.disk_rest.proofs.Onward.{starts}
use Rattle.disk_rest.proofs.Pieces.{pieces_most}
use Rattle.plain_disk.specs.Rests.{is_backed}
use Rattle.joint_rule.specs.Ends.{begin_at}
use Rattle.disk_rest.proofs.laws.phases_begin.Goals as goal

pub returns-clause-start : goal.returns-clause-start
returns-clause-start c r actors row w st up =
    starts r actors row w c.phases_go_on.ensures.next st up

pub returns-clause-proper : goal.returns-clause-proper
returns-clause-proper c r actors row st asks some few short =
    c.disks_begin.ensures.proper (begin_at r actors) (are_requests actors asks)
    (record { sectors = λ p t s old ok. ok; honest = λ yes p t s old. refl })
    st.plain.sectors st.plain.blanks st.plain.times (record {
      some = some;
      least = st.plain.least;
      most = st.plain.most;
      few = few;
      pieces = λ p lt. let most = pieces_most r.size p (is_backed r) actors in omega arith;
    })
