use Rattle.call_history.specs.Parts.{EndsSo}
use Rattle.call_history.proofs.Told.{follows_on, next_named}
use Rattle.call_history.proofs.Ends.{got_append}
use Rattle.call_history.proofs.Sums.{sum_append}
use Rattle.call_history.proofs.laws.histories_go_on.Goals as goal

pub returns-clause-follows : goal.returns-clause-follows
returns-clause-follows c t ps ds p rest d f is so = follows_on (EndsSo t) ps ds p rest d f is so

pub returns-clause-named : goal.returns-clause-named
returns-clause-named c t pages backed ops ds p rest f =
    next_named (EndsSo t) pages backed ops ds p rest f

pub returns-clause-got : goal.returns-clause-got
returns-clause-got c nr xs ys = got_append nr xs ys

pub returns-clause-counted : goal.returns-clause-counted
returns-clause-counted c g xs ys = sum_append g xs ys
