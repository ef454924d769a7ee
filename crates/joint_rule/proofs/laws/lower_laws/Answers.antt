use Rattle.joint_rule.proofs.laws.lower_laws.Goals as goal

pub returns : goal.returns
returns c = record {
  take = c.totals_move.ensures.taken;
  give = c.totals_move.ensures.given;
  moves = c.sums_move.ensures.moves;
  part = c.sums_move.ensures.part;
  here = c.pieces_keep.ensures.here;
  elsewhere = c.pieces_keep.ensures.elsewhere;
  follows = c.histories_go_on.ensures.follows;
  named = c.histories_go_on.ensures.named;
  counted = c.histories_go_on.ensures.counted;
  stored = c.objects_move.ensures.stored;
  made = c.objects_move.ensures.made;
  freed = c.objects_move.ensures.freed;
  changed = c.objects_move.ensures.changed;
  among = c.objects_move.ensures.part;
  moved = c.objects_move.ensures.moved;
  some_may = c.compactions_end.ensures.most;
  fewer_may = c.compactions_end.ensures.fewer;
  none_may = c.compactions_end.ensures.rest;
  rest_least = c.compactions_end.ensures.least;
  tight_rests = c.compactions_end.ensures.tight;
  kept_as = c.kept_bytes_have_one_page.ensures;
  packed_short = λ page bytes is form. (c.forms_tell_pages.ensures.packed page bytes is form).0.short;
  huge_page = λ page bytes is form. (c.forms_tell_pages.ensures.huge page bytes is form).0;
  word_page = λ page w is form. (c.forms_tell_pages.ensures.word page w is form).0;
}
