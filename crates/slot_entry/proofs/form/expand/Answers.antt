-- A page of zeros, or of one word.
use Rattle.std.proofs.Common.{sym, ap, ◌∙◌}
use Rattle.slot_entry.specs.Forms.{zero_page}
use Rattle.slot_entry.specs.Entries.{plain_page}
use Rattle.slot_entry.proofs.Words.{filled_one}
use Rattle.slot_entry.proofs.form.expand.Goals as goal

pub returns-in-Empty : goal.returns-in-Empty
unfolding zero_page
returns-in-Empty c = c.zero.ensures ∙ ap plain_page (sym c.in-Empty.is)

pub returns-in-Same : goal.returns-in-Same
returns-in-Same c =
    filled_one c.fill.new.page c.in-Same.word c.is_page.ensures c.fill.ensures.words
    ∙ ap plain_page (sym c.in-Same.is)
