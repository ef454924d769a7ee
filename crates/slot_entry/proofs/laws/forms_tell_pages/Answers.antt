use Rattle.std.proofs.Common.{sym}
use Rattle.slot_entry.proofs.Words.{filled_one, word_low}
use Rattle.slot_entry.proofs.Forms.{not_blank, word_is, is_word, packed_by, packed_is, is_short, is_long, huge_by}
use Rattle.slot_entry.proofs.laws.forms_tell_pages.Goals as goal

pub returns-clause-written : goal.returns-clause-written
returns-clause-written c = not_blank

pub returns-clause-word : goal.returns-clause-word
returns-clause-word c page w is e =
    let words = word_is page w is e in
    (sym (filled_one page w is words), word_low page w is words)

pub returns-clause-filled : goal.returns-clause-filled
returns-clause-filled c page w is words = is_word page w is words

pub returns-clause-packed : goal.returns-clause-packed
returns-clause-packed c page bytes is e = (
  packed_is c.pages_have_one_packing.ensures.one c.packings_are_bytes.ensures.some
      c.packings_are_bytes.ensures.bytes page bytes is e,
  (packed_by page bytes is e).1,
)

pub returns-clause-short : goal.returns-clause-short
returns-clause-short c page bytes is other k le =
    is_short c.pages_have_one_packing.ensures.one page is bytes k other le

pub returns-clause-long : goal.returns-clause-long
returns-clause-long c page bytes is other k gt =
    is_long c.pages_have_one_packing.ensures.one page is bytes k other gt

pub returns-clause-huge : goal.returns-clause-huge
returns-clause-huge c page bytes is e =
    let h = huge_by page bytes is e in (h.0, h.1)
