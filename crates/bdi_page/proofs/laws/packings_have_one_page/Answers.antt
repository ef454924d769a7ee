use Rattle.bdi_page.proofs.Told.{pages_same}
use Rattle.bdi_page.proofs.laws.packings_have_one_page.Goals as goal

pub returns : goal.returns
returns c bytes page other is also k l =
    pages_same c.lines_have_one_coding.ensures.few c.codings_have_one_line.ensures.code
    c.codings_have_one_line.ensures.line bytes page other is also k l
