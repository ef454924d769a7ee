-- The bytes stay the packing of the page as it was.
use Rattle.std.proofs.Common.{List, ℕ, sym, subst}
use Rattle.bdi_page.specs.Packing.{IsPage, IsPacking}
use Rattle.bench_packing.proofs.decodes.Goals as goal

pub decode-requires : goal.decode-requires
decode-requires c =
    let P : List ℕ → Type 0 = IsPacking c.args.page.now in
    let Q : List ℕ → Type 0 = IsPage in
    record {
      packing = (
        c.args.page.now,
        subst Q c.bytes.ensures.bytes c.tell_bytes.ensures,
        subst P (sym c.as_slice.ensures.value) c.pack.ensures.packing,
      );
    }
