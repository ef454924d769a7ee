use Rattle.std.proofs.Common.{◌≡◌, ◌+◌, ◌≤◌, Some, None, slice_get, sym, ap, ◌∙◌}
use Rattle.std.specs.Option.{option_copied}
use Rattle.block_map.specs.BlockMap.{BlockMap}
use Rattle.lock_row.specs.declared.names.Held.TheVariants as holds
use Rattle.lock_row.specs.declared.names.LockNo.TheVariants as lock
use Rattle.lock_row.specs.Rows.{at_home}
use Rattle.zr_core.specs.Rests.{blocks_by}
use Rattle.zr_core.proofs.Names.{cell_at, names_some}
use Rattle.zr_core.proofs.Spares.{some_pages}
use Rattle.zr_core.proofs.Telling.{blocks_home, blocks_told}
use Rattle.zr_core.proofs.disk.World.blocks.Goals as goal
use Rattle.zr_core.proofs.disk.World.blocks.Goals.{After-value}

some : (o : _) (c : After-value o) → 1 ≤ c.args.self.now.pages
some o c = some_pages c.args.self.now.pages c.args.self.now.spare c.args.self.now.early
    (sym c.in_default.is)

-- the map that is at home
home : (o : _) (c : After-value o) → (d : BlockMap)
    × (slice_get c.args.self.now.row.cells (c.args.self.now.pages + 256) ≡ Some (Some (holds.Blocks d)))
home o c = blocks_home c.args.self.now.pages c.args.self.now.noted.items c.args.self.now.row.cells
    c.requires.rest (some o c)

value_at : (o : _) (c : After-value o)
    → option_copied c.value.result ≡ Some (holds.Blocks (home o c).0)
value_at o c = c.value.ensures ∙ ap at_home (cell_at c.args.self.now.pages
    c.names_have_places.ensures.there lock.Blocks tt c.args.self.now.row
    (c.args.self.now.names ∙ names_some c.args.self.now.pages (some o c)) ∙ (home o c).1)

pub unreachable-requires : goal.unreachable-requires
unreachable-requires o c =
    let v = value_at o (goal.at.unreachable-requires o c).After-value in
    let none : None ≡ Some _ = sym (ap option_copied c.in_default-value.is) ∙ v in cc

pub blocks_in-requires : goal.blocks_in-requires
blocks_in-requires o c =
    let a = (goal.at.blocks_in-requires o c).After-value in (
      (home o a).0,
      (let q : Some c.in-Some-value.value.now ≡ Some (holds.Blocks (home o a).0) =
          sym (ap option_copied c.in-Some-value.is) ∙ value_at o a in
          let r : c.in-Some-value.value.now ≡ holds.Blocks (home o a).0 = cc in r),
    )

pub returns : goal.returns
returns o c =
    let a = (goal.at.returns o c).After-value in
    let q : Some (holds.Blocks c.blocks_in.result.now) ≡ Some (holds.Blocks (home o a).0) =
    ap Some (sym c.blocks_in.ensures) ∙ sym (ap option_copied c.in-Some-value.is) ∙ value_at o a in
    let same : c.blocks_in.result.now ≡ (home o a).0 = cc in
    same ∙ sym (blocks_told c.args.self.now.pages c.args.self.now.row.cells _ (home o a).1)
    ∙ ap (λ s. blocks_by s c.args.self.now.pages c.args.self.now.row.cells) (sym c.in_default.is)
