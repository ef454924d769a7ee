use Rattle.std.proofs.Common.{◌≡◌, Some, None, sym, ap, ◌∙◌, arith}
use Rattle.std.specs.Option.{option_copied}
use Rattle.lock_row.specs.declared.names.Held.TheVariants as holds
use Rattle.lock_row.specs.Rows.{at_home}
use Rattle.page_steps.specs.Steps.{slot}
use Rattle.zr_core.proofs.Names.{cell_at, names_some}
use Rattle.zr_core.proofs.disk.World.entry.Goals as goal
use Rattle.zr_core.proofs.disk.World.entry.Goals.{After-value}

-- the value of the page's slot
value_at : (o : _) (c : After-value o)
    → option_copied c.value.result ≡ Some (holds.Slot c.requires.home.0)
value_at o c = c.value.ensures ∙ ap at_home (cell_at c.args.self.now.pages
    c.names_have_places.ensures.there (slot c.args.page.0) c.requires.page c.args.self.now.row
    (c.args.self.now.names ∙ names_some c.args.self.now.pages
    (let q = c.requires.page in omega arith)) ∙ c.requires.home.1)

pub unreachable-requires : goal.unreachable-requires
unreachable-requires o c =
    let v = value_at o (goal.at.unreachable-requires o c).After-value in
    let none : None ≡ Some (holds.Slot c.requires.home.0) = sym (ap option_copied c.in_default.is)
    ∙ v in cc

pub entry_in-requires : goal.entry_in-requires
entry_in-requires o c =
    let v = value_at o (goal.at.entry_in-requires o c).After-value in (
      c.requires.home.0,
      (let q : Some c.in-Some.value.now ≡ Some (holds.Slot c.requires.home.0) =
          sym (ap option_copied c.in-Some.is) ∙ v in
          let r : c.in-Some.value.now ≡ holds.Slot c.requires.home.0 = cc in r),
    )

pub returns : goal.returns
returns o c =
    let v = value_at o (goal.at.returns o c).After-value in
    c.requires.home.1 ∙ ap Some (sym v ∙ ap option_copied c.in-Some.is
    ∙ ap Some c.entry_in.ensures)
