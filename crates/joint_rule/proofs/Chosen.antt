-- What a giving that notes a call on its page needs of what the call finds there.
use Rattle.plain_disk.specs.Idles.{may_write}
use Rattle.std.proofs.Common.{◌≡◌, ◌∷◌, ◌++◌, ℕ, false, List, []}
use Rattle.std.specs.Prelude.{⊤}
use Rattle.zr_base.specs.declared.op.Tag.{Tag}
use Rattle.call_history.specs.Shows.{SeesSo, tag_by}
use Rattle.call_history.specs.declared.part.Part.{Part}
use Rattle.joint_rule.proofs.Events.{Event}
use Rattle.joint_rule.proofs.Pages.{LeavesSo}
use Rattle.joint_rule.specs.Begins.{Begin, back_at, content}
use Rattle.page_steps.specs.Pages.{page_in}
use Rattle.page_steps.specs.Steps.{DiskHeld, Here}
use Rattle.joint_rule.proofs.Events as event

-- where the page isn't on the device and nothing is written back, the call finds what is held
abbrev pub FindsSo : Begin → Part → List Tag → Tag → Type 0
FindsSo g p order t = may_write g.given.backed g.given.actors ≡ false
    → back_at g p.page order ≡ false → (s : ℕ) (old : List ℕ) → g.given.finds p.page t s old ≡ old

-- A call that changes its page leaves what its piece leaves of the page that it sees.
pub record PutsSo (g : Begin) (p : Part) (order : List Tag) (t : Tag) (page : List ℕ)
    : Type 0 where
  pub finds : FindsSo g p order t
  pub leaves : LeavesSo g p (order ++ t ∷ []) p.op page

-- A call that reads its page finds the page that its piece sees.
pub record ReadsSo (g : Begin) (p : Part) (order : List Tag) (t : Tag) (page : List ℕ)
    : Type 0 where
  pub finds : FindsSo g p order t
  pub sees : SeesSo p.op (g.given.finds p.page t) p.page (content g p.page order) page

-- what a giving needs of what its call finds, where it notes one
abbrev pub Chosen : (g : Begin) (l : Here) (v : DiskHeld) (m : Here) → Event g l v m → Type 0
Chosen g l v m (event.puts p rest e f todo at held notes v_is m_is) =
    PutsSo g p e.order (tag_by l.actor p) (page_in l.page e.kept)
Chosen g l v m (event.reads p rest e f todo at held well notes v_is m_is) =
    ReadsSo g p e.order (tag_by l.actor p) (page_in l.page e.kept)
Chosen g l v m (event.errs p rest e f x todo at held bad a_read notes v_is m_is) =
    FindsSo g p e.order (tag_by l.actor p)
Chosen g l v m _ = ⊤
