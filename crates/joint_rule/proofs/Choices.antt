-- What the call that a giving notes has found, chosen by the page that its piece sees.
use Rattle.plain_disk.specs.Idles.{may_write}
use Rattle.std.proofs.Common.{◌≡◌, ◌+◌, ◌*◌, ◌-◌, ◌/◌, ◌<◌, ◌∷◌, ◌++◌, ◌∙◌, ℕ, Bool, true, false, cond, eqb, List, [], Some, None, slice_get, refl, sym, ap, subst, arith, inl, inr, ⊎_elim}
use Rattle.backing_dev.specs.Dev.{IsHonestDevice}
use Rattle.bdi_page.specs.Packing.{IsPage}
use Rattle.call_history.specs.Parts.{EndsSo, Follows, noted_on, program}
use Rattle.call_history.specs.Shows.{Sees, SeesSo, tag_by}
use Rattle.call_history.specs.declared.part.Done.{Done}
use Rattle.call_history.specs.declared.part.Part.{Part}
use Rattle.joint_rule.proofs.Apart.{piece_lacks}
use Rattle.joint_rule.proofs.Chosen.{Chosen, FindsSo}
use Rattle.joint_rule.proofs.Events.{Event}
use Rattle.joint_rule.proofs.Facts.{Known, known_finding}
use Rattle.joint_rule.proofs.Finds.{Alike, content_alike, held_alike}
use Rattle.joint_rule.proofs.Tagged.{Lacks, changed, changed_here, ruled_changed, shown_lacks}
use Rattle.joint_rule.proofs.Gifts.{fit, is_named, stage}
use Rattle.joint_rule.proofs.Pages.{LeavesSo, content_on, content_sector, sector_of, whole_same}
use Rattle.joint_rule.specs.Begins.{Begin, back_at, content, finding, ground_of}
use Rattle.joint_rule.specs.Rule.{OfOrder, Ruled, ShowsOrder, done_by, dones}
use Rattle.joint_rule.specs.Stages.{FailBy, IsRight, IsSeen, Looks, MaySeeOther}
use Rattle.joint_rule.specs.Weights.{HeldAll}
use Rattle.lock_row.specs.declared.names.At.TheVariants.{Leaving, Ready}
use Rattle.lock_row.specs.declared.names.State.{State}
use Rattle.page_steps.specs.Pages.{page_after, page_in}
use Rattle.page_steps.specs.Steps.{DiskHeld, Here, slot}
use Rattle.plain_disk.specs.Phases.{held_after}
use Rattle.slot_entry.specs.Entries.{EntryState}
use Rattle.std.proofs.lemmas.Bool.{cases_Bool, eqb-true, eq-eqb}
use Rattle.std.specs.Prelude.{⊤}
use Rattle.zr_base.specs.Plain.{Finds, IsSector, Look, named, start_from}
use Rattle.zr_base.specs.Sectors.{page_sector}
use Rattle.zr_base.specs.declared.op.Op.{Op}
use Rattle.zr_base.specs.declared.op.Op.TheVariants.{Compact, Discard, Idle, Read, Write, Writeback}
use Rattle.zr_base.specs.declared.op.Tag.{Tag}
use Rattle.joint_rule.proofs.Events as event
use Rattle.lock_row.specs.declared.names.Held.TheVariants as holds

-- ---- a page that is seen

-- the sectors of a page, and elsewhere what is held
abbrev look_at : ℕ → List ℕ → Look
look_at p page s old = cond (eqb (s / 8) p) (page_sector page (s - 8 * p)) old

look_sector : (p : ℕ) (page : List ℕ) (s : ℕ) (old : List ℕ) → IsPage page → IsSector old
    → IsSector (look_at p page s old)
look_sector p page s old is i = elim (cases_Bool (eqb (s / 8) p)) [
  | inl on ↦ rw on (let e = eqb-true (s / 8) p on in sector_of page (s - 8 * p) (omega arith) is)
  | inr off ↦ rw off i
]

look_here : (p : ℕ) (page : List ℕ) (k : ℕ) (old : List ℕ) → k < 8
    → page_sector page k ≡ look_at p page (8 * p + k) old
look_here p page k old lt =
    let there : eqb ((8 * p + k) / 8) p ≡ true = eq-eqb ((8 * p + k) / 8) p (omega arith) in
    ap (page_sector page) (let q : k ≡ 8 * p + k - 8 * p = omega arith in q)
    ∙ sym (ap (λ (b : Bool). cond b (page_sector page (8 * p + k - 8 * p)) old) there)

module _ (g : Begin) (p : ℕ) (order : List Tag) where
  -- What a call may find in the sectors of its page, so that it sees this one.
  pub record Sight (page : List ℕ) : Type 0 where
    pub look : Look
    pub sectors : (s : ℕ) (old : List ℕ) → IsSector old → IsSector (look s old)
    pub honest : IsHonestDevice g.device → (s : ℕ) (old : List ℕ) → look s old ≡ old
    pub held : may_write g.given.backed g.given.actors ≡ false → back_at g p order ≡ false
        → (s : ℕ) (old : List ℕ) → look s old ≡ old
    pub sees : Sees look p (content g p order) page

  -- it sees the page that is held
  plain_sight : (page : List ℕ) → page ≡ content g p order → Sight page
  plain_sight page same = record {
    look = λ s old. old;
    sectors = λ s old i. i;
    honest = λ is s old. refl;
    held = λ none off s old. refl;
    sees = record { each = λ k lt. ap (λ (b : List ℕ). page_sector b k) same };
  }

  -- or another
  other_sight : (page : List ℕ) → MaySeeOther g p order → IsPage page → Sight page
  other_sight page may is = record {
    look = look_at p page;
    sectors = λ s old i. look_sector p page s old is i;
    honest = λ on. absurd (may.0 on);
    held = λ none off. absurd (⊎_elim (λ on. let q : true ≡ false = sym on ∙ off in cc)
        (λ on. let q : true ≡ false = sym on ∙ none in cc) may.1);
    sees = record { each = λ k lt. look_here p page k (page_sector (content g p order) k) lt };
  }

  sight_of : (page : List ℕ) → IsSeen (MaySeeOther g p order) page (content g p order) → Sight page
  sight_of page s = ⊎_elim (plain_sight page) (λ o. other_sight page o.0 o.1) s

-- a read that isn't refused sees the page, or another where it may
read_seen : (other : Type 0) (g : Begin) (q : Part) (op : Op) (p : ℕ) (page was : List ℕ) → Looks op
    → FailBy g q op None → IsRight other op p page was → IsSeen other page was
read_seen other g q (Write start count stuff) p page was k f r = absurd f
read_seen other g q (Read start count) p page was k f r = r
read_seen other g q (Discard start count) p page was k f r = absurd k
read_seen other g q (Idle age) p page was k f r = absurd k
read_seen other g q (Writeback mode) p page was k f r = absurd k
read_seen other g q Compact p page was k f r = absurd k

-- a write of this page leaves what one of that page leaves
abbrev SameAfter : Part → Op → List ℕ → List ℕ → Type 0
SameAfter p (Write start count stuff) seen page = page_after p seen ≡ page_after p page
SameAfter p _ seen page = ⊤

-- a piece that changes its page may have seen a page from which it leaves the same
change_sight : (g : Begin) (p : Part) (order : List Tag) (page : List ℕ) (op : Op) → p.op ≡ op
    → IsRight (MaySeeOther g p.page order) op p.page page (content g p.page order)
    → (seen : List ℕ) × Sight g p.page order seen × SameAfter p op seen page
change_sight g p order page (Write start count stuff) e r = ⊎_elim
    (λ w. (
      content g p.page order,
      plain_sight g p.page order (content g p.page order) refl,
      sym (whole_same p start count stuff page (content g p.page order) e w),
    ))
    (λ s. (page, sight_of g p.page order page s, refl)) r
change_sight g p order page (Read start count) e r =
    (content g p.page order, plain_sight g p.page order (content g p.page order) refl, tt)
change_sight g p order page (Discard start count) e r =
    (content g p.page order, plain_sight g p.page order (content g p.page order) refl, tt)
change_sight g p order page (Idle age) e r =
    (content g p.page order, plain_sight g p.page order (content g p.page order) refl, tt)
change_sight g p order page (Writeback mode) e r =
    (content g p.page order, plain_sight g p.page order (content g p.page order) refl, tt)
change_sight g p order page Compact e r =
    (content g p.page order, plain_sight g p.page order (content g p.page order) refl, tt)

-- ---- what is found

-- Calls find something by which the state has the rule, and the giving what it needs of it.
pub record Choice (g : Begin) (w : State DiskHeld) (l : Here) (v : DiskHeld) (m : Here) : Type 0
  where
    pub finds : ℕ → Finds
    pub ruled : Ruled (finding g finds) w
    pub ev : Event (finding g finds) l v m
    pub chosen : Chosen (finding g finds) l v m ev

module _ (g : Begin) (ok : Known g) (w : State DiskHeld) (r : Ruled g w) (a : ℕ) (l : Here)
    (who : slice_get w.locals a ≡ Some l) where
  module _ (p : Part) (rest : List Part) (todo : l.todo ≡ p ∷ rest) (e : EntryState)
      (held : l.held ≡ (slot p.page, holds.Slot e) ∷ []) where
    abbrev t : Tag
    t = tag_by l.actor p

    is : named g.given.actors t ≡ Some p.op
    is = is_named g ok w r.joint a l who p rest todo

    lacks : Lacks p.nr (noted_on p.page (dones w.locals l.actor))
    lacks =
        let f = fit g ok w r.joint a l who p rest todo in
        subst (λ (ds : List Done). Lacks p.nr (noted_on p.page ds))
        (sym (ap (dones w.locals) f.who ∙ ap done_by who))
        (piece_lacks (EndsSo (ground_of g)) g.given.size g.given.backed f.ops l.done p rest
        (subst (λ (ps : List Part). Follows (EndsSo (ground_of g)) (program g.given.size g.given.backed 0 f.ops)
        l.done ps) todo f.follows))

    module _ (seen : List ℕ) (s : Sight g p.page e.order seen) where
      abbrev finds : ℕ → Finds
      finds = changed g p.page t s.look

      abbrev h : Begin
      h = finding g finds

      ruled : Ruled h w
      ruled = ruled_changed g p.page t s.look w lacks s.sectors s.honest r

      known : Known h
      known = known_finding g finds ok ruled.finds

      alike : Alike g finds p.page e.order
      alike =
          let o = subst (HeldAll g.given.size (OfOrder (ShowsOrder g w.locals))) held
          (r.told.in_local a l who) in
          shown_lacks g p.page t s.look (dones w.locals) p.page (content g p.page e.order) e.order
          lacks o.0.shows

      -- where the page isn't on the device, the call finds what is held
      finds_so : FindsSo h p e.order t
      finds_so none off sector old = (λ i. changed_here g p.page t s.look i sector old)
          ∙ s.held none off sector old

      -- the sector from which a write starts
      write_from : (k : ℕ) → k < 8 → h.given.finds p.page t (8 * p.page + k)
          (held_after h.given p.page e.order (8 * p.page + k)) ≡ page_sector seen k
      write_from k lt =
          (λ i. changed_here g p.page t s.look i (8 * p.page + k)
          (held_after h.given p.page e.order (8 * p.page + k)))
          ∙ ap (s.look (8 * p.page + k))
          (sym (held_alike g finds p.page e.order (8 * p.page + k) alike)
          ∙ sym (content_sector g ok p.page e.order k lt))
          ∙ sym (s.sees.each k lt)

      leaves_so : (page : List ℕ) (op : Op) → p.op ≡ op → SameAfter p op seen page
          → LeavesSo h p (e.order ++ t ∷ []) op page
      leaves_so page (Write start count stuff) op_is same =
          content_on h known p e.order t is seen (λ k lt.
          ap (λ (o : Op). start_from o (h.given.finds p.page t) (8 * p.page + k)
          (held_after h.given p.page e.order (8 * p.page + k))) op_is ∙ write_from k lt) ∙ same
      leaves_so page (Read start count) op_is same = tt
      leaves_so page (Discard start count) op_is same = tt
      leaves_so page (Idle age) op_is same = tt
      leaves_so page (Writeback mode) op_is same = tt
      leaves_so page Compact op_is same = tt

      sees : Sees (h.given.finds p.page t) p.page (content h p.page e.order) seen
      sees = record {
        each = λ k lt. s.sees.each k lt ∙ (λ i. sym (changed_here g p.page t s.look) i
            (8 * p.page + k) (page_sector (content_alike g finds p.page e.order alike i) k));
      }

      sees_so : (op : Op) → SeesSo op (h.given.finds p.page t) p.page (content h p.page e.order) seen
      sees_so (Write start count stuff) = tt
      sees_so (Read start count) = sees
      sees_so (Discard start count) = tt
      sees_so (Idle age) = tt
      sees_so (Writeback mode) = tt
      sees_so Compact = tt

  pub choice : (v : DiskHeld) (m : Here) → Event g l v m → Choice g w l v m
  choice v m (event.puts p rest e f todo at held notes v_is m_is) =
      let st = stage g ok w r.joint a l who p rest todo _ Ready held at in
      let c = change_sight g p e.order (page_in l.page e.kept) p.op refl st.right in record {
        finds = finds p rest todo e held c.0 c.1;
        ruled = ruled p rest todo e held c.0 c.1;
        ev = event.puts p rest e f todo at held notes v_is m_is;
        chosen = record {
          finds = finds_so p rest todo e held c.0 c.1;
          leaves = leaves_so p rest todo e held c.0 c.1 (page_in l.page e.kept) p.op refl c.2;
        };
      }
  choice v m (event.reads p rest e f todo at held well notes v_is m_is) =
      let st = stage g ok w r.joint a l who p rest todo _ Leaving held at in
      let s = sight_of g p.page e.order (page_in l.page e.kept) (read_seen
      (MaySeeOther g p.page e.order) g p p.op p.page (page_in l.page e.kept)
      (content g p.page e.order) st.kind (subst (FailBy g p p.op) well st.fails) st.right) in record {
        finds = finds p rest todo e held (page_in l.page e.kept) s;
        ruled = ruled p rest todo e held (page_in l.page e.kept) s;
        ev = event.reads p rest e f todo at held well notes v_is m_is;
        chosen = record {
          finds = finds_so p rest todo e held (page_in l.page e.kept) s;
          sees = sees_so p rest todo e held (page_in l.page e.kept) s p.op;
        };
      }
  choice v m (event.errs p rest e f x todo at held bad a_read notes v_is m_is) =
      let was = content g p.page e.order in
      let s = plain_sight g p.page e.order was refl in record {
        finds = finds p rest todo e held was s;
        ruled = ruled p rest todo e held was s;
        ev = event.errs p rest e f x todo at held bad a_read notes v_is m_is;
        chosen = finds_so p rest todo e held was s;
      }
  choice v m ev = record { finds = g.given.finds; ruled = r; ev = ev; chosen = tt }
