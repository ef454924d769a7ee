-- What each giving does: the law of its event.
use Rattle.joint_rule.proofs.Visits.{VisitEvent}
use Rattle.joint_rule.proofs.Evictions.{visit_frees, visit_pays, visit_pins, visit_unpins}
use Rattle.std.proofs.Common.{◌≡◌, ◌∷◌, ◌∙◌, ℕ, cond, List, Some, slice_get, sym, ap, subst, refl}
use Rattle.joint_rule.proofs.Scans.{give_scans, give_stops}
use Rattle.call_history.specs.declared.part.Part.{Part}
use Rattle.call_history.specs.declared.part.PartEnd.TheVariants.{AtLimit, NoMemory}
use Rattle.joint_rule.proofs.Accounts.{give_counts, give_repays}
use Rattle.joint_rule.proofs.Compactions.{give_closes, give_moves, give_shrinks, give_sweeps}
use Rattle.joint_rule.proofs.Device.{give_errs, give_fetches, give_leaves, give_misses, give_releases}
use Rattle.joint_rule.proofs.Events.{Event}
use Rattle.joint_rule.proofs.Chosen.{Chosen}
use Rattle.joint_rule.proofs.Facts.{Known}
use Rattle.joint_rule.proofs.Gifts.{Gift, give_fails, give_puts, give_reads, give_refuses, locks, stage}
use Rattle.joint_rule.proofs.Objects.{give_charges, give_frees, give_pins, give_quits, give_refused, give_stows, give_unpins, limit_refusal, memory_refusal}
use Rattle.joint_rule.specs.Begins.{Begin, terms}
use Rattle.joint_rule.specs.Joint.{Joint}
use Rattle.joint_rule.specs.Weights.{map_budgeted, none}
use Rattle.lock_row.specs.Totals.{total}
use Rattle.lock_row.specs.declared.names.At.{At}
use Rattle.lock_row.specs.declared.names.At.TheVariants.{Both, Counting, Fetching, Freeing, Giving, Leaving, Made, Missed, Pinning, Ready, Refusing, Releasing, Unpinning, Moving, Shrinking, Marking, Visiting}
use Rattle.lock_row.specs.declared.names.LockNo.{LockNo}
use Rattle.lock_row.specs.declared.names.Plan.TheVariants.{Give}
use Rattle.lock_row.specs.declared.names.State.{State}
use Rattle.page_steps.specs.Pages.{new_class, next_form}
use Rattle.page_steps.specs.Steps.{DiskHeld, Here, class_by, entry_in, plan, plan_at, plan_by, slot, spot}
use Rattle.slot_entry.specs.Forms.{class_in}
use Rattle.slot_entry.specs.declared.kept.Kept.{Kept}
use Rattle.slot_entry.specs.declared.kept.Stored.{Stored}
use Rattle.joint_rule.proofs.Events as event
use Rattle.joint_rule.proofs.VisitGifts as gifts
use Rattle.joint_rule.proofs.Reservations as blocks
use Rattle.joint_rule.proofs.Visits as visit
use Rattle.lock_row.specs.declared.names.Step.TheVariants as step
use Rattle.lock_row.specs.declared.names.LockNo.TheVariants as lock
use Rattle.slot_entry.specs.declared.kept.Kept.TheVariants as kept

module _ (g : Begin) (ok : Known g) (w : State DiskHeld) (j : Joint g w) (a : ℕ) (l : Here)
    (who : slice_get w.locals a ≡ Some l) (k : LockNo) (v : DiskHeld) (m : Here)
    (what : plan (terms g) l ≡ Give k) where
  at_lock : (m₀ : Here) (k₀ : LockNo) (v₀ : DiskHeld) → k₀ ≡ k → v ≡ v₀ → m ≡ m₀
      → Gift g w a l k₀ v₀ m₀ → Gift g w a l k v m
  at_lock m₀ k₀ v₀ e f h t = subst (λ (x : LockNo × DiskHeld × Here). Gift g w a l x.0 x.1 x.2)
      (λ i. (e i, sym f i, sym h i)) t

  pub event_is : (p : Part) (rest : List Part) (held : List (LockNo × DiskHeld)) (at : At)
      → l.todo ≡ p ∷ rest → l.held ≡ held → l.at ≡ at
      → plan_at g.given.size at p (class_by (entry_in held).kept)
      (class_in g.chain (next_form p l.page (entry_in held).kept)) ≡ Give k
  event_is p rest held at todo held_is at_is = subst (λ (x : List Part × List (LockNo × DiskHeld)
      × At). plan_by g.given.size x.0 x.2 (class_by (entry_in x.1).kept)
      (new_class g.chain x.0 l.page (entry_in x.1).kept) ≡ Give k)
      (λ i. (todo i, held_is i, at_is i)) what

  pub given_lock : (x : LockNo) → Give x ≡ Give k → x ≡ k
  given_lock x e = cc

  old_lock : (x : Kept) (o : Stored) → x ≡ kept.Obj o → Give (lock.Class (class_by x)) ≡ Give k
      → lock.Class o.class ≡ k
  old_lock x o e f = sym (ap (λ (y : Kept). lock.Class (class_by y)) e)
      ∙ given_lock (lock.Class (class_by x)) f

  new_lock : (c d : ℕ) (xs ys : List LockNo) → lock.Class c ∷ xs ≡ lock.Class d ∷ ys
      → Give (lock.Class d) ≡ Give k → lock.Class c ≡ k
  new_lock c d xs ys e f = (let q : lock.Class c ≡ lock.Class d = cc in q)
      ∙ given_lock (lock.Class d) f

  module _ (limit_is : total (spot g.given.size) map_budgeted none w
      ≡ cond {A = ℕ} g.budgeted 1 0) where
    -- a giving of a writeback
    visit_gift : VisitEvent g l v m → Gift g w a l k v m
    visit_gift (visit.passes p rest x e todo at held v_is on) =
        at_lock _ (slot x.page) _ (given_lock (slot x.page)
        (event_is p rest _ (Visiting step.Passing x) todo held at)) v_is refl
        (gifts.give_passes g ok w j a l who p rest todo x e held at m on)
    visit_gift (visit.reserves p rest x e y b todo at held answer v_is m_is) =
        at_lock _ lock.Blocks _ (given_lock lock.Blocks
        (event_is p rest _ (Visiting step.Reserving x) todo held at)) v_is m_is
        (blocks.give_reserves g ok w j a l who p rest todo x e y held at b answer)
    visit_gift (visit.refrains p rest x e y r end todo at held answer is v_is m_is) =
        at_lock _ lock.Blocks _ (given_lock lock.Blocks
        (event_is p rest _ (Visiting step.Reserving x) todo held at)) v_is m_is
        (blocks.give_refrains g ok w j a l who p rest todo x e y held at limit_is r end answer is)
    visit_gift (visit.quits p rest x e end todo at held bad v_is m_is) =
        at_lock _ (slot x.page) _ (given_lock (slot x.page)
        (event_is p rest _ (Visiting step.Quitting x) todo held at)) v_is refl
        (gifts.give_quits g ok w j a l who p rest todo x e held at m end bad m_is)
    visit_gift (visit.pins p rest x e o q q' u u' cell todo at held is sw named_u free taken is_cell
        in_cell v_is m_is) =
        at_lock _ (lock.Class o.class) _ (old_lock e.kept o is
        (event_is p rest _ (Visiting step.Pinning x) todo held at)) v_is m_is
        (visit_pins g ok w j a l who p rest todo x e o q held is q' u u' sw named_u cell at free taken
        is_cell in_cell)
    visit_gift (visit.unpins p rest x e o q q' u u' todo at held is sw named_u taken free v_is m_is) =
        at_lock _ (lock.Class o.class) _ (old_lock e.kept o is
        (event_is p rest _ (Visiting step.Unpinning x) todo held at)) v_is m_is
        (visit_unpins g ok w j a l who p rest todo x e o q held is q' u u' sw named_u at taken free)
    visit_gift (visit.marks p rest x e b todo at held block v_is m_is) =
        at_lock _ (slot x.page) _ (given_lock (slot x.page)
        (event_is p rest _ (Visiting step.Marking x) todo held at)) v_is m_is
        (gifts.give_marks g ok w j a l who p rest todo x e held at b block)
    visit_gift (visit.stores p rest x b page d d' todo at held block is write v_is m_is) =
        at_lock _ lock.Device _ (given_lock lock.Device
        (event_is p rest _ (Visiting step.Storing x) todo held at)) v_is m_is
        (blocks.give_stores g ok w j a l who p rest todo x d d' held b block at page is write)
    visit_gift (visit.spoils p rest x b d d' fault todo at held block failed v_is m_is) =
        at_lock _ lock.Device _ (given_lock lock.Device
        (event_is p rest _ (Visiting step.Storing x) todo held at)) v_is m_is
        (blocks.give_spoils g ok w j a l who p rest todo x d d' held b block at fault failed)
    visit_gift (visit.frees p rest x e o q q' u frames todo at held is up named_u home v_is m_is) =
        at_lock _ (lock.Class o.class) _ (old_lock e.kept o is
        (event_is p rest _ (Visiting step.Freeing x) todo held at)) v_is m_is
        (visit_frees g ok w j a l who p rest todo x e o q held is q' u frames up named_u home at)
    visit_gift (visit.commits p rest x e b y todo at held block v_is m_is) =
        at_lock _ lock.Blocks _ (given_lock lock.Blocks
        (event_is p rest _ (Visiting step.Committing x) todo held at)) v_is m_is
        (blocks.give_commits g ok w j a l who p rest todo x e y held at b block)
    visit_gift (visit.pays p rest x e c was todo at held is v_is m_is) =
        at_lock _ lock.Account _ (given_lock lock.Account
        (event_is p rest _ (Visiting step.Paying x) todo held at)) v_is m_is
        (visit_pays g ok w j a l who p rest todo x e c was at held is)
    visit_gift (visit.puts p rest x e b todo at held block v_is on) =
        at_lock _ (slot x.page) _ (given_lock (slot x.page)
        (event_is p rest _ (Visiting step.Putting x) todo held at)) v_is refl
        (gifts.give_puts g ok w j a l who p rest todo x e held at b block m on)
    visit_gift (visit.loses p rest x e todo at held v_is m_is) =
        let st = stage g ok w j a l who p rest todo _ (Visiting step.Losing x) held at in
        let b = gifts.some_block x.block st.visits.step.1 in
        at_lock _ (slot x.page) _ (given_lock (slot x.page)
        (event_is p rest _ (Visiting step.Losing x) todo held at)) v_is m_is
        (gifts.give_loses g ok w j a l who p rest todo x e held at b.0 b.1)
    visit_gift (visit.releases p rest x b y todo at held block well v_is on) =
        at_lock _ lock.Blocks _ (given_lock lock.Blocks
        (event_is p rest _ (Visiting step.Releasing x) todo held at)) v_is refl
        (blocks.give_releases g ok w j a l who p rest todo x y held b block at m on)
    visit_gift (visit.stops p rest x b y end todo at held block bad v_is m_is) =
        at_lock _ lock.Blocks _ (given_lock lock.Blocks
        (event_is p rest _ (Visiting step.Releasing x) todo held at)) v_is refl
        (blocks.give_stops g ok w j a l who p rest todo x y held b block at m end bad m_is)

    pub gift : (ev : Event g l v m) → Chosen g l v m ev → Gift g w a l k v m
    gift (event.visits t) chosen = visit_gift t
    gift (event.refuses p rest c todo at held v_is m_is) chosen =
        at_lock _ lock.Account _ (given_lock lock.Account (event_is p rest _ Refusing todo held at))
        v_is m_is (give_refuses g ok w j a l who p rest todo c at held)
    gift (event.pins p rest e o q q' u u' cell todo at held is sw named_u free taken is_cell in_cell
        lk v_is m_is) chosen =
        at_lock _ (lock.Class o.class) _ (old_lock e.kept o is
        (event_is p rest _ Pinning todo held at)) v_is m_is
        (give_pins g ok w j a l who p rest todo e o q held is q' u u' sw named_u cell at free
        taken is_cell in_cell)
    gift (event.unpins p rest e o q q' u u' todo at held is sw named_u taken free lk v_is m_is) chosen =
        at_lock _ (lock.Class o.class) _ (old_lock e.kept o is
        (event_is p rest _ Unpinning todo held at)) v_is m_is
        (give_unpins g ok w j a l who p rest todo e o q held is q' u u' sw named_u at taken free)
    gift (event.charges p rest e c q q' cl h need bytes huge todo at held is_form is_class within al
        v_is m_is) chosen =
        at_lock _ lock.Account _ (given_lock lock.Account (event_is p rest _ Both todo held at)) v_is
        m_is (give_charges g ok w j a l who p rest todo e c q cl at held q' h need bytes huge
        is_form is_class within al)
    gift (event.limits p rest e c q cl need todo at held is_need past v_is m_is) chosen =
        at_lock _ lock.Account _ (given_lock lock.Account (event_is p rest _ Both todo held at)) v_is
        m_is (give_refused g ok w j a l who p rest todo e c q cl at held
        (AtLimit c.pages need c.limit) (limit_refusal g ok w j a l who p rest todo e c q cl at
        held need is_need past))
    gift (event.starves p rest e c q cl todo at held v_is m_is) chosen =
        at_lock _ lock.Account _ (given_lock lock.Account (event_is p rest _ Both todo held at)) v_is
        m_is (give_refused g ok w j a l who p rest todo e c q cl at held NoMemory
        (memory_refusal g ok w j a l who p rest todo e c q cl at held))
    gift (event.stows p rest e q cl todo at held well v_is m_is) chosen =
        at_lock _ (lock.Class cl) _ (new_lock cl _ _ _ (locks g ok w j a l who p rest todo _ Made held
        at) (event_is p rest _ Made todo held at)) v_is m_is
        (give_stows g ok w j a l who p rest todo e q cl at held well)
    gift (event.quits p rest e q cl x todo at held bad v_is m_is) chosen =
        at_lock _ (lock.Class cl) _ (new_lock cl _ _ _ (locks g ok w j a l who p rest todo _ Made held
        at) (event_is p rest _ Made todo held at)) v_is m_is
        (give_quits g ok w j a l who p rest todo e q cl at held x bad)
    gift (event.frees p rest e o q q' frames todo at held is fp v_is m_is) chosen =
        at_lock _ (lock.Class o.class) _ (old_lock e.kept o is
        (event_is p rest _ Freeing todo held at)) v_is m_is
        (give_frees g ok w j a l who p rest todo e o q held is q' frames fp at)
    gift (event.repays p rest e c todo at held v_is m_is) chosen =
        at_lock _ lock.Account _ (given_lock lock.Account (event_is p rest _ Giving todo held at))
        v_is m_is (give_repays g ok w j a l who p rest todo e c at held)
    gift (event.puts p rest e f todo at held notes v_is m_is) chosen =
        at_lock _ (slot p.page) _ (given_lock (slot p.page) (event_is p rest _ Ready todo held at))
        v_is m_is (give_puts g ok w j a l who p rest todo e f held at notes chosen.leaves)
    gift (event.reads p rest e f todo at held well notes v_is m_is) chosen =
        at_lock _ (slot p.page) _ (given_lock (slot p.page) (event_is p rest _ Leaving todo held at))
        v_is m_is (give_reads g ok w j a l who p rest todo e f held at well notes)
    gift (event.fails p rest e x todo at held bad v_is m_is) chosen =
        at_lock _ (slot p.page) _ (given_lock (slot p.page) (event_is p rest _ Leaving todo held at))
        v_is m_is (give_fails g ok w j a l who p rest todo e e held at x bad)
    gift (event.fetches p rest e b d d' page todo at held is read is_page v_is m_is) chosen =
        at_lock _ lock.Device _ (given_lock lock.Device (event_is p rest _ Fetching todo held at))
        v_is m_is (give_fetches g ok w j a l who p rest todo e b d d' at held is page read is_page)
    gift (event.misses p rest e b d d' fault todo at held is failed v_is m_is) chosen =
        at_lock _ lock.Device _ (given_lock lock.Device (event_is p rest _ Fetching todo held at))
        v_is m_is (give_misses g ok w j a l who p rest todo e b d d' at held is fault failed)
    gift (event.counts p rest e c todo at held v_is m_is) chosen =
        at_lock _ lock.Account _ (given_lock lock.Account (event_is p rest _ Counting todo held at))
        v_is m_is (give_counts g ok w j a l who p rest todo e c at held)
    gift (event.errs p rest e f x todo at held bad a_read notes v_is m_is) chosen =
        at_lock _ (slot p.page) _ (given_lock (slot p.page) (event_is p rest _ Missed todo held at))
        v_is m_is (give_errs g ok w j a l who p rest todo e f at held x bad a_read notes)
    gift (event.leaves p rest e x todo at held bad other v_is m_is) chosen =
        at_lock _ (slot p.page) _ (given_lock (slot p.page) (event_is p rest _ Missed todo held at))
        v_is m_is (give_leaves g ok w j a l who p rest todo e e at held x bad)
    gift (event.releases p rest e b x todo at held is v_is m_is) chosen =
        at_lock _ lock.Blocks _ (given_lock lock.Blocks (event_is p rest _ Releasing todo held at))
        v_is m_is (give_releases g ok w j a l who p rest todo e b x at held is)
    gift (event.scans p rest age x e todo op at held other v_is m_is) chosen =
        at_lock _ (slot x.page) _ (given_lock (slot x.page)
        (event_is p rest _ (Marking x) todo held at)) v_is m_is
        (give_scans g ok w j a l who p rest todo age op x e at held other)
    gift (event.stops p rest age x e todo op at held last v_is m_is) chosen =
        at_lock _ (slot x.page) _ (given_lock (slot x.page)
        (event_is p rest _ (Marking x) todo held at)) v_is m_is
        (give_stops g ok w j a l who p rest todo age op x e at held)
    gift (event.moves p rest x q q' u u' budget frames todo at held sh some one v_is m_is) chosen =
        at_lock _ (lock.Class x.class) _ (given_lock (lock.Class x.class)
        (event_is p rest _ (Moving x) todo held at)) v_is m_is
        (give_moves g ok w j a l who p rest todo x q at held q' u u' frames sh budget)
    gift (event.sweeps p rest x q todo at held stuck other v_is m_is) chosen =
        at_lock _ (lock.Class x.class) _ (given_lock (lock.Class x.class)
        (event_is p rest _ (Moving x) todo held at)) v_is m_is
        (give_sweeps g ok w j a l who p rest todo x q at held)
    gift (event.closes p rest x q todo at held stuck last v_is m_is) chosen =
        at_lock _ (lock.Class x.class) _ (given_lock (lock.Class x.class)
        (event_is p rest _ (Moving x) todo held at)) v_is m_is
        (give_closes g ok w j a l who p rest todo x q at held)
    gift (event.shrinks p rest x c todo at held v_is m_is) chosen =
        at_lock _ lock.Account _ (given_lock lock.Account
        (event_is p rest _ (Shrinking x) todo held at)) v_is m_is
        (give_shrinks g ok w j a l who p rest todo x c at held)
