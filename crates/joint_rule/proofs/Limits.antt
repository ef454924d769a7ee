-- What refusals and ends tell stays within what they are measured by.
use Rattle.std.proofs.Common.{◌≡◌, ◌*◌, ◌≤◌, ◌<◌, ◌∷◌, ◌++◌, ◌⊎◌, ℕ, zero, suc, List, [], Option, Some, None, slice_get, sym, refl, ap, subst, arith, inl, inr, ⊎_elim}
use Rattle.block_map.specs.BlockMap.{AnswersReserve, BlockMap}
use Rattle.block_map.specs.declared.blocks.Reserve.{Reserve}
use Rattle.block_map.specs.declared.blocks.Reserve.TheVariants.{BudgetSpent, Got, NoBlock}
use Rattle.call_history.specs.Parts.{KeepsTo}
use Rattle.call_history.specs.declared.part.Done.{Done}
use Rattle.call_history.specs.declared.part.Part.{Part}
use Rattle.call_history.specs.declared.part.PartEnd.{PartEnd}
use Rattle.call_history.specs.declared.part.PartEnd.TheVariants.{AtLimit, Carried, Eio, NoMemory, Whole}
use Rattle.class_pool.specs.Pool.{PoolState}
use Rattle.joint_rule.proofs.Balances.{none_fresh}
use Rattle.joint_rule.proofs.Bounds.{below, times_le}
use Rattle.joint_rule.proofs.Events.{Event}
use Rattle.joint_rule.proofs.Facts.{Known}
use Rattle.joint_rule.proofs.Gifts.{stage}
use Rattle.joint_rule.proofs.Lookups.{lone, mine_account, under_account}
use Rattle.joint_rule.proofs.Pages.{ever_now}
use Rattle.joint_rule.proofs.Places.{form_claim}
use Rattle.joint_rule.proofs.Pools.{chain_low}
use Rattle.joint_rule.proofs.Taken.{below_reach, below_taken, each_block}
use Rattle.joint_rule.proofs.Visits.{Onward, VisitEvent}
use Rattle.joint_rule.specs.Begins.{Begin, form_at, ground_of, image}
use Rattle.joint_rule.specs.Joint.{Joint, PoolFits, Sound}
use Rattle.joint_rule.specs.Rule.{FailKeeps, FewBack, KeepsLimits, reach_at}
use Rattle.joint_rule.specs.Weights.{HeldAll, claims, device_faults, each_one, ever_at, lost_in, map_size, none, pages, some_of, use_in}
use Rattle.lock_row.specs.Totals.{held_sum, total}
use Rattle.lock_row.specs.declared.names.At.{At}
use Rattle.lock_row.specs.declared.names.At.TheVariants.{Both, Visiting}
use Rattle.lock_row.specs.declared.names.LockNo.{LockNo}
use Rattle.lock_row.specs.declared.names.State.{State}
use Rattle.lock_row.specs.declared.names.Trip.{Trip}
use Rattle.mem_account.specs.Counters.{Counters, IsPastLimit}
use Rattle.page_steps.specs.Pools.{IsNeed}
use Rattle.page_steps.specs.Steps.{DiskHeld, Here, piece_over, slot, spot}
use Rattle.page_steps.specs.Visits.{lost_page, passed_page, refused_end, wrote_page}
use Rattle.plain_disk.specs.Ends.{Bounds}
use Rattle.slot_entry.specs.Entries.{EntryState}
use Rattle.zr_base.specs.declared.op.OpEnd.{OpEnd}
use Rattle.joint_rule.proofs.Events as event
use Rattle.joint_rule.proofs.Visits as visit
use Rattle.lock_row.specs.declared.names.Held.TheVariants as holds
use Rattle.lock_row.specs.declared.names.LockNo.TheVariants as lock
use Rattle.lock_row.specs.declared.names.Step.TheVariants as step
use Rattle.zr_base.specs.declared.op.OpEnd.TheVariants as ends

get_push : {A : Type 0} (xs : List A) (x : A) (i : ℕ) (y : A) → slice_get (xs ++ x ∷ []) i ≡ Some y
    → (slice_get xs i ≡ Some y) ⊎ (x ≡ y)
get_push [] x zero y e = inr (let q : Some x ≡ Some y = e in cc)
get_push [] x (suc i) y e = absurd (cc)
get_push (z ∷ zs) x zero y e = inl e
get_push (z ∷ zs) x (suc i) y e = get_push zs x i y e

-- ---- refusals

-- no bound falls
abbrev pub Above : Bounds → Bounds → Type 0
Above b c = (b.reach ≤ c.reach) × (b.faults ≤ c.faults) × (b.taken ≤ c.taken)
    × (b.others ≤ c.others)

module _ (g : Begin) (b c : Bounds) (up : Above b c) where
  keeps_up : (x : PartEnd) → KeepsTo (ground_of g) b x → KeepsTo (ground_of g) c x
  keeps_up Carried h = tt
  keeps_up NoMemory h = tt
  keeps_up (Whole (ends.Written wrote lost)) h = let t = up.3 in omega arith
  keeps_up (Whole (ends.Budget wrote lost)) h = let t = up.3 in omega arith
  keeps_up (Whole (ends.NoBlock wrote lost)) h =
      let t0 = up.0 in let t2 = up.2 in let t3 = up.3 in let h0 = h.0 in let h1 = h.1 in
      let h2 = h.2 in (omega arith, omega arith, omega arith)
  keeps_up (Whole (ends.WriteEio fault wrote lost)) h =
      let t1 = up.1 in let t3 = up.3 in let h0 = h.0 in let h1 = h.1 in (omega arith, omega arith)
  keeps_up (Whole x) h = tt
  keeps_up (AtLimit n need limit) h = let t = times_le g.chain b.reach c.reach up.0 in omega arith
  keeps_up (Eio fault) h = let t = up.1 in omega arith

  fail_up : (x : Option PartEnd) → FailKeeps g b x → FailKeeps g c x
  fail_up None h = tt
  fail_up (Some x) h = keeps_up x h

  pub limits_up : (l : Here) → KeepsLimits g b l → KeepsLimits g c l
  limits_up l h = record {
    over = λ i d e. keeps_up d.end (h.over i d e);
    now = fail_up l.fail h.now;
  }

  -- an actor with the same refusals, and one whose piece is over
  pub limits_same : (l m : Here) → m.done ≡ l.done → m.fail ≡ l.fail → KeepsLimits g b l
      → KeepsLimits g c m
  limits_same l m done fail h = record {
    over = λ i d e. keeps_up d.end (h.over i d (subst (λ (ds : List Done). slice_get ds i
        ≡ Some d) done e));
    now = subst (FailKeeps g c) (sym fail) (fail_up l.fail h.now);
  }

  limits_over : (l : Here) (p : Part) (end : PartEnd) (got : List (List ℕ)) (rest : List Part)
      → KeepsTo (ground_of g) c end → KeepsLimits g b l
      → KeepsLimits g c (piece_over l p end got rest)
  limits_over l p end got rest this h = record {
    over = λ i d e. ⊎_elim
        (λ old. keeps_up d.end (h.over i d old))
        (λ new. subst (λ (x : Done). KeepsTo (ground_of g) c x.end) new this)
        (get_push l.done (record { part = p; end = end; got = got }) i d e);
    now = tt;
  }

module _ (g : Begin) (ok : Known g) (w : State DiskHeld) (j : Joint g w) (a : ℕ) (l : Here)
    (who : slice_get w.locals a ≡ Some l) (k : LockNo) (v : DiskHeld) (m : Here) where
  abbrev n : ℕ
  n = g.given.size

  need_few : (q : PoolState) (need : ℕ) → PoolFits g.chain q → IsNeed q need → need ≤ g.chain
  need_few q need fits (inl x) = let e = x.1 in omega arith
  need_few q need fits (inr x) = let e = x.1 in let c = chain_low g.chain q fits ok.proper.least in
      omega arith

  -- a refusal at the limit is within what pages and actors can have made
  refused_below : (p : Part) (rest : List Part) (e : EntryState) (c : Counters) (q : PoolState)
      (cl need : ℕ) → l.todo ≡ p ∷ rest → l.at ≡ Both
      → l.held ≡ (lock.Account, holds.Account c) ∷ (lock.Class cl, holds.Class q) ∷ (
        slot p.page,
        holds.Slot e,
      ) ∷ []
      → IsNeed q need → IsPastLimit c need → c.limit < g.chain * (reach_at g w a).reach
  refused_below p rest e c q cl need todo at held is_need past =
      let st = stage g ok w j a l who p rest todo _ Both held at in
      let sounds = subst (HeldAll n (Sound g)) held (j.each.in_local a l who).sound in
      let x = ap (held_sum (spot n) (claims g each_one)) held in
      let y = ap (held_sum (spot n) (ever_at g)) held in
      let f = none_fresh each_one l.fresh st.made in
      let o = ap some_of st.owes in
      let lf = form_claim g.chain (form_at g p.page e.order) e.kept
      (image g p.page e.order) st.stands in
      let le = ever_now g p.page e.order in
      let z = lone g w j a l who lock.Account pages (under_account g (λ i. i.pages))
      (mine_account g w j a l who c _ held) in
      let r = ap (held_sum (spot n) pages) held in
      let b = below g ok w j a l who (omega arith) in
      let few = need_few q need sounds.1.0.1 is_need in let p1 = past.1 in omega arith

  -- a writeback's ends
  module _ (few : FewBack g w) (size : total (spot n) map_size none w ≡ g.blocks)
      (c : Bounds) (up : Above (reach_at g w a) c) (low : device_faults (spot n k) v ≤ c.faults)
      (lost : lost_in l.at l.fail ≤ (reach_at g w a).others)
      (h : KeepsLimits g (reach_at g w a) l) where
    same_limits : (m₀ : Here) → m ≡ m₀ → m₀.done ≡ l.done → m₀.fail ≡ l.fail → KeepsLimits g c m
    same_limits m₀ is done fail = subst (KeepsLimits g c) (sym is)
        (limits_same g (reach_at g w a) c up l m₀ done fail h)

    ends_so : (m₀ : Here) (x : PartEnd) → m ≡ m₀ → m₀.done ≡ l.done → m₀.fail ≡ Some x
        → KeepsTo (ground_of g) c x → KeepsLimits g c m
    ends_so m₀ x is done fail keeps = subst (KeepsLimits g c) (sym is) (record {
      over = λ i d e. (limits_up g (reach_at g w a) c up l h).over i d
          (subst (λ (ds : List Done). slice_get ds i ≡ Some d) done e);
      now = subst (FailKeeps g c) (sym fail) keeps;
    })

    -- its piece is over
    quiet_limits : (p : Part) (rest : List Part) (x : PartEnd) (got : List (List ℕ))
        → KeepsTo (ground_of g) c x → m ≡ piece_over l p x got rest → KeepsLimits g c m
    quiet_limits p rest x got keeps is = subst (KeepsLimits g c) (sym is)
        (limits_over g (reach_at g w a) c up l p x got rest keeps h)

    -- it ends as was told
    over_limits : (p : Part) (rest : List Part) (x : PartEnd) → l.fail ≡ Some x
        → m ≡ piece_over l p x [] rest → KeepsLimits g c m
    over_limits p rest x bad is = quiet_limits p rest x []
        (fail_up g (reach_at g w a) c up (Some x) (subst (FailKeeps g (reach_at g w a)) bad h.now)) is

    onward_limits : (p : Part) (rest : List Part) (y : Trip) → y.lost ≤ c.others
        → Onward g l p rest y m → KeepsLimits g c m
    onward_limits p rest y le (visit.next off m_is) = subst (KeepsLimits g c) (sym m_is) (record {
      over = (limits_up g (reach_at g w a) c up l h).over;
      now = tt;
    })
    onward_limits p rest y le (visit.last on m_is) =
        quiet_limits p rest (Whole (ends.Written y.wrote y.lost)) [] le m_is

    -- no block was reserved
    refused_keeps : (x : Trip) (y : BlockMap) (e : EntryState) (r : Reserve) (end : OpEnd)
        → l.at ≡ Visiting step.Reserving x
        → l.held ≡ (lock.Blocks, holds.Blocks y) ∷ (slot x.page, holds.Slot e) ∷ []
        → AnswersReserve y r → refused_end r x ≡ Some end → KeepsTo (ground_of g) c (Whole end)
    refused_keeps x y e (Got b) end at held answer is = absurd (cc)
    refused_keeps x y e BudgetSpent end at held answer is =
        let q : ends.Budget x.wrote x.lost ≡ end = cc in
        subst (λ (z : OpEnd). KeepsTo (ground_of g) c (Whole z)) q
        (let t = ap (λ (s : At). lost_in s l.fail) at in let u = up.3 in omega arith)
    refused_keeps x y e NoBlock end at held answer is =
        let q : ends.NoBlock x.wrote x.lost ≡ end = cc in
        let bare = ap (use_in each_block) at in
        let reach = below_reach g w j a l who y _ held (λ f. refl) bare size answer.1 in
        let taken = below_taken g w j a l who y _ held (λ f. refl) bare size answer.1 few in
        subst (λ (z : OpEnd). KeepsTo (ground_of g) c (Whole z)) q (
          (let t = ap (λ (s : At). lost_in s l.fail) at in let u = up.3 in omega arith),
          (let u = up.0 in omega arith),
          (let u = up.2 in omega arith),
        )

    visit_limits : VisitEvent g l v m → KeepsLimits g c m
    visit_limits (visit.passes p rest x e todo at held v_is on) =
        onward_limits p rest (passed_page x)
        (let t = ap (λ (s : At). lost_in s l.fail) at in let u = up.3 in omega arith) on
    visit_limits (visit.reserves p rest x e y b todo at held answer v_is m_is) =
        same_limits _ m_is refl refl
    visit_limits (visit.refrains p rest x e y r end todo at held answer is v_is m_is) =
        ends_so _ (Whole end) m_is refl refl (refused_keeps x y e r end at held answer is)
    visit_limits (visit.quits p rest x e end todo at held bad v_is m_is) =
        over_limits p rest end bad m_is
    visit_limits (visit.pins p rest x e o q q' u u' cell todo at held is sw named_u free taken
        is_cell in_cell v_is m_is) = same_limits _ m_is refl refl
    visit_limits (visit.unpins p rest x e o q q' u u' todo at held is sw named_u taken free v_is
        m_is) = same_limits _ m_is refl refl
    visit_limits (visit.marks p rest x e b todo at held block v_is m_is) =
        same_limits _ m_is refl refl
    visit_limits (visit.stores p rest x b page d d' todo at held block is write v_is m_is) =
        same_limits _ m_is refl refl
    visit_limits (visit.spoils p rest x b d d' fault todo at held block failed v_is m_is) =
        ends_so _ (Whole (ends.WriteEio fault x.wrote x.lost)) m_is refl refl (
          (let t = ap (λ (s : At). lost_in s l.fail) at in let u = up.3 in omega arith),
          (let r = ap (device_faults (spot n k)) v_is in let z = failed.count in omega arith),
        )
    visit_limits (visit.frees p rest x e o q q' u frames todo at held is gone named_u home v_is
        m_is) = same_limits _ m_is refl refl
    visit_limits (visit.commits p rest x e b y todo at held block v_is m_is) =
        same_limits _ m_is refl refl
    visit_limits (visit.pays p rest x e d was todo at held is v_is m_is) =
        same_limits _ m_is refl refl
    visit_limits (visit.puts p rest x e b todo at held block v_is on) =
        onward_limits p rest (wrote_page x)
        (let t = ap (λ (s : At). lost_in s l.fail) at in let u = up.3 in omega arith) on
    visit_limits (visit.loses p rest x e todo at held v_is m_is) = same_limits _ m_is refl refl
    visit_limits (visit.releases p rest x b y todo at held block well v_is on) =
        onward_limits p rest (lost_page x)
        (let t : lost_in l.at l.fail ≡ lost_in (Visiting step.Releasing x) None =
        (λ i. lost_in (at i) (well i)) in let u = up.3 in omega arith) on
    visit_limits (visit.stops p rest x b y end todo at held block bad v_is m_is) =
        over_limits p rest end bad m_is

    pub limits_of : Event g l v m → KeepsLimits g c m
    limits_of (event.visits t) = visit_limits t
    limits_of (event.refuses p rest x todo at held v_is m_is) =
        quiet_limits p rest (Whole ends.Range) [] tt m_is
    limits_of (event.pins p rest e o q q' u u' cell todo at held is sw named_u free taken is_cell
        in_cell lk v_is m_is) = same_limits _ m_is refl refl
    limits_of (event.unpins p rest e o q q' u u' todo at held is sw named_u taken free lk v_is
        m_is) = same_limits _ m_is refl refl
    limits_of (event.charges p rest e x q q' cl hd need bytes huge todo at held is_form is_class
        within al v_is m_is) = same_limits _ m_is refl refl
    limits_of (event.limits p rest e x q cl need todo at held is_need past v_is m_is) =
        ends_so _ (AtLimit x.pages need x.limit) m_is refl refl
        (keeps_up g (reach_at g w a) c up (AtLimit x.pages need x.limit)
        (refused_below p rest e x q cl need todo at held is_need past))
    limits_of (event.starves p rest e x q cl todo at held v_is m_is) =
        ends_so _ NoMemory m_is refl refl tt
    limits_of (event.stows p rest e q cl todo at held well v_is m_is) =
        same_limits _ m_is refl refl
    limits_of (event.quits p rest e q cl x todo at held bad v_is m_is) =
        same_limits _ m_is refl refl
    limits_of (event.frees p rest e o q q' frames todo at held is fp v_is m_is) =
        same_limits _ m_is refl refl
    limits_of (event.repays p rest e x todo at held v_is m_is) = same_limits _ m_is refl refl
    limits_of (event.puts p rest e f todo at held notes v_is m_is) =
        quiet_limits p rest Carried _ tt m_is
    limits_of (event.reads p rest e f todo at held well notes v_is m_is) =
        quiet_limits p rest Carried _ tt m_is
    limits_of (event.fails p rest e x todo at held bad v_is m_is) = over_limits p rest x bad m_is
    limits_of (event.fetches p rest e b d d' page todo at held is read is_page v_is m_is) =
        same_limits _ m_is refl refl
    limits_of (event.misses p rest e b d d' fault todo at held is failed v_is m_is) =
        ends_so _ (Eio fault) m_is refl refl
        (let r = ap (device_faults (spot n k)) v_is in let s = failed.count in omega arith)
    limits_of (event.counts p rest e x todo at held v_is m_is) = same_limits _ m_is refl refl
    limits_of (event.errs p rest e f x todo at held bad read notes v_is m_is) =
        over_limits p rest x bad m_is
    limits_of (event.leaves p rest e x todo at held bad other v_is m_is) =
        over_limits p rest x bad m_is
    limits_of (event.releases p rest e b x todo at held is v_is m_is) =
        same_limits _ m_is refl refl
    limits_of (event.scans p rest age x e todo op at held other v_is m_is) =
        same_limits _ m_is refl refl
    limits_of (event.stops p rest age x e todo op at held last v_is m_is) =
        quiet_limits p rest (Whole (ends.Marked _)) [] tt m_is
    limits_of (event.moves p rest x q q' u u' budget frames todo at held sh some lone v_is m_is) =
        same_limits _ m_is refl refl
    limits_of (event.sweeps p rest x q todo at held stuck other v_is m_is) =
        same_limits _ m_is refl refl
    limits_of (event.closes p rest x q todo at held stuck last v_is m_is) =
        quiet_limits p rest (Whole (ends.Compacted x.moves x.frames)) [] tt m_is
    limits_of (event.shrinks p rest x y todo at held v_is m_is) = same_limits _ m_is refl refl
