-- Items that ask for no more than there is are refused for want of memory alone.
use Rattle.std.proofs.Common.{◌≡◌, ◌⊎◌, ℕ, zero, suc, ◌+◌, ◌*◌, ◌<◌, ◌≤◌, Bool, true, false, ◌&&◌, not, List, [], ◌∷◌, ◌++◌, length, map, refl, sym, ap, ◌∙◌, subst, arith, ⊎_elim, ◌||◌, ◌-◌, inl, inr, count_by, nat_lt, le_trans, le_refl, mul-le-mul}
use Rattle.std.specs.Prelude.{if◌then◌else◌}
use Rattle.std.specs.List.{AllByRecursion, range_with_len, flat_map}
use Rattle.std.proofs.lemmas.Bool.{le-ltb, lt-ltb}
use Rattle.std.proofs.lemmas.List.Sums.{count_by-le-length}
use Rattle.std.proofs.lemmas.List.FromFn.{length-range_with_len}
use Rattle.zr_base.specs.declared.op.Tag.{Tag}
use Rattle.zr_base.specs.declared.op.Op.{Op}
use Rattle.zr_base.specs.declared.op.Op.TheVariants.{Write, Read}
use Rattle.zr_base.specs.declared.op.OpEnd.{OpEnd}
use Rattle.zr_base.specs.declared.op.OpEnd.TheVariants as ends
use Rattle.zr_base.specs.Plain.{is_beyond, is_writeback, is_void}
use Rattle.mem_account.specs.declared.weight.Weight.{Weight}
use Rattle.mem_account.specs.declared.weight.Weight.TheVariants.{Empty}
use Rattle.plain_disk.specs.Output.{OutLine, sector, is_refused, op_lines, actor_lines, actors_lines, order_line, order_lines}
use Rattle.plain_disk.specs.Calls.{ever_pooled}
use Rattle.plain_disk.specs.Ends.{Ground, Bounds, MayFault, MayEndSo, MayEndBy, MayEnd, MayEndAll, MayEndEach, ends_sum, left_back, tried}
use Rattle.backing_dev.specs.Dev.{DeviceState}
use Rattle.plain_disk.specs.Rests.{Settings, Rest, Report, mm_stat, io_stat, bd_stat, states, classes, report, page_of, kept_at, state_line, class_line}
use Rattle.plain_disk.specs.Idles.{writes_some, is_written_in}
use Rattle.plain_disk.specs.Phases.{Given, IsPhase, calls_on, nth_order, due, begun, bounds, reach, phase_ground}
use Rattle.plain_disk.specs.Legal.{Item, disk, backing, limit_to, lower_most, budget_to, budgeted_to, clock_to, asks, phase, GivesDisk, GivesBacking, ItemIsLegal, Legal}
use Rattle.job_session.specs.Complete.{LieOn, HasRoom, HaveRoom, IsNoMemory, RefuseForMemory, IsComplete}

-- ---- lines

-- an end that is a refusal is one for want of memory
abbrev WellEnded : OpEnd → Type 0
WellEnded end = is_refused end ≡ true → IsNoMemory end

both : (xs ys : List OutLine) → RefuseForMemory xs → RefuseForMemory ys → RefuseForMemory (xs ++ ys)
both [] ys p q = q
both (x ∷ xs) ys p q = (p.0, both xs ys p.1 q)

sectors_well : (got : List (List ℕ)) → RefuseForMemory (map sector got)
sectors_well [] = tt
sectors_well (bytes ∷ got) = ((λ e. absurd (let q : false ≡ true = e in cc)), sectors_well got)

actor_well : (a k : ℕ) (es : List OpEnd) (gots : List (List (List ℕ)))
    → AllByRecursion WellEnded es → RefuseForMemory (actor_lines a k es gots)
actor_well a k [] gots all = tt
actor_well a k (end ∷ es) [] all = tt
actor_well a k (end ∷ es) (got ∷ gots) all =
    both (op_lines (record { actor = a; op = k }) end got) (actor_lines a (k + 1) es gots)
    (all.0, sectors_well got) (actor_well a (k + 1) es gots all.1)

actors_well : (a : ℕ) (es : List (List OpEnd)) (gots : List (List (List (List ℕ))))
    → AllByRecursion (AllByRecursion WellEnded) es → RefuseForMemory (actors_lines a es gots)
actors_well a [] gots all = tt
actors_well a (es ∷ more) [] all = tt
actors_well a (es ∷ more) (got ∷ gots) all =
    both (actor_lines a 0 es got) (actors_lines (a + 1) more gots)
    (actor_well a 0 es got all.0) (actors_well (a + 1) more gots all.1)

order_well : (p : ℕ) (order : List Tag) → RefuseForMemory (order_line p order)
order_well p [] = tt
order_well p (tag ∷ tags) = ((λ e. absurd (let q : false ≡ true = e in cc)), tt)

orders_well : (p : ℕ) (orders : List (List Tag)) → RefuseForMemory (order_lines p orders)
orders_well p [] = tt
orders_well p (order ∷ orders) =
    both (order_line p order) (order_lines (p + 1) orders) (order_well p order)
    (orders_well (p + 1) orders)

-- ---- ends

-- What an operation has that is refused for want of memory alone.
record Easy (t : Ground) (b : Bounds) (op : Op) : Type 0 where
  lies : is_beyond t.size op ≡ false
  frames : (t.limit ≡ 0) ⊎ (t.chain * b.reach ≤ t.limit)
  unlimited : t.budgeted ≡ false
  calm : b.faults ≤ t.faults
  blocks : is_writeback op ≡ true → b.reach ≤ t.blocks
  backed : is_writeback op ≡ true → t.backed ≡ true

module _ (t : Ground) (b : Bounds) (op : Op) (e : Easy t b op) where
  fault_rose : (op : Op) (page fault : ℕ) → MayFault t op page fault → t.faults < fault
  fault_rose (Write start count stuff) page fault may = may.0.rose
  fault_rose (Read start count) page fault may = may.rose
  fault_rose _ page fault may = absurd may

  not_void : (w : Bool) → is_writeback op ≡ w → is_void t.backed op ≡ false
  not_void true is = (λ i. is i && not (e.backed is i))
  not_void false is = ap (λ (w : Bool). w && not t.backed) is

  so_well : (end : OpEnd) → MayEndSo t b op end → WellEnded end
  so_well ends.Ok may r = absurd (let q : false ≡ true = r in cc)
  so_well ends.Range may r = absurd (let q : true ≡ false = sym may.0 ∙ e.lies in cc)
  so_well (ends.AtLimit charged need limit done) may r =
      let at = may.1 in let below = may.2 in let is = at.is in let some = at.some in
      absurd (⊎_elim (λ none. omega arith) (λ most. omega arith) e.frames)
  so_well (ends.NoMemory done) may r = tt
  so_well (ends.Eio fault done) may r =
      let rose = fault_rose op _ fault may.1 in let most = may.2 in let calm = e.calm in
      absurd (omega arith)
  so_well (ends.Marked pages) may r = absurd (let q : false ≡ true = r in cc)
  so_well (ends.Written wrote lost) may r = absurd (let q : false ≡ true = r in cc)
  so_well (ends.Budget wrote lost) may r =
      absurd (let q : true ≡ false = sym may.0.1 ∙ e.unlimited in cc)
  so_well (ends.NoBlock wrote lost) may r =
      let few = e.blocks may.0.0 in let lt = may.1.1 in absurd (omega arith)
  so_well ends.NoBacking may r = absurd may.0
  so_well (ends.WriteEio fault wrote lost) may r =
      let rose = may.0.1 in let most = may.1.1 in let calm = e.calm in absurd (omega arith)
  so_well (ends.Compacted moves frames) may r = absurd (let q : false ≡ true = r in cc)

  end_well : (end : OpEnd) → MayEnd t b op end → WellEnded end
  end_well end may = so_well end (subst (λ (v : Bool). MayEndBy v t b op end)
      (not_void (is_writeback op) refl) may)

-- ---- actors

-- What all operations of actors have: the bounds of each actor have so much reach.
record EasyEach (t : Ground) (reach faults : ℕ) (writes : Bool) : Type 0 where
  frames : (t.limit ≡ 0) ⊎ (t.chain * reach ≤ t.limit)
  unlimited : t.budgeted ≡ false
  calm : faults ≤ t.faults
  blocks : writes ≡ true → reach ≤ t.blocks
  backed : writes ≡ true → t.backed ≡ true

module _ (t : Ground) (reach faults : ℕ) (writes : Bool) (e : EasyEach t reach faults writes) where
  all_well : (b : Bounds) → b.reach ≡ reach → b.faults ≡ faults → (ops : List Op)
      (es : List OpEnd) → (writes_some ops ≡ true → writes ≡ true)
      → AllByRecursion (λ op. is_beyond t.size op ≡ false) ops → MayEndAll t b ops es
      → AllByRecursion WellEnded es
  all_well b is count [] [] some lie may = tt
  all_well b is count [] (end ∷ es) some lie may = absurd may
  all_well b is count (op ∷ ops) [] some lie may = tt
  all_well b is count (op ∷ ops) (end ∷ es) some lie may = (
    end_well t b op (record {
      lies = lie.0;
      frames = subst (λ (n : ℕ). (t.limit ≡ 0) ⊎ (t.chain * n ≤ t.limit)) (sym is) e.frames;
      unlimited = e.unlimited;
      calm = subst (λ (n : ℕ). n ≤ t.faults) (sym count) e.calm;
      blocks = λ w. subst (λ (n : ℕ). n ≤ t.blocks) (sym is) (e.blocks (some (here w)));
      backed = λ w. e.backed (some (here w));
    }) end may.0,
    all_well b is count ops es (λ w. some (there (is_writeback op) w)) lie.1 may.1,
  ) where
    here : is_writeback op ≡ true → writes_some (op ∷ ops) ≡ true
    here w = ap (λ (x : Bool). x || writes_some ops) w

    there : (x : Bool) → writes_some ops ≡ true → (x || writes_some ops) ≡ true
    there true w = refl
    there false w = w

  each_well : (b : ℕ → Bounds) → ((a : ℕ) → (b a).reach ≡ reach) → ((a : ℕ) → (b a).faults ≡ faults)
      → (a : ℕ) (actors : List (List Op)) (es : List (List OpEnd))
      → (is_written_in actors ≡ true → writes ≡ true) → LieOn t.size actors
      → MayEndEach t b a actors es → AllByRecursion (AllByRecursion WellEnded) es
  each_well b is count a [] [] some lie may = tt
  each_well b is count a [] (es ∷ others) some lie may = absurd may
  each_well b is count a (ops ∷ more) [] some lie may = tt
  each_well b is count a (ops ∷ more) (es ∷ others) some lie may = (
    all_well (b a) (is a) (count a) ops es
        (λ w. some (ap (λ (x : Bool). x || is_written_in more) w)) lie.0 may.0,
    each_well b is count (a + 1) more others (λ w. some (there (writes_some ops) w)) lie.1 may.1,
  ) where
    there : (x : Bool) → is_written_in more ≡ true → (x || is_written_in more) ≡ true
    there true w = refl
    there false w = w

-- ---- phases

pages_few : (p : ℕ → Bool) (n : ℕ) → count_by p (range_with_len 0 n) ≤ n
pages_few p n = subst (λ (m : ℕ). count_by p (range_with_len 0 n) ≤ m) (length-range_with_len 0 n)
    (count_by-le-length p (range_with_len 0 n))

some_actor : (actors : List (List Op)) → is_written_in actors ≡ true → 0 < length actors
some_actor [] w = absurd (let q : false ≡ true = w in cc)
some_actor (ops ∷ more) w = omega arith

module _ (form : List ℕ → Weight) where
  phase_well : (r : Rest) (actors : List (List Op)) (lines : List OutLine) (m : Rest)
      → HasRoom r.size r.set actors → m.device.faults ≤ r.device.faults
      → IsPhase form r actors lines m → RefuseForMemory lines
  phase_well r actors lines m room calm x = subst RefuseForMemory (sym x.lines_are)
      (both (actors_lines 0 x.ends (due g x.orders 0 actors x.ends)) (order_lines 0 x.orders)
      (actors_well 0 x.ends (due g x.orders 0 actors x.ends) ends_well) (orders_well 0 x.orders))
    where
      g : Given
      g = begun r actors x.finds

      few : reach form r g x.orders ≤ r.size + length actors
      few = let q = pages_few (λ p. ever_pooled form p (calls_on g p) (page_of r p)
          (nth_order x.orders p)) r.size in omega arith

      easy : EasyEach (phase_ground form r actors) (reach form r g x.orders) m.device.faults
          (is_written_in actors)
      easy = record {
        frames = ⊎_elim (λ none. inl none) (λ most. inr (le_trans (mul-le-mul (le_refl r.set.chain) few) most))
            room.frames;
        unlimited = room.unlimited;
        calm = calm;
        blocks = λ w. let q = room.blocks w in let f = few in omega arith;
        backed = λ w. let q = room.blocks w in let p = some_actor actors w in
            lt-ltb 0 r.set.backing (omega arith);
      }

      ends_well : AllByRecursion (AllByRecursion WellEnded) x.ends
      ends_well = each_well (phase_ground form r actors) (reach form r g x.orders) m.device.faults
          (is_written_in actors) easy (bounds form r g x.orders m.device.faults
          (ends_sum left_back actors x.ends)) (λ a. refl) (λ a. refl) 0 actors x.ends (λ w. w)
          room.lie x.may

  -- ---- items

  -- the device's count of faults doesn't fall
  size_rises : (n size : ℕ) (r : Rest) (lines : List OutLine) (m : Rest)
      → GivesDisk size r n lines m → r.device.faults ≤ m.device.faults
  size_rises n zero r lines m x =
      let q = ap (λ (d : DeviceState). d.faults) x.1.device in omega arith
  size_rises n (suc size) r lines m x =
      let q = ap (λ (m : Rest). m.device.faults) x.same in omega arith

  backing_rises : (n size : ℕ) (past : Bool) (r : Rest) (lines : List OutLine) (m : Rest)
      → GivesBacking size past r n lines m → r.device.faults ≤ m.device.faults
  backing_rises n zero false r lines m x =
      let q = ap (λ (m : Rest). m.device.faults) x.1 in omega arith
  backing_rises n zero true r lines m x =
      let q = ap (λ (m : Rest). m.device.faults) x.same in omega arith
  backing_rises n (suc size) past r lines m x =
      let q = ap (λ (m : Rest). m.device.faults) x.same in omega arith

  same_rises : (r m n : Rest) → m ≡ n → n.device ≡ r.device → r.device.faults ≤ m.device.faults
  same_rises r m n is device = let q = ap (λ (m : Rest). m.device.faults) is in
      let p = ap (λ (d : DeviceState). d.faults) device in omega arith

  item_rises : (item : Item) (r : Rest) (lines : List OutLine) (m : Rest)
      → ItemIsLegal form r item lines m → r.device.faults ≤ m.device.faults
  item_rises (disk n) r lines m x = size_rises n r.size r lines m x
  item_rises (backing n) r lines m x =
      backing_rises n r.size (nat_lt r.device.blocks n) r lines m x
  item_rises (phase actors) r lines m x = x.leaves.device.faults
  item_rises (limit_to n) r lines m x = same_rises r m _ x.1 refl
  item_rises (budget_to n) r lines m x = same_rises r m _ x.1 refl
  item_rises (budgeted_to on) r lines m x = same_rises r m _ x.1 refl
  item_rises (clock_to n) r lines m x = same_rises r m _ x.1 refl
  item_rises lower_most r lines m x = same_rises r m _ x.1 refl
  item_rises (asks q) r lines m x = same_rises r m _ x.1 refl

  rises : (r : Rest) (items : List Item) (lines : List OutLine) (last : Rest)
      → Legal form r items lines last → r.device.faults ≤ last.device.faults
  rises r [] lines last x = same_rises r last r x.1 refl
  rises r (item ∷ items) lines last (m, first, others, x, more, is) =
      let p = item_rises item r first m x in let q = rises m items others last more in omega arith

  -- ---- reports

  state_well : (p : ℕ) (w : Weight) (idle : Bool) (touched : ℕ)
      → RefuseForMemory (state_line p w idle touched)
  state_well p Empty idle touched = tt
  state_well p _ idle touched = ((λ e. absurd (let q : false ≡ true = e in cc)), tt)

  states_well : (r : Rest) (ps : List ℕ)
      → RefuseForMemory (flat_map (λ p. state_line p (kept_at form r p) (r.idle p) (r.touched p)) ps)
  states_well r [] = tt
  states_well r (p ∷ ps) = both (state_line p (kept_at form r p) (r.idle p) (r.touched p)) _
      (state_well p (kept_at form r p) (r.idle p) (r.touched p)) (states_well r ps)

  class_well : (chain k : ℕ) (used : List ℕ) → RefuseForMemory (class_line chain k used)
  class_well chain k [] = tt
  class_well chain k (u ∷ us) = ((λ e. absurd (let q : false ≡ true = e in cc)), tt)

  classes_well : (r : Rest) (ks : List ℕ)
      → RefuseForMemory (flat_map (λ k. class_line r.set.chain k (r.used k)) ks)
  classes_well r [] = tt
  classes_well r (k ∷ ks) = both (class_line r.set.chain k (r.used k)) _
      (class_well r.set.chain k (r.used k)) (classes_well r ks)

  report_well : (r : Rest) (q : Report) → RefuseForMemory (report form r q)
  report_well r mm_stat = ((λ e. absurd (let q : false ≡ true = e in cc)), tt)
  report_well r io_stat = ((λ e. absurd (let q : false ≡ true = e in cc)), tt)
  report_well r bd_stat = ((λ e. absurd (let q : false ≡ true = e in cc)), tt)
  report_well r states = states_well r (range_with_len 0 r.size)
  report_well r classes = classes_well r (range_with_len 0 255)

  -- ---- jobs

  -- An item's lines are well, and the items after it ask for no more than there is.
  record Goes (items : List Item) (lines : List OutLine) (m : Rest) : Type 0 where
    well : RefuseForMemory lines
    room : HaveRoom m.device.blocks m.size m.set items

  quiet : (items : List Item) (lines : List OutLine) (m n : Rest) → lines ≡ [] → m ≡ n
      → HaveRoom n.device.blocks n.size n.set items → Goes items lines m
  quiet items lines m n none is room = record {
    well = subst RefuseForMemory (sym none) tt;
    room = subst (λ (m : Rest). HaveRoom m.device.blocks m.size m.set items) (sym is) room;
  }

  room_at : (items : List Item) (a b : ℕ) (s : Settings) (m : Rest) → m.device.blocks ≡ a
      → m.size ≡ b → m.set ≡ s → HaveRoom a b s items
      → HaveRoom m.device.blocks m.size m.set items
  room_at items a b s m blocks size set room = subst (λ (x : ℕ). HaveRoom x m.size m.set items)
      (sym blocks) (subst (λ (x : ℕ). HaveRoom a x m.set items) (sym size)
      (subst (λ (x : Settings). HaveRoom a b x items) (sym set) room))

  disk_goes : (items : List Item) (r : Rest) (n size : ℕ) (lines : List OutLine) (m : Rest)
      → size ≡ 0 → HaveRoom r.device.blocks n r.set items → GivesDisk size r n lines m
      → Goes items lines m
  disk_goes items r n zero lines m none room x = record {
    well = subst RefuseForMemory (sym x.0) tt;
    room = room_at items r.device.blocks n r.set m
        (ap (λ (d : DeviceState). d.blocks) x.1.device) x.1.size x.1.set room;
  }
  disk_goes items r n (suc size) lines m none room x = absurd (omega arith)

  backing_goes : (items : List Item) (r : Rest) (n size : ℕ) (past : Bool) (lines : List OutLine)
      (m : Rest) → size ≡ 0 → past ≡ false
      → HaveRoom r.device.blocks r.size (record r.set { backing = n }) items
      → GivesBacking size past r n lines m → Goes items lines m
  backing_goes items r n zero false lines m none fits room x =
      quiet items lines m (record r { set = record r.set { backing = n } }) x.0 x.1 room
  backing_goes items r n zero true lines m none fits room x =
      absurd (let q : true ≡ false = fits in cc)
  backing_goes items r n (suc size) past lines m none fits room x = absurd (omega arith)

  goes : (item : Item) (items : List Item) (r : Rest) (lines : List OutLine) (m : Rest)
      → HaveRoom r.device.blocks r.size r.set (item ∷ items) → m.device.faults ≤ r.device.faults
      → ItemIsLegal form r item lines m → Goes items lines m
  goes (disk n) items r lines m room calm x =
      disk_goes items r n r.size lines m room.0 room.1 x
  goes (backing n) items r lines m room calm x =
      backing_goes items r n r.size (nat_lt r.device.blocks n) lines m room.0
      (le-ltb r.device.blocks n room.1) room.2 x
  goes (limit_to n) items r lines m room calm x = quiet items lines m _ x.0 x.1 room
  goes (budget_to n) items r lines m room calm x = quiet items lines m _ x.0 x.1 room
  goes (budgeted_to on) items r lines m room calm x = quiet items lines m _ x.0 x.1 room
  goes (clock_to n) items r lines m room calm x = quiet items lines m _ x.0 x.1 room
  goes lower_most items r lines m room calm x = quiet items lines m _ x.0 x.1 room
  goes (asks q) items r lines m room calm x = record {
    well = subst RefuseForMemory (sym x.0) (report_well r q);
    room = (quiet items [] m r refl x.1 room).room;
  }
  goes (phase actors) items r lines m room calm x = record {
    well = phase_well r actors lines m room.0 calm x;
    room = room_at items r.device.blocks r.size r.set m x.leaves.device.blocks x.leaves.pages.size
        (x.leaves.set ∙ ap (λ (b : Bool). record r.set {
          budget = if b then r.set.budget - ends_sum tried actors x.ends else r.set.budget;
        }) room.0.unlimited) room.1;
  }

  complete_by : (r : Rest) (items : List Item) (lines : List OutLine) (last : Rest)
      → Legal form r items lines last → HaveRoom r.device.blocks r.size r.set items
      → last.device.faults ≤ r.device.faults → RefuseForMemory lines
  complete_by r [] lines last x room calm = subst RefuseForMemory (sym x.0) tt
  complete_by r (item ∷ items) lines last (m, first, others, x, more, is) room calm =
      let up = item_rises item r first m x in let later = rises m items others last more in
      let on = goes item items r first m room (omega arith) x in
      subst RefuseForMemory (sym is) (both first others on.well
      (complete_by m items others last more on.room (omega arith)))

pub complete : IsComplete
complete form r items lines last x room calm =
    complete_by form r items lines last x room (omega arith)
