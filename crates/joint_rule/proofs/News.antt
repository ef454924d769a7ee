-- The account's counters of calls: each giving raises them by what its piece gives, and a piece
-- that
-- is noted gives that to its order.
use Rattle.mem_account.specs.declared.weight.Weight.TheVariants.{Back}
use Rattle.lock_row.specs.declared.names.Trip.{Trip}
use Rattle.lock_row.specs.declared.names.Step.{Step}
use Rattle.joint_rule.proofs.Alikes.{visited_is}
use Rattle.joint_rule.proofs.Courses.{Course, IsCourse, Weighs, course_of, weighs_of}
use Rattle.std.proofs.Common.{◌≡◌, ◌+◌, ◌≤◌, ◌∷◌, ◌++◌, ◌∙◌, ℕ, zero, suc, Bool, true, cond, List, [], Option, Some, None, slice_get, refl, sym, ap, subst, arith}
use Rattle.lock_row.specs.declared.names.Scan.{Scan}
use Rattle.page_steps.specs.Scans.{with_page}
use Rattle.call_history.specs.Parts.{is_read, left_by}
use Rattle.call_history.specs.Shows.{tag_by}
use Rattle.call_history.specs.declared.part.Part.{Part}
use Rattle.call_history.specs.declared.part.PartEnd.{PartEnd}
use Rattle.call_history.specs.declared.part.PartEnd.TheVariants.{Carried, Whole}
use Rattle.joint_rule.proofs.Balances.{shrunk}
use Rattle.joint_rule.proofs.Counts.{Raises, raised, raises, rises_total, still}
use Rattle.joint_rule.proofs.Events.{Event}
use Rattle.joint_rule.proofs.Chosen.{Chosen}
use Rattle.joint_rule.proofs.Facts.{Known}
use Rattle.joint_rule.proofs.Gifts.{is_named, stage}
use Rattle.joint_rule.proofs.Givings.{event_is, given_lock}
use Rattle.joint_rule.proofs.Pages.{form_next, kept_is, LeavesSo}
use Rattle.joint_rule.proofs.Sums.{gone}
use Rattle.joint_rule.specs.Begins.{Begin, form_at, found, found_after, terms}
use Rattle.joint_rule.specs.Joint.{Joint}
use Rattle.joint_rule.specs.Rule.{CountsNews, owed}
use Rattle.joint_rule.specs.Stages.{BlankBy, Changes, FailBy, Looks, NoneOf, Stage, StageBy}
use Rattle.joint_rule.specs.Weights.{FreedPages, HugeWrites, Huges, News, news_count, news_counter, news_of, none, noted, order_news, same, told_ahead, told_at, told_by}
use Rattle.lock_row.specs.Totals.{by_option, held_sum, mass, total}
use Rattle.lock_row.specs.declared.names.At.{At}
use Rattle.lock_row.specs.declared.names.At.TheVariants.{Both, Counting, Fetching, Freeing, Giving, Leaving, Made, Missed, Pinning, Ready, Refusing, Releasing, Start, Unpinning, Moving, Shrinking, Marking, Visiting}
use Rattle.lock_row.specs.declared.names.Compaction.{Compaction}
use Rattle.lock_row.specs.declared.names.LockNo.{LockNo}
use Rattle.lock_row.specs.declared.names.Object.{Object}
use Rattle.lock_row.specs.declared.names.Pin.{Pin}
use Rattle.lock_row.specs.declared.names.Plan.TheVariants.{Give, Take}
use Rattle.lock_row.specs.declared.names.State.{State}
use Rattle.mem_account.specs.Counters.{Counters, at_most_end, charged, counted, with_one, without_one}
use Rattle.mem_account.specs.Tally.{huge_of}
use Rattle.mem_account.specs.declared.weight.Weight.{Weight}
use Rattle.page_steps.specs.Compactions.{moved_at, repaid, with_move}
use Rattle.page_steps.specs.Givings.{Notes, fails_by, kept_by, old_weight, settled, tells}
use Rattle.page_steps.specs.Pages.{next_by, next_form, page_in, page_in_cell}
use Rattle.page_steps.specs.Steps.{DiskHeld, Here, after_take, begun_at, entry_in, entry_or, fetched_at, lock_of, made_at, piece_over, pinned_at, plan, quit_at, settle_at, slot, spot, taken_at, took}
use Rattle.plain_disk.specs.Calls.{Found, after, after_all, calls_sum, freed}
use Rattle.plain_disk.specs.Forms.{is_huge}
use Rattle.slot_entry.specs.Entries.{EntryState, is_new_mark}
use Rattle.slot_entry.specs.Forms.{Blank, PageForm, Pooled, Word, form_weight}
use Rattle.slot_entry.specs.declared.kept.Kept.{Kept}
use Rattle.zr_base.specs.Plain.{PageCalls, is_beyond, is_maintenance, named}
use Rattle.plain_disk.specs.Phases.{calls_on}
use Rattle.zr_base.specs.declared.op.Op.{Op}
use Rattle.zr_base.specs.declared.op.Op.TheVariants.{Compact, Discard, Idle, Read, Write, Writeback}
use Rattle.zr_base.specs.declared.op.Tag.{Tag}
use Rattle.joint_rule.proofs.Events as event
use Rattle.joint_rule.proofs.Courses as course
use Rattle.lock_row.specs.declared.names.Held.TheVariants as holds
use Rattle.slot_entry.specs.declared.kept.Kept.TheVariants as kept
use Rattle.mem_account.specs.declared.weight.Weight.TheVariants as weight
use Rattle.mem_account.specs.declared.weight.Delta.TheVariants as delta
use Rattle.zr_base.specs.declared.op.OpEnd.TheVariants as ends

-- ---- orders

pub push_sum : (f : Option Op → Found → Found → ℕ) (c : PageCalls) (x : Found)
    (order : List Tag) (t : Tag)
    → calls_sum f c x (order ++ t ∷ []) ≡ calls_sum f c x order
    + f (named c.actors t) (after_all c x order)
    (after (named c.actors t) (c.finds t) (after_all c x order))
push_sum f c x [] t = omega arith
push_sum f c x (y ∷ ys) t =
    let r = push_sum f c (after (named c.actors y) (c.finds y) x) ys t in omega arith

push_after : (c : PageCalls) (x : Found) (order : List Tag) (t : Tag)
    → after_all c x (order ++ t ∷ []) ≡ after (named c.actors t) (c.finds t) (after_all c x order)
push_after c x [] t = refl
push_after c x (y ∷ ys) t = push_after c (after (named c.actors y) (c.finds y) x) ys t

huge_bit : (w : Weight) → cond {A = ℕ} (is_huge w) 1 0 ≡ huge_of w
huge_bit weight.Empty = refl
huge_bit weight.Same = refl
huge_bit (weight.Packed n) = refl
huge_bit weight.Huge = refl
huge_bit weight.Back = refl

huge_one : (w : Weight) → huge_of w ≤ 1
huge_one weight.Empty = omega arith
huge_one weight.Same = omega arith
huge_one (weight.Packed n) = omega arith
huge_one weight.Huge = omega arith
huge_one weight.Back = omega arith

read_gives : (q : News) (p start count : ℕ) (x y : Found)
    → news_of q p (Some (Read start count)) x y ≡ 0
read_gives HugeWrites p start count x y = refl
read_gives FreedPages p start count x y = refl

-- ---- stages

-- a piece that looked at its page and wasn't refused is a read
only_read : (g : Begin) (p : Part) (op : Op) → Looks op → FailBy g p op None → is_read op ≡ true
only_read g p (Write start count stuff) i f = absurd f
only_read g p (Read start count) i f = refl
only_read g p (Discard start count) i f = absurd f
only_read g p (Idle age) i f = absurd f
only_read g p (Writeback mode) i f = absurd f
only_read g p Compact i f = absurd f

told_none : (q : News) (op : Op) → told_by q op None ≡ 0
told_none HugeWrites op = refl
told_none FreedPages (Write start count stuff) = refl
told_none FreedPages (Read start count) = refl
told_none FreedPages (Discard start count) = refl
told_none FreedPages (Idle age) = refl
told_none FreedPages (Writeback mode) = refl
told_none FreedPages Compact = refl

told_quiet : (q : News) (at : At) (ps : List Part) → told_at q at ps None ≡ 0
told_quiet q Ready [] = refl
told_quiet q Ready (p ∷ ps) = told_none q p.op
told_quiet q at ps = refl

told_free : (q : News) (at : At) (ps : List Part) (x : Option Weight) → NoneOf x
    → told_at q at ps x ≡ 0
told_free q at ps None i = told_quiet q at ps
told_free q at ps (Some x) i = absurd i

told_settle : (q : News) (k : Kept) (ps : List Part) (x : Option Weight)
    → told_at q (settle_at k) ps x ≡ 0
told_settle q kept.Empty ps x = refl
told_settle q (kept.Same w) ps x = refl
told_settle q (kept.Obj o) ps x = refl
told_settle q (kept.Wb b) ps x = refl

told_made : (q : News) (f : PageForm) (k : Kept) (ps : List Part) (x : Option Weight)
    → told_at q (made_at f k) ps x ≡ 0
told_made q Blank k ps x = told_settle q k ps x
told_made q (Word w) k ps x = told_settle q k ps x
told_made q (Pooled b h) k ps x = refl

told_pinned : (q : News) (op : Op) (f : PageForm) (k : Kept) (ps : List Part) (x : Option Weight)
    → told_at q (pinned_at op f k) ps x ≡ 0
told_pinned q (Write start count stuff) f k ps x = told_made q f k ps x
told_pinned q (Read start count) f k ps x = refl
told_pinned q (Discard start count) f k ps x = refl
told_pinned q (Idle age) f k ps x = refl
told_pinned q (Writeback mode) f k ps x = refl
told_pinned q Compact f k ps x = refl

told_fetched : (q : News) (op : Op) (f : PageForm) (k : Kept) (ps : List Part) (x : Option Weight)
    → told_at q (fetched_at op f k) ps x ≡ 0
told_fetched q (Write start count stuff) f k ps x = told_made q f k ps x
told_fetched q (Read start count) f k ps x = refl
told_fetched q (Discard start count) f k ps x = refl
told_fetched q (Idle age) f k ps x = refl
told_fetched q (Writeback mode) f k ps x = refl
told_fetched q Compact f k ps x = refl

told_quit : (q : News) (y : Option Pin) (ps : List Part) (x : Option Weight)
    → told_at q (quit_at y) ps x ≡ 0
told_quit q None ps x = refl
told_quit q (Some y) ps x = refl

told_moved : (q : News) (frames : ℕ) (y : Compaction) (ps : List Part) (x : Option Weight)
    → told_at q (moved_at frames y) ps x ≡ 0
told_moved q zero y ps x = refl
told_moved q (suc frames) y ps x = refl

-- a taking tells nothing
told_after : (g : Begin) (q : News) (at : At) (p : Part) (ps : List Part) (e e' : EntryState)
    (fresh : Option Object) (pin : Option Pin) (owed : ℕ) (x y : Option Weight)
    (page : Option (List ℕ)) (fail : Option PartEnd) (f : PageForm) (k : EntryState)
    → Stage g p e at fresh pin owed x y page fail
    → told_at q (after_take g.given.size at p f k fail)
    (p ∷ ps) x ≡ told_at q at (p ∷ ps) x
told_after g q Start p ps e e' fresh pin owed x y page fail f k s =
    told_free q (begun_at (is_maintenance p.op) (is_beyond g.given.size p.op) p f k) (p ∷ ps) x
    s.counts.0
told_after g q (Visiting t z) p ps e e' fresh pin owed x y page fail f k s =
    ap (λ (at : At). told_at q at (p ∷ ps) x) (visited_is t z p.op k fail).2
told_after g q at p ps e e' fresh pin owed x y page fail f k s = refl

told_taken : (g : Begin) (q : News) (l : Here) (v : DiskHeld) (ps : List Part)
    → StageBy g ps (entry_in l.held) l.at l.fresh l.pin l.owed l.ahead l.behind l.page l.fail
    → told_at q (taken_at g.given.size ps l.at l.page (entry_or v (entry_in l.held)) l.fail) ps
    l.ahead ≡ told_at q l.at ps l.ahead
told_taken g q l v [] s = refl
told_taken g q l v (p ∷ ps) s = told_after g q l.at p ps (entry_in l.held)
    (entry_in l.held) l.fresh l.pin l.owed l.ahead l.behind l.page l.fail _ _ s

-- ---- the account

less_news : (q : News) (c : Counters) (w : Weight) → news_count q (without_one c w) ≡ news_count q c
less_news HugeWrites c weight.Empty = refl
less_news HugeWrites c weight.Same = refl
less_news HugeWrites c (weight.Packed n) = refl
less_news HugeWrites c weight.Huge = refl
less_news HugeWrites c weight.Back = refl
less_news FreedPages c weight.Empty = refl
less_news FreedPages c weight.Same = refl
less_news FreedPages c (weight.Packed n) = refl
less_news FreedPages c weight.Huge = refl
less_news FreedPages c weight.Back = refl

more_huge : (c : Counters) (w : Weight) → (with_one c w).huge_since
    ≡ raised (huge_of w) c.huge_since
more_huge c weight.Empty = refl
more_huge c weight.Same = refl
more_huge c (weight.Packed n) = refl
more_huge c weight.Huge = refl
more_huge c weight.Back = refl

more_freed : (c : Counters) (w : Weight) → (with_one c w).notify_free ≡ c.notify_free
more_freed c weight.Empty = refl
more_freed c weight.Same = refl
more_freed c (weight.Packed n) = refl
more_freed c weight.Huge = refl
more_freed c weight.Back = refl

tells_huge : (op : Op) (c : Counters) → (tells op c).huge_since ≡ c.huge_since
tells_huge (Write start count stuff) c = refl
tells_huge (Read start count) c = refl
tells_huge (Discard start count) c = refl
tells_huge (Idle age) c = refl
tells_huge (Writeback mode) c = refl
tells_huge Compact c = refl

tells_freed : (op : Op) (c : Counters) (w : Weight) → (tells op c).notify_free
    ≡ raised (told_by FreedPages op (Some w)) c.notify_free
tells_freed (Write start count stuff) c w = refl
tells_freed (Read start count) c w = refl
tells_freed (Discard start count) c w = refl
tells_freed (Idle age) c w = refl
tells_freed (Writeback mode) c w = refl
tells_freed Compact c w = refl

settled_news : (q : News) (op : Op) (n : ℕ) (old new : Weight) (c : Counters)
    → news_count q (settled op n old new c) ≡ raised (told_by q op (Some new)) (news_count q c)
settled_news HugeWrites op n old new c =
    tells_huge op (with_one (without_one (repaid c n) old) new)
    ∙ more_huge (without_one (repaid c n) old) new
    ∙ ap (raised (huge_of new)) (less_news HugeWrites (repaid c n) old)
settled_news FreedPages op n old new c =
    tells_freed op (with_one (without_one (repaid c n) old) new) new
    ∙ ap (raised (told_by FreedPages op (Some new))) (more_freed (without_one (repaid c n) old) new
    ∙ less_news FreedPages (repaid c n) old)

told_one : (q : News) (op : Op) (w : Weight) → told_by q op (Some w) ≤ 1
told_one HugeWrites op w = huge_one w
told_one FreedPages (Write start count stuff) w = omega arith
told_one FreedPages (Read start count) w = omega arith
told_one FreedPages (Discard start count) w = omega arith
told_one FreedPages (Idle age) w = omega arith
told_one FreedPages (Writeback mode) w = omega arith
told_one FreedPages Compact w = omega arith

same_failed : (q : News) (c : Counters) → news_count q (counted c delta.FailedWrite)
    ≡ news_count q c
same_failed HugeWrites c = refl
same_failed FreedPages c = refl

same_invalid : (q : News) (c : Counters) → news_count q (counted c delta.InvalidIo) ≡ news_count q c
same_invalid HugeWrites c = refl
same_invalid FreedPages c = refl

same_fault : (q : News) (op : Op) (c : Counters) → news_count q (fails_by op c) ≡ news_count q c
same_fault HugeWrites (Write start count stuff) c = refl
same_fault HugeWrites (Read start count) c = refl
same_fault HugeWrites (Discard start count) c = refl
same_fault HugeWrites (Idle age) c = refl
same_fault HugeWrites (Writeback mode) c = refl
same_fault HugeWrites Compact c = refl
same_fault FreedPages (Write start count stuff) c = refl
same_fault FreedPages (Read start count) c = refl
same_fault FreedPages (Discard start count) c = refl
same_fault FreedPages (Idle age) c = refl
same_fault FreedPages (Writeback mode) c = refl
same_fault FreedPages Compact c = refl

same_shrunk : (q : News) (c : Counters) (n : ℕ) → news_count q (shrunk n c) ≡ news_count q c
same_shrunk HugeWrites c n = refl
same_shrunk FreedPages c n = refl

same_charged : (q : News) (c : Counters) (need : ℕ) → news_count q (charged c need) ≡ news_count q c
same_charged HugeWrites c need = refl
same_charged FreedPages c need = refl

module _ (g : Begin) (ok : Known g) (w : State DiskHeld) (j : Joint g w) (a : ℕ) (l : Here)
    (who : slice_get w.locals a ≡ Some l) (k : LockNo) (v : DiskHeld) (m : Here) where
  abbrev n : ℕ
  n = g.given.size

  -- What orders and actors tell rises as the account's counter does.
  pub record Announces (q : News) (u : DiskHeld) (m' : Here) : Type 0 where
    pub more : ℕ
    pub told : mass (spot n) (noted g q) (told_ahead q) m' + noted g q (spot n k) u
        ≡ mass (spot n) (noted g q) (told_ahead q) l + more
    pub rises : Raises g (news_count q) l k u m' more

  same_news : (q : News) (v₀ : DiskHeld) (m₀ : Here) → v ≡ v₀ → m ≡ m₀ → Announces q v₀ m₀
      → Announces q v m
  same_news q v₀ m₀ e f t =
      subst (λ (x : DiskHeld × Here). Announces q x.0 x.1) (λ i. (sym e i, sym f i)) t

  quietly : (q : News) (u : DiskHeld) (m' : Here)
      → mass (spot n) (noted g q) (told_ahead q) m' + noted g q (spot n k) u
      ≡ mass (spot n) (noted g q) (told_ahead q) l
      → mass (spot n) (news_counter q) none m' + news_counter q (spot n k) u
      ≡ mass (spot n) (news_counter q) none l
      → Announces q u m'
  quietly q u m' told same = record { more = 0; told = (omega arith); rises = still same refl }

  -- nothing is told at such a stage
  silent : (q : News) (at : At) → l.at ≡ at → told_at q at l.todo l.ahead ≡ 0 → told_ahead q l ≡ 0
  silent q at is z = ap (λ (s : At). told_at q s l.todo l.ahead) is ∙ z

  -- a piece that is noted gives its order what it told
  order_more : (q : News) (p : Part) (order : List Tag)
      → named g.given.actors (tag_by l.actor p) ≡ Some p.op
      → order_news g q p.page (order ++ tag_by l.actor p ∷ []) ≡ order_news g q p.page order
      + news_of q p.page (Some p.op) (found_after g p.page order)
      (found_after g p.page (order ++ tag_by l.actor p ∷ []))
  order_more q p order is =
      push_sum (news_of q p.page) (calls_on g.given p.page) (found g p.page) order (tag_by l.actor p)
      ∙ (λ i. order_news g q p.page order + news_of q p.page (is i) (found_after g p.page order)
      (sym (push_after (calls_on g.given p.page) (found g p.page) order (tag_by l.actor p)) i))

  module _ (p : Part) (rest : List Part) (todo : l.todo ≡ p ∷ rest) (e f : EntryState)
      (held : l.held ≡ (slot p.page, holds.Slot e) ∷ []) where
    is_op : named g.given.actors (tag_by l.actor p) ≡ Some p.op
    is_op = is_named g ok w j a l who p rest todo

    module _ (at : l.at ≡ Ready) (notes : Notes g.clock e f
        (kept_by (next_form p l.page e.kept) l.fresh) (tag_by l.actor p))
        (same : LeavesSo g p (e.order ++ tag_by l.actor p ∷ []) p.op (page_in l.page e.kept)) where
      st : Stage g p e Ready l.fresh l.pin l.owed l.ahead l.behind l.page l.fail
      st = stage g ok w j a l who p rest todo _ Ready held at

      now_form : form_at g p.page (e.order ++ tag_by l.actor p ∷ []) ≡ next_form p l.page e.kept
      now_form = form_next g ok p e.order (tag_by l.actor p) is_op
          (page_in l.page e.kept) st.kind.0 same

      -- what the call gives is what was told
      huge_told : (op : Op) → p.op ≡ op → Changes op → news_of HugeWrites p.page (Some op)
          (found_after g p.page e.order) (found_after g p.page (e.order ++ tag_by l.actor p ∷ []))
          ≡ by_option huge_of l.ahead
      huge_told (Write start count stuff) is c =
          ap (λ (x : Weight). cond {A = ℕ} (is_huge x) 1 0)
          (kept_is g p.page (e.order ++ tag_by l.actor p ∷ []) ∙ ap form_weight now_form)
          ∙ huge_bit (form_weight (next_form p l.page e.kept)) ∙ sym (st.counts.ahead Huges)
      huge_told (Read start count) is c = absurd c
      huge_told (Idle age) is c = absurd c
      huge_told (Writeback mode) is c = absurd c
      huge_told Compact is c = absurd c
      huge_told (Discard start count) is c = sym (st.counts.ahead Huges
          ∙ ap (λ (o : Op). huge_of (form_weight (next_by o p (page_in l.page e.kept)))) is)

      blank_told : (op : Op) (x : Option Weight) (b : Bool) → Changes op → BlankBy op x b
          → freed (Some op) (record { holds = (found_after g p.page e.order).holds; blank = b })
          (found_after g p.page (e.order ++ tag_by l.actor p ∷ [])) ≡ told_by FreedPages op x
      blank_told (Write start count stuff) x b c i = refl
      blank_told (Read start count) x b c i = absurd c
      blank_told (Idle age) x b c i = absurd c
      blank_told (Writeback mode) x b c i = absurd c
      blank_told Compact x b c i = absurd c
      blank_told (Discard start count) None b c i = ap (λ (y : Bool). cond {A = ℕ} y 0 1) i
      blank_told (Discard start count) (Some x) b c i = ap (λ (y : Bool). cond {A = ℕ} y 0 1) i

      gives_told : (q : News) → news_of q p.page (Some p.op) (found_after g p.page e.order)
          (found_after g p.page (e.order ++ tag_by l.actor p ∷ [])) ≡ told_by q p.op l.ahead
      gives_told HugeWrites = huge_told p.op refl st.kind.0
      gives_told FreedPages = blank_told p.op l.ahead (found_after g p.page e.order).blank st.kind.0
          st.blank

      puts_news : (q : News) → k ≡ slot p.page → Announces q (holds.Slot f)
          (piece_over l p Carried [] rest)
      puts_news q k_is = quietly q (holds.Slot f) (piece_over l p Carried [] rest)
          (let x = ap (held_sum (spot n) (noted g q)) held in
          let y : told_ahead q l ≡ told_by q p.op l.ahead =
          (λ i. told_at q (at i) (todo i) l.ahead) in
          let s = ap (order_news g q p.page) notes.order in
          let o = order_more q p e.order is_op in let t = gives_told q in
          let z : noted g q (spot n k) (holds.Slot f) ≡ order_news g q p.page f.order =
          ap (λ (i : LockNo). order_news g q (spot n i) f.order) k_is in
          let u = told_quiet q Start (left_by Carried p.nr rest) in omega arith)
          (let x = ap (held_sum (spot n) (news_counter q)) held in omega arith)

    -- a read gives nothing
    read_order : (q : News) (op : Op) → p.op ≡ op → is_read op ≡ true
        → Notes g.clock e f e.kept (tag_by l.actor p)
        → order_news g q p.page f.order ≡ order_news g q p.page e.order
    read_order q (Write start count stuff) is i notes = absurd (cc)
    read_order q (Discard start count) is i notes = absurd (cc)
    read_order q (Idle age) is i notes = absurd (cc)
    read_order q (Writeback mode) is i notes = absurd (cc)
    read_order q Compact is i notes = absurd (cc)
    read_order q (Read start count) is i notes =
        let s = ap (order_news g q p.page) notes.order in let o = order_more q p e.order is_op in
        let z = ap (λ (x : Op). news_of q p.page (Some x) (found_after g p.page e.order)
        (found_after g p.page (e.order ++ tag_by l.actor p ∷ []))) is in
        let r = read_gives q p.page start count (found_after g p.page e.order)
        (found_after g p.page (e.order ++ tag_by l.actor p ∷ [])) in omega arith

    -- the slot is given from a stage at which nothing is told
    module _ (at : At) (at_is : l.at ≡ at) (quiet : (q : News) → told_at q at l.todo l.ahead ≡ 0)
      where
        back_news : (q : News) (end : PartEnd) (got : List (List ℕ)) → k ≡ slot p.page
            → order_news g q p.page f.order ≡ order_news g q p.page e.order
            → Announces q (holds.Slot f) (piece_over l p end got rest)
        back_news q end got k_is same = quietly q (holds.Slot f) (piece_over l p end got rest)
            (let x = ap (held_sum (spot n) (noted g q)) held in
            let y = silent q at at_is (quiet q) in
            let z : noted g q (spot n k) (holds.Slot f) ≡ order_news g q p.page f.order =
            ap (λ (i : LockNo). order_news g q (spot n i) f.order) k_is in
            let u = told_quiet q Start (left_by end p.nr rest) in omega arith)
            (let x = ap (held_sum (spot n) (news_counter q)) held in omega arith)

  module _ (what : plan (terms g) l ≡ Give k) where
    -- a page that was scanned has its order as before
    scan_noted : (q : News) (p : Part) (rest : List Part) (x : Scan) (e : EntryState)
        → l.todo ≡ p ∷ rest → l.at ≡ Marking x → l.held ≡ (slot x.page, holds.Slot e) ∷ []
        → order_news g q (spot n k) e.order ≡ order_news g q x.page e.order
    scan_noted q p rest x e todo at held = ap (λ (i : LockNo). order_news g q (spot n i) e.order)
        (sym (given_lock g ok w j a l who k v m what (slot x.page)
        (event_is g ok w j a l who k v m what p rest _ (Marking x) todo held at)))

    visit_news : (q : News) (c : IsCourse g l v m) → Weighs g ok w j a l who v m k → Announces q v m
    visit_news q c x = quietly q v m
        (let r = x.orders (λ i o. order_news g q i o) in
        let y = silent q (Visiting c.s c.x) c.at refl in let z = now_silent c.course in omega arith)
        (x.account (news_count q) (λ y owed was. kept_news q y owed was)) where
          kept_news : (r : News) (y : Counters) (owed : ℕ) (was : Weight)
              → news_count r (counted (repaid y owed) (delta.Kept was Back)) ≡ news_count r y
          kept_news HugeWrites y owed weight.Empty = refl
          kept_news HugeWrites y owed weight.Same = refl
          kept_news HugeWrites y owed (weight.Packed n) = refl
          kept_news HugeWrites y owed weight.Huge = refl
          kept_news HugeWrites y owed weight.Back = refl
          kept_news FreedPages y owed weight.Empty = refl
          kept_news FreedPages y owed weight.Same = refl
          kept_news FreedPages y owed (weight.Packed n) = refl
          kept_news FreedPages y owed weight.Huge = refl
          kept_news FreedPages y owed weight.Back = refl

          goes_on : (s : Step) (y : Trip) → m.at ≡ Visiting s y → told_ahead q m ≡ 0
          goes_on s y at = ap (λ (i : At). told_at q i m.todo m.ahead) at

          over_so : (end : PartEnd) → m ≡ piece_over l c.p end [] c.rest → told_ahead q m ≡ 0
          over_so end m_is = ap (told_ahead q) m_is
              ∙ told_quiet q Start (left_by end c.p.nr c.rest)

          now_silent : Course l v c.p c.rest m → told_ahead q m ≡ 0
          now_silent (course.goes s y done todo at fail) = goes_on s y at
          now_silent (course.halts s y end done todo at well fail i) = goes_on s y at
          now_silent (course.errs s y d d' b fault wrote lost done todo at well fail held v_is
              failed) = goes_on s y at
          now_silent (course.tells wrote lost well m_is) = over_so _ m_is
          now_silent (course.closes end i fail m_is) = over_so _ m_is

    pub news_gives : (q : News) (ev : Event g l v m) → Chosen g l v m ev → Announces q v m
    news_gives q (event.visits t) chosen = visit_news q (course_of g ok w j a l who v m t)
        (weighs_of g ok w j a l who v m k what t)
    news_gives q (event.refuses p rest c todo at held v_is m_is) chosen =
        same_news q _ _ v_is m_is (quietly q _ _ (let x = ap (held_sum (spot n) (noted g q)) held in
        let y = silent q Refusing at refl in let z = told_quiet q Start
        (left_by (Whole ends.Range) p.nr rest) in omega arith)
        (let x = ap (held_sum (spot n) (news_counter q)) held in let s = same_invalid q c in
        omega arith))
    news_gives q (event.pins p rest e o x x' u u' cell todo at held is sw named_u free outside
        is_cell in_cell lk v_is m_is) chosen = same_news q _ _ v_is m_is
        (quietly q _ _ (let y = ap (held_sum (spot n) (noted g q)) held in
        let z = silent q Pinning at refl in let r = told_pinned q p.op
        (next_form p (Some (page_in_cell o cell)) e.kept) e.kept l.todo l.ahead in
        omega arith) (let y = ap (held_sum (spot n) (news_counter q)) held in omega arith))
    news_gives q (event.unpins p rest e o x x' u u' todo at held is sw named_u outside free lk v_is
        m_is) chosen = same_news q _ _ v_is m_is (quietly q _ _
        (let y = ap (held_sum (spot n) (noted g q)) held in let z = silent q Unpinning at refl in
        omega arith) (let y = ap (held_sum (spot n) (news_counter q)) held in omega arith))
    news_gives q (event.charges p rest e c x x' cl h need bytes huge todo at held is_form is_class
        within al v_is m_is) chosen = same_news q _ _ v_is m_is
        (quietly q _ _ (let y = ap (held_sum (spot n) (noted g q)) held in
        let z = silent q Both at refl in omega arith) (let y =
        ap (held_sum (spot n) (news_counter q)) held in let s = same_charged q c need in
        omega arith))
    news_gives q (event.limits p rest e c x cl need todo at held is_need past v_is m_is) chosen =
        same_news q _ _ v_is m_is (quietly q _ _ (let y = ap (held_sum (spot n) (noted g q)) held in
        let z = silent q Both at refl in omega arith) (let y =
        ap (held_sum (spot n) (news_counter q)) held in let s = same_failed q c in omega arith))
    news_gives q (event.starves p rest e c x cl todo at held v_is m_is) chosen =
        same_news q _ _ v_is m_is (quietly q _ _ (let y = ap (held_sum (spot n) (noted g q)) held in
        let z = silent q Both at refl in omega arith) (let y =
        ap (held_sum (spot n) (news_counter q)) held in let s = same_failed q c in omega arith))
    news_gives q (event.stows p rest e x cl todo at held well v_is m_is) chosen =
        same_news q _ _ v_is m_is (quietly q _ _ (let y = ap (held_sum (spot n) (noted g q)) held in
        let z = silent q Made at refl in let r = told_settle q e.kept l.todo l.ahead in
        omega arith) (let y = ap (held_sum (spot n) (news_counter q)) held in omega arith))
    news_gives q (event.quits p rest e x cl z₀ todo at held bad v_is m_is) chosen =
        same_news q _ _ v_is m_is (quietly q _ _ (let y = ap (held_sum (spot n) (noted g q)) held in
        let z = silent q Made at refl in let r = told_quit q l.pin l.todo l.ahead in
        omega arith) (let y = ap (held_sum (spot n) (news_counter q)) held in omega arith))
    news_gives q (event.frees p rest e o x x' frames todo at held is fp v_is m_is) chosen =
        same_news q _ _ v_is m_is (quietly q _ _ (let y = ap (held_sum (spot n) (noted g q)) held in
        let z = silent q Freeing at refl in omega arith)
        (let y = ap (held_sum (spot n) (news_counter q)) held in omega arith))
    news_gives q (event.repays p rest e c todo at held v_is m_is) chosen =
        let new = form_weight (next_form p l.page e.kept) in
        same_news q _ _ v_is m_is (record {
          more = told_by q p.op (Some new);
          told = (let y = ap (held_sum (spot n) (noted g q)) held in
              let z = silent q Giving at refl in
              let r : told_at q Ready l.todo (Some new) ≡ told_by q p.op (Some new) =
              ap (λ (ps : List Part). told_at q Ready ps (Some new)) todo in omega arith);
          rises = raises g (news_count q) l k _ _ (told_by q p.op (Some new)) c _ held refl refl
              (told_one q p.op new) (settled_news q p.op l.owed (old_weight l.ahead e.kept) new c);
        })
    news_gives q (event.puts p rest e f todo at held notes v_is m_is) chosen =
        same_news q _ _ v_is m_is (puts_news p rest todo e f held at notes chosen.leaves q
        (sym (given_lock g ok w j a l who k v m what (slot p.page)
        (event_is g ok w j a l who k v m what p rest _ Ready todo held at))))
    news_gives q (event.reads p rest e f todo at held well notes v_is m_is) chosen =
        let s = stage g ok w j a l who p rest todo _ Leaving held at in
        same_news q _ _ v_is m_is (back_news p rest todo e f held Leaving at (λ q. refl) q Carried _
        (sym (given_lock g ok w j a l who k v m what (slot p.page)
        (event_is g ok w j a l who k v m what p rest _ Leaving todo held at)))
        (read_order p rest todo e f held q p.op refl
        (only_read g p p.op s.kind (subst (FailBy g p p.op) well s.fails)) notes))
    news_gives q (event.fails p rest e x todo at held bad v_is m_is) chosen =
        same_news q _ _ v_is m_is (back_news p rest todo e e held Leaving at (λ q. refl) q x []
        (sym (given_lock g ok w j a l who k v m what (slot p.page)
        (event_is g ok w j a l who k v m what p rest _ Leaving todo held at))) refl)
    news_gives q (event.fetches p rest e b d d' page todo at held is read is_page v_is m_is) chosen =
        same_news q _ _ v_is m_is (quietly q _ _ (let y = ap (held_sum (spot n) (noted g q)) held in
        let z = silent q Fetching at refl in
        let r = told_fetched q p.op (next_form p (Some page) e.kept) e.kept l.todo l.ahead in
        omega arith) (let y = ap (held_sum (spot n) (news_counter q)) held in omega arith))
    news_gives q (event.misses p rest e b d d' fault todo at held is failed v_is m_is) chosen =
        same_news q _ _ v_is m_is (quietly q _ _ (let y = ap (held_sum (spot n) (noted g q)) held in
        let z = silent q Fetching at refl in omega arith)
        (let y = ap (held_sum (spot n) (news_counter q)) held in omega arith))
    news_gives q (event.counts p rest e c todo at held v_is m_is) chosen =
        same_news q _ _ v_is m_is (quietly q _ _ (let y = ap (held_sum (spot n) (noted g q)) held in
        let z = silent q Counting at refl in omega arith)
        (let y = ap (held_sum (spot n) (news_counter q)) held in let s = same_fault q p.op c in
        omega arith))
    news_gives q (event.errs p rest e f x todo at held bad reads notes v_is m_is) chosen =
        same_news q _ _ v_is m_is (back_news p rest todo e f held Missed at (λ q. refl) q x []
        (sym (given_lock g ok w j a l who k v m what (slot p.page)
        (event_is g ok w j a l who k v m what p rest _ Missed todo held at)))
        (read_order p rest todo e f held q p.op refl reads notes))
    news_gives q (event.leaves p rest e x todo at held bad other v_is m_is) chosen =
        same_news q _ _ v_is m_is (back_news p rest todo e e held Missed at (λ q. refl) q x []
        (sym (given_lock g ok w j a l who k v m what (slot p.page)
        (event_is g ok w j a l who k v m what p rest _ Missed todo held at))) refl)
    news_gives q (event.releases p rest e b x todo at held is v_is m_is) chosen =
        same_news q _ _ v_is m_is (quietly q _ _ (let y = ap (held_sum (spot n) (noted g q)) held in
        let z = silent q Releasing at refl in omega arith)
        (let y = ap (held_sum (spot n) (news_counter q)) held in omega arith))
    news_gives q (event.scans p rest age x e todo op at held other v_is m_is) chosen =
        same_news q _ _ v_is m_is (quietly q _ _ (let y = ap (held_sum (spot n) (noted g q)) held in
        let z = silent q (Marking x) at refl in let r = scan_noted q p rest x e todo at held in
        omega arith) (let y = ap (held_sum (spot n) (news_counter q)) held in omega arith))
    news_gives q (event.stops p rest age x e todo op at held last v_is m_is) chosen =
        let pages = (with_page x (is_new_mark g.clock age e)).marked in
        same_news q _ _ v_is m_is (quietly q _ _ (let y = ap (held_sum (spot n) (noted g q)) held in
        let z = silent q (Marking x) at refl in let r = scan_noted q p rest x e todo at held in
        let s = told_quiet q Start (left_by (Whole (ends.Marked pages)) p.nr rest) in omega arith)
        (let y = ap (held_sum (spot n) (news_counter q)) held in omega arith))
    news_gives q (event.moves p rest x y y' u u' budget frames todo at held sh some one v_is m_is)
        chosen =
        same_news q _ _ v_is m_is (quietly q _ _ (let z = ap (held_sum (spot n) (noted g q)) held in
        let s = silent q (Moving x) at refl in let r = told_moved q frames (with_move x budget)
        l.todo l.ahead in omega arith)
        (let z = ap (held_sum (spot n) (news_counter q)) held in omega arith))
    news_gives q (event.sweeps p rest x y todo at held stuck other v_is m_is) chosen =
        same_news q _ _ v_is m_is (quietly q _ _ (let z = ap (held_sum (spot n) (noted g q)) held in
        let s = silent q (Moving x) at refl in omega arith)
        (let z = ap (held_sum (spot n) (news_counter q)) held in omega arith))
    news_gives q (event.closes p rest x y todo at held stuck last v_is m_is) chosen =
        same_news q _ _ v_is m_is (quietly q _ _ (let z = ap (held_sum (spot n) (noted g q)) held in
        let s = silent q (Moving x) at refl in let r = told_quiet q Start
        (left_by (Whole (ends.Compacted x.moves x.frames)) p.nr rest) in omega arith)
        (let z = ap (held_sum (spot n) (news_counter q)) held in omega arith))
    news_gives q (event.shrinks p rest x c todo at held v_is m_is) chosen =
        same_news q _ _ v_is m_is (quietly q _ _ (let z = ap (held_sum (spot n) (noted g q)) held in
        let s = silent q (Shrinking x) at refl in omega arith)
        (let z = ap (held_sum (spot n) (news_counter q)) held in let s = same_shrunk q c l.owed in
        omega arith))

  pub news_give : (q : News) → slice_get w.row (spot n k) ≡ Some None → Announces q v m
      → CountsNews g q w → CountsNews g q (gone n w a l who k (Some v) m)
  news_give q there x t =
      rises_total g ok w j a l who k v m there (news_count q)
      (news_count q g.was + total (spot n) (noted g q) (told_ahead q) w) x.more t x.rises
      ∙ ap at_most_end (
      let s = ok.facts.give (spot n) (noted g q) (told_ahead q) w a l k v m who there in
      let y = x.told in
      let z : news_count q g.was + total (spot n) (noted g q) (told_ahead q) w + x.more
      ≡ news_count q g.was + total (spot n) (noted g q) (told_ahead q)
      (gone n w a l who k (Some v) m) = omega arith in z)

  pub news_take : (q : News) → plan (terms g) l ≡ Take k
      → slice_get w.row (spot n k) ≡ Some (Some v)
      → CountsNews g q w → CountsNews g q (gone n w a l who k None (took (terms g) l v))
  news_take q what there t =
      let held = ap (λ p. (lock_of p, v) ∷ l.held) what in
      ok.facts.take (spot n) (news_counter q) none w a l k v
      (took (terms g) l v) who there held refl ∙ t
      ∙ ap (λ (i : ℕ). at_most_end (news_count q g.was + i)) (sym (
      ok.facts.take (spot n) (noted g q) (told_ahead q) w a l k v
      (took (terms g) l v) who there held
      (told_taken g q l v l.todo (j.each.in_local a l who).stage)))
