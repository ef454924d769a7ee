-- The stages that follow one another where a slot is held.
use Rattle.std.proofs.Common.{◌≡◌, ◌+◌, ◌*◌, ◌≤◌, ◌<◌, ◌∷◌, ◌++◌, ◌∙◌, ◌&&◌, ℕ, zero, suc, Bool, true, false, not, eqb, List, [], Option, Some, None, refl, sym, subst, arith, inl, inr}
use Rattle.call_history.specs.Parts.{Follows, is_carried, left_by, parts, parts_from, parts_of, program, without}
use Rattle.call_history.specs.declared.part.Done.{Done}
use Rattle.call_history.specs.declared.part.Part.{Part}
use Rattle.call_history.specs.declared.part.PartEnd.{PartEnd}
use Rattle.joint_rule.proofs.Pages.{form_low}
use Rattle.joint_rule.specs.Begins.{Begin, back_at, content, form_at, found_after}
use Rattle.joint_rule.specs.Stages.{MaySeeOther, Bears, BlankAt, Changes, GoneBy, IsForm, IsObj, IsPooled, IsRight, IsWb, IsWrite, MayPin, NoObj, NoneOf, Stage, locks_at, IsBack, HasMarks}
use Rattle.lock_row.specs.declared.names.At.TheVariants.{Old, Owing}
use Rattle.lock_row.specs.declared.names.Object.{Object}
use Rattle.lock_row.specs.declared.names.Pin.{Pin}
use Rattle.mem_account.specs.declared.weight.Weight.{Weight}
use Rattle.page_steps.specs.Pages.{next_form, page_in}
use Rattle.page_steps.specs.Steps.{class_by, made_at, on, settle_at, slot}
use Rattle.plain_disk.specs.Ends.{is_single}
use Rattle.slot_entry.specs.Entries.{EntryState}
use Rattle.slot_entry.specs.Forms.{Blank, PageForm, Pooled, Word}
use Rattle.slot_entry.specs.declared.kept.Kept.{Kept}
use Rattle.std.proofs.lemmas.Bool.{cases_Bool, eqb-false, ltb-false, or_parts}
use Rattle.std.specs.List.{AllByRecursion}
use Rattle.zr_base.specs.Pieces.{first_page, pages_of}
use Rattle.zr_base.specs.Plain.{count_of, has_event, is_beyond, is_maintenance, is_void, is_writeback, start_of}
use Rattle.zr_base.specs.declared.op.Op.{Op}
use Rattle.zr_base.specs.declared.op.Op.TheVariants.{Compact, Discard, Idle, Read, Write, Writeback}
use Rattle.slot_entry.specs.declared.kept.Kept.TheVariants as kept

gone_none : (x : Option Weight) (k : Kept) → NoneOf x → GoneBy x k
gone_none None k n = tt
gone_none (Some x) k n = absurd n

no_pin : (k : Kept) (x : Option Pin) → NoObj k → MayPin k x → NoneOf x
no_pin k None o m = tt
no_pin kept.Empty (Some x) o m = absurd m
no_pin (kept.Same w) (Some x) o m = absurd m
no_pin (kept.Obj s) (Some x) o m = absurd o
no_pin (kept.Wb b) (Some x) o m = absurd o

-- a page on the device has no object
wb_none : (k : Kept) (b : ℕ) (x : Option Pin) → k ≡ kept.Wb b → MayPin k x → NoneOf x
wb_none k b None e m = tt
wb_none k b (Some x) e m = absurd (subst (λ (i : Kept). MayPin i (Some x)) e m)

pub may_none : (k : Kept) (x : Option Pin) → NoneOf x → MayPin k x
may_none k None n = tt
may_none k (Some x) n = absurd n

module _ (g : Begin) (p : Part) (e : EntryState) (fresh : Option Object) (pin : Option Pin)
    (owed : ℕ) (ahead behind : Option Weight) (page : Option (List ℕ)) (fail : Option PartEnd)
    (pins : MayPin e.kept pin) (owes : owed ≡ 0) (stands : IsForm g.chain
    (form_at g p.page e.order) e.kept) (backs : IsBack g e.kept (back_at g p.page e.order))
    (marks : HasMarks g p.page e)
    (blank : BlankAt Old p.op ahead (found_after g p.page e.order).blank)
    (right : IsRight (MaySeeOther g p.page e.order) p.op p.page (page_in page e.kept)
    (content g p.page e.order))
    (more : NoneOf ahead) (less : NoneOf behind) (well : NoneOf fail)
    (begun : is_single g.given.size p.op ≡ false) where
  abbrev f : PageForm
  f = next_form p page e.kept

  module _ (ch : Changes p.op) (made : Bears g.chain f fresh) where
    few_owed : owed ≤ g.chain
    few_owed = omega arith

    owing_stage : NoObj e.kept → Stage g p e Owing fresh pin owed ahead behind page fail
    owing_stage free = record {
      kind = (ch, free);
      made = made;
      pins = no_pin e.kept pin free pins;
      owes = few_owed;
      stands = tt;
      backs = tt;
      marks = tt;
      partly = tt;
      right = right;
      counts = (gone_none ahead e.kept more, less);
      blank = blank;
      fails = well;
      begun = begun;
      scans = tt;
      visits = tt;
      compacts = tt;
    }

    pub settle_stage : (k : Kept) → e.kept ≡ k → Stage g p e
        (settle_at k) fresh pin owed ahead behind page fail
    settle_stage kept.Empty is = owing_stage (subst NoObj (sym is) tt)
    settle_stage (kept.Same w) is = owing_stage (subst NoObj (sym is) tt)
    settle_stage (kept.Obj o) is = record {
      kind = (ch, subst IsObj (sym is) tt);
      made = made;
      pins = pins;
      owes = owes;
      stands = stands;
      backs = backs;
      marks = marks;
      partly = tt;
      right = right;
      counts = (more, less);
      blank = blank;
      fails = well;
      begun = begun;
      scans = tt;
      visits = tt;
      compacts = tt;
    }
    settle_stage (kept.Wb b) is = record {
      kind = (ch, subst IsWb (sym is) tt);
      made = made;
      pins = wb_none e.kept b pin is pins;
      owes = owes;
      stands = stands;
      backs = backs;
      marks = marks;
      partly = tt;
      right = right;
      counts = (more, less);
      blank = blank;
      fails = well;
      begun = begun;
      scans = tt;
      visits = tt;
      compacts = tt;
    }

  writes_change : (op : Op) → IsWrite op → Changes op
  writes_change (Write start count stuff) w = tt
  writes_change (Read start count) w = absurd w
  writes_change (Discard start count) w = absurd w
  writes_change (Idle age) w = absurd w
  writes_change (Writeback mode) w = absurd w
  writes_change Compact w = absurd w

  pub made_stage : IsWrite p.op → NoneOf fresh → (h : PageForm) → f ≡ h → (k : Kept) → e.kept ≡ k
      → Stage g p e (made_at h k) fresh pin owed ahead behind page fail
  made_stage wr free Blank is k is_k = settle_stage (writes_change p.op wr)
      (subst (λ (x : PageForm). Bears g.chain x fresh) (sym is) free) k is_k
  made_stage wr free (Word w) is k is_k = settle_stage (writes_change p.op wr)
      (subst (λ (x : PageForm). Bears g.chain x fresh) (sym is) free) k is_k
  made_stage wr free (Pooled b h) is k is_k = record {
    kind = (wr, subst IsPooled (sym is) tt);
    made = free;
    pins = pins;
    owes = owes;
    stands = stands;
    backs = backs;
    marks = marks;
    partly = tt;
    right = right;
    counts = (more, less);
    blank = tt;
    fails = well;
    begun = begun;
    scans = tt;
    visits = tt;
    compacts = tt;
  }

pub write_changes : (op : Op) → IsWrite op → Changes op
write_changes (Write start count stuff) i = tt
write_changes (Read start count) i = absurd i
write_changes (Discard start count) i = absurd i
write_changes (Idle age) i = absurd i
write_changes (Writeback mode) i = absurd i
write_changes Compact i = absurd i

pub write_blank : (op : Op) → IsWrite op → (x : Option Weight) (b : Bool) → BlankAt Old op x b
write_blank (Write start count stuff) i x b = tt
write_blank (Read start count) i x b = absurd i
write_blank (Discard start count) i x b = absurd i
write_blank (Idle age) i x b = absurd i
write_blank (Writeback mode) i x b = absurd i
write_blank Compact i x b = absurd i

-- ---- locks

pub settle_locks : (k : Kept) (p : Part) (c d : ℕ) → slot p.page ∷ [] ≡ locks_at (settle_at k) p c d
settle_locks kept.Empty p c d = refl
settle_locks (kept.Same w) p c d = refl
settle_locks (kept.Obj o) p c d = refl
settle_locks (kept.Wb b) p c d = refl

pub made_locks : (f : PageForm) (k : Kept) (p : Part) (c d : ℕ)
    → slot p.page ∷ [] ≡ locks_at (made_at f k) p c d
made_locks Blank k p c d = settle_locks k p c d
made_locks (Word w) k p c d = settle_locks k p c d
made_locks (Pooled x y) k p c d = refl

pub old_low : (chain : ℕ) (f : PageForm) (k : Kept) → IsForm chain f k → class_by k < 255
old_low chain f kept.Empty i = omega arith
old_low chain f (kept.Same w) i = omega arith
old_low chain f (kept.Wb b) i = omega arith
old_low chain Blank (kept.Obj o) i = absurd i
old_low chain (Word w) (kept.Obj o) i = absurd i
old_low chain (Pooled b h) (kept.Obj o) i =
    let e = i.0 in let low = form_low chain (Pooled b h) in omega arith

-- ---- where pieces are

-- what each piece of a program has, each that is left has
module _ (P : Part → Type 0) where
  abbrev pub Every : List Part → Type 0
  Every ps = AllByRecursion P ps

  pub every_without : (nr : ℕ) (ps : List Part) → Every ps → Every (without nr ps)
  every_without nr [] all = tt
  every_without nr (p ∷ ps) all = elim (cases_Bool (eqb p.nr nr)) [
    | inl on ↦ rw on (every_without nr ps all.1)
    | inr off ↦ rw off (all.0, every_without nr ps all.1)
  ]

  pub every_left : (end : PartEnd) (nr : ℕ) (ps : List Part) → Every ps → Every (left_by end nr ps)
  every_left end nr ps all = elim (cases_Bool (is_carried end))
      [ inl on ↦ rw on all | inr off ↦ rw off (every_without nr ps all) ]

  pub every_todo : (So : Part → PartEnd → Type 0) (ps : List Part) (ds : List Done) (todo : List Part)
      → Follows So ps ds todo → Every ps → Every todo
  every_todo So ps [] todo f all = subst Every (sym f) all
  every_todo So [] (d ∷ ds) todo f all = absurd f
  every_todo So (p ∷ ps) (d ∷ ds) todo f all =
      every_todo So (left_by d.end p.nr ps) ds todo f.2 (every_left d.end p.nr ps all.1)

  pub every_append : (ps qs : List Part) → Every ps → Every qs → Every (ps ++ qs)
  every_append [] qs a b = b
  every_append (p ∷ ps) qs a b = (a.0, every_append ps qs a.1 b)

abbrev pub OnDisk : ℕ → Part → Type 0
OnDisk size p = is_single size p.op ≡ false → (p.page < size) × (has_event p.op p.page ≡ true)

module _ (size nr : ℕ) (op : Op) where
  from_disk : (page n : ℕ) → page + n ≤ size → Every (OnDisk size) (parts_from nr op page n)
  from_disk page zero le = tt
  from_disk page (suc n) le = elim (cases_Bool (has_event op page)) [
    | inl on ↦ rw on ((λ b. (omega arith, on)), from_disk (page + 1) n (omega arith))
    | inr off ↦ rw off (from_disk (page + 1) n (omega arith))
  ]

  last_page : is_beyond size op ≡ false → first_page op + pages_of op ≤ size
  last_page b = let le = ltb-false (8 * size) (start_of op + count_of op) b in
      elim (cases_Bool (eqb (count_of op) 0)) [
        | inl z ↦ rw z (omega arith)
        | inr s ↦ rw s (let q = eqb-false (count_of op) 0 s in
            let r : 1 ≤ count_of op = positive (count_of op) q in omega arith)
      ] where
        positive : (n : ℕ) → (n ≡ 0 → ⊥) → 1 ≤ n
        positive zero h = absurd (h refl)
        positive (suc n) h = omega arith

  op_disk : Every (OnDisk size) (parts_of size nr op)
  op_disk = elim (cases_Bool (is_single size op)) [
    | inl on ↦ rw on ((λ b. absurd (let q : true ≡ false = sym on ∙ b in cc)), tt)
    | inr off ↦ rw off (from_disk (first_page op) (pages_of op)
        (last_page (or_parts (is_maintenance op) (is_beyond size op) off).1))
  ]

module _ (size : ℕ) (backed : Bool) where
  some_disk : (nr : ℕ) (op : Op) → Every (OnDisk size) (parts size backed nr op)
  some_disk nr op = elim (cases_Bool (is_void backed op))
      [ inl on ↦ rw on tt | inr off ↦ rw off (op_disk size nr op) ]

  program_disk : (nr : ℕ) (ops : List Op) → Every (OnDisk size) (program size backed nr ops)
  program_disk nr [] = tt
  program_disk nr (op ∷ ops) = every_append (OnDisk size) (parts size backed nr op)
      (program size backed (nr + 1) ops) (some_disk nr op) (program_disk (nr + 1) ops)

pub on_disk : (So : Part → PartEnd → Type 0) (size : ℕ) (backed : Bool) (ops : List Op)
    (ds : List Done) (p : Part) (rest : List Part)
    → Follows So (program size backed 0 ops) ds (p ∷ rest) → OnDisk size p
on_disk So size backed ops ds p rest f = (every_todo (OnDisk size) So (program size backed 0 ops)
    ds (p ∷ rest) f (program_disk size backed 0 ops)).0

-- where a writeback has a piece, the disk has a backing
abbrev IsBacked : Bool → Part → Type 0
IsBacked backed p = is_writeback p.op ≡ true → backed ≡ true

module _ (backed : Bool) where
  from_backed : (nr : ℕ) (op : Op) → (is_writeback op ≡ true → backed ≡ true) → (page n : ℕ)
      → Every (IsBacked backed) (parts_from nr op page n)
  from_backed nr op wb page zero = tt
  from_backed nr op wb page (suc n) = elim (cases_Bool (has_event op page)) [
    | inl there ↦ rw there (wb, from_backed nr op wb (page + 1) n)
    | inr none ↦ rw none (from_backed nr op wb (page + 1) n)
  ]

  of_backed : (size nr : ℕ) (op : Op) → (is_writeback op ≡ true → backed ≡ true)
      → Every (IsBacked backed) (parts_of size nr op)
  of_backed size nr op on = elim (cases_Bool (is_single size op)) [
    | inl one ↦ rw one (on, tt)
    | inr more ↦ rw more (from_backed nr op on (first_page op) (pages_of op))
  ]

  void_is : (b c : Bool) → (b && not c) ≡ false → b ≡ true → c ≡ true
  void_is b true e on = refl
  void_is true false e on = absurd (cc)
  void_is false false e on = absurd (cc)

  some_backed : (size nr : ℕ) (op : Op) → Every (IsBacked backed) (parts size backed nr op)
  some_backed size nr op = elim (cases_Bool (is_void backed op)) [
    | inl on ↦ rw on tt
    | inr off ↦ rw off (of_backed size nr op (void_is (is_writeback op) backed off))
  ]

  program_backed : (size nr : ℕ) (ops : List Op)
      → Every (IsBacked backed) (program size backed nr ops)
  program_backed size nr [] = tt
  program_backed size nr (op ∷ ops) = every_append (IsBacked backed) (parts size backed nr op)
      (program size backed (nr + 1) ops) (some_backed size nr op)
      (program_backed size (nr + 1) ops)

pub is_backed : (So : Part → PartEnd → Type 0) (size : ℕ) (backed : Bool) (ops : List Op)
    (ds : List Done) (p : Part) (rest : List Part)
    → Follows So (program size backed 0 ops) ds (p ∷ rest) → is_writeback p.op ≡ true
    → backed ≡ true
is_backed So size backed ops ds p rest f = (every_todo (IsBacked backed) So
    (program size backed 0 ops) ds (p ∷ rest) f (program_backed backed size 0 ops)).0
