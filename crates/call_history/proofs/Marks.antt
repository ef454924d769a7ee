-- What the pieces of a phase's only actor say of its marks, its operations say by their ends.
use Rattle.std.proofs.Common.{◌≡◌, ℕ, ◌+◌, Bool, true, false, cond, eqb, List, [], ◌∷◌, ◌++◌, Option, refl, sym, ap, ◌∙◌, subst, inl, inr}
use Rattle.std.specs.List.{AllByRecursion}
use Rattle.std.proofs.lemmas.Bool.{cases_Bool, and_right}
use Rattle.zr_base.specs.declared.op.Op.{Op}
use Rattle.zr_base.specs.declared.op.Op.TheVariants.{Write, Read, Discard, Idle, Writeback, Compact}
use Rattle.zr_base.specs.declared.op.OpEnd.{OpEnd}
use Rattle.zr_base.specs.Plain.{Look, Finds, stands_on}
use Rattle.mem_account.specs.declared.weight.Weight.{Weight}
use Rattle.plain_disk.specs.Ends.{Ground, Bounds}
use Rattle.plain_disk.specs.Idles.{Aged, only_tag, accessed, passed, each_by, pages_after, IsMarked, AreMarked}
use Rattle.plain_disk.specs.Rests.{Rest}
use Rattle.call_history.specs.declared.part.Part.{Part}
use Rattle.call_history.specs.declared.part.PartEnd.{PartEnd}
use Rattle.call_history.specs.declared.part.Done.{Done}
use Rattle.call_history.specs.Parts.{parts, program, Follows, is_on, noted_on, stands_so, op_end, end_of, end_as, ends_from}
use Rattle.call_history.specs.Alone.{aged_over, each_over, pages_over, AreMarkedOver}
use Rattle.call_history.specs.Histories.{HasSome, SomeEach}
use Rattle.call_history.proofs.Ends.{Mine, every_mine}
use Rattle.call_history.proofs.Told.{every_parts}
use Rattle.call_history.proofs.Operations.{By, Only, only_is, only_end, mine_single, single_stands, one_op}
use Rattle.call_history.proofs.Actors.{cut, front_end, back_ends}

module _ (form : List ℕ → Weight) (clock : ℕ) (finds : ℕ → Finds) where
  -- ---- pieces in a row

  pages_append : (pages : ℕ → Aged) (xs ys : List Done) (p : ℕ)
      → pages_over form clock finds pages (xs ++ ys) p
      ≡ pages_over form clock finds (λ q. pages_over form clock finds pages xs q) ys p
  pages_append pages [] ys p = refl
  pages_append pages (x ∷ xs) ys p =
      pages_append (each_over form clock finds x pages) xs ys p

  marked_append : (size : ℕ) (pages : ℕ → Aged) (xs ys : List Done)
      → AreMarkedOver form clock finds size pages (xs ++ ys)
      → AreMarkedOver form clock finds size pages xs
      × AreMarkedOver form clock finds size (λ q. pages_over form clock finds pages xs q) ys
  marked_append size pages [] ys all = (tt, all)
  marked_append size pages (x ∷ xs) ys all =
      let q = marked_append size (each_over form clock finds x pages) xs ys all.1 in
      ((all.0, q.0), q.1)

  -- ---- one operation

  -- an operation passes a page that it isn't on without a mark
  abbrev Passes : Op → Type 0
  Passes op = (p : ℕ) (s : Aged) → passed form clock p op s ≡ s

  -- the page after pieces of an operation, by whether one of them is on it
  pages_noted : (nr : ℕ) (op : Op) (p : ℕ) (b : Bool) (ds : List Done) (pages : ℕ → Aged)
      → Passes op → AllByRecursion (λ (d : Done). d.part.op ≡ op) ds
      → noted_on p ds ≡ cond b (nr ∷ []) []
      → pages_over form clock finds pages ds p
      ≡ cond b (accessed clock op (finds p (only_tag nr)) (pages p)) (pages p)
  pages_noted nr op p true [] pages pass all e =
      absurd (let none : [] ≡ nr ∷ [] = e in cc)
  pages_noted nr op p false [] pages pass all e = refl
  pages_noted nr op p b (d ∷ ds) pages pass all e = elim (cases_Bool (is_on p d)) [
    | inl on ↦ stands on (λ rest. pages_noted nr op p false ds
        (each_over form clock finds d pages) pass all.1 rest) b
        (sym (ap (λ (x : Bool). cond x (d.part.nr ∷ noted_on p ds) (noted_on p ds)) on) ∙ e)
    | inr off ↦
        pages_noted nr op p b ds (each_over form clock finds d pages) pass all.1
        (sym (ap (λ (x : Bool). cond x (d.part.nr ∷ noted_on p ds) (noted_on p ds)) off) ∙ e)
        ∙ ap (λ (s : Aged). cond b (accessed clock op (finds p (only_tag nr)) s) s) (leaves off)
  ] where
    -- what the piece finds on the page
    look : Look
    look = finds p (only_tag d.part.nr)

    leaves : is_on p d ≡ false → aged_over form clock d look p (pages p) ≡ pages p
    leaves off =
        ap (λ (x : Bool). cond x (accessed clock d.part.op look (pages p))
        (passed form clock p d.part.op (pages p))) off
        ∙ ap (λ (o : Op). passed form clock p o (pages p)) all.0 ∙ pass p (pages p)

    stands : is_on p d ≡ true
        → (noted_on p ds ≡ [] → pages_over form clock finds pages (d ∷ ds) p
        ≡ aged_over form clock d look p (pages p)) → (x : Bool)
        → d.part.nr ∷ noted_on p ds ≡ cond x (nr ∷ []) []
        → pages_over form clock finds pages (d ∷ ds) p
        ≡ cond x (accessed clock op (finds p (only_tag nr)) (pages p)) (pages p)
    stands on later false h = absurd (let none : d.part.nr ∷ noted_on p ds ≡ [] = h in cc)
    stands on later true h =
        let is : d.part.nr ∷ noted_on p ds ≡ nr ∷ [] = h in
        let rest : noted_on p ds ≡ [] = cc in
        let same : d.part.nr ≡ nr = cc in
        later rest
        ∙ ap (λ (x : Bool). cond x (accessed clock d.part.op look (pages p))
        (passed form clock p d.part.op (pages p))) on
        ∙ (λ i. accessed clock (all.0 i) (finds p (only_tag (same i))) (pages p))

  module _ (t : Ground) (b : Bounds) where
    -- What the pieces of an operation say of the marks.
    record SaysMarks (nr : ℕ) (op : Op) (front : List Done) : Type 0 where
      pages : (pages : ℕ → Aged) (p : ℕ) → pages_over form clock finds pages front p
          ≡ each_by form clock finds nr op (end_as t.backed nr op front) pages p
      marks : (size : ℕ) (pages : ℕ → Aged) → AreMarkedOver form clock finds size pages front
          → IsMarked form clock size pages op (end_as t.backed nr op front)

    module _ (nr : ℕ) (op : Op) (front : List Done) (some : HasSome op)
        (m : Mine (By t b) (parts t.size t.backed nr op) front) where
      -- an operation that doesn't mark
      request_pages : Passes op → (pages : ℕ → Aged) (p : ℕ)
          → pages_over form clock finds pages front p
          ≡ each_by form clock finds nr op (end_as t.backed nr op front) pages p
      request_pages pass pages p =
          let stands = stands_on op (end_as t.backed nr op front) p in
          pages_noted nr op p stands front pages pass
          (every_mine (By t b) (λ (x : Part). x.op ≡ op) (parts t.size t.backed nr op) front m
          (every_parts (λ (x : Part). x.op ≡ op) t.size t.backed nr op (λ q. refl)))
          (one_op t b p nr op front some m).noted
          ∙ ap (λ (s : Aged). cond stands (accessed clock op (finds p (only_tag nr)) (pages p)) s)
          (sym (pass p (pages p)))

    -- an operation that marks has one piece, which is on no page
    only_marks : (nr : ℕ) (age : Option ℕ) (front : List Done) → Only t b nr (Idle age) front
        → SaysMarks nr (Idle age) front
    only_marks nr age front o =
        let op : o.d.part.op ≡ Idle age = ap (λ (p : Part). p.op) o.part in
        let whole : end_of nr front ≡ o.whole.end = only_end t b nr (Idle age) front o in
        let end : op_end o.d.end 0 ≡ end_of nr front =
        ap (λ (x : PartEnd). op_end x 0) o.whole.is ∙ sym whole in
        record {
          pages = λ pages p.
              let off : is_on p o.d ≡ false = and_right (eqb o.d.part.page p)
              (stands_so o.d.part.op o.d.end) (ap (stands_so o.d.part.op) o.whole.is) in
              let none : stands_on (Idle age) (end_of nr front) p ≡ false =
              ap (λ (e : OpEnd). stands_on (Idle age) e p) whole
              ∙ single_stands t b (Idle age) o.whole.end p o.whole.may in
              ap (λ (ds : List Done). pages_over form clock finds pages ds p) o.is
              ∙ (λ i. cond (off i)
              (accessed clock o.d.part.op (finds p (only_tag o.d.part.nr)) (pages p))
              (passed form clock p (op i) (pages p)))
              ∙ sym (ap (λ (x : Bool). cond x
              (accessed clock (Idle age) (finds p (only_tag nr)) (pages p))
              (passed form clock p (Idle age) (pages p))) none);
          marks = λ size pages all.
              let one = subst (AreMarkedOver form clock finds size pages) o.is all in
              subst (λ (e : OpEnd). IsMarked form clock size pages (Idle age) e) end
              (subst (λ (x : Op). IsMarked form clock size pages x (op_end o.d.end 0)) op one.0);
        }

    says_marks : (nr : ℕ) (op : Op) (front : List Done) → HasSome op
        → Mine (By t b) (parts t.size t.backed nr op) front → SaysMarks nr op front
    says_marks nr (Write start count stuff) front some m = record {
      pages = request_pages nr (Write start count stuff) front some m (λ p s. refl);
      marks = λ size pages all. tt;
    }
    says_marks nr (Read start count) front some m = record {
      pages = request_pages nr (Read start count) front some m (λ p s. refl);
      marks = λ size pages all. tt;
    }
    says_marks nr (Discard start count) front some m = record {
      pages = request_pages nr (Discard start count) front some m (λ p s. refl);
      marks = λ size pages all. tt;
    }
    says_marks nr (Writeback mode) front some m = record {
      pages = request_pages nr (Writeback mode) front some m (λ p s. refl);
      marks = λ size pages all. tt;
    }
    says_marks nr Compact front some m = record {
      pages = request_pages nr Compact front some m (λ p s. refl);
      marks = λ size pages all. tt;
    }
    says_marks nr (Idle age) front some m =
        only_marks nr age front (only_is t b nr (Idle age) front refl
        (mine_single t b nr (Idle age) front refl m))

-- ---- all operations

module _ (form : List ℕ → Weight) (r : Rest) (finds : ℕ → Finds) (t : Ground) (b : Bounds) where
  -- What an actor's pieces say of the marks of its operations.
  pub record TellMarks (nr : ℕ) (ops : List Op) (done : List Done) (pages : ℕ → Aged)
      : Type 0 where
    pub marks : AreMarkedOver form r.set.clock finds r.size pages done
        → AreMarked form r finds nr pages ops (ends_from t.backed nr ops done)
    pub pages_are : (p : ℕ) → pages_after form r finds nr pages ops (ends_from t.backed nr ops done) p
        ≡ pages_over form r.set.clock finds pages done p

  pub tell_marks : (nr : ℕ) (ops : List Op) (done : List Done) (pages : ℕ → Aged)
      → SomeEach ops → Follows (By t b) (program t.size t.backed nr ops) done []
      → TellMarks nr ops done pages
  tell_marks nr [] [] pages some f = record { marks = λ all. tt; pages_are = λ p. refl }
  tell_marks nr [] (d ∷ ds) pages some f = absurd f
  tell_marks nr (op ∷ ops) done pages some f =
      let c = cut (By t b) t.size t.backed nr op ops done f in
      let s = says_marks form r.set.clock finds t b nr op c.front some.0 c.mine in
      let end = front_end (By t b) t.size t.backed nr op ops done c in
      let back = back_ends (By t b) t.size t.backed nr op ops done c in
      let next = each_by form r.set.clock finds nr op (end_as t.backed nr op c.front) pages in
      let later = tell_marks (nr + 1) ops c.back next some.1 c.later in
      record {
        marks = λ all.
            let q = marked_append form r.set.clock finds r.size pages c.front c.back
            (subst (AreMarkedOver form r.set.clock finds r.size pages) c.is all) in
            let rest : AreMarkedOver form r.set.clock finds r.size next c.back =
            subst (λ (x : ℕ → Aged). AreMarkedOver form r.set.clock finds r.size x c.back)
            (λ i p. s.pages pages p i) q.1 in
            subst (AreMarked form r finds nr pages (op ∷ ops))
            (λ i. sym end i ∷ sym back i)
            (s.marks r.size pages q.0, later.marks rest);
        pages_are = λ p.
            ap (λ (es : List OpEnd). pages_after form r finds nr pages (op ∷ ops) es p)
            (λ i. end i ∷ back i)
            ∙ later.pages_are p
            ∙ sym (ap (λ (ds : List Done). pages_over form r.set.clock finds pages ds p) c.is
            ∙ pages_append form r.set.clock finds pages c.front c.back p
            ∙ (λ i. pages_over form r.set.clock finds (λ q. s.pages pages q i) c.back p));
      }
