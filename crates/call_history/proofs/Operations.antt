-- What the pieces of one operation say of it, once it is over.
use Rattle.std.proofs.Common.{◌≡◌, ℕ, zero, suc, ◌+◌, ◌-◌, ◌*◌, ◌/◌, ◌<◌, ◌≤◌, Bool, true, false, ◌&&◌, cond, eqb, ltb, leb, min, max, List, [], ◌∷◌, ◌++◌, map, refl, sym, ap, ◌∙◌, subst, arith, zero-add, ◌⊎◌, inl, inr, ⊎_elim}
use Rattle.std.specs.List.{range_with_len, AllByRecursion}
use Rattle.std.proofs.lemmas.Bool.{cases_Bool, eq-eqb, ne_eqb, and_right, and_parts, and_from, ltb-true, leb-true, le-leb, lt-ltb, cases_lt}
use Rattle.zr_base.specs.declared.op.Op.{Op}
use Rattle.zr_base.specs.declared.op.Op.TheVariants.{Write, Read, Discard, Idle, Writeback, Compact}
use Rattle.zr_base.specs.declared.op.OpEnd.{OpEnd}
use Rattle.zr_base.specs.declared.op.OpEnd.TheVariants as ends
use Rattle.zr_base.specs.Plain.{start_of, count_of, has_event, touches, is_among, pieces_noted, stands_on, is_void}
use Rattle.zr_base.specs.Pieces.{first_page, pages_of}
use Rattle.plain_disk.specs.Ends.{Ground, Bounds, is_single, MayBeSingle, MayEndSo, MayEnd, sectors_before, read_by}
use Rattle.call_history.specs.declared.part.Part.{Part}
use Rattle.call_history.specs.declared.part.PartEnd.{PartEnd}
use Rattle.call_history.specs.declared.part.PartEnd.TheVariants as over
use Rattle.call_history.specs.declared.part.Done.{Done}
use Rattle.call_history.specs.Histories.{HasSome}
use Rattle.call_history.specs.Parts.{parts_from, parts_of, parts, EndsSo, KeepsTo, is_carried, is_read, stands_so, op_end, noted_on, got_by, got_of, end_by, end_of, end_as, shown}
use Rattle.call_history.proofs.Ends.{Mine, carried, bool_same, mine_on, none_left, piece_of, noted_one, end_here, pages_noted, pages_end, wholes_noted}

-- ---- sectors and pages

range_join : (f : ℕ → List ℕ) (x i y j k : ℕ) → k ≡ i + j → (j ≡ 0) ⊎ (y ≡ x + i)
    → map f (range_with_len x k) ≡ map f (range_with_len x i) ++ map f (range_with_len y j)
range_join f x zero y j k e (inl none) =
    (λ n. map f (range_with_len x ((let q : k ≡ 0 = omega arith in q) n)))
    ∙ (λ n. map f (range_with_len y (sym none n)))
range_join f x zero y j k e (inr next) =
    (λ n. map f
    (range_with_len ((let q : x ≡ y = omega arith in q) n) ((let q : k ≡ j = omega arith in q) n)))
range_join f x (suc i) y j k e c =
    ap (λ (n : ℕ). map f (range_with_len x n)) (let q : k ≡ suc (i + j) = omega arith in q)
    ∙ ap (λ (xs : List (List ℕ)). f x ∷ xs)
    (range_join f (x + 1) i y j (i + j) refl (⊎_elim (λ h. inl h) (λ h. inr (omega arith)) c))

-- what a piece has read is what R says of its operation
abbrev pub Reads : (ℕ → ℕ → List ℕ) → Done → Type 0
Reads R d = stands_so d.part.op d.end ≡ true
    → d.got ≡ cond (is_carried d.end) (got_by d.part.op d.part.page (R d.part.nr)) []

got_one : (nr : ℕ) (op : Op) (a : ℕ) (d : Done) (ds : List Done) (got : List (List ℕ))
    → d.part ≡ piece_of nr op a → d.got ≡ got → got_of nr (d ∷ ds) ≡ got ++ got_of nr ds
got_one nr op a d ds got part e =
    ap (λ (b : Bool). cond b (d.got ++ got_of nr ds) (got_of nr ds))
    (eq-eqb d.part.nr nr (ap (λ (x : Part). x.nr) part))
    ∙ ap (λ (xs : List (List ℕ)). xs ++ got_of nr ds) e

abbrev read_to : ℕ → ℕ → ℕ → ℕ → (ℕ → List ℕ) → List (List ℕ)
read_to start count a n f =
    map f (range_with_len (max start (8 * a))
    (min (start + count) (8 * (a + n)) - max start (8 * a)))

pub pages_some : (op : Op) → 1 ≤ count_of op
    → pages_of op ≡ (start_of op + count_of op - 1) / 8 + 1 - start_of op / 8
pages_some op some =
    ap (λ (b : Bool). cond b 0 ((start_of op + count_of op - 1) / 8 + 1 - start_of op / 8))
    (ne_eqb (count_of op) 0 (λ z. omega arith))

touches_among : (op : Op) (p : ℕ) → 1 ≤ count_of op
    → touches (start_of op) (count_of op) p ≡ is_among (first_page op) (pages_of op) p
touches_among op p some =
    let n = pages_some op some in
    let from = ltb (start_of op) (8 * p + 8) in
    let to = ltb (8 * p) (start_of op + count_of op) in
    let first = leb (first_page op) p in
    let last = ltb p (first_page op + pages_of op) in
    bool_same (touches (start_of op) (count_of op) p) (is_among (first_page op) (pages_of op) p)
    (λ on. let q = and_parts from to (and_parts (ltb 0 (count_of op)) (from && to) on).1 in
    let q₀ = ltb-true (start_of op) (8 * p + 8) q.0 in
    let q₁ = ltb-true (8 * p) (start_of op + count_of op) q.1 in
    and_from first last
    (le-leb (first_page op) p (omega arith))
    (lt-ltb p (first_page op + pages_of op) (omega arith)))
    (λ on. let q = and_parts first last on in
    let q₀ = leb-true (first_page op) p q.0 in
    let q₁ = ltb-true p (first_page op + pages_of op) q.1 in
    and_from (ltb 0 (count_of op)) (from && to) (lt-ltb 0 (count_of op) some)
    (and_from from to
    (lt-ltb (start_of op) (8 * p + 8) (omega arith))
    (lt-ltb (8 * p) (start_of op + count_of op) (omega arith))))

among_more : (first n p : ℕ) → is_among first n p ≡ is_among first (n + 0) p
among_more first n p =
    ap (λ (m : ℕ). is_among first m p) (let q : n ≡ n + 0 = omega arith in q)

-- where a read of the device has failed, the read's piece stands with those that were carried out
among_noted : (op : Op) (first n p : ℕ)
    → is_among first (pieces_noted op n) p ≡ is_among first (n + cond (is_read op) 1 0) p
among_noted (Write start count stuff) first n p = among_more first n p
among_noted (Read start count) first n p = refl
among_noted (Discard start count) first n p = among_more first n p
among_noted (Idle age) first n p = among_more first n p
among_noted (Writeback mode) first n p = among_more first n p
among_noted Compact first n p = among_more first n p

-- a request's sectors on its first so many pages, as those from its first sector on
read_before : (start count n : ℕ) (f : ℕ → List ℕ)
    → read_to start count (start / 8) n f
    ≡ map f (range_with_len start (sectors_before start count n))
read_before start count n f = λ i. map f
    (range_with_len ((let q : max start (8 * (start / 8)) ≡ start = omega arith in q) i)
    ((let q : min (start + count) (8 * (start / 8 + n)) - max start (8 * (start / 8))
    ≡ min count (8 * (start / 8 + n) - start) = omega arith in q) i))

clash : (x : Bool) → x ≡ true → x ≡ false → ⊥
clash x yes_ none = let q : true ≡ false = sym yes_ ∙ none in cc

module _ (t : Ground) (b : Bounds) where
  -- the ends that a piece may have by the phase's start, and by its end
  abbrev pub By : Part → PartEnd → Type 0
  By p x = EndsSo t p x × KeepsTo t b x

  -- what the pieces of an operation that does something say of it
  record Does (p nr : ℕ) (op : Op) (end : OpEnd) (front : List Done) : Type 0 where
    may : MayEndSo t b op end
    noted : noted_on p front ≡ cond (stands_on op end p) (nr ∷ []) []

  -- what those of any operation say
  pub record IsOp (p nr : ℕ) (op : Op) (end : OpEnd) (front : List Done) : Type 0 where
    pub may : MayEnd t b op end
    pub noted : noted_on p front ≡ cond (stands_on op end p) (nr ∷ []) []

  -- ---- an operation that is over in one piece

  -- its piece is all of it
  pub record IsWhole (op : Op) (x : PartEnd) : Type 0 where
    pub end : OpEnd
    pub is : x ≡ over.Whole end
    pub may : MayBeSingle t op end
    pub keeps : KeepsTo t b (over.Whole end)

  whole_is : (p : Part) (x : PartEnd) → is_single t.size p.op ≡ true → By p x → IsWhole p.op x
  whole_is p over.Carried on so = absurd (clash (is_single t.size p.op) on so.0)
  whole_is p (over.AtLimit charged need limit) on so =
      absurd (clash (is_single t.size p.op) on so.0.0)
  whole_is p over.NoMemory on so = absurd (clash (is_single t.size p.op) on so.0.0)
  whole_is p (over.Eio fault) on so = absurd (clash (is_single t.size p.op) on so.0.0)
  whole_is p (over.Whole end) on so =
      record { end = end; is = refl; may = so.0.1; keeps = so.1 }

  pub never_stands : (p : Part) (x : PartEnd) → is_single t.size p.op ≡ true → By p x
      → stands_so p.op x ≡ false
  never_stands p x on so = ap (stands_so p.op) (whole_is p x on so).is

  -- such an end is one that the operation may have, and it stands in no order
  single_may : (op : Op) (end : OpEnd) → MayBeSingle t op end → KeepsTo t b (over.Whole end)
      → MayEndSo t b op end
  single_may op ends.Range may keeps = (may, keeps)
  single_may op (ends.Marked pages) may keeps = (may, keeps)
  single_may op (ends.Written wrote lost) may keeps = (may, keeps)
  single_may op (ends.Budget wrote lost) may keeps = (may, keeps)
  single_may op (ends.NoBlock wrote lost) may keeps = (may, keeps)
  single_may op (ends.WriteEio fault wrote lost) may keeps = (may, keeps)
  single_may op (ends.Compacted moves frames) may keeps = (may, keeps)
  single_may op _ may keeps = absurd may

  pub single_stands : (op : Op) (end : OpEnd) (p : ℕ) → MayBeSingle t op end
      → stands_on op end p ≡ false
  single_stands op ends.Range p may = refl
  single_stands op (ends.Marked pages) p may = refl
  single_stands op (ends.Written wrote lost) p may = refl
  single_stands op (ends.Budget wrote lost) p may = refl
  single_stands op (ends.NoBlock wrote lost) p may = refl
  single_stands op (ends.WriteEio fault wrote lost) p may = refl
  single_stands op (ends.Compacted moves frames) p may = refl
  single_stands op _ p may = absurd may

  single_shown : (start count : ℕ) (end : OpEnd) (got : List (List ℕ)) (f : ℕ → List ℕ)
      → MayBeSingle t (Read start count) end
      → shown (Read start count) end got ≡ read_by (Read start count) end f
  single_shown start count ends.Range got f may = refl
  single_shown start count (ends.Marked pages) got f may = refl
  single_shown start count (ends.Written wrote lost) got f may = refl
  single_shown start count (ends.Budget wrote lost) got f may = refl
  single_shown start count (ends.NoBlock wrote lost) got f may = refl
  single_shown start count (ends.WriteEio fault wrote lost) got f may = refl
  single_shown start count (ends.Compacted moves frames) got f may = refl
  single_shown start count _ got f may = absurd may

  -- the only piece of an operation
  pub record Only (nr : ℕ) (op : Op) (front : List Done) : Type 0 where
    pub d : Done
    pub part : d.part ≡ piece_of nr op (first_page op)
    pub whole : IsWhole op d.end
    pub is : front ≡ d ∷ []

  pub only_is : (nr : ℕ) (op : Op) (front : List Done) → is_single t.size op ≡ true
      → Mine By (piece_of nr op (first_page op) ∷ []) front → Only nr op front
  only_is nr op [] on m =
      absurd (let q : piece_of nr op (first_page op) ∷ [] ≡ [] = m in cc)
  only_is nr op (d ∷ ds) on m =
      let w = whole_is (piece_of nr op (first_page op)) d.end on m.1 in
      let none = none_left By ds (mine_on By d [] ds false (ap is_carried w.is) m.2) in
      record { d = d; part = m.0; whole = w; is = ap (λ (xs : List Done). d ∷ xs) none }

  pub only_end : (nr : ℕ) (op : Op) (front : List Done) (o : Only nr op front)
      → end_by nr 0 front ≡ o.whole.end
  only_end nr op front o = ap (end_by nr 0) o.is
      ∙ end_here nr op (first_page op) 0 o.d [] o.part
      ∙ ap (λ (x : PartEnd). cond (is_carried x) (end_by nr 1 []) (op_end x 0)) o.whole.is

  only_op : (p nr : ℕ) (op : Op) (front : List Done) → Only nr op front
      → Does p nr op (end_by nr 0 front) front
  only_op p nr op front o =
      subst (λ (end : OpEnd). Does p nr op end front) (sym (only_end nr op front o)) record {
        may = single_may op o.whole.end o.whole.may o.whole.keeps;
        noted = ap (noted_on p) o.is
            ∙ noted_one nr p (first_page op) op o.d [] false o.part
            (ap (stands_so op) o.whole.is)
            ∙ ap (λ (x : Bool). cond x (nr ∷ []) [])
            (and_right (eqb (first_page op) p) false refl
            ∙ sym (single_stands op o.whole.end p o.whole.may));
      }

  pub mine_single : (nr : ℕ) (op : Op) (front : List Done) → is_single t.size op ≡ true
      → Mine By (parts_of t.size nr op) front → Mine By (piece_of nr op (first_page op) ∷ []) front
  mine_single nr op front on m =
      subst (λ (x : Bool). Mine By (cond x (piece_of nr op (first_page op) ∷ [])
      (parts_from nr op (first_page op) (pages_of op))) front) on m

  mine_several : (nr : ℕ) (op : Op) (front : List Done) → is_single t.size op ≡ false
      → Mine By (parts_of t.size nr op) front
      → Mine By (parts_from nr op (first_page op) (pages_of op)) front
  mine_several nr op front off m =
      subst (λ (x : Bool). Mine By (cond x (piece_of nr op (first_page op) ∷ [])
      (parts_from nr op (first_page op) (pages_of op))) front) off m

  -- ---- an operation on the disk

  -- a refused end
  may_end : (nr : ℕ) (op : Op) (x : PartEnd) (n : ℕ) → is_carried x ≡ false
      → By (piece_of nr op (first_page op + n)) x → is_single t.size op ≡ false
      → n < pages_of op → MayEndSo t b op (op_end x n)
  may_end nr op over.Carried n not so inside few = absurd (cc)
  may_end nr op (over.AtLimit charged need limit) n not so inside few =
      ((inside, few), so.0.1, so.1)
  may_end nr op over.NoMemory n not so inside few = ((inside, few), so.0.1)
  may_end nr op (over.Eio fault) n not so inside few = ((inside, few), so.0.1, so.1)
  may_end nr op (over.Whole end) n not so inside few =
      absurd (clash (is_single t.size op) so.0.0 inside)

  stands_end : (nr : ℕ) (op : Op) (x : PartEnd) (n p : ℕ) → is_carried x ≡ false
      → By (piece_of nr op (first_page op + n)) x → is_single t.size op ≡ false
      → stands_on op (op_end x n) p
      ≡ is_among (first_page op) (n + cond (stands_so op x) 1 0) p
  stands_end nr op over.Carried n p not so inside = absurd (cc)
  stands_end nr op (over.AtLimit charged need limit) n p not so inside =
      among_more (first_page op) n p
  stands_end nr op over.NoMemory n p not so inside = among_more (first_page op) n p
  stands_end nr op (over.Eio fault) n p not so inside = among_noted op (first_page op) n p
  stands_end nr op (over.Whole end) n p not so inside =
      absurd (clash (is_single t.size op) so.0.0 inside)

  -- reads and writes
  by_pages : (p nr : ℕ) (op : Op) (front : List Done) → 1 ≤ count_of op
      → ((q : ℕ) → has_event op q ≡ true) → is_single t.size op ≡ false
      → Mine By (parts_from nr op (first_page op) (pages_of op)) front
      → Does p nr op (end_by nr 0 front) front
  by_pages p nr op front some on inside m =
      let noted = pages_noted By nr op p (first_page op) (pages_of op) front on m in
      ⊎_elim
      (λ h. subst (λ (end : OpEnd). Does p nr op end front) (sym h.0) record {
        may = inside;
        noted = noted
            ∙ ap (λ (x : Bool). cond x (nr ∷ []) [])
            (ap (λ (n : ℕ). is_among (first_page op) n p) h.1
            ∙ sym (touches_among op p some)
            ∙ sym (all_event (touches (start_of op) (count_of op) p) (on p)));
      })
      (λ h. subst (λ (end : OpEnd). Does p nr op end front) (sym (h.end_is
      ∙ ap (op_end h.last) (zero-add (carried front)))) record {
        may = may_end nr op h.last (carried front) h.not h.so inside h.fewer;
        noted = noted
            ∙ ap (λ (x : Bool). cond x (nr ∷ []) [])
            (ap (λ (n : ℕ). is_among (first_page op) n p) h.noted_is
            ∙ sym (stands_end nr op h.last (carried front) p h.not h.so inside));
      })
      (pages_end By nr op (first_page op) (pages_of op) 0 front on m) where
        all_event : (x : Bool) → has_event op p ≡ true → (x && has_event op p) ≡ x
        all_event true e = e
        all_event false e = refl

  by_wholes : (p nr : ℕ) (op : Op) (front : List Done) → 1 ≤ count_of op
      → ((q : ℕ) (x : PartEnd) → By (piece_of nr op q) x → is_carried x ≡ true)
      → is_single t.size op ≡ false
      → Mine By (parts_from nr op (first_page op) (pages_of op)) front
      → Does p nr op (end_by nr 0 front) front
  by_wholes p nr op front some not inside m =
      let r = wholes_noted By nr op p (first_page op) (pages_of op) 0 front not m in
      subst (λ (end : OpEnd). Does p nr op end front) (sym r.1) record {
        may = inside;
        noted = r.0
            ∙ ap (λ (x : Bool). cond (x && has_event op p) (nr ∷ []) [])
            (sym (touches_among op p some));
      }

  -- a piece of a discard is carried out
  discard_ends : (nr start count : ℕ) → is_single t.size (Discard start count) ≡ false
      → (q : ℕ) (x : PartEnd) → By (piece_of nr (Discard start count) q) x
      → is_carried x ≡ true
  discard_ends nr start count inside q over.Carried so = refl
  discard_ends nr start count inside q (over.AtLimit charged need limit) so =
      absurd so.0.1.wants
  discard_ends nr start count inside q over.NoMemory so = absurd so.0.1
  discard_ends nr start count inside q (over.Eio fault) so = absurd so.0.1
  discard_ends nr start count inside q (over.Whole end) so =
      absurd (clash (is_single t.size (Discard start count)) so.0.0 inside)

  one_does : (p nr : ℕ) (op : Op) (front : List Done) → HasSome op
      → Mine By (parts_of t.size nr op) front → Does p nr op (end_of nr front) front
  one_does p nr op front some m = elim (cases_Bool (is_single t.size op)) [
    | inl on ↦ only_op p nr op front (only_is nr op front on (mine_single nr op front on m))
    | inr off ↦ by_kind op some off (mine_several nr op front off m)
  ] where
    by_kind : (o : Op) → HasSome o → is_single t.size o ≡ false
        → Mine By (parts_from nr o (first_page o) (pages_of o)) front
        → Does p nr o (end_by nr 0 front) front
    by_kind (Write start count stuff) some off k =
        by_pages p nr (Write start count stuff) front (some refl) (λ q. refl) off k
    by_kind (Read start count) some off k =
        by_pages p nr (Read start count) front (some refl) (λ q. refl) off k
    by_kind (Discard start count) some off k =
        by_wholes p nr (Discard start count) front (some refl) (discard_ends nr start count off) off
        k
    by_kind (Idle age) some off k = absurd (cc)
    by_kind (Writeback mode) some off k = absurd (cc)
    by_kind Compact some off k = absurd (cc)

  -- one that does nothing has no piece
  pub one_op : (p nr : ℕ) (op : Op) (front : List Done) → HasSome op
      → Mine By (parts t.size t.backed nr op) front
      → IsOp p nr op (end_as t.backed nr op front) front
  one_op p nr op front some m = elim (cases_Bool (is_void t.backed op)) [
    | inl void ↦ record {
      may = rw void refl;
      noted = rw void (ap (noted_on p) (none_left By front (mine_by true void)));
    }
    | inr does ↦
        let o = one_does p nr op front some (mine_by false does) in
        record { may = rw does o.may; noted = rw does o.noted }
  ] where
    mine_by : (x : Bool) → is_void t.backed op ≡ x
        → Mine By (cond x [] (parts_of t.size nr op)) front
    mine_by x e = subst (λ (y : Bool). Mine By (cond y [] (parts_of t.size nr op)) front) e m

  -- ---- what a read tells

  -- each piece of a read on the disk stands
  read_notes : (nr start count a : ℕ) (x : PartEnd) → By (piece_of nr (Read start count) a) x
      → is_single t.size (Read start count) ≡ false → stands_so (Read start count) x ≡ true
  read_notes nr start count a over.Carried so inside = refl
  read_notes nr start count a (over.AtLimit charged need limit) so inside =
      absurd so.0.1.wants
  read_notes nr start count a over.NoMemory so inside = absurd so.0.1
  read_notes nr start count a (over.Eio fault) so inside = refl
  read_notes nr start count a (over.Whole end) so inside =
      absurd (clash (is_single t.size (Read start count)) so.0.0 inside)

  pieces_got : (R : ℕ → ℕ → List ℕ) (nr start count a n : ℕ) (front : List Done)
      → is_single t.size (Read start count) ≡ false → start < 8 * a + 8
      → Mine By (parts_from nr (Read start count) a n) front → AllByRecursion (Reads R) front
      → got_of nr front ≡ read_to start count a (carried front) (R nr)
  pieces_got R nr start count a zero [] inside low m all =
      sym (ap (λ (n : ℕ). map (R nr) (range_with_len (max start (8 * a)) n))
      (let q : min (start + count) (8 * (a + 0)) - max start (8 * a) ≡ 0 = omega arith in q))
  pieces_got R nr start count a zero (d ∷ ds) inside low m all = absurd m
  pieces_got R nr start count a (suc n) [] inside low m all =
      absurd (let q : piece_of nr (Read start count) a
      ∷ parts_from nr (Read start count) (a + 1) n ≡ [] = m in cc)
  pieces_got R nr start count a (suc n) (d ∷ ds) inside low m all =
      by_end (λ k. pieces_got R nr start count (a + 1) n ds inside (omega arith) k all.1)
      (is_carried d.end) refl where
        got_is : (b : Bool) → is_carried d.end ≡ b
            → d.got ≡ cond b (got_by (Read start count) a (R nr)) []
        got_is b e =
            let part : d.part ≡ piece_of nr (Read start count) a = m.0 in
            all.0 (ap (λ (x : Part). stands_so x.op d.end) part
            ∙ read_notes nr start count a d.end m.1 inside)
            ∙ (λ i. cond (e i) (got_by (part i).op (part i).page (R (part i).nr)) [])

        by_end : (Mine By (parts_from nr (Read start count) (a + 1) n) ds
            → got_of nr ds ≡ read_to start count (a + 1) (carried ds) (R nr)) → (b : Bool)
            → is_carried d.end ≡ b
            → got_of nr (d ∷ ds) ≡ read_to start count a (carried (d ∷ ds)) (R nr)
        by_end again true e =
            got_one nr (Read start count) a d ds (got_by (Read start count) a (R nr)) m.0
            (got_is true e)
            ∙ ap (λ (xs : List (List ℕ)). got_by (Read start count) a (R nr) ++ xs)
            (again (mine_on By d (parts_from nr (Read start count) (a + 1) n) ds true e m.2))
            ∙ sym (range_join (R nr) (max start (8 * a))
            (min (start + count) (8 * a + 8) - max start (8 * a)) (max start (8 * (a + 1)))
            (min (start + count) (8 * (a + 1 + carried ds)) - max start (8 * (a + 1)))
            (min (start + count) (8 * (a + suc (carried ds))) - max start (8 * a)) (omega arith)
            (⊎_elim (λ h. inr (omega arith)) (λ h. inl (omega arith))
            (cases_lt (8 * a + 8) (start + count))))
            ∙ sym (ap (λ (x : Bool). read_to start count a (cond x (suc (carried ds)) 0) (R nr)) e)
        by_end again false e =
            got_one nr (Read start count) a d ds [] m.0 (got_is false e)
            ∙ ap (got_of nr) (none_left By ds
            (mine_on By d (parts_from nr (Read start count) (a + 1) n) ds false e m.2))
            ∙ sym (ap (λ (x : Bool). read_to start count a (cond x (suc (carried ds)) 0) (R nr)) e
            ∙ ap (λ (n : ℕ). map (R nr) (range_with_len (max start (8 * a)) n))
            (let q : min (start + count) (8 * (a + 0)) - max start (8 * a) ≡ 0 = omega arith in
            q))

  -- what a read tells is what its pieces have read
  pub one_read : (R : ℕ → ℕ → List ℕ) (nr start count : ℕ) (front : List Done) → 1 ≤ count
      → Mine By (parts t.size t.backed nr (Read start count)) front → AllByRecursion (Reads R) front
      → shown (Read start count) (end_of nr front) (got_of nr front)
      ≡ read_by (Read start count) (end_of nr front) (R nr)
  one_read R nr start count front some m all =
      elim (cases_Bool (is_single t.size (Read start count))) [
        | inl on ↦
            let o = only_is nr op front on (mine_single nr op front on m) in
            subst (λ (end : OpEnd). shown op end (got_of nr front) ≡ read_by op end (R nr))
            (sym (only_end nr op front o))
            (single_shown start count o.whole.end (got_of nr front) (R nr) o.whole.may)
        | inr off ↦
            let k = mine_several nr op front off m in
            let got = pieces_got R nr start count (start / 8) (pages_of op) front off
            (omega arith) k all in
            ⊎_elim (λ h. whole got h.0 h.2)
            (λ h. refused off got h.last h.not h.so
            (h.end_is ∙ ap (op_end h.last) (zero-add (carried front))))
            (pages_end By nr op (start / 8) (pages_of op) 0 front (λ q. refl) k)
      ] where
        op : Op
        op = Read start count

        whole : got_of nr front ≡ read_to start count (start / 8) (carried front) (R nr)
            → end_by nr 0 front ≡ ends.Ok → carried front ≡ pages_of op
            → shown op (end_by nr 0 front) (got_of nr front) ≡ read_by op (end_by nr 0 front) (R nr)
        whole got e c =
            let n = pages_some op some in
            subst (λ (end : OpEnd). shown op end (got_of nr front) ≡ read_by op end (R nr)) (sym e)
            (got ∙ read_before start count (carried front) (R nr)
            ∙ ap (λ (k : ℕ). map (R nr) (range_with_len start k))
            (let q : sectors_before start count (carried front) ≡ count = omega arith in q))

        -- a piece of a read is refused only where the device has failed
        refused : is_single t.size op ≡ false
            → got_of nr front ≡ read_to start count (start / 8) (carried front) (R nr)
            → (x : PartEnd) → is_carried x ≡ false
            → By (piece_of nr op (start / 8 + carried front)) x
            → end_by nr 0 front ≡ op_end x (carried front)
            → shown op (end_by nr 0 front) (got_of nr front) ≡ read_by op (end_by nr 0 front) (R nr)
        refused inside got over.Carried not so e = absurd (cc)
        refused inside got (over.AtLimit charged need limit) not so e = absurd so.0.1.wants
        refused inside got over.NoMemory not so e = absurd so.0.1
        refused inside got (over.Eio fault) not so e =
            subst (λ (end : OpEnd). shown op end (got_of nr front) ≡ read_by op end (R nr)) (sym e)
            (got ∙ read_before start count (carried front) (R nr))
        refused inside got (over.Whole end) not so e =
            absurd (clash (is_single t.size op) so.0.0 inside)
