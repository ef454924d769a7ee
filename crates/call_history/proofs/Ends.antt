-- The pieces of an actor that has finished, operation by operation.
use Rattle.std.proofs.Common.{◌≡◌, ◌≢◌, ℕ, zero, suc, ◌+◌, ◌<◌, ◌≤◌, Bool, true, false, ◌&&◌, cond, eqb, ltb, leb, List, [], ◌∷◌, ◌++◌, refl, sym, ap, ◌∙◌, subst, append_assoc, arith, ◌⊎◌, inl, inr, ⊎_elim}
use Rattle.std.specs.List.{AllByRecursion}
use Rattle.std.proofs.lemmas.Bool.{cases_Bool, eqb-true, eqb-false, eq-eqb, ne_eqb, and_left, and_right, and_parts, and_from, ltb-true, leb-true, lt-ltb, le-ltb, le-leb, lt-leb, cases_lt, cases_eq}
use Rattle.std.proofs.lemmas.List.{append-nil}
use Rattle.zr_base.specs.declared.op.Op.{Op}
use Rattle.zr_base.specs.declared.op.OpEnd.{OpEnd}
use Rattle.zr_base.specs.declared.op.OpEnd.TheVariants as ends
use Rattle.call_history.specs.declared.part.Part.{Part}
use Rattle.call_history.specs.declared.part.PartEnd.{PartEnd}
use Rattle.call_history.specs.declared.part.PartEnd.TheVariants as over
use Rattle.call_history.specs.declared.part.Done.{Done}
use Rattle.zr_base.specs.Plain.{has_event, is_among}
use Rattle.call_history.specs.Parts.{parts_from, parts, program, without, left_by, Follows, is_carried, stands_so, op_end, is_on, noted_on, got_of, end_step, end_by}
use Rattle.call_history.proofs.Told.{every_left, every_append, every_parts}

-- ---- one operation after the other

abbrev pub kept : PartEnd → List Part → List Part
kept end ps = cond (is_carried end) ps []

abbrev pub Of : ℕ → Part → Type 0
Of nr p = p.nr ≡ nr

abbrev pub Above : ℕ → Part → Type 0
Above nr p = nr ≤ p.nr

without_all : (nr : ℕ) (ps rest : List Part) → AllByRecursion (Of nr) ps
    → without nr (ps ++ rest) ≡ without nr rest
without_all nr [] rest all = refl
without_all nr (p ∷ ps) rest all = rw (eq-eqb p.nr nr all.0) (without_all nr ps rest all.1)

without_none : (nr : ℕ) (ps : List Part) → AllByRecursion (Above (nr + 1)) ps → without nr ps ≡ ps
without_none nr [] all = refl
without_none nr (p ∷ ps) all = rw (ne_eqb p.nr nr (λ s. let z = all.0 in
    omega arith)) (ap (λ (qs : List Part). p ∷ qs) (without_none nr ps all.1))

pub parts_have_nr : (pages : ℕ) (backed : Bool) (nr : ℕ) (op : Op)
    → AllByRecursion (Of nr) (parts pages backed nr op)
parts_have_nr pages backed nr op = every_parts (Of nr) pages backed nr op (λ q. refl)

less_above : (a b : ℕ) (ps : List Part) → b ≤ a → AllByRecursion (Above a) ps
    → AllByRecursion (Above b) ps
less_above a b [] le all = tt
less_above a b (p ∷ ps) le all = ((let z = all.0 in omega arith), less_above a b ps le all.1)

pub program_above : (pages : ℕ) (backed : Bool) (nr : ℕ) (ops : List Op)
    → AllByRecursion (Above nr) (program pages backed nr ops)
program_above pages backed nr [] = tt
program_above pages backed nr (op ∷ ops) =
    every_append (Above nr) (parts pages backed nr op) (program pages backed (nr + 1) ops)
    (every_parts (Above nr) pages backed nr op (λ q. omega arith))
    (less_above (nr + 1) nr _ (omega arith) (program_above pages backed (nr + 1) ops))

-- ---- what lists of pieces say of an operation

pub noted_append : (p : ℕ) (xs ys : List Done)
    → noted_on p (xs ++ ys) ≡ noted_on p xs ++ noted_on p ys
noted_append p [] ys = refl
noted_append p (x ∷ xs) ys = elim (cases_Bool (is_on p x)) [
  | inl on ↦ rw on (ap (λ (zs : List ℕ). x.part.nr ∷ zs) (noted_append p xs ys))
  | inr off ↦ rw off (noted_append p xs ys)
]

pub got_append : (nr : ℕ) (xs ys : List Done) → got_of nr (xs ++ ys) ≡ got_of nr xs ++ got_of nr ys
got_append nr [] ys = refl
got_append nr (x ∷ xs) ys = elim (cases_Bool (eqb x.part.nr nr)) [
  | inl on ↦ rw on (ap (λ (zs : List (List ℕ)). x.got ++ zs) (got_append nr xs ys)
      ∙ sym (append_assoc x.got (got_of nr xs) (got_of nr ys)))
  | inr off ↦ rw off (got_append nr xs ys)
]

-- the pieces of other operations say nothing
abbrev pub Else : ℕ → Done → Type 0
Else nr d = d.part.nr ≢ nr

pub end_none : (nr n : ℕ) (xs ys : List Done) → AllByRecursion (Else nr) xs
    → end_by nr n (xs ++ ys) ≡ end_by nr n ys
end_none nr n [] ys all = refl
end_none nr n (x ∷ xs) ys all = rw (ne_eqb x.part.nr nr all.0) (end_none nr n xs ys all.1)

pub end_front : (nr n : ℕ) (xs ys : List Done) → AllByRecursion (Else nr) ys
    → end_by nr n (xs ++ ys) ≡ end_by nr n xs
end_front nr n [] ys all = ap (end_by nr n) (sym (append-nil ys)) ∙ end_none nr n ys [] all
end_front nr n (x ∷ xs) ys all = elim (cases_Bool (eqb x.part.nr nr)) [
  | inl on ↦ rw on (ap (end_step x.end n) (end_front nr (n + 1) xs ys all))
  | inr off ↦ rw off (end_front nr n xs ys all)
]

pub got_none : (nr : ℕ) (xs : List Done) → AllByRecursion (Else nr) xs → got_of nr xs ≡ []
got_none nr [] all = refl
got_none nr (x ∷ xs) all = rw (ne_eqb x.part.nr nr all.0) (got_none nr xs all.1)

pub all_map : {A : Type 0} (P Q : A → Type 0) (xs : List A) → ((x : A) → P x → Q x)
    → AllByRecursion P xs
    → AllByRecursion Q xs
all_map P Q [] f all = tt
all_map P Q (x ∷ xs) f all = (f x all.0, all_map P Q xs f all.1)

-- ---- the pages of one operation

abbrev pub carried : List Done → ℕ
carried [] = 0
carried (d ∷ ds) = cond (is_carried d.end) (suc (carried ds)) 0

-- those whose tag was noted
abbrev pub noted : List Done → ℕ
noted [] = 0
noted (d ∷ ds) = cond (is_carried d.end) (suc (noted ds)) (cond (stands_so d.part.op d.end) 1 0)

carried_notes : (op : Op) (end : PartEnd) → is_carried end ≡ true → stands_so op end ≡ true
carried_notes op over.Carried e = refl
carried_notes op _ e = absurd (cc)

among_none : (a p : ℕ) → is_among a 0 p ≡ false
among_none a p = elim (cases_lt p a) [
  | inl below ↦ and_left (leb a p) (ltb p (a + 0)) (lt-leb a p below)
  | inr above ↦ and_right (leb a p) (ltb p (a + 0)) (le-ltb p (a + 0) (omega arith))
]

pub bool_same : (x y : Bool) → (x ≡ true → y ≡ true) → (y ≡ true → x ≡ true) → x ≡ y
bool_same true true f g = refl
bool_same true false f g = sym (f refl)
bool_same false true f g = g refl
bool_same false false f g = refl

among_first : (a n : ℕ) → is_among a (suc n) a ≡ true
among_first a n =
    and_from (leb a a) (ltb a (a + suc n)) (le-leb a a (omega arith))
    (lt-ltb a (a + suc n) (omega arith))

among_later : (a n : ℕ) → is_among (a + 1) n a ≡ false
among_later a n = and_left (leb (a + 1) a) (ltb a (a + 1 + n)) (lt-leb (a + 1) a (omega arith))

among_step : (a n p : ℕ) → p ≢ a → is_among a (suc n) p ≡ is_among (a + 1) n p
among_step a n p ne = bool_same (is_among a (suc n) p) (is_among (a + 1) n p)
    (λ on. let q = and_parts (leb a p) (ltb p (a + suc n)) on in let q₀ = leb-true a p q.0 in
    let q₁ = ltb-true p (a + suc n) q.1 in
    let d : (a < p) ⊎ (p ≤ a) = cases_lt a p in
    let above : a < p = ⊎_elim (λ h. h) (λ h. absurd (ne (omega arith))) d in
    and_from (leb (a + 1) p) (ltb p (a + 1 + n)) (le-leb (a + 1) p (omega arith))
    (lt-ltb p (a + 1 + n) (omega arith)))
    (λ on. let q = and_parts (leb (a + 1) p) (ltb p (a + 1 + n)) on in
    let q₀ = leb-true (a + 1) p q.0 in
    let q₁ = ltb-true p (a + 1 + n) q.1 in
    and_from (leb a p) (ltb p (a + suc n)) (le-leb a p (omega arith))
    (lt-ltb p (a + suc n) (omega arith)))

-- whether a page is the first of some, or among the others
page_push : (a n p nr : ℕ) (xs : List ℕ) → xs ≡ cond (is_among (a + 1) n p) (nr ∷ []) []
    → cond (eqb a p) (nr ∷ xs) xs ≡ cond (is_among a (suc n) p) (nr ∷ []) []
page_push a n p nr xs e = elim (cases_Bool (eqb a p)) [
  | inl on ↦ let s : a ≡ p = eqb-true a p on in
      rw on (ap (λ (ys : List ℕ). nr ∷ ys) (e
      ∙ ap (λ (b : Bool). cond b (nr ∷ []) [])
      (subst (λ (q : ℕ). is_among (a + 1) n q ≡ false) s (among_later a n)))
      ∙ sym (ap (λ (b : Bool). cond b (nr ∷ []) [])
      (subst (λ (q : ℕ). is_among a (suc n) q ≡ true) s (among_first a n))))
  | inr off ↦ rw off (e
      ∙ sym (ap (λ (b : Bool). cond b (nr ∷ []) [])
      (among_step a n p (λ s. eqb-false a p off (sym s)))))
]

abbrev pub piece_of : ℕ → Op → ℕ → Part
piece_of nr op page = record { nr = nr; op = op; page = page }

-- where the page p is noted for a piece
pub noted_one : (nr p a : ℕ) (op : Op) (d : Done) (ds : List Done) (b : Bool)
    → d.part ≡ piece_of nr op a
    → stands_so op d.end ≡ b
    → noted_on p (d ∷ ds) ≡ cond (eqb a p && b) (nr ∷ noted_on p ds) (noted_on p ds)
noted_one nr p a op d ds b part e =
    (λ i. cond (eqb (part i).page p && stands_so (part i).op d.end) ((part i).nr ∷ noted_on p ds)
    (noted_on p ds))
    ∙ ap (λ (c : Bool). cond (eqb a p && c) (nr ∷ noted_on p ds) (noted_on p ds)) e

and_true : (x : Bool) → (x && true) ≡ x
and_true true = refl
and_true false = refl

pub end_here : (nr : ℕ) (op : Op) (a c : ℕ) (d : Done) (ds : List Done) → d.part ≡ piece_of nr op a
    → end_by nr c (d ∷ ds) ≡ end_step d.end c (end_by nr (c + 1) ds)
end_here nr op a c d ds part =
    ap (λ (b : Bool). cond b (end_step d.end c (end_by nr (c + 1) ds)) (end_by nr c ds))
    (eq-eqb d.part.nr nr (ap (λ (x : Part). x.nr) part))

-- ---- by a rule of ends

module _ (So : Part → PartEnd → Type 0) where
  -- the pieces of one operation that is over: all of them, or those up to a refused one
  abbrev pub Mine : List Part → List Done → Type 0
  Mine ps [] = ps ≡ []
  Mine [] (d ∷ ds) = ⊥
  Mine (p ∷ ps) (d ∷ ds) = (d.part ≡ p) × So p d.end × Mine (kept d.end ps) ds

  pub record Split (ps rest : List Part) (done : List Done) : Type 0 where
    pub front : List Done
    pub back : List Done
    pub is : done ≡ front ++ back
    pub mine : Mine ps front
    pub later : Follows So rest back []

  pub split : (nr : ℕ) (ps rest : List Part) (done : List Done) → AllByRecursion (Of nr) ps
      → AllByRecursion (Above (nr + 1)) rest → Follows So (ps ++ rest) done [] → Split ps rest done
  split nr [] rest done of above f =
      record { front = []; back = done; is = refl; mine = refl; later = f }
  split nr (p ∷ ps) rest [] of above f = absurd (let q : [] ≡ p ∷ (ps ++ rest) = f in cc)
  split nr (p ∷ ps) rest (d ∷ ds) of above f =
      by_end (λ g. split nr ps rest ds of.1 above g) (is_carried d.end) refl where
        by_end : (Follows So (ps ++ rest) ds [] → Split ps rest ds) → (b : Bool)
            → is_carried d.end ≡ b → Split (p ∷ ps) rest (d ∷ ds)
        by_end again true e =
            let s = again
            (subst (λ (x : Bool). Follows So
            (cond x (ps ++ rest) (without p.nr (ps ++ rest))) ds []) e f.2) in
            record {
              front = d ∷ s.front;
              back = s.back;
              is =
                  ap (λ (xs : List Done). d ∷ xs) s.is;
              later = s.later;
              mine =
                  (f.0, f.1, subst (λ (x : Bool). Mine (cond x ps []) s.front) (sym e) s.mine);
            }
        by_end again false e =
            let left : without p.nr (ps ++ rest) ≡ rest =
            ap (λ (n : ℕ). without n (ps ++ rest)) of.0
            ∙ without_all nr ps rest of.1 ∙ without_none nr rest above in
            record {
              front = d ∷ [];
              back = ds;
              is = refl;
              mine = (
                f.0,
                f.1,
                subst (λ (x : Bool). (let qs : List Part = cond x ps [] in qs) ≡ [])
                    (sym e) refl,
              );
              later = subst (λ (qs : List Part). Follows So qs ds []) left
                  (subst (λ (x : Bool). Follows So
                  (cond x (ps ++ rest) (without p.nr (ps ++ rest))) ds []) e f.2);
            }

  -- each piece that is over is of the program
  module _ (P : Part → Type 0) where
    pub every_done : (ps : List Part) (ds : List Done) (todo : List Part) → Follows So ps ds todo
        → AllByRecursion P ps → AllByRecursion (λ (d : Done). P d.part) ds
    every_done ps [] todo f all = tt
    every_done [] (d ∷ ds) todo f all = absurd f
    every_done (p ∷ ps) (d ∷ ds) todo f all = (
      subst P (sym f.0) all.0,
      every_done (left_by d.end p.nr ps) ds todo f.2
          (every_left P d.end p.nr ps all.1),
    )

    pub every_mine : (ps : List Part) (ds : List Done) → Mine ps ds → AllByRecursion P ps
        → AllByRecursion (λ (d : Done). P d.part) ds
    every_mine ps [] m all = tt
    every_mine [] (d ∷ ds) m all = absurd m
    every_mine (p ∷ ps) (d ∷ ds) m all = (
      subst P (sym m.0) all.0,
      every_mine (kept d.end ps) ds m.2 (every_kept d.end ps all.1),
    ) where
      every_kept : (end : PartEnd) (qs : List Part) → AllByRecursion P qs
          → AllByRecursion P (kept end qs)
      every_kept end qs all =
          elim (cases_Bool (is_carried end)) [ inl on ↦ rw on all | inr off ↦ rw off tt ]

  pub mine_with : (nr : ℕ) (op : Op) (a n : ℕ) (front : List Done) → has_event op a ≡ true
      → Mine (parts_from nr op a (suc n)) front
      → Mine (piece_of nr op a ∷ parts_from nr op (a + 1) n) front
  mine_with nr op a n front on m =
      subst (λ (b : Bool). Mine
      (cond b (piece_of nr op a ∷ []) [] ++ parts_from nr op (a + 1) n) front) on m

  mine_skip : (nr : ℕ) (op : Op) (a n : ℕ) (front : List Done) → has_event op a ≡ false
      → Mine (parts_from nr op a (suc n)) front → Mine (parts_from nr op (a + 1) n) front
  mine_skip nr op a n front off m =
      subst (λ (b : Bool). Mine
      (cond b (piece_of nr op a ∷ []) [] ++ parts_from nr op (a + 1) n) front) off m

  pub none_left : (ds : List Done) → Mine [] ds → ds ≡ []
  none_left [] m = refl
  none_left (d ∷ ds) m = absurd m

  pub mine_on : (d : Done) (ps : List Part) (ds : List Done) (b : Bool) → is_carried d.end ≡ b
      → Mine (kept d.end ps) ds → Mine (cond b ps []) ds
  mine_on d ps ds b e m = subst (λ (x : Bool). Mine (cond x ps []) ds) e m

  -- reads and writes: the pages of the pieces whose tags were noted
  pub pages_noted : (nr : ℕ) (op : Op) (p a n : ℕ) (front : List Done)
      → ((q : ℕ) → has_event op q ≡ true)
      → Mine (parts_from nr op a n) front
      → noted_on p front ≡ cond (is_among a (noted front) p) (nr ∷ []) []
  pages_noted nr op p a zero [] on m = rw (among_none a p) refl
  pages_noted nr op p a zero (d ∷ ds) on m = absurd m
  pages_noted nr op p a (suc n) [] on m =
      absurd (let q : piece_of nr op a ∷ parts_from nr op (a + 1) n ≡ [] =
      mine_with nr op a n [] (on a) m in cc)
  pages_noted nr op p a (suc n) (d ∷ ds) on m =
      by_end (mine_with nr op a n (d ∷ ds) (on a) m) (λ k. pages_noted nr op p (a + 1) n ds on k)
      (is_carried d.end) refl where
        by_note : Mine (piece_of nr op a ∷ parts_from nr op (a + 1) n) (d ∷ ds)
            → is_carried d.end ≡ false → (b : Bool) → stands_so op d.end ≡ b
            → noted_on p (d ∷ []) ≡ cond (is_among a (cond b 1 0) p) (nr ∷ []) []
        by_note k e true h = noted_one nr p a op d [] true k.0 h
            ∙ ap (λ (x : Bool). cond x (nr ∷ []) []) (and_true (eqb a p))
            ∙ page_push a 0 p nr []
            (sym (ap (λ (x : Bool). cond x (nr ∷ []) []) (among_none (a + 1) p)))
        by_note k e false h = noted_one nr p a op d [] false k.0 h
            ∙ ap (λ (x : Bool). cond x (nr ∷ []) [])
            (and_right (eqb a p) false refl ∙ sym (among_none a p))

        by_end : Mine (piece_of nr op a ∷ parts_from nr op (a + 1) n) (d ∷ ds)
            → (Mine (parts_from nr op (a + 1) n) ds
            → noted_on p ds ≡ cond (is_among (a + 1) (noted ds) p) (nr ∷ []) [])
            → (b : Bool) → is_carried d.end ≡ b
            → noted_on p (d ∷ ds) ≡ cond (is_among a (noted (d ∷ ds)) p) (nr ∷ []) []
        by_end k again true e =
            noted_one nr p a op d ds true k.0 (carried_notes op d.end e)
            ∙ ap (λ (x : Bool). cond x (nr ∷ noted_on p ds) (noted_on p ds)) (and_true (eqb a p))
            ∙ page_push a (noted ds) p nr (noted_on p ds)
            (again (mine_on d (parts_from nr op (a + 1) n) ds true e k.2))
            ∙ sym (ap (λ (c : Bool). cond
            (is_among a (cond c (suc (noted ds)) (cond (stands_so d.part.op d.end) 1 0)) p)
            (nr ∷ []) []) e)
        by_end k again false e =
            ap (λ (xs : List Done). noted_on p (d ∷ xs))
            (none_left ds (mine_on d (parts_from nr op (a + 1) n) ds false e k.2))
            ∙ by_note k e (stands_so op d.end) refl
            ∙ sym (ap (λ (c : Bool). cond
            (is_among a (cond c (suc (noted ds)) (cond (stands_so d.part.op d.end) 1 0)) p)
            (nr ∷ []) []) e
            ∙ ap (λ (x : Part). cond (is_among a (cond (stands_so x.op d.end) 1 0) p)
            (nr ∷ []) []) k.0)

  -- how the operation ends: with all its pieces, or with one that was refused
  pub record Refused (nr : ℕ) (op : Op) (a n c : ℕ) (end : OpEnd) (front : List Done) : Type 0 where
    pub last : PartEnd
    pub not : is_carried last ≡ false
    pub so : So (piece_of nr op (a + carried front)) last
    pub end_is : end ≡ op_end last (c + carried front)
    pub noted_is : noted front ≡ carried front + cond (stands_so op last) 1 0
    pub fewer : carried front < n

  abbrev pub EndIs : ℕ → Op → ℕ → ℕ → ℕ → OpEnd → List Done → Type 0
  EndIs nr op a n c end front = ((end ≡ ends.Ok) × (noted front ≡ n) × (carried front ≡ n))
      ⊎ Refused nr op a n c end front

  pub pages_end : (nr : ℕ) (op : Op) (a n c : ℕ) (front : List Done)
      → ((q : ℕ) → has_event op q ≡ true)
      → Mine (parts_from nr op a n) front → EndIs nr op a n c (end_by nr c front) front
  pages_end nr op a zero c [] on m = inl (refl, refl, refl)
  pages_end nr op a zero c (d ∷ ds) on m = absurd m
  pages_end nr op a (suc n) c [] on m =
      absurd (let q : piece_of nr op a ∷ parts_from nr op (a + 1) n ≡ [] =
      mine_with nr op a n [] (on a) m in cc)
  pages_end nr op a (suc n) c (d ∷ ds) on m =
      by_end (mine_with nr op a n (d ∷ ds) (on a) m)
      (λ k. pages_end nr op (a + 1) n (c + 1) ds on k)
      (is_carried d.end) refl where
        by_end : Mine (piece_of nr op a ∷ parts_from nr op (a + 1) n) (d ∷ ds)
            → (Mine (parts_from nr op (a + 1) n) ds
            → EndIs nr op (a + 1) n (c + 1) (end_by nr (c + 1) ds) ds)
            → (b : Bool) → is_carried d.end ≡ b
            → EndIs nr op a (suc n) c (end_by nr c (d ∷ ds)) (d ∷ ds)
        by_end k again true e =
            let here = end_here nr op a c d ds k.0
            ∙ ap (λ (x : Bool). cond x (end_by nr (c + 1) ds) (op_end d.end c)) e in
            let more : carried (d ∷ ds) ≡ suc (carried ds) =
            ap (λ (x : Bool). cond x (suc (carried ds)) 0) e in
            let more' : noted (d ∷ ds) ≡ suc (noted ds) =
            ap (λ (x : Bool). cond x (suc (noted ds)) (cond (stands_so d.part.op d.end) 1 0)) e in
            ⊎_elim
            (λ h. inl (here ∙ h.0, more' ∙ ap suc h.1, more ∙ ap suc h.2))
            (λ h. inr (record {
              last = h.last;
              not = h.not;
              so = subst (λ (q : ℕ). So (piece_of nr op q) h.last)
                  (let q : a + 1 + carried ds ≡ a + carried (d ∷ ds) = omega arith in q) h.so;
              end_is = here ∙ h.end_is
                  ∙ ap (op_end h.last)
                  (let q : c + 1 + carried ds ≡ c + carried (d ∷ ds) = omega arith in q);
              noted_is = (let q = h.noted_is in omega arith);
              fewer = (let q = h.fewer in omega arith);
            }))
            (again (mine_on d (parts_from nr op (a + 1) n) ds true e k.2))
        by_end k again false e =
            let none : carried (d ∷ ds) ≡ 0 = ap (λ (x : Bool). cond x (suc (carried ds)) 0) e in
            let part : d.part ≡ piece_of nr op a = k.0 in
            inr (record {
              last = d.end;
              not = e;
              so = subst (λ (q : ℕ). So (piece_of nr op q) d.end)
                  (let q : a ≡ a + carried (d ∷ ds) = omega arith in q) k.1;
              end_is = end_here nr op a c d ds k.0
                  ∙ ap (λ (x : Bool). cond x (end_by nr (c + 1) ds) (op_end d.end c)) e
                  ∙ ap (op_end d.end) (let q : c ≡ c + carried (d ∷ ds) = omega arith in q);
              noted_is = (let z : noted (d ∷ ds) ≡ cond (stands_so op d.end) 1 0 =
                  ap (λ (x : Bool). cond x (suc (noted ds))
                  (cond (stands_so d.part.op d.end) 1 0)) e
                  ∙ ap (λ (x : Part). cond (stands_so x.op d.end) 1 0) part in omega arith);
              fewer = omega arith;
            })

  -- discards: the pieces of whole pages, each carried out
  pub wholes_noted : (nr : ℕ) (op : Op) (p a n c : ℕ) (front : List Done)
      → ((q : ℕ) (x : PartEnd) → So (piece_of nr op q) x → is_carried x ≡ true)
      → Mine (parts_from nr op a n) front
      → (noted_on p front ≡ cond (is_among a n p && has_event op p) (nr ∷ []) [])
      × (end_by nr c front ≡ ends.Ok)
  wholes_noted nr op p a zero c [] not m = (rw (among_none a p) refl, refl)
  wholes_noted nr op p a zero c (d ∷ ds) not m = absurd m
  wholes_noted nr op p a (suc n) c front not m = elim (cases_Bool (has_event op a)) [
    | inl on ↦ with_one front (mine_with nr op a n front on m)
        (λ ds k. wholes_noted nr op p (a + 1) n (c + 1) ds not k) on
    | inr off ↦ let r =
        wholes_noted nr op p (a + 1) n c front not (mine_skip nr op a n front off m) in (
          r.0
              ∙ ap (λ (b : Bool). cond b (nr ∷ []) []) (skip off),
          r.1,
        )
  ] where
    skip : has_event op a ≡ false
        → (is_among (a + 1) n p && has_event op p) ≡ (is_among a (suc n) p && has_event op p)
    skip off = elim (cases_eq p a) [
      | inl same ↦ let none : has_event op p ≡ false = ap (has_event op) same
          ∙ off in and_right (is_among (a + 1) n p) (has_event op p) none
          ∙ sym (and_right (is_among a (suc n) p) (has_event op p) none)
      | inr ne ↦ ap (λ (b : Bool). b && has_event op p) (sym (among_step a n p ne))
    ]

    join_one : has_event op a ≡ true → (xs : List ℕ)
        → xs ≡ cond (is_among (a + 1) n p && has_event op p) (nr ∷ []) []
        → cond (eqb a p) (nr ∷ xs) xs ≡ cond (is_among a (suc n) p && has_event op p) (nr ∷ []) []
    join_one on xs e = elim (cases_Bool (has_event op p)) [
      | inl yes_ ↦ page_push a n p nr xs (e
          ∙ ap (λ (b : Bool). cond b (nr ∷ []) []) (rw yes_ (and_true (is_among (a + 1) n p))))
          ∙ sym (ap (λ (b : Bool). cond b (nr ∷ []) []) (rw yes_ (and_true (is_among a (suc n) p))))
      | inr none ↦
          let ne : eqb a p ≡ false =
          ne_eqb a p (λ same. let q : true ≡ false = sym on ∙ (ap (has_event op) same
          ∙ none) in cc) in
          rw ne (e ∙ ap (λ (b : Bool). cond b (nr ∷ []) [])
          (and_right (is_among (a + 1) n p) (has_event op p) none
          ∙ sym (and_right (is_among a (suc n) p) (has_event op p) none)))
    ]

    with_one : (front : List Done) → Mine (piece_of nr op a ∷ parts_from nr op (a + 1) n) front
        → ((ds : List Done) → Mine (parts_from nr op (a + 1) n) ds
        → (noted_on p ds ≡ cond (is_among (a + 1) n p && has_event op p) (nr ∷ []) [])
        × (end_by nr (c + 1) ds ≡ ends.Ok)) → has_event op a ≡ true
        → (noted_on p front ≡ cond (is_among a (suc n) p && has_event op p) (nr ∷ []) [])
        × (end_by nr c front ≡ ends.Ok)
    with_one [] k again on =
        absurd (let q : piece_of nr op a ∷ parts_from nr op (a + 1) n ≡ [] = k in cc)
    with_one (d ∷ ds) k again on =
        let e = not a d.end k.1 in
        let r = again ds (mine_on d (parts_from nr op (a + 1) n) ds true e k.2) in (
          noted_one nr p a op d ds true k.0 (carried_notes op d.end e)
              ∙ ap (λ (x : Bool). cond x (nr ∷ noted_on p ds) (noted_on p ds)) (and_true (eqb a p))
              ∙ join_one on (noted_on p ds) r.0,
          end_here nr op a c d ds k.0
              ∙ ap (λ (x : Bool). cond x (end_by nr (c + 1) ds) (op_end d.end c)) e ∙ r.1,
        )
