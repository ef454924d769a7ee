-- One more piece.
use Rattle.std.proofs.Common.{◌≡◌, ℕ, zero, suc, ◌+◌, ◌-◌, ◌*◌, ◌<◌, ◌≤◌, Bool, cond, eqb, min, max, List, [], ◌∷◌, ◌++◌, length, map, take, Some, slice_get, refl, sym, ap, ◌∙◌, subst, arith, zero-add, ◌⊎◌, inl, inr}
use Rattle.std.specs.List.{range_with_len, AllByRecursion}
use Rattle.std.proofs.lemmas.Bool.{cases_Bool}
use Rattle.zr_base.specs.declared.op.Tag.{Tag}
use Rattle.zr_base.specs.declared.op.Op.{Op}
use Rattle.zr_base.specs.declared.op.Op.TheVariants.{Read}
use Rattle.call_history.specs.declared.part.Part.{Part}
use Rattle.call_history.specs.declared.part.PartEnd.{PartEnd}
use Rattle.call_history.specs.declared.part.Done.{Done}
use Rattle.zr_base.specs.Sectors.{page_sector}
use Rattle.zr_base.specs.Plain.{Look, PageCalls, named, sector_after_named, content, is_void, has_event}
use Rattle.zr_base.specs.Pieces.{first_page, pages_of}
use Rattle.plain_disk.specs.Ends.{is_single}
use Rattle.call_history.specs.Parts.{parts_from, parts_of, parts, program, without, left_by, is_carried, Follows, is_on, noted_on, ops_of, got_by}
use Rattle.call_history.specs.Shows.{SeesSo}

pub content-append : (c : PageCalls) (s : ℕ) (old : List ℕ) (xs ys : List Tag)
    → content c s old (xs ++ ys) ≡ content c s (content c s old xs) ys
content-append c s old [] ys = refl
content-append c s old (x ∷ xs) ys =
    content-append c s (sector_after_named (named c.actors x) (c.finds x) s old) xs ys

pub ops_of_push : (a : ℕ) (xs : List Tag) (t : Tag)
    → ops_of a (xs ++ t ∷ []) ≡ ops_of a xs ++ cond (eqb t.actor a) (t.op ∷ []) []
ops_of_push a [] t = refl
ops_of_push a (x ∷ xs) t = elim (cases_Bool (eqb x.actor a)) [
  | inl on ↦ rw on (ap (λ (ys : List ℕ). x.op ∷ ys) (ops_of_push a xs t))
  | inr off ↦ rw off (ops_of_push a xs t)
]

pub noted_push : (p : ℕ) (ds : List Done) (d : Done)
    → noted_on p (ds ++ d ∷ []) ≡ noted_on p ds ++ cond (is_on p d) (d.part.nr ∷ []) []
noted_push p [] d = refl
noted_push p (x ∷ xs) d = elim (cases_Bool (is_on p x)) [
  | inl on ↦ rw on (ap (λ (ys : List ℕ). x.part.nr ∷ ys) (noted_push p xs d))
  | inr off ↦ rw off (noted_push p xs d)
]

module _ {A : Type 0} where
  pub get_push : (xs : List A) (x : A) (i : ℕ) (y : A) → slice_get (xs ++ x ∷ []) i ≡ Some y
      → (slice_get xs i ≡ Some y) ⊎ (x ≡ y)
  get_push [] x zero y e = inr (let q : Some x ≡ Some y = e in cc)
  get_push [] x (suc i) y e = absurd (cc)
  get_push (z ∷ zs) x zero y e = inl e
  get_push (z ∷ zs) x (suc i) y e = get_push zs x i y e

  pub get_old : (xs ys : List A) (i : ℕ) (y : A) → slice_get xs i ≡ Some y
      → slice_get (xs ++ ys) i ≡ Some y
  get_old [] ys i y e = absurd (cc)
  get_old (z ∷ zs) ys zero y e = e
  get_old (z ∷ zs) ys (suc i) y e = get_old zs ys i y e

  pub get_last : (xs : List A) (x : A) → slice_get (xs ++ x ∷ []) (length xs) ≡ Some x
  get_last [] x = refl
  get_last (z ∷ zs) x = get_last zs x

  pub take_old : (xs ys : List A) (i : ℕ) (y : A) → slice_get xs i ≡ Some y
      → take i (xs ++ ys) ≡ take i xs
  take_old [] ys i y e = absurd (cc)
  take_old (z ∷ zs) ys zero y e = refl
  take_old (z ∷ zs) ys (suc i) y e = ap (λ (xs : List A). z ∷ xs) (take_old zs ys i y e)

  pub take_front : (xs ys : List A) → take (length xs) (xs ++ ys) ≡ xs
  take_front [] ys = refl
  take_front (z ∷ zs) ys = ap (λ (xs : List A). z ∷ xs) (take_front zs ys)

-- the pieces of a program go on
pub follows_on : (So : Part → PartEnd → Type 0) (ps : List Part) (ds : List Done) (p : Part)
    (rest : List Part) (d : Done)
    → Follows So ps ds (p ∷ rest) → d.part ≡ p → So p d.end
    → Follows So ps (ds ++ d ∷ []) (left_by d.end p.nr rest)
follows_on So [] [] p rest d f e so = absurd (let q : p ∷ rest ≡ [] = f in cc)
follows_on So (x ∷ xs) [] p rest d f e so =
    let q : p ∷ rest ≡ x ∷ xs = f in
    let r : p ≡ x = cc in
    let s : rest ≡ xs = cc in
    (e ∙ r, subst (λ (y : Part). So y d.end) r so, λ i. left_by d.end (r i).nr (s i))
follows_on So [] (x ∷ ds) p rest d f e so = absurd f
follows_on So (y ∷ ys) (x ∷ ds) p rest d f e so =
    (f.0, f.1, follows_on So (left_by x.end y.nr ys) ds p rest d f.2 e so)

-- what each piece of a program has, each that is left has
module _ (P : Part → Type 0) where
  abbrev pub Every : List Part → Type 0
  Every ps = AllByRecursion P ps

  every_without : (nr : ℕ) (ps : List Part) → Every ps → Every (without nr ps)
  every_without nr [] all = tt
  every_without nr (p ∷ ps) all = elim (cases_Bool (eqb p.nr nr)) [
    | inl on ↦ rw on (every_without nr ps all.1)
    | inr off ↦ rw off (all.0, every_without nr ps all.1)
  ]

  pub every_left : (end : PartEnd) (nr : ℕ) (ps : List Part) → Every ps → Every (left_by end nr ps)
  every_left end nr ps all =
      elim (cases_Bool (is_carried end)) [
        | inl on ↦ rw on all
        | inr off ↦
            rw off (every_without nr ps all)
      ]

  pub every_todo : (So : Part → PartEnd → Type 0) (ps : List Part) (ds : List Done)
      (todo : List Part) → Follows So ps ds todo → Every ps → Every todo
  every_todo So ps [] todo f all = subst Every (sym f) all
  every_todo So [] (d ∷ ds) todo f all = absurd f
  every_todo So (p ∷ ps) (d ∷ ds) todo f all =
      every_todo So (left_by d.end p.nr ps) ds todo f.2 (every_left d.end p.nr ps all.1)

  pub every_append : (ps qs : List Part) → Every ps → Every qs → Every (ps ++ qs)
  every_append [] qs a b = b
  every_append (p ∷ ps) qs a b = (a.0, every_append ps qs a.1 b)

  pub every_parts_from : (nr : ℕ) (op : Op) (page n : ℕ)
      → ((q : ℕ) → P (record { nr = nr; op = op; page = q }))
      → Every (parts_from nr op page n)
  every_parts_from nr op page zero all = tt
  every_parts_from nr op page (suc n) all = elim (cases_Bool (has_event op page)) [
    | inl on ↦ rw on (all page, every_parts_from nr op (page + 1) n all)
    | inr off ↦ rw off (every_parts_from nr op (page + 1) n all)
  ]

  every_parts_of : (pages : ℕ) (nr : ℕ) (op : Op)
      → ((q : ℕ) → P (record { nr = nr; op = op; page = q })) → Every (parts_of pages nr op)
  every_parts_of pages nr op all = elim (cases_Bool (is_single pages op)) [
    | inl on ↦ rw on (all (first_page op), tt)
    | inr off ↦ rw off (every_parts_from nr op (first_page op) (pages_of op) all)
  ]

  pub every_parts : (pages : ℕ) (backed : Bool) (nr : ℕ) (op : Op)
      → ((q : ℕ) → P (record { nr = nr; op = op; page = q })) → Every (parts pages backed nr op)
  every_parts pages backed nr op all = elim (cases_Bool (is_void backed op)) [
    | inl void ↦ rw void tt
    | inr does ↦ rw does (every_parts_of pages nr op all)
  ]

-- each piece of a program is of the operation that it names
abbrev pub Named : List Op → Part → Type 0
Named ops p = slice_get ops p.nr ≡ Some p.op

pub every_named : (pages : ℕ) (backed : Bool) (nr : ℕ) (all ops : List Op)
    → ((j : ℕ) → slice_get ops j ≡ slice_get all (nr + j))
    → AllByRecursion (Named all) (program pages backed nr ops)
every_named pages backed nr all [] same = tt
every_named pages backed nr all (op ∷ ops) same =
    every_append (Named all) (parts pages backed nr op) (program pages backed (nr + 1) ops)
    (every_parts (Named all) pages backed nr op
    (λ q. ap (λ (k : ℕ). slice_get all k) (let e : nr ≡ nr + 0 = omega arith in e)
    ∙ sym (same 0)))
    (every_named pages backed (nr + 1) all ops (λ j. same (suc j)
    ∙ ap (λ (k : ℕ). slice_get all k) (let e : nr + suc j ≡ nr + 1 + j = omega arith in e)))

-- the piece that is next is of the operation that it names
pub next_named : (So : Part → PartEnd → Type 0) (pages : ℕ) (backed : Bool) (ops : List Op)
    (ds : List Done) (p : Part) (rest : List Part)
    → Follows So (program pages backed 0 ops) ds (p ∷ rest) → slice_get ops p.nr ≡ Some p.op
next_named So pages backed ops ds p rest f =
    let all = every_todo (Named ops) So (program pages backed 0 ops) ds (p ∷ rest) f
    (every_named pages backed 0 ops ops (λ j. ap (λ (k : ℕ). slice_get ops k) (sym (zero-add j)))) in
    all.0

-- what a piece reads depends on the sectors of its page alone
same_range : (f g : ℕ → List ℕ) (a n : ℕ) → ((s : ℕ) → a ≤ s → s < a + n → f s ≡ g s)
    → map f (range_with_len a n) ≡ map g (range_with_len a n)
same_range f g a zero same = refl
same_range f g a (suc n) same =
    let others = same_range f g (a + 1) n (λ s low high. same s (omega arith) (omega arith)) in
    ap (λ (x : List ℕ). x ∷ map f (range_with_len (a + 1) n)) (same a (omega arith) (omega arith))
    ∙ ap (λ (xs : List (List ℕ)). g a ∷ xs) others

pub same_got : (op : Op) (page : ℕ) (f g : ℕ → List ℕ)
    → ((k : ℕ) → k < 8 → f (8 * page + k) ≡ g (8 * page + k))
    → got_by op page f ≡ got_by op page g
same_got (Read start count) page f g same =
    same_range f g (max start (8 * page))
    (min (start + count) (8 * page + 8) - max start (8 * page))
    (λ s low high. let e : 8 * page + (s - 8 * page) ≡ s = omega arith in
    subst (λ (x : ℕ). f x ≡ g x) e (same (s - 8 * page) (omega arith)))
same_got _ page f g same = refl

-- a piece that sees a page reads what it finds in the page's sectors
pub seen_got : (op : Op) (look : Look) (page : ℕ) (bytes seen : List ℕ) (held : ℕ → List ℕ)
    → SeesSo op look page bytes seen
    → ((k : ℕ) → k < 8 → page_sector bytes k ≡ held (8 * page + k))
    → got_by op page (λ s. page_sector seen (s - 8 * page))
    ≡ got_by op page (λ s. look s (held s))
seen_got (Read start count) look page bytes seen held sees holds =
    same_got (Read start count) page (λ s. page_sector seen (s - 8 * page))
    (λ s. look s (held s))
    (λ k lt. ap (page_sector seen) (let q : 8 * page + k - 8 * page ≡ k = omega arith in q)
    ∙ sees.each k lt ∙ ap (look (8 * page + k)) (holds k lt))
seen_got _ look page bytes seen held sees holds = refl
