-- A page after a write is the one that has the piece's sectors and keeps the others.
use Rattle.std.proofs.Common.{◌≡◌, ℕ, zero, suc, ◌+◌, ◌-◌, ◌*◌, ◌<◌, ◌≤◌, ◌&&◌, Bool, true, false, cond, List, ◌++◌, length, take, drop, Option, Some, None, refl, sym, ap, ◌∙◌, subst, inl, inr, arith}
use Rattle.std.specs.Prelude.{nat_le, nat_lt}
use Rattle.std.proofs.Math.Seq.{take-add}
use Rattle.std.proofs.lemmas.List.{drop-drop, take_all}
use Rattle.std.proofs.lemmas.Bool.Decides.{nat_tests}
use Rattle.zr_base.specs.declared.op.Op.{Op}
use Rattle.zr_base.specs.declared.op.Op.TheVariants.{Write, Read, Discard}
use Rattle.zr_base.specs.declared.op.Piece.{Piece}
use Rattle.zr_base.specs.declared.op.Stuff.{Stuff}
use Rattle.zr_base.specs.Sectors.{page_sector}
use Rattle.zr_base.specs.Plain.{covers, has_whole, sector_after, stuff_sector}
use Rattle.zr_base.specs.Pieces.{IsPieceOf}
use Rattle.call_history.specs.declared.part.Part.{Part}
use Rattle.slot_entry.specs.declared.kept.Kept.{Kept}
use Rattle.slot_entry.specs.declared.kept.Kept.TheVariants as kept
use Rattle.slot_entry.specs.Entries.{IsPlain, plain_page}
use Rattle.page_steps.specs.Pages.{join, page_after, page_in}
use Rattle.page_steps.specs.Calls.{Frame, IsWork, Asks, Brings, IsBeside, IsWithin, KeepsRest, IsFresh, is_whole}
use Rattle.page_steps.specs.Turns.{HasOld}
use Rattle.page_steps.specs.declared.stage.Work.{Work}
use Rattle.page_steps.specs.declared.stage.Work.TheVariants as work
use Rattle.page_steps.specs.declared.stage.Head.{Head}
use Rattle.page_steps.specs.declared.stage.Scratch.{Scratch}

-- ---- sectors joined

join_same : (f h : ℕ → List ℕ) (a n : ℕ) → ((k : ℕ) → a ≤ k → k < a + n → f k ≡ h k)
    → join f a n ≡ join h a n
join_same f h a zero e = refl
join_same f h a (suc n) e =
    let r = join_same f h (a + 1) n (λ k low high. e k (omega arith) (omega arith)) in
    ap (λ (xs : List ℕ). xs ++ join f (a + 1) n) (e a (omega arith) (omega arith))
    ∙ ap (λ (xs : List ℕ). h a ++ xs) r

join-page_sector : (page : List ℕ) (a n : ℕ)
    → join (page_sector page) a n ≡ take (512 * n) (drop (512 * a) page)
join-page_sector page a zero = refl
join-page_sector page a (suc n) =
    let s : 512 * (a + 1) ≡ 512 * a + 512 = omega arith in
    let t : 512 + 512 * n ≡ 512 * suc n = omega arith in
    ap (λ (xs : List ℕ). page_sector page a ++ xs) (join-page_sector page (a + 1) n)
    ∙ ap (λ (m : ℕ). page_sector page a ++ take (512 * n) (drop m page)) s
    ∙ ap (λ (xs : List ℕ). page_sector page a ++ take (512 * n) xs) (sym (drop-drop 512 (512 * a) page))
    ∙ sym (take-add 512 (512 * n) (drop (512 * a) page))
    ∙ ap (λ (m : ℕ). take m (drop (512 * a) page)) t

join_all : (page : List ℕ) → length page ≡ 4096 → join (page_sector page) 0 8 ≡ page
join_all page long = join-page_sector page 0 8 ∙ take_all 4096 page (omega arith)

-- ---- the page after a write

beside : (q : Piece) (k : ℕ) → (nat_le q.first k && nat_lt k (q.first + q.count)) ≡ false
    → IsBeside q k
beside q k e = grind (arith, nat_tests)

-- the sector of the page after the write is that of the new page
sector_is : (q : Piece) (start count : ℕ) (stuff : Stuff) (fresh page : List ℕ)
    → Brings q start count stuff fresh → KeepsRest q page fresh → (k : ℕ) → k < 8
    → sector_after (Write start count stuff) (8 * q.page.0 + k) (page_sector page k)
    ≡ page_sector fresh k
sector_is q start count stuff fresh page b rest k few =
    by (covers start count (8 * q.page.0 + k)) refl where
      by : (c : Bool) → covers start count (8 * q.page.0 + k) ≡ c
          → cond c (stuff_sector stuff (8 * q.page.0 + k - start)) (page_sector page k)
          ≡ page_sector fresh k
      by true e = sym (b.sectors k few e)
      by false e = sym (rest.sectors k few (beside q k (sym (b.cut.sectors k few) ∙ e)))

pub page_after_is : (p : Part) (q : Piece) (start count : ℕ) (stuff : Stuff) (fresh page : List ℕ)
    → p.op ≡ Write start count stuff → q.page.0 ≡ p.page → Brings q start count stuff fresh
    → KeepsRest q page fresh → length fresh ≡ 4096 → page_after p page ≡ fresh
unfolding page_after
page_after_is p q start count stuff fresh page is at b rest long =
    join_same (λ k. sector_after p.op (8 * p.page + k) (page_sector page k)) (page_sector fresh) 0 8
    (λ k low high.
    (λ i. sector_after (is i) (8 * sym at i + k) (page_sector page k))
    ∙ sector_is q start count stuff fresh page b rest k (omega arith))
    ∙ join_all fresh long

-- ---- a new page in the scratch

inside : (q : Piece) (k : ℕ) → (nat_le q.first k && nat_lt k (q.first + q.count)) ≡ true
    → (q.first ≤ k) × (k < q.first + q.count)
inside q k e = (grind (arith, nat_tests), grind (arith, nat_tests))

-- the piece's sectors stay
abbrev pub KeepsPiece : Piece → List ℕ → List ℕ → Type 0
KeepsPiece q fresh fresh' = (k : ℕ) → k < 8 → q.first ≤ k → k < q.first + q.count
    → page_sector fresh' k ≡ page_sector fresh k

asks_merged : (w : Work) (q : Piece) (fresh fresh' : List ℕ) (op : Op) → KeepsPiece q fresh fresh'
    → Asks w q fresh op → Asks w q fresh' op
asks_merged work.Reads q fresh fresh' (Read start count) kept a = tt
asks_merged work.Writes q fresh fresh' (Write start count stuff) kept a = record {
  cut = a.cut;
  sectors = λ k few there.
      let at = inside q k (sym (a.cut.sectors k few) ∙ there) in
      kept k few at.0 at.1 ∙ a.sectors k few there;
}
asks_merged work.Discards q fresh fresh' (Discard start count) kept a = tt
asks_merged w q fresh fresh' op kept a = absurd a

-- a call's work stays where the piece's sectors and the table do
pub work_merged : (c : Head) (r r' : Scratch) (x : Frame) → KeepsPiece c.piece r.fresh r'.fresh
    → r'.table ≡ r.table → IsWork c r x → IsWork c r' x
work_merged c r r' x kept table w = record {
  chain = table ∙ w.chain;
  request = w.request;
  beyond = w.beyond;
  call = λ piece. let of = w.call piece in record {
    tag = of.tag;
    page = of.page;
    clock = of.clock;
    asks = asks_merged c.work c.piece r.fresh r'.fresh x.part.op kept of.asks;
  };
}

-- ---- whole pieces

-- a whole piece has no sector beside it
pub whole_rest : (q : Piece) (page fresh : List ℕ) → q.first + q.count ≤ 8 → is_whole q ≡ true
    → KeepsRest q page fresh
whole_rest q page fresh few whole =
    let all : q.count ≡ 8 = grind (arith, nat_tests) in
    record { sectors = λ k lt out. absurd (none k lt all out) } where
      none : (k : ℕ) → k < 8 → q.count ≡ 8 → IsBeside q k → ⊥
      none k lt all (inl low) = omega arith
      none k lt all (inr high) = omega arith

-- a request has the whole page exactly where its piece is whole
pub whole_is : (q : Piece) (start count : ℕ) → IsPieceOf start count q.page.0 q
    → has_whole start count q.page.0 ≡ is_whole q
whole_is q start count cut =
    let first = cut.sectors 0 (omega arith) in
    let last = cut.sectors 7 (omega arith) in
    let some = cut.some_sector in
    let within = cut.within in
    grind (arith, nat_tests)

-- the new page keeps the rest of what the actor saw
pub fresh_rest : (q : Piece) (fresh : List ℕ) (page : Option (List ℕ)) (k : Kept)
    → q.first + q.count ≤ 8 → IsFresh q fresh page k → KeepsRest q (page_in page k) fresh
fresh_rest q fresh (Some page) k few f = f.merged
fresh_rest q fresh None kept.Empty few f = f.merged
fresh_rest q fresh None (kept.Same w) few f = f.merged
fresh_rest q fresh None (kept.Obj o) few f = whole_rest q (page_in None (kept.Obj o)) fresh few f.merged
fresh_rest q fresh None (kept.Wb b) few f = whole_rest q (page_in None (kept.Wb b)) fresh few f.merged

-- a page whose object or block is given up
pub fresh_emptied : (q : Piece) (fresh : List ℕ) (page : Option (List ℕ)) (k : Kept)
    → q.first + q.count ≤ 8 → (IsPlain k → ⊥) → IsFresh q fresh page k → IsFresh q fresh page kept.Empty
fresh_emptied q fresh (Some page) k few other f = record { long = f.long; merged = f.merged }
fresh_emptied q fresh None kept.Empty few other f = absurd (other tt)
fresh_emptied q fresh None (kept.Same w) few other f = absurd (other tt)
fresh_emptied q fresh None (kept.Obj o) few other f =
    record { long = f.long; merged = whole_rest q (page_in None kept.Empty) fresh few f.merged }
fresh_emptied q fresh None (kept.Wb b) few other f =
    record { long = f.long; merged = whole_rest q (page_in None kept.Empty) fresh few f.merged }

-- the new page of a page that needs no object, or of a whole piece
pub merged_fresh : (q : Piece) (fresh page : List ℕ) (k : Kept) → IsWithin q → HasOld q page k
    → KeepsRest q page fresh → length fresh ≡ 4096 → IsFresh q fresh None k
merged_fresh q fresh page kept.Empty few (inl whole) rest long =
    record { long = long; merged = whole_rest q (plain_page kept.Empty) fresh few whole }
merged_fresh q fresh page (kept.Same w) few (inl whole) rest long =
    record { long = long; merged = whole_rest q (plain_page (kept.Same w)) fresh few whole }
merged_fresh q fresh page (kept.Obj o) few (inl whole) rest long =
    record { long = long; merged = whole }
merged_fresh q fresh page (kept.Wb b) few (inl whole) rest long =
    record { long = long; merged = whole }
merged_fresh q fresh page kept.Empty few (inr (is, plain)) rest long =
    record { long = long; merged = subst (λ (y : List ℕ). KeepsRest q y fresh) is rest }
merged_fresh q fresh page (kept.Same w) few (inr (is, plain)) rest long =
    record { long = long; merged = subst (λ (y : List ℕ). KeepsRest q y fresh) is rest }
merged_fresh q fresh page (kept.Obj o) few (inr (is, plain)) rest long = absurd plain
merged_fresh q fresh page (kept.Wb b) few (inr (is, plain)) rest long = absurd plain
