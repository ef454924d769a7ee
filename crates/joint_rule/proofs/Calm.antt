-- What is known of a phase's only actor while it is at no compaction.
use Rattle.std.proofs.lemmas.Bool.{cases_Bool}
use Rattle.lock_row.specs.declared.names.Trip.{Trip}
use Rattle.lock_row.specs.declared.names.Step.{Step}
use Rattle.lock_row.specs.declared.names.Step.TheVariants as step
use Rattle.slot_entry.specs.Entries.{EntryState, is_eligible}
use Rattle.std.proofs.Common.{◌≡◌, ◌+◌, ◌≤◌, ◌∷◌, ◌++◌, ◌∙◌, ◌⊎◌, ℕ, zero, suc, Bool, true, false, List, [], Option, Some, None, slice_get, slice_set, refl, sym, ap, subst, arith, inl, inr, ⊎_elim}
use Rattle.call_history.specs.declared.part.PartEnd.TheVariants.{Whole}
use Rattle.lock_row.specs.declared.names.Scan.{Scan}
use Rattle.call_history.specs.Alone.{MoveNoneOver, moves_over, tight_over}
use Rattle.call_history.specs.Parts.{left_by, op_end}
use Rattle.call_history.specs.declared.part.Done.{Done}
use Rattle.call_history.specs.declared.part.Part.{Part}
use Rattle.call_history.specs.declared.part.PartEnd.{PartEnd}
use Rattle.class_pool.specs.Pool.{PoolState}
use Rattle.joint_rule.proofs.Facts.{Known}
use Rattle.joint_rule.proofs.Sums.{get_set, gone}
use Rattle.joint_rule.specs.Alone.{IsCalm, Sweeps, below, compacting, compacting_at, is_calm, is_calm_at, is_read, reached}
use Rattle.joint_rule.specs.Begins.{Begin, terms}
use Rattle.joint_rule.specs.Weights.{each_one, loose_pools, none, stored}
use Rattle.lock_row.specs.Totals.{mass, total}
use Rattle.lock_row.specs.declared.names.At.{At}
use Rattle.lock_row.specs.declared.names.At.TheVariants.{Away, Backed, Both, Counting, Failing, Fetching, Freeing, Giving, Inside, Leaving, Made, Missed, Moving, Old, Owing, Pinned, Pinning, Ready, Refusing, Releasing, Seen, Shrinking, Shrunk, Start, Sweeping, Unpinning, Wanting, Scanning, Marking, Visiting}
use Rattle.lock_row.specs.declared.names.Compaction.{Compaction}
use Rattle.lock_row.specs.declared.names.LockNo.{LockNo}
use Rattle.lock_row.specs.declared.names.Pin.{Pin}
use Rattle.lock_row.specs.declared.names.Plan.TheVariants.{Take}
use Rattle.lock_row.specs.declared.names.State.{State}
use Rattle.page_steps.specs.Pages.{next_form}
use Rattle.page_steps.specs.Steps.{DiskHeld, Here, after_take, begun_at, discard_at, entered_at, entry_in, entry_or, fetched_at, first_class, lock_of, made_at, part_at, piece_over, pinned_at, plan, quit_at, seen_at, settle_at, spot, taken_at, took, write_at, first_at, arrived_at, first_trip, is_mark_of, landed_at, mode_of, visited_at}
use Rattle.plain_disk.specs.Compactions.{MovesNone, moves_by, tight_by}
use Rattle.slot_entry.specs.Forms.{Blank, PageForm, Pooled, Word}
use Rattle.slot_entry.specs.declared.kept.Kept.{Kept}
use Rattle.zr_base.specs.Plain.{has_whole, is_beyond, is_maintenance, is_writeback}
use Rattle.zr_base.specs.declared.op.Op.{Op}
use Rattle.zr_base.specs.declared.op.Op.TheVariants.{Compact, Discard, Idle, Read, Write, Writeback}
use Rattle.zr_base.specs.declared.op.OpEnd.{OpEnd}
use Rattle.lock_row.specs.declared.names.LockNo.TheVariants as lock
use Rattle.lock_row.specs.declared.names.Held.TheVariants as holds
use Rattle.slot_entry.specs.declared.kept.Kept.TheVariants as kept
use Rattle.zr_base.specs.declared.op.OpEnd.TheVariants as ends

-- ---- stages

-- the stage is within a piece on a page
abbrev pub IsPlain : At → Type 0
IsPlain at = (compacting_at at ≡ None) × ((op : Op) → is_calm_at at op ≡ is_read op)

pub plain_settle : (k : Kept) → IsPlain (settle_at k)
plain_settle kept.Empty = (refl, λ op. refl)
plain_settle (kept.Same w) = (refl, λ op. refl)
plain_settle (kept.Obj o) = (refl, λ op. refl)
plain_settle (kept.Wb b) = (refl, λ op. refl)

plain_made : (f : PageForm) (k : Kept) → IsPlain (made_at f k)
plain_made Blank k = plain_settle k
plain_made (Word w) k = plain_settle k
plain_made (Pooled b h) k = (refl, λ op. refl)

plain_seen : (k : Kept) → IsPlain (seen_at k)
plain_seen kept.Empty = (refl, λ op. refl)
plain_seen (kept.Same w) = (refl, λ op. refl)
plain_seen (kept.Obj o) = (refl, λ op. refl)
plain_seen (kept.Wb b) = (refl, λ op. refl)

plain_part : (f : PageForm) (k : Kept) → IsPlain (part_at f k)
plain_part f kept.Empty = plain_made f kept.Empty
plain_part f (kept.Same w) = plain_made f (kept.Same w)
plain_part f (kept.Obj o) = (refl, λ op. refl)
plain_part f (kept.Wb b) = (refl, λ op. refl)

plain_write : (b : Bool) (f : PageForm) (k : Kept) → IsPlain (write_at b f k)
plain_write true f k = plain_made f k
plain_write false f k = plain_part f k

plain_discard : (k : Kept) → IsPlain (discard_at k)
plain_discard kept.Empty = (refl, λ op. refl)
plain_discard (kept.Same w) = (refl, λ op. refl)
plain_discard (kept.Obj o) = (refl, λ op. refl)
plain_discard (kept.Wb b) = (refl, λ op. refl)

pub plain_entered : (op : Op) (page : ℕ) (f : PageForm) (k : Kept) → IsPlain (entered_at op page f k)
plain_entered (Write start count stuff) page f k = plain_write (has_whole start count page) f k
plain_entered (Read start count) page f k = plain_seen k
plain_entered (Discard start count) page f k = plain_discard k
plain_entered (Idle age) page f k = (refl, λ op. refl)
plain_entered (Writeback mode) page f k = (refl, λ op. refl)
plain_entered Compact page f k = (refl, λ op. refl)

pub plain_pinned : (op : Op) (f : PageForm) (k : Kept) → IsPlain (pinned_at op f k)
plain_pinned (Write start count stuff) f k = plain_made f k
plain_pinned (Read start count) f k = (refl, λ op. refl)
plain_pinned (Discard start count) f k = (refl, λ op. refl)
plain_pinned (Idle age) f k = (refl, λ op. refl)
plain_pinned (Writeback mode) f k = (refl, λ op. refl)
plain_pinned Compact f k = (refl, λ op. refl)

pub plain_fetched : (op : Op) (f : PageForm) (k : Kept) → IsPlain (fetched_at op f k)
plain_fetched (Write start count stuff) f k = plain_made f k
plain_fetched (Read start count) f k = (refl, λ op. refl)
plain_fetched (Discard start count) f k = (refl, λ op. refl)
plain_fetched (Idle age) f k = (refl, λ op. refl)
plain_fetched (Writeback mode) f k = (refl, λ op. refl)
plain_fetched Compact f k = (refl, λ op. refl)

pub plain_quit : (x : Option Pin) → IsPlain (quit_at x)
plain_quit None = (refl, λ op. refl)
plain_quit (Some x) = (refl, λ op. refl)

plain_arrived : (b : Bool) (x : Trip) → IsPlain (arrived_at b x)
plain_arrived true x = (refl, λ op. refl)
plain_arrived false x = (refl, λ op. refl)

plain_landed : (fail : Option PartEnd) (x : Trip) (e : EntryState) → IsPlain (landed_at fail x e)
plain_landed None x e = elim (cases_Bool (is_mark_of x.block e.under))
    [ inl on ↦ rw on (refl, λ op. refl) | inr off ↦ rw off (refl, λ op. refl) ]
plain_landed (Some end) x e = (refl, λ op. refl)

plain_visited : (s : Step) (x : Trip) (op : Op) (e : EntryState) (fail : Option PartEnd)
    → IsPlain (visited_at s x op e fail)
plain_visited step.Arriving x op e fail = plain_arrived (is_eligible (mode_of op) e) x
plain_visited step.Landing x op e fail = plain_landed fail x e
plain_visited s x op e fail = (refl, λ i. refl)

-- a taking begins no compaction but at class 0
first_of : (op : Op) (y : EntryState) (x : Compaction) → compacting_at (first_at op y) ≡ Some x
    → x ≡ first_class
first_of (Idle age) y x e = absurd (cc)
first_of (Writeback mode) y x e =
    absurd (let z = (plain_arrived (is_eligible mode y) first_trip).0 in cc)
first_of (Write start count stuff) y x e = let q : first_class ≡ x = cc in sym q
first_of (Read start count) y x e = let q : first_class ≡ x = cc in sym q
first_of (Discard start count) y x e = let q : first_class ≡ x = cc in sym q
first_of Compact y x e = let q : first_class ≡ x = cc in sym q

first_begun : (a b : Bool) (p : Part) (f : PageForm) (y : EntryState) (x : Compaction)
    → compacting_at (begun_at a b p f y) ≡ Some x → x ≡ first_class
first_begun true b p f y x e = first_of p.op y x e
first_begun false true p f y x e = absurd (cc)
first_begun false false p f y x e = absurd (let z = (plain_entered p.op p.page f y.kept).0 in cc)

same_after : (size : ℕ) (at : At) (p : Part) (f : PageForm) (k : EntryState)
    (fail : Option PartEnd) (x : Compaction) → compacting_at (after_take size at p f k fail) ≡ Some x
    → (compacting_at at ≡ Some x) ⊎ (x ≡ first_class)
same_after size Start p f k fail x e =
    inr (first_begun (is_maintenance p.op) (is_beyond size p.op) p f k x e)
same_after size Refusing p f k fail x e = inl e
same_after size Seen p f k fail x e = inl e
same_after size Pinning p f k fail x e = inl e
same_after size Pinned p f k fail x e = inl e
same_after size Unpinning p f k fail x e = inl e
same_after size Leaving p f k fail x e = inl e
same_after size Away p f k fail x e = inl e
same_after size Fetching p f k fail x e = inl e
same_after size Failing p f k fail x e = inl e
same_after size Counting p f k fail x e = inl e
same_after size Missed p f k fail x e = inl e
same_after size Wanting p f k fail x e = inl e
same_after size Inside p f k fail x e = inl e
same_after size Both p f k fail x e = inl e
same_after size Made p f k fail x e = inl e
same_after size Old p f k fail x e = inl e
same_after size Freeing p f k fail x e = inl e
same_after size Backed p f k fail x e = inl e
same_after size Releasing p f k fail x e = inl e
same_after size Owing p f k fail x e = inl e
same_after size Giving p f k fail x e = inl e
same_after size Ready p f k fail x e = inl e
same_after size (Scanning y) p f k fail x e = inl e
same_after size (Marking y) p f k fail x e = inl e
same_after size (Visiting s y) p f k fail x e =
    absurd (let z = (plain_visited s y p.op k fail).0 in cc)
same_after size (Sweeping y) p f k fail x e = inl e
same_after size (Moving y) p f k fail x e = inl e
same_after size (Shrunk y) p f k fail x e = inl e
same_after size (Shrinking y) p f k fail x e = inl e

same_taken : (size : ℕ) (ps : List Part) (at : At) (page : Option (List ℕ)) (k : EntryState)
    (fail : Option PartEnd) (x : Compaction) → compacting ps (taken_at size ps at page k fail) ≡ Some x
    → (compacting ps at ≡ Some x) ⊎ (x ≡ first_class)
same_taken size [] at page k fail x e = inl e
same_taken size (p ∷ ps) at page k fail x e =
    same_after size at p (next_form p page k.kept) k fail x e

calm_after : (size : ℕ) (at : At) (p : Part) (f : PageForm) (k : EntryState)
    (fail : Option PartEnd) → is_calm_at (after_take size at p f k fail) p.op ≡ true → is_calm_at at p.op ≡ true
calm_after size Start p f k fail e = refl
calm_after size Refusing p f k fail e = e
calm_after size Seen p f k fail e = e
calm_after size Pinning p f k fail e = e
calm_after size Pinned p f k fail e = e
calm_after size Unpinning p f k fail e = e
calm_after size Leaving p f k fail e = e
calm_after size Away p f k fail e = e
calm_after size Fetching p f k fail e = e
calm_after size Failing p f k fail e = e
calm_after size Counting p f k fail e = e
calm_after size Missed p f k fail e = e
calm_after size Wanting p f k fail e = e
calm_after size Inside p f k fail e = e
calm_after size Both p f k fail e = e
calm_after size Made p f k fail e = e
calm_after size Old p f k fail e = e
calm_after size Freeing p f k fail e = e
calm_after size Backed p f k fail e = e
calm_after size Releasing p f k fail e = e
calm_after size Owing p f k fail e = e
calm_after size Giving p f k fail e = e
calm_after size Ready p f k fail e = e
calm_after size (Scanning x) p f k fail e = e
calm_after size (Marking x) p f k fail e = e
calm_after size (Visiting s x) p f k fail e = sym ((plain_visited s x p.op k fail).1 p.op) ∙ e
calm_after size (Sweeping x) p f k fail e = e
calm_after size (Moving x) p f k fail e = e
calm_after size (Shrunk x) p f k fail e = e
calm_after size (Shrinking x) p f k fail e = e

calm_taken : (size : ℕ) (ps : List Part) (at : At) (page : Option (List ℕ)) (k : EntryState)
    (fail : Option PartEnd) → is_calm ps (taken_at size ps at page k fail) ≡ true → is_calm ps at ≡ true
calm_taken size [] at page k fail e = e
calm_taken size (p ∷ ps) at page k fail e =
    calm_after size at p (next_form p page k.kept) k fail e

pub no_compaction : (ps : List Part) → compacting ps Start ≡ None
no_compaction [] = refl
no_compaction (p ∷ ps) = refl

-- ---- pieces that are over

pub tight_push : (t : Bool) (ds : List Done) (d : Done)
    → tight_over t (ds ++ d ∷ []) ≡ tight_by d.part.op (tight_over t ds)
tight_push t [] d = refl
tight_push t (x ∷ ds) d = tight_push (tight_by x.part.op t) ds d

pub moves_push : (n : ℕ) (ds : List Done) (d : Done)
    → moves_over n (ds ++ d ∷ []) ≡ moves_by d.part.op (op_end d.end 0) (moves_over n ds)
moves_push n [] d = refl
moves_push n (x ∷ ds) d = moves_push (moves_by x.part.op (op_end x.end 0) n) ds d

pub still_push : (t : Bool) (ds : List Done) (d : Done) → MoveNoneOver t ds
    → (tight_over t ds ≡ true → MovesNone (op_end d.end 0)) → MoveNoneOver t (ds ++ d ∷ [])
still_push t [] d i h = (h, tt)
still_push t (x ∷ ds) d i h = (i.0, still_push (tight_by x.part.op t) ds d i.1 h)

-- what a piece that is no compaction leaves
plain_push : (op : Op) (end : OpEnd) (t : Bool) (n loose objects : ℕ) → is_maintenance op ≡ false
    → (is_read op ≡ true → (t ≡ true → loose ≡ 0) × (n ≤ objects))
    → (tight_by op t ≡ true → loose ≡ 0) × (moves_by op end n ≤ objects)
plain_push (Write start count stuff) end t n loose objects e h = ((λ f. absurd (cc)), omega arith)
plain_push (Read start count) end t n loose objects e h = h refl
plain_push (Discard start count) end t n loose objects e h = ((λ f. absurd (cc)), omega arith)
plain_push (Idle age) end t n loose objects e h = absurd (cc)
plain_push (Writeback mode) end t n loose objects e h = absurd (cc)
plain_push Compact end t n loose objects e h = absurd (cc)

-- ---- an actor alone

-- What an actor's pieces that are over say of its compactions, and what stands of the one in work.
pub record IsSwept (g : Begin) (w : State DiskHeld) (l : Here) : Type 0 where
  pub still : MoveNoneOver g.tight l.done
  pub calm : is_calm l.todo l.at ≡ true → IsCalm g w l.done
  pub sweeps : (x : Compaction) → compacting l.todo l.at ≡ Some x → Sweeps g w l x

-- where one actor is left, it is the one that moved
pub one_left : (ls : List Here) (a : ℕ) (l m l' : Here) → slice_get ls a ≡ Some l
    → slice_set ls a m ≡ l' ∷ [] → (ls ≡ l ∷ []) × (l' ≡ m)
one_left [] a l m l' who e = absurd (cc)
one_left (y ∷ []) zero l m l' who e =
    let q : y ≡ l = cc in let r : m ≡ l' = cc in (ap (λ (x : Here). x ∷ []) q, sym r)
one_left (y ∷ z ∷ ys) zero l m l' who e = absurd (cc)
one_left (y ∷ []) (suc a) l m l' who e = absurd (cc)
one_left (y ∷ z ∷ ys) (suc zero) l m l' who e = absurd (cc)
one_left (y ∷ z ∷ ys) (suc (suc a)) l m l' who e = absurd (cc)

pub first_sweeps : (g : Begin) (w : State DiskHeld) (l : Here) → Sweeps g w l first_class
first_sweeps g w l = record {
  tight = λ k p at lt. absurd (omega arith);
  still = λ t. refl;
  moves = omega arith;
  home = λ q e. tt;
  hand = λ q e. tt;
}

module _ (g : Begin) (ok : Known g) (w : State DiskHeld) (a : ℕ) (l : Here)
    (who : slice_get w.locals a ≡ Some l) (o : IsSwept g w l) (k : LockNo) (v : DiskHeld) where
  abbrev n : ℕ
  n = g.given.size

  -- ---- takings

  module _ (what : plan (terms g) l ≡ Take k)
      (there : slice_get w.row (spot n k) ≡ Some (Some v)) where
    abbrev taker : Here
    taker = took (terms g) l v

    abbrev taken : State DiskHeld
    taken = gone n w a l who k None taker

    keeps : (f : ℕ → DiskHeld → ℕ) → total (spot n) f none taken ≡ total (spot n) f none w
    keeps f = ok.facts.take (spot n) f none w a l k v taker who there
        (ap (λ p. (lock_of p, v) ∷ l.held) what) refl

    was_home : (i : ℕ) (u : DiskHeld) → slice_get taken.row i ≡ Some (Some u)
        → slice_get w.row i ≡ Some (Some u)
    was_home i u at = ⊎_elim (λ s. absurd (let z = s.1 in cc)) (λ r. r.1)
        (get_set w.row (spot n k) i None (Some u) (Some v) there at)

    in_hand : (c : ℕ) (q : PoolState) → taker.held ≡ (lock.Class c, holds.Class q) ∷ []
        → slice_get w.row (n + c) ≡ Some (Some (holds.Class q))
    in_hand c q e =
        let first : LockNo × DiskHeld = (lock_of (plan (terms g) l), v) in
        let here : first ≡ (lock.Class c, holds.Class q) = cc in
        let value : v ≡ holds.Class q = ap (λ (x : LockNo × DiskHeld). x.1) here in
        let name : k ≡ lock.Class c =
        sym (ap lock_of what) ∙ ap (λ (x : LockNo × DiskHeld). x.0) here in
        subst (λ (x : LockNo × DiskHeld). slice_get w.row (spot n x.0) ≡ Some (Some x.1))
        (λ i. (name i, value i)) there

    sweeps_take : (x : Compaction) → Sweeps g w l x → Sweeps g taken taker x
    sweeps_take x s = record {
      tight = λ i p at lt. s.tight i p (was_home i (holds.Class p) at) lt;
      still = s.still;
      moves = let r = keeps (stored (below
          (reached x.budget x.class))) in let z = s.moves in
          omega arith;
      home = λ q at. s.home q (was_home (n + x.class) (holds.Class q) at);
      hand = λ q e. s.home q (in_hand x.class q e);
    }

    pub only_take : IsSwept g taken taker
    only_take =
        let kept : EntryState = entry_or v (entry_in l.held) in record {
          still = o.still;
          calm = λ c.
              let c' = o.calm (calm_taken n l.todo l.at l.page kept l.fail c) in record {
                tight = λ t. keeps loose_pools ∙ c'.tight t;
                few = let r = keeps (stored each_one) in let z = c'.few in omega arith;
              };
          sweeps = λ x e. ⊎_elim
              (λ s. sweeps_take x (o.sweeps x s))
              (λ f. subst (Sweeps g taken taker) (sym f) (first_sweeps g taken taker))
              (same_taken n l.todo l.at l.page kept l.fail x e);
        }

  -- ---- givings of a piece on a page

  module _ (m : Here) (there : slice_get w.row (spot n k) ≡ Some None) where
    abbrev pub given : State DiskHeld
    given = gone n w a l who k (Some v) m

    -- what the giving moves weighs as before
    abbrev pub Same : (ℕ → DiskHeld → ℕ) → Type 0
    Same f = mass (spot n) f none m + f (spot n k) v ≡ mass (spot n) f none l

    pub same_total : (f : ℕ → DiskHeld → ℕ) → Same f
        → total (spot n) f none given ≡ total (spot n) f none w
    same_total f e = let r = ok.facts.give (spot n) f none w a l k v m who there in omega arith

    abbrev pub AreSame : Type 0
    AreSame = Same loose_pools × Same (stored each_one)

    pub calm_same : AreSame → IsCalm g w l.done → IsCalm g given l.done
    calm_same s c = record {
      tight = λ t. same_total loose_pools s.0 ∙ c.tight t;
      few = let r = same_total (stored each_one) s.1 in let z = c.few in omega arith;
    }

    module _ (p : Part) (rest : List Part) (todo : l.todo ≡ p ∷ rest) (x : At) (at : l.at ≡ x)
        (plain : IsPlain x) where
      was_calm : is_read p.op ≡ true → IsCalm g w l.done
      was_calm read = o.calm ((λ i. is_calm (todo i) (at i)) ∙ plain.1 p.op ∙ read)

      pub goes_on : (y : At) → IsPlain y → m.done ≡ l.done → m.todo ≡ l.todo → m.at ≡ y
          → (is_read p.op ≡ true → AreSame) → IsSwept g given m
      goes_on y py done same at' h = record {
        still = subst (MoveNoneOver g.tight) (sym done) o.still;
        calm = λ c.
            let read : is_read p.op ≡ true = sym (py.1 p.op)
            ∙ sym (λ i. is_calm ((same ∙ todo) i) (at' i)) ∙ c in
            subst (IsCalm g given) (sym done) (calm_same (h read) (was_calm read));
        sweeps = λ z e. absurd (let q : compacting m.todo m.at ≡ None =
            (λ i. compacting ((same ∙ todo) i) (at' i)) ∙ py.0 in cc);
      }

      pub is_over : (end : PartEnd) (got : List (List ℕ)) → m ≡ piece_over l p end got rest
          → is_maintenance p.op ≡ false → MovesNone (op_end end 0) → (is_read p.op ≡ true → AreSame)
          → IsSwept g given m
      is_over end got m_is other still h =
          let d : Done = record { part = p; end = end; got = got } in
          let both = plain_push p.op (op_end end 0) (tight_over g.tight l.done)
          (moves_over 0 l.done) (total (spot n) loose_pools none given)
          (total (spot n) (stored each_one) none given) other
          (λ read. let c = calm_same (h read) (was_calm read) in (c.tight, c.few)) in
          let calm : IsCalm g given (l.done ++ d ∷ []) = record {
            tight = λ t. both.0 (sym (tight_push g.tight l.done d) ∙ t);
            few = let e = moves_push 0 l.done d in let z = both.1 in omega arith;
          } in
          record {
            still = subst (λ (y : Here). MoveNoneOver g.tight y.done) (sym m_is)
                (still_push g.tight l.done d o.still (λ t. still));
            calm = λ c. subst (λ (y : Here). IsCalm g given y.done) (sym m_is) calm;
            sweeps = λ z e. absurd (
                let q : compacting m.todo m.at ≡ None =
                ap (λ (y : Here). compacting y.todo y.at) m_is
                ∙ no_compaction (left_by end p.nr rest) in cc);
          }

    -- ---- givings of a scan

    module _ (p : Part) (rest : List Part) (todo : l.todo ≡ p ∷ rest) (x : Scan)
        (at : l.at ≡ Marking x) (same : AreSame) where
      still_calm : IsCalm g given l.done
      still_calm = calm_same same (o.calm (λ i. is_calm (todo i) (at i)))

      pub scan_goes_on : (y : Scan) → m.done ≡ l.done → m.todo ≡ l.todo → m.at ≡ Scanning y
          → IsSwept g given m
      scan_goes_on y done left at' = record {
        still = subst (MoveNoneOver g.tight) (sym done) o.still;
        calm = λ c. subst (IsCalm g given) (sym done) still_calm;
        sweeps = λ z e. absurd (let q : compacting m.todo m.at ≡ None =
            (λ i. compacting ((left ∙ todo) i) (at' i)) in cc);
      }

      pub scan_is_over : (age : Option ℕ) → p.op ≡ Idle age → (n : ℕ)
          → m ≡ piece_over l p (Whole (ends.Marked n)) [] rest → IsSwept g given m
      scan_is_over age op n m_is =
          let d : Done = record { part = p; end = Whole (ends.Marked n); got = [] } in
          let calm : IsCalm g given (l.done ++ d ∷ []) = record {
            tight = λ t. still_calm.tight (sym (tight_push g.tight l.done d
                ∙ ap (λ (i : Op). tight_by i (tight_over g.tight l.done)) op) ∙ t);
            few = let e = moves_push 0 l.done d in
                let f : moves_by p.op (ends.Marked n) (moves_over 0 l.done) ≡ moves_over 0 l.done =
                ap (λ (i : Op). moves_by i (ends.Marked n) (moves_over 0 l.done)) op in
                let z = still_calm.few in omega arith;
          } in
          record {
            still = subst (λ (y : Here). MoveNoneOver g.tight y.done) (sym m_is)
                (still_push g.tight l.done d o.still (λ t. tt));
            calm = λ c. subst (λ (y : Here). IsCalm g given y.done) (sym m_is) calm;
            sweeps = λ z e. absurd (
                let q : compacting m.todo m.at ≡ None =
                ap (λ (y : Here). compacting y.todo y.at) m_is
                ∙ no_compaction (left_by (Whole (ends.Marked n)) p.nr rest) in cc);
          }

    -- ---- givings of a writeback

    module _ (p : Part) (rest : List Part) (wb : is_writeback p.op ≡ true) where
      pub never_read : is_read p.op ≡ true → ⊥
      never_read = by_op p.op wb where
        by_op : (op : Op) → is_writeback op ≡ true → is_read op ≡ true → ⊥
        by_op (Write start count stuff) i e = cc
        by_op (Read start count) i e = cc
        by_op (Discard start count) i e = cc
        by_op (Idle age) i e = cc
        by_op (Writeback mode) i e = cc
        by_op Compact i e = cc

      pub visit_is_over : (end : OpEnd) → MovesNone end
          → m ≡ piece_over l p (Whole end) [] rest → IsSwept g given m
      visit_is_over end still m_is =
          let d : Done = record { part = p; end = Whole end; got = [] } in
          let calm : IsCalm g given (l.done ++ d ∷ []) = record {
            tight = λ t. absurd (let q : tight_by p.op (tight_over g.tight l.done) ≡ true =
                sym (tight_push g.tight l.done d) ∙ t in loosens p.op wb (tight_over g.tight l.done) q);
            few = let e = moves_push 0 l.done d in
                let f = moves_gone p.op wb end (moves_over 0 l.done) in omega arith;
          } in
          record {
            still = subst (λ (y : Here). MoveNoneOver g.tight y.done) (sym m_is)
                (still_push g.tight l.done d o.still (λ t. still));
            calm = λ c. subst (λ (y : Here). IsCalm g given y.done) (sym m_is) calm;
            sweeps = λ z e. absurd (
                let q : compacting m.todo m.at ≡ None =
                ap (λ (y : Here). compacting y.todo y.at) m_is
                ∙ no_compaction (left_by (Whole end) p.nr rest) in cc);
          } where
            loosens : (op : Op) → is_writeback op ≡ true → (t : Bool) → tight_by op t ≡ true → ⊥
            loosens (Write start count stuff) i t e = cc
            loosens (Read start count) i t e = cc
            loosens (Discard start count) i t e = cc
            loosens (Idle age) i t e = cc
            loosens (Writeback mode) i t e = cc
            loosens Compact i t e = cc

            moves_gone : (op : Op) → is_writeback op ≡ true → (x : OpEnd) (n : ℕ)
                → moves_by op x n ≡ 0
            moves_gone (Write start count stuff) i x n = refl
            moves_gone (Read start count) i x n = absurd (cc)
            moves_gone (Discard start count) i x n = refl
            moves_gone (Idle age) i x n = absurd (cc)
            moves_gone (Writeback mode) i x n = refl
            moves_gone Compact i x n = absurd (cc)
