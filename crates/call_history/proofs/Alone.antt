-- What the pieces of a phase's only actor say of its compactions, its operations say by their ends.
use Rattle.std.proofs.Common.{◌≡◌, ◌⊎◌, ℕ, ◌+◌, ◌≤◌, Bool, true, false, List, [], ◌∷◌, ◌++◌, refl, sym, ap, ◌∙◌, subst, arith, inl, inr, ⊎_elim}
use Rattle.std.specs.List.{AllByRecursion}
use Rattle.zr_base.specs.declared.op.Op.{Op}
use Rattle.zr_base.specs.declared.op.Op.TheVariants.{Write, Read, Discard, Idle, Writeback, Compact}
use Rattle.zr_base.specs.declared.op.OpEnd.{OpEnd}
use Rattle.zr_base.specs.declared.op.OpEnd.TheVariants as ends
use Rattle.zr_base.specs.Plain.{is_compaction, is_void}
use Rattle.plain_disk.specs.Ends.{Ground, Bounds, MayEndSo, MayEndBy, MayEnd}
use Rattle.plain_disk.specs.Compactions.{tight_by, tight_after, MovesNone, MoveNone, moves_by, moves_after}
use Rattle.call_history.specs.declared.part.Part.{Part}
use Rattle.call_history.specs.declared.part.PartEnd.{PartEnd}
use Rattle.call_history.specs.declared.part.Done.{Done}
use Rattle.call_history.specs.Parts.{parts, program, Follows, op_end, end_of, end_as, ends_from}
use Rattle.call_history.specs.Alone.{tight_over, MoveNoneOver, moves_over}
use Rattle.call_history.specs.Histories.{HasSome, SomeEach}
use Rattle.call_history.proofs.Ends.{Mine, every_mine}
use Rattle.call_history.proofs.Told.{every_parts}
use Rattle.call_history.proofs.Operations.{By, Only, only_is, only_end, mine_single, one_op}
use Rattle.call_history.proofs.Actors.{cut, front_end, back_ends}

-- ---- pieces in a row

-- what is idle where the classes are tight is so where they may not be
idle_less : (b : Bool) (ds : List Done) → MoveNoneOver b ds → MoveNoneOver false ds
idle_less b [] all = tt
idle_less b (d ∷ ds) all = ((λ e. absurd (cc)), later (idle_less b ds) d.part.op all.1) where
  later : (MoveNoneOver b ds → MoveNoneOver false ds) → (op : Op)
      → MoveNoneOver (tight_by op b) ds → MoveNoneOver (tight_by op false) ds
  later less (Read start count) rest = less rest
  later less (Write start count stuff) rest = rest
  later less (Discard start count) rest = rest
  later less (Idle age) rest = less rest
  later less (Writeback mode) rest = rest
  later less Compact rest = rest

-- classes that come to be tight come to be so if they were before
tight_more : (b : Bool) (ds : List Done) → tight_over false ds ≡ true → tight_over b ds ≡ true
tight_more b [] e = absurd (cc)
tight_more b (d ∷ ds) e = later (tight_more b ds) d.part.op e where
  later : (tight_over false ds ≡ true → tight_over b ds ≡ true) → (op : Op)
      → tight_over (tight_by op false) ds ≡ true → tight_over (tight_by op b) ds ≡ true
  later more (Read start count) e = more e
  later more (Write start count stuff) e = e
  later more (Discard start count) e = e
  later more (Idle age) e = more e
  later more (Writeback mode) e = e
  later more Compact e = e

-- more moves before are more moves after
moves_more : (ds : List Done) (i j : ℕ) → i ≤ j → moves_over i ds ≤ moves_over j ds
moves_more [] i j le = le
moves_more (d ∷ ds) i j le = moves_more ds (moves_by d.part.op (op_end d.end 0) i)
    (moves_by d.part.op (op_end d.end 0) j) (now d.part.op (op_end d.end 0)) where
      now : (op : Op) (end : OpEnd) → moves_by op end i ≤ moves_by op end j
      now (Read start count) end = le
      now (Write start count stuff) end = omega arith
      now (Discard start count) end = omega arith
      now (Idle age) end = le
      now (Writeback mode) end = omega arith
      now Compact (ends.Compacted moves frames) = omega arith
      now Compact _ = omega arith

tight_append : (b : Bool) (xs ys : List Done)
    → tight_over b (xs ++ ys) ≡ tight_over (tight_over b xs) ys
tight_append b [] ys = refl
tight_append b (x ∷ xs) ys = tight_append (tight_by x.part.op b) xs ys

idle_append : (b : Bool) (xs ys : List Done) → MoveNoneOver b (xs ++ ys)
    → MoveNoneOver b xs × MoveNoneOver (tight_over b xs) ys
idle_append b [] ys all = (tt, all)
idle_append b (x ∷ xs) ys all =
    let q = idle_append (tight_by x.part.op b) xs ys all.1 in ((all.0, q.0), q.1)

moves_append : (n : ℕ) (xs ys : List Done)
    → moves_over n (xs ++ ys) ≡ moves_over (moves_over n xs) ys
moves_append n [] ys = refl
moves_append n (x ∷ xs) ys = moves_append (moves_by x.part.op (op_end x.end 0) n) xs ys

-- ---- one operation

-- pieces of a read change nothing
module _ (start count : ℕ) where
  abbrev IsOfRead : Done → Type 0
  IsOfRead d = d.part.op ≡ Read start count

  reads_tight : (b : Bool) (ds : List Done) → AllByRecursion IsOfRead ds → tight_over b ds ≡ b
  reads_tight b [] all = refl
  reads_tight b (d ∷ ds) all =
      ap (λ (op : Op). tight_over (tight_by op b) ds) all.0 ∙ reads_tight b ds all.1

  reads_moves : (n : ℕ) (ds : List Done) → AllByRecursion IsOfRead ds → moves_over n ds ≡ n
  reads_moves n [] all = refl
  reads_moves n (d ∷ ds) all =
      ap (λ (op : Op). moves_over (moves_by op (op_end d.end 0) n) ds) all.0
      ∙ reads_moves n ds all.1

module _ (t : Ground) (b : Bounds) where
  -- only a compaction ends as one
  idle_so : (op : Op) (end : OpEnd) → is_compaction op ≡ false → MayEndSo t b op end → MovesNone end
  idle_so op (ends.Compacted moves frames) other may =
      absurd (let q : true ≡ false = sym may.0.0 ∙ other in cc)
  idle_so op _ other may = tt

  idle_else : (op : Op) (end : OpEnd) → is_compaction op ≡ false → MayEnd t b op end → MovesNone end
  idle_else op end other may = by_void (is_void t.backed op) may where
    by_void : (x : Bool) → MayEndBy x t b op end → MovesNone end
    by_void true is = subst MovesNone (sym is) tt
    by_void false so = idle_so op end other so

  -- What the pieces of an operation say of it.
  record Says (nr : ℕ) (op : Op) (front : List Done) (tight : Bool) (n : ℕ) : Type 0 where
    after : (tight_over tight front ≡ tight_by op tight) ⊎ (tight_by op tight ≡ false)
    still : MoveNoneOver tight front → tight ≡ true → MovesNone (end_as t.backed nr op front)
    moves : moves_by op (end_as t.backed nr op front) n ≤ moves_over n front

  module _ (nr : ℕ) (front : List Done) (tight : Bool) (n : ℕ) where
    -- a compaction has one piece
    compaction_says : (o : Only t b nr Compact front) → Says nr Compact front tight n
    compaction_says o =
        let op : o.d.part.op ≡ Compact = ap (λ (p : Part). p.op) o.part in
        let end : end_of nr front ≡ op_end o.d.end 0 =
        only_end t b nr Compact front o ∙ sym (ap (λ (x : PartEnd). op_end x 0) o.whole.is) in
        record {
          after = inl (ap (tight_over tight) o.is ∙ ap (λ (x : Op). tight_by x tight) op);
          still = λ all yes. subst MovesNone (sym end) ((subst (MoveNoneOver tight) o.is all).0 yes);
          moves =
              let q : moves_over n front ≡ moves_by Compact (end_of nr front) n =
              ap (moves_over n) o.is ∙ (λ i. moves_by (op i) (sym end i) n) in omega arith;
        }

    says : (op : Op) → HasSome op → Mine (By t b) (parts t.size t.backed nr op) front
        → Says nr op front tight n
    says (Read start count) some m =
        let all = every_mine (By t b) (λ (p : Part). p.op ≡ Read start count)
        (parts t.size t.backed nr (Read start count)) front m
        (every_parts (λ (p : Part). p.op ≡ Read start count) t.size t.backed nr (Read start count)
        (λ q. refl)) in record {
          after = inl (reads_tight start count tight front all);
          still = λ rest yes. idle_else (Read start count) (end_of nr front) refl
              (one_op t b 0 nr (Read start count) front some m).may;
          moves = let q = reads_moves start count n front all in omega arith;
        }
    says (Write start count stuff) some m = record {
      after = inr refl;
      still = λ rest yes. idle_else (Write start count stuff) (end_of nr front) refl
          (one_op t b 0 nr (Write start count stuff) front some m).may;
      moves = omega arith;
    }
    says (Discard start count) some m = record {
      after = inr refl;
      still = λ rest yes. idle_else (Discard start count) (end_of nr front) refl
          (one_op t b 0 nr (Discard start count) front some m).may;
      moves = omega arith;
    }
    says (Idle age) some m =
        let o = only_is t b nr (Idle age) front refl (mine_single t b nr (Idle age) front refl m) in
        let op : o.d.part.op ≡ Idle age = ap (λ (p : Part). p.op) o.part in record {
          after = inl (ap (tight_over tight) o.is ∙ ap (λ (x : Op). tight_by x tight) op);
          still = λ rest yes. idle_else (Idle age) (end_of nr front) refl
              (one_op t b 0 nr (Idle age) front some m).may;
          moves =
              let q : moves_over n front ≡ n =
              ap (moves_over n) o.is ∙ ap (λ (x : Op). moves_by x (op_end o.d.end 0) n) op in
              omega arith;
        }
    says (Writeback mode) some m = record {
      after = inr refl;
      still = λ rest yes. idle_else (Writeback mode) (end_as t.backed nr (Writeback mode) front) refl
          (one_op t b 0 nr (Writeback mode) front some m).may;
      moves = omega arith;
    }
    says Compact some m = compaction_says
        (only_is t b nr Compact front refl (mine_single t b nr Compact front refl m))

  -- ---- all operations

  -- What an actor's pieces say of its operations.
  pub record Tell (nr : ℕ) (ops : List Op) (done : List Done) (tight : Bool) (n : ℕ) : Type 0 where
    pub still : MoveNoneOver tight done → MoveNone tight ops (ends_from t.backed nr ops done)
    pub least : tight_after tight ops ≡ true → tight_over tight done ≡ true
    pub few : moves_after n ops (ends_from t.backed nr ops done) ≤ moves_over n done

  pub tell : (nr : ℕ) (ops : List Op) (done : List Done) (tight : Bool) (n : ℕ) → SomeEach ops
      → Follows (By t b) (program t.size t.backed nr ops) done [] → Tell nr ops done tight n
  tell nr [] [] tight n some f =
      record { still = λ all. tt; least = λ e. e; few = omega arith }
  tell nr [] (d ∷ ds) tight n some f = absurd f
  tell nr (op ∷ ops) done tight n some f =
      let c = cut (By t b) t.size t.backed nr op ops done f in
      let s = says nr c.front tight n op some.0 c.mine in
      let end = front_end (By t b) t.size t.backed nr op ops done c in
      let back = back_ends (By t b) t.size t.backed nr op ops done c in
      let later = tell (nr + 1) ops c.back (tight_by op tight)
      (moves_by op (end_as t.backed nr op c.front) n) some.1 c.later in
      record {
        still = λ all.
            let q = idle_append tight c.front c.back (subst (MoveNoneOver tight) c.is all) in (
              λ yes. subst MovesNone (sym end) (s.still q.0 yes),
              subst (MoveNone (tight_by op tight) ops) (sym back) (later.still (⊎_elim
                  (λ same. subst (λ (x : Bool). MoveNoneOver x c.back) same q.1)
                  (λ none. subst (λ (x : Bool). MoveNoneOver x c.back) (sym none)
                  (idle_less (tight_over tight c.front) c.back q.1)) s.after)),
            );
        least = λ e.
            let q = later.least e in
            ap (tight_over tight) c.is ∙ tight_append tight c.front c.back ∙ ⊎_elim
            (λ same. ap (λ (x : Bool). tight_over x c.back) same ∙ q)
            (λ none. tight_more (tight_over tight c.front) c.back
            (sym (ap (λ (x : Bool). tight_over x c.back) none) ∙ q)) s.after;
        few =
            let q = later.few in
            let r = moves_more c.back (moves_by op (end_as t.backed nr op c.front) n)
            (moves_over n c.front) s.moves in
            let e : moves_over n done ≡ moves_over (moves_over n c.front) c.back =
            ap (moves_over n) c.is ∙ moves_append n c.front c.back in
            let h : moves_after n (op ∷ ops) (ends_from t.backed nr (op ∷ ops) done)
            ≡ moves_after (moves_by op (end_as t.backed nr op c.front) n) ops
            (ends_from t.backed (nr + 1) ops c.back) =
            (λ i. moves_after (moves_by op (end i) n) ops (back i)) in omega arith;
      }
