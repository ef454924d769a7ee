-- A worker whose piece is over.
use Rattle.std.proofs.Common.{◌≡◌, ◌≢◌, ◌⊎◌, ℕ, ◌+◌, ◌<◌, ◌≤◌, Bool, true, false, not, ◌||◌, cond, List, [], ◌∷◌, ◌++◌, length, Option, Some, None, slice_get, refl, sym, ap, ◌∙◌, subst, arith, inl, inr, ⊎_elim, vec_len, vec_capacity}
use mathlib.Core.Logic.{dite}
use native.Mathlib.Decide.{ℕ_discrete}
use Rattle.std.proofs.lemmas.Bool.{cases_Bool, eq-eqb, ne_eqb, and_parts, not-true}
use Rattle.std.proofs.lemmas.List.{append-nil}
use Rattle.zr_base.specs.declared.op.Op.{Op}
use Rattle.zr_base.specs.declared.op.Op.TheVariants.{Write, Read, Discard, Idle, Writeback, Compact}
use Rattle.zr_base.specs.declared.op.OpEnd.{OpEnd}
use Rattle.zr_base.specs.declared.op.OpEnd.TheVariants as ends
use Rattle.zr_base.specs.Plain.{is_void, has_event}
use Rattle.plain_disk.specs.Ends.{is_single}
use Rattle.call_history.specs.declared.part.Part.{Part}
use Rattle.call_history.specs.declared.part.Done.{Done}
use Rattle.call_history.specs.Parts.{is_carried, got_by, got_of, op_end, end_of, end_as}
use Rattle.call_history.specs.Laws.{GotGrows}
use Rattle.lock_row.specs.declared.names.LockNo.{LockNo}
use Rattle.page_steps.specs.declared.stage.Scratch.{Scratch}
use Rattle.page_steps.specs.declared.stage.PieceEnd.{PieceEnd}
use Rattle.page_steps.specs.declared.stage.PieceEnd.TheVariants as piece
use Rattle.page_steps.specs.declared.stage.Progress.TheVariants as progress
use Rattle.page_steps.specs.Steps.{Terms, DiskHeld, Here, piece_over}
use Rattle.page_steps.specs.Nexts.{Next, ending_by}
use Rattle.page_steps.specs.Calls.{Frame, fresh_of}
use Rattle.page_steps.specs.Calls.{end_of as ending, got_of as got_of_piece}
use Rattle.page_steps.specs.Turns.{Turned as CallTurned}
use Rattle.actor_steps.specs.declared.call.Call.{Call}
use Rattle.actor_steps.specs.declared.call.Call.TheVariants as call
use Rattle.actor_steps.specs.declared.place.Place.{Place}
use Rattle.actor_steps.specs.declared.reply.Reply.{Reply}
use Rattle.actor_steps.specs.declared.worker.Worker.{Worker}
use Rattle.actor_steps.specs.declared.worker.Turn.TheVariants as turn
use Rattle.actor_steps.specs.Places.{todo_at, part_at, behind, IsOnward}
use Rattle.actor_steps.specs.Work.{reads}
use Rattle.actor_steps.specs.Replies.{HasRoomFor, HasMore}
use Rattle.actor_steps.specs.Calls.{Does, local, is_alone, got_by as got_in}
use Rattle.actor_steps.specs.Workers.{at_by, held_by, owed_by, stage_of, pin_by, ahead_by, behind_by, page_by, fail_by, here, with_call, frame, over_of, AllCarried, Keeps, ReplyFits, HasCall, IsFit, CanFinish, Finishes, turned, Advanced}
use Rattle.actor_steps.proofs.Places.{has_settled}
use Rattle.actor_steps.proofs.Histories.{over_here, over_else, carried_more, none_carried, end_here, end_else}
use Rattle.actor_steps.proofs.Turns.{rest, x, here_is}
use Rattle.actor_steps.proofs.Calls.{alone_is}
use Rattle.actor_steps.proofs.Singles.{ReadsNothing, EndsAs, ends_alone}

-- ---- what a piece reads

-- only a piece of a read reads something
got_plain : (end : PieceEnd) (page : List ℕ) (p : Part)
    → ((bytes : ℕ → List ℕ) → got_by p.op p.page bytes ≡ []) → got_of_piece end page p ≡ []
got_plain (piece.Read at) page p none = none _
got_plain (piece.Wrote at) page p none = refl
got_plain (piece.Discarded at) page p none = refl
got_plain piece.Skipped page p none = refl
got_plain piece.Range page p none = refl
got_plain (piece.AtLimit pages need limit) page p none = refl
got_plain piece.NoMemory page p none = refl
got_plain (piece.Eio fault) page p none = refl
got_plain (piece.Marked pages) page p none = refl
got_plain (piece.Written wrote lost) page p none = refl
got_plain (piece.Budget wrote lost) page p none = refl
got_plain (piece.NoBlock wrote lost) page p none = refl
got_plain (piece.WriteEio fault wrote lost) page p none = refl
got_plain (piece.Compacted moves frames) page p none = refl

-- nor does one of an operation that is over in one piece
got_none : (end : PieceEnd) (page : List ℕ) (p : Part) → ReadsNothing end
    → got_of_piece end page p ≡ []
got_none (piece.Read at) page p none = absurd none
got_none (piece.Wrote at) page p none = refl
got_none (piece.Discarded at) page p none = refl
got_none piece.Skipped page p none = refl
got_none piece.Range page p none = refl
got_none (piece.AtLimit pages need limit) page p none = refl
got_none piece.NoMemory page p none = refl
got_none (piece.Eio fault) page p none = refl
got_none (piece.Marked pages) page p none = refl
got_none (piece.Written wrote lost) page p none = refl
got_none (piece.Budget wrote lost) page p none = refl
got_none (piece.NoBlock wrote lost) page p none = refl
got_none (piece.WriteEio fault wrote lost) page p none = refl
got_none (piece.Compacted moves frames) page p none = refl

-- what a call says of it
got_is : {D : Type 0} (c : Call D) (r : Scratch) (end : PieceEnd) (p : Part) → EndsAs (is_alone c) end
    → got_in c r end p ≡ got_of_piece end r.page p
got_is (call.Page c) r end p e = refl
got_is (call.Idle c) r end p e = sym (got_none end r.page p (e refl))
got_is (call.Writeback c) r end p e = sym (got_none end r.page p (e refl))
got_is (call.Compact c) r end p e = sym (got_none end r.page p (e refl))

-- ---- room in replies

reads_fit : (size : ℕ) (pl : Place) (op : Op) (r : Reply) → is_single size op ≡ false
    → ReplyFits size pl pl.nr op r → vec_len r.sectors ≤ vec_capacity r.sectors
    → vec_len r.sectors + reads op pl.page ≤ vec_capacity r.sectors
reads_fit size pl (Write start count stuff) r inside f le = omega arith
reads_fit size pl (Discard start count) r inside f le = omega arith
reads_fit size pl (Idle age) r inside f le = omega arith
reads_fit size pl (Writeback mode) r inside f le = omega arith
reads_fit size pl Compact r inside f le = omega arith
reads_fit size pl (Read start count) r inside f le = let q = f.0.here refl inside in omega arith

has_room : (size : ℕ) (pl : Place) (op : Op) (r : Reply) (k : Bool) (end : PieceEnd)
    → is_single size op ≡ k → EndsAs k end → ReplyFits size pl pl.nr op r
    → vec_len r.sectors ≤ vec_capacity r.sectors
    → HasRoomFor end (vec_len r.sectors + reads op pl.page) (vec_capacity r.sectors)
has_room size pl op r k (piece.Read at) single e f le = elim (cases_Bool k) [
  | inl on ↦ absurd (e on)
  | inr off ↦ reads_fit size pl op r (single ∙ off) f le
]
has_room size pl op r k (piece.Wrote at) single e f le = tt
has_room size pl op r k (piece.Discarded at) single e f le = tt
has_room size pl op r k piece.Skipped single e f le = tt
has_room size pl op r k piece.Range single e f le = tt
has_room size pl op r k (piece.AtLimit pages need limit) single e f le = tt
has_room size pl op r k piece.NoMemory single e f le = tt
has_room size pl op r k (piece.Eio fault) single e f le = tt
has_room size pl op r k (piece.Marked pages) single e f le = tt
has_room size pl op r k (piece.Written wrote lost) single e f le = tt
has_room size pl op r k (piece.Budget wrote lost) single e f le = tt
has_room size pl op r k (piece.NoBlock wrote lost) single e f le = tt
has_room size pl op r k (piece.WriteEio fault wrote lost) single e f le = tt
has_room size pl op r k (piece.Compacted moves frames) single e f le = tt

-- a later place asks for no more room
fits_later : (size : ℕ) (pl pl' : Place) (k : ℕ) (op : Op) (r : Reply) → k ≢ pl.nr
    → IsOnward (behind pl) pl' → ReplyFits size pl k op r → ReplyFits size pl' k op r
fits_later size pl pl' k (Write start count stuff) r ne on f = f
fits_later size pl pl' k (Discard start count) r ne on f = f
fits_later size pl pl' k (Idle age) r ne on f = f
fits_later size pl pl' k (Writeback mode) r ne on f = f
fits_later size pl pl' k Compact r ne on f = f
fits_later size pl pl' k (Read start count) r ne on f = (
  record {
    later = λ lt inside. f.0.later
        (⊎_elim (λ h. omega arith) (λ h. let q = h.0 in omega arith) on) inside;
    here = λ e inside. ⊎_elim
        (λ h. let q = f.0.later (omega arith) inside in omega arith)
        (λ h. absurd (ne (sym (h.0 ∙ e))))
        on;
  },
  f.1,
)

-- the piece's own reply
fits_here : (size : ℕ) (pl pl' : Place) (op : Op) (was is : Reply) (k : Bool) (end : PieceEnd)
    (page : List ℕ) → IsOnward (behind pl) pl'
    → vec_len is.sectors ≤ vec_len was.sectors + reads op pl.page
    → vec_capacity was.sectors ≤ vec_capacity is.sectors
    → is.sectors.items ≡ was.sectors.items ++ got_of_piece end page (part_at pl op)
    → is_single size op ≡ k → EndsAs k end
    → ReplyFits size pl pl.nr op was → ReplyFits size pl' pl.nr op is
fits_here size pl pl' (Write start count stuff) was is k end page on len room got single e f =
    got ∙ ap (λ (xs : List (List ℕ)). was.sectors.items ++ xs)
    (got_plain end page (part_at pl (Write start count stuff)) (λ b. refl))
    ∙ append-nil was.sectors.items ∙ f
fits_here size pl pl' (Discard start count) was is k end page on len room got single e f =
    got ∙ ap (λ (xs : List (List ℕ)). was.sectors.items ++ xs)
    (got_plain end page (part_at pl (Discard start count)) (λ b. refl))
    ∙ append-nil was.sectors.items ∙ f
fits_here size pl pl' (Idle age) was is k end page on len room got single e f =
    got ∙ ap (λ (xs : List (List ℕ)). was.sectors.items ++ xs)
    (got_plain end page (part_at pl (Idle age)) (λ b. refl))
    ∙ append-nil was.sectors.items ∙ f
fits_here size pl pl' (Writeback mode) was is k end page on len room got single e f =
    got ∙ ap (λ (xs : List (List ℕ)). was.sectors.items ++ xs)
    (got_plain end page (part_at pl (Writeback mode)) (λ b. refl))
    ∙ append-nil was.sectors.items ∙ f
fits_here size pl pl' Compact was is k end page on len room got single e f =
    got ∙ ap (λ (xs : List (List ℕ)). was.sectors.items ++ xs)
    (got_plain end page (part_at pl Compact) (λ b. refl))
    ∙ append-nil was.sectors.items ∙ f
fits_here size pl pl' (Read start count) was is k end page on len room got single e f = (
  record {
    later = λ lt inside. absurd
        (⊎_elim (λ h. let none : ⊥ = omega arith in none) (λ h. let q = h.0 in
        let none : ⊥ = omega arith in none) on);
    here = λ same inside. ⊎_elim
        (λ h. absurd (let none : ⊥ = omega arith in none))
        (λ h. let q = f.0.here refl inside in let p = h.1 in omega arith)
        on;
  },
  λ beyond. got ∙ ap (λ (xs : List (List ℕ)). was.sectors.items ++ xs)
      (got_none end page (part_at pl (Read start count)) (e (sym single ∙ beyond)))
      ∙ append-nil was.sectors.items ∙ f.1 beyond,
)

-- a reply now is the one with more, or one of before
more_at : {nr n : ℕ} {end : _} {got : List (List ℕ)} {old new : List Reply}
    (m : HasMore nr end got n old new) (k : ℕ) (r : Reply) → slice_get new k ≡ Some r
    → ((k ≡ nr) × (m.is ≡ r)) ⊎ ((k ≢ nr) × (slice_get old k ≡ Some r))
more_at {nr} {n} {end} {got} {old} {new} m k r e = dite (ℕ_discrete k nr)
    (λ s. inl (
      s,
      let q : Some m.is ≡ Some r = sym m.after ∙ (ap (slice_get new) (sym s) ∙ e) in cc,
    ))
    (λ ne. inr (ne, sym (m.others k ne) ∙ e))

-- ---- the worker

-- the last turn of a call that does an operation in one piece reads nothing
pub ends_as : {D : Type 0} (t : Terms) (backed : Bool) (ops : List Op) (v : Worker D) (c : Call D)
    (fit : IsFit t backed ops (with_call v (Some c))) (op : Op) (at : slice_get ops v.place.nr ≡ Some op)
    {X : Type 0} (takes : X → LockNo → Next → DiskHeld → X → Type 0)
    (misses : X → LockNo → X → Type 0) (gives : X → LockNo → Next → DiskHeld → X → Type 0)
    (h g : X) (r : Scratch) (end : PieceEnd)
    → ((y : Frame) → Does c v.scratch y
    → CallTurned takes misses gives y.terms (local c v.scratch y) h
    (ending_by (local c v.scratch y) (ending end) (got_in c r end) (local c v.scratch y).todo) g
    (progress.Done end)) → EndsAs (is_alone c) end
ends_as t backed ops v c fit op at takes misses gives h g r end turns =
    let does = fit.call.work op (rest t backed ops v c fit op at) [] at in
    ends_alone takes misses gives h g (x t backed ops v c fit op at []) refl end c v.scratch r does
    fit.call.fit fit.call.going (turns (x t backed ops v c fit op at []) does)

-- the worker whose call is over, before its piece is finished
abbrev pub ended : {D : Type 0} → Worker D → Scratch → Worker D
ended v r = record {
  actor = v.actor;
  place = v.place;
  carried = v.carried;
  call = v.call;
  scratch = r;
  replies = v.replies;
}

module _ {D : Type 0} (t : Terms) (backed : Bool) (ops : List Op) (v : Worker D) (c : Call D)
    (fit : IsFit t backed ops (with_call v (Some c))) (op : Op)
    (at : slice_get ops v.place.nr ≡ Some op) (more : v.place.nr < length ops) (r : Scratch)
    (end : PieceEnd) (is_end : EndsAs (is_alone c) end) where
  single : is_single t.size op ≡ is_alone c
  single = alone_is c v.scratch (frame t v op [] []) (fit.call.work op [] [] at)

  pub can_finish : CanFinish t.size backed ops end (ended v r)
  can_finish = record {
    requests = fit.requests;
    more = more;
    place = fit.place;
    settled = fit.settled;
    carried = fit.carried;
    replies = fit.replies;
    room = λ o y named there.
        let same : op ≡ o = (let q : Some op ≡ Some o = sym at ∙ named in cc) in
        has_room t.size v.place o y (is_alone c) end (ap (is_single t.size) (sym same) ∙ single)
        is_end (fit.reads v.place.nr o y named there) y.sectors.ok.1;
  }

  module _ (empty : v.call ≡ None) (w' : Worker D) (fin : Finishes t.size backed ops end (ended v r) w') where
    no_call : (let o : Option (Call D) = None in o) ≡ w'.call
    no_call = sym (fin.call ∙ empty)

    abbrev nr : ℕ
    nr = v.place.nr

    m : HasMore nr (op_end (ending end) v.carried)
        (got_of_piece end r.page (part_at v.place op)) (reads op v.place.page)
        v.replies.items w'.replies.items
    m = fin.replies op at

    abbrev d : Done
    d = record {
      part = part_at v.place op;
      end = ending end;
      got = got_of_piece end r.page (part_at v.place op);
    }

    -- the place is in the same operation, or in a later one
    nr_now : (w'.place.nr ≡ nr) ⊎ (nr < w'.place.nr)
    nr_now = ⊎_elim (λ h. inr h) (λ h. inl (sym h.0)) fin.onward

    carried_same : w'.place.nr ≡ nr → w'.carried ≡ v.carried + 1
    carried_same e = fin.carried
        ∙ ap (λ (b : Bool). cond b (v.carried + 1) 0) (eq-eqb w'.place.nr nr e)

    carried_none : nr < w'.place.nr → w'.carried ≡ 0
    carried_none lt = fin.carried
        ∙ ap (λ (b : Bool). cond b (v.carried + 1) 0)
        (ne_eqb w'.place.nr nr (λ e. let no : ⊥ = omega arith in no))

    pub ends_fit : r.table ≡ v.scratch.table → IsFit t backed ops w'
    ends_fit table = record {
      some = fit.some;
      requests = fit.requests;
      few = fit.few;
      place = fin.place;
      settled = fin.settled;
      chain = ap (λ (y : Scratch). y.table) fin.scratch ∙ table ∙ fit.chain;
      most = fit.most;
      carried = ⊎_elim
          (λ h. let q = carried_none h in omega arith)
          (λ h. let q = carried_same (sym h.0) in let p = h.1 in let f = fit.carried in omega arith)
          fin.onward;
      call = subst (HasCall t ops w') no_call tt;
      replies = m.size ∙ fit.replies;
      reads = λ k o y named there. ⊎_elim
          (λ s. mine k o y s.0 s.1
          (let q : Some op ≡ Some o = sym at ∙ (ap (slice_get ops) (sym s.0) ∙ named) in cc))
          (λ s. fits_later t.size v.place w'.place k o y s.0 fin.onward
          (fit.reads k o y named s.1))
          (more_at m k y there);
    } where
      mine : (k : ℕ) (o : Op) (y : Reply) → k ≡ nr → m.is ≡ y → op ≡ o
          → ReplyFits t.size w'.place k o y
      mine k o y s u z =
          subst (λ (q : ℕ × Op × Reply). ReplyFits t.size w'.place q.0 q.1 q.2)
          (λ i. (sym s i, z i, u i))
          (fits_here t.size v.place w'.place op m.was m.is (is_alone c) end r.page fin.onward m.len
          m.room m.sectors single is_end (fit.reads nr op m.was at m.before))

    -- the operation does something
    does : is_void backed op ≡ false
    does = not-true (is_void backed op) (and_parts (not (is_void backed op))
        (is_single t.size op || has_event op v.place.page)
        (has_settled t.size backed ops nr op at v.place.page v.place.left fit.settled).1).0

    -- the replies have what is over now
    module _ (grows : GotGrows) (done : List Done) (keeps : Keeps backed ops v done) where
      end_now : (k : ℕ) (o : Op) (y : Reply) → slice_get ops k ≡ Some o
          → slice_get w'.replies.items k ≡ Some y → y.end ≡ end_as backed k o (done ++ d ∷ [])
      end_now k o y named there = ⊎_elim
          (λ s. subst (λ (z : ℕ × Op × Reply). z.2.end ≡ end_as backed z.0 z.1 (done ++ d ∷ []))
          (λ i. (
            sym s.0 i,
            (let q : Some op ≡ Some o = sym at
                ∙ (ap (slice_get ops) (sym s.0) ∙ named) in let r : op ≡ o = cc in r) i,
            s.1 i,
          ))
          (m.ends ∙ sym (ap (λ (b : Bool). cond b ends.NoBacking (end_of nr (done ++ d ∷ []))) does
          ∙ end_here nr 0 done d refl keeps.carried
          ∙ ap (op_end (ending end)) (let q = keeps.count in
          let z : 0 + over_of nr done ≡ v.carried = omega arith in z))))
          (λ s. keeps.ends k o y named s.1 ∙ sym (ap (λ (e : OpEnd). cond (is_void backed o)
          ends.NoBacking e) (end_else k 0 done d (λ e. s.0 (sym e)))))
          (more_at m k y there)

      got_now : (k : ℕ) (y : Reply) → slice_get w'.replies.items k ≡ Some y
          → y.sectors.items ≡ got_of k (done ++ d ∷ [])
      got_now k y there = ⊎_elim
          (λ s. subst (λ (z : ℕ × Reply). z.1.sectors.items ≡ got_of z.0 (done ++ d ∷ []))
          (λ i. (sym s.0 i, s.1 i))
          (m.sectors ∙ ap (λ (xs : List (List ℕ)). xs ++ d.got) (keeps.sectors nr m.was m.before)
          ∙ sym (grows nr done (d ∷ [])
          ∙ ap (λ (b : Bool). got_of nr done ++ cond b (d.got ++ []) []) (eq-eqb nr nr refl)
          ∙ ap (λ (xs : List (List ℕ)). got_of nr done ++ xs) (append-nil d.got))))
          (λ s. keeps.sectors k y s.1 ∙ sym (grows k done (d ∷ [])
          ∙ ap (λ (b : Bool). got_of k done ++ cond b (d.got ++ []) [])
          (ne_eqb nr k (λ e. s.0 (sym e)))
          ∙ append-nil (got_of k done)))
          (more_at m k y there)

      -- no piece of a later operation is over
      none_later : (k : ℕ) → nr < k → over_of k (done ++ d ∷ []) ≡ 0
      none_later k lt = over_else k done d (λ e. let no : ⊥ = omega arith in no)
          ∙ keeps.later k lt

      count_now : over_of w'.place.nr (done ++ d ∷ []) ≡ w'.carried
      count_now = ⊎_elim
          (λ e. ap (λ (k : ℕ). over_of k (done ++ d ∷ [])) e ∙ over_here nr done d refl
          ∙ ap (λ (n : ℕ). n + 1) keeps.count ∙ sym (carried_same e))
          (λ lt. none_later w'.place.nr lt ∙ sym (carried_none lt))
          nr_now

      goes_on : w'.place.nr ≡ nr → is_carried (ending end) ≡ true
      goes_on e = elim (cases_Bool (is_carried (ending end))) [
        | inl on ↦ on
        | inr off ↦ absurd (let q = fin.later off in let no : ⊥ = omega arith in no)
      ]

      carried_now : AllCarried w'.place.nr (done ++ d ∷ [])
      carried_now = ⊎_elim
          (λ e. subst (λ (k : ℕ). AllCarried k (done ++ d ∷ [])) (sym e)
          (carried_more nr done d keeps.carried (λ same. goes_on e)))
          (λ lt. none_carried w'.place.nr (done ++ d ∷ []) (none_later w'.place.nr lt))
          nr_now

      keeps_now : Keeps backed ops w' (done ++ d ∷ [])
      keeps_now = record {
        ends = end_now;
        sectors = got_now;
        count = count_now;
        carried = carried_now;
        later = λ k lt. none_later k
            (⊎_elim (λ e. omega arith) (λ h. omega arith) nr_now);
      }

      abbrev y : Frame
      y = frame t v op (todo_at t.size backed ops (behind v.place)) done

      -- the local once the piece is over, which has read this
      abbrev over : List (List ℕ) → Here
      over got = piece_over (here t.size backed ops v done) (part_at v.place op) (ending end) got
          (todo_at t.size backed ops (behind v.place))

      ends_so : (b : Call D)
          → ending_by (local b v.scratch y) (ending end) (got_in b r end) (local b v.scratch y).todo
          ≡ over (got_in b r end (part_at v.place op))
      ends_so (call.Page b) = refl
      ends_so (call.Idle b) = refl
      ends_so (call.Writeback b) = refl
      ends_so (call.Compact b) = refl

      -- is the worker's
      over_is : ending_by (local c v.scratch y) (ending end) (got_in c r end) (local c v.scratch y).todo
          ≡ here t.size backed ops w' (done ++ d ∷ [])
      over_is = ends_so c ∙ ap over (got_is c r end (part_at v.place op) is_end) ∙ (λ i. record {
        actor = sym fin.actor i;
        at = at_by (no_call i);
        todo = sym fin.todo i;
        held = held_by w'.place.page (no_call i);
        done = done ++ d ∷ [];
        fresh = fresh_of w'.scratch (stage_of (no_call i));
        pin = pin_by (no_call i);
        owed = owed_by (no_call i);
        ahead = ahead_by (no_call i);
        behind = behind_by (no_call i);
        page = page_by w'.scratch (no_call i);
        fail = fail_by (no_call i);
      })

      pub ends_turn : {X : Type 0} (takes : X → LockNo → Next → DiskHeld → X → Type 0)
          (misses : X → LockNo → X → Type 0) (gives : X → LockNo → Next → DiskHeld → X → Type 0)
          (h g : X) → ((z : Frame) → Does c v.scratch z
          → CallTurned takes misses gives z.terms (local c v.scratch z) h
          (ending_by (local c v.scratch z) (ending end) (got_in c r end) (local c v.scratch z).todo) g
          (progress.Done end))
          → Advanced takes misses gives t backed ops (with_call v (Some c)) h w' g turn.Went done
      ends_turn takes misses gives h g turns = (
        done ++ d ∷ [],
        keeps_now,
        turned (progress.Done end)
            (subst (λ (k : Here × Here). CallTurned takes misses gives t k.0 h k.1 g
            (progress.Done end))
            (λ i. (here_is t backed ops v c fit op at v.scratch c done i, over_is i))
            (turns y (fit.call.work op (todo_at t.size backed ops (behind v.place)) done at))) refl,
      )
