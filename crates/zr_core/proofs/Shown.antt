-- What replies show is what the histories tell.
use Rattle.std.proofs.Common.{◌≡◌, ℕ, suc, ◌+◌, Bool, List, [], ◌∷◌, map, length, Option, Some, slice_get, refl, sym, ap, ◌∙◌, subst, arith}
use Rattle.zr_base.specs.declared.op.Op.{Op}
use Rattle.zr_base.specs.declared.op.Op.TheVariants.{Write, Read, Discard, Idle, Writeback, Compact}
use Rattle.zr_base.specs.declared.op.OpEnd.{OpEnd}
use Rattle.zr_base.specs.declared.op.OpEnd.TheVariants as ends
use Rattle.plain_disk.specs.Output.{phase_lines}
use Rattle.call_history.specs.declared.part.Done.{Done}
use Rattle.call_history.specs.Parts.{end_of, end_as, ends_from, shown, got_of, told_from}
use Rattle.call_history.specs.Histories.{ends_each, told_each}
use Rattle.page_steps.specs.Steps.{Terms, DiskHeld}
use Rattle.actor_steps.specs.declared.reply.Reply.{Reply}
use Rattle.actor_steps.specs.declared.worker.Worker.{Worker}
use Rattle.actor_steps.specs.declared.place.Place.{Place}
use Rattle.actor_steps.specs.Workers.{Keeps, ReplyFits, IsFit}
use Rattle.zr_core.specs.Machines.{histories, orders_of, printed}
use Rattle.zr_core.specs.States.{heres, state, ends_shown, told_by, sectors_shown, AreFit, AreKept}

-- what is told of an operation goes by its pieces, whether the disk has a backing or none
shown_as : (backed : Bool) (k : ℕ) (op : Op) (done : List Done) (got : List (List ℕ))
    → shown op (end_of k done) got ≡ shown op (end_as backed k op done) got
shown_as backed k (Write start count stuff) done got = refl
shown_as backed k (Read start count) done got = refl
shown_as backed k (Discard start count) done got = refl
shown_as backed k (Idle age) done got = refl
shown_as backed k (Writeback mode) done got = refl
shown_as backed k Compact done got = refl

-- a reply, by the pieces that are over
record Replies (backed : Bool) (done : List Done) (k : ℕ) (op : Op) (r : Reply) : Type 0 where
  end : r.end ≡ end_as backed k op done
  shows : shown op r.end r.sectors.items ≡ told_by r.end r.sectors.items
  got : r.sectors.items ≡ got_of k done

abbrev Each : Bool → List Done → ℕ → List Op → List Reply → Type 0
Each backed done nr ops rs = (k : ℕ) (op : Op) (r : Reply) → slice_get ops k ≡ Some op
    → slice_get rs k ≡ Some r → Replies backed done (nr + k) op r

module _ (backed : Bool) (done : List Done) where
  first : (nr : ℕ) (op : Op) (ops : List Op) (r : Reply) (rs : List Reply)
      → Each backed done nr (op ∷ ops) (r ∷ rs) → Replies backed done nr op r
  first nr op ops r rs all =
      subst (λ (k : ℕ). Replies backed done k op r) (let q : nr + 0 ≡ nr = omega arith in q)
      (all 0 op r refl refl)

  later : (nr : ℕ) (op : Op) (ops : List Op) (r : Reply) (rs : List Reply)
      → Each backed done nr (op ∷ ops) (r ∷ rs) → Each backed done (nr + 1) ops rs
  later nr op ops r rs all k o s e f =
      subst (λ (j : ℕ). Replies backed done j o s)
      (let q : nr + suc k ≡ nr + 1 + k = omega arith in q) (all (suc k) o s e f)

  ends_are : (nr : ℕ) (ops : List Op) (rs : List Reply) → length rs ≡ length ops
      → Each backed done nr ops rs
      → ends_from backed nr ops done ≡ map (λ (r : Reply). r.end) rs
  ends_are nr [] [] e all = refl
  ends_are nr [] (r ∷ rs) e all =
      absurd (let q : suc (length rs) ≡ 0 = e in let none : ⊥ = omega arith in none)
  ends_are nr (op ∷ ops) [] e all = absurd (let q : 0 ≡ suc (length ops) = e in
      let none : ⊥ = omega arith in none)
  ends_are nr (op ∷ ops) (r ∷ rs) e all = λ i. sym (first nr op ops r rs all).end i
      ∷ ends_are (nr + 1) ops rs (omega arith) (later nr op ops r rs all) i

  told_are : (nr : ℕ) (ops : List Op) (rs : List Reply) → length rs ≡ length ops
      → Each backed done nr ops rs
      → told_from nr ops done ≡ map (λ (r : Reply). told_by r.end r.sectors.items) rs
  told_are nr [] [] e all = refl
  told_are nr [] (r ∷ rs) e all =
      absurd (let q : suc (length rs) ≡ 0 = e in let none : ⊥ = omega arith in none)
  told_are nr (op ∷ ops) [] e all = absurd (let q : 0 ≡ suc (length ops) = e in
      let none : ⊥ = omega arith in none)
  told_are nr (op ∷ ops) (r ∷ rs) e all =
      let f = first nr op ops r rs all in
      λ i. (shown_as backed nr op done (got_of nr done) ∙ (λ j. shown op (sym f.end j) (sym f.got j))
      ∙ f.shows) i
      ∷ told_are (nr + 1) ops rs (omega arith) (later nr op ops r rs all) i

nothing_told : (end : OpEnd) → told_by end [] ≡ []
nothing_told ends.Ok = refl
nothing_told ends.Range = refl
nothing_told (ends.AtLimit pages need limit done) = refl
nothing_told (ends.NoMemory done) = refl
nothing_told (ends.Eio fault done) = refl
nothing_told (ends.Marked pages) = refl
nothing_told (ends.Written wrote lost) = refl
nothing_told (ends.Budget wrote lost) = refl
nothing_told (ends.NoBlock wrote lost) = refl
nothing_told ends.NoBacking = refl
nothing_told (ends.WriteEio fault wrote lost) = refl
nothing_told (ends.Compacted moves frames) = refl

read_told : (start count : ℕ) (end : OpEnd) (got : List (List ℕ))
    → shown (Read start count) end got ≡ told_by end got
read_told start count ends.Ok got = refl
read_told start count ends.Range got = refl
read_told start count (ends.AtLimit pages need limit done) got = refl
read_told start count (ends.NoMemory done) got = refl
read_told start count (ends.Eio fault done) got = refl
read_told start count (ends.Marked pages) got = refl
read_told start count (ends.Written wrote lost) got = refl
read_told start count (ends.Budget wrote lost) got = refl
read_told start count (ends.NoBlock wrote lost) got = refl
read_told start count ends.NoBacking got = refl
read_told start count (ends.WriteEio fault wrote lost) got = refl
read_told start count (ends.Compacted moves frames) got = refl

-- what is told of an operation is what its reply shows
told_is : (size : ℕ) (pl : Place) (k : ℕ) (op : Op) (r : Reply) → ReplyFits size pl k op r
    → shown op r.end r.sectors.items ≡ told_by r.end r.sectors.items
told_is size pl k (Write start count stuff) r fits =
    sym (ap (told_by r.end) fits ∙ nothing_told r.end)
told_is size pl k (Read start count) r fits = read_told start count r.end r.sectors.items
told_is size pl k (Discard start count) r fits =
    sym (ap (told_by r.end) fits ∙ nothing_told r.end)
told_is size pl k (Idle age) r fits = sym (ap (told_by r.end) fits ∙ nothing_told r.end)
told_is size pl k (Writeback mode) r fits = sym (ap (told_by r.end) fits ∙ nothing_told r.end)
told_is size pl k Compact r fits = sym (ap (told_by r.end) fits ∙ nothing_told r.end)

each_reply : {D : Type 0} (t : Terms) (backed : Bool) (ops : List Op) (w : Worker D) (done : List Done)
    → IsFit t backed ops w → Keeps backed ops w done → Each backed done 0 ops w.replies.items
each_reply t backed ops w done fit keeps k op r named there =
    subst (λ (j : ℕ). Replies backed done j op r) (let q : k ≡ 0 + k = omega arith in q)
    (record {
      end = keeps.ends k op r named there;
      shows = told_is t.size w.place k op r (fit.reads k op r named there);
      got = keeps.sectors k r there;
    })

module _ (t : Terms) (backed : Bool) where
  less_fit : {D : Type 0} (ops : List Op) (more : List (List Op)) (w : Worker D) (ws : List (Worker D))
      → AreFit t backed (ops ∷ more) (w ∷ ws) → AreFit t backed more ws
  less_fit ops more w ws fit = record {
    count = (let q = fit.count in omega arith);
    each = λ a os v e g. fit.each (suc a) os v e g;
  }

  less_kept : {D : Type 0} (ops : List Op) (more : List (List Op)) (w : Worker D) (ws : List (Worker D))
      (d : List Done) (ds : List (List Done))
      → AreKept backed (ops ∷ more) (w ∷ ws) (d ∷ ds) → AreKept backed more ws ds
  less_kept ops more w ws d ds kept = record {
    count = (let q = kept.count in omega arith);
    each = λ a os v x n e g. kept.each (suc a) os v x n e g;
  }

  pub all_ends : {D : Type 0} (actors : List (List Op)) (ws : List (Worker D)) (dones : List (List Done))
      → AreFit t backed actors ws
      → AreKept backed actors ws dones → ends_each backed actors dones ≡ ends_shown ws
  all_ends [] [] ds fit kept = refl
  all_ends [] (w ∷ ws) ds fit kept = absurd (let q : suc (length ws) ≡ 0 = fit.count in
      let none : ⊥ = omega arith in none)
  all_ends (ops ∷ more) [] ds fit kept = absurd (let q : 0 ≡ suc (length more) = fit.count in
      let none : ⊥ = omega arith in none)
  all_ends (ops ∷ more) (w ∷ ws) [] fit kept = absurd (let q : 0 ≡ suc (length ws) = kept.count in
      let none : ⊥ = omega arith in none)
  all_ends (ops ∷ more) (w ∷ ws) (d ∷ ds) fit kept =
      let f = fit.each 0 ops w refl refl in
      λ i. ends_are backed d 0 ops w.replies.items f.replies
      (each_reply t backed ops w d f (kept.each 0 ops w d refl refl refl)) i
      ∷ all_ends more ws ds (less_fit ops more w ws fit) (less_kept ops more w ws d ds kept) i

  pub all_told : {D : Type 0} (actors : List (List Op)) (ws : List (Worker D)) (dones : List (List Done))
      → AreFit t backed actors ws
      → AreKept backed actors ws dones → told_each actors dones ≡ sectors_shown ws
  all_told [] [] ds fit kept = refl
  all_told [] (w ∷ ws) ds fit kept = absurd (let q : suc (length ws) ≡ 0 = fit.count in
      let none : ⊥ = omega arith in none)
  all_told (ops ∷ more) [] ds fit kept = absurd (let q : 0 ≡ suc (length more) = fit.count in
      let none : ⊥ = omega arith in none)
  all_told (ops ∷ more) (w ∷ ws) [] fit kept = absurd (let q : 0 ≡ suc (length ws) = kept.count in
      let none : ⊥ = omega arith in none)
  all_told (ops ∷ more) (w ∷ ws) (d ∷ ds) fit kept =
      let f = fit.each 0 ops w refl refl in
      λ i. told_are backed d 0 ops w.replies.items f.replies
      (each_reply t backed ops w d f (kept.each 0 ops w d refl refl refl)) i
      ∷ all_told more ws ds (less_fit ops more w ws fit) (less_kept ops more w ws d ds kept) i

  -- the histories of the workers' locals are what is over
  histories_are : {D : Type 0} (actors : List (List Op)) (ws : List (Worker D)) (dones : List (List Done))
      → length ws ≡ length actors
      → length dones ≡ length ws → histories (heres t backed actors ws dones) ≡ dones
  histories_are [] [] [] e f = refl
  histories_are [] [] (d ∷ ds) e f =
      absurd (let q : suc (length ds) ≡ 0 = f in let none : ⊥ = omega arith in none)
  histories_are [] (w ∷ ws) ds e f =
      absurd (let q : suc (length ws) ≡ 0 = e in let none : ⊥ = omega arith in none)
  histories_are (x ∷ xs) [] ds e f =
      absurd (let q : 0 ≡ suc (length xs) = e in let none : ⊥ = omega arith in none)
  histories_are (x ∷ xs) (w ∷ ws) [] e f =
      absurd (let q : 0 ≡ suc (length ws) = f in let none : ⊥ = omega arith in none)
  histories_are (x ∷ xs) (w ∷ ws) (d ∷ ds) e f =
      ap (λ (hs : List (List Done)). d ∷ hs) (histories_are xs ws ds (omega arith) (omega arith))

  -- what the world and its phase show is what the machine prints
  pub shows_lines : {D : Type 0} (actors : List (List Op)) (cells : List (Option DiskHeld)) (ws : List (Worker D))
      (dones : List (List Done)) → AreFit t backed actors ws → AreKept backed actors ws dones
      → phase_lines (ends_shown ws) (sectors_shown ws) (orders_of t.size cells)
      ≡ printed t.size backed actors (state t backed actors cells ws dones)
  shows_lines actors cells ws dones fit kept =
      let same = histories_are actors ws dones fit.count kept.count in
      let es = ap (ends_each backed actors) same ∙ all_ends actors ws dones fit kept in
      let told = ap (told_each actors) same ∙ all_told actors ws dones fit kept in
      sym (λ i. phase_lines (es i) (told i) (orders_of t.size cells))
