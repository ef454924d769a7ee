-- No state with the joint rule is stuck, and each event leaves fewer.
use Rattle.std.proofs.Common.{◌≡◌, ◌≢◌, ℕ, zero, suc, ◌+◌, ◌-◌, ◌<◌, ◌≤◌, Bool, List, [], ◌∷◌, ◌++◌, length, Option, Some, slice_get, sym, refl, ap, ◌∙◌, subst, arith, inl, inr, ⊎_elim, append_assoc, add-one}
use Rattle.std.specs.Prelude.{replicate, take}
use Rattle.std.specs.List.{range_with_len}
use Rattle.std.proofs.lemmas.List.{append-nil, replicate_more, replicate-append-replicate}
use Rattle.std.proofs.lemmas.Option.{slice_get_within}
use mathlib.Core.Logic.{dite}
use native.Mathlib.Decide.{ℕ_discrete}
use Rattle.zr_base.specs.declared.op.Op.{Op}
use Rattle.zr_base.specs.declared.op.Turns.{Turns as By}
use Rattle.call_history.specs.declared.part.Done.{Done}
use Rattle.lock_row.specs.declared.names.LockNo.{LockNo}
use Rattle.lock_row.specs.declared.names.Plan.TheVariants.{Finished, Take, Give}
use Rattle.lock_row.specs.declared.names.State.{State}
use Rattle.lock_row.specs.Machine.{missed}
use Rattle.lock_row.specs.Totals.{locals_sum}
use Rattle.lock_row.specs.Laws.{SumMoves}
use Rattle.page_steps.specs.Steps.{Terms, DiskHeld, Here, spot}
use Rattle.actor_steps.specs.declared.worker.Worker.{Worker}
use Rattle.actor_steps.specs.declared.worker.Turn.{Turn as WasTurn}
use Rattle.actor_steps.specs.declared.worker.Turn.TheVariants as turn
use Rattle.actor_steps.specs.Workers.{here}
use Rattle.joint_rule.specs.Begins.{Begin, terms}
use Rattle.joint_rule.specs.Laws.{TurnKeepsRule, CanMove, takes, gives, NobodyWaitsForever}
use Rattle.zr_core.specs.Machines.{OneTurn, Turns, IsReached, AllFinished, rounds_of}
use Rattle.zr_core.specs.States.{heres, state, Playing, state_of, HasKept, CanGoOn, HasRule, IsReachedFrom, TurnIs, TurnsOnce}
use Rattle.zr_core.specs.Runs.{turns_of, Plays, RunsOut, IsBusy, AllOver, left_by, all_left, nothing_over, left_of, AreFew, IsFree, Round, RoundTo}
use Rattle.zr_core.proofs.Fewer.{AllFew, count_same, of_here}
use Rattle.zr_core.proofs.Falls.{falls, free_falls}
use Rattle.zr_core.proofs.Lists.{there_is}
use Rattle.zr_core.proofs.Machines.{run_on, run_both, rule_run}
use Rattle.zr_core.proofs.Places.{no_todo, some_todo}
use Rattle.zr_core.proofs.States.{heres_get, no_plan}
use Rattle.zr_core.proofs.Worlds.{one_turn, of_on, ruled_by}

pub round_none : (t : Terms) (start : State DiskHeld) → Round t start start 0
round_none t start = inr (refl, (λ f free. omega arith))

module _ (sums : SumMoves DiskHeld) (t : Terms) where
  -- ---- a round

  pub round_more : (start now next : State DiskHeld) (i : ℕ) → AreFew t.size now
      → Round t start now i → OneTurn t i now next → Round t start next (i + 1)
  round_more start now next i few (inl less) e =
      inl (⊎_elim (λ same. let q : all_left t.size next ≡ all_left t.size now =
      ap (all_left t.size) same in omega arith)
      (λ fell. omega arith) (falls sums t i now next few e))
  round_more start now next i few (inr r) e =
      let base : all_left t.size now ≡ all_left t.size start = ap (all_left t.size) r.0 in ⊎_elim
      (λ same. inr (
        same ∙ r.0,
        λ f free. dite (ℕ_discrete f i)
            (λ is. absurd
            (let g : IsFree t now i =
            subst (λ (p : State DiskHeld × ℕ). IsFree t p.0 p.1) (λ k. (sym r.0 k, is k)) free in
            let h = free_falls sums t i now next few g e in
            let q : all_left t.size next ≡ all_left t.size now = ap (all_left t.size) same in
            let none : ⊥ = omega arith in none))
            (λ ne. let h = r.1 f free in omega arith),
      ))
      (λ fell. inl (omega arith))
      (falls sums t i now next few e)

  pub round_falls : (start now : State DiskHeld) (n : ℕ) → length start.locals ≤ n → (f : ℕ)
      → IsFree t start f
      → Round t start now n → all_left t.size now < all_left t.size start
  round_falls start now n many f free (inl less) = less
  round_falls start now n many f free (inr r) =
      absurd (let b = slice_get_within start.locals f free.0 free.1 in
      let h = r.1 f free in let none : ⊥ = omega arith in none)

-- ---- workers

-- what is left doesn't depend on what is over
sum_same : {D : Type 0} (n : ℕ) (t : Terms) (backed : Bool) (actors : List (List Op))
    (ws : List (Worker D)) (dones : List (List Done)) → length dones ≡ length ws
    → locals_sum (left_by t.size n) (heres t backed actors ws dones)
    ≡ locals_sum (left_by t.size n) (heres t backed actors ws (nothing_over ws))
sum_same n t backed [] ws ds e = refl
sum_same n t backed (ops ∷ more) [] ds e = refl
sum_same n t backed (ops ∷ more) (w ∷ ws) [] e = absurd (let q : 0 ≡ suc (length ws) = e in
    let none : ⊥ = omega arith in none)
sum_same n t backed (ops ∷ more) (w ∷ ws) (d ∷ ds) e =
    ap (λ (k : ℕ). left_by t.size n (here t.size backed ops w d) + k) (sum_same n t backed more ws ds (omega arith))

pub left_same : {D : Type 0} (x : Playing D) (dones : List (List Done)) → length dones ≡ length x.workers
    → all_left x.terms.size (state_of x dones) ≡ left_of x
left_same x dones e =
    sum_same (x.terms.size + length (heres x.terms x.backed x.actors x.workers dones)) x.terms x.backed
    x.actors x.workers dones e
    ∙ ap (λ (k : ℕ). locals_sum (left_by x.terms.size (x.terms.size + k))
    (heres x.terms x.backed x.actors x.workers (nothing_over x.workers)))
    (count_same x.terms x.backed x.actors x.workers dones e)

pub heres_length : {D : Type 0} (t : Terms) (backed : Bool) (actors : List (List Op)) (ws : List (Worker D))
    (dones : List (List Done))
    → length (heres t backed actors ws dones) ≤ length actors
heres_length t backed [] ws ds = omega arith
heres_length t backed (ops ∷ more) [] ds = omega arith
heres_length t backed (ops ∷ more) (w ∷ ws) [] = omega arith
heres_length t backed (ops ∷ more) (w ∷ ws) (d ∷ ds) = let q = heres_length t backed more ws ds in
    omega arith

-- an actor that can move is free
may_move : (g : Begin) (w : State DiskHeld) → CanMove g w → (f : ℕ) × IsFree (terms g) w f
may_move g w (takes a l k v who what home) = (
  a,
  (
    l,
    who,
    (λ e. let q : Take k ≡ Finished = sym what ∙ e in cc),
    λ m e. (
      v,
      ap (λ (n : LockNo). slice_get w.row (spot g.given.size n))
          (let q : Take m ≡ Take k = sym e ∙ what in let r : m ≡ k = cc in r)
          ∙ home,
    ),
  ),
)
may_move g w (gives a l k who what out) = (
  a,
  (
    l,
    who,
    (λ e. let q : Give k ≡ Finished = sym what ∙ e in cc),
    λ m e. absurd (let q : Give k ≡ Take m = sym what ∙ e in cc),
  ),
)

module _ {D : Type 0} (free : NobodyWaitsForever) (x : Playing D) (can : CanGoOn x) (busy : IsBusy x.actors x.workers)
  where
    -- the rule, since there is an actor
    pub rule : (g : Begin) × HasRule g x
    rule = ruled_by x busy.actor busy.ops can.ruled busy.named

    -- the busy actor isn't finished, so some actor is free
    pub busy_free : (f : ℕ) × IsFree x.terms (state_of x rule.1.dones) f
    busy_free =
        let g = rule.0 in
        let j = rule.1 in
        let s = state_of x j.dones in
        let done = there_is j.dones busy.actor (let n = j.kept.count in
        let q = slice_get_within x.workers busy.actor busy.worker busy.there in omega arith) in
        let is_fit = can.fit.each busy.actor busy.ops busy.worker busy.named busy.there in
        let who = heres_get x.terms x.backed x.actors x.workers j.dones busy.actor busy.ops busy.worker done.0
        busy.named busy.there done.1 in
        let l = here x.terms.size x.backed busy.ops busy.worker done.0 in
        let f = may_move g s (free g s busy.actor l j.of.proper j.rule who
        (λ e. some_todo x.terms.size x.backed busy.ops busy.worker.place is_fit.settled busy.more
        (no_plan (terms g) l e))) in
        (f.0, subst (λ (t : Terms). IsFree t s f.0) j.of.goes_by f.1)

    -- a whole round leaves fewer events
    pub round_left : SumMoves DiskHeld → (y : Playing D) → y.terms ≡ x.terms → y.actors ≡ x.actors
        → (n : ℕ)
        → length x.actors ≤ n → RoundTo (state_of x rule.1.dones) y n
        → left_of y < left_of x
    round_left sums y same ops n many r =
        let f = busy_free in
        let j = rule.1 in
        let less = round_falls sums x.terms (state_of x j.dones) (state_of y r.0) n
        (let q = heres_length x.terms x.backed x.actors x.workers j.dones in omega arith) f.0 f.1
        (subst (λ (t : Terms). Round t (state_of x j.dones) (state_of y r.0) n) same r.3) in
        let a = left_same x j.dones j.kept.count in
        let b : all_left x.terms.size (state_of y r.0) ≡ left_of y =
        ap (λ (u : Terms). all_left u.size (state_of y r.0)) (sym same)
        ∙ left_same y r.0 r.1.count in omega arith

-- where all workers are past their operations, all actors are finished
pub all_finished : {D : Type 0} (t : Terms) (backed : Bool) (actors : List (List Op)) (cells : List (Option DiskHeld))
    (ws : List (Worker D)) (dones : List (List Done)) → AllOver actors ws
    → AllFinished (state t backed actors cells ws dones)
all_finished t backed actors cells ws dones over a l who =
    let x = of_here t backed actors ws dones a l who in
    subst (λ (m : Here). m.todo ≡ []) x.4
    (no_todo t.size backed x.1.place.nr x.0 x.1.place.page x.1.place.left (over a x.0 x.1 x.3.0 x.3.1))

-- one more actor that is finished
pub more_over : {D : Type 0} (actors : List (List Op)) (ws : List (Worker D)) (n : ℕ) (ops : List Op) (w : Worker D)
    → slice_get actors n ≡ Some ops → slice_get ws n ≡ Some w → length ops ≤ w.place.nr
    → ((a : ℕ) (os : List Op) (v : Worker D) → a < n → slice_get actors a ≡ Some os
    → slice_get ws a ≡ Some v
    → length os ≤ v.place.nr)
    → (a : ℕ) (os : List Op) (v : Worker D) → a < n + 1 → slice_get actors a ≡ Some os
    → slice_get ws a ≡ Some v
    → length os ≤ v.place.nr
more_over {D} actors ws n ops w named there over before a os v lt e f = dite (ℕ_discrete a n)
    (λ s.
    let p : ops ≡ os =
    (let q : Some ops ≡ Some os = sym named ∙ (ap (slice_get actors) (sym s) ∙ e) in cc) in
    let r : w ≡ v = (let q : Some w ≡ Some v = sym there ∙ (ap (slice_get ws) (sym s) ∙ f) in cc) in
    subst (λ (x : List Op × Worker D). length x.0 ≤ x.1.place.nr) (λ i. (p i, r i)) over)
    (λ ne. before a os v (omega arith) e f)

range_suc : (a n j : ℕ) → a + n ≡ j → range_with_len a (suc n) ≡ range_with_len a n ++ j ∷ []
range_suc a zero j e = ap (λ (k : ℕ). k ∷ []) (let q : a ≡ j = omega arith in q)
range_suc a (suc n) j e = ap (λ (xs : List ℕ). a ∷ xs) (range_suc (a + 1) n j (omega arith))

range_push : (a n j : ℕ) → a + n ≡ j → range_with_len a (n + 1) ≡ range_with_len a n ++ j ∷ []
range_push a n j e = rw add-one (range_suc a n j e)

pub turn_more : {D : Type 0} → SumMoves DiskHeld → (start : State DiskHeld) (x y : Playing D) → y.terms ≡ x.terms
    → (i : ℕ) (t : WasTurn) → AllFew x → RoundTo start x i
    → ((dones : List (List Done)) → HasKept x dones → TurnsOnce i x y t dones)
    → RoundTo start y (i + 1)
turn_more sums start x y same i t few r turn =
    let n = turn r.0 r.1 in
    let once = one_turn x.terms i (state_of x r.0) (state_of y n.0) t n.2 in
    subst (λ (u : Terms). (dones : List (List Done)) × HasKept y dones
    × Turns u (range_with_len 0 (i + 1)) start (state_of y dones)
    × Round u start (state_of y dones) (i + 1)) (sym same) (
      n.0,
      n.1,
      subst (λ (ts : List ℕ). Turns x.terms ts start (state_of y n.0))
          (sym (range_push 0 i i (omega arith)))
          (run_on x.terms (range_with_len 0 i) i start (state_of x r.0) (state_of y n.0) r.2 once),
      round_more sums x.terms start (state_of x r.0) (state_of y n.0) i (few r.0 r.1) r.3 once,
    )

-- ---- turns after turns

pub plays_none : {D : Type 0} (x : Playing D) → CanGoOn x → Plays [] x x
plays_none x can = record {
  same = refl;
  limit = refl;
  backed = refl;
  spare = refl;
  can = can;
  goes = λ dones kept. (dones, kept, refl);
}

pub plays_on : {D : Type 0} (xs ys : List ℕ) (x y z : Playing D) → Plays xs x y → Plays ys y z
    → Plays (xs ++ ys) x z
plays_on xs ys x y z first then = record {
  same = then.same ∙ first.same;
  limit = then.limit ∙ first.limit;
  backed = then.backed ∙ first.backed;
  spare = then.spare ∙ first.spare;
  can = then.can;
  goes = λ dones kept.
      let f = first.goes dones kept in
      let t = then.goes f.0 f.1 in (
        t.0,
        t.1,
        run_both x.terms xs ys (state_of x dones) (state_of y f.0) (state_of z t.0) f.2
            (subst (λ (u : Terms). Turns u ys (state_of y f.0) (state_of z t.0)) first.same t.2),
      );
}

-- one turn
pub plays_once : {D : Type 0} (a : ℕ) (x y : Playing D) (t : WasTurn) → y.terms ≡ x.terms
    → y.limit ≡ x.limit → y.backed ≡ x.backed → y.spare ≡ x.spare → CanGoOn y
    → ((dones : List (List Done)) → HasKept x dones → TurnsOnce a x y t dones)
    → Plays (a ∷ []) x y
plays_once a x y t same limit backed spare can turn = record {
  same = same;
  limit = limit;
  backed = backed;
  spare = spare;
  can = can;
  goes = λ dones kept. let n = turn dones kept in
      (n.0, n.1, (state_of y n.0, one_turn x.terms a _ _ t n.2, refl));
}

rounds_push : (n r : ℕ) → rounds_of n r ++ range_with_len 0 n ≡ rounds_of n (suc r)
rounds_push n zero = sym (append-nil (range_with_len 0 n))
rounds_push n (suc r) = append_assoc (range_with_len 0 n) (rounds_of n r) (range_with_len 0 n)
    ∙ ap (λ (xs : List ℕ). range_with_len 0 n ++ xs) (rounds_push n r)

turns_append : (xs : List By) (t : By)
    → turns_of (xs ++ t ∷ []) ≡ turns_of xs ++ replicate t.times t.actor
turns_append [] t = append-nil (replicate t.times t.actor)
turns_append (x ∷ xs) t = ap (λ (ys : List ℕ). replicate x.times x.actor ++ ys) (turns_append xs t)
    ∙ sym (append_assoc (replicate x.times x.actor) (turns_of xs) (replicate t.times t.actor))

-- after a turn that changes nothing, more turns of that actor change nothing
idle : (u : Terms) (k a : ℕ) (w n : State DiskHeld) (t : WasTurn) → t ≢ turn.Went → TurnIs u a w n t
    → Turns u (replicate k a) w n
idle u k a w n turn.Went not is = absurd (not refl)
idle u zero a w n (turn.Waited m) not is = is.4
idle u zero a w n turn.Finished not is = is.3
idle u (suc k) a w n (turn.Waited m) not is =
    (w, missed is.0 m is.1 is.2 is.3 refl, idle u k a w n (turn.Waited m) not is)
idle u (suc k) a w n turn.Finished not is =
    (w, one_turn u a w w turn.Finished (is.0, is.1, is.2, refl), idle u k a w n turn.Finished not is)

pub plays_idle : {D : Type 0} (k a : ℕ) (x y : Playing D) (t : WasTurn) → t ≢ turn.Went → y.terms ≡ x.terms
    → y.limit ≡ x.limit → y.backed ≡ x.backed → y.spare ≡ x.spare → CanGoOn y
    → ((dones : List (List Done)) → HasKept x dones → TurnsOnce a x y t dones)
    → Plays (replicate k a) x y
plays_idle k a x y t not same limit backed spare can once = record {
  same = same;
  limit = limit;
  backed = backed;
  spare = spare;
  can = can;
  goes = λ dones kept. let n = once dones kept in (n.0, n.1, idle x.terms k a _ _ t not n.2);
}

module _ {D : Type 0} (x y z : Playing D) where
  pub then_once : (n a : ℕ) → Plays (replicate n a) x y → Plays (a ∷ []) y z
      → Plays (replicate (n + 1) a) x z
  then_once n a before more =
      subst (λ (ts : List ℕ). Plays ts x z) (replicate_more n a)
      (plays_on (replicate n a) (a ∷ []) x y z before more)

  -- all turns of an actor, where the last of those made changed nothing
  pub then_idle : (n m a : ℕ) → n ≤ m → Plays (replicate n a) x y
      → ((k : ℕ) → Plays (replicate k a) y z)
      → Plays (replicate m a) x z
  then_idle n m a le before more =
      subst (λ (ts : List ℕ). Plays ts x z)
      (replicate-append-replicate n (m - n) a
      ∙ ap (λ (j : ℕ). replicate j a) (let q : n + (m - n) ≡ m = omega arith in q))
      (plays_on (replicate n a) (replicate (m - n) a) x y z before (more (m - n)))

  pub then_turn : (i : ℕ) → Plays (range_with_len 0 i) x y → Plays (i ∷ []) y z
      → Plays (range_with_len 0 (i + 1)) x z
  then_turn i before more =
      subst (λ (ts : List ℕ). Plays ts x z) (sym (range_push 0 i i (omega arith)))
      (plays_on (range_with_len 0 i) (i ∷ []) x y z before more)

  pub then_schedule : (schedule : List By) (i : ℕ) (t : By) → slice_get schedule i ≡ Some t
      → Plays (turns_of (take i schedule)) x y → Plays (replicate t.times t.actor) y z
      → Plays (turns_of (take (i + 1) schedule)) x z
  then_schedule schedule i t at before more =
      subst (λ (ts : List ℕ). Plays ts x z)
      (sym (ap turns_of (take_push schedule i at) ∙ turns_append (take i schedule) t))
      (plays_on (turns_of (take i schedule)) (replicate t.times t.actor) x y z before more) where
        take_suc : (xs : List By) (i : ℕ) → slice_get xs i ≡ Some t
            → take (suc i) xs ≡ take i xs ++ t ∷ []
        take_suc [] i e = absurd (cc)
        take_suc (x ∷ xs) zero e = let q : x ≡ t = (let h : Some x ≡ Some t = e in cc) in
            ap (λ (y : By). y ∷ []) q
        take_suc (x ∷ xs) (suc i) e = ap (λ (ys : List By). x ∷ ys) (take_suc xs i e)

        take_push : (xs : List By) (i : ℕ) → slice_get xs i ≡ Some t
            → take (i + 1) xs ≡ take i xs ++ t ∷ []
        take_push xs i e = ap (λ (k : ℕ). take k xs) (let q : i + 1 ≡ suc i = omega arith in q)
            ∙ take_suc xs i e

  pub then_round : (n r : ℕ) → Plays (rounds_of n r) x y → Plays (range_with_len 0 n) y z
      → Plays (rounds_of n (suc r)) x z
  then_round n r before more =
      subst (λ (ts : List ℕ). Plays ts x z) (rounds_push n r)
      (plays_on (rounds_of n r) (range_with_len 0 n) x y z before more)

-- ---- what turns keep

module _ {D : Type 0} (xs : List ℕ) (x y : Playing D) (ops : y.actors ≡ x.actors) (plays : Plays xs x y) where
  pub plays_rule : TurnKeepsRule → (g : Begin) → HasRule g x → HasRule g y
  plays_rule keeps g j = let n = plays.goes j.dones j.kept in record {
    of = of_on x y plays.same plays.backed ops g j.of;
    dones = n.0;
    kept = n.1;
    rule = rule_run keeps g j.of.proper xs (state_of x j.dones) (state_of y n.0) j.rule
        (subst (λ (u : Terms). Turns u xs (state_of x j.dones) (state_of y n.0)) (sym j.of.goes_by)
        n.2);
  }

  pub plays_reached : (start : State DiskHeld) → IsReachedFrom start x → IsReachedFrom start y
  plays_reached start r = let n = plays.goes r.dones r.kept in record {
    dones = n.0;
    kept = n.1;
    reached = subst (λ (u : Terms). IsReached u start (state_of y n.0)) (sym plays.same) (
      r.reached.0
          ++ xs,
      run_both x.terms r.reached.0 xs start (state_of x r.dones) (state_of y n.0) r.reached.1 n.2,
    );
  }

-- a schedule, and then rounds until all actors are finished
pub runs_out : {D : Type 0} (x y : Playing D) (turns : List ℕ) (rounds : ℕ)
    → Plays (turns ++ rounds_of (length x.actors) rounds) x y → AllOver y.actors y.workers
    → (dones : List (List Done)) → HasKept x dones → RunsOut turns x y dones
runs_out x y turns rounds plays over dones kept =
    let n = plays.goes dones kept in
    (rounds, n.0, n.1, n.2, all_finished y.terms y.backed y.actors y.cells y.workers n.0 over)
