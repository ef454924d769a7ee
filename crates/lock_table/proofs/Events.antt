-- What an event of the machine keeps of a reached state.
use Rattle.std.proofs.Common.{◌≡◌, ℕ, ◌+◌, List, [], ◌∷◌, ◌++◌, Option, Some, None, slice_get, slice_set, refl, ap, ◌∙◌, subst, arith, length-set}
use Rattle.std.specs.List.{sum_by}
use Rattle.std.proofs.lemmas.List.Sums.{sum_by-append}
use Rattle.lock_row.specs.declared.names.LockNo.{LockNo}
use Rattle.lock_row.specs.declared.names.Local.{Local}
use Rattle.lock_row.specs.declared.names.Plan.TheVariants.{Take, Give}
use Rattle.lock_row.specs.declared.names.State.{State}
use Rattle.lock_row.specs.Rules.{RowRule}
use Rattle.lock_row.specs.Machine.{Turn, taken, given, Run}
use Rattle.lock_row.specs.Totals.{mass, held_sum}
use Rattle.lock_table.specs.Laws.{Laws}
use Rattle.lock_table.specs.Phases.{IsReached}

module _ {V : Type 0} (r : RowRule V) where
  run_on : (turns : List ℕ) (start now next : State V) (a : ℕ)
      → Run r.spot r.plan r.took r.works turns start now
      → Turn r.spot r.plan r.took r.works a now next
      → Run r.spot r.plan r.took r.works (turns ++ a ∷ []) start next
  run_on [] start now next a same t =
      (next, subst (λ w. Turn r.spot r.plan r.took r.works a w next) same t, refl)
  run_on (b ∷ turns) start now next a run t = (run.0, run.1, run_on turns run.0 now next a run.2 t)

  module _ (laws : Laws V) (start now : State V) (n : IsReached r start now) (a : ℕ) (l : Local V)
      (k : LockNo) (who : slice_get now.locals a ≡ Some l) where
    -- the state after an event
    abbrev pub after : Option V → Local V → State V
    after x m = record { row = slice_set now.row (r.spot k) x; locals = slice_set now.locals a m }

    pub reached_taken : (v : V) → r.plan l ≡ Take k → slice_get now.row (r.spot k) ≡ Some (Some v)
        → IsReached r start (after None (r.took l v))
    reached_taken v plan there =
        let m = r.took l v in
        let has : m.held ≡ (k, v) ∷ l.held = r.take_holds l k v plan in
        record {
          may = n.may;
          turns = (
            n.turns.0 ++ a ∷ [],
            run_on n.turns.0 start now _ a n.turns.1
                (taken l k v record { who = who; what = plan; there = there; after = refl }),
          );
          size = length-set now.row (r.spot k) None ∙ n.size;
          actors = length-set now.locals a m ∙ n.actors;
          apart = laws.taken r.spot now a l k v m who there has n.apart;
          tags = λ c.
              let t = laws.keeps r.spot (λ _ u. sum_by c (r.order u)) (λ _. 0) now a l k v m who
              there has refl in
              let s = laws.sums (λ x. sum_by c (r.noted x)) now.locals a l m who in
              let e : sum_by c (r.noted m) ≡ sum_by c (r.noted l) =
              ap (sum_by c) (r.take_notes l k v plan) in
              let old = n.tags c in
              omega arith;
        }

    pub reached_given : (v : V) (m : Local V) → r.plan l ≡ Give k
        → slice_get now.row (r.spot k) ≡ Some None → r.works l v m
        → IsReached r start (after (Some v) m)
    reached_given v m plan there work =
        let g = r.give_notes l k v m plan work in
        record {
          may = n.may;
          turns = (
            n.turns.0 ++ a ∷ [],
            run_on n.turns.0 start now _ a n.turns.1
                (given l k v m record {
                  who = who;
                  what = plan;
                  there = there;
                  work = work;
                  after =
                      refl;
                }),
          );
          size = length-set now.row (r.spot k) (Some v) ∙ n.size;
          actors = length-set now.locals a m ∙ n.actors;
          apart = laws.given r.spot now a l k g.last v m who there g.held n.apart;
          tags = λ c.
              let f : ℕ → V → ℕ = λ _ u. sum_by c (r.order u) in
              let t = laws.moves r.spot f (λ _. 0) now a l k v m who there in
              let s = laws.sums (λ x. sum_by c (r.noted x)) now.locals a l m who in
              let h : mass r.spot f (λ _. 0) l ≡ sum_by c (r.order g.last) + mass r.spot f
              (λ _. 0) m =
              (let q : held_sum r.spot f l.held ≡ sum_by c (r.order g.last) + held_sum r.spot f
              m.held = ap (held_sum r.spot f) g.held in omega arith) in
              let o : sum_by c (r.order v) ≡ sum_by c (r.order g.last) + sum_by c g.tags =
              ap (sum_by c) g.grown ∙ sum_by-append c (r.order g.last) g.tags in
              let e : sum_by c (r.noted m) ≡ sum_by c (r.noted l) + sum_by c g.tags =
              ap (sum_by c) g.noted_so ∙ sum_by-append c (r.noted l) g.tags in
              let old = n.tags c in
              omega arith;
        }
