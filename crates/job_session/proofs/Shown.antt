-- What the workers of a phase show of their operations.
use Rattle.std.proofs.Common.{◌≡◌, ℕ, zero, suc, ◌<◌, ◌≤◌, ◌^◌, Bool, List, [], ◌∷◌, length, map, get_or, Some, slice_get, refl, sym, ap, ◌∙◌, subst, arith}
use Rattle.std.specs.Option.{IsSome}
use Rattle.std.proofs.lemmas.List.{get_or-map, length-map}
use Rattle.std.proofs.lemmas.Option.{get_or_from_slice_get, slice_get_read, slice_get_within}
use Rattle.zr_base.specs.declared.op.Op.{Op}
use Rattle.page_steps.specs.Steps.{Terms}
use Rattle.actor_steps.specs.declared.reply.Reply.{Reply}
use Rattle.actor_steps.specs.declared.worker.Worker.{Worker}
use Rattle.actor_steps.specs.Workers.{IsFit}
use Rattle.zr_core.specs.Runs.{AllOver}
use Rattle.zr_core.specs.States.{told_by, ends_shown, sectors_shown, of_op, AreFit, HasEnded}
use Rattle.job_session.proofs.Lines.{of_op_is}

module _ {A : Type 0} where
  there_is : (xs : List A) (i : ℕ) → i < length xs → (x : A) × (slice_get xs i ≡ Some x)
  there_is [] i h = absurd (omega arith)
  there_is (x ∷ xs) zero h = (x, refl)
  there_is (x ∷ xs) (suc i) h = there_is xs i (omega arith)

  -- an item of an actor's operation, where the actor has so many
  pub op_there : (all : List (List A)) (actor op : ℕ) → op < length (get_or all actor [])
      → IsSome (of_op all actor op)
  op_there all actor op lt = subst IsSome (sym (of_op_is all actor op
      ∙ (there_is (get_or all actor []) op lt).1)) refl

-- what is shown of a worker's replies
module _ {A D : Type 0} (f : Reply → A) (ws : List (Worker D)) where
  abbrev shown : Worker D → List A
  shown w = map f w.replies.items

  shown_size : (actor : ℕ) (w : Worker D) → slice_get ws actor ≡ Some w
      → length (get_or (map shown ws) actor []) ≡ length w.replies.items
  shown_size actor w there =
      ap length (get_or-map shown ws actor w [] (slice_get_within ws actor w there)
      ∙ ap shown (get_or_from_slice_get ws actor w w there))
      ∙ length-map w.replies.items f

module _ {D : Type 0} (t : Terms) (backed : Bool) (actors : List (List Op)) (ws : List (Worker D))
    (fit : AreFit t backed actors ws) where
  pub ends_count : length (ends_shown ws) ≡ length actors
  ends_count = length-map ws (λ (w : Worker D). map (λ (r : Reply). r.end) w.replies.items)
      ∙ fit.count

  pub sectors_count : length (sectors_shown ws) ≡ length actors
  sectors_count = length-map ws
      (λ (w : Worker D). map (λ (r : Reply). told_by r.end r.sectors.items) w.replies.items)
      ∙ fit.count

  -- an actor, and its operations as they were read
  module _ (actor : ℕ) (mine ops : List Op) (lt : actor < length actors) (is : mine
      ≡ get_or actors actor mine)
      (read : ops ≡ mine) where
    worker : (w : Worker D) × (slice_get ws actor ≡ Some w)
    worker = there_is ws actor (let n : length ws ≡ length actors = fit.count in
        omega (arith, lt, n))

    named : slice_get actors actor ≡ Some mine
    named = slice_get_read actors (length actors) actor mine refl lt is

    is_fit : IsFit t backed mine worker.0
    is_fit = fit.each actor mine worker.0 named worker.1

    same_size : length mine ≡ length ops
    same_size = ap (λ (xs : List Op). length xs) (sym read)

    pub ended : AllOver actors ws → (op : ℕ) → op < length ops → HasEnded ws actor op
    ended over op before =
        let past : length mine ≤ worker.0.place.nr = over actor mine worker.0 named worker.1 in
        (worker.0, worker.1, omega (arith, before, past, same_size))

    pub few_ops : length ops < 2 ^ 32
    few_ops = subst (λ (n : ℕ). n < 2 ^ 32) same_size is_fit.few

    pub ends_size : length (get_or (ends_shown ws) actor []) ≡ length ops
    ends_size = shown_size (λ (r : Reply). r.end) ws actor worker.0 worker.1 ∙ is_fit.replies
        ∙ same_size

    pub sectors_size : length (get_or (sectors_shown ws) actor []) ≡ length ops
    sectors_size = shown_size (λ (r : Reply). told_by r.end r.sectors.items) ws actor worker.0 worker.1
        ∙ is_fit.replies
        ∙ same_size
