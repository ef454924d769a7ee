-- Replies and workers before the first turn.
use Rattle.std.proofs.Common.{◌≡◌, ℕ, zero, suc, ◌+◌, ◌^◌, ◌<◌, ◌≤◌, Bool, cond, List, [], ◌∷◌, ◌++◌, length, take, Some, None, slice_get, refl, sym, ap, ◌∙◌, subst, arith}
use Rattle.std.proofs.Math.Seq.{take-suc}
use Rattle.std.proofs.lemmas.List.{length_push, length-take-le}
use Rattle.std.proofs.lemmas.Option.{slice_get_within, get_or_from_slice_get}
use Rattle.zr_base.specs.declared.op.Op.{Op}
use Rattle.zr_base.specs.declared.op.Op.TheVariants.{Write, Read, Discard, Idle, Writeback, Compact}
use Rattle.call_history.specs.Parts.{program}
use Rattle.page_steps.specs.Steps.{Terms}
use Rattle.actor_steps.specs.declared.place.Place.{Place}
use Rattle.actor_steps.specs.declared.reply.Reply.{Reply}
use Rattle.actor_steps.specs.declared.worker.Worker.{Worker}
use Rattle.actor_steps.specs.Places.{AreRequests, operations, todo_at, IsPlace, IsSettled}
use Rattle.actor_steps.specs.Workers.{HasCall, ReplyFits}
use Rattle.actor_steps.proofs.Places.{there_is}
use Rattle.actor_steps.specs.Preparing.{IsNewReply, AreNewReplies, IsNewWorker, AreNewWorkers}

-- ---- lists side by side

take_more : {A : Type 0} (xs : List A) (i : ℕ) (x : A) → slice_get xs i ≡ Some x
    → take (suc i) xs ≡ take i xs ++ x ∷ []
take_more xs i x e = take-suc xs i x (slice_get_within xs i x e)
    ∙ ap (λ (y : _). take i xs ++ y ∷ []) (get_or_from_slice_get xs i x x e)

each_more : {A B : Type 0} (P : ℕ → A → B → Type 0) (xs : List A) (ys : List B) (x : A) (y : B)
    → length ys ≡ length xs
    → ((k : ℕ) (a : A) (b : B) → slice_get xs k ≡ Some a → slice_get ys k ≡ Some b → P k a b)
    → P (length xs) x y
    → (k : ℕ) (a : A) (b : B) → slice_get (xs ++ x ∷ []) k ≡ Some a
    → slice_get (ys ++ y ∷ []) k ≡ Some b
    → P k a b
each_more P [] [] x y e all last zero a b f g =
    let p : x ≡ a = (let q : Some x ≡ Some a = f in cc) in
    let r : y ≡ b = (let q : Some y ≡ Some b = g in cc) in
    subst (λ (c : _ × _). P zero c.0 c.1) (λ i. (p i, r i)) last
each_more P [] [] x y e all last (suc k) a b f g = absurd (cc)
each_more P [] (z ∷ zs) x y e all last k a b f g = absurd (let q : suc (length zs) ≡ 0 = e in
    let none : ⊥ = omega arith in none)
each_more P (z ∷ zs) [] x y e all last k a b f g = absurd (let q : 0 ≡ suc (length zs) = e in
    let none : ⊥ = omega arith in none)
each_more P (z ∷ zs) (w ∷ ws) x y e all last zero a b f g = all zero a b f g
each_more P (z ∷ zs) (w ∷ ws) x y e all last (suc k) a b f g =
    each_more (λ j. P (suc j)) zs ws x y (omega arith)
    (λ j c d h i. all (suc j) c d h i) last k a b f g

-- ---- replies

pub reply_more : (size : ℕ) (backed : Bool) (ops : List Op) (i : ℕ) (op : Op) (rs rs' : List Reply) (r : Reply)
    → slice_get ops i ≡ Some op → rs' ≡ rs ++ r ∷ [] → AreNewReplies size backed (take i ops) rs
    → IsNewReply size backed op r
    → AreNewReplies size backed (take (i + 1) ops) rs'
reply_more size backed ops i op rs rs' r at more old new =
    subst (λ (c : List Op × List Reply). AreNewReplies size backed c.0 c.1)
    (λ j. (
      (sym
          (ap (λ (n : ℕ). take n ops) (let q : i + 1 ≡ suc i = omega arith in q)
          ∙ take_more ops i op at)) j,
      sym more j,
    )) record {
      count = length_push rs r ∙ ap (λ (n : ℕ). n + 1) old.count
          ∙ sym (length_push (take i ops) op);
      each = each_more (λ k o s. IsNewReply size backed o s) (take i ops) rs op r old.count old.each new;
    }

-- ---- workers

new_fits : (size : ℕ) (backed : Bool) (pl : Place) (k : ℕ) (op : Op) (r : Reply)
    → IsNewReply size backed op r
    → ReplyFits size pl k op r
new_fits size backed pl k (Write start count stuff) r n = n.none
new_fits size backed pl k (Discard start count) r n = n.none
new_fits size backed pl k (Idle age) r n = n.none
new_fits size backed pl k (Writeback mode) r n = n.none
new_fits size backed pl k Compact r n = n.none
new_fits size backed pl k (Read start count) r n = (
  record {
    later = λ lt inside. let q = n.room in let l = n.len in
        let s = ap (λ (b : Bool). cond b 0 count) inside in
        omega arith;
    here = λ e inside. let q = n.room in let l = n.len in
        let s = ap (λ (b : Bool). cond b 0 count) inside in
        omega arith;
  },
  λ beyond. n.none,
)

pub is_new_worker : {D : Type 0} (size : ℕ) (backed : Bool) (chain actor : ℕ) (ops : List Op) (w : Worker D) → 0 < size
    → AreRequests ops
    → length ops < 2 ^ 32 → w.actor ≡ actor → w.call ≡ None → w.carried ≡ 0
    → w.scratch.table ≡ chain → chain ≤ 16 → IsPlace ops w.place → IsSettled size backed ops w.place
    → todo_at size backed ops w.place ≡ program size backed 0 ops
    → AreNewReplies size backed ops w.replies.items → IsNewWorker size backed chain actor ops w
is_new_worker size backed chain actor ops w some requests few who at carried table most place settled todo new =
    record {
      who = who;
      at = at;
      todo = todo;
      fit = λ now. let t : Terms = record { size = size; chain = chain; clock = now } in record {
        some = some;
        requests = requests;
        few = few;
        place = place;
        settled = settled;
        chain = table;
        most = most;
        carried = omega arith;
        call = subst (HasCall t ops w) (sym at) tt;
        replies = new.count;
        reads = λ k op r e f. new_fits size backed w.place k op r (new.each k op r e f);
      };
      keeps = record {
        ends = λ k op r at f. (new.each k op r at f).end;
        sectors = λ k r f. (reply k r f).1.none;
        count = sym carried;
        carried = tt;
        later = λ k lt. refl;
      };
    } where
      reply : (k : ℕ) (r : Reply) → slice_get w.replies.items k ≡ Some r
          → (op : Op) × IsNewReply size backed op r
      reply k r f =
          let op = there_is ops k (let q = slice_get_within w.replies.items k r f in
          let n = new.count in omega arith) in (op.0, new.each k op.0 r op.1 f)

pub worker_more : {D : Type 0} (size : ℕ) (backed : Bool) (chain : ℕ) (actors : List (List Op)) (i actor : ℕ) (ops : List Op)
    (ws ws' : List (Worker D)) (w : Worker D) → actor ≡ i → slice_get actors i ≡ Some ops
    → i ≤ length actors → ws' ≡ ws ++ w ∷ [] → AreNewWorkers size backed chain (take i actors) ws
    → IsNewWorker size backed chain actor ops w
    → AreNewWorkers size backed chain (take (i + 1) actors) ws'
worker_more {D} size backed chain actors i actor ops ws ws' w same at le more old new =
    subst (λ (c : List (List Op) × List (Worker D)). AreNewWorkers size backed chain c.0 c.1)
    (λ j. (
      (sym
          (ap (λ (n : ℕ). take n actors) (let q : i + 1 ≡ suc i = omega arith in q)
          ∙ take_more actors i ops at)) j,
      sym more j,
    )) record {
      count = length_push ws w ∙ ap (λ (n : ℕ). n + 1) old.count
          ∙ sym (length_push (take i actors) ops);
      each = each_more (IsNewWorker size backed chain) (take i actors) ws ops w old.count old.each
          (subst (λ (a : ℕ). IsNewWorker size backed chain a ops w)
          (same ∙ sym (length-take-le i actors le)) new);
    }

pub few_of : (actors : List (List Op)) (a : ℕ) (ops : List Op) → slice_get actors a ≡ Some ops
    → length ops ≤ operations actors
few_of [] a ops e = absurd (cc)
few_of (x ∷ xs) zero ops e = let q : x ≡ ops = (let h : Some x ≡ Some ops = e in cc) in
    let s = ap (λ (os : List Op). length os) q in omega arith
few_of (x ∷ xs) (suc a) ops e = let q = few_of xs a ops e in omega arith
