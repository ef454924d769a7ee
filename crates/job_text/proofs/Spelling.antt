-- The spelling of a job is read as that job, and what is read as a job is its spelling.
use Rattle.std.proofs.Common.{◌≡◌, ℕ, suc, ◌+◌, ◌<◌, ◌≤◌, true, false, not, ◌&&◌, nat_lt, nat_le, List, [], ◌∷◌, ◌++◌, length, map, Some, None, option_map, refl, sym, ap, ◌∙◌, subst, append_assoc, arith}
use Rattle.std.specs.List.{flat_map, list_all}
use Rattle.std.proofs.lemmas.List.{append-nil, length_push}
use Rattle.std.proofs.lemmas.Bool.{and_from, cond-true, leb-true, le-leb, le-ltb, lt-ltb}
use Rattle.zr_base.specs.declared.op.Op.{Op}
use Rattle.zr_base.specs.declared.op.Turns.{Turns}
use Rattle.zr_base.specs.declared.limits.TheConstants.{MOST_ACTORS}
use Rattle.job_text.specs.declared.limits.TheConstants.{MOST_TURNS}
use Rattle.job_text.specs.declared.job.Attr.{Attr}
use Rattle.job_text.specs.declared.job.Attr.TheVariants.{DiskPages, LimitPages, Backing, WritebackLimit, WritebackLimitEnable, Clock, LowerMax}
use Rattle.job_text.specs.declared.job.Item.{Item}
use Rattle.job_text.specs.declared.job.Item.TheVariants as items
use Rattle.job_text.specs.declared.begun.Begun.{Begun}
use Rattle.job_text.specs.Jobs.{Saying, says_actor, says_operation, says_turns, says_run, actor_sayings, item_sayings, Used, with_attr, with_phase, with_op, with_ops, with_actors, with_turns, with_text, has_turns_left, MayOperate, MayAct, MayTurn, MayRun, is_set_back, KeepsTime, MayFollow}
use Rattle.job_text.specs.Reading.{is_scheduled, all_actors, text_of, fresh, with_actor, with_operation, items_from}
use Rattle.job_text.proofs.Steps.{turns_step}

-- ---- the time

not_back : (u : Used) (attr : Attr) → KeepsTime u attr → is_set_back u attr ≡ false
not_back u (DiskPages pages) keeps = refl
not_back u (LimitPages pages) keeps = refl
not_back u (Backing blocks) keeps = refl
not_back u (WritebackLimit units) keeps = refl
not_back u (WritebackLimitEnable on) keeps = refl
not_back u (Clock seconds) keeps = le-ltb _ _ keeps
not_back u LowerMax keeps = refl

-- ---- what operations leave as it was

ops_keep : (u : Used) (ops : List Op)
    → ((with_ops u ops).disk ≡ u.disk) × ((with_ops u ops).turns ≡ u.turns)
ops_keep u [] = (refl, refl)
ops_keep u (op ∷ ops) = ops_keep (with_op u op) ops

actors_keep : (u : Used) (actors : List (List Op)) → (with_actors u actors).turns ≡ u.turns
actors_keep u [] = refl
actors_keep u (ops ∷ more) = actors_keep (with_ops u ops) more ∙ (ops_keep u ops).1

-- ---- from a job to its spelling

spelled_ops : (u : Used) (begun : Begun) (ops : List Op) (rest : List Saying)
    → is_scheduled begun ≡ false
    → MayOperate u ops
    → items_from u (Some begun) (map says_operation ops ++ rest)
    ≡ items_from (with_ops u ops) (Some (record begun { last = begun.last ++ ops })) rest
spelled_ops u begun [] rest none may =
    ap (λ ops. items_from u (Some (record begun { last = ops })) rest) (sym (append-nil begun.last))
spelled_ops u begun (op ∷ ops) rest none may =
    cond-true _ _ _ (and_from _ _ (ap not none) may.1)
    ∙ spelled_ops (with_op u op) (with_operation begun op) ops rest none may.2
    ∙ ap (λ all. items_from (with_ops (with_op u op) ops) (Some (record begun { last = all })) rest)
    (append_assoc begun.last (op ∷ []) ops)

-- a phase with more actors
abbrev with_more : Begun → List (List Op) → Begun
with_more begun [] = begun
with_more begun (ops ∷ more) =
    with_more (record begun { actors = begun.actors ++ begun.last ∷ []; last = ops }) more

more_actors : (begun : Begun) (more : List (List Op))
    → all_actors (with_more begun more) ≡ all_actors begun ++ more
more_actors begun [] = sym (append-nil (all_actors begun))
more_actors begun (ops ∷ more) =
    more_actors (record begun { actors = begun.actors ++ begun.last ∷ []; last = ops }) more
    ∙ append_assoc (begun.actors ++ begun.last ∷ []) (ops ∷ []) more

more_schedule : (begun : Begun) (more : List (List Op))
    → (with_more begun more).schedule ≡ begun.schedule
more_schedule begun [] = refl
more_schedule begun (ops ∷ more) =
    more_schedule (record begun { actors = begun.actors ++ begun.last ∷ []; last = ops }) more

spelled_actors : (u : Used) (begun : Begun) (actors : List (List Op)) (rest : List Saying)
    → is_scheduled begun ≡ false → u.disk ≡ true
    → length begun.actors + 1 + length actors ≤ MOST_ACTORS → MayAct u actors
    → items_from u (Some begun) (flat_map actor_sayings actors ++ rest)
    ≡ items_from (with_actors u actors) (Some (with_more begun actors)) rest
spelled_actors u begun [] rest none disk few may = refl
spelled_actors u begun (ops ∷ more) rest none disk few may =
    let next = with_actor begun in
    let left : nat_le (length begun.actors + 1 + 1) MOST_ACTORS ≡ true =
    le-leb (length begun.actors + 1 + 1) MOST_ACTORS (omega arith) in
    let fewer : length (begun.actors ++ begun.last ∷ []) + 1 + length more ≤ MOST_ACTORS =
    omega (arith, length_push begun.actors begun.last) in
    ap (λ (xs : List Saying). items_from u (Some begun) (says_actor ∷ xs))
    (append_assoc (map says_operation ops) (flat_map actor_sayings more) rest)
    ∙ cond-true _ _ _ (and_from _ _ (and_from _ _ (ap not none) disk) left)
    ∙ spelled_ops u next ops (flat_map actor_sayings more ++ rest) none may.0
    ∙ spelled_actors (with_ops u ops) (record next { last = ops }) more rest none
    ((ops_keep u ops).0 ∙ disk) fewer may.1

named_all : (actors : ℕ) (turns : List Turns) → MayTurn actors turns
    → list_all (λ t. nat_lt t.actor actors) turns ≡ true
named_all actors [] may = refl
named_all actors (t ∷ ts) may =
    ap (λ b. b && list_all (λ t. nat_lt t.actor actors) ts) (lt-ltb _ _ may.0)
    ∙ named_all actors ts may.3

-- a schedule and its `run`, after a phase's actors
spelled_end : (u : Used) (begun : Begun) (schedule : List Turns) (rest : List Saying)
    → MayTurn (length begun.actors + 1) schedule → u.turns ≤ MOST_TURNS
    → has_turns_left u schedule ≡ true
    → items_from u (Some begun) (map says_turns schedule ++ says_run ∷ rest)
    ≡ option_map (λ later. items.Phase
    (record { actors = all_actors begun; schedule = begun.schedule ++ schedule }) ∷ later)
    (items_from (with_turns u schedule) None rest)
spelled_end u begun schedule rest may fits left =
    turns_step u begun schedule (says_run ∷ rest) fits
    ∙ cond-true _ _ _ (and_from _ _ (named_all (length begun.actors + 1) schedule may) left)

regroup : (a b rest : List Saying)
    → ((a ++ b) ++ says_run ∷ []) ++ rest ≡ a ++ (b ++ says_run ∷ rest)
regroup a b rest = append_assoc (a ++ b) (says_run ∷ []) rest ∙ append_assoc a b (says_run ∷ rest)

spelled_phase : (u : Used) (actors : List (List Op)) (schedule : List Turns) (rest : List Saying)
    → u.turns ≤ MOST_TURNS → MayRun u actors schedule
    → items_from u None (flat_map actor_sayings actors
    ++ (map says_turns schedule ++ says_run ∷ rest))
    ≡ option_map (λ later. items.Phase (record { actors = actors; schedule = schedule }) ∷ later)
    (items_from (with_text u actors schedule) None rest)
spelled_phase u [] [] rest fits may =
    let none : u.turns ≡ u.turns + 0 = omega arith in
    cond-true _ _ _ may.phase_left
    ∙ ap (λ n. option_map (λ later. items.Phase (text_of None) ∷ later)
    (items_from (record (with_phase u) { turns = n }) None rest)) none
spelled_phase u [] (t ∷ ts) rest fits may =
    let n : t.actor < 0 = may.may_turn.0 in absurd (omega arith)
spelled_phase u (ops ∷ more) schedule rest fits may =
    let first : Begun = record { actors = []; last = ops; schedule = [] } in
    let last = map says_turns schedule ++ says_run ∷ rest in
    let v = with_actors (with_phase u) (ops ∷ more) in
    let n : suc (length more) ≤ MOST_ACTORS = may.few_actors in
    let few : 0 + 1 + length more ≤ MOST_ACTORS = omega arith in
    let disk : (with_ops (with_phase u) ops).disk ≡ true =
    (ops_keep (with_phase u) ops).0 ∙ may.has_disk in
    let end = with_more first more in
    let all : all_actors end ≡ ops ∷ more = more_actors first more in
    let number : length end.actors + 1 ≡ length (ops ∷ more) =
    sym (length_push end.actors end.last) ∙ ap length all in
    let P : ℕ → Type 0 = λ n. MayTurn n schedule in
    let keep : v.turns ≡ u.turns = actors_keep (with_phase u) (ops ∷ more) in
    let vfits : v.turns ≤ MOST_TURNS = omega arith in
    ap (λ (xs : List Saying). items_from u None (says_actor ∷ xs))
    (append_assoc (map says_operation ops) (flat_map actor_sayings more) last)
    ∙ cond-true _ _ _ (and_from _ _ may.has_disk may.phase_left)
    ∙ spelled_ops (with_phase u) fresh ops (flat_map actor_sayings more ++ last) refl may.may_act.0
    ∙ spelled_actors (with_ops (with_phase u) ops) first more last refl disk few may.may_act.1
    ∙ spelled_end v end schedule rest (subst P (sym number) may.may_turn) vfits may.turns_left
    ∙ ap (λ actors. option_map
    (λ later. items.Phase (record { actors = actors; schedule = end.schedule ++ schedule }) ∷ later)
    (items_from (with_turns v schedule) None rest)) all
    ∙ ap (λ turns. option_map
    (λ later. items.Phase (record { actors = ops ∷ more; schedule = turns ++ schedule }) ∷ later)
    (items_from (with_turns v schedule) None rest)) (more_schedule first more)

pub spelled_read : (u : Used) (job : List Item) → u.turns ≤ MOST_TURNS → MayFollow u job
    → items_from u None (flat_map item_sayings job) ≡ Some job
spelled_read u [] fits may = refl
spelled_read u (items.Attr attr ∷ more) fits may =
    cond-true _ _ _ (ap not (not_back u attr may.1))
    ∙ ap (option_map (λ later. items.Attr attr ∷ later))
    (spelled_read (with_attr u attr) more fits may.2)
spelled_read u (items.Report report ∷ more) fits may =
    ap (option_map (λ later. items.Report report ∷ later)) (spelled_read u more fits may)
spelled_read u (items.Phase text ∷ more) fits may =
    let left : (with_text u text.actors text.schedule).turns ≤ MOST_TURNS =
    leb-true _ _ may.0.turns_left in
    ap (items_from u None)
    (regroup (flat_map actor_sayings text.actors) (map says_turns text.schedule)
    (flat_map item_sayings more))
    ∙ spelled_phase u text.actors text.schedule (flat_map item_sayings more) fits may.0
    ∙ ap (option_map (λ later. items.Phase text ∷ later))
    (spelled_read (with_text u text.actors text.schedule) more left may.1)
