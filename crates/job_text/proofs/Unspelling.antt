-- What is read as a job is the spelling of that job.
use Rattle.std.proofs.Common.{◌≡◌, ℕ, ◌+◌, ◌<◌, ◌≤◌, Bool, true, false, not, ◌&&◌, ◌==◌, nat_lt, nat_le, cond, List, [], ◌∷◌, ◌++◌, length, map, Option, Some, None, option_map, refl, sym, ap, ◌∙◌, subst, append_assoc, arith}
use Rattle.std.specs.List.{flat_map, AllByRecursion}
use Rattle.std.proofs.lemmas.List.{append-nil, map-append, length_push, nil_from_length}
use Rattle.std.proofs.lemmas.List.Concat.{flat_map-append}
use Rattle.std.proofs.lemmas.Bool.{leb-true, le-leb, ltb-true, ltb-false, eqb-true, and_parts, not-true, not-false}
use Rattle.zr_base.specs.Plain.{IsRequest}
use Rattle.zr_base.specs.declared.op.Op.{Op}
use Rattle.zr_base.specs.declared.op.Turns.{Turns}
use Rattle.zr_base.specs.declared.limits.TheConstants.{MOST_ACTORS}
use Rattle.job_text.specs.declared.limits.TheConstants.{MOST_TURNS}
use Rattle.job_text.specs.declared.job.Attr.{Attr}
use Rattle.job_text.specs.declared.job.Attr.TheVariants.{DiskPages, LimitPages, Backing, WritebackLimit, WritebackLimitEnable, Clock, LowerMax}
use Rattle.job_text.specs.declared.job.Item.{Item}
use Rattle.job_text.specs.declared.job.Item.TheVariants as items
use Rattle.job_text.specs.declared.begun.Begun.{Begun}
use Rattle.job_text.specs.Jobs.{Saying, says_attr, says_report, says_actor, says_operation, says_turns, says_run, actor_sayings, item_sayings, Used, with_attr, with_phase, with_op, with_ops, with_actors, turns_in, with_turns, with_text, has_phase_left, has_left_for, has_turns_left, MayOperate, MayAct, MaySet, MayTurn, HasDisk, MayRun, is_set_back, KeepsTime, MayFollow}
use Rattle.job_text.specs.Reading.{is_scheduled, all_actors, text_of, fresh, with_actor, with_operation, with_schedule, items_from}

-- a saying's values are in their range
abbrev pub IsSaid : Saying → Type 0
IsSaid (says_attr attr) = MaySet attr
IsSaid (says_report report) = Unit {0}
IsSaid says_actor = Unit {0}
IsSaid (says_operation op) = IsRequest op
IsSaid (says_turns turns) = (1 ≤ turns.times) × (turns.times ≤ MOST_TURNS)
IsSaid says_run = Unit {0}

-- ---- the time

keeps_time : (u : Used) (attr : Attr) → is_set_back u attr ≡ false → KeepsTime u attr
keeps_time u (DiskPages pages) off = tt
keeps_time u (LimitPages pages) off = tt
keeps_time u (Backing blocks) off = tt
keeps_time u (WritebackLimit units) off = tt
keeps_time u (WritebackLimitEnable on) off = tt
keeps_time u (Clock seconds) off = ltb-false _ _ off
keeps_time u LowerMax off = tt

-- ---- one more

ops_push : (u : Used) (ops : List Op) (op : Op)
    → with_ops u (ops ++ op ∷ []) ≡ with_op (with_ops u ops) op
ops_push u [] op = refl
ops_push u (o ∷ ops) op = ops_push (with_op u o) ops op

actors_push : (u : Used) (actors : List (List Op)) (ops : List Op)
    → with_actors u (actors ++ ops ∷ []) ≡ with_ops (with_actors u actors) ops
actors_push u [] ops = refl
actors_push u (o ∷ more) ops = actors_push (with_ops u o) more ops

turns_push : (turns : List Turns) (t : Turns)
    → turns_in (turns ++ t ∷ []) ≡ turns_in turns + (t.times + 0)
turns_push [] t = omega arith
turns_push (o ∷ more) t = let n : turns_in (more ++ t ∷ []) ≡ turns_in more + (t.times + 0) =
    turns_push more t in omega arith

operate_push : (u : Used) (ops : List Op) (op : Op) → MayOperate u ops → IsRequest op
    → has_left_for (with_ops u ops) op ≡ true → MayOperate u (ops ++ op ∷ [])
operate_push u [] op may request left = (request, left, tt)
operate_push u (o ∷ ops) op may request left =
    (may.0, may.1, operate_push (with_op u o) ops op may.2 request left)

act_push : (u : Used) (actors : List (List Op)) (ops : List Op) → MayAct u actors
    → MayOperate (with_actors u actors) ops → MayAct u (actors ++ ops ∷ [])
act_push u [] ops may more = (more, tt)
act_push u (o ∷ actors) ops may more = (may.0, act_push (with_ops u o) actors ops may.1 more)

turn_push : (actors : ℕ) (turns : List Turns) (t : Turns) → MayTurn actors turns → t.actor < actors
    → (1 ≤ t.times) × (t.times ≤ MOST_TURNS) → MayTurn actors (turns ++ t ∷ [])
turn_push actors [] t may named is = (named, is.0, is.1, tt)
turn_push actors (o ∷ more) t may named is =
    (may.0, may.1, may.2, turn_push actors more t may.3 named is)

-- ---- a phase that has begun

-- what is used with a phase so far
abbrev used_in : Used → Begun → Used
used_in before begun =
    with_turns (with_ops (with_actors (with_phase before) begun.actors) begun.last) begun.schedule

pub record InPhase (before u : Used) (begun : Begun) : Type 0 where
  pub used : u ≡ used_in before begun
  pub phase_left : has_phase_left before ≡ true
  pub few : length begun.actors + 1 ≤ MOST_ACTORS
  pub disk : before.disk ≡ true
  pub acted : MayAct (with_phase before) begun.actors
  pub operated : MayOperate (with_actors (with_phase before) begun.actors) begun.last
  pub turned : MayTurn (length begun.actors + 1) begun.schedule
  pub fits : u.turns ≤ MOST_TURNS

abbrev IsIn : Used → Used → Option Begun → Type 0
IsIn before u None = (u ≡ before) × (u.turns ≤ MOST_TURNS)
IsIn before u (Some begun) = InPhase before u begun

abbrev begun_sayings : Option Begun → List Saying
begun_sayings None = []
begun_sayings (Some begun) =
    flat_map actor_sayings (all_actors begun) ++ map says_turns begun.schedule

no_schedule : (begun : Begun) → is_scheduled begun ≡ false → begun.schedule ≡ []
no_schedule begun none =
    nil_from_length begun.schedule (eqb-true _ _ (not-false (length begun.schedule == 0) none))

begin : (before u : Used) → u ≡ before → u.turns ≤ MOST_TURNS → before.disk ≡ true
    → has_phase_left before ≡ true
    → InPhase before (with_phase u) fresh
begin before u at fits disk left =
    let none : before.turns ≡ before.turns + 0 = omega arith in
    record {
      used = ap with_phase at ∙ ap (λ n. record (with_phase before) { turns = n }) none;
      phase_left = left;
      few = omega arith;
      disk = disk;
      acted = tt;
      operated = tt;
      turned = tt;
      fits = fits;
    }

next_actor : (before u : Used) (begun : Begun) → InPhase before u begun → is_scheduled begun ≡ false
    → nat_le (length begun.actors + 1 + 1) MOST_ACTORS ≡ true
    → InPhase before u (with_actor begun)
next_actor before u begun at none few =
    let empty = no_schedule begun none in
    let n : length begun.actors + 1 + 1 ≤ MOST_ACTORS = leb-true _ _ few in
    let P : List Turns → Type 0 =
    λ turns. MayTurn (length (begun.actors ++ begun.last ∷ []) + 1) turns in
    record {
      used = at.used
          ∙ ap (λ v. with_turns v begun.schedule)
          (sym (actors_push (with_phase before) begun.actors begun.last));
      phase_left = at.phase_left;
      few = omega (arith, length_push begun.actors begun.last);
      disk = at.disk;
      acted = act_push (with_phase before) begun.actors begun.last at.acted at.operated;
      operated = tt;
      turned = subst P (sym empty) tt;
      fits = at.fits;
    }

next_op : (before u : Used) (begun : Begun) (op : Op) → InPhase before u begun → IsRequest op
    → has_left_for u op ≡ true
    → InPhase before (with_op u op) (with_operation begun op)
next_op before u begun op at request left =
    let v = with_actors (with_phase before) begun.actors in
    let same : has_left_for (with_ops v begun.last) op ≡ true =
    ap (λ x. has_left_for x op) (sym at.used)
    ∙ left in
    record {
      used = ap (λ x. with_op x op) at.used
          ∙ ap (λ x. with_turns x begun.schedule) (sym (ops_push v begun.last op));
      phase_left = at.phase_left;
      few = at.few;
      disk = at.disk;
      acted = at.acted;
      operated = operate_push v begun.last op at.operated request same;
      turned = at.turned;
      fits = at.fits;
    }

next_turns : (before u : Used) (begun : Begun) (t : Turns) → InPhase before u begun
    → (1 ≤ t.times) × (t.times ≤ MOST_TURNS)
    → nat_lt t.actor (length begun.actors + 1) ≡ true → has_turns_left u (t ∷ []) ≡ true
    → InPhase before (with_turns u (t ∷ [])) (with_schedule begun (t ∷ []))
next_turns before u begun t at is named left =
    let v = with_ops (with_actors (with_phase before) begun.actors) begun.last in
    let sum : v.turns + turns_in begun.schedule + (t.times + 0)
    ≡ v.turns + turns_in (begun.schedule ++ t ∷ []) = omega (arith, turns_push begun.schedule t) in
    record {
      used = ap (λ x. with_turns x (t ∷ [])) at.used ∙ ap (λ n. record v { turns = n }) sum;
      phase_left = at.phase_left;
      few = at.few;
      disk = at.disk;
      acted = at.acted;
      operated = at.operated;
      turned = turn_push (length begun.actors + 1) begun.schedule t at.turned
          (ltb-true _ _ named) is;
      fits = leb-true _ _ left;
    }

has_disk : (u : Used) (actors : List (List Op)) → u.disk ≡ true → HasDisk u actors
has_disk u [] disk = tt
has_disk u (ops ∷ more) disk = disk

end_phase : (before u : Used) (begun : Begun) → InPhase before u begun
    → MayRun before (all_actors begun) begun.schedule
    × (u ≡ with_text before (all_actors begun) begun.schedule)
end_phase before u begun at =
    let same : u ≡ with_text before (all_actors begun) begun.schedule =
    at.used ∙ ap (λ v. with_turns v begun.schedule)
    (sym (actors_push (with_phase before) begun.actors begun.last)) in
    let number : length begun.actors + 1 ≡ length (all_actors begun) =
    sym (length_push begun.actors begun.last) in
    let P : ℕ → Type 0 = λ n. MayTurn n begun.schedule in (
      record {
        phase_left = at.phase_left;
        few_actors = omega (arith, length_push begun.actors begun.last);
        has_disk = has_disk before (all_actors begun) at.disk;
        may_act = act_push (with_phase before) begun.actors begun.last at.acted at.operated;
        may_turn = subst P number at.turned;
        turns_left = le-leb _ _ (let n = ap (λ (x : Used). x.turns) same in omega arith);
      },
      same,
    )

-- ---- the sayings so far, with one more

actor_said : (begun : Begun) (rest : List Saying) → is_scheduled begun ≡ false
    → begun_sayings (Some (with_actor begun)) ++ rest ≡ begun_sayings (Some begun)
    ++ says_actor ∷ rest
actor_said begun rest none =
    let empty = no_schedule begun none in
    let all = flat_map actor_sayings (all_actors begun) in
    ap (λ turns. (flat_map actor_sayings (all_actors begun ++ [] ∷ []) ++ map says_turns turns)
    ++ rest) empty
    ∙ ap (λ (xs : List Saying). xs ++ rest)
    (append-nil (flat_map actor_sayings (all_actors begun ++ [] ∷ [])))
    ∙ ap (λ (xs : List Saying). xs ++ rest)
    (flat_map-append actor_sayings (all_actors begun) ([] ∷ []))
    ∙ append_assoc all (says_actor ∷ []) rest
    ∙ ap (λ (xs : List Saying). xs ++ says_actor ∷ rest) (sym (append-nil all))
    ∙ ap (λ turns. (all ++ map says_turns turns) ++ says_actor ∷ rest) (sym empty)

op_said : (begun : Begun) (op : Op) (rest : List Saying) → is_scheduled begun ≡ false
    → begun_sayings (Some (with_operation begun op)) ++ rest ≡ begun_sayings (Some begun)
    ++ says_operation op ∷ rest
op_said begun op rest none =
    let empty = no_schedule begun none in
    let before = flat_map actor_sayings begun.actors in
    let all = flat_map actor_sayings (all_actors begun) in
    let one : (ops : List Op)
    → flat_map actor_sayings (begun.actors ++ ops ∷ []) ≡ before ++ actor_sayings ops =
    λ ops. flat_map-append actor_sayings begun.actors (ops ∷ [])
    ∙ ap (λ (xs : List Saying). before ++ xs) (append-nil (actor_sayings ops)) in
    let more : flat_map actor_sayings (begun.actors ++ (begun.last ++ op ∷ []) ∷ []) ≡ all
    ++ says_operation op ∷ [] =
    one (begun.last ++ op ∷ [])
    ∙ ap (λ (xs : List Saying). before ++ says_actor ∷ xs)
    (map-append says_operation begun.last (op ∷ []))
    ∙ sym (append_assoc before (actor_sayings begun.last) (says_operation op ∷ []))
    ∙ ap (λ (xs : List Saying). xs ++ says_operation op ∷ []) (sym (one begun.last)) in
    ap (λ turns. (flat_map actor_sayings (begun.actors ++ (begun.last ++ op ∷ []) ∷ [])
    ++ map says_turns turns) ++ rest) empty
    ∙ ap (λ (xs : List Saying). xs ++ rest)
    (append-nil (flat_map actor_sayings (begun.actors ++ (begun.last ++ op ∷ []) ∷ [])))
    ∙ ap (λ (xs : List Saying). xs ++ rest) more
    ∙ append_assoc all (says_operation op ∷ []) rest
    ∙ ap (λ (xs : List Saying). xs ++ says_operation op ∷ rest) (sym (append-nil all))
    ∙ ap (λ turns. (all ++ map says_turns turns) ++ says_operation op ∷ rest) (sym empty)

turns_said : (begun : Begun) (t : Turns) (rest : List Saying)
    → begun_sayings (Some (with_schedule begun (t ∷ []))) ++ rest ≡ begun_sayings (Some begun)
    ++ says_turns t ∷ rest
turns_said begun t rest =
    let all = flat_map actor_sayings (all_actors begun) in
    ap (λ (xs : List Saying). (all ++ xs) ++ rest) (map-append says_turns begun.schedule (t ∷ []))
    ∙ ap (λ (xs : List Saying). xs ++ rest)
    (sym (append_assoc all (map says_turns begun.schedule) (says_turns t ∷ [])))
    ∙ append_assoc (all ++ map says_turns begun.schedule) (says_turns t ∷ []) rest

-- ---- all sayings

module _ {A : Type 0} where
  pub free_of : (b : Bool) (x : Option A) (y : A) → cond b None x ≡ Some y
      → (b ≡ false) × (x ≡ Some y)
  free_of true x y e = cc
  free_of false x y e = (refl, e)

  kept_by : (b : Bool) (x : Option A) (y : A) → cond b x None ≡ Some y → (b ≡ true) × (x ≡ Some y)
  kept_by true x y e = (refl, e)
  kept_by false x y e = cc

  mapped : (f : A → A) (x : Option A) (y : A) → option_map f x ≡ Some y
      → (z : A) × (x ≡ Some z) × (f z ≡ y)
  mapped f None y e = cc
  mapped f (Some z) y e = (z, refl, cc)

abbrev Spelled : Used → Option Begun → List Saying → List Item → Type 0
Spelled before begun said job = (flat_map item_sayings job ≡ begun_sayings begun ++ said)
    × MayFollow before job

pub unspelled : (before u : Used) (begun : Option Begun) (said : List Saying) (job : List Item)
    → IsIn before u begun
    → AllByRecursion IsSaid said → items_from u begun said ≡ Some job
    → Spelled before begun said job
unspelled before u None [] job at are e =
    let P : List Item → Type 0 = λ j. Spelled before None [] j in
    let none : [] ≡ job = cc in
    subst P none (refl, tt)
unspelled before u (Some begun) [] job at are e = cc
unspelled before u None (says_attr attr ∷ said) job at are e =
    let v = with_attr u attr in
    let kept = kept_by (not (is_set_back u attr)) _ job e in
    let more = mapped (λ later. items.Attr attr ∷ later) (items_from v None said) job kept.1 in
    let rest = unspelled v v None said more.0 (refl, at.1) are.1 more.1 in
    let P : List Item → Type 0 = λ j. Spelled u None (says_attr attr ∷ said) j in
    let Q : Used → Type 0 = λ b. Spelled b None (says_attr attr ∷ said) job in
    subst Q at.0 (subst P more.2 (
      ap (λ (xs : List Saying). says_attr attr ∷ xs) rest.0,
      (are.0, keeps_time u attr (not-true _ kept.0), rest.1),
    ))
unspelled before u (Some begun) (says_attr attr ∷ said) job at are e = cc
unspelled before u None (says_report report ∷ said) job at are e =
    let more = mapped (λ later. items.Report report ∷ later) (items_from u None said) job e in
    let rest = unspelled before u None said more.0 at are.1 more.1 in
    let P : List Item → Type 0 = λ j. Spelled before None (says_report report ∷ said) j in
    subst P more.2 (ap (λ (xs : List Saying). says_report report ∷ xs) rest.0, rest.1)
unspelled before u (Some begun) (says_report report ∷ said) job at are e = cc
unspelled before u None (says_actor ∷ said) job at are e =
    let kept = kept_by (u.disk && has_phase_left u) _ job e in
    let parts = and_parts u.disk (has_phase_left u) kept.0 in
    let disk : before.disk ≡ true = ap (λ (x : Used). x.disk) (sym at.0) ∙ parts.0 in
    let left : has_phase_left before ≡ true = ap has_phase_left (sym at.0) ∙ parts.1 in
    unspelled before (with_phase u) (Some fresh) said job
    (begin before u at.0 at.1 disk left) are.1 kept.1
unspelled before u (Some begun) (says_actor ∷ said) job at are e =
    let kept = kept_by (not (is_scheduled begun) && u.disk
    && nat_le (length begun.actors + 1 + 1) MOST_ACTORS) _ job e in
    let parts = and_parts (not (is_scheduled begun) && u.disk)
    (nat_le (length begun.actors + 1 + 1) MOST_ACTORS) kept.0 in
    let none : is_scheduled begun ≡ false =
    not-true _ (and_parts (not (is_scheduled begun)) u.disk parts.0).0 in
    let rest = unspelled before u (Some (with_actor begun)) said job
    (next_actor before u begun at none parts.1) are.1 kept.1 in
    (rest.0 ∙ actor_said begun said none, rest.1)
unspelled before u None (says_operation op ∷ said) job at are e = cc
unspelled before u (Some begun) (says_operation op ∷ said) job at are e =
    let kept = kept_by (not (is_scheduled begun) && has_left_for u op) _ job e in
    let parts = and_parts (not (is_scheduled begun)) (has_left_for u op) kept.0 in
    let rest = unspelled before (with_op u op) (Some (with_operation begun op)) said job
    (next_op before u begun op at are.0 parts.1) are.1 kept.1 in
    (rest.0 ∙ op_said begun op said (not-true _ parts.0), rest.1)
unspelled before u None (says_turns t ∷ said) job at are e = cc
unspelled before u (Some begun) (says_turns t ∷ said) job at are e =
    let kept = kept_by (nat_lt t.actor (length begun.actors + 1) && has_turns_left u (t ∷ []))
    _ job e in
    let parts = and_parts (nat_lt t.actor (length begun.actors + 1))
    (has_turns_left u (t ∷ [])) kept.0 in
    let rest = unspelled before (with_turns u (t ∷ []))
    (Some (with_schedule begun (t ∷ []))) said job
    (next_turns before u begun t at are.0 parts.0 parts.1) are.1 kept.1 in
    (rest.0 ∙ turns_said begun t said, rest.1)
unspelled before u None (says_run ∷ said) job at are e =
    let kept = kept_by (has_phase_left u) _ job e in
    let more = mapped (λ later. items.Phase (text_of None) ∷ later)
    (items_from (with_phase u) None said) job kept.1 in
    let rest = unspelled (with_phase u) (with_phase u) None said more.0 (refl, at.1) are.1 more.1 in
    let none : u.turns ≡ u.turns + 0 = omega arith in
    let P : List Item → Type 0 = λ j. Spelled u None (says_run ∷ said) j in
    let Q : Used → Type 0 = λ b. Spelled b None (says_run ∷ said) job in
    let F : ℕ → Type 0 = λ n. MayFollow (record (with_phase u) { turns = n }) more.0 in
    let left : has_turns_left (with_phase u) [] ≡ true =
    le-leb (u.turns + 0) MOST_TURNS (omega (arith, at.1)) in
    let run : MayRun u [] [] =
    record {
      phase_left = kept.0;
      few_actors = omega arith;
      has_disk = tt;
      may_act = tt;
      may_turn = tt;
      turns_left = left;
    } in
    subst Q at.0 (subst P more.2
    (ap (λ (xs : List Saying). says_run ∷ xs) rest.0, (run, subst F none rest.1)))
unspelled before u (Some begun) (says_run ∷ said) job at are e =
    let more = mapped (λ later. items.Phase (text_of (Some begun)) ∷ later)
    (items_from u None said) job e in
    let end = end_phase before u begun at in
    let rest = unspelled u u None said more.0 (refl, at.fits) are.1 more.1 in
    let P : List Item → Type 0 = λ j. Spelled before (Some begun) (says_run ∷ said) j in
    let F : Used → Type 0 = λ b. MayFollow b more.0 in
    let spelled : (begun_sayings (Some begun) ++ says_run ∷ []) ++ flat_map item_sayings more.0
    ≡ begun_sayings (Some begun) ++ says_run ∷ said =
    append_assoc (begun_sayings (Some begun)) (says_run ∷ []) (flat_map item_sayings more.0)
    ∙ ap (λ (xs : List Saying). begun_sayings (Some begun) ++ says_run ∷ xs) rest.0 in
    subst P more.2 (spelled, (end.0, subst F end.1 rest.1))
