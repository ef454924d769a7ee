-- The plan's object moves, and the others stay.
use Rattle.std.proofs.Common.{◌≡◌, ℕ, ◌≤◌, sum_by, arith, Some, ap, sym, subst, ◌∙◌}
use Rattle.zspage.specs.Cells.{entry, home_of}
use Rattle.zs_plan.specs.Plan.{IsPlan, GoesOn}
use Rattle.class_pool.specs.Zspages.{Cells, use_at}
use Rattle.class_pool.specs.Rows.{rows}
use Rattle.class_pool.specs.Pool.{IsAtHome, IsLent, objects}
use Rattle.class_pool.specs.Index.{pool_of}
use Rattle.class_pool.specs.Moves.{Move, Moves}
use Rattle.class_pool.proofs.PoolLaws.{pool_is}
use Rattle.class_pool.proofs.PlannedLaws.{plan_source, plan_room}
use Rattle.class_pool.proofs.MoveLaws.{Shifted, shifted, out_stays, all_home, all_lent}
use Rattle.class_pool.proofs.SettledLaws.{unsettled, settles, stays_settled}
use Rattle.class_pool.proofs.RestLaws.{fewer, rest_no_plan, plan_rest, no_plan_rest}
use Rattle.class_pool.proofs.LeastLaws.{least_zspages}
use Rattle.class_pool.proofs.pool.ClassPool.move_one.Goals as goal
use Rattle.class_pool.proofs.pool.ClassPool.move_one.Goals.{After-move_object-frames}

pub move_object-frames-requires-clause-source : goal.move_object-frames-requires-clause-source
move_object-frames-requires-clause-source c =
    subst (λ p. (cells : Cells) × (entry p.zspages c.in-Some.from ≡ Some cells)
    × (1 ≤ home_of cells))
    (sym c.self.view_is)
    (plan_source c.args.self.now.per c.in-Some.from c.in-Some.to c.args.self.now.zspages
    c.in-Some.ensures.plan)

pub move_object-frames-requires-clause-room : goal.move_object-frames-requires-clause-room
move_object-frames-requires-clause-room c =
    plan_room c.self.inside.zspages.per c.in-Some.from c.in-Some.to c.self.inside.zspages.zspages
    c.self.invariant.fit.whole
    (subst (λ p. IsPlan p.per (rows p.zspages) c.in-Some.from c.in-Some.to) (sym c.self.view_is)
    c.in-Some.ensures.plan)

pub invariant_of-self : goal.invariant_of-self
invariant_of-self c = c.move_object-frames.ensures.pooled c.self.inside.used c.self.invariant

pub returns-clause-pool : goal.returns-clause-pool
returns-clause-pool c =
    pool_is c.self.inside.class c.self.inside.used _ _
    (c.move_object-frames.ensures.pooled c.self.inside.used c.self.invariant)

-- the move that was made, and its plan
made : (c : After-move_object-frames)
    → (m : Move) × IsPlan c.args.self.now.per (rows c.args.self.now.zspages) m.from m.to
    × Moves c.args.self.now (pool_of c.self.inside.class c.move_object-frames.new.zspages) m
    c.move_object-frames.result
    × GoesOn c.args.self.now.per (rows c.args.self.now.zspages) m.from m.to
made c =
    let m = c.move_object-frames.ensures.moved c.self.inside.class in
    let at : (P : ℕ → ℕ → Type 0) → P c.in-Some.from c.in-Some.to → P m.0.from m.0.to =
    λ P h. subst (λ f. P f m.0.to) (sym m.1) (subst (λ t. P c.in-Some.from t) (sym m.2) h) in (
      m.0,
      at (IsPlan c.args.self.now.per (rows c.args.self.now.zspages)) c.in-Some.ensures.plan,
      subst (λ p. Moves p (pool_of c.self.inside.class c.move_object-frames.new.zspages) m.0
          c.move_object-frames.result) c.self.view_is m.3,
      at (GoesOn c.args.self.now.per (rows c.args.self.now.zspages)) c.in-Some.ensures.goes_on,
    )

pub returns-clause-moved : goal.returns-clause-moved
returns-clause-moved c =
    let m = made (goal.at.returns-clause-moved c).After-move_object-frames in
    let some : 1 ≤ c.args.budget.now = omega (arith, c.if-budget-eq0.false) in (
      omega arith,
      m.0,
      m.1,
      m.2,
      unsettled _ _ m.0 _ c.next_move.ensures.pool m.2 m.1,
      settles _ _ m.0 _ m.2 m.3,
    )

pub returns-clause-settled : goal.returns-clause-settled
returns-clause-settled c h =
    let m = made (goal.at.returns-clause-settled c).After-move_object-frames in
    stays_settled _ _ m.0 _ h m.2 m.1 m.3

pub returns-clause-fewer : goal.returns-clause-fewer
returns-clause-fewer c n k =
    let m = made (goal.at.returns-clause-fewer c).After-move_object-frames in
    fewer _ _ m.0 _ n k m.2 m.1 m.3

pub returns-clause-none : goal.returns-clause-none
returns-clause-none c =
    let m = made (goal.at.returns-clause-none c).After-move_object-frames in
    rest_no_plan _ _ m.0 _ m.2 m.1

pub returns-in_default-clause-most : goal.returns-in_default-clause-most
returns-in_default-clause-most c = (
  0,
  no_plan_rest c.args.self.now c.in_default.ensures.pool c.in_default.ensures.none,
  omega arith,
)

pub returns-in_default-clause-rest : goal.returns-in_default-clause-rest
returns-in_default-clause-rest c some =
    no_plan_rest c.args.self.now c.in_default.ensures.pool c.in_default.ensures.none

pub returns-then-budget-eq0-clause-most : goal.returns-then-budget-eq0-clause-most
returns-then-budget-eq0-clause-most c =
    plan_rest c.args.self.now c.in-Some.from c.in-Some.to c.in-Some.ensures.plan

pub returns-clause-most : goal.returns-clause-most
returns-clause-most c = plan_rest c.args.self.now c.in-Some.from c.in-Some.to c.in-Some.ensures.plan

pub returns-clause-least : goal.returns-clause-least
returns-clause-least c =
    let pooled = c.move_object-frames.ensures.pooled c.self.inside.used c.self.invariant in
    least_zspages _ (pool_is c.self.inside.class c.self.inside.used _ _ pooled) pooled.fit.some

pub returns-in_default-clause-least : goal.returns-in_default-clause-least
returns-in_default-clause-least c =
    least_zspages _ c.next_move.ensures.pool
    (subst (λ p. 1 ≤ p.per) c.self.view_is c.self.invariant.fit.some)

pub returns-then-budget-eq0-clause-least : goal.returns-then-budget-eq0-clause-least
returns-then-budget-eq0-clause-least c =
    least_zspages _ c.next_move.ensures.pool
    (subst (λ p. 1 ≤ p.per) c.self.view_is c.self.invariant.fit.some)

-- ---- what is left

shift : (c : After-move_object-frames)
    → Shifted c.self.inside.used c.self.inside.zspages c.move_object-frames.new.zspages
    c.self.inside.places
    (c.move_object-frames.ensures.moved c.self.inside.class).0
shift c =
    let made = c.move_object-frames.ensures.moved c.self.inside.class in
    shifted c.self.inside.class c.self.inside.used _ _ c.self.inside.places made.0 _
    c.self.invariant made.3

pub returns-clause-list : goal.returns-clause-list
returns-clause-list c f =
    (shift (goal.at.returns-clause-list c).After-move_object-frames).same f
    ∙ ap (λ p. sum_by f (objects p)) c.self.view_is

pub returns-clause-home : goal.returns-clause-home
returns-clause-home c h among =
    all_home c.self.inside.class c.self.inside.used h _ _ c.self.inside.places _
    (shift (goal.at.returns-clause-home c).After-move_object-frames)
    (subst (λ p. IsAtHome p h) (sym c.self.view_is) among)

pub returns-clause-lent : goal.returns-clause-lent
returns-clause-lent c h cell among =
    let made = c.move_object-frames.ensures.moved c.self.inside.class in
    all_lent c.self.inside.class c.self.inside.used h cell _ _ c.self.inside.places _
    c.self.invariant
    made.3.lowest.home (shift (goal.at.returns-clause-lent c).After-move_object-frames)
    (subst (λ p. IsLent p h cell) (sym c.self.view_is) among)

pub returns-clause-out_stays : goal.returns-clause-out_stays
returns-clause-out_stays c id ix u at out =
    let made = c.move_object-frames.ensures.moved c.self.inside.class in
    out_stays c.self.inside.used _ _ c.self.inside.places _ id ix u made.3.lowest.home
    (shift (goal.at.returns-clause-out_stays c).After-move_object-frames)
    (subst (λ p. use_at p.zspages id ix ≡ Some u) (sym c.self.view_is) at) out
