-- Each turn keeps the rule.
use Rattle.std.proofs.Common.{◌≡◌, ◌∷◌, ℕ, cond, List, [], Some, None, slice_get, slice_set, refl, sym, ap, subst, arith, ⊎_elim}
use Rattle.joint_rule.proofs.Budget.{budget_give, budget_take, spends_of}
use Rattle.joint_rule.proofs.Written.{back_give, back_take, writes_give, writes_of, writes_take}
use Rattle.joint_rule.proofs.Ages.{ages_turn}
use Rattle.joint_rule.proofs.Alikes.{take_alike}
use Rattle.joint_rule.proofs.Alone.{alone_give, alone_take, KeepsAges}
use Rattle.joint_rule.proofs.Bounds.{most_give, most_take, risen}
use Rattle.joint_rule.proofs.Choices.{Choice, choice}
use Rattle.joint_rule.proofs.Chosen.{Chosen}
use Rattle.joint_rule.proofs.Counts.{refusals_give, refusals_take, refuses_of}
use Rattle.joint_rule.proofs.Events.{Event}
use Rattle.joint_rule.proofs.Facts.{Known, known_finding}
use Rattle.joint_rule.proofs.Faults.{blames_of, faults_give, faults_rise, faults_take}
use Rattle.joint_rule.proofs.Fetches.{fetches_give, fetches_take, reads_of}
use Rattle.joint_rule.proofs.Freed.{freed_give, freed_take, frees_of}
use Rattle.joint_rule.proofs.Givings.{gift}
use Rattle.joint_rule.proofs.Keeps.{OneTurn, event_at, give_keeps, take_keeps}
use Rattle.joint_rule.proofs.Limits.{Above, limits_of, limits_same, limits_up}
use Rattle.joint_rule.proofs.Lost.{foreign_grows, lost_give, lost_take, met_few}
use Rattle.joint_rule.proofs.News.{news_give, news_gives, news_take}
use Rattle.joint_rule.proofs.Rises.{keeps_of, orders_rise, turned_of, wrote_of}
use Rattle.joint_rule.proofs.Sums.{get_here, get_set, gone, row_le}
use Rattle.joint_rule.proofs.Tells.{tells_of, told_give, told_take}
use Rattle.joint_rule.proofs.Written.{back_give, back_take, writes_give, writes_of, writes_take}
use Rattle.joint_rule.specs.Begins.{finding, Begin, terms}
use Rattle.joint_rule.specs.Rule.{KeepsLimits, Rule, Ruled, ShowsOrder, reach_at}
use Rattle.joint_rule.specs.Weights.{device_faults, ever_at, foreign_at, none, one, passed_in, was_back, wrote_told}
use Rattle.lock_row.specs.Machine.{Giving, Run}
use Rattle.lock_row.specs.declared.names.LockNo.{LockNo}
use Rattle.lock_row.specs.declared.names.Plan.TheVariants.{Give, Take}
use Rattle.lock_row.specs.declared.names.State.{State}
use Rattle.page_steps.specs.Givings.{Works}
use Rattle.page_steps.specs.Steps.{DiskHeld, Here, lock_of, plan, spot, took}
use Rattle.zr_base.specs.Plain.{Finds}
use Rattle.lock_row.specs.Machine as turn

module _ (g : Begin) (ok : Known g) (w : State DiskHeld) (r : Ruled g w) (a : ℕ) (l : Here)
    (who : slice_get w.locals a ≡ Some l) (k : LockNo) (v : DiskHeld) where
  abbrev size : ℕ
  size = g.given.size

  rule_take : plan (terms g) l ≡ Take k → slice_get w.row (spot size k) ≡ Some (Some v)
      → KeepsAges g w (gone size w a l who k None (took (terms g) l v))
      → Ruled g (gone size w a l who k None (took (terms g) l v))
  rule_take what there ages =
      let m = took (terms g) l v in
      let held = ap (λ p. (lock_of p, v) ∷ l.held) what in
      let same = ok.facts.take (spot size) (ever_at g) one w a l k v m who there held refl in
      let still = ok.facts.take (spot size) device_faults none w a l k v m who there held refl in
      let before = ok.facts.take (spot size) (was_back g) one w a l k v m who there held refl in
      let told = ok.facts.moves wrote_told w.locals a l m who in
      let alike = (take_alike (terms g) l v).wrote in
      let up : (i : ℕ) → Above (reach_at g w i) (reach_at g (gone size w a l who k None m) i) =
      λ i. let theirs = ok.facts.take (spot size) (foreign_at i) none w a l k v m who there held refl
      in (omega arith, omega arith, omega arith, omega arith) in record {
        finds = r.finds;
        joint = take_keeps g ok w r.joint a l who k v what there;
        told = told_take g ok w r.joint r.told a l who k v what there;
        most = most_take g ok w r.joint a l who k v what there r.most;
        refusals = λ q. refusals_take g ok w r.joint a l who k v m q what there (r.refusals q);
        freed = freed_take g ok w r.joint a l who k v what there r.freed;
        news = λ q. news_take g ok w r.joint a l who k v m q what there (r.news q);
        limits = λ i y e. ⊎_elim
            (λ s. subst (λ (z : ℕ × Here). KeepsLimits g
            (reach_at g (gone size w a l who k None m) z.0) z.1) (λ t. (sym s.0 t, s.1 t))
            (limits_same g (reach_at g w a) _ (up a) l m refl refl (r.limits a l who)))
            (λ o. limits_up g (reach_at g w i) _ (up i) y (r.limits i y o.1))
            (get_set w.locals a i m y l who e);
        faults = faults_take g ok w a l who k v r.faults;
        fetches = fetches_take g ok w a l who k v what there r.fetches;
        writes = writes_take g ok w a l who k v what there r.writes;
        back = back_take g ok w a l who k v what there r.back;
        budget = budget_take g ok w a l who k v what there r.budget;
        lost = lost_take g ok w a l who k v what there r.lost;
        alone = alone_take g ok w r.joint a l who k v what there ages r.alone;
      }

  rule_give : (m : Here) → plan (terms g) l ≡ Give k → slice_get w.row (spot size k) ≡ Some None
      → (ev : Event g l v m) → Chosen g l v m ev → KeepsAges g w (gone size w a l who k (Some v) m)
      → Ruled g (gone size w a l who k (Some v) m)
  rule_give m what there ev chosen ages =
      let x = gift g ok w r.joint a l who k v m what r.budget.on ev chosen in
      let b = blames_of g ok w r.joint a l who k v m what ev in
      let t = turned_of g ok w r.joint a l who k v m what ev in
      let keeps = keeps_of g ok w r.joint a l who k v m what t in
      let now = reach_at g (gone size w a l who k (Some v) m) in
      let told = ok.facts.moves wrote_told w.locals a l m who in
      let more = wrote_of g ok w r.joint a l who k v m what t in
      let before = orders_rise g ok w r.joint a l who k v m there keeps one refl
      (λ i order. cond (g.back i) 1 0) (λ i order tag. omega arith) in
      let up : (i : ℕ) → Above (reach_at g w i) (now i) = λ i. (
        risen g ok w r.joint a l who k v m there x,
        faults_rise g ok w r.joint a l who k v m there b,
        omega arith,
        orders_rise g ok w r.joint a l who k v m there keeps none refl _ (foreign_grows i),
      ) in
      let lost = r.lost a l who in
      let few = met_few g w r.joint a (passed_in l.at l.fail) in
      let home = row_le size device_faults (slice_set w.row (spot size k) (Some v)) (spot size k)
      (Some v) (get_here w.row (spot size k) (Some v) None there) in record {
        finds = r.finds;
        joint = give_keeps g ok w r.joint a l who k v m there x;
        told = told_give g ok w r.joint r.told a l who k v m there x
            (tells_of g ok w r.joint a l who k v m what (ShowsOrder g (slice_set w.locals a m)) ev
            chosen);
        most = most_give g ok w r.joint a l who k v m there x r.most;
        refusals = λ q. refusals_give g ok w r.joint a l who k v m q there
            (refuses_of g ok w r.joint a l who k v m q what ev) (r.refusals q);
        freed = freed_give g ok w r.joint a l who k v m there
            (frees_of g ok w r.joint a l who k v m what ev) r.freed;
        news = λ q. news_give g ok w r.joint a l who k v m q there
            (news_gives g ok w r.joint a l who k v m what q ev chosen) (r.news q);
        limits = λ i y e. ⊎_elim
            (λ s. subst (λ (z : ℕ × Here). KeepsLimits g (now z.0) z.1) (λ c. (sym s.0 c, s.1 c))
            (limits_of g ok w r.joint a l who k v m r.back r.budget.size (now a) (up a)
            (omega arith) (omega arith) (r.limits a l who) ev))
            (λ o. limits_up g (reach_at g w i) (now i) (up i) y (r.limits i y o.1))
            (get_set w.locals a i m y l who e);
        faults = faults_give g ok w r.joint a l who k v m r.limits b r.faults;
        fetches = fetches_give g ok w r.joint a l who k v m there
            (reads_of g ok w r.joint a l who k v m what ev) r.fetches;
        writes = writes_give g ok w r.joint a l who k v m there
            (writes_of g ok w r.joint a l who k v m what ev) r.writes;
        back = back_give g ok w r.joint a l who k v m there
            (writes_of g ok w r.joint a l who k v m what ev) r.back;
        budget = budget_give g ok w r.joint a l who k v m there x.storage.maps
            (spends_of g ok w r.joint a l who k v m ev) r.budget;
        lost = lost_give g ok w r.joint a l who k v m r.lost there t keeps;
        alone = alone_give g ok w r.joint a l who k v m what there ev ages r.alone;
      }

module _ (g : Begin) (ok : Known g) where
  -- a giving, by what its call is chosen to have found
  rule_given : (a : ℕ) (w n : State DiskHeld) (l : Here) (k : LockNo) (v : DiskHeld) (m : Here)
      → Giving (spot g.given.size) (plan (terms g)) (took (terms g)) (Works (terms g)) a l k v m w n
      → (finds : ℕ → Finds) → Choice (finding g finds) w l v m → Rule g n
  rule_given a w n l k v m t finds c =
      let known = known_finding g c.finds ok c.ruled.finds in
      subst (Rule g) (sym t.after) (record {
        finds = c.finds;
        ruled = rule_give (finding g c.finds) known w c.ruled a l t.who k v m t.what t.there c.ev
            c.chosen (subst (KeepsAges (finding g c.finds) w) t.after
            (ages_turn (finding g c.finds) known a w n c.ruled (turn.given l k v m t)));
      })

  pub rule_turn : (a : ℕ) (w n : State DiskHeld) → Rule g w → OneTurn g a w n → Rule g n
  rule_turn a w n r (turn.finished l who what e) = subst (Rule g) (sym e) r
  rule_turn a w n r (turn.missed l k who what there e) = subst (Rule g) (sym e) r
  rule_turn a w n r (turn.taken l k v t) = subst (Rule g) (sym t.after) (record {
    finds = r.finds;
    ruled = rule_take (finding g r.finds) (known_finding g r.finds ok r.ruled.finds) w r.ruled
        a l t.who k v t.what t.there
        (subst (KeepsAges (finding g r.finds) w) t.after (ages_turn (finding g r.finds)
        (known_finding g r.finds ok r.ruled.finds) a w n r.ruled (turn.taken l k v t)));
  })
  rule_turn a w n r (turn.given l k v m t) =
      rule_given a w n l k v m t r.finds (choice (finding g r.finds)
      (known_finding g r.finds ok r.ruled.finds) w r.ruled a l t.who v m
      (event_at (finding g r.finds) (known_finding g r.finds ok r.ruled.finds) w r.ruled.joint
      a l t.who v m t.work))

  pub rule_run : (turns : List ℕ) (u w : State DiskHeld) → Rule g u
      → Run (spot g.given.size) (plan (terms g)) (took (terms g)) (Works (terms g)) turns u w
      → Rule g w
  rule_run [] u w r e = subst (Rule g) (sym e) r
  rule_run (a ∷ rest) u w r e = rule_run rest e.0 w (rule_turn a u e.0 r e.1) e.2
