-- The rule of a phase where the call of one tag finds something else, which stands in no order.
use Rattle.joint_rule.proofs.Finds.{Alike, Own, SameOver, held_map, ruled_alike}
use Rattle.std.proofs.Common.{◌≡◌, ◌∷◌, ◌∙◌, ◌&&◌, ℕ, Bool, true, false, cond, eqb, List, [], refl, sym, ap, subst, inl, inr}
use Rattle.backing_dev.specs.Dev.{IsHonestDevice}
use Rattle.call_history.specs.Parts.{is_on, noted_on, ops_of}
use Rattle.call_history.specs.Shows.{ShowsPage}
use Rattle.call_history.specs.declared.part.Done.{Done}
use Rattle.joint_rule.specs.Begins.{Begin, FindsRight, finding}
use Rattle.joint_rule.specs.Rule.{OfOrder, Ruled, ShowsOrder, dones}
use Rattle.lock_row.specs.declared.names.State.{State}
use Rattle.page_steps.specs.Steps.{DiskHeld, Here}
use Rattle.plain_disk.specs.Idles.{only_tag}
use Rattle.std.proofs.lemmas.Bool.{and_from, and_parts, cases_Bool, eq-eqb, eqb-true}
use Rattle.std.specs.List.{AllByRecursion}
use Rattle.zr_base.specs.Plain.{Finds, IsSector, Look, same_tag}
use Rattle.zr_base.specs.declared.op.Tag.{Tag}
use Rattle.lock_row.specs.declared.names.Held.TheVariants as holds

-- the operation isn't among these
abbrev pub Lacks : ℕ → List ℕ → Type 0
Lacks n ns = AllByRecursion (λ m. m ≡ n → ⊥) ns

lacks_more : (n : ℕ) (b : Bool) (m : ℕ) (ns : List ℕ) → Lacks n (cond b (m ∷ ns) ns) → Lacks n ns
lacks_more n true m ns all = all.1
lacks_more n false m ns all = all

lacks_one : (n : ℕ) (b : Bool) (m : ℕ) (ns : List ℕ) → Lacks n (cond b (m ∷ ns) ns) → b ≡ true
    → m ≡ n → ⊥
lacks_one n true m ns all on e = all.0 e
lacks_one n false m ns all on e = cc

pick : (P : Look → Type 0) (b : Bool) (x y : Look) → P x → P y → P (cond b x y)
pick P true x y at_x at_y = at_x
pick P false x y at_x at_y = at_y

module _ (g : Begin) (page : ℕ) (t : Tag) (look : Look) where
  -- whether it is the call of this tag on this page
  abbrev is_one : ℕ → Tag → Bool
  is_one p u = eqb p page && same_tag t u

  -- what calls find where the one of this tag finds this on this page
  abbrev pub changed : ℕ → Finds
  changed p u = cond (is_one p u) look (g.given.finds p u)

  pub changed_here : changed page t ≡ look
  changed_here = ap (λ (b : Bool). cond b look (g.given.finds page t))
      (and_from (eqb page page) (same_tag t t) (eq-eqb page page refl)
      (and_from (eqb t.actor t.actor) (eqb t.op t.op) (eq-eqb t.actor t.actor refl)
      (eq-eqb t.op t.op refl)))

  right_changed : FindsRight g → ((s : ℕ) (old : List ℕ) → IsSector old → IsSector (look s old))
      → (IsHonestDevice g.device → (s : ℕ) (old : List ℕ) → look s old ≡ old)
      → FindsRight (finding g changed)
  right_changed right keeps honest = record {
    sectors = λ p u s old is. pick (λ (f : Look). IsSector (f s old)) (is_one p u) look
        (g.given.finds p u) (keeps s old is) (right.sectors p u s old is);
    honest = λ is p u s old. pick (λ (f : Look). f s old ≡ old) (is_one p u) look
        (g.given.finds p u) (honest is s old) (right.honest is p u s old);
  }

  same_else : (p : ℕ) (u : Tag) → is_one p u ≡ false → g.given.finds p u ≡ changed p u
  same_else p u off = sym (ap (λ (b : Bool). cond b look (g.given.finds p u)) off)

  -- what is the same where it isn't this call
  same_unless : (p : ℕ) (u : Tag) → (p ≡ page → u.actor ≡ t.actor → u.op ≡ t.op → ⊥)
      → g.given.finds p u ≡ changed p u
  same_unless p u lack = elim (cases_Bool (is_one p u)) [
    | inl on ↦ absurd (let x = and_parts (eqb p page) (same_tag t u) on in
        let y = and_parts (eqb t.actor u.actor) (eqb t.op u.op) x.1 in
        lack (eqb-true p page x.0) (sym (eqb-true t.actor u.actor y.0))
        (sym (eqb-true t.op u.op y.1)))
    | inr off ↦ same_else p u off
  ]

  order_lacks : (p : ℕ) (order : List Tag) → (p ≡ page → Lacks t.op (ops_of t.actor order))
      → Alike g changed p order
  order_lacks p [] lack = tt
  order_lacks p (u ∷ us) lack = (
    same_unless p u (λ on who op. lacks_one t.op (eqb u.actor t.actor) u.op (ops_of t.actor us)
        (lack on) (eq-eqb u.actor t.actor who) op),
    order_lacks p us (λ on. lacks_more t.op (eqb u.actor t.actor) u.op (ops_of t.actor us) (lack on)),
  )

  pub shown_lacks : (D : ℕ → List Done) (p : ℕ) (bytes : List ℕ) (order : List Tag)
      → Lacks t.op (noted_on page (D t.actor)) → ShowsPage g.given D p bytes order
      → Alike g changed p order
  shown_lacks D p bytes order lack s = order_lacks p order (λ on. subst (Lacks t.op)
      (ap (λ (q : ℕ). noted_on q (D t.actor)) (sym on) ∙ sym (s.turns t.actor)) lack)

  value_lacks : (ls : List Here) → Lacks t.op (noted_on page (dones ls t.actor)) → (p : ℕ)
      (v : DiskHeld) → OfOrder (ShowsOrder g ls) p v → Own g changed p v
  value_lacks ls lack p (holds.Slot e) s = shown_lacks (dones ls) p _ e.order lack s.shows
  value_lacks ls lack p (holds.Class x) s = tt
  value_lacks ls lack p (holds.Account x) s = tt
  value_lacks ls lack p (holds.Blocks x) s = tt
  value_lacks ls lack p (holds.Device x) s = tt

  over_lacks : (ds : List Done) → (t.actor ≡ 0 → Lacks t.op (noted_on page ds))
      → AllByRecursion (SameOver g changed) ds
  over_lacks [] lack = tt
  over_lacks (d ∷ ds) lack = (
    λ p is. same_unless p (only_tag d.part.nr) (λ on who op. lacks_one t.op (is_on page d)
        d.part.nr (noted_on page ds) (lack (sym who))
        (subst (λ (q : ℕ). is_on q d ≡ true) on is) op),
    over_lacks ds (λ z. lacks_more t.op (is_on page d) d.part.nr (noted_on page ds) (lack z)),
  )

  -- Where the tag stands in lack order of its page, the rule goes on if its call finds this there.
  pub ruled_changed : (w : State DiskHeld) → Lacks t.op (noted_on page (dones w.locals t.actor))
      → ((s : ℕ) (old : List ℕ) → IsSector old → IsSector (look s old))
      → (IsHonestDevice g.device → (s : ℕ) (old : List ℕ) → look s old ≡ old)
      → Ruled g w → Ruled (finding g changed) w
  ruled_changed w lack keeps honest r = ruled_alike g changed w
      (right_changed r.finds keeps honest)
      (record {
        in_row = λ k v e. value_lacks w.locals lack k v (r.told.in_row k v e);
        in_local = λ a l e. held_map g.given.size (OfOrder (ShowsOrder g w.locals))
            (Own g changed) (value_lacks w.locals lack) l.held (r.told.in_local a l e);
      })
      (λ l e. over_lacks l.done (λ z. subst (λ (ds : List Done). Lacks t.op (noted_on page ds))
      (ap (dones w.locals) z ∙ ap (λ (ls : List Here). dones ls 0) e) lack)) r
