use Rattle.std.proofs.Common.{ℕ, ◌<◌, length, sym, ◌∙◌, subst}
use Rattle.std.proofs.lemmas.Bool.{leb-true, leb-false}
use Rattle.page_steps.specs.Steps.{Terms}
use Rattle.actor_steps.specs.declared.place.Place.{Place}
use Rattle.actor_steps.specs.Workers.{terms_of, IsFit, Allows, Advanced}
use Rattle.actor_steps.proofs.Turns.{at_end, allows_too, advanced_too, is_begun, is_empty}
use Rattle.actor_steps.proofs.worker.Worker.advance.Goals as goal

-- the terms of a phase, by the longest chains of its disk
abbrev terms : ℕ → ℕ → ℕ → Terms
terms size now chain = record { size = size; chain = chain; clock = now }

pub returns-then-is_done-clause-fit : goal.returns-then-is_done-clause-fit
returns-then-is_done-clause-fit g c = c.requires.fit

pub returns-then-is_done-clause-turn : goal.returns-then-is_done-clause-turn
returns-then-is_done-clause-turn g c done keeps =
    at_end g.H.Hand.takes g.H.Hand.misses g.H.Hand.gives
    (terms_of c.args.size c.args.now c.args.self.now) c.args.backed c.args.ops.now c.args.self.now
    c.args.hand.now done
    (leb-true (length c.args.ops.now) c.args.self.now.place.nr (sym c.is_done.ensures ∙ c.if-is_done.true)) keeps

pub go_on-requires-clause-more : goal.go_on-requires-clause-more
go_on-requires-clause-more g c =
    leb-false (length c.args.ops.now) c.args.self.now.place.nr
    (sym c.is_done.ensures ∙ c.if-is_done.false)

pub go_on-requires-clause-begun : goal.go_on-requires-clause-begun
go_on-requires-clause-begun g c =
    is_begun c.args.self.now.call (sym c.is_some.ensures ∙ c.if-is_some.true)

pub begin-requires-clause-more : goal.begin-requires-clause-more
begin-requires-clause-more g c =
    leb-false (length c.args.ops.now) c.args.self.now.place.nr
    (sym c.is_done.ensures ∙ c.if-is_done.false)

pub begin-requires-clause-fit : goal.begin-requires-clause-fit
begin-requires-clause-fit g c = (c.args.backed, c.requires.fit)

pub begin-requires-clause-none : goal.begin-requires-clause-none
begin-requires-clause-none g c = sym (is_empty c.args.self.now.call (sym c.is_some.ensures ∙ c.if-is_some.false))

pub go_on-requires-2-clause-more : goal.go_on-requires-2-clause-more
go_on-requires-2-clause-more g c =
    let begins = c.begin.ensures c.args.backed c.requires.fit in
    subst (λ (p : Place). p.nr < length c.args.ops.now) (sym begins.place)
    (leb-false (length c.args.ops.now) c.args.self.now.place.nr
    (sym c.is_done.ensures ∙ c.if-is_done.false))

pub go_on-requires-2-clause-begun : goal.go_on-requires-2-clause-begun
go_on-requires-2-clause-begun g c =
    let begins = c.begin.ensures c.args.backed c.requires.fit in
    begins.call

pub go_on-requires-2-clause-fit : goal.go_on-requires-2-clause-fit
go_on-requires-2-clause-fit g c =
    let begins = c.begin.ensures c.args.backed c.requires.fit in
    subst (λ (n : ℕ). IsFit (terms c.args.size c.args.now n) c.args.backed c.args.ops.now c.begin.new.self)
    (sym begins.table) begins.fit

pub go_on-requires-2-clause-allows : goal.go_on-requires-2-clause-allows
go_on-requires-2-clause-allows g c =
    let begins = c.begin.ensures c.args.backed c.requires.fit in
    subst (λ (n : ℕ). Allows g.H.Hand.can_take g.H.Hand.takes g.H.Hand.can_give
    (terms c.args.size c.args.now n) c.args.backed c.args.ops.now c.begin.new.self c.args.hand.now)
    (sym begins.table)
    (allows_too (terms_of c.args.size c.args.now c.args.self.now) c.args.backed c.args.ops.now c.args.self.now
    c.begin.new.self begins.same g.H.Hand.can_take g.H.Hand.takes g.H.Hand.can_give
    c.args.hand.now c.requires.allows)

pub returns-clause-fit : goal.returns-clause-fit
returns-clause-fit g c =
    let begins = c.begin.ensures c.args.backed c.requires.fit in
    subst (λ (n : ℕ). IsFit (terms c.args.size c.args.now n) c.args.backed c.args.ops.now c.go_on-2.new.self)
    begins.table c.go_on-2.ensures.fit

pub returns-clause-turn : goal.returns-clause-turn
returns-clause-turn g c done keeps =
    let begins = c.begin.ensures c.args.backed c.requires.fit in
    advanced_too (terms_of c.args.size c.args.now c.args.self.now) c.args.backed c.args.ops.now c.args.self.now
    c.begin.new.self begins.same g.H.Hand.takes g.H.Hand.misses g.H.Hand.gives
    c.args.hand.now c.go_on-2.new.self c.go_on-2.new.hand c.go_on-2.result done
    (subst (λ (n : ℕ). Advanced g.H.Hand.takes g.H.Hand.misses g.H.Hand.gives
    (terms c.args.size c.args.now n) c.args.backed c.args.ops.now c.begin.new.self c.args.hand.now
    c.go_on-2.new.self c.go_on-2.new.hand c.go_on-2.result done) begins.table
    (c.go_on-2.ensures.turn done (begins.keeps done keeps)))
