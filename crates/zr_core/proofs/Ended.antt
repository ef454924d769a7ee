-- A phase that is over, as its world shows it.
use Rattle.std.proofs.Common.{◌≡◌, ◌⊎◌, ℕ, ◌+◌, Bool, List, [], ◌∷◌, Option, inl, inr, refl, sym, ap, ◌∙◌, subst, arith}
use Rattle.zr_base.specs.declared.op.Op.{Op}
use Rattle.call_history.specs.declared.part.Part.{Part}
use Rattle.call_history.specs.declared.part.Done.{Done}
use Rattle.call_history.specs.Parts.{program}
use Rattle.page_steps.specs.Steps.{Terms, DiskHeld}
use Rattle.actor_steps.specs.Counts.{pieces_on as counted_on, pieces_each as counted_each}
use Rattle.joint_rule.specs.Begins.{Begin, finding, piece_on, pieces_on, pieces_each}
use Rattle.joint_rule.specs.Laws.{RestGoesOn, FinishedIsAtRest, RequestsAreProper}
use Rattle.zr_core.specs.declared.limits.TheConstants.{MOST_CHAIN}
use Rattle.zr_core.specs.Machines.{AllFinished, printed, PhaseSteps}
use Rattle.zr_core.specs.Noted.{HasAllOrders, HasAllPieces}
use Rattle.zr_core.specs.Playing.{lines_shown, HasEndedAs}
use Rattle.zr_core.specs.Rests.{RestsAs, IsAtRest, left}
use Rattle.zr_core.specs.Runs.{Plays}
use Rattle.zr_core.specs.States.{Playing, state_of, AreFit, CanGoOn, HasRule, IsSetUpOn, IsEmpty}
use Rattle.zr_core.proofs.Rests.{at_rest, left_rests, no_order}
use Rattle.zr_core.proofs.Shown.{shows_lines}

-- pieces are counted alike by both names
on_same : (size page : ℕ) (ps : List Part) → counted_on size page ps ≡ pieces_on size page ps
on_same size page [] = refl
on_same size page (p ∷ ps) = ap (λ (n : ℕ). piece_on size page p + n) (on_same size page ps)

pub each_same : (size : ℕ) (backed : Bool) (actors : List (List Op)) (page : ℕ)
    → counted_each size backed actors page ≡ pieces_each size backed actors page
each_same size backed [] page = refl
each_same size backed (ops ∷ more) page = λ i. on_same size page (program size backed 0 ops) i
    + each_same size backed more page i

module _ {D : Type 0} (x : Playing D) (fit : AreFit x.terms x.backed x.actors x.workers) (g : Begin) (j : HasRule g x)
    (finished : AllFinished (state_of x j.dones)) (chain : x.terms.chain ≡ MOST_CHAIN)
    (rests : FinishedIsAtRest) (next : RestGoesOn) (law : RequestsAreProper) where
  same_size : g.given.size ≡ x.terms.size
  same_size = ap (λ (t : Terms). t.size) j.of.goes_by

  pub rests_as : RestsAs (left (finding g j.rule.finds) x.cells) x.terms.size x.cells
  rests_as = subst (λ (n : ℕ). RestsAs (left (finding g j.rule.finds) x.cells) n x.cells)
      same_size
      (left_rests g (state_of x j.dones) j.of.proper j.rule finished
      (ap (λ (t : Terms). t.chain) j.of.goes_by ∙ chain)
      (let a = j.of.some in let s = same_size in omega arith)
      (let a = j.of.most in let s = same_size in omega arith) rests next law)

  pub orders_over : HasAllPieces x.terms.size x.backed x.noted x.actors
      → HasAllOrders x.terms.size x.noted x.cells
  orders_over pieces = record {
    listed = pieces.listed;
    others = λ p lt off. no_order g (state_of x j.dones) j.of.proper j.rule finished
        (ap (λ (t : Terms). t.chain) j.of.goes_by ∙ chain)
        (let a = j.of.some in let s = same_size in omega arith)
        (let a = j.of.most in let s = same_size in omega arith) rests next law p
        (let s = same_size in omega arith)
        ((λ i. pieces_each (same_size i) (j.of.backed i) (j.of.actors i) p)
        ∙ sym (each_same x.terms.size x.backed x.actors p)
        ∙ pieces.others p lt off);
  }

  pub ended_as : HasEndedAs g x
  ended_as = record {
    of = j.of;
    dones = j.dones;
    kept = j.kept;
    rule = j.rule;
    finished = finished;
    lines = shows_lines x.terms x.backed x.actors x.cells x.workers j.dones fit j.kept;
    rests = rests_as;
  }

-- the world is at rest where all actors are finished
pub rests_over : {D : Type 0} (x : Playing D) (can : CanGoOn x)
    → ((dones : List (List Done)) → AllFinished (state_of x dones))
    → x.terms.chain ≡ MOST_CHAIN → FinishedIsAtRest → RestGoesOn → RequestsAreProper
    → IsAtRest x.terms.size x.noted x.cells
rests_over x can finished chain rests next law = by can.ruled where
  by : IsEmpty x ⊎ ((g : Begin) × HasRule g x) → IsAtRest x.terms.size x.noted x.cells
  by (inl none) = record {
    entries = record {
      size = (let a = none.0.0 in omega arith);
      each = λ p lt. absurd (let a = none.0.0 in let no : ⊥ = omega arith in no);
    };
    orders = record {
      listed = can.pieces.listed;
      others = λ p lt off. absurd (let a = none.0.0 in let no : ⊥ = omega arith in no);
    };
    rests = inl none.0;
  }
  by (inr (g, j)) =
      at_rest (left (finding g j.rule.finds) x.cells) x.terms.size x.cells
      (rests_as x can.fit g j (finished j.dones) chain rests next law) x.noted
      (orders_over x can.fit g j (finished j.dones) chain rests next law can.pieces)

-- a whole phase by its turns
pub steps_over : {D : Type 0} (x y : Playing D) (turns : List ℕ) → Plays turns x y
    → AreFit y.terms y.backed y.actors y.workers → y.actors ≡ x.actors
    → (before : List (Option DiskHeld)) → IsSetUpOn before x
    → ((dones : List (List Done)) → AllFinished (state_of y dones))
    → PhaseSteps x.terms x.backed x.actors before turns (lines_shown y) y.cells
steps_over x y turns plays fit named before up finished =
    let n = plays.goes up.dones up.kept in record {
      start = state_of x up.dones;
      last = state_of y n.0;
      is_set_up = up.set_up;
      run = n.2;
      finished = finished n.0;
      prints = shows_lines y.terms y.backed y.actors y.cells y.workers n.0 fit n.1
          ∙ (λ i. printed (size_same i) (plays.backed i) (named i) (state_of y n.0));
      leaves = refl;
    } where
      size_same : y.terms.size ≡ x.terms.size
      size_same = ap (λ (t : Terms). t.size) plays.same
