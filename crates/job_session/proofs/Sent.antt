-- Lines that were told on a new output, and sent.
use Rattle.std.proofs.Common.{◌≡◌, ℕ, Bool, false, ◌||◌, List, [], ◌++◌, Option, Result, Ok, Err, sym, ap, ◌∙◌, subst}
use Rattle.std.proofs.KnownBytes.{Appends-trans}
use Rattle.std.proofs.lemmas.List.{append-nil}
use Rattle.std.specs.Io.KnownBytes.{Appends}
use Rattle.plain_disk.specs.Output.{OutLine, any_refusal}
use Rattle.job_text.specs.declared.job.Item.{Item}
use Rattle.job_session.specs.declared.stop.Stop.{Stop}
use Rattle.job_session.specs.Stepped.{Disk, Stepped, AreOwn}
use Rattle.job_session.specs.Runs.{BeginsWith}
use Rattle.job_session.specs.Telling.{OutputState, NoPhases, Tells, LinesSent, ItemsTold, ItemsSent}
use Rattle.job_print.specs.Texts.{text}
use Rattle.job_session.proofs.Extends.{none_front, no_turns}
use Rattle.job_session.proofs.Sending.{BeginsWith-trans}

-- lines that were told on the output o, to which u was written before; nothing waited there
module _ (lines : List OutLine) (o p : OutputState) (u : Option (List ℕ)) (from : u ≡ o.sent)
    (none : o.waits ≡ []) where
  bytes_of : o.waits ++ text lines ≡ text lines
  bytes_of = ap (λ (xs : List ℕ). xs ++ text lines) none

  -- the telling was given up
  pub told_in_part : (r : Result (Unit {0}) Stop) (stop : Stop) (w : Option (List ℕ)) → w ≡ p.sent
      → Tells o p r lines → LinesSent lines u w (Err stop)
  told_in_part r stop w to t = record {
    sends = subst (λ (x : Option (List ℕ) × Option (List ℕ) × List ℕ). BeginsWith x.0 x.1 x.2)
        (λ i. (sym from i, sym to i, bytes_of i)) t.sends;
    whole = tt;
  }

  -- all were told, and what waited was sent, up to v
  module _ (bytes : List ℕ) (waited : bytes ≡ p.waits) (v w : Option (List ℕ)) (to : w ≡ v)
      (t : Tells o p (Ok tt) lines) where
    -- in part
    pub sent_in_part : (stop : Stop) → BeginsWith p.sent v bytes → LinesSent lines u w (Err stop)
    sent_in_part stop b = record {
      sends = subst (λ (x : Option (List ℕ) × Option (List ℕ)). BeginsWith x.0 x.1 (text lines))
          (λ i. (sym from i, sym to i))
          (BeginsWith-trans o.sent p.sent v (o.waits ++ text lines) [] bytes (text lines) t.sends b
          (waited ∙ sym t.whole.0 ∙ sym (append-nil t.sends.rest))
          (sym bytes_of ∙ sym (append-nil (o.waits ++ text lines))));
      whole = tt;
    }

    -- or all of it
    pub all_sent : (refused : Bool) → Appends p.sent v bytes → refused ≡ p.refused
        → o.refused ≡ false → LinesSent lines u w (Ok refused)
    all_sent refused sent refuses quiet = record {
      sends = record {
        sent = text lines;
        rest = [];
        parts = sym (append-nil (text lines));
        appended = appended;
      };
      whole = (
        appended,
        refuses ∙ t.whole.1 ∙ ap (λ (b : Bool). b || any_refusal lines) quiet,
      );
    }
      where
        whole : t.sends.sent ++ bytes ≡ text lines
        whole = ap (λ (x : List ℕ). t.sends.sent ++ x) (waited ∙ sym t.whole.0)
            ∙ sym t.sends.parts ∙ bytes_of

        appended : Appends u w (text lines)
        appended =
            subst (λ (x : Option (List ℕ) × Option (List ℕ) × List ℕ). Appends x.0 x.1 x.2)
            (λ i. (sym from i, sym to i, whole i))
            (Appends-trans o.sent p.sent v t.sends.sent bytes t.sends.appended sent)

-- items without phases that were told, and whose lines were sent
module _ (d : Disk) (job : List Item) (m : Disk) (o p : OutputState) (none : NoPhases job) where
  module _ (r : Result (Unit {0}) Stop) (t : ItemsTold d job m o p r) where
    silent : t.turns ≡ []
    silent = no_turns t.front t.turns (none_front t.front t.later (subst NoPhases t.parts none)) t.own

    stepped : Stepped d t.front [] t.lines t.last
    stepped = subst (λ (x : List (List ℕ)). Stepped d t.front x t.lines t.last) silent t.stepped

    own : AreOwn t.front []
    own = subst (AreOwn t.front) silent t.own

  pub items_in_part : (r : Result (Unit {0}) Stop) (t : ItemsTold d job m o p r)
      (u w : Option (List ℕ)) (stop : Stop) → LinesSent t.lines u w (Err stop)
      → ItemsSent d job m u w (Err stop)
  items_in_part r t u w stop sent = record {
    front = t.front;
    later = t.later;
    parts = t.parts;
    lines = t.lines;
    last = t.last;
    stepped = stepped r t;
    own = own r t;
    sent = sent;
    whole = tt;
    device = t.device;
  }

  pub items_sent : (t : ItemsTold d job m o p (Ok tt)) (u w : Option (List ℕ)) (refused : Bool)
      → LinesSent t.lines u w (Ok refused) → ItemsSent d job m u w (Ok refused)
  items_sent t u w refused sent = record {
    front = t.front;
    later = t.later;
    parts = t.parts;
    lines = t.lines;
    last = t.last;
    stepped = stepped (Ok tt) t;
    own = own (Ok tt) t;
    sent = sent;
    whole = t.whole;
    device = t.device;
  }
