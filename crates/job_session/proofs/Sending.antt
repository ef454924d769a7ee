-- Lines told one after the other.
use Rattle.std.proofs.Common.{◌≡◌, ℕ, ◌-◌, ◌≤◌, Bool, false, ◌||◌, List, [], ◌∷◌, ◌++◌, Option, Result, Ok, Err, refl, sym, ap, ◌∙◌, subst, append_assoc, inl, inr, arith}
use Rattle.std.proofs.KnownBytes.{Appends-nil, Appends-trans}
use Rattle.std.proofs.Math.Bool.{or_assoc}
use Rattle.std.proofs.lemmas.List.{append-nil}
use Rattle.std.proofs.lemmas.List.Concat.{flat_map-append}
use Rattle.std.proofs.lemmas.Result.{on_ok_weaker, IfErr-weaker}
use Rattle.std.specs.List.{flat_map, range_with_len}
use Rattle.std.specs.Io.KnownBytes.{Appends}
use Rattle.plain_disk.specs.Output.{OutLine, any_refusal}
use Rattle.job_session.specs.declared.stop.Stop.{Stop}
use Rattle.job_session.specs.declared.stop.Stop.TheVariants.{Memory, Write}
use Rattle.job_session.specs.Runs.{BeginsWith}
use Rattle.job_session.specs.Telling.{StopCause, OutputState, Tells}
use Rattle.job_print.specs.Texts.{text, line_text}
use Rattle.job_session.proofs.Lines.{or_false, any_refusal-append, lines_on}

-- ---- beginnings of a text

abbrev pub BeginsWith-nothing : (u : Option (List ℕ)) (whole : List ℕ) → BeginsWith u u whole
BeginsWith-nothing u whole = record {
  sent = [];
  rest = whole;
  parts = refl;
  appended = Appends-nil u;
}

-- one after the other: what was left of the first text is the front of the second
abbrev pub BeginsWith-trans : (u v w : Option (List ℕ)) (xs ys zs all : List ℕ)
    (b : BeginsWith u v xs)
    → BeginsWith v w zs → zs ≡ b.rest ++ ys → all ≡ xs ++ ys → BeginsWith u w all
BeginsWith-trans u v w xs ys zs all b c next is = record {
  sent = b.sent ++ c.sent;
  rest = c.rest;
  parts =
      is
      ∙ ap (λ (x : List ℕ). x ++ ys) b.parts
      ∙ append_assoc b.sent b.rest ys
      ∙ ap (λ (x : List ℕ). b.sent ++ x) (sym next ∙ c.parts)
      ∙ sym (append_assoc b.sent c.sent c.rest);
  appended = Appends-trans u v w b.sent c.sent b.appended c.appended;
}

-- ---- causes

pub StopCause-later : (before mid now : ℕ) (stopped : Bool) (stop : Stop) → before ≤ mid
    → StopCause mid now stopped stop → StopCause before now stopped stop
StopCause-later before mid now stopped Memory later cause = tt
StopCause-later before mid now stopped Write later (inl rose) = inl (omega (arith, rose, later))
StopCause-later before mid now stopped Write later (inr stops) = inr stops

-- ---- lines

pub Tells-none : (o : OutputState) → Tells o o (Ok tt) []
Tells-none o = record {
  sends = record {
    sent = [];
    rest = o.waits;
    parts = append-nil o.waits;
    appended = Appends-nil o.sent;
  };
  whole = (refl, sym (or_false o.refused));
  loan = refl;
  later = omega arith;
  cause = tt;
}

-- nothing was sent, and a call was given up
pub Tells-stop : (o : OutputState) (stop : Stop) → StopCause o.faults o.faults o.stopped stop
    → Tells o o (Err stop) []
Tells-stop o stop cause = record {
  sends = BeginsWith-nothing o.sent (o.waits ++ []);
  whole = tt;
  loan = refl;
  later = omega arith;
  cause = cause;
}

-- all that waited was sent
pub Tells-sent : (o m : OutputState) (bytes : List ℕ) → Appends o.sent m.sent bytes
    → bytes ≡ o.waits → m.waits ≡ []
    → m.refused ≡ o.refused → m.loan ≡ o.loan → o.faults ≤ m.faults → Tells o m (Ok tt) []
Tells-sent o m bytes sent is none refused loan later = record {
  sends = record {
    sent = bytes;
    rest = [];
    parts = append-nil o.waits ∙ sym is
        ∙ sym (append-nil bytes);
    appended = sent;
  };
  whole = (sym none, refused ∙ sym (or_false o.refused));
  loan = loan;
  later = later;
  cause = tt;
}

-- some lines, and then others
pub Tells-more : (o m n : OutputState) (r : Result (Unit {0}) Stop) (xs ys : List OutLine)
    → Tells o m (Ok tt) xs
    → Tells m n r ys → Tells o n r (xs ++ ys)
Tells-more o m n r xs ys s t = record {
  sends = BeginsWith-trans o.sent m.sent n.sent (o.waits ++ text xs) (text ys) (m.waits ++ text ys)
      (o.waits ++ text (xs ++ ys)) s.sends t.sends
      (ap (λ (x : List ℕ). x ++ text ys) (sym s.whole.0))
      (ap (λ (x : List ℕ). o.waits ++ x) (flat_map-append line_text xs ys)
      ∙ sym (append_assoc o.waits (text xs) (text ys)));
  whole = on_ok_weaker r (λ w. (w.0, w.1 ∙ refusals)) t.whole;
  loan = t.loan ∙ s.loan;
  later = omega (arith, s.later, t.later);
  cause = IfErr-weaker r _ _
      (λ stop cause. StopCause-later o.faults m.faults n.faults n.stopped stop s.later cause)
      t.cause;
}
  where
    refusals : (m.refused || any_refusal ys) ≡ (o.refused || any_refusal (xs ++ ys))
    refusals = ap (λ (b : Bool). b || any_refusal ys) s.whole.1
        ∙ or_assoc o.refused (any_refusal xs) (any_refusal ys)
        ∙ ap (λ (b : Bool). o.refused || b) (sym (any_refusal-append xs ys))

-- lines were put into the buffer, and some of it was sent
pub Tells-put : (o m n : OutputState) (r : Result (Unit {0}) Stop) (lines : List OutLine)
    → m.sent ≡ o.sent
    → m.waits ≡ o.waits ++ text lines → m.refused ≡ (o.refused || any_refusal lines)
    → m.faults ≡ o.faults → m.loan ≡ o.loan
    → Tells m n r [] → Tells o n r lines
Tells-put o m n r lines sent waits refused faults loan t =
    subst (Tells o n r) (append-nil lines) (Tells-more o m n r lines [] put t)
  where
    put : Tells o m (Ok tt) lines
    put = record {
      sends = record {
        sent = [];
        rest = o.waits ++ text lines;
        parts = refl;
        appended = subst (λ (x : Option (List ℕ)). Appends o.sent x []) (sym sent)
            (Appends-nil o.sent);
      };
      whole = (sym waits, refused);
      loan = loan;
      later = omega (arith, faults);
      cause = tt;
    }

-- one line was put into the buffer
pub Tells-one : (o m n : OutputState) (r : Result (Unit {0}) Stop) (line : OutLine)
    → m.sent ≡ o.sent
    → m.waits ≡ o.waits ++ line_text line → m.refused ≡ (o.refused || any_refusal (line ∷ []))
    → m.faults ≡ o.faults → m.loan ≡ o.loan
    → Tells m n r [] → Tells o n r (line ∷ [])
Tells-one o m n r line sent waits refused faults loan t =
    Tells-put o m n r (line ∷ []) sent
    (waits ∙ ap (λ (x : List ℕ). o.waits ++ x) (sym (append-nil (line_text line))))
    refused faults loan t

-- one that tells of no refusal was
pub Tells-line : (o m n : OutputState) (r : Result (Unit {0}) Stop) (line : OutLine)
    → m.sent ≡ o.sent
    → m.waits ≡ o.waits ++ line_text line → any_refusal (line ∷ []) ≡ false
    → m.refused ≡ o.refused → m.faults ≡ o.faults → m.loan ≡ o.loan
    → Tells m n r [] → Tells o n r (line ∷ [])
Tells-line o m n r line sent waits quiet refused faults loan t =
    Tells-one o m n r line sent waits
    (refused ∙ sym (or_false o.refused) ∙ ap (λ (b : Bool). o.refused || b) (sym quiet))
    faults loan t

-- what was given up among some lines was given up among more
pub Tells-cut : (o m : OutputState) (stop : Stop) (xs ys : List OutLine) → Tells o m (Err stop) xs
    → Tells o m (Err stop) (xs ++ ys)
Tells-cut o m stop xs ys t = record {
  sends = BeginsWith-trans o.sent m.sent m.sent (o.waits ++ text xs) (text ys)
      (t.sends.rest ++ text ys)
      (o.waits ++ text (xs ++ ys)) t.sends (BeginsWith-nothing m.sent (t.sends.rest ++ text ys))
      refl
      (ap (λ (x : List ℕ). o.waits ++ x) (flat_map-append line_text xs ys)
      ∙ sym (append_assoc o.waits (text xs) (text ys)));
  whole = tt;
  loan = t.loan;
  later = t.later;
  cause = t.cause;
}

-- these lines were told of all, and those are left
pub record SoFar (o m : OutputState) (left all : List OutLine) : Type 0 where
  pub front : List OutLine
  pub told : Tells o m (Ok tt) front
  pub joined : front ++ left ≡ all

pub SoFar-start : (o : OutputState) (all : List OutLine) → SoFar o o all all
SoFar-start o all = record { front = []; told = Tells-none o; joined = refl }

-- before the lines for the first number
pub SoFar-range : (o : OutputState) (f : ℕ → List OutLine) (n : ℕ)
    → SoFar o o (lines_on f 0 n) (flat_map f (range_with_len 0 n))
SoFar-range o f n =
    let all : n ≡ n - 0 = omega arith in
    subst (λ (k : ℕ). SoFar o o (flat_map f (range_with_len 0 k)) (flat_map f (range_with_len 0 n)))
    all (SoFar-start o (flat_map f (range_with_len 0 n)))

-- all were
pub SoFar-all : (o m : OutputState) (left all : List OutLine) → SoFar o m left all → left ≡ []
    → Tells o m (Ok tt) all
SoFar-all o m left all s none =
    subst (Tells o m (Ok tt))
    (sym (append-nil s.front) ∙ ap (λ (y : List OutLine). s.front ++ y) (sym none)
    ∙ s.joined) s.told

module _ (o m n : OutputState) (left all : List OutLine) (s : SoFar o m left all) where
  joins : (x rest : List OutLine) → left ≡ x ++ rest → s.front ++ x ++ rest ≡ all
  joins x rest is = append_assoc s.front x rest ∙ ap (λ (y : List OutLine). s.front ++ y) (sym is)
      ∙ s.joined

  -- some more of what is left
  pub SoFar-more : (x rest : List OutLine) → left ≡ x ++ rest → Tells m n (Ok tt) x
      → SoFar o n rest all
  SoFar-more x rest is t = record {
    front = s.front ++ x;
    told = Tells-more o m n (Ok tt) s.front x s.told t;
    joined = joins x rest is;
  }

  -- a call that was given up among what is left
  pub SoFar-cut : (stop : Stop) (x rest : List OutLine) → left ≡ x ++ rest → Tells m n (Err stop) x
      → Tells o n (Err stop) all
  SoFar-cut stop x rest is t =
      subst (Tells o n (Err stop)) (joins x rest is)
      (Tells-cut o n stop (s.front ++ x) rest (Tells-more o m n (Err stop) s.front x s.told t))
