-- The rule as a row wants it, with its laws. A law's proof cites no lemma outside of specs/.
use Rattle.std.proofs.Common.{◌≡◌, List, [], ◌∷◌, refl, sym, ap, ◌∙◌}
use Rattle.std.proofs.lemmas.List.{map-append, append-nil}
use Rattle.zr_base.specs.declared.op.Tag.{Tag}
use Rattle.call_history.specs.declared.part.Part.{Part}
use Rattle.call_history.specs.declared.part.Done.{Done}
use Rattle.lock_row.specs.declared.names.LockNo.{LockNo}
use Rattle.lock_row.specs.declared.names.Plan.TheVariants.{Take, Give}
use Rattle.lock_row.specs.Rules.{RowRule, Notes}
use Rattle.bench_lock_table.specs.Tagging.{Here, spot, lock_at, plan_by, plan, rest_of, took, next_tag, Works, as_was, one_more, noted}

pub takes_its_lock : (ps : List Part) (held : List (LockNo × List Tag)) (k : LockNo) (v : List Tag)
    → plan_by ps held ≡ Take k
    → (let xs : List (LockNo × List Tag) = (lock_at ps, v) ∷ held in xs) ≡ (k, v) ∷ held
takes_its_lock ps [] k v e = let q : lock_at ps ≡ k = cc in λ i. (q i, v) ∷ []
takes_its_lock ps (x ∷ xs) k v e = absurd (cc)

pub gives_that : (ps : List Part) (held rest : List (LockNo × List Tag)) (k k' : LockNo)
    (v : List Tag) → plan_by ps held ≡ Give k → held ≡ (k', v) ∷ rest → k' ≡ k
gives_that ps held rest k k' v e h = let q : Give k' ≡ Give k = sym (ap (plan_by ps) h) ∙ e in cc

pub notes : (l : Here) (k : LockNo) (v : List Tag) (m : Here) → plan l ≡ Give k → Works l v m
    → Notes (λ tags. tags) noted l k v m
notes l k v m e (as_was k' rest h is) = record {
  last = v;
  held = h ∙ (λ i. (gives_that l.todo l.held rest k k' v e h i, v)
      ∷ (ap rest_of (sym h) ∙ ap (λ (n : Here). n.held) (sym is)) i);
  tags = [];
  grown = sym (append-nil v);
  noted_so = ap noted is ∙ sym (append-nil (noted l));
}
notes l k v m e (one_more k' last rest h grown is) = record {
  last = last;
  held = h ∙ (λ i. (gives_that l.todo l.held rest k k' last e h i, last)
      ∷ (ap rest_of (sym h) ∙ ap (λ (n : Here). n.held) (sym is)) i);
  tags = next_tag l ∷ [];
  grown = grown;
  noted_so = ap noted is
      ∙ map-append (λ (d : Done). let t : Tag = record { actor = l.actor; op = d.part.nr } in t)
      l.done _;
}

-- the rule of the row
abbrev pub tagging : RowRule (List Tag)
tagging = record {
  spot = spot;
  plan = plan;
  took = took;
  works = Works;
  may_start = λ w. Unit {0};
  order = λ tags. tags;
  noted = noted;
  take_holds = λ l k v e. takes_its_lock l.todo l.held k v e;
  take_notes = λ l k v e. refl;
  give_notes = notes;
}
