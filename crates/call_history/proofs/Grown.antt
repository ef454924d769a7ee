-- One more piece: what pages show, on the piece's page and elsewhere.
use Rattle.std.proofs.Common.{◌≡◌, ℕ, ◌+◌, ◌*◌, true, false, cond, eqb, List, [], ◌∷◌, ◌++◌, length, Option, Some, slice_get, refl, sym, ap, ◌∙◌, subst, ◌⊎◌, inl, inr, ⊎_elim}
use mathlib.Core.Logic.{dite}
use native.Mathlib.Decide.{ℕ_discrete}
use Rattle.std.proofs.lemmas.Bool.{ne_eqb, and_from, eq-eqb}
use Rattle.std.proofs.lemmas.List.{append-nil}
use Rattle.zr_base.specs.declared.op.Tag.{Tag}
use Rattle.zr_base.specs.declared.op.Op.{Op}
use Rattle.zr_base.specs.Plain.{start_from, sector_after, sector_after_named, named}
use Rattle.plain_disk.specs.Phases.{Given, calls_on, held_after, found_in}
use Rattle.call_history.specs.declared.part.Part.{Part}
use Rattle.call_history.specs.declared.part.Done.{Done}
use Rattle.call_history.specs.Parts.{is_on, is_carried, stands_so, noted_on, ops_of, got_by}
use Rattle.call_history.specs.Shows.{tag_by, IsTold, ShowsPage, Carries, SeesSo, got_from, Grown}
use Rattle.call_history.proofs.Told.{content-append, ops_of_push, noted_push, get_push, get_old, get_last, take_old, take_front, seen_got}

module _ (g : Given) (D D' : ℕ → List Done) (a : ℕ) (d : Done) (grown : Grown D D' a d) where
  -- the tags of a page on which the piece doesn't stand
  turns_still : (p b : ℕ) (order : List Tag) → is_on p d ≡ false → ops_of b order ≡ noted_on p (D b)
      → ops_of b order ≡ noted_on p (D' b)
  turns_still p b order off h = h ∙ sym (dite (ℕ_discrete b a)
      (λ s. subst (λ (c : ℕ). noted_on p (D' c) ≡ noted_on p (D c)) (sym s)
      (ap (noted_on p) grown.here
      ∙ noted_push p (D a) d ∙ rw off (append-nil (noted_on p (D a)))))
      (λ ne. ap (noted_on p) (grown.others b ne)))

  -- a piece that is over now was so before, or it is the new one
  was : (b i : ℕ) (x : Done) → slice_get (D' b) i ≡ Some x
      → (slice_get (D b) i ≡ Some x) ⊎ ((b ≡ a) × (d ≡ x))
  was b i x e = dite (ℕ_discrete b a)
      (λ s. ⊎_elim
      (λ old. inl (ap (λ (c : ℕ). slice_get (D c) i) s ∙ old))
      (λ new. inr (s, new))
      (get_push (D a) d i x (ap (λ (ds : List Done). slice_get ds i) (sym grown.here)
      ∙ (ap (λ (c : ℕ). slice_get (D' c) i) (sym s) ∙ e))))
      (λ ne. inl (ap (λ (ds : List Done). slice_get ds i) (sym (grown.others b ne)) ∙ e))

  pub page_still : (p : ℕ) (page : List ℕ) (order : List Tag) → is_on p d ≡ false
      → ShowsPage g D p page order
      → ShowsPage g D' p page order
  page_still p page order off sh = record {
    holds = sh.holds;
    turns = λ b. turns_still p b order off (sh.turns b);
    reads = λ b i x at on. ⊎_elim
        (λ old. sh.reads b i x old on)
        (λ new. absurd (let q : true ≡ false = sym on ∙ (ap (is_on p) (sym new.1) ∙ off) in cc))
        (was b i x at);
  }

  -- what stands in an order stands in a longer one, at its place
  told_still : (b : ℕ) (x : Done) (order more : List Tag) → IsTold g b x order
      → IsTold g b x (order ++ more)
  told_still b x order more (at, here, got) = (
    at,
    get_old order more at (tag_by b x.part) here,
    got ∙ ap (λ (ts : List Tag). cond (is_carried x.end)
        (got_by x.part.op x.part.page (found_in g x.part.page (tag_by b x.part) ts)) [])
        (sym (take_old order more at (tag_by b x.part) here)),
  )

  module _ (p : Part) (page seen : List ℕ) (order : List Tag) (page' : List ℕ) (order' : List Tag)
      (is : d.part ≡ p) (stands : stands_so p.op d.end ≡ true)
      (work : Carries a p (g.finds p.page (tag_by a p)) page order page' order')
      (named_p : named g.actors (tag_by a p) ≡ Some p.op)
      (sees : SeesSo p.op (g.finds p.page (tag_by a p)) p.page page seen)
      (got : d.got ≡ cond (is_carried d.end) (got_from seen p) [])
      (sh : ShowsPage g D p.page page order) where
    on_here : is_on p.page d ≡ true
    on_here = and_from (eqb d.part.page p.page) (stands_so d.part.op d.end)
        (eq-eqb d.part.page p.page (ap (λ (q : Part). q.page) is))
        (ap (λ (q : Part). stands_so q.op d.end) is ∙ stands)

    -- what the piece reads is what it finds after the order before its tag
    got_is : d.got ≡ cond (is_carried d.end) (got_by d.part.op d.part.page
        (found_in g d.part.page (tag_by a d.part) order)) []
    got_is = got
        ∙ ap (λ (xs : List (List ℕ)). cond (is_carried d.end) xs [])
        (seen_got p.op (g.finds p.page (tag_by a p)) p.page page seen (held_after g p.page order)
        sees sh.holds
        ∙ ap (λ (q : Part). got_by q.op q.page (found_in g q.page (tag_by a q) order)) (sym is))

    new_told : IsTold g a d (order ++ tag_by a p ∷ [])
    new_told = (
      length order,
      get_last order (tag_by a p) ∙ ap (λ (q : Part). Some (tag_by a q)) (sym is),
      got_is ∙ ap (λ (ts : List Tag). cond (is_carried d.end)
          (got_by d.part.op d.part.page (found_in g d.part.page (tag_by a d.part) ts)) [])
          (sym (take_front order (tag_by a p ∷ []))),
    )

    turns_here : (b : ℕ) → ops_of b (order ++ tag_by a p ∷ []) ≡ noted_on p.page (D' b)
    turns_here b = ops_of_push b order (tag_by a p) ∙ dite (ℕ_discrete b a)
        (λ s. subst (λ (c : ℕ). ops_of c order ++ cond (eqb a c) (p.nr ∷ []) []
        ≡ noted_on p.page (D' c)) (sym s)
        (rw (eq-eqb a a refl) (ap (λ (xs : List ℕ). xs ++ p.nr ∷ []) (sh.turns a)
        ∙ sym (ap (noted_on p.page) grown.here ∙ noted_push p.page (D a) d
        ∙ rw on_here (ap (λ (q : Part). noted_on p.page (D a) ++ q.nr ∷ []) is)))))
        (λ ne. rw (ne_eqb a b (λ s. ne (sym s))) (append-nil (ops_of b order) ∙ sh.turns b
        ∙ ap (noted_on p.page) (sym (grown.others b ne))))

    pub page_here : ShowsPage g D' p.page page' order'
    page_here = record {
      holds = λ k lt.
          let s = 8 * p.page + k in
          let look = g.finds p.page (tag_by a p) in
          work.holds k lt
          ∙ ap (λ (old : List ℕ). sector_after p.op s (start_from p.op look s old)) (sh.holds k lt)
          ∙ sym (ap (λ (ts : List Tag). held_after g p.page ts s) work.notes
          ∙ content-append (calls_on g p.page) s (g.before s) order (tag_by a p ∷ [])
          ∙ ap (λ (o : Option Op). sector_after_named o look s (held_after g p.page order s))
          named_p);
      turns = λ b. ap (ops_of b) work.notes ∙ turns_here b;
      reads = λ b i x at on. subst (IsTold g b x) (sym work.notes) (⊎_elim
          (λ old. told_still b x order (tag_by a p ∷ []) (sh.reads b i x old on))
          (λ new. subst (λ (c : ℕ × Done). IsTold g c.0 c.1 (order ++ tag_by a p ∷ []))
          (λ j. (sym new.0 j, new.1 j)) new_told)
          (was b i x at));
    }
