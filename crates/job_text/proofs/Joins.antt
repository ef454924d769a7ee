-- Words one after the other.
use Rattle.std.proofs.Common.{◌≡◌, ℕ, ◌+◌, ◌<◌, true, false, List, [], ◌∷◌, ◌++◌, length, map, take, get_or, sym, ap, ◌∙◌}
use Rattle.std.proofs.lemmas.Bool.{true_from_ne_false, both_ways}
use Rattle.std.specs.Borrow.{Bor}
use Rattle.std.specs.List.{concat, list_all}
use Rattle.std.proofs.lemmas.List.{take_more, map-append, append-nil}
use Rattle.std.proofs.lemmas.List.Folds.{concat-append, list_all_at, list_all-map}
use Rattle.job_text.specs.Numbers.{is_turn, turn_of}
use Rattle.job_text.specs.Lines.{may_give}

pub joined_more : (words : List (Bor (List ℕ))) (before : List ℕ) (i : ℕ) (word : Bor (List ℕ))
    → before ≡ concat (map (λ word. word.now) (take i words)) → i < length words
    → before ++ (get_or words i word).now ≡ concat (map (λ word. word.now) (take (i + 1) words))
joined_more words before i word is below =
    ap (λ (xs : List ℕ). xs ++ (get_or words i word).now) is
    ∙ sym (
    ap (λ ws. concat (map (λ (word : Bor (List ℕ)). word.now) ws)) (take_more words i word below)
    ∙ ap concat (map-append (λ (word : Bor (List ℕ)). word.now) (take i words)
    (get_or words i word ∷ []))
    ∙ concat-append (map (λ (word : Bor (List ℕ)). word.now) (take i words))
    ((get_or words i word).now ∷ [])
    ∙ ap (λ (xs : List ℕ). concat (map (λ (word : Bor (List ℕ)). word.now) (take i words)) ++ xs)
    (append-nil (get_or words i word).now)
    )

module _ (words : List (Bor (List ℕ))) (i : ℕ) (d : Bor (List ℕ)) (below : i < length words) where
  pub turn_at : list_all is_turn (map (λ word. word.now) words) ≡ true
      → is_turn (get_or words i d).now ≡ true
  turn_at all = true_from_ne_false _
      (λ e. both_ways _ (list_all-map is_turn (λ (word : Bor (List ℕ)). word.now) words
      ∙ list_all_at (λ (word : Bor (List ℕ)). is_turn word.now) words i d below e) all)

  pub bad_at : may_give (turn_of (get_or words i d).now) ≡ false
      → list_all may_give (map turn_of (map (λ word. word.now) words)) ≡ false
  bad_at bad =
      list_all-map may_give turn_of (map (λ (word : Bor (List ℕ)). word.now) words)
      ∙ list_all-map (λ word. may_give (turn_of word)) (λ (word : Bor (List ℕ)). word.now) words
      ∙ list_all_at (λ (word : Bor (List ℕ)). may_give (turn_of word.now)) words i d below bad
