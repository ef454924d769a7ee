use Rattle.std.specs.Prelude.{codes, IsTrue}
use Rattle.std.proofs.Common.{◌≡◌, ℕ, ◌<◌, ◌≤◌, List, [], ◌∷◌, length, map, get_or, Bor, refl, sym, ap, ◌∙◌, subst, arith}
use Rattle.std.proofs.lemmas.Bool.{true≢false}
use Rattle.std.proofs.lemmas.Slice.Eq.{bytes_eq-Decides}
use Rattle.job_session.specs.declared.words.Asked.{Asked}
use Rattle.job_session.specs.declared.words.Asked.TheVariants as asks
use Rattle.job_session.specs.Runs.{is_run_word, AreGenNumbers}
use Rattle.job_session.specs.Generated.{Asks, GenAsks}
use Rattle.job_session.proofs.words.asked_by.Goals as goal

-- three words
three_words : (words : List (Bor (List ℕ))) (d : Bor (List ℕ)) → 3 ≤ length words
    → length words < 4
    → map (λ word. word.now) words
    ≡ (get_or words 0 d).now ∷ (get_or words 1 d).now ∷ (get_or words 2 d).now ∷ []
three_words [] d some few = absurd (omega (arith, some))
three_words (a ∷ []) d some few = absurd (omega (arith, some))
three_words (a ∷ b ∷ []) d some few = absurd (omega (arith, some))
three_words (a ∷ b ∷ c ∷ []) d some few = refl
three_words (a ∷ b ∷ c ∷ e ∷ words) d some few = absurd (omega (arith, few))

-- what they ask for, where the first is `gen`
asks_after : (words : List (Bor (List ℕ))) (first second : List ℕ)
    → map (λ word. word.now) words ≡ codes "gen" ∷ first ∷ second ∷ [] → (asked : Asked)
    → GenAsks first second asked → Asks words asked
asks_after words first second three asks.Run numbers = absurd numbers
asks_after words first second three (asks.Gen pages seed) numbers =
    record { first = first; second = second; three = three; numbers = numbers }
asks_after words first second three asks.Nothing none = record {
  not_run = λ run.
      let no = subst (λ (ws : List (List ℕ)). IsTrue (is_run_word ws)) three run in true≢false (sym no);
  not_gen = λ pages seed gen.
      let s = same gen.first gen.second (sym gen.three ∙ three) in
      none pages seed (subst (λ (a : List ℕ). AreGenNumbers a second pages seed) s.0
      (subst (λ (b : List ℕ). AreGenNumbers gen.first b pages seed) s.1 gen.numbers));
}
  where
    same : (a b : List ℕ) → codes "gen" ∷ a ∷ b ∷ [] ≡ codes "gen" ∷ first ∷ second ∷ []
        → (a ≡ first) × (b ≡ second)
    same a b is = (let p : a ≡ first = cc is in p, let q : b ≡ second = cc is in q)

pub returns-then-eq-2 : goal.returns-then-eq-2
returns-then-eq-2 c =
    let words = c.args.words.now in
    let d : Bor (List ℕ) = record { ref_ptr = (0, 0); now = [] } in
    let first = (get_or words 0 d).now in
    let gen : first ≡ codes "gen" =
    (bytes_eq-Decides first (codes "gen")).0 (sym c.eq-in-len3.ensures ∙ c.if-eq-2.true) in
    asks_after words (get_or words 1 d).now (get_or words 2 d).now
    (three_words words d c.in-len3.len_at_least c.in-len3.len_below
    ∙ ap (λ (w : List ℕ). w ∷ (get_or words 1 d).now ∷ (get_or words 2 d).now ∷ []) gen)
    c.asked_after.result c.asked_after.ensures
