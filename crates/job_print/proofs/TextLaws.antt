-- Texts of lines: where a line ends, and that a text has one list of lines.
use Rattle.std.proofs.Common.{◌≡◌, ℕ, ◌+◌, ◌<◌, ◌==◌, List, [], ◌∷◌, ◌++◌, length, take, drop, position, Some, None, refl, ap, sym, ◌∙◌, append_assoc, arith}
use Rattle.std.specs.List.{AllByRecursion}
use Rattle.std.proofs.Math.Seq.{take-append_seam, drop-append-add}
use Rattle.std.proofs.lemmas.List.{length-append}
use Rattle.job_print.specs.declared.line.OutLine.{OutLine}
use Rattle.job_print.specs.Texts.{name_of, words_of, spaced, out_line, out_text}
use Rattle.job_print.specs.Proper.{IsProper}
use Rattle.job_print.specs.Reading.{line_in}
use Rattle.job_print.specs.Outputs.{IsText, IsFaulty, HasFault}
use Rattle.job_print.proofs.Marks.{position-marked, position_marks, line_lacks}
use Rattle.job_print.proofs.LineLaws.{name_word, words_words, line_in-line, line_in_some}

-- a line without the byte that ends it
abbrev body : OutLine → List ℕ
body line = name_of line ++ spaced (words_of line)

-- ---- the first line of a text

module _ (line : OutLine) (more : List ℕ) (is : IsProper line) where
  ends : position (λ c. c == 10) (body line ++ 10 ∷ more) ≡ Some (length (body line))
  ends = position-marked 10 (body line) more
      (line_lacks (name_of line) (words_of line) (name_word line) (words_words line is))

module _ (rest : List ℕ) where
  ended : (line : OutLine) (more : List ℕ) → rest ≡ out_line line ++ more
      → rest ≡ body line ++ 10 ∷ more
  ended line more e = e ∙ append_assoc (body line) (10 ∷ []) more

  pub faulty_none : position (λ c. c == 10) rest ≡ None → IsFaulty rest
  faulty_none none line more is e =
      let some : position (λ c. c == 10) rest ≡ Some (length (body line)) =
      ap (position (λ c. c == 10)) (ended line more e) ∙ ends line more is in
      cc

  pub faulty_line : (at : ℕ) → position (λ c. c == 10) rest ≡ Some at
      → line_in (take at rest) ≡ None → IsFaulty rest
  faulty_line at found none line more is e =
      let some : position (λ c. c == 10) rest ≡ Some (length (body line)) =
      ap (position (λ c. c == 10)) (ended line more e) ∙ ends line more is in
      let same : at ≡ length (body line) = cc in
      let front : take at rest ≡ body line =
      ap (λ n. take n rest) same ∙ ap (take (length (body line))) (ended line more e)
      ∙ take-append_seam (body line) (10 ∷ more) in
      let told : line_in (take at rest) ≡ Some line = ap line_in front ∙ line_in-line line is in
      cc

  pub found_line : (at : ℕ) (line : OutLine) → position (λ c. c == 10) rest ≡ Some at
      → line_in (take at rest) ≡ Some line
      → IsProper line × (rest ≡ out_line line ++ drop (at + 1) rest)
  found_line at line found told =
      let p = line_in_some (take at rest) line told in (
        p.1,
        sym (position_marks 10 at rest found)
            ∙ ap (λ xs. xs ++ 10 ∷ drop (at + 1) rest) (sym p.0)
            ∙ sym (append_assoc (body line) (10 ∷ []) (drop (at + 1) rest)),
      )

-- ---- one list of lines

same_heads : (a b : OutLine) (x y : List ℕ) → IsProper a → IsProper b
    → out_line a ++ x ≡ out_line b ++ y → (a ≡ b) × (x ≡ y)
same_heads a b x y p q e =
    let joined : body a ++ 10 ∷ x ≡ body b ++ 10 ∷ y =
    sym (append_assoc (body a) (10 ∷ []) x) ∙ e ∙ append_assoc (body b) (10 ∷ []) y in
    let first = ends a x p in
    let second = ends b y q in
    let both : Some (length (body a)) ≡ Some (length (body b)) =
    sym first ∙ ap (position (λ c. c == 10)) joined ∙ second in
    let same : length (body a) ≡ length (body b) = cc in
    let front : body a ≡ body b =
    sym (take-append_seam (body a) (10 ∷ x))
    ∙ ap (λ n. take n (body a ++ 10 ∷ x)) same
    ∙ ap (take (length (body b))) joined ∙ take-append_seam (body b) (10 ∷ y) in
    let lines : Some a ≡ Some b =
    sym (line_in-line a p) ∙ ap line_in front ∙ line_in-line b q in
    let line : a ≡ b = cc in (
      line,
      sym (drop-append-add (body a) (10 ∷ x) 1)
          ∙ ap (λ n. drop (n + 1) (body a ++ 10 ∷ x)) same
          ∙ ap (drop (length (body b) + 1)) joined ∙ drop-append-add (body b) (10 ∷ y) 1,
    )

some_bytes : (line : OutLine) (more : List ℕ) → 0 < length (out_line line ++ more)
some_bytes line more =
    let a = length-append (out_line line) more in
    let b = length-append (body line) (10 ∷ []) in
    omega (arith, a, b)

pub only_text : (bytes : List ℕ) (xs ys : List OutLine) → IsText bytes xs → IsText bytes ys → ys ≡ xs
only_text bytes xs ys p q = by xs ys p.0 q.0 (sym p.1 ∙ q.1)
  where
    by : (xs ys : List OutLine) → AllByRecursion IsProper xs → AllByRecursion IsProper ys
        → out_text xs ≡ out_text ys → ys ≡ xs
    by [] [] p q e = refl
    by [] (y ∷ ys) p q e =
        let some = some_bytes y (out_text ys) in absurd (omega (arith, some, ap length e))
    by (x ∷ xs) [] p q e =
        let some = some_bytes x (out_text xs) in absurd (omega (arith, some, ap length e))
    by (x ∷ xs) (y ∷ ys) p q e =
        let heads = same_heads x y (out_text xs) (out_text ys) p.0 q.0 e in
        ap (λ l. l ∷ ys) (sym heads.0) ∙ ap (λ ls. x ∷ ls) (by xs ys p.1 q.1 heads.1)

pub no_text : (bytes : List ℕ) (number : ℕ) (lines : List OutLine) → HasFault bytes number
    → IsText bytes lines → ⊥
no_text bytes number lines f t = by f.front lines f.proper t.0 (sym t.1 ∙ f.parts)
  where
    by : (front lines : List OutLine) → AllByRecursion IsProper front → AllByRecursion IsProper lines
        → out_text lines ≡ out_text front ++ f.rest → ⊥
    by [] [] p q e = let some = f.some in omega (arith, some, ap length e)
    by [] (l ∷ ls) p q e = f.faulty l (out_text ls) q.0 (sym e)
    by (x ∷ xs) [] p q e =
        let joined = append_assoc (out_line x) (out_text xs) f.rest in
        let some = some_bytes x (out_text xs ++ f.rest) in
        omega (arith, some, ap length (e ∙ joined))
    by (x ∷ xs) (l ∷ ls) p q e =
        by xs ls p.1 q.1 (same_heads l x (out_text ls) (out_text xs ++ f.rest) q.0 p.0
        (e ∙ append_assoc (out_line x) (out_text xs) f.rest)).1
