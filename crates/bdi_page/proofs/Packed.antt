-- A page has its packing, and no other.
use Rattle.std.proofs.Common.{◌≡◌, ℕ, zero, suc, ◌*◌, List, [], ◌∷◌, ◌++◌, length, take, drop, map, refl, sym, subst, ◌∙◌, arith, length-drop}
use Rattle.std.proofs.lemmas.List.{drop-drop, length-take-le}
use Rattle.bdi_line.specs.Packed.{code_of, payload_of, HasOneCoding}
use Rattle.bdi_line.specs.declared.codes.Code.{Code}
use Rattle.bdi_page.specs.Packing.{code_bytes, AreCoded, lines_of, payloads_of, packed, HasOnePacking}

module _ (law : (line : List ℕ) → length line ≡ 64 → HasOneCoding line) where
  lines_coded : (n : ℕ) (page : List ℕ) → length page ≡ 128 * n
      → AreCoded (map code_of (lines_of n page)) page (payloads_of (lines_of n page))
  lines_coded zero [] e = (refl, refl)
  lines_coded zero (x ∷ xs) e = absurd (omega arith)
  lines_coded (suc n) page e =
      let one = take 64 page in
      let two = take 64 (drop 64 page) in
      let long = length-drop 64 page in
      let more = lines_coded n (drop 128 page) (omega (arith, length-drop 128 page)) in
      let P : List ℕ → Type 0 = λ l.
      AreCoded (map code_of (lines_of n (drop 128 page))) l
      (payloads_of (lines_of n (drop 128 page))) in (
        payload_of one,
        payload_of two ++ payloads_of (lines_of n (drop 128 page)),
        refl,
        omega arith,
        (law one (length-take-le 64 page (omega arith))).coded,
        (
          payload_of two,
          payloads_of (lines_of n (drop 128 page)),
          refl,
          omega arith,
          (law two (length-take-le 64 (drop 64 page) (omega arith))).coded,
          subst P (sym (drop-drop 64 64 page)) more,
        ),
      )

  coded_lines : (n : ℕ) (cs : List Code) (page ps : List ℕ) → length cs ≡ 2 * n
      → AreCoded cs page ps
      → (cs ≡ map code_of (lines_of n page)) × (ps ≡ payloads_of (lines_of n page))
  coded_lines zero [] page ps e h = (refl, h.1)
  coded_lines zero (c ∷ cs) page ps e h = absurd (omega (arith, e))
  coded_lines (suc n) [] page ps e h = absurd (omega (arith, e))
  coded_lines (suc n) (c ∷ []) page ps e h = absurd (omega (arith, e))
  coded_lines (suc n) (c ∷ d ∷ cs) page ps e (p, r, f, le, first, (q, t, g, le2, second, more)) =
      let one = (law (take 64 page) (length-take-le 64 page le)).one c p first in
      let two = (law (take 64 (drop 64 page)) (length-take-le 64 (drop 64 page) le2)).one d q
      second in
      let P : List ℕ → Type 0 = λ l. AreCoded cs l t in
      let rest = coded_lines n cs (drop 128 page) t (omega (arith, e))
      (subst P (drop-drop 64 64 page) more) in (
        (λ i. one.0 i ∷ two.0 i ∷ rest.0 i),
        f ∙ (λ i. one.1 i ++ (g ∙ (λ k. two.1 k ++ rest.1 k)) i),
      )

  pub one_packing : (page : List ℕ) → length page ≡ 4096 → HasOnePacking page
  unfolding packed
  one_packing page long = record {
    packing = record {
      codes = map code_of (lines_of 32 page);
      payloads = payloads_of (lines_of 32 page);
      count = refl;
      bytes_is = refl;
      coded = lines_coded 32 page (omega arith);
    };
    one = λ bytes k.
        (let same = coded_lines 32 k.codes page k.payloads k.count k.coded in
        k.bytes_is ∙ (λ i. code_bytes (same.0 i) ++ same.1 i));
  }
