-- A packing tells its page.
use Rattle.std.proofs.Common.{◌≡◌, ℕ, ◌+◌, ◌-◌, ◌*◌, ◌<◌, ◌≤◌, List, [], ◌∷◌, ◌++◌, length, take, drop, refl, sym, ap, subst, ◌∙◌, arith}
use Rattle.std.proofs.lemmas.List.{take_at, drop_at, length-take-le, take-append-drop}
use Rattle.std.proofs.lemmas.List.Elements.{All-take, All-drop}
use Rattle.std.specs.Prelude.{All}
use Rattle.bdi_line.specs.Coded.{IsByteLine, IsCoded, code_number}
use Rattle.bdi_line.specs.declared.codes.Code.{Code}
use Rattle.bdi_page.specs.Packing.{code_bytes, AreCoded, IsPacking, IsPage}

-- two lists, each in two parts of which the first are equally long
parts_same : (a r b t : List ℕ) → length a ≡ length b → a ++ r ≡ b ++ t → (a ≡ b) × (r ≡ t)
parts_same a r b t long e = (
  sym (take_at a r (length b) long) ∙ ap (take (length b)) e ∙ take_at b t (length b) refl,
  sym (drop_at a r (length b) long) ∙ ap (drop (length b)) e ∙ drop_at b t (length b) refl,
)

module _ (few : (code : Code) → code_number code ≤ 8)
    (tell : (code other : Code) → code_number code ≡ code_number other → code ≡ other) where
  -- the bytes of codes tell them
  codes_same : (cs ds : List Code) → length cs ≡ length ds → code_bytes cs ≡ code_bytes ds → cs ≡ ds
  codes_same [] [] long e = refl
  codes_same [] (d ∷ ds) long e = absurd (omega arith)
  codes_same (c ∷ cs) [] long e = absurd (omega arith)
  codes_same (c ∷ []) (d ∷ []) long e =
      let same : code_number c ≡ code_number d = cc in
      ap (λ x. x ∷ []) (tell c d same)
  codes_same (c ∷ []) (d ∷ f ∷ ds) long e = absurd (omega arith)
  codes_same (c ∷ b ∷ cs) (d ∷ []) long e = absurd (omega arith)
  codes_same (c ∷ b ∷ cs) (d ∷ f ∷ ds) long e =
      let byte : code_number c + 16 * code_number b ≡ code_number d + 16 * code_number f = cc in
      let rest : code_bytes cs ≡ code_bytes ds = cc in
      let one = tell c d (omega (arith, few c, few d, byte)) in
      let two = tell b f (omega (arith, few c, few d, byte)) in
      let more = codes_same cs ds (omega arith) rest in
      λ i. one i ∷ two i ∷ more i

  length-code_bytes : (n : ℕ) (cs : List Code) → length cs ≡ 2 * n → length (code_bytes cs) ≡ n
  length-code_bytes n [] e = omega arith
  length-code_bytes n (c ∷ []) e = absurd (omega arith)
  length-code_bytes n (c ∷ b ∷ cs) e =
      omega (arith, length-code_bytes (n - 1) cs (omega arith))

  module _ (line : (code : Code) (payload one other : List ℕ) → IsByteLine one → IsByteLine other
      → IsCoded one code payload → IsCoded other code payload → one ≡ other) where
    lines_same : (cs : List Code) (p q ps : List ℕ) → All (λ b. b < 256) p → All (λ b. b < 256) q
        → AreCoded cs p ps → AreCoded cs q ps → p ≡ q
    lines_same [] p q ps below low k l = k.0 ∙ sym l.0
    lines_same (c ∷ cs) p q ps below low (a, r, e, le, k, more) (b, t, f, ge, l, rest) =
        let part = parts_same a r b t (k.size_is ∙ sym l.size_is) (sym e ∙ f) in
        let P : List ℕ → Type 0 = IsCoded (take 64 q) c in
        let Q : List ℕ → Type 0 = AreCoded cs (drop 64 q) in
        let first = line c a (take 64 p) (take 64 q)
        (length-take-le 64 p le, All-take (λ b. b < 256) 64 p below)
        (length-take-le 64 q ge, All-take (λ b. b < 256) 64 q low) k (subst P (sym part.0) l) in
        let second = lines_same cs (drop 64 p) (drop 64 q) r (All-drop (λ b. b < 256) 64 p below)
        (All-drop (λ b. b < 256) 64 q low) more (subst Q (sym part.1) rest) in
        sym (take-append-drop 64 p) ∙ (λ i. first i ++ second i) ∙ take-append-drop 64 q

    pub pages_same : (bytes p q : List ℕ) → IsPage p → IsPage q → IsPacking p bytes
        → IsPacking q bytes → p ≡ q
    pages_same bytes p q page other k l =
        let part = parts_same (code_bytes k.codes) k.payloads (code_bytes l.codes) l.payloads
        (length-code_bytes 32 k.codes k.count ∙ sym (length-code_bytes 32 l.codes l.count))
        (sym k.bytes_is ∙ l.bytes_is) in
        let codes = codes_same k.codes l.codes (k.count ∙ sym l.count) part.0 in
        let P : List Code → Type 0 = λ cs. AreCoded cs q l.payloads in
        let Q : List ℕ → Type 0 = AreCoded k.codes q in
        lines_same k.codes p q k.payloads page.1 other.1 k.coded
        (subst Q (sym part.1) (subst P (sym codes) l.coded))
