-- One line, and then two, at a place in the bytes of a packing.
use Rattle.std.proofs.Common.{◌≡◌, ℕ, ◌+◌, ◌-◌, ◌*◌, ◌/◌, ◌%◌, ◌≤◌, List, ◌++◌, length, take, drop, get_or, sym, ap, subst, ◌∙◌, arith, append_assoc, length-append, length-drop}
use Rattle.std.proofs.lemmas.List.{take_at, drop_at, drop-drop}
use Rattle.bdi_line.specs.Coded.{IsCoded, code_number, size_of}
use Rattle.bdi_line.specs.Packed.{code_of, payload_of, HasOneCoding}
use Rattle.bdi_line.specs.declared.codes.Code.{Code}
use Rattle.bdi_page.specs.Pairs.{HasLine, IsLinePut, IsLineRead, HasPair, IsPairPut, IsPairRead}

-- ---- one line, whose code is the one with its number, and whose payload has n bytes

module _ (law : (line : List ℕ) → length line ≡ 64 → HasOneCoding line) (bytes : List ℕ)
    (number at n : ℕ) (code : Code) (size : n ≡ size_of code)
    (is : (other : Code) → code_number other ≡ number → other ≡ code) (line rest : List ℕ)
    (h : HasLine bytes number at line rest) where
  long_here : length (payload_of line) ≡ n
  long_here =
      (law line h.line_is.0).coded.size_is ∙ ap size_of (is (code_of line) h.number_is) ∙ sym size

  pub line_fits : n ≤ length bytes - at
  line_fits =
      omega (
        arith,
        ap length h.here,
        length-append (payload_of line) rest,
        length-drop at bytes,
        long_here,
      )

  pub coded_here : IsCoded line code (take (at + n - at) (drop at bytes))
  coded_here =
      let P : Code → Type 0 = λ c. IsCoded line c (payload_of line) in
      let Q : List ℕ → Type 0 = IsCoded line code in
      let piece : take (at + n - at) (drop at bytes) ≡ payload_of line =
      ap (take (at + n - at)) h.here ∙ take_at (payload_of line) rest (at + n - at)
      (omega (arith, long_here)) in
      subst Q (sym piece) (subst P (is (code_of line) h.number_is) (law line h.line_is.0).coded)

  pub rest_here : rest ≡ drop (at + n) bytes
  rest_here =
      sym (sym (drop-drop n at bytes) ∙ ap (drop n) h.here
      ∙ drop_at (payload_of line) rest n long_here)

-- ---- two lines

module _ (few : (code : Code) → code_number code ≤ 8) (bytes : List ℕ) (j at b : ℕ)
    (byte : b ≡ get_or bytes j 0) (one two rest : List ℕ) (h : HasPair bytes j at one two rest)
  where
    pub first_here : HasLine bytes (b % 16) at one (payload_of two ++ rest)
    first_here = record {
      line_is = h.first_is;
      number_is = omega (arith, h.byte_is, few (code_of one), few (code_of two));
      here = h.here;
    }

    pub second_here : (middle : ℕ) → payload_of two ++ rest ≡ drop middle bytes
        → HasLine bytes (b / 16) middle two rest
    second_here middle e = record {
      line_is = h.second_is;
      number_is = omega (arith, h.byte_is, few (code_of one), few (code_of two));
      here = sym e;
    }

-- two lines that were put one after the other
pair_lines : (j : ℕ) (old mid new f s : List ℕ)
    → take (64 * (2 * j + 1)) mid ≡ take (64 * (2 * j)) old ++ f
    → take (64 * (2 * j + 1 + 1)) new ≡ take (64 * (2 * j + 1)) mid ++ s
    → take (128 * (j + 1)) new ≡ take (128 * j) old ++ (f ++ s)
pair_lines j old mid new f s first second =
    ap (λ n. take n new) (let e : 128 * (j + 1) ≡ 64 * (2 * j + 1 + 1) = omega arith in e)
    ∙ second
    ∙ ap (λ l. l ++ s) (first
    ∙ ap (λ n. take n old ++ f) (let e : 64 * (2 * j) ≡ 128 * j = omega arith in e))
    ∙ append_assoc (take (128 * j) old) f s

module _ (few : (code : Code) → code_number code ≤ 8) (bytes old mid new : List ℕ)
    (j at middle next b : ℕ) (byte : b ≡ get_or bytes j 0) where
  pub pair_put : (one two rest : List ℕ) → HasPair bytes j at one two rest
      → ((l t : List ℕ) → HasLine bytes (b % 16) at l t
      → IsLinePut bytes (2 * j) old mid l t middle)
      → ((l t : List ℕ) → HasLine bytes (b / 16) middle l t
      → IsLinePut bytes (2 * j + 1) mid new l t next)
      → IsPairPut bytes j old new one two rest next
  pair_put one two rest h first second =
      let f = first one (payload_of two ++ rest)
      (first_here few bytes j at b byte one two rest h) in
      let s = second two rest (second_here few bytes j at b byte one two rest h middle f.rest_is) in
      record {
        lines = pair_lines j old mid new one two f.lines s.lines;
        rest_is = s.rest_is;
        within = s.within;
      }

  pub pair_read : (r : IsLineRead bytes (b % 16) at (2 * j) old mid middle)
      → (s : IsLineRead bytes (b / 16) middle (2 * j + 1) mid new next)
      → IsPairRead bytes j at old new next
  pair_read r s = record {
    first = r.line;
    second = s.line;
    first_is = r.long;
    second_is = s.long;
    byte_is = omega (arith, r.number_is, s.number_is);
    payloads_are =
        s.payload_is ∙ ap (λ l. l ++ payload_of s.line) r.payload_is
        ∙ append_assoc (take at bytes) (payload_of r.line) (payload_of s.line);
    from = omega (arith, r.from, s.from);
    within = s.within;
    lines = pair_lines j old mid new r.line s.line r.lines s.lines;
    only = λ one two rest h.
        (let f = r.only one (payload_of two ++ rest)
        (first_here few bytes j at b byte one two rest h) in
        let g = s.only two rest (second_here few bytes j at b byte one two rest h middle f.1) in
        (f.0, g.0, g.1));
  }
