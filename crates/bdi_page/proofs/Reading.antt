-- Reading: how far a packing is read, and what any page with this packing has left.
use Rattle.std.proofs.Common.{◌≡◌, ℕ, suc, ◌+◌, ◌-◌, ◌*◌, ◌<◌, ◌≤◌, List, [], ◌∷◌, ◌++◌, length, take, drop, get_or, refl, sym, ap, ◌∙◌, arith, append_assoc, length-append, length-drop}
use Rattle.std.proofs.lemmas.List.{take_all, drop_at, drop-drop, take_more, append-nil}
use Rattle.std.proofs.lemmas.Simd.{length-chunk, get_or-chunk}
use Rattle.std.specs.Simd.Lanes.{chunk}
use Rattle.bdi_line.specs.Coded.{IsByteLine}
use Rattle.bdi_line.specs.Packed.{payload_of}
use Rattle.bdi_page.specs.Packing.{IsPage, lines_of, codes_of, payloads_of, packed}
use Rattle.bdi_page.specs.Pairs.{first_line, second_line, HasPair, IsPairPut, IsPairRead}
use Rattle.bdi_page.proofs.Lines.{take_pair, lines_of-put, codes_of-two, length-codes_of, byte_at, payloads_of-two}

-- the lines before pair j are those that were read, and those from it on have their payloads at
-- `at`
pub record IsLeft (j : ℕ) (bytes read other : List ℕ) (at : ℕ) : Type 0 where
  pub same : take (128 * j) other ≡ take (128 * j) read
  pub rest : drop at bytes ≡ payloads_of (lines_of (32 - j) (drop (128 * j) other))

-- the pairs before j were read, up to `at`
pub record Reads (j : ℕ) (bytes read : List ℕ) (at : ℕ) : Type 0 where
  pub codes : take j bytes ≡ codes_of (lines_of j read)
  pub payloads : take at bytes ≡ take 32 bytes ++ payloads_of (lines_of j read)
  pub left : (other : List ℕ) → IsPage other → bytes ≡ packed other → IsLeft j bytes read other at

longer : (bytes xs ys : List ℕ) (n : ℕ) → bytes ≡ xs ++ ys → length xs ≡ n → n ≤ length bytes
longer bytes xs ys n e long = omega (arith, ap length e, length-append xs ys)

pub long_enough : (page bytes : List ℕ) → bytes ≡ packed page → 32 ≤ length bytes
unfolding packed
long_enough page bytes e =
    longer bytes (codes_of (lines_of 32 page)) (payloads_of (lines_of 32 page)) 32 e
    (length-codes_of 32 page)

pub left_none : (bytes read other : List ℕ) → bytes ≡ packed other → IsLeft 0 bytes read other 32
unfolding packed
left_none bytes read other e = record {
  same = refl;
  rest = ap (drop 32) e
      ∙ drop_at (codes_of (lines_of 32 other)) (payloads_of (lines_of 32 other)) 32
      (length-codes_of 32 other);
}

line_of_page : (page : List ℕ) (at : ℕ) → IsPage page → at + 64 ≤ 4096
    → IsByteLine (chunk at 64 page)
line_of_page page at is le =
    let long : length (chunk at 64 page) ≡ 64 = length-chunk at 64 page (omega (arith, is.0)) in (
      long,
      λ k d lt.
          (let inside : k < 64 = omega arith in
          let e = get_or-chunk at 64 page k d inside in
          omega (arith, e, is.1 (at + k) d (omega (arith, is.0)))),
    )

-- the payloads of the lines of a page after pair j
abbrev pub behind : ℕ → List ℕ → List ℕ
behind j page = payloads_of (lines_of (32 - (j + 1)) (drop (128 * (j + 1)) page))

-- the two lines of a page that stand at pair j
pub has_pair : (j at : ℕ) (bytes read other : List ℕ) → j < 32 → IsPage other → bytes ≡ packed other
    → IsLeft j bytes read other at
    → HasPair bytes j at (first_line other j) (second_line other j) (behind j other)
unfolding packed
has_pair j at bytes read other lt is e left =
    let there = drop (128 * j) other in
    let rest : drop 128 there ≡ drop (128 * (j + 1)) other =
    drop-drop 128 (128 * j) other
    ∙ ap (λ n. drop n other) (let n : 128 * j + 128 ≡ 128 * (j + 1) = omega arith in n) in
    record {
      first_is = line_of_page other (128 * j) is (omega arith);
      second_is = line_of_page other (128 * j + 64) is (omega arith);
      byte_is = ap (λ l. get_or l j 0) e ∙ byte_at 32 j other _ lt;
      here =
          left.rest
          ∙ ap (λ n. payloads_of (lines_of n there))
          (let n : 32 - j ≡ suc (32 - (j + 1)) = omega arith in n)
          ∙ (λ i. payload_of (first_line other j)
          ++ (payload_of (take 64 (drop-drop 64 (128 * j) other i))
          ++ payloads_of (lines_of (32 - (j + 1)) (rest i))));
    }

pub left_more : (j at next : ℕ) (bytes old new other : List ℕ) → length other ≡ 4096 → j < 32
    → IsLeft j bytes old other at
    → IsPairPut bytes j old new (first_line other j) (second_line other j) (behind j other) next
    → IsLeft (j + 1) bytes new other next
left_more j at next bytes old new other long lt left put =
    record {
      same = take_pair j other ∙ ap (λ l. l ++ (first_line other j ++ second_line other j))
          left.same ∙ sym put.lines;
      rest = sym put.rest_is;
    }

pub reads_none : (bytes read : List ℕ) → Reads 0 bytes read 32
reads_none bytes read = record {
  codes = refl;
  payloads = sym (append-nil (take 32 bytes));
  left = λ other is e. left_none bytes read other e;
}

pub reads_more : (j at next : ℕ) (bytes old new : List ℕ) → j < 32 → 32 ≤ length bytes
    → length old ≡ 4096 → IsPairRead bytes j at old new next → Reads j bytes old at
    → Reads (j + 1) bytes new next
reads_more j at next bytes old new lt some long r h =
    let lines = lines_of-put j old new r.first r.second (omega arith) r.first_is r.second_is
    r.lines in
    record {
      codes =
          take_more bytes j 0 (omega arith)
          ∙ (λ i. h.codes i ++ r.byte_is i ∷ [])
          ∙ sym (ap codes_of lines ∙ codes_of-two j old r.first r.second);
      payloads =
          r.payloads_are
          ∙ ap (λ l. l ++ (payload_of r.first ++ payload_of r.second)) h.payloads
          ∙ append_assoc (take 32 bytes) (payloads_of (lines_of j old))
          (payload_of r.first ++ payload_of r.second)
          ∙ ap (λ l. take 32 bytes ++ l)
          (sym (ap payloads_of lines ∙ payloads_of-two (lines_of j old) r.first r.second));
      left = λ other is e.
          (let left = h.left other is e in
          let found = r.only _ _ _ (has_pair j at bytes old other lt is e left) in
          left_more j at next bytes old new other is.0 lt left (record {
            lines = r.lines ∙ (λ i. take (128 * j) old ++ (sym found.0 i ++ sym found.1 i));
            rest_is = found.2;
            within = r.within;
          }));
    }

pub reads_all : (bytes read : List ℕ) (at : ℕ) → at ≡ length bytes → Reads 32 bytes read at
    → bytes ≡ packed read
unfolding packed
reads_all bytes read at all h =
    sym (take_all at bytes (omega arith)) ∙ h.payloads
    ∙ ap (λ l. l ++ payloads_of (lines_of 32 read)) h.codes

pub left_end : (bytes read other : List ℕ) (at : ℕ) → at ≤ length bytes
    → IsLeft 32 bytes read other at
    → at ≡ length bytes
left_end bytes read other at within left = omega (arith, ap length left.rest, length-drop at bytes)

pub left_same : (bytes read other : List ℕ) (at : ℕ) → length read ≡ 4096 → length other ≡ 4096
    → IsLeft 32 bytes read other at → other ≡ read
left_same bytes read other at long is left =
    sym (take_all 4096 other (omega arith)) ∙ left.same ∙ take_all 4096 read (omega arith)
