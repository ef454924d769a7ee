-- The packing of a page has bytes, and 32 of them at least.
use Rattle.std.proofs.Common.{◌≡◌, ℕ, zero, suc, ◌*◌, ◌<◌, ◌≤◌, List, [], ◌∷◌, ◌++◌, length, take, drop, arith, length-append, length-drop}
use Rattle.std.specs.Prelude.{All}
use Rattle.std.proofs.lemmas.List.{length-take-le}
use Rattle.std.proofs.lemmas.List.Elements.{All-append, All-take, All-drop}
use Rattle.bdi_line.specs.Coded.{IsByteLine, code_number}
use Rattle.bdi_line.specs.Packed.{code_of, payload_of}
use Rattle.bdi_line.specs.declared.codes.Code.{Code}
use Rattle.bdi_page.specs.Packing.{IsPage, lines_of, codes_of, payloads_of, packed}
use Rattle.bdi_page.proofs.Lines.{length-codes_of}

abbrev AreBytes : List ℕ → Type 0
AreBytes bytes = All (λ b. b < 256) bytes

long_by : (n : ℕ) (front rest : List ℕ) → length front ≡ n → n ≤ length (front ++ rest)
long_by n front rest e = omega (arith, length-append front rest)

pub packed_long : (page : List ℕ) → 32 ≤ length (packed page)
unfolding packed
packed_long page =
    long_by 32 (codes_of (lines_of 32 page)) (payloads_of (lines_of 32 page))
    (length-codes_of 32 page)

no_bytes : AreBytes []
no_bytes k d lt = absurd (omega arith)

module _ (few : (code : Code) → code_number code ≤ 8)
    (law : (line : List ℕ) → IsByteLine line → AreBytes (payload_of line)) where
  byte_first : (b : ℕ) (bytes : List ℕ) → b < 256 → AreBytes bytes → AreBytes (b ∷ bytes)
  byte_first b bytes low rest zero d lt = low
  byte_first b bytes low rest (suc k) d lt = rest k d (omega arith)

  codes_bytes : (n : ℕ) (page : List ℕ) → AreBytes (codes_of (lines_of n page))
  codes_bytes zero page = no_bytes
  codes_bytes (suc n) page =
      byte_first _ (codes_of (lines_of n (drop 128 page)))
      (let one = few (code_of (take 64 page)) in
      let two = few (code_of (take 64 (drop 64 page))) in
      omega arith) (codes_bytes n (drop 128 page))

  payloads_bytes : (n : ℕ) (page : List ℕ) → length page ≡ 128 * n → AreBytes page
      → AreBytes (payloads_of (lines_of n page))
  payloads_bytes zero page long bytes = no_bytes
  payloads_bytes (suc n) page long bytes =
      let P : ℕ → Type 0 = λ b. b < 256 in
      let one = take 64 page in
      let two = take 64 (drop 64 page) in
      let rest = payloads_of (lines_of n (drop 128 page)) in
      All-append P (payload_of one) (payload_of two ++ rest)
      (law one (length-take-le 64 page (omega arith), All-take P 64 page bytes))
      (All-append P (payload_of two) rest
      (law two (
        length-take-le 64 (drop 64 page) (omega (arith, length-drop 64 page)),
        All-take P 64 (drop 64 page) (All-drop P 64 page bytes),
      ))
      (payloads_bytes n (drop 128 page) (omega (arith, length-drop 128 page))
      (All-drop P 128 page bytes)))

  pub packed_bytes : (page : List ℕ) → IsPage page → AreBytes (packed page)
  unfolding packed
  packed_bytes page is =
      All-append (λ b. b < 256) (codes_of (lines_of 32 page)) (payloads_of (lines_of 32 page))
      (codes_bytes 32 page) (payloads_bytes 32 page is.0 is.1)
