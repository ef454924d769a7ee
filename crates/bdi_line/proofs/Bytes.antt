-- The payload of a line of bytes has bytes.
use Rattle.std.proofs.Common.{ℕ, ◌/◌, ◌<◌, List, [], ◌∷◌, ◌++◌, arith, lit<}
use Rattle.std.specs.Prelude.{All}
use Rattle.std.specs.Simd.Lanes.{digits_l}
use Rattle.std.proofs.lemmas.List.Elements.{All-append, All-take, All-from_get_or}
use Rattle.std.proofs.lemmas.Simd.{Each1-get_or}
use Rattle.bdi_line.specs.Line.{low_bytes, Shape, values, base_of, is_large, bound_of, modulus_of, b8d1, b8d2, b8d4, b4d1, b4d2, b2d1}
use Rattle.bdi_line.specs.Coded.{IsByteLine}
use Rattle.bdi_line.specs.Packed.{marks_of, deltas_of, split_payload, payload_under, payload_of, code_of}
use Rattle.bdi_line.specs.declared.codes.Code.{Code}
use Rattle.bdi_line.specs.declared.codes.Code.TheVariants.{Zeros, Repeated, B8D1, B8D2, B8D4, B4D1, B4D2, B2D1, Raw}
use Rattle.bdi_line.proofs.Digits.{digits_below}

abbrev AreBytes : List ℕ → Type 0
AreBytes bytes = All (λ b. b < 256) bytes

no_bytes : AreBytes []
no_bytes k d lt = absurd (omega arith)

digit_bytes : (n x : ℕ) → AreBytes (digits_l 256 n x)
digit_bytes n x =
    All-from_get_or (λ b. b < 256) (digits_l 256 n x) 0 (λ i lt.
    Each1-get_or (λ b. b < 256) (digits_l 256 n x) i 0 lt (digits_below 256 n x (lit< tt)))

low_are_bytes : (n : ℕ) (xs : List ℕ) → AreBytes (low_bytes n xs)
low_are_bytes n [] = no_bytes
low_are_bytes n (x ∷ xs) =
    All-append (λ b. b < 256) (digits_l 256 n x) (low_bytes n xs) (digit_bytes n x)
    (low_are_bytes n xs)

split_bytes : (s : Shape) (vs : List ℕ) → AreBytes (split_payload s vs)
unfolding split_payload
split_bytes s vs =
    let h = bound_of s in
    let m = modulus_of s in
    let mask = digits_l 256 (s.count / 8) (marks_of (is_large h m) vs) in
    let base = digits_l 256 s.width (base_of h m vs) in
    All-append (λ b. b < 256) (mask ++ base) (low_bytes s.delta (deltas_of h m vs))
    (All-append (λ b. b < 256) mask base (digit_bytes (s.count / 8) (marks_of (is_large h m) vs))
    (digit_bytes s.width (base_of h m vs)))
    (low_are_bytes s.delta (deltas_of h m vs))

bytes_under : (c : Code) (line : List ℕ) → IsByteLine line → AreBytes (payload_under c line)
bytes_under Zeros line is = no_bytes
bytes_under Repeated line is = All-take (λ b. b < 256) 8 line is.1
bytes_under B8D1 line is = split_bytes b8d1 (values 8 8 line)
bytes_under B8D2 line is = split_bytes b8d2 (values 8 8 line)
bytes_under B8D4 line is = split_bytes b8d4 (values 8 8 line)
bytes_under B4D1 line is = split_bytes b4d1 (values 4 16 line)
bytes_under B4D2 line is = split_bytes b4d2 (values 4 16 line)
bytes_under B2D1 line is = split_bytes b2d1 (values 2 32 line)
bytes_under Raw line is = is.1

pub payload_bytes : (line : List ℕ) → IsByteLine line → AreBytes (payload_of line)
payload_bytes line is = bytes_under (code_of line) line is
