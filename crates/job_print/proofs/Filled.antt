-- A sector without its first word is that without its last exactly where all its words are equal.
use Rattle.std.proofs.Common.{◌≡◌, ℕ, zero, suc, ◌+◌, ◌-◌, ◌*◌, ◌/◌, ◌%◌, ◌<◌, Bool, true, false, List, length, take, drop, get_or, refl, sym, ap, ◌∙◌, length-drop, arith}
use Rattle.std.specs.Prelude.{if◌then◌else◌}
use Rattle.std.specs.Int.{w64, from_le_bytes}
use Rattle.std.proofs.Math.Nat.{div-add-mod}
use Rattle.std.proofs.lemmas.Bool.{false_from_ne_true}
use Rattle.std.proofs.lemmas.Grind.{same_number_lists}
use Rattle.std.proofs.lemmas.List.{get_or-take, get_or-drop, length-take}
use Rattle.std.proofs.lemmas.Slice.Eq.{bytes_eq-Decides}
use Rattle.job_print.specs.declared.line.OutLine.TheVariants as lines
use Rattle.job_print.specs.Texts.{word_at, IsFilled, is_filled, sector_line}

module _ (bytes : List ℕ) (size : length bytes ≡ 512) where
  -- a byte of a word
  byte_of : (j r : ℕ) → r < 8 → get_or (word_at bytes j) r 0 ≡ get_or bytes (8 * j + r) 0
  byte_of j r lt = get_or-take 8 (drop (8 * j) bytes) r 0 lt ∙ get_or-drop (8 * j) bytes r 0

  word_size : (j : ℕ) → j < 64 → length (word_at bytes j) ≡ 8
  word_size j lt = simp (length-take, length-drop, size) (omega (arith, lt))

  -- equal words, and the bytes of two neighbours
  neighbours : IsFilled bytes → (q r : ℕ) → q < 63 → r < 8
      → get_or bytes (8 * suc q + r) 0 ≡ get_or bytes (8 * q + r) 0
  neighbours is q r few lt =
      sym (byte_of (suc q) r lt)
      ∙ ap (λ (w : List ℕ). get_or w r 0) (is (suc q) (omega (arith, few))
      ∙ sym (is q (omega (arith, few))))
      ∙ byte_of q r lt

  shifted : IsFilled bytes → drop 8 bytes ≡ take 504 bytes
  shifted is = same_number_lists (drop 8 bytes) (take 504 bytes)
      (simp (length-take, length-drop, size) refl)
      (λ k lt. by k (let n : length (drop 8 bytes) ≡ length bytes - 8 = length-drop 8 bytes in
      omega (arith, lt, n, size)))
    where
      by : (k : ℕ) → k < 504 → get_or (drop 8 bytes) k 0 ≡ get_or (take 504 bytes) k 0
      by k lt =
          let at : 8 * (k / 8) + k % 8 ≡ k = div-add-mod k 8 in
          get_or-drop 8 bytes k 0
          ∙ ap (λ (i : ℕ). get_or bytes i 0) (omega (arith, at))
          ∙ neighbours is (k / 8) (k % 8) (omega (arith, lt)) (omega arith)
          ∙ ap (λ (i : ℕ). get_or bytes i 0) at
          ∙ sym (get_or-take 504 bytes k 0 lt)

  next_word : drop 8 bytes ≡ take 504 bytes → (q : ℕ) → q < 63
      → word_at bytes (suc q) ≡ word_at bytes q
  next_word same q few = same_number_lists (word_at bytes (suc q)) (word_at bytes q)
      (word_size (suc q) (omega (arith, few)) ∙ sym (word_size q (omega (arith, few))))
      (λ r lt. by r (let n = word_size (suc q) (omega (arith, few)) in omega (arith, lt, n)))
    where
      by : (r : ℕ) → r < 8 → get_or (word_at bytes (suc q)) r 0 ≡ get_or (word_at bytes q) r 0
      by r lt =
          byte_of (suc q) r lt
          ∙ ap (λ (i : ℕ). get_or bytes i 0) (omega arith)
          ∙ sym (get_or-drop 8 bytes (8 * q + r) 0)
          ∙ ap (λ (xs : List ℕ). get_or xs (8 * q + r) 0) same
          ∙ get_or-take 504 bytes (8 * q + r) 0 (omega (arith, few, lt))
          ∙ sym (byte_of q r lt)

  filled : drop 8 bytes ≡ take 504 bytes → IsFilled bytes
  filled same zero lt = refl
  filled same (suc q) lt = next_word same q (omega (arith, lt)) ∙ filled same q (omega (arith, lt))

  tells : (b : Bool) → (b ≡ true → drop 8 bytes ≡ take 504 bytes) → ¬ IsFilled bytes
      → (if b then lines.Fill (from_le_bytes w64 (take 8 bytes)) else lines.Hex bytes)
      ≡ lines.Hex bytes
  tells true same differs = absurd (differs (filled (same refl)))
  tells false same differs = refl

  pub fill_by : IsFilled bytes
      → sector_line bytes ≡ lines.Fill (from_le_bytes w64 (word_at bytes 0))
  unfolding sector_line
  fill_by is = ap (λ (b : Bool). if b then lines.Fill (from_le_bytes w64 (take 8 bytes))
      else lines.Hex bytes)
      ((bytes_eq-Decides (drop 8 bytes) (take 504 bytes)).1 (shifted is))

  pub hex_by : ¬ IsFilled bytes → sector_line bytes ≡ lines.Hex bytes
  unfolding sector_line
  hex_by differs = tells (is_filled bytes) (bytes_eq-Decides (drop 8 bytes) (take 504 bytes)).0
      differs

  pub fill_test : IsFilled bytes → is_filled bytes ≡ true
  fill_test is = (bytes_eq-Decides (drop 8 bytes) (take 504 bytes)).1 (shifted is)

  pub other_test : ¬ IsFilled bytes → is_filled bytes ≡ false
  other_test differs = false_from_ne_true (is_filled bytes)
      (λ e. differs (filled ((bytes_eq-Decides (drop 8 bytes) (take 504 bytes)).0 e)))
