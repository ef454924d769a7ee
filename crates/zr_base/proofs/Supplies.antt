-- A read of what is left from a place on.
use Rattle.std.proofs.Common.{◌≡◌, ℕ, ◌+◌, ◌-◌, ◌<◌, ◌≤◌, min, List, [], ◌++◌, length, take, drop, sym, ap, subst, ◌∙◌, arith, length-drop, length-append, length-take-le}
use Rattle.std.proofs.lemmas.List.{take-append-drop, drop-drop, drop_all}
use Rattle.std.proofs.Math.Seq.{take-append_seam}

module _ (bytes into part : List ℕ) (at n : ℕ) (inside : at ≤ length bytes)
    (n_is : n ≡ min (length into) (length bytes - at))
    (part_is : part ≡ take (at + n - at) (drop at bytes)) where
  part_take : part ≡ take n (drop at bytes)
  part_take =
      part_is ∙ ap (λ (k : ℕ). take k (drop at bytes)) (let k : at + n - at ≡ n = omega arith in k)

  part_size : length part ≡ n
  part_size =
      ap length part_take ∙ length-take-le n (drop at bytes) (omega (arith, length-drop at bytes))

  pub read_consumes : drop at bytes ≡ take n (part ++ drop n into) ++ drop (at + n) bytes
  read_consumes =
      sym (take-append-drop n (drop at bytes))
      ∙ ap (λ (xs : List ℕ). xs ++ drop n (drop at bytes)) (sym part_take ∙ sym front)
      ∙ ap (λ (xs : List ℕ). take n (part ++ drop n into) ++ xs) (drop-drop n at bytes)
    where
      front : take n (part ++ drop n into) ≡ part
      front =
          let P : ℕ → Type 0 = λ k. take k (part ++ drop n into) ≡ part in
          subst P part_size (take-append_seam part (drop n into))

  pub read_ends : n ≡ 0 → 0 < length (part ++ drop n into) → drop (at + n) bytes ≡ []
  read_ends none some =
      let given : length (part ++ drop n into) ≡ length part + length (drop n into) =
      length-append part (drop n into) in
      let kept : length (drop n into) ≡ length into - n = length-drop n into in
      let size : length part ≡ n = part_size in
      drop_all (at + n) bytes (omega arith)
