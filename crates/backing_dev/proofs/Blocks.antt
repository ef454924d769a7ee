-- One block is written, in the front of the blocks, which may have to be made longer for it.
use Rattle.std.proofs.Common.{◌≡◌, ◌≢◌, ℕ, suc, ◌-◌, ◌<◌, ◌≤◌, List, [], ◌∷◌, ◌++◌, length, replicate, set, Some, slice_get, arith, ◌∙◌, sym, ap, inl, inr, length-append, append_assoc}
use Rattle.std.proofs.Math.ListN.{length-set}
use Rattle.std.proofs.lemmas.Bool.{cases_lt}
use Rattle.std.proofs.lemmas.List.{get_or-set_same, get_or-set_other, set-append_left}
use Rattle.std.proofs.lemmas.Option.{slice_get-get_or, slice_get_past}
use Rattle.backing_dev.specs.Contents.{ChangesOnly, page_full_of}
use Rattle.backing_dev.specs.MemoryInside.{all_blocks}

-- the written block has the page
pub block_set : (pages : List (List ℕ)) (b : ℕ) (page : List ℕ) → b < length pages
    → slice_get (set pages b page) b ≡ Some page
block_set pages b page within =
    let inside : b < length (set pages b page) = omega (arith, length-set pages b page) in
    slice_get-get_or (set pages b page) b page inside
    ∙ ap Some (get_or-set_same pages b page page within)

other_set : (pages : List (List ℕ)) (b c : ℕ) (page : List ℕ) → c ≢ b
    → slice_get (set pages b page) c ≡ slice_get pages c
other_set pages b c page other =
    elim (cases_lt c (length pages)) [
      | inl inside ↦
          let inside_set : c < length (set pages b page) = omega (arith, length-set pages b page) in
          slice_get-get_or (set pages b page) c page inside_set
          ∙ ap Some (get_or-set_other pages b c page page other)
          ∙ sym (slice_get-get_or pages c page inside)
      | inr past ↦
          let past_set : length (set pages b page) ≤ c = omega (arith, length-set pages b page) in
          slice_get_past (set pages b page) c past_set ∙ sym (slice_get_past pages c past)
    ]

-- and no other block changes
pub others_set : (pages : List (List ℕ)) (b : ℕ) (page : List ℕ)
    → ChangesOnly (Some pages) (Some (set pages b page)) b
others_set pages b page = (length-set pages b page, λ c other. other_set pages b c page other)

-- a block of zeros after the front is one of the blocks already
pub front_longer : (blocks : ℕ) (front : List (List ℕ)) → length front < blocks
    → all_blocks blocks (front ++ page_full_of 0 ∷ []) ≡ all_blocks blocks front
front_longer blocks front less =
    let zeros = page_full_of 0 in
    let longer = length-append front (zeros ∷ []) in
    let left : blocks - length front ≡ suc (blocks - length (front ++ zeros ∷ [])) = omega arith in
    append_assoc front (zeros ∷ []) (replicate (blocks - length (front ++ zeros ∷ [])) zeros)
    ∙ ap (λ n. front ++ replicate n zeros) (sym left)

-- a block of the front is written
pub front_set : (blocks : ℕ) (front : List (List ℕ)) (b : ℕ) (page : List ℕ) → b < length front
    → all_blocks blocks (set front b page) ≡ set (all_blocks blocks front) b page
front_set blocks front b page within =
    ap (λ n. set front b page ++ replicate (blocks - n) (page_full_of 0)) (length-set front b page)
    ∙ sym (set-append_left front (replicate (blocks - length front) (page_full_of 0)) b page within)
