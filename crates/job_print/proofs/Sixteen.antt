-- Sixteen lanes, and the digits that they become.
use Rattle.std.proofs.Common.{◌≡◌, ℕ, ◌+◌, ◌*◌, ◌/◌, ◌%◌, ◌<◌, ◌≤◌, List, [], ◌∷◌, ◌++◌, length, map, take, get_or, replicate, w8, refl, sym, ap, ◌∙◌, arith, append_assoc, take_all, subst}
use Rattle.std.specs.List.{flat_map, range_with_len}
use Rattle.std.specs.Simd.Lanes.{Each1, zip2, put_chunk, pick_l, chunk}
use Rattle.std.proofs.lemmas.Simd.{swz_l, length-swz_l, get_or-swz_l_below, Each1-get_or, take_more_put_chunk, length-put_chunk, pick_l-range_with_len}
use Rattle.std.proofs.lemmas.Grind.{same_number_lists, flat_map-append}
use Rattle.std.proofs.lemmas.List.{length-map, get_or-map}
use Rattle.std.proofs.lemmas.List.FromFn.{get_or-map-range_with_len}
use Rattle.std.proofs.Math.Seq.{take-add}
use Rattle.job_print.specs.Texts.{hex_digit, hex_byte}

-- the sixteen digits
abbrev pub table : List ℕ
table = 48 ∷ 49 ∷ 50 ∷ 51 ∷ 52 ∷ 53 ∷ 54 ∷ 55 ∷ 56 ∷ 57 ∷ 97 ∷ 98 ∷ 99 ∷ 100 ∷ 101 ∷ 102 ∷ []

digit_at : (d : ℕ) → d < 16 → get_or table d 0 ≡ hex_digit d
digit_at d lt = get_or-map-range_with_len hex_digit 0 16 d d 0 lt (omega arith)

-- a look-up in them
pub looked_up : (js : List ℕ) → length js ≡ 16 → Each1 (λ j. j < 16) js
    → swz_l w8 16 table 0 js ≡ map hex_digit js
looked_up js long small =
    same_number_lists (swz_l w8 16 table 0 js) (map hex_digit js)
    (length-swz_l w8 16 table 0 js ∙ sym (length-map js hex_digit)) (λ m lt.
    let inside : m < length js = omega (arith, length-swz_l w8 16 table 0 js) in
    let below : get_or js m 0 < 16 = Each1-get_or (λ j. j < 16) js m 0 inside small in
    let place : 16 * ((0 + m) / 16) + get_or js m 0 ≡ get_or js m 0 = omega arith in
    get_or-swz_l_below w8 16 table 0 js m inside below ∙ ap (λ j. get_or table j 0) place
    ∙ digit_at (get_or js m 0) below ∙ sym (get_or-map hex_digit js m 0 0 inside))

-- an operator on a vector and a splat
zip2_splat : (f : ℕ → ℕ → ℕ) (y : ℕ) (xs : List ℕ)
    → zip2 f xs (replicate (length xs) y) ≡ map (λ x. f x y) xs
zip2_splat f y [] = refl
zip2_splat f y (x ∷ xs) = ap (λ rest. f x y ∷ rest) (zip2_splat f y xs)

pub splat_16 : (f : ℕ → ℕ → ℕ) (y : ℕ) (xs : List ℕ) → length xs ≡ 16
    → zip2 f xs (replicate 16 y) ≡ map (λ x. f x y) xs
splat_16 f y xs long = ap (λ n. zip2 f xs (replicate n y)) (sym long) ∙ zip2_splat f y xs

pub same_maps : (f g : ℕ → ℕ) → ((x : ℕ) → f x ≡ g x) → (xs : List ℕ) → map f xs ≡ map g xs
same_maps f g same [] = refl
same_maps f g same (x ∷ xs) =
    ap (λ y. y ∷ map f xs) (same x) ∙ ap (λ ys. g x ∷ ys) (same_maps f g same xs)

pub map_twice : (f g : ℕ → ℕ) (xs : List ℕ) → map f (map g xs) ≡ map (λ x. f (g x)) xs
map_twice f g [] = refl
map_twice f g (x ∷ xs) = ap (λ ys. f (g x) ∷ ys) (map_twice f g xs)

pub each_in_map : (P Q : ℕ → Type 0) (f : ℕ → ℕ) → ((x : ℕ) → P x → Q (f x)) → (xs : List ℕ)
    → Each1 P xs → Each1 Q (map f xs)
each_in_map P Q f step [] all = tt
each_in_map P Q f step (x ∷ xs) all = (step x all.0, each_in_map P Q f step xs all.1)

-- the first and the second half of two vectors' lanes by turns
abbrev pub front : List ℕ → List ℕ
front xs =
    pick_l 0 xs (0 ∷ 16 ∷ 1 ∷ 17 ∷ 2 ∷ 18 ∷ 3 ∷ 19 ∷ 4 ∷ 20 ∷ 5 ∷ 21 ∷ 6 ∷ 22 ∷ 7 ∷ 23 ∷ [])

abbrev pub back : List ℕ → List ℕ
back xs =
    pick_l 0 xs (8 ∷ 24 ∷ 9 ∷ 25 ∷ 10 ∷ 26 ∷ 11 ∷ 27 ∷ 12 ∷ 28 ∷ 13 ∷ 29 ∷ 14 ∷ 30 ∷ 15 ∷ 31 ∷ [])

abbrev ByTurns : (ℕ → ℕ) → (ℕ → ℕ) → List ℕ → Type 0
ByTurns f g xs =
    front (map f xs ++ map g xs) ++ back (map f xs ++ map g xs)
    ≡ flat_map (λ x. f x ∷ g x ∷ []) xs

-- a list of sixteen is that of its lanes
woven : (f g : ℕ → ℕ) (xs : List ℕ) → length xs ≡ 16 → ByTurns f g xs
woven f g xs long =
    let lanes : pick_l 0 xs (range_with_len 0 16) ≡ xs =
    pick_l-range_with_len 0 xs 0 16 (omega arith) ∙ take_all 16 xs (omega arith) in
    subst (ByTurns f g) lanes refl

halves_put : (i : ℕ) (xs ys zs : List ℕ) → length ys ≡ 16 → length zs ≡ 16 → i + 32 ≤ length xs
    → take (i + 32) (put_chunk (i + 16) (put_chunk i xs ys) zs) ≡ take i xs ++ (ys ++ zs)
halves_put i xs ys zs p q le =
    let size = length-put_chunk i xs ys in
    take_more_put_chunk (i + 16) (put_chunk i xs ys) zs (i + 32) (omega arith) (omega arith)
    ∙ ap (λ ws. ws ++ zs) (take_more_put_chunk i xs ys (i + 16) (omega arith) (omega arith))
    ∙ append_assoc (take i xs) ys zs

pub sixteen_put : (i : ℕ) (xs high low bytes : List ℕ) → length bytes ≡ 16 → i + 32 ≤ length xs
    → high ≡ map (λ b. hex_digit (b / 16)) bytes → low ≡ map (λ b. hex_digit (b % 16)) bytes
    → take (i + 32) (put_chunk (i + 16) (put_chunk i xs (front (high ++ low))) (back (high ++ low)))
    ≡ take i xs ++ flat_map hex_byte bytes
sixteen_put i xs high low bytes long le h l =
    let highs = map (λ b. hex_digit (b / 16)) bytes in
    halves_put i xs (front (high ++ low)) (back (high ++ low)) refl refl le
    ∙ ap (λ ys. take i xs ++ ys)
    (ap (λ a. front (a ++ low) ++ back (a ++ low)) h
    ∙ ap (λ b. front (highs ++ b) ++ back (highs ++ b)) l
    ∙ woven (λ b. hex_digit (b / 16)) (λ b. hex_digit (b % 16)) bytes long)

-- sixteen bytes more
pub sixteen_more : (k : ℕ) (digits bytes : List ℕ)
    → take (32 * k + 32) digits
    ≡ flat_map hex_byte (take (16 * k) bytes) ++ flat_map hex_byte (chunk (16 * k) 16 bytes)
    → take (32 * (k + 1)) digits ≡ flat_map hex_byte (take (16 * (k + 1)) bytes)
sixteen_more k digits bytes put =
    let to : 32 * (k + 1) ≡ 32 * k + 32 = omega arith in
    let from : 16 * (k + 1) ≡ 16 * k + 16 = omega arith in
    ap (λ n. take n digits) to ∙ put
    ∙ sym (flat_map-append hex_byte (take (16 * k) bytes) (chunk (16 * k) 16 bytes))
    ∙ ap (flat_map hex_byte) (sym (take-add (16 * k) 16 bytes))
    ∙ ap (λ n. flat_map hex_byte (take n bytes)) (sym from)
