-- Lanes against a bound: the comparison of each lane, and its mask.
use Rattle.std.proofs.Common.{◌≡◌, ℕ, ◌∷◌, [], ◌+◌, ◌-◌, ◌%◌, ◌^◌, ◌≤◌, List, length, refl, sym, ap, ◌∙◌, arith, leb, cond, Bool, map, map-id}
use Rattle.std.proofs.lemmas.Simd.{tops_compared, zip2_splat, zip2_splat_left, map-map, mask_l-mod}
use Rattle.std.proofs.lemmas.List.{length-map}
use Rattle.std.specs.Simd.Lanes.{zip2, mask_l, top, sel_l}
use Rattle.std.specs.Prelude.{replicate}
use mir.Syntax.{Width}
use mir.Val.{bits, hbits}

-- sum and difference of two lanes
abbrev pub sum_in : Width → ℕ → ℕ → ℕ
sum_in w a b = (a + b) % 2 ^ bits w

abbrev pub less_in : Width → ℕ → ℕ → ℕ
less_in w a b = (a + (2 ^ bits w - b)) % 2 ^ bits w

-- the marks of the lanes that reach q
abbrev pub reach : Width → ℕ → ℕ → List ℕ → List Bool
reach w n q xs = map (top (hbits w))
    (zip2 (λ a b. cond (leb a b) (2 ^ bits w - 1) 0) (replicate n q) xs)

reach_is : (w : Width) (n q : ℕ) (xs : List ℕ) → length xs ≡ n → reach w n q xs ≡ map (leb q) xs
reach_is w n q xs e = tops_compared w leb (replicate n q) xs ∙ zip2_splat_left leb q n xs e

-- which lanes reach q when h is added
reached : (w : Width) (n h q : ℕ) (xs : List ℕ) → length xs ≡ n
    → reach w n q (zip2 (sum_in w) xs (replicate n h)) ≡ map (λ v. leb q (sum_in w v h)) xs
reached w n h q xs e =
    ap (reach w n q) (zip2_splat (sum_in w) xs n h e)
    ∙ reach_is w n q (map (λ v. sum_in w v h) xs) (length-map xs (λ v. sum_in w v h) ∙ e)
    ∙ map-map (leb q) (λ v. sum_in w v h) xs

-- their mask
pub reached_mask : (w : Width) (n h q : ℕ) (xs : List ℕ) → length xs ≡ n → n ≤ 64
    → mask_l (reach w n q (zip2 (sum_in w) xs (replicate n h))) % 2 ^ 64
    ≡ mask_l (map (λ v. leb q (sum_in w v h)) xs)
reached_mask w n h q xs e le =
    let test = λ (v : ℕ). leb q (sum_in w v h) in
    ap (λ ms. mask_l ms % 2 ^ 64) (reached w n h q xs e)
    ∙ mask_l-mod (map test xs) 64 (omega (arith, length-map xs test))

sel_of_maps : (p : ℕ → Bool) (f g : ℕ → ℕ) (xs : List ℕ)
    → sel_l (map p xs) (map f xs) (map g xs) ≡ map (λ v. cond (p v) (f v) (g v)) xs
sel_of_maps p f g [] = refl
sel_of_maps p f g (x ∷ xs) = ap (λ t. cond (p x) (f x) (g x) ∷ t) (sel_of_maps p f g xs)

-- the lanes that pass, changed by y, and the others as they are
selected : (p : ℕ → Bool) (f : ℕ → ℕ → ℕ) (n y : ℕ) (xs : List ℕ) (ms : List Bool) → length xs ≡ n
    → ms ≡ map p xs → sel_l ms (zip2 f xs (replicate n y)) xs ≡ map (λ v. cond (p v) (f v y) v) xs
selected p f n y xs ms e marks =
    (λ i. sel_l (marks i) (zip2_splat f xs n y e i) (sym (map-id xs) i))
    ∙ sel_of_maps p (λ v. f v y) (λ v. v) xs

-- the lanes that reach q when h is added, less b, and the others as they are
pub lowered : (w : Width) (n h q b : ℕ) (xs : List ℕ) → length xs ≡ n
    → sel_l (reach w n q (zip2 (sum_in w) xs (replicate n h))) (zip2 (less_in w) xs (replicate n b))
    xs
    ≡ map (λ v. cond (leb q (sum_in w v h)) (less_in w v b) v) xs
lowered w n h q b xs e =
    selected (λ v. leb q (sum_in w v h)) (less_in w) n b xs _ e (reached w n h q xs e)

-- the lanes from h on, with a added, and the others as they are
pub raised : (w : Width) (n h a : ℕ) (xs : List ℕ) → length xs ≡ n
    → sel_l (reach w n h xs) (zip2 (sum_in w) xs (replicate n a)) xs
    ≡ map (λ v. cond (leb h v) (sum_in w v a) v) xs
raised w n h a xs e = selected (leb h) (sum_in w) n a xs _ e (reach_is w n h xs e)
