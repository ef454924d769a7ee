-- The lines of a page, two at a time, with their codes and payloads.
use Rattle.std.proofs.Common.{◌≡◌, ℕ, zero, suc, ◌+◌, ◌*◌, ◌<◌, ◌≤◌, List, [], ◌∷◌, ◌++◌, length, take, drop, get_or, refl, sym, ap, ◌∙◌, arith, append_assoc, length-append}
use Rattle.std.proofs.lemmas.Grind.{flat_map-append}
use Rattle.std.proofs.lemmas.List.{take_all, take_at, drop_at, drop-drop, drop-take, take-take, length-take-le, append-nil, take-append-drop}
use Rattle.bdi_line.specs.Packed.{payload_of}
use Rattle.bdi_page.specs.Packing.{lines_of, codes_of, payloads_of}
use Rattle.bdi_page.specs.Pairs.{first_line, second_line, number_in}

-- ---- pairs of lines

first_line-drop : (j : ℕ) (page : List ℕ) → first_line (drop 128 page) j ≡ first_line page (suc j)
first_line-drop j page =
    ap (take 64) (drop-drop (128 * j) 128 page)
    ∙ ap (λ n. take 64 (drop n page)) (let e : 128 + 128 * j ≡ 128 * suc j = omega arith in e)

second_line-drop : (j : ℕ) (page : List ℕ)
    → second_line (drop 128 page) j ≡ second_line page (suc j)
second_line-drop j page =
    ap (take 64) (drop-drop (128 * j + 64) 128 page)
    ∙ ap (λ n. take 64 (drop n page))
    (let e : 128 + (128 * j + 64) ≡ 128 * suc j + 64 = omega arith in e)

lines_of-suc : (n : ℕ) (page : List ℕ)
    → lines_of (suc n) page ≡ lines_of n page ++ first_line page n ∷ second_line page n ∷ []
lines_of-suc zero page = refl
lines_of-suc (suc n) page =
    ap (λ l. take 64 page ∷ take 64 (drop 64 page) ∷ l) (lines_of-suc n (drop 128 page)
    ∙ (λ i. lines_of n (drop 128 page) ++ first_line-drop n page i ∷ second_line-drop n page
    i ∷ []))

pub lines_of-more : (n : ℕ) (page : List ℕ)
    → lines_of (n + 1) page ≡ lines_of n page ++ first_line page n ∷ second_line page n ∷ []
lines_of-more n page =
    ap (λ k. lines_of k page) (let e : n + 1 ≡ suc n = omega arith in e) ∙ lines_of-suc n page

part-same : (i k n : ℕ) (a b : List ℕ) → i + k ≤ n → take n a ≡ take n b
    → take k (drop i a) ≡ take k (drop i b)
part-same i k n a b le e =
    sym (drop-take i k a)
    ∙ ap (drop i) (sym (take-take (i + k) n a le) ∙ ap (take (i + k)) e ∙ take-take (i + k) n b le)
    ∙ drop-take i k b

-- the lines depend on their bytes alone
lines_of-same : (n : ℕ) (a b : List ℕ) → take (128 * n) a ≡ take (128 * n) b
    → lines_of n a ≡ lines_of n b
lines_of-same zero a b e = refl
lines_of-same (suc n) a b e =
    let first = part-same 0 64 (128 * suc n) a b (omega arith) e in
    let second = part-same 64 64 (128 * suc n) a b (omega arith) e in
    let rest = lines_of-same n (drop 128 a) (drop 128 b)
    (part-same 128 (128 * n) (128 * suc n) a b (omega arith) e) in
    λ i. first i ∷ second i ∷ rest i

-- two lines more were written
pub lines_of-put : (j : ℕ) (old new f s : List ℕ) → 128 * j ≤ length old → length f ≡ 64
    → length s ≡ 64 → take (128 * (j + 1)) new ≡ take (128 * j) old ++ (f ++ s)
    → lines_of (j + 1) new ≡ lines_of j old ++ f ∷ s ∷ []
lines_of-put j old new f s le lf ls e =
    let front = take (128 * j) old in
    let both = front ++ (f ++ s) in
    let lb : length front ≡ 128 * j = length-take-le (128 * j) old le in
    let long : length both ≡ 128 * (j + 1) =
    length-append front (f ++ s) ∙ omega (arith, length-append f s) in
    let same : take (128 * (j + 1)) new ≡ take (128 * (j + 1)) both =
    e ∙ sym (take_all (128 * (j + 1)) both (omega arith)) in
    let before : lines_of j new ≡ lines_of j old =
    lines_of-same j new old (part-same 0 (128 * j) (128 * (j + 1)) new both (omega arith) same
    ∙ take_at front (f ++ s) (128 * j) lb) in
    let first : first_line new j ≡ f =
    part-same (128 * j) 64 (128 * (j + 1)) new both (omega arith) same
    ∙ ap (take 64) (drop_at front (f ++ s) (128 * j) lb) ∙ take_at f s 64 lf in
    let second : second_line new j ≡ s =
    part-same (128 * j + 64) 64 (128 * (j + 1)) new both (omega arith) same
    ∙ ap (take 64) (sym (drop-drop 64 (128 * j) both)
    ∙ ap (drop 64) (drop_at front (f ++ s) (128 * j) lb)
    ∙ drop_at f s 64 lf)
    ∙ take_all 64 s (omega arith) in
    lines_of-more j new ∙ (λ i. before i ++ first i ∷ second i ∷ [])

pub take_add : (n m : ℕ) (xs : List ℕ) → take (n + m) xs ≡ take n xs ++ take m (drop n xs)
take_add n m xs =
    sym (take-append-drop n (take (n + m) xs))
    ∙ ap (λ l. l ++ drop n (take (n + m) xs)) (take-take n (n + m) xs (omega arith))
    ∙ ap (λ l. take n xs ++ l) (drop-take n m xs)

pub take_pair : (j : ℕ) (page : List ℕ)
    → take (128 * (j + 1)) page ≡ take (128 * j) page ++ (first_line page j ++ second_line page j)
take_pair j page =
    ap (λ n. take n page) (let e : 128 * (j + 1) ≡ 128 * j + 64 + 64 = omega arith in e)
    ∙ take_add (128 * j + 64) 64 page
    ∙ ap (λ l. l ++ second_line page j) (take_add (128 * j) 64 page)
    ∙ append_assoc (take (128 * j) page) (first_line page j) (second_line page j)

-- ---- codes and payloads

pub codes_of-two : (n : ℕ) (page f s : List ℕ)
    → codes_of (lines_of n page ++ f ∷ s ∷ [])
    ≡ codes_of (lines_of n page) ++ (number_in f + 16 * number_in s) ∷ []
codes_of-two zero page f s = refl
codes_of-two (suc n) page f s =
    ap (λ l. (number_in (take 64 page) + 16 * number_in (take 64 (drop 64 page))) ∷ l)
    (codes_of-two n (drop 128 page) f s)

pub length-codes_of : (n : ℕ) (page : List ℕ) → length (codes_of (lines_of n page)) ≡ n
length-codes_of zero page = refl
length-codes_of (suc n) page = ap suc (length-codes_of n (drop 128 page))

pub byte_at : (n j : ℕ) (page r : List ℕ) → j < n
    → get_or (codes_of (lines_of n page) ++ r) j 0
    ≡ number_in (first_line page j) + 16 * number_in (second_line page j)
byte_at zero j page r lt = absurd (omega arith)
byte_at (suc n) zero page r lt = refl
byte_at (suc n) (suc j) page r lt =
    byte_at n j (drop 128 page) r (omega arith)
    ∙ (λ i. number_in (first_line-drop j page i) + 16 * number_in (second_line-drop j page i))

pub payloads_of-two : (ls : List (List ℕ)) (f s : List ℕ)
    → payloads_of (ls ++ f ∷ s ∷ []) ≡ payloads_of ls ++ (payload_of f ++ payload_of s)
payloads_of-two ls f s =
    flat_map-append payload_of ls (f ∷ s ∷ [])
    ∙ ap (λ l. payloads_of ls ++ (payload_of f ++ l)) (append-nil (payload_of s))
