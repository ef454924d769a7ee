-- What an option has.
use Rattle.std.proofs.Common.{◌≡◌, ◌<◌, ℕ, List, length, Bor, arith, Bool, true, false, Option, Some, None, ap, ◌∙◌, refl, not}
use Rattle.std.proofs.lemmas.List.{take_all}
use Rattle.std.specs.Array.{IsFirstChunk}
use Rattle.std.specs.Option.{is_some, IfSome, IsNone, MatchOption}

pub none_of : (o : Option ℕ) (b : Bool) → is_some o ≡ not b → b ≡ true → IsNone o
none_of None b e on = refl
none_of (Some w) b e on = absurd (let off : true ≡ false = e ∙ ap not on in cc)

pub some_of : (o : Option ℕ) (P : ℕ → Type 0) (b : Bool) → is_some o ≡ not b → b ≡ false
    → IfSome o P → (w : ℕ) × P w
some_of None P b e off has = absurd (let on : false ≡ true = e ∙ ap not off in cc)
some_of (Some w) P b e off has = (w, has)

pub first_whole : (o : Option (Bor (List ℕ))) (xs : List ℕ) (n : ℕ) → length xs ≡ n
    → MatchOption o (length xs < n) (λ ys. IsFirstChunk xs ys.now n) → IfSome o (λ ys. ys.now ≡ xs)
first_whole None xs n long h = tt
first_whole (Some ys) xs n long h = h.same ∙ take_all n xs (omega arith)
