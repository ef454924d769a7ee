-- The lines of the orders, where the pages that may have one are listed.
use Rattle.std.proofs.Common.{◌≡◌, ℕ, zero, suc, ◌+◌, ◌-◌, ◌<◌, ◌≤◌, Bool, false, List, [], ◌∷◌, ◌++◌, length, drop, get_or, Option, refl, sym, ap, ◌∙◌, subst, arith}
use Rattle.std.specs.Prelude.{◌==◌, ◌||◌}
use Rattle.std.specs.List.{AllByRecursion}
use Rattle.std.proofs.Math.Nat.{le_refl}
use Rattle.std.proofs.Math.ListN.{drop_of_length-le}
use Rattle.std.proofs.lemmas.Bool.Decides.{nat_tests}
use Rattle.std.proofs.lemmas.List.{drop_more}
use Rattle.std.proofs.lemmas.List.FromFn.{length-map-range_with_len, get_or-map-range_with_len}
use Rattle.zr_base.specs.declared.op.Tag.{Tag}
use Rattle.plain_disk.specs.Output.{OutLine, order_line, order_lines}
use Rattle.page_steps.specs.Steps.{DiskHeld}
use Rattle.zr_core.specs.Machines.{order_at, orders_of}
use Rattle.zr_core.specs.Noted.{is_in, IsRising, HasAllOrders}

-- the lines of the pages from this one on
abbrev pub lines_from : ℕ → List (List Tag) → List OutLine
lines_from page orders = order_lines page (drop page orders)

-- The list has, of the pages from this one on, all that have an order.
pub record NotedFrom (page : ℕ) (noted : List ℕ) (orders : List (List Tag)) : Type 0 where
  pub inside : page ≤ length orders
  pub rising : IsRising noted
  pub above : AllByRecursion (λ p. page ≤ p) noted
  pub within : AllByRecursion (λ p. p < length orders) noted
  pub others : (p : ℕ) → page ≤ p → p < length orders → is_in noted p ≡ false → get_or orders p [] ≡ []

-- ---- lists of pages

all_above : (ps : List ℕ) → AllByRecursion (λ p. 0 ≤ p) ps
all_above [] = tt
all_above (p ∷ ps) = (omega arith, all_above ps)

next_above : (q : ℕ) (ps : List ℕ) → AllByRecursion (λ p. q < p) ps
    → AllByRecursion (λ p. q + 1 ≤ p) ps
next_above q [] all = tt
next_above q (p ∷ ps) all = (omega (arith, all.0), next_above q ps all.1)

not_below : (q p : ℕ) (ps : List ℕ) → AllByRecursion (λ r. q < r) ps → p ≤ q → is_in ps p ≡ false
not_below q p [] all le = refl
not_below q p (r ∷ ps) all le =
    let rest : is_in ps p ≡ false = not_below q p ps all.1 le in
    let other : (r == p) ≡ false = grind (arith, nat_tests, all.0, le) in
    ap (λ (b : Bool). b || is_in ps p) other ∙ rest

-- ---- lines

next_page : (page : ℕ) (orders : List (List Tag)) → page < length orders
    → lines_from page orders ≡ order_line page (get_or orders page []) ++ lines_from (page + 1) orders
next_page page orders lt =
    ap (λ (xs : List (List Tag)). order_lines page xs) (drop_more orders page [] lt)

-- pages without orders have no lines
skip : (page k : ℕ) (orders : List (List Tag)) → page + k ≤ length orders
    → ((p : ℕ) → page ≤ p → p < page + k → get_or orders p [] ≡ [])
    → lines_from page orders ≡ lines_from (page + k) orders
skip page zero orders fits none = ap (λ (p : ℕ). lines_from p orders) (omega arith)
skip page (suc k) orders fits none =
    next_page page orders (omega (arith, fits))
    ∙ ap (λ (order : List Tag). order_line page order ++ lines_from (page + 1) orders)
    (none page (omega arith) (omega arith))
    ∙ skip (page + 1) k orders (omega (arith, fits)) (λ p above below. none p (omega (arith, above))
    (omega (arith, below)))
    ∙ ap (λ (p : ℕ). lines_from p orders) (omega arith)

-- a page's order
pub order_is : (pages : ℕ) (row : List (Option DiskHeld)) (p : ℕ) → p < pages
    → get_or (orders_of pages row) p [] ≡ order_at row p
order_is pages row p lt =
    get_or-map-range_with_len (order_at row) 0 pages p p [] lt (omega arith)

pub noted_start : (pages : ℕ) (noted : List ℕ) (row : List (Option DiskHeld))
    → HasAllOrders pages noted row → NotedFrom 0 noted (orders_of pages row)
noted_start pages noted row has =
    let long = length-map-range_with_len (order_at row) 0 pages in
    record {
      inside = omega arith;
      rising = has.listed.rising;
      above = all_above noted;
      within = subst (λ (n : ℕ). AllByRecursion (λ p. p < n) noted) (sym long) has.listed.within;
      others = λ p above lt out. order_is pages row p (omega (arith, lt, long))
          ∙ has.others p (omega (arith, lt, long)) out;
    }

module _ (page : ℕ) (orders : List (List Tag)) where
  -- the next page that is listed
  module _ (q : ℕ) (ps : List ℕ) (n : NotedFrom page (q ∷ ps) orders) where
    before : (p : ℕ) → page ≤ p → p < q → get_or orders p [] ≡ []
    before p above lt =
        let last : q < length orders = n.within.0 in
        let other : (q == p) ≡ false = grind (arith, nat_tests, lt) in
        n.others p above (omega (arith, lt, last))
        (ap (λ (b : Bool). b || is_in ps p) other ∙ not_below q p ps n.rising.0 (omega (arith, lt)))

    pub noted_line : (order : List Tag) → get_or orders q [] ≡ order
        → lines_from page orders ≡ order_line q order ++ lines_from (q + 1) orders
    noted_line order of =
        let from : page ≤ q = n.above.0 in
        let last : q < length orders = n.within.0 in
        skip page (q - page) orders (omega (arith, from, last))
        (λ p above lt. before p above (omega (arith, lt, from)))
        ∙ ap (λ (p : ℕ). lines_from p orders) (omega (arith, from))
        ∙ next_page q orders last
        ∙ ap (λ (tags : List Tag). order_line q tags ++ lines_from (q + 1) orders) of

    pub noted_next : NotedFrom (q + 1) ps orders
    noted_next = record {
      inside = (let last : q < length orders = n.within.0 in omega (arith, last));
      rising = n.rising.1;
      above = next_above q ps n.rising.0;
      within = n.within.1;
      others = λ p above lt out.
          let from : page ≤ q = n.above.0 in
          let other : (q == p) ≡ false = grind (arith, nat_tests, above) in
          n.others p (omega (arith, above, from)) lt (ap (λ (b : Bool). b || is_in ps p) other
          ∙ out);
    }

  -- no page is left
  pub noted_none : NotedFrom page [] orders → lines_from page orders ≡ []
  noted_none n =
      let all : page ≤ length orders = n.inside in
      skip page (length orders - page) orders (omega (arith, all))
      (λ p above lt. n.others p above (omega (arith, lt, all)) refl)
      ∙ ap (λ (p : ℕ). lines_from p orders) (omega (arith, all))
      ∙ (λ i. order_lines (length orders)
      (drop_of_length-le orders (le_refl (length orders)) i))
