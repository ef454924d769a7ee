-- What each call leaves of a pool's fields.
use Rattle.std.proofs.Common.{◌≡◌, ◌≢◌, ℕ, zero, suc, ◌+◌, ◌-◌, ◌*◌, ◌<◌, ◌≤◌, ◌^◌, ◌⊎◌, List, [], ◌∷◌, ◌++◌, Option, None, Some, length, map, replicate, sum_by, slice_get, refl, sym, ◌∙◌, ap, subst, inl, inr, arith, Contains}
use Rattle.std.proofs.Math.ListN.{set, length-set}
use Rattle.std.proofs.lemmas.Bool.{cases_eq, cases_lt}
use Rattle.std.proofs.lemmas.List.{length-append, length-replicate}
use Rattle.std.proofs.lemmas.List.Sums.{sum_by-set, sum_by-append}
use Rattle.std.proofs.lemmas.List.Folds.{sum_by-replicate}
use Rattle.std.proofs.lemmas.Option.{get_or_from_slice_get, slice_get_within}
use Rattle.std.proofs.lemmas.Nat.{mul-le}
use Rattle.zspage.specs.Cells.{UsedCell, used_of, entry, IsLowestFree}
use Rattle.class_pool.specs.declared.places.Place.{Place}
use Rattle.class_pool.specs.Zspages.{Cells, ZspagesState, AreFilled, AreWhole, HasRoom, IsLeastAbsent, put_at, use_at}
use Rattle.class_pool.specs.Pool.{object_of, used_cells, HasOneMore, IsPool}
use Rattle.class_pool.specs.Index.{pool_of, IsIndex, Fit, IsPooled}
use Rattle.class_pool.proofs.Ranks.{entry_within}
use Rattle.class_pool.proofs.UseLaws.{Changes, changes_cell, changes_gone, entry-set_same, entry-set_other, entry-put_same, entry-put_other, length-put, use_there, use_parts, find_use, contains_use}
use Rattle.class_pool.proofs.IndexLaws.{place, index_fill, index_clear, index_keep, index_put, index_grow}
use Rattle.class_pool.proofs.SumLaws.{one_of, at_use, sum_change, sum_gone, length_sum, object_more, objects_keep, used_cells-put, fewer}
use Rattle.class_pool.proofs.HomeLaws.{Keeps, keeps}

-- ---- what holds of each zspage

all_set : (P : Cells → Type 0) (zs : List (Option Cells)) (i : ℕ) (o : Option Cells) → i < length zs
    → ((k : ℕ) (cells : Cells) → k ≢ i → entry zs k ≡ Some cells → P cells)
    → ((cells : Cells) → o ≡ Some cells → P cells)
    → (k : ℕ) (cells : Cells) → entry (set zs i o) k ≡ Some cells → P cells
all_set P zs i o low others here k cells at =
    elim (cases_eq k i) [
      | inl e ↦ here cells (sym (entry-set_same zs i o low)
          ∙ ap (λ n. entry (set zs i o) n) (sym e) ∙ at)
      | inr other ↦ others k cells other (sym (entry-set_other zs i k o other) ∙ at)
    ]

all_cells : (P : Cells → Type 0) (zs : List (Option Cells)) (i : ℕ) (new : Cells) → i < length zs
    → ((k : ℕ) (cells : Cells) → k ≢ i → entry zs k ≡ Some cells → P cells) → P new
    → (k : ℕ) (cells : Cells) → entry (set zs i (Some new)) k ≡ Some cells → P cells
all_cells P zs i new low others here =
    all_set P zs i (Some new) low others (λ cells e. let is : new ≡ cells = cc in subst P is here)

all_gone : (P : Cells → Type 0) (zs : List (Option Cells)) (i : ℕ) → i < length zs
    → ((k : ℕ) (cells : Cells) → entry zs k ≡ Some cells → P cells)
    → (k : ℕ) (cells : Cells) → entry (set zs i None) k ≡ Some cells → P cells
all_gone P zs i low all =
    all_set P zs i None low (λ k cells other. all k cells) (λ cells e. absurd (cc))

-- ---- lists of used cells

length_more : (us vs : List UsedCell) (u : UsedCell) → HasOneMore us vs u
    → length vs ≡ length us + 1
length_more us vs u more = omega (arith, length_sum us, length_sum vs, more (λ x. 1))

pub fill_more : (zs : List (Option Cells)) (i j : ℕ) (cells : Cells) (u : UsedCell)
    → entry zs i ≡ Some cells → slice_get cells j ≡ Some None
    → HasOneMore (used_cells zs) (used_cells (set zs i (Some (set cells j (Some u))))) u
fill_more zs i j cells u at free f =
    let low : j < length cells = slice_get_within cells j None free in
    let gone : entry cells j ≡ None = get_or_from_slice_get cells j None None free in
    omega (arith, sum_change f zs i j cells (Some u) at low, ap (at_use f) gone)

pub clear_more : (zs : List (Option Cells)) (i j : ℕ) (cells : Cells) (u : UsedCell)
    → entry zs i ≡ Some cells → entry cells j ≡ Some u
    → HasOneMore (used_cells (set zs i (Some (set cells j None)))) (used_cells zs) u
clear_more zs i j cells u at here f =
    omega (
      arith,
      sum_change f zs i j cells None at (entry_within cells j u here),
      ap (at_use f) here,
    )

keep_count : (zs : List (Option Cells)) (i j : ℕ) (cells : Cells) (u v : UsedCell)
    → entry zs i ≡ Some cells → entry cells j ≡ Some u
    → length (used_cells (set zs i (Some (set cells j (Some v))))) ≡ length (used_cells zs)
keep_count zs i j cells u v at here =
    omega (
      arith,
      sum_change (λ x. 1) zs i j cells (Some v) at (entry_within cells j u here),
      ap (at_use (λ x. 1)) here,
      length_sum (used_cells zs),
      length_sum (used_cells (set zs i (Some (set cells j (Some v))))),
    )

-- ---- what contracts see

pub pool_is : (class used : ℕ) (z : ZspagesState) (places : List (Option Place))
    → IsPooled used z places
    → IsPool (pool_of class z)
pool_is class used z places pooled = record {
  filled = pooled.filled;
  whole = pooled.fit.whole;
  distinct = λ i j k l u v at_u at_v same.
      let one : Some (place i j) ≡ Some (place k l) =
      sym (pooled.fit.index.listed i j u at_u) ∙ ap (λ n. entry places n) same
      ∙ pooled.fit.index.listed k l v at_v in
      let is : place i j ≡ place k l = cc in
      (ap (λ p. p.zspage) is, ap (λ p. p.cell) is);
}

pub fresh_is : (zs : List (Option Cells)) (places : List (Option Place)) (h : ℕ) → IsIndex zs places
    → entry places h ≡ None → (u : UsedCell) → Contains (used_cells zs) u → u.handle ≢ h
fresh_is zs places h index free u among same =
    let at : (i : ℕ) × (j : ℕ) × (use_at zs i j ≡ Some u) = find_use zs u among in
    let there : entry places u.handle ≡ Some (place at.0 at.1) = index.listed at.0 at.1 u at.2 in
    let none : entry places u.handle ≡ None = ap (λ n. entry places n) same ∙ free in
    cc (there, none)

-- ---- an object's place

-- the zspage and the cell at the place of an object
pub record IsAt (zs : List (Option Cells)) (p : Place) (u : UsedCell) : Type 0 where
  pub cells : Cells
  pub zspage : entry zs p.zspage ≡ Some cells
  pub cell : entry cells p.cell ≡ Some u

-- the index has a place for a live object
pub listed : (zs seen : List (Option Cells)) (places : List (Option Place)) (h : ℕ) (u : UsedCell)
    → zs ≡ seen → IsIndex zs places → Contains (used_cells seen) u → u.handle ≡ h
    → (p : Place) × (entry places h ≡ Some p) × (use_at zs p.zspage p.cell ≡ Some u)
listed zs seen places h u view index among same =
    let at : (i : ℕ) × (j : ℕ) × (use_at zs i j ≡ Some u) =
    find_use zs u (subst (λ xs. Contains (used_cells xs) u) (sym view) among) in
    (place at.0 at.1, ap (λ n. entry places n) (sym same) ∙ index.listed at.0 at.1 u at.2, at.2)

-- and this is where it is
pub located : (zs seen : List (Option Cells)) (places : List (Option Place)) (h : ℕ)
    (u : UsedCell) (p : Place)
    → zs ≡ seen → IsIndex zs places → Contains (used_cells seen) u → u.handle ≡ h
    → entry places h ≡ Some p
    → IsAt zs p u
located zs seen places h u p view index among same is =
    let found = listed zs seen places h u view index among same in
    let both : Some found.0 ≡ Some p = sym found.1 ∙ is in
    let one : found.0 ≡ p = cc in
    let parts = use_parts zs p.zspage p.cell u
    (subst (λ q. use_at zs q.zspage q.cell ≡ Some u) one found.2) in
    record { cells = parts.0; zspage = parts.1; cell = parts.2 }

-- ---- the fields after a call

fit_after : (z z' : ZspagesState) (zs' : List (Option Cells)) (places places' : List (Option Place))
    → Fit z places → z' ≡ record z { zspages = zs' }
    → length zs' ≡ length z.zspages → length places' ≡ length places
    → IsIndex zs' places' → AreWhole z.per zs' → used_of places' ≡ length (used_cells zs')
    → Fit z' places'
fit_after z z' zs' places places' fit is ids numbers index whole live =
    subst (λ v. Fit v places') (sym is) (record {
      some = fit.some;
      few = fit.few;
      index = index;
      whole = whole;
      numbers = live;
      enough = rw (ids, numbers) fit.enough;
      bounded = rw (ids, numbers) fit.bounded;
      short = rw ids fit.short;
    })

-- ---- an object is stored

-- where some cell is free a number is
pub number_free : (k : ℕ) (z : ZspagesState) (places : List (Option Place)) → Fit z places
    → HasRoom (entry z.zspages k) → used_of places < length places
number_free k z places fit room =
    omega (arith, fewer z.per k z.zspages fit.whole room, fit.numbers, fit.enough)

pub stored_fit : (z z' : ZspagesState) (places places' : List (Option Place)) (i j : ℕ)
    (cells : Cells) (u : UsedCell)
    → Fit z places → entry z.zspages i ≡ Some cells → slice_get cells j ≡ Some None
    → u.handle < length places → entry places u.handle ≡ None
    → z' ≡ record z { zspages = set z.zspages i (Some (set cells j (Some u))) }
    → places' ≡ set places u.handle (Some (place i j)) → Fit z' places'
stored_fit z z' places places' i j cells u fit at free low number z_is p_is =
    let zs' : List (Option Cells) = set z.zspages i (Some (set cells j (Some u))) in
    let gone : entry cells j ≡ None = get_or_from_slice_get cells j None None free in
    let more = length_more (used_cells z.zspages) (used_cells zs') u
    (fill_more z.zspages i j cells u at free) in
    let taken = sum_by-set one_of places u.handle (Some (place i j)) None low in
    rw p_is
    (fit_after z z' zs' places (set places u.handle (Some (place i j))) fit z_is
    (length-set z.zspages i (Some (set cells j (Some u))))
    (length-set places u.handle (Some (place i j)))
    (index_fill z.zspages zs' places i j u fit.index
    (changes_cell z.zspages i j cells (Some u) at (slice_get_within cells j None free))
    (use_there z.zspages i j cells at ∙ gone) low number)
    (all_cells (λ cs. length cs ≡ z.per) z.zspages i (set cells j (Some u))
    (entry_within z.zspages i cells at)
    (λ k cs other. fit.whole k cs) (length-set cells j (Some u) ∙ fit.whole i cells at))
    (omega (arith, fit.numbers, more, taken, ap one_of number)))

-- what is left then: but for its zspage each one had a used cell before
pub record Stored (z z' : ZspagesState) (u : UsedCell) : Type 0 where
  pub count : length (used_cells z'.zspages) ≡ length (used_cells z.zspages) + 1
  pub filled : AreFilled z'.zspages
  pub object : HasOneMore (map object_of (used_cells z.zspages))
      (map object_of (used_cells z'.zspages)) (object_of u)
  pub here : Contains (used_cells z'.zspages) u
  pub keeps : Keeps z.zspages z'.zspages u.handle

pub stored : (z z' : ZspagesState) (i j : ℕ) (cells : Cells) (u : UsedCell)
    → ((k : ℕ) (cs : Cells) → k ≢ i → entry z.zspages k ≡ Some cs → 1 ≤ used_of cs)
    → entry z.zspages i ≡ Some cells → slice_get cells j ≡ Some None
    → z' ≡ record z { zspages = set z.zspages i (Some (set cells j (Some u))) } → Stored z z' u
stored z z' i j cells u beside at free z_is =
    let zs' : List (Option Cells) = set z.zspages i (Some (set cells j (Some u))) in
    let low : j < length cells = slice_get_within cells j None free in
    let gone : entry cells j ≡ None = get_or_from_slice_get cells j None None free in
    let more = fill_more z.zspages i j cells u at free in
    let change = changes_cell z.zspages i j cells (Some u) at low in
    let none : use_at z.zspages i j ≡ None = use_there z.zspages i j cells at ∙ gone in
    let some = sum_by-set one_of cells j (Some u) None low in
    subst (λ v. Stored z v u) (sym z_is) (record {
      count = length_more (used_cells z.zspages) (used_cells zs') u more;
      filled = all_cells (λ cs. 1 ≤ used_of cs) z.zspages i (set cells j (Some u))
          (entry_within z.zspages i cells at)
          beside (omega (arith, some, ap one_of gone));
      object = object_more (used_cells z.zspages) (used_cells zs') u more;
      here = contains_use zs' i j u change.here;
      keeps = keeps z.zspages zs' i j (Some u) u.handle change (λ v is. absurd (cc (none, is)));
    })

-- ---- a cell goes out or comes back

pub record Relent (used : ℕ) (z z' : ZspagesState) (places : List (Option Place)) (u v : UsedCell)
    : Type 0 where
  pub pooled : IsPooled used z' places
  pub list : map object_of (used_cells z'.zspages) ≡ map object_of (used_cells z.zspages)
  pub here : Contains (used_cells z'.zspages) v
  pub keeps : Keeps z.zspages z'.zspages u.handle

pub relent : (used : ℕ) (z z' : ZspagesState) (places : List (Option Place)) (p : Place)
    (u v : UsedCell)
    (at : IsAt z.zspages p u) → IsPooled used z places → object_of v ≡ object_of u
    → z' ≡ record z { zspages = set z.zspages p.zspage (Some (set at.cells p.cell (Some v))) }
    → Relent used z z' places u v
relent used z z' places p u v at pooled same z_is =
    let i : ℕ = p.zspage in
    let j : ℕ = p.cell in
    let cells : Cells = at.cells in
    let zs' : List (Option Cells) = set z.zspages i (Some (set cells j (Some v))) in
    let within : i < length z.zspages = entry_within z.zspages i cells at.zspage in
    let low : j < length cells = entry_within cells j u at.cell in
    let used_there : use_at z.zspages i j ≡ Some u = use_there z.zspages i j cells at.zspage
    ∙ at.cell in
    let change = changes_cell z.zspages i j cells (Some v) at.zspage low in
    let live = keep_count z.zspages i j cells u v at.zspage at.cell in
    let count = sum_by-set one_of cells j (Some v) None low in
    record {
      pooled = record {
        fit = fit_after z z' zs' places places pooled.fit z_is
            (length-set z.zspages i (Some (set cells j (Some v)))) refl
            (index_keep z.zspages zs' places i j u v pooled.fit.index change used_there
            (ap (λ o. o.handle) same))
            (all_cells (λ cs. length cs ≡ z.per) z.zspages i (set cells j (Some v)) within
            (λ k cs other. pooled.fit.whole k cs)
            (length-set cells j (Some v) ∙ pooled.fit.whole i cells at.zspage))
            (omega (arith, pooled.fit.numbers, live));
        count = omega (arith, pooled.count, live, ap (λ x. length (used_cells x.zspages)) z_is);
        filled = subst (λ x. AreFilled x.zspages) (sym z_is)
            (all_cells (λ cs. 1 ≤ used_of cs) z.zspages i (set cells j (Some v)) within
            (λ k cs other. pooled.filled k cs)
            (omega (arith, count, ap one_of at.cell, pooled.filled i cells at.zspage)));
      };
      list = ap (λ x. map object_of (used_cells x.zspages)) z_is
          ∙ objects_keep z.zspages i j cells u v at.zspage at.cell same;
      here = subst (λ x. Contains (used_cells x.zspages) v) (sym z_is)
          (contains_use zs' i j v change.here);
      keeps = subst (λ x. Keeps z.zspages x.zspages u.handle) (sym z_is)
          (keeps z.zspages zs' i j (Some v) u.handle change (λ w is.
          let both : Some u ≡ Some w = sym used_there ∙ is in
          let one : u ≡ w = cc in
          ap (λ x. x.handle) (sym one)));
    }

-- ---- an object goes away

pub record Freed (used : ℕ) (z z' : ZspagesState) (places : List (Option Place)) (u : UsedCell)
    : Type 0 where
  pub pooled : IsPooled (used - 1) z' (set places u.handle None)
  pub object : HasOneMore (map object_of (used_cells z'.zspages))
      (map object_of (used_cells z.zspages)) (object_of u)
  pub keeps : Keeps z.zspages z'.zspages u.handle

freed_by : (used : ℕ) (z z' : ZspagesState) (zs' : List (Option Cells))
    (places : List (Option Place)) (i j : ℕ) (u : UsedCell)
    → IsPooled used z places → z' ≡ record z { zspages = zs' } → use_at z.zspages i j ≡ Some u
    → Changes z.zspages zs' i j None → HasOneMore (used_cells zs') (used_cells z.zspages) u
    → length zs' ≡ length z.zspages → AreWhole z.per zs' → AreFilled zs' → Freed used z z' places u
freed_by used z z' zs' places i j u pooled z_is was change more long whole filled =
    let live = length_more (used_cells zs') (used_cells z.zspages) u more in
    let is_listed : entry places u.handle ≡ Some (place i j) = pooled.fit.index.listed i j u was in
    let low : u.handle < length places = entry_within places u.handle (place i j) is_listed in
    let taken = sum_by-set one_of places u.handle None None low in
    record {
      pooled = record {
        fit = fit_after z z' zs' places (set places u.handle None) pooled.fit z_is long
            (length-set places u.handle None)
            (index_clear z.zspages zs' places i j u pooled.fit.index change was) whole
            (omega (arith, pooled.fit.numbers, live, taken, ap one_of is_listed));
        count = omega (arith, pooled.count, live, ap (λ x. length (used_cells x.zspages)) z_is);
        filled = subst (λ x. AreFilled x.zspages) (sym z_is) filled;
      };
      object = λ f.
          object_more (used_cells zs') (used_cells z.zspages) u more f
          ∙ ap (λ x. sum_by f (map object_of (used_cells x.zspages)) + f (object_of u)) (sym z_is);
      keeps = subst (λ x. Keeps z.zspages x.zspages u.handle) (sym z_is)
          (keeps z.zspages zs' i j None u.handle change (λ w is.
          let both : Some u ≡ Some w = sym was ∙ is in
          let one : u ≡ w = cc in
          ap (λ x. x.handle) (sym one)));
    }

-- the zspage was given up, or it lost one object
abbrev pub Parts : ZspagesState → ZspagesState → Place → Cells → Type 0
Parts z z' p cells =
    ((used_of cells ≡ 1) × (z' ≡ record z { zspages = set z.zspages p.zspage None }))
    ⊎ ((2 ≤ used_of cells) × (z' ≡ record z {
      zspages =
          set z.zspages p.zspage (Some (set cells p.cell None));
    }))

pub freed : (used : ℕ) (z z' : ZspagesState) (places : List (Option Place)) (p : Place)
    (u : UsedCell)
    (at : IsAt z.zspages p u) → IsPooled used z places → Parts z z' p at.cells
    → Freed used z z' places u
freed used z z' places p u at pooled parts =
    let i : ℕ = p.zspage in
    let j : ℕ = p.cell in
    let cells : Cells = at.cells in
    let within : i < length z.zspages = entry_within z.zspages i cells at.zspage in
    let low : j < length cells = entry_within cells j u at.cell in
    let was : use_at z.zspages i j ≡ Some u = use_there z.zspages i j cells at.zspage ∙ at.cell in
    let count = sum_by-set one_of cells j None None low in
    elim parts [
      | inl w ↦
          freed_by used z z' (set z.zspages i None) places i j u pooled w.1 was
          (changes_gone z.zspages i j cells u at.zspage at.cell w.0)
          (λ g. sum_gone g z.zspages i j cells u at.zspage at.cell w.0)
          (length-set z.zspages i None)
          (all_gone (λ cs. length cs ≡ z.per) z.zspages i within pooled.fit.whole)
          (all_gone (λ cs. 1 ≤ used_of cs) z.zspages i within pooled.filled)
      | inr w ↦
          freed_by used z z' (set z.zspages i (Some (set cells j None))) places i j u pooled w.1 was
          (changes_cell z.zspages i j cells None at.zspage low)
          (clear_more z.zspages i j cells u at.zspage at.cell)
          (length-set z.zspages i (Some (set cells j None)))
          (all_cells (λ cs. length cs ≡ z.per) z.zspages i (set cells j None) within
          (λ k cs other. pooled.fit.whole k cs)
          (length-set cells j None ∙ pooled.fit.whole i cells at.zspage))
          (all_cells (λ cs. 1 ≤ used_of cs) z.zspages i (set cells j None) within
          (λ k cs other. pooled.filled k cs) (omega (arith, count, ap one_of at.cell, w.0)))
    ]

-- ---- a new zspage

length-put_cases : (zs : List (Option Cells)) (i : ℕ) (x : Option Cells) → i ≤ length zs
    → (length (put_at zs i x) ≡ length zs) ⊎ (length (put_at zs i x) ≡ i + 1)
length-put_cases [] zero x low = inr (omega arith)
length-put_cases [] (suc i) x low = absurd (omega arith)
length-put_cases (z ∷ zs) zero x low = inl refl
length-put_cases (z ∷ zs) (suc i) x low =
    elim (length-put_cases zs i x (omega arith))
    [ inl e ↦ inl (omega arith) | inr e ↦ inr (omega arith) ]

-- the numbers were made for one more zspage, or some of them
pub record Grows (per i : ℕ) (places places' : List (Option Place)) : Type 0 where
  pub more : (n : ℕ) × (places' ≡ places ++ replicate n None)
  pub bound : length places ≤ (i + 1) * per → length places' ≤ (i + 1) * per
  pub stays : (i + 1) * per ≤ length places → places' ≡ places

pub grown_fit : (i : ℕ) (z : ZspagesState) (places places' : List (Option Place))
    → Fit z places → i ≤ length z.zspages → Grows z.per i places places' → Fit z places'
grown_fit i z places places' fit within grows =
    let n : ℕ = grows.more.0 in
    let long : length places' ≡ length places + length (replicate {A = Option Place} n None) =
    ap length grows.more.1 ∙ length-append places (replicate n None) in
    let most : (i + 1) * z.per ≤ (length z.zspages + 1) * z.per =
    mul-le (i + 1) z.per (length z.zspages + 1) z.per (omega arith) (omega arith) in
    record {
      some = fit.some;
      few = fit.few;
      index = subst (λ ps. IsIndex z.zspages ps) (sym grows.more.1)
          (index_grow z.zspages places n fit.index);
      whole = fit.whole;
      numbers = omega (
        arith,
        ap used_of grows.more.1,
        sum_by-append one_of places (replicate n None),
        sum_by-replicate {X = Option Place} one_of n None,
        fit.numbers,
      );
      enough = omega (arith, long, fit.enough);
      bounded = elim (cases_lt (length places) ((i + 1) * z.per)) [
        | inl less ↦ omega (arith, grows.bound (omega arith), most)
        | inr same ↦ omega (arith, ap length (grows.stays same), fit.bounded)
      ];
      short = fit.short;
    }

pub added_fit : (i : ℕ) (z z' : ZspagesState) (places : List (Option Place))
    → Fit z places → IsLeastAbsent z.zspages i → i + 1 < 2 ^ 32 → (i + 1) * z.per ≤ length places
    → z' ≡ record z { zspages = put_at z.zspages i (Some (replicate z.per None)) } → Fit z' places
added_fit i z z' places fit least small room z_is =
    let new : Option Cells = Some (replicate z.per None) in
    let zs' : List (Option Cells) = put_at z.zspages i new in
    let grown : length z.zspages ≤ length zs' = length-put z.zspages i new least.within in
    let more : z.per * (length z.zspages + 1) ≤ z.per * (length zs' + 1) =
    mul-le z.per (length z.zspages + 1) z.per (length zs' + 1) (omega arith) (omega arith) in
    subst (λ v. Fit v places) (sym z_is) (record {
      some = fit.some;
      few = fit.few;
      index = index_put z.zspages places i z.per least fit.index;
      whole = λ k cells at.
          elim (cases_eq k i) [
            | inl e ↦
                let both : new ≡ Some cells =
                sym (entry-put_same z.zspages i new least.within) ∙ ap (λ n. entry zs' n) (sym e)
                ∙ at in
                let is : replicate z.per None ≡ cells = cc in
                subst (λ xs. length xs ≡ z.per) is (length-replicate z.per None)
            | inr other ↦
                fit.whole k cells (sym (entry-put_other z.zspages i k new least.within other) ∙ at)
          ];
      numbers = fit.numbers ∙ ap length (sym
          (used_cells-put z.zspages i z.per least.within least.absent));
      enough = elim (length-put_cases z.zspages i new least.within) [
        | inl e ↦ rw e fit.enough
        | inr e ↦ rw e (omega (arith, room))
      ];
      bounded = omega (arith, fit.bounded, more);
      short = elim (length-put_cases z.zspages i new least.within) [
        | inl e ↦ rw e fit.short
        | inr e ↦ rw e small
      ];
    })

-- what is left then: the new zspage is there, and uses no cell
pub record Made (z z' : ZspagesState) (i : ℕ) : Type 0 where
  pub there : entry z'.zspages i ≡ Some (replicate z.per None)
  pub room : HasRoom (entry z'.zspages i)
  pub used : used_cells z'.zspages ≡ used_cells z.zspages
  pub beside : (k : ℕ) (cells : Cells) → k ≢ i → entry z'.zspages k ≡ Some cells → 1 ≤ used_of cells

pub made : (z z' : ZspagesState) (i : ℕ) → 1 ≤ z.per → AreFilled z.zspages
    → IsLeastAbsent z.zspages i
    → z' ≡ record z { zspages = put_at z.zspages i (Some (replicate z.per None)) } → Made z z' i
made z z' i some filled least z_is =
    let new : Option Cells = Some (replicate z.per None) in
    let there : entry (put_at z.zspages i new) i ≡ new =
    entry-put_same z.zspages i new least.within in
    subst (λ v. Made z v i) (sym z_is) (record {
      there = there;
      room = subst HasRoom (sym there) (omega (
        arith,
        sum_by-replicate {X = Option UsedCell} one_of z.per None,
        length-replicate {A = Option UsedCell} z.per None,
      ));
      used = used_cells-put z.zspages i z.per least.within least.absent;
      beside = λ k cells other at. filled k cells
          (sym (entry-put_other z.zspages i k new least.within other) ∙ at);
    })

set-put : (zs : List (Option Cells)) (i : ℕ) (x y : Option Cells) → i ≤ length zs
    → set (put_at zs i x) i y ≡ put_at zs i y
set-put [] zero x y low = refl
set-put [] (suc i) x y low = absurd (omega arith)
set-put (z ∷ zs) zero x y low = refl
set-put (z ∷ zs) (suc i) x y low = ap (λ os. z ∷ os) (set-put zs i x y (omega arith))

-- the first cell of a new zspage is the lowest free one
pub first_cell : (n j : ℕ) → 1 ≤ n → IsLowestFree (replicate n None) j → j ≡ 0
first_cell zero j some lowest = absurd (omega arith)
first_cell (suc n) zero some lowest = refl
first_cell (suc n) (suc j) some lowest = absurd (lowest.lowest 0 (omega arith) refl)

-- the zspages after a new one has its object
pub made_zspages : (z z1 z2 : ZspagesState) (i j : ℕ) (cells : Cells) (u : UsedCell)
    → IsLeastAbsent z.zspages i
    → z1 ≡ record z { zspages = put_at z.zspages i (Some (replicate z.per None)) }
    → cells ≡ replicate z.per None → j ≡ 0
    → z2 ≡ record z1 { zspages = set z1.zspages i (Some (set cells j (Some u))) }
    → z2 ≡ record z { zspages = put_at z.zspages i (Some (set (replicate z.per None) 0 (Some u))) }
made_zspages z z1 z2 i j cells u least is1 one first is2 =
    let new : List (Option Cells) → ZspagesState = λ zs. record z { zspages = zs } in
    let step : ZspagesState → ZspagesState =
    λ v. record v { zspages = set v.zspages i (Some (set cells j (Some u))) } in
    is2 ∙ ap step is1
    ∙ ap new (set-put z.zspages i (Some (replicate z.per None)) (Some (set cells j (Some u)))
    least.within)
    ∙ ap new (ap (λ (cs : Cells). put_at z.zspages i (Some (set cs j (Some u)))) one)
    ∙ ap new (ap (λ n. put_at z.zspages i (Some (set (replicate z.per None) n (Some u)))) first)
