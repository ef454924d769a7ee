-- The places of a disk's locks.
use Rattle.std.proofs.Common.{◌≡◌, ℕ, zero, suc, ◌+◌, ◌-◌, ◌<◌, ◌≤◌, List, [], ◌++◌, map, length, Option, Some, slice_get, slice_set, refl, sym, ap, ◌∙◌, subst, arith, ⊎_elim}
use Rattle.std.specs.List.{range_with_len}
use Rattle.std.proofs.lemmas.Bool.{cases_lt}
use Rattle.std.proofs.lemmas.List.{length-append}
use Rattle.std.proofs.lemmas.List.FromFn.{length-map-range_with_len, get_or-map-range_with_len}
use Rattle.std.proofs.lemmas.Option.{slice_get_within, slice_get-get_or}
use Rattle.lock_row.specs.declared.names.LockNo.{LockNo}
use Rattle.lock_row.specs.declared.names.LockNo.TheVariants as lock
use Rattle.lock_row.specs.Rows.{Row, IsDistinct, place_in, cell, with_cell}
use Rattle.lock_row.specs.Laws.{NamesHavePlaces}
use Rattle.page_steps.specs.Steps.{DiskHeld, slot, spot}
use Rattle.joint_rule.specs.Laws.{IsLock}
use Rattle.zr_core.specs.Rests.{slots_of, classes_of, last_locks, names_of, names_by}
use Rattle.zr_core.proofs.Lists.{get_left, get_right}

-- a list of names by their numbers
listed : (f : ℕ → LockNo) (n i : ℕ) → i < n
    → slice_get (map f (range_with_len 0 n)) i ≡ Some (f i)
listed f n i lt =
    let long = length-map-range_with_len f 0 n in
    slice_get-get_or (map f (range_with_len 0 n)) i (f i) (omega arith)
    ∙ ap Some (get_or-map-range_with_len f 0 n i i (f i) lt (omega arith))

abbrev class_lock : ℕ → LockNo
class_lock c = lock.Class c

slots_long : (size : ℕ) → length (slots_of size) ≡ size
slots_long size = length-map-range_with_len slot 0 size

classes_long : (n : ℕ) → length (classes_of n) ≡ n
classes_long n = length-map-range_with_len class_lock 0 n

module _ (xs ys zs : List LockNo) where
  two_long : length (xs ++ ys) ≡ length xs + length ys
  two_long = length-append xs ys

  second : (i n : ℕ) → i < length ys → n ≡ length xs + i
      → slice_get (xs ++ ys ++ zs) n ≡ slice_get ys i
  second i n lt e = get_left (xs ++ ys) zs n (let t = two_long in omega arith)
      ∙ get_right xs ys i n e

  third : (i n : ℕ) → n ≡ length xs + length ys + i
      → slice_get (xs ++ ys ++ zs) n ≡ slice_get zs i
  third i n e = get_right (xs ++ ys) zs i n (let t = two_long in omega arith)

  three_long : length (xs ++ ys ++ zs) ≡ length xs + length ys + length zs
  three_long = let a = length-append (xs ++ ys) zs in let b = two_long in omega arith

module _ (size : ℕ) where
  slot_there : (page : ℕ) → page < size → slice_get (names_of size) page ≡ Some (slot page)
  unfolding names_of
  slot_there page lt =
      get_left (slots_of size ++ classes_of 255) last_locks page
      (let s = slots_long size in let t = two_long (slots_of size) (classes_of 255) [] in
      omega arith)
      ∙ get_left (slots_of size) (classes_of 255) page (let s = slots_long size in omega arith)
      ∙ listed slot size page lt

  class_there : (c : ℕ) → c < 255 → slice_get (names_of size) (size + c) ≡ Some (lock.Class c)
  unfolding names_of
  class_there c lt =
      second (slots_of size) (classes_of 255) last_locks c (size + c)
      (let s = classes_long 255 in omega arith) (let s = slots_long size in omega arith)
      ∙ listed class_lock 255 c lt

  last_there : (i : ℕ) → slice_get (names_of size) (size + 255 + i) ≡ slice_get last_locks i
  unfolding names_of
  last_there i =
      third (slots_of size) (classes_of 255) last_locks i (size + 255 + i)
      (let s = slots_long size in let t = classes_long 255 in omega arith)

  pub names_long : length (names_of size) ≡ size + 258
  unfolding names_of
  names_long = let a = three_long (slots_of size) (classes_of 255) last_locks in
      let s = slots_long size in let t = classes_long 255 in omega arith

  -- the name at the place of a lock
  pub there : (k : LockNo) → IsLock size k → slice_get (names_of size) (spot size k) ≡ Some k
  there (lock.Slot page) lt = slot_there page.0 lt
  there (lock.Class c) lt = class_there c lt
  there lock.Account in_row = ap (slice_get (names_of size))
      (let q : size + 255 ≡ size + 255 + 0 = omega arith in q) ∙ last_there 0
  there lock.Blocks in_row = ap (slice_get (names_of size))
      (let q : size + 256 ≡ size + 255 + 1 = omega arith in q) ∙ last_there 1
  there lock.Device in_row = ap (slice_get (names_of size))
      (let q : size + 257 ≡ size + 255 + 2 = omega arith in q) ∙ last_there 2

  -- a name in the list is that of a lock, at its place
  abbrev At : ℕ → LockNo → Type 0
  At i k = IsLock size k × (spot size k ≡ i)

  named_by : (i : ℕ) (k m : LockNo) → IsLock size m → spot size m ≡ i
      → slice_get (names_of size) i ≡ Some k → At i k
  named_by i k m is at e =
      let q : m ≡ k = (let h : Some m ≡ Some k =
      sym (there m is) ∙ ap (slice_get (names_of size)) at ∙ e in cc) in
      subst (At i) q (is, at)

  pub named : (i : ℕ) (k : LockNo) → slice_get (names_of size) i ≡ Some k → At i k
  named i k e = ⊎_elim
      (λ low. named_by i k (slot i) low refl e)
      (λ ge. ⊎_elim
      (λ low. named_by i k (lock.Class (i - size)) (omega arith) (omega arith) e)
      (λ above. last (i - (size + 255)) (omega arith))
      (cases_lt i (size + 255)))
      (cases_lt i size) where
        long : i < size + 258
        long = let a = slice_get_within (names_of size) i k e in let b = names_long in omega arith

        last : (j : ℕ) → size + 255 + j ≡ i → At i k
        last zero at = named_by i k lock.Account tt (omega arith) e
        last (suc zero) at = named_by i k lock.Blocks tt (omega arith) e
        last (suc (suc zero)) at = named_by i k lock.Device tt (omega arith) e
        last (suc (suc (suc j))) at = absurd (let q = long in let none : ⊥ = omega arith in none)

  pub names_distinct : IsDistinct (names_of size)
  names_distinct = record {
    once = λ i j k e f. sym (named i k e).1 ∙ (named j k f).1;
  }

  -- ---- cells of a row

  module _ (laws : NamesHavePlaces) (k : LockNo) (is : IsLock size k) where
    pub place : place_in (names_of size) k ≡ spot size k
    place = laws (names_of size) (spot size k) k names_distinct (there k is)

    module _ (r : Row DiskHeld) (names : r.names ≡ names_of size) where
      place_of : place_in r.names k ≡ spot size k
      place_of = ap (λ ks. place_in ks k) names ∙ place

      pub cell_at : cell r k ≡ slice_get r.cells (spot size k)
      cell_at = ap (slice_get r.cells) place_of

      pub cells_with : (x : Option DiskHeld)
          → (with_cell r k x).cells ≡ slice_set r.cells (spot size k) x
      cells_with x = ap (λ (p : ℕ). slice_set r.cells p x) place_of

-- ---- a disk before and after its size is given

pub names_some : (pages : ℕ) → 1 ≤ pages → names_by pages ≡ names_of pages
names_some zero some = absurd (omega arith)
names_some (suc n) some = refl
