-- The values of a row on their way to the slots and back.
use Rattle.std.proofs.Common.{◌≡◌, ℕ, List, [], ◌∷◌, ◌++◌, length, map, reverse, get_or, Option, Some, sym, refl, ap, ◌∙◌, append_assoc}
use Rattle.std.proofs.lemmas.List.{reverse-append}
use Rattle.lock_row.specs.declared.names.LockNo.{LockNo}
use Rattle.lock_table.specs.Starts.{all_home}

module _ {V : Type 0} where
  abbrev pub names_in : List (LockNo × V) → List LockNo
  names_in values = map (λ x. x.0) values

  -- the values that a list of slots ends with
  pub last_home : (values : List (LockNo × V)) (slots : List (Option V)) (slot : Option V)
      → all_home values ≡ slots ++ slot ∷ []
      → (left : List (LockNo × V)) × (x : LockNo × V) × (values ≡ left ++ x ∷ [])
      × (slots ≡ all_home left) × (slot ≡ Some x.1)
  last_home [] [] slot e = absurd (cc)
  last_home [] (y ∷ slots) slot e = absurd (cc)
  last_home (x ∷ []) [] slot e = ([], x, refl, refl, cc)
  last_home (x ∷ z ∷ values) [] slot e = absurd (cc)
  last_home (x ∷ values) (y ∷ slots) slot e =
      let t : all_home values ≡ slots ++ slot ∷ [] = cc in
      let h : Some x.1 ≡ y = cc in
      let l = last_home values slots slot t in
      (x ∷ l.0, l.1, ap (λ vs. x ∷ vs) l.2, (λ i. sym h i ∷ l.3 i), l.4)

  name_at : (left right : List (LockNo × V)) (x : LockNo × V) (d : LockNo)
      → get_or (names_in (left ++ x ∷ right)) (length (all_home left)) d ≡ x.0
  name_at [] right x d = refl
  name_at (y ∷ left) right x d = name_at left right x d

  -- what is still in the slots, before what is back
  abbrev pub IsBack : List (LockNo × V) → List (Option V) → List (LockNo × V) → Type 0
  IsBack was slots back = (left : List (LockNo × V)) × (was ≡ left ++ reverse back)
      × (slots ≡ all_home left)

  pub one_back : (names : List LockNo) (was back : List (LockNo × V)) (old slots : List (Option V))
      (slot : Option V) (n : ℕ) (d : LockNo) (v : V)
      → names ≡ names_in was → IsBack was old back → old ≡ slots ++ slot ∷ [] → slot ≡ Some v
      → n ≡ length slots → IsBack was slots (back ++ (get_or names n d, v) ∷ [])
  one_back names was back old slots slot n d v named b e is len =
      let l = last_home b.0 slots slot (sym b.2 ∙ e) in
      let x = l.1 in
      let whole : was ≡ l.0 ++ x ∷ reverse back = b.1 ∙ ap (λ vs. vs ++ reverse back) l.2
      ∙ append_assoc l.0 (x ∷ []) (reverse back) in
      let key : get_or names n d ≡ x.0 =
      (λ i. get_or ((named ∙ ap names_in whole) i) ((len ∙ ap length l.3) i) d)
      ∙ name_at l.0 (reverse back) x d in
      let value : v ≡ x.1 = (let q : Some v ≡ Some x.1 = sym is ∙ l.4 in cc) in
      let item : (get_or names n d, v) ≡ x = λ i. (key i, value i) in (
        l.0,
        whole ∙ ap (λ vs. l.0 ++ vs)
            (sym (reverse-append back ((get_or names n d, v) ∷ [])
            ∙ ap (λ y. y ∷ reverse back) item)),
        l.3,
      )
