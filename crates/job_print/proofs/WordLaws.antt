-- The words of lines, read back.
use Rattle.std.proofs.Common.{◌≡◌, ℕ, ◌+◌, ◌<◌, ◌^◌, inl, inr, Bool, true, false, ◌&&◌, ◌||◌, ◌==◌, cond, List, [], ◌∷◌, ◌++◌, length, take, drop, get_or, map, position, codes, Option, Some, None, nat_lt, option_map, option_and_then, refl, ap, sym, subst, ◌∙◌, arith}
use Rattle.std.specs.List.{list_all, AllByRecursion}
use Rattle.std.specs.Str.{bytes_eq}
use Rattle.std.specs.Fmt.{decimal}
use Rattle.std.proofs.Math.Seq.{take-append_seam, drop-append-add}
use Rattle.std.proofs.lemmas.Bool.{lt-ltb, eqb-true, and_parts}
use Rattle.std.proofs.lemmas.Bool.Decides.{nat_tests}
use Rattle.std.proofs.lemmas.Option.{option_and_then_some}
use Rattle.std.proofs.lemmas.List.Folds.{list_all-append}
use Rattle.std.proofs.lemmas.Slice.Eq.{bytes_eq-Decides}
use Rattle.zr_base.specs.declared.op.Tag.{Tag}
use Rattle.zr_base.specs.declared.op.OpEnd.{OpEnd}
use Rattle.zr_base.specs.declared.op.OpEnd.TheVariants as ends
use Rattle.job_text.specs.declared.fault.Cause.{Cause}
use Rattle.job_text.specs.declared.fault.Cause.TheVariants as causes
use Rattle.job_print.specs.declared.line.Refusal.{Refusal}
use Rattle.job_print.specs.declared.line.Refusal.TheVariants as refusals
use Rattle.job_print.specs.Texts.{tag_word, written_words, end_words, cause_word, refusal_words}
use Rattle.job_print.specs.Proper.{IsProperTag, IsProperEnd, AreLong, IsLetter, AreLetters}
use Rattle.job_print.specs.Reading.{all_in, number_in, short_in, tag_at, tag_in, limit_end_in, memory_end_in, eio_in, fault_end_in, written_in, write_fault_in, four_end_in, cut_end_in, six_end_in, compacted_in, triple_end_in, marked_end_in, plain_end_in, end_in, is_letter, letters_in, cause_in, refusal_in}
use Rattle.job_print.proofs.Numbers.{number-decimal, number_some, short-decimal, short_some, decimal_digits}
use Rattle.job_print.proofs.Marks.{is_word, position-marked, position_marks, digits_word, digits_lack}

-- ---- choices

pub chosen : {A : Type 0} {P : Type 0} (b : Bool) (x y : Option A) (a : A) → cond b x y ≡ Some a
    → (b ≡ true → x ≡ Some a → P) → (y ≡ Some a → P) → P
chosen true x y a e first other = first refl e
chosen false x y a e first other = other e

pub some_is : {A : Type 0} (x y : A) → Some x ≡ Some y → x ≡ y
some_is x y e = cc

pub same_bytes : (xs ys : List ℕ) → bytes_eq xs ys ≡ true → xs ≡ ys
same_bytes xs ys e = (bytes_eq-Decides xs ys).0 e

-- ---- lists of items

module _ {A : Type 0} (read : List ℕ → Option A) (write : A → List ℕ) (P : A → Type 0) where
  pub all_in-map : ((a : A) → P a → read (write a) ≡ Some a) → (items : List A)
      → AllByRecursion P items → all_in read (map write items) ≡ Some items
  all_in-map back [] all = refl
  all_in-map back (a ∷ items) all =
      ap (λ (o : Option A). option_and_then (λ y. option_and_then (λ ys. Some (y ∷ ys))
      (all_in read (map write items))) o) (back a all.0)
      ∙ ap (λ (o : Option (List A)). option_and_then (λ ys. Some (a ∷ ys)) o)
      (all_in-map back items all.1)

  pub all_in_some : ((word : List ℕ) (a : A) → read word ≡ Some a → (write a ≡ word) × P a)
      → (words : List (List ℕ)) (items : List A) → all_in read words ≡ Some items
      → (map write items ≡ words) × AllByRecursion P items
  all_in_some is [] items e =
      let none : [] ≡ items = cc in
      let Q : List A → Type 0 = λ xs. (map write xs ≡ []) × AllByRecursion P xs in
      subst Q none (refl, tt)
  all_in_some is (word ∷ words) items e =
      option_and_then_some (λ y. option_and_then (λ ys. Some (y ∷ ys)) (all_in read words)) (read word)
      items e (λ a one rest.
      option_and_then_some (λ ys. Some (a ∷ ys)) (all_in read words) items rest
      (λ xs two last.
      let same : a ∷ xs ≡ items = cc in
      let p = is word a one in
      let q = all_in_some is words xs two in
      let Q : List A → Type 0 = λ ys. (map write ys ≡ word ∷ words) × AllByRecursion P ys in
      subst Q same (ap (λ w. w ∷ map write xs) p.0 ∙ ap (λ ws. word ∷ ws) q.0, (p.1, q.1))))

  pub all_words : ((a : A) → P a → is_word (write a) ≡ true) → (items : List A)
      → AllByRecursion P items → list_all is_word (map write items) ≡ true
  all_words is [] all = refl
  all_words is (a ∷ items) all =
      ap (λ b. b && list_all is_word (map write items)) (is a all.0) ∙ all_words is items all.1

pub long_word : (n : ℕ) → n < 2 ^ 64 → is_word (decimal n) ≡ true
long_word n small = digits_word (decimal n) (decimal_digits n small)

pub short_word : (n : ℕ) → n < 2 ^ 32 → is_word (decimal n) ≡ true
short_word n small = long_word n (omega arith)

-- ---- calls of an order

-- a call of an order by the words of its numbers
abbrev pair : List ℕ → List ℕ → Option Tag
pair x y = option_and_then (λ a. option_and_then (λ k. Some (record { actor = a; op = k })) (short_in y))
    (short_in x)

pub tag-word : (tag : Tag) → IsProperTag tag → tag_in (tag_word tag) ≡ Some tag
unfolding tag_in
tag-word tag is =
    let a = decimal tag.actor in
    let k = decimal tag.op in
    let colon = position-marked 58 a k (digits_lack a (decimal_digits tag.actor (let s = is.0 in omega arith))) in
    ap (λ o. tag_at o (a ++ 58 ∷ k)) colon
    ∙ ap (λ x. pair x (drop (length a + 1) (a ++ 58 ∷ k))) (take-append_seam a (58 ∷ k))
    ∙ ap (pair a) (drop-append-add a (58 ∷ k) 1)
    ∙ ap (λ (o : Option ℕ). option_and_then (λ x. option_and_then (λ y. Some (record { actor = x; op = y })) (short_in k)) o)
    (short-decimal tag.actor is.0)
    ∙ ap (λ (o : Option ℕ). option_and_then (λ y. Some (record { actor = tag.actor; op = y })) o)
    (short-decimal tag.op is.1)

pub tag_some : (word : List ℕ) (tag : Tag) → tag_in word ≡ Some tag
    → (tag_word tag ≡ word) × IsProperTag tag
unfolding tag_in
tag_some word tag e = by (position (λ c. c == 58) word) refl e
  where
    by : (o : Option ℕ) → position (λ c. c == 58) word ≡ o → tag_at o word ≡ Some tag
        → (tag_word tag ≡ word) × IsProperTag tag
    by None at e = cc
    by (Some i) at e =
        option_and_then_some (λ a. option_and_then (λ k. Some (record { actor = a; op = k }))
        (short_in (drop (i + 1) word))) (short_in (take i word)) tag e
        (λ a one rest.
        option_and_then_some (λ k. Some (record { actor = a; op = k })) (short_in (drop (i + 1) word)) tag rest
        (λ k two last.
        let p = short_some (take i word) a one in
        let q = short_some (drop (i + 1) word) k two in
        let same : record { actor = a; op = k } ≡ tag = some_is (record { actor = a; op = k }) tag last in
        let Q : Tag → Type 0 = λ t. (tag_word t ≡ word) × IsProperTag t in
        subst Q same (
          ap (λ xs. xs ++ 58 ∷ decimal k) p.0 ∙ ap (λ ys. take i word ++ 58 ∷ ys) q.0
              ∙ position_marks 58 i word at,
          (p.1, q.1),
        )))

pub tag_is_word : (tag : Tag) → IsProperTag tag → is_word (tag_word tag) ≡ true
tag_is_word tag is =
    list_all-append (λ c. nat_lt 32 c) (decimal tag.actor) (58 ∷ decimal tag.op)
    ∙ ap (λ b. b && is_word (decimal tag.op)) (short_word tag.actor is.0)
    ∙ short_word tag.op is.1

-- ---- ends

-- how many pages were written back and how many in vain, read back
written-words : (w l : ℕ) → w < 2 ^ 32 → l < 2 ^ 32
    → written_in (codes "wrote") (decimal w) (codes "lost") (decimal l) ≡ Some (w, l)
unfolding written_in
written-words w l few small =
    ap (λ (o : Option ℕ). option_and_then (λ n. option_and_then
    (λ k. Some (n, k)) (short_in (decimal l))) o) (short-decimal w few)
    ∙ ap (λ (o : Option ℕ). option_and_then (λ k. Some (w, k)) o) (short-decimal l small)

pub end-words : (end : OpEnd) → IsProperEnd end → end_in (end_words end) ≡ Some end
unfolding end_in plain_end_in memory_end_in fault_end_in four_end_in cut_end_in six_end_in
    marked_end_in triple_end_in limit_end_in
end-words ends.Ok is = refl
end-words ends.Range is = refl
end-words (ends.AtLimit pages need limit done) is =
    ap (λ (o : Option (List ℕ)). option_and_then (λ ns. option_and_then
    (λ d. Some (ends.AtLimit (get_or ns 0 0) (get_or ns 1 0) (get_or ns 2 0) d)) (short_in (decimal done))) o)
    (all_in-map number_in decimal (λ n. n < 2 ^ 64) number-decimal (pages ∷ need ∷ limit ∷ [])
    (is.0, (is.1, (is.2, tt))))
    ∙ ap (λ (o : Option ℕ). option_and_then (λ d. Some (ends.AtLimit pages need limit d)) o)
    (short-decimal done is.3)
end-words (ends.NoMemory done) is = ap (option_map ends.NoMemory) (short-decimal done is)
end-words (ends.Eio fault done) is =
    ap (λ (o : Option ℕ). option_and_then (λ f. option_and_then
    (λ d. Some (ends.Eio f d)) (short_in (decimal done))) o) (number-decimal fault is.0)
    ∙ ap (λ (o : Option ℕ). option_and_then (λ d. Some (ends.Eio fault d)) o)
    (short-decimal done is.1)
end-words (ends.Marked pages) is = ap (option_map ends.Marked) (short-decimal pages is)
end-words (ends.Written wrote lost) is =
    ap (option_map (λ (n : ℕ × ℕ). ends.Written n.0 n.1)) (written-words wrote lost is.0 is.1)
end-words (ends.Budget wrote lost) is =
    ap (option_map (λ (n : ℕ × ℕ). ends.Budget n.0 n.1)) (written-words wrote lost is.0 is.1)
end-words (ends.NoBlock wrote lost) is =
    ap (option_map (λ (n : ℕ × ℕ). ends.NoBlock n.0 n.1)) (written-words wrote lost is.0 is.1)
end-words ends.NoBacking is = refl
end-words (ends.WriteEio fault wrote lost) is =
    ap (λ (o : Option ℕ). option_and_then (λ f. option_and_then
    (λ (n : ℕ × ℕ). Some (ends.WriteEio f n.0 n.1))
    (written_in (codes "wrote") (decimal wrote) (codes "lost") (decimal lost))) o)
    (number-decimal fault is.0)
    ∙ ap (λ (o : Option (ℕ × ℕ)). option_and_then
    (λ (n : ℕ × ℕ). Some (ends.WriteEio fault n.0 n.1)) o) (written-words wrote lost is.1 is.2)
end-words (ends.Compacted moves frames) is =
    ap (λ (o : Option ℕ). option_and_then (λ m. option_and_then
    (λ f. Some (ends.Compacted m f)) (number_in (decimal frames))) o) (number-decimal moves is.0)
    ∙ ap (λ (o : Option ℕ). option_and_then (λ f. Some (ends.Compacted moves f)) o)
    (number-decimal frames is.1)

abbrev pub IsEnd : OpEnd → List (List ℕ) → Type 0
IsEnd end words = (end_words end ≡ words) × IsProperEnd end

plain_some : (word : List ℕ) (end : OpEnd) → plain_end_in word ≡ Some end → IsEnd end (word ∷ [])
unfolding plain_end_in
plain_some word end e =
    chosen (bytes_eq word (codes "ok")) _ _ end e
    (λ is told. let same : ends.Ok ≡ end = cc in
    let P : OpEnd → Type 0 = λ x. IsEnd x (word ∷ []) in
    subst P same (ap (λ w. w ∷ []) (sym (same_bytes word (codes "ok") is)), tt))
    (λ e. chosen (bytes_eq word (codes "range")) _ _ end e
    (λ is told. let same : ends.Range ≡ end = cc in
    let P : OpEnd → Type 0 = λ x. IsEnd x (word ∷ []) in
    subst P same (ap (λ w. w ∷ []) (sym (same_bytes word (codes "range") is)), tt))
    (λ e. chosen (bytes_eq word (codes "nobacking")) _ _ end e
    (λ is told. let same : ends.NoBacking ≡ end = cc in
    let P : OpEnd → Type 0 = λ x. IsEnd x (word ∷ []) in
    subst P same (ap (λ w. w ∷ []) (sym (same_bytes word (codes "nobacking") is)), tt))
    (λ none. cc)))

memory_some : (word name done : List ℕ) (end : OpEnd) → memory_end_in word name done ≡ Some end
    → IsEnd end (word ∷ name ∷ done ∷ [])
unfolding memory_end_in
memory_some word name done end e =
    chosen (bytes_eq word (codes "nomem") && bytes_eq name (codes "done")) _ _ end e
    (λ is told. option_and_then_some (λ d. Some (ends.NoMemory d)) (short_in done) end told
    (λ d one last.
    let parts = and_parts _ _ is in
    let p = short_some done d one in
    let a = same_bytes word (codes "nomem") parts.0 in
    let b = same_bytes name (codes "done") parts.1 in
    let same : ends.NoMemory d ≡ end = cc in
    let P : OpEnd → Type 0 = λ x. IsEnd x (word ∷ name ∷ done ∷ []) in
    subst P same (
      ap (λ w. w ∷ codes "done" ∷ decimal d ∷ []) (sym a)
          ∙ ap (λ w. word ∷ w ∷ decimal d ∷ []) (sym b) ∙ ap (λ w. word ∷ name ∷ w ∷ []) p.0,
      p.1,
    )))
    (λ none. cc)

eio_some : (word fault name done : List ℕ) (end : OpEnd) → word ≡ codes "eio" → name ≡ codes "done"
    → eio_in fault done ≡ Some end
    → IsEnd end (word ∷ fault ∷ name ∷ done ∷ [])
eio_some word fault name done end is named e =
    option_and_then_some (λ f. option_and_then (λ d. Some (ends.Eio f d)) (short_in done))
    (number_in fault) end e
    (λ f one rest.
    option_and_then_some (λ d. Some (ends.Eio f d)) (short_in done) end rest
    (λ d two last.
    let p = number_some fault f one in
    let q = short_some done d two in
    let P : OpEnd → Type 0 = λ x. IsEnd x (word ∷ fault ∷ name ∷ done ∷ []) in
    let a = p.0 in
    let b = q.0 in
    let all : end_words (ends.Eio f d) ≡ word ∷ fault ∷ name ∷ done ∷ [] = cc in
    subst P (some_is (ends.Eio f d) end last) (all, (p.1, q.1))))

fault_some : (word fault name done : List ℕ) (end : OpEnd) → word ≡ codes "eio"
    → fault_end_in fault name done ≡ Some end
    → IsEnd end (word ∷ fault ∷ name ∷ done ∷ [])
unfolding fault_end_in
fault_some word fault name done end is e =
    chosen (bytes_eq name (codes "done")) _ _ end e
    (λ named told. eio_some word fault name done end is (same_bytes name (codes "done") named) told)
    (λ none. cc)

-- these words tell how many pages were written back and how many in vain
abbrev IsWritten : List (List ℕ) → ℕ × ℕ → Type 0
IsWritten words n = (written_words n.0 n.1 ≡ words) × (n.0 < 2 ^ 32) × (n.1 < 2 ^ 32)

written_some : (name wrote other lost : List ℕ) (n : ℕ × ℕ)
    → written_in name wrote other lost ≡ Some n
    → IsWritten (name ∷ wrote ∷ other ∷ lost ∷ []) n
unfolding written_in
written_some name wrote other lost n e =
    chosen (bytes_eq name (codes "wrote") && bytes_eq other (codes "lost")) _ _ n e
    (λ is told. option_and_then_some (λ w. option_and_then (λ l. Some (w, l)) (short_in lost))
    (short_in wrote) n told
    (λ w one rest. option_and_then_some (λ l. Some (w, l)) (short_in lost) n rest
    (λ l two last.
    let parts = and_parts _ _ is in
    let p = short_some wrote w one in
    let q = short_some lost l two in
    let a = same_bytes name (codes "wrote") parts.0 in
    let b = same_bytes other (codes "lost") parts.1 in
    let c = p.0 in
    let d = q.0 in
    let all : written_words w l ≡ name ∷ wrote ∷ other ∷ lost ∷ [] = cc in
    subst (IsWritten (name ∷ wrote ∷ other ∷ lost ∷ [])) (some_is (w, l) n last)
    (all, p.1, q.1))))
    (λ none. cc)

four_some : (word second third fourth : List ℕ) (end : OpEnd)
    → four_end_in word second third fourth ≡ Some end
    → IsEnd end (word ∷ second ∷ third ∷ fourth ∷ [])
unfolding four_end_in
four_some word second third fourth end e =
    chosen (bytes_eq word (codes "eio")) _ _ end e
    (λ is told. fault_some word second third fourth end (same_bytes word (codes "eio") is) told)
    (λ other. option_and_then_some (λ (n : ℕ × ℕ). Some (ends.Written n.0 n.1))
    (written_in word second third fourth) end other
    (λ n one last.
    let p = written_some word second third fourth n one in
    let P : OpEnd → Type 0 = λ x. IsEnd x (word ∷ second ∷ third ∷ fourth ∷ []) in
    subst P (some_is (ends.Written n.0 n.1) end last) (p.0, (p.1, p.2))))

-- what follows why a writeback was cut short
cut_as : (make : ℕ → ℕ → OpEnd) (why word name wrote other lost : List ℕ) (end : OpEnd)
    → ((w l : ℕ) → w < 2 ^ 32 → l < 2 ^ 32 → IsEnd (make w l) (why ∷ written_words w l))
    → word ≡ why
    → option_map (λ (n : ℕ × ℕ). make n.0 n.1) (written_in name wrote other lost) ≡ Some end
    → IsEnd end (word ∷ name ∷ wrote ∷ other ∷ lost ∷ [])
cut_as make why word name wrote other lost end makes is e =
    option_and_then_some (λ (n : ℕ × ℕ). Some (make n.0 n.1)) (written_in name wrote other lost) end e
    (λ n one last.
    let p = written_some name wrote other lost n one in
    let q = makes n.0 n.1 p.1 p.2 in
    let P : OpEnd → Type 0 = λ x. IsEnd x (word ∷ name ∷ wrote ∷ other ∷ lost ∷ []) in
    subst P (some_is (make n.0 n.1) end last) (q.0 ∙ (λ i. sym is i ∷ p.0 i), q.1))

cut_some : (word name wrote other lost : List ℕ) (end : OpEnd)
    → cut_end_in word name wrote other lost ≡ Some end
    → IsEnd end (word ∷ name ∷ wrote ∷ other ∷ lost ∷ [])
unfolding cut_end_in
cut_some word name wrote other lost end e =
    chosen (bytes_eq word (codes "budget")) _ _ end e
    (λ is told. cut_as ends.Budget (codes "budget") word name wrote other lost end
    (λ w l few small. (refl, (few, small))) (same_bytes word (codes "budget") is) told)
    (λ e. chosen (bytes_eq word (codes "noblock")) _ _ end e
    (λ is told. cut_as ends.NoBlock (codes "noblock") word name wrote other lost end
    (λ w l few small. (refl, (few, small))) (same_bytes word (codes "noblock") is) told)
    (λ none. cc))

write_fault_some : (word fault name wrote other lost : List ℕ) (end : OpEnd) → word ≡ codes "eio"
    → write_fault_in fault name wrote other lost ≡ Some end
    → IsEnd end (word ∷ fault ∷ name ∷ wrote ∷ other ∷ lost ∷ [])
write_fault_some word fault name wrote other lost end is e =
    option_and_then_some (λ f. option_and_then (λ (n : ℕ × ℕ). Some (ends.WriteEio f n.0 n.1))
    (written_in name wrote other lost)) (number_in fault) end e
    (λ f one rest.
    option_and_then_some (λ (n : ℕ × ℕ). Some (ends.WriteEio f n.0 n.1))
    (written_in name wrote other lost) end rest
    (λ n two last.
    let p = number_some fault f one in
    let q = written_some name wrote other lost n two in
    let P : OpEnd → Type 0 = λ x. IsEnd x (word ∷ fault ∷ name ∷ wrote ∷ other ∷ lost ∷ []) in
    subst P (some_is (ends.WriteEio f n.0 n.1) end last)
    ((λ i. sym is i ∷ p.0 i ∷ q.0 i), (p.1, q.1, q.2))))

compacted_some : (word moves frames : List ℕ) (end : OpEnd) → word ≡ codes "compacted"
    → compacted_in moves frames ≡ Some end
    → IsEnd end (word ∷ moves ∷ frames ∷ [])
compacted_some word moves frames end is e =
    option_and_then_some (λ m. option_and_then (λ f. Some (ends.Compacted m f)) (number_in frames))
    (number_in moves) end e
    (λ m one rest.
    option_and_then_some (λ f. Some (ends.Compacted m f)) (number_in frames) end rest
    (λ f two last.
    let p = number_some moves m one in
    let q = number_some frames f two in
    let P : OpEnd → Type 0 = λ x. IsEnd x (word ∷ moves ∷ frames ∷ []) in
    subst P (some_is (ends.Compacted m f) end last) (
      ap (λ w. w ∷ decimal m ∷ decimal f ∷ []) (sym is)
          ∙ ap (λ w. word ∷ w ∷ decimal f ∷ []) p.0 ∙ ap (λ w. word ∷ moves ∷ w ∷ []) q.0,
      (p.1, q.1),
    )))

marked_some : (word pages : List ℕ) (end : OpEnd) → marked_end_in word pages ≡ Some end
    → IsEnd end (word ∷ pages ∷ [])
unfolding marked_end_in
marked_some word pages end e =
    chosen (bytes_eq word (codes "marked")) _ _ end e
    (λ is told. option_and_then_some (λ n. Some (ends.Marked n)) (short_in pages) end told
    (λ n one last.
    let p = short_some pages n one in
    let a = same_bytes word (codes "marked") is in
    let same : ends.Marked n ≡ end = cc in
    let P : OpEnd → Type 0 = λ x. IsEnd x (word ∷ pages ∷ []) in
    subst P same (ap (λ w. w ∷ decimal n ∷ []) (sym a) ∙ ap (λ w. word ∷ w ∷ []) p.0, p.1)))
    (λ none. cc)

triple_some : (word second third : List ℕ) (end : OpEnd) → triple_end_in word second third ≡ Some end
    → IsEnd end (word ∷ second ∷ third ∷ [])
unfolding triple_end_in
triple_some word second third end e =
    chosen (bytes_eq word (codes "compacted")) _ _ end e
    (λ is told. compacted_some word second third end (same_bytes word (codes "compacted") is) told)
    (λ other. memory_some word second third end other)

limit_some : (word pages need limit name done : List ℕ) (end : OpEnd)
    → limit_end_in word (pages ∷ need ∷ limit ∷ []) name done ≡ Some end
    → IsEnd end (word ∷ pages ∷ need ∷ limit ∷ name ∷ done ∷ [])
unfolding limit_end_in
limit_some word pages need limit name done end e =
    chosen (bytes_eq word (codes "limit") && bytes_eq name (codes "done")) _ _ end e
    (λ is told. option_and_then_some (λ ns. option_and_then
    (λ d. Some (ends.AtLimit (get_or ns 0 0) (get_or ns 1 0) (get_or ns 2 0) d)) (short_in done))
    (all_in number_in (pages ∷ need ∷ limit ∷ [])) end told
    (λ ns one rest.
    option_and_then_some (λ d. Some (ends.AtLimit (get_or ns 0 0) (get_or ns 1 0) (get_or ns 2 0) d))
    (short_in done) end rest
    (λ d two last.
    let parts = and_parts _ _ is in
    let p = all_in_some number_in decimal (λ n. n < 2 ^ 64) number_some (pages ∷ need ∷ limit ∷ []) ns one in
    let q = short_some done d two in
    by ns d (same_bytes word (codes "limit") parts.0) (same_bytes name (codes "done") parts.1) p.0 p.1
    q.0 q.1 (some_is (ends.AtLimit (get_or ns 0 0) (get_or ns 1 0) (get_or ns 2 0) d) end last))))
    (λ none. cc)
  where
    by : (ns : List ℕ) (d : ℕ) → word ≡ codes "limit" → name ≡ codes "done"
        → map decimal ns ≡ pages ∷ need ∷ limit ∷ [] → AreLong ns → decimal d ≡ done → d < 2 ^ 32
        → ends.AtLimit (get_or ns 0 0) (get_or ns 1 0) (get_or ns 2 0) d ≡ end
        → IsEnd end (word ∷ pages ∷ need ∷ limit ∷ name ∷ done ∷ [])
    by (a ∷ b ∷ c ∷ []) d is named said long same small told =
        let P : OpEnd → Type 0 = λ x. IsEnd x (word ∷ pages ∷ need ∷ limit ∷ name ∷ done ∷ []) in
        let first : decimal a ≡ pages = cc in
        let second : decimal b ≡ need = cc in
        let third : decimal c ≡ limit = cc in
        let all : end_words (ends.AtLimit a b c d) ≡ word ∷ pages ∷ need ∷ limit ∷ name ∷ done ∷ [] = cc in
        subst P told (all, (long.0, long.1.0, long.1.1.0, small))
    by [] d is named said long same small told = cc
    by (a ∷ []) d is named said long same small told = cc
    by (a ∷ b ∷ []) d is named said long same small told = cc
    by (a ∷ b ∷ c ∷ n ∷ ns) d is named said long same small told = cc

six_some : (word second third fourth fifth sixth : List ℕ) (end : OpEnd)
    → six_end_in word second third fourth fifth sixth ≡ Some end
    → IsEnd end (word ∷ second ∷ third ∷ fourth ∷ fifth ∷ sixth ∷ [])
unfolding six_end_in
six_some word second third fourth fifth sixth end e =
    chosen (bytes_eq word (codes "eio")) _ _ end e
    (λ is told. write_fault_some word second third fourth fifth sixth end
    (same_bytes word (codes "eio") is) told)
    (λ other. limit_some word second third fourth fifth sixth end other)

pub end_some : (words : List (List ℕ)) (end : OpEnd) → end_in words ≡ Some end → IsEnd end words
unfolding end_in
end_some (word ∷ []) end e = plain_some word end e
end_some (word ∷ pages ∷ []) end e = marked_some word pages end e
end_some (word ∷ second ∷ third ∷ []) end e = triple_some word second third end e
end_some (word ∷ second ∷ third ∷ fourth ∷ []) end e = four_some word second third fourth end e
end_some (word ∷ name ∷ wrote ∷ other ∷ lost ∷ []) end e =
    cut_some word name wrote other lost end e
end_some (word ∷ second ∷ third ∷ fourth ∷ fifth ∷ sixth ∷ []) end e =
    six_some word second third fourth fifth sixth end e
end_some words end e = cc

written_are_words : (w l : ℕ) → w < 2 ^ 32 → l < 2 ^ 32
    → list_all is_word (written_words w l) ≡ true
written_are_words w l few small = ap (λ b. b && (is_word (decimal l) && true)) (short_word w few)
    ∙ ap (λ b. b && true) (short_word l small)

pub end_is_words : (end : OpEnd) → IsProperEnd end → list_all is_word (end_words end) ≡ true
end_is_words ends.Ok is = refl
end_is_words ends.Range is = refl
end_is_words (ends.AtLimit pages need limit done) is =
    ap (λ b. b && (is_word (decimal need) && (is_word (decimal limit) && (is_word (decimal done) && true))))
    (long_word pages is.0)
    ∙ ap (λ b. b && (is_word (decimal limit) && (is_word (decimal done) && true))) (long_word need is.1)
    ∙ ap (λ b. b && (is_word (decimal done) && true)) (long_word limit is.2)
    ∙ ap (λ b. b && true) (short_word done is.3)
end_is_words (ends.NoMemory done) is = ap (λ b. b && true) (short_word done is)
end_is_words (ends.Eio fault done) is =
    ap (λ b. b && (is_word (decimal done) && true)) (long_word fault is.0)
    ∙ ap (λ b. b && true) (short_word done is.1)
end_is_words (ends.Marked pages) is = ap (λ b. b && true) (short_word pages is)
end_is_words (ends.Written wrote lost) is = written_are_words wrote lost is.0 is.1
end_is_words (ends.Budget wrote lost) is = written_are_words wrote lost is.0 is.1
end_is_words (ends.NoBlock wrote lost) is = written_are_words wrote lost is.0 is.1
end_is_words ends.NoBacking is = refl
end_is_words (ends.WriteEio fault wrote lost) is =
    ap (λ b. b && list_all is_word (written_words wrote lost)) (long_word fault is.0)
    ∙ written_are_words wrote lost is.1 is.2
end_is_words (ends.Compacted moves frames) is =
    ap (λ b. b && (is_word (decimal frames) && true)) (long_word moves is.0)
    ∙ ap (λ b. b && true) (long_word frames is.1)

-- ---- letters and causes

letter_test : (letter c : ℕ) → IsLetter letter c → is_letter letter c ≡ true
letter_test letter c (inl e) = grind (arith, nat_tests)
letter_test letter c (inr e) = grind (arith, nat_tests)

letter_told : (letter c : ℕ) → is_letter letter c ≡ true → IsLetter letter c
letter_told letter c e = by (c == letter) refl e
  where
    by : (b : Bool) → (c == letter) ≡ b → (b || c == 46) ≡ true → IsLetter letter c
    by true is e = inl (eqb-true c letter is)
    by false is e = inr (eqb-true c 46 e)

letter_word : (letter c : ℕ) → 32 < letter → IsLetter letter c → nat_lt 32 c ≡ true
letter_word letter c above (inl e) = lt-ltb 32 c (omega arith)
letter_word letter c above (inr e) = lt-ltb 32 c (omega arith)

pub letters-letters : (letters : List ℕ) → AreLetters letters → letters_in letters ≡ Some letters
unfolding letters_in
letters-letters (s ∷ w ∷ h ∷ i ∷ []) are =
    ap (λ b. cond (b && is_letter 119 w && is_letter 104 h && is_letter 105 i)
    (Some (s ∷ w ∷ h ∷ i ∷ [])) None) (letter_test 115 s are.1)
    ∙ ap (λ b. cond (b && is_letter 104 h && is_letter 105 i) (Some (s ∷ w ∷ h ∷ i ∷ [])) None)
    (letter_test 119 w are.2)
    ∙ ap (λ b. cond (b && is_letter 105 i) (Some (s ∷ w ∷ h ∷ i ∷ [])) None) (letter_test 104 h are.3)
    ∙ ap (λ b. cond b (Some (s ∷ w ∷ h ∷ i ∷ [])) None) (letter_test 105 i are.4)
letters-letters [] are = absurd (omega (arith, are.0))
letters-letters (s ∷ []) are = absurd (omega (arith, are.0))
letters-letters (s ∷ w ∷ []) are = absurd (omega (arith, are.0))
letters-letters (s ∷ w ∷ h ∷ []) are = absurd (omega (arith, are.0))
letters-letters (s ∷ w ∷ h ∷ i ∷ c ∷ cs) are = absurd (omega (arith, are.0))

pub letters_some : (word letters : List ℕ) → letters_in word ≡ Some letters
    → (letters ≡ word) × AreLetters letters
unfolding letters_in
letters_some (s ∷ w ∷ h ∷ i ∷ []) letters e =
    chosen (is_letter 115 s && is_letter 119 w && is_letter 104 h && is_letter 105 i) _ _ letters e
    (λ is told.
    let a = and_parts _ _ is in
    let b = and_parts _ _ a.0 in
    let c = and_parts _ _ b.0 in
    let same : s ∷ w ∷ h ∷ i ∷ [] ≡ letters = some_is _ _ told in
    let P : List ℕ → Type 0 = λ ls. (ls ≡ s ∷ w ∷ h ∷ i ∷ []) × AreLetters ls in
    subst P same (
      refl,
      (
        refl,
        letter_told 115 s c.0,
        letter_told 119 w c.1,
        letter_told 104 h b.1,
        letter_told 105 i a.1,
      ),
    ))
    (λ none. cc)
letters_some word letters e = cc

pub letters_word : (letters : List ℕ) → AreLetters letters → is_word letters ≡ true
letters_word (s ∷ w ∷ h ∷ i ∷ []) are =
    ap (λ b. b && (nat_lt 32 w && (nat_lt 32 h && (nat_lt 32 i && true))))
    (letter_word 115 s (omega arith) are.1)
    ∙ ap (λ b. b && (nat_lt 32 h && (nat_lt 32 i && true))) (letter_word 119 w (omega arith) are.2)
    ∙ ap (λ b. b && (nat_lt 32 i && true)) (letter_word 104 h (omega arith) are.3)
    ∙ ap (λ b. b && true) (letter_word 105 i (omega arith) are.4)
letters_word [] are = absurd (omega (arith, are.0))
letters_word (s ∷ []) are = absurd (omega (arith, are.0))
letters_word (s ∷ w ∷ []) are = absurd (omega (arith, are.0))
letters_word (s ∷ w ∷ h ∷ []) are = absurd (omega (arith, are.0))
letters_word (s ∷ w ∷ h ∷ i ∷ c ∷ cs) are = absurd (omega (arith, are.0))

pub cause-word : (cause : Cause) → cause_in (cause_word cause) ≡ Some cause
unfolding cause_in
cause-word causes.Word = refl
cause-word causes.Number = refl
cause-word causes.Range = refl
cause-word causes.NoDisk = refl
cause-word causes.TooMany = refl
cause-word causes.Order = refl

pub cause_is_word : (cause : Cause) → is_word (cause_word cause) ≡ true
cause_is_word causes.Word = refl
cause_is_word causes.Number = refl
cause_is_word causes.Range = refl
cause_is_word causes.NoDisk = refl
cause_is_word causes.TooMany = refl
cause_is_word causes.Order = refl

caused : (word : List ℕ) (told cause : Cause) → word ≡ cause_word told → Some told ≡ Some cause
    → cause_word cause ≡ word
caused word told cause is e = let same : told ≡ cause = cc in ap cause_word (sym same) ∙ sym is

pub cause_some : (word : List ℕ) (cause : Cause) → cause_in word ≡ Some cause
    → cause_word cause ≡ word
unfolding cause_in
cause_some word cause e =
    chosen (bytes_eq word (codes "word")) _ _ cause e
    (λ is told. caused word causes.Word cause (same_bytes word (codes "word") is) told)
    (λ e. chosen (bytes_eq word (codes "number")) _ _ cause e
    (λ is told. caused word causes.Number cause (same_bytes word (codes "number") is) told)
    (λ e. chosen (bytes_eq word (codes "range")) _ _ cause e
    (λ is told. caused word causes.Range cause (same_bytes word (codes "range") is) told)
    (λ e. chosen (bytes_eq word (codes "nodisk")) _ _ cause e
    (λ is told. caused word causes.NoDisk cause (same_bytes word (codes "nodisk") is) told)
    (λ e. chosen (bytes_eq word (codes "toomany")) _ _ cause e
    (λ is told. caused word causes.TooMany cause (same_bytes word (codes "toomany") is) told)
    (λ e. chosen (bytes_eq word (codes "order")) _ _ cause e
    (λ is told. caused word causes.Order cause (same_bytes word (codes "order") is) told)
    (λ none. cc))))))

-- ---- refusals

pub refusal_is_words : (refusal : Refusal) → list_all is_word (refusal_words refusal) ≡ true
refusal_is_words refusals.DisksizeBusy = refl
refusal_is_words refusals.BackingBusy = refl
refusal_is_words refusals.BackingRange = refl

refused : (attr why a w : List ℕ) (told refusal : Refusal) → refusal_words told ≡ a ∷ w ∷ []
    → (bytes_eq attr a && bytes_eq why w) ≡ true → Some told ≡ Some refusal
    → refusal_words refusal ≡ attr ∷ why ∷ []
refused attr why a w told refusal words is e =
    let parts = and_parts (bytes_eq attr a) (bytes_eq why w) is in
    ap refusal_words (sym (some_is told refusal e)) ∙ words
    ∙ ap (λ x. x ∷ w ∷ []) (sym (same_bytes attr a parts.0))
    ∙ ap (λ x. attr ∷ x ∷ []) (sym (same_bytes why w parts.1))

pub refusal_some : (attr why : List ℕ) (refusal : Refusal) → refusal_in attr why ≡ Some refusal
    → refusal_words refusal ≡ attr ∷ why ∷ []
unfolding refusal_in
refusal_some attr why refusal e =
    chosen (bytes_eq attr (codes "disksize") && bytes_eq why (codes "busy")) _ _ refusal e
    (λ is told. refused attr why (codes "disksize") (codes "busy") refusals.DisksizeBusy refusal
    refl is told)
    (λ e. chosen (bytes_eq attr (codes "backing") && bytes_eq why (codes "busy")) _ _ refusal e
    (λ is told. refused attr why (codes "backing") (codes "busy") refusals.BackingBusy refusal
    refl is told)
    (λ e. chosen (bytes_eq attr (codes "backing") && bytes_eq why (codes "range")) _ _ refusal e
    (λ is told. refused attr why (codes "backing") (codes "range") refusals.BackingRange refusal
    refl is told)
    (λ none. cc)))
