-- Lines, read back: a proper line's words are read as that line, and no other words are.
use Rattle.std.proofs.Common.{◌≡◌, ℕ, ◌+◌, ◌/◌, ◌%◌, ◌⊎◌, inl, inr, drop, ◌<◌, ◌≤◌, ◌^◌, true, false, ◌&&◌, ◌==◌, nat_lt, cond, List, [], ◌∷◌, ◌++◌, length, get_or, map, codes, Option, Some, None, option_map, option_and_then, refl, ap, sym, subst, ◌∙◌, arith}
use Rattle.std.specs.List.{flat_map, list_all, range_with_len, slice_split, AllByRecursion}
use Rattle.std.specs.Str.{bytes_eq}
use Rattle.std.specs.Fmt.{decimal}
use Rattle.std.specs.Int.{w64, to_be_bytes}
use Rattle.std.proofs.lemmas.Bool.{cases_lt, lt-ltb, le-ltb, eqb-true, and_parts, both_ways}
use Rattle.std.proofs.lemmas.Grind.{same_number_lists}
use Rattle.std.proofs.lemmas.List.{length-map}
use Rattle.std.proofs.lemmas.List.FromFn.{length-map-range_with_len, get_or-map-range_with_len}
use Rattle.std.proofs.lemmas.Option.{option_and_then_some}
use Rattle.zr_base.specs.declared.op.Tag.{Tag}
use Rattle.zr_base.specs.declared.op.OpEnd.{OpEnd}
use Rattle.mem_account.specs.declared.account.MmStat.{MmStat}
use Rattle.mem_account.specs.declared.account.IoStat.{IoStat}
use Rattle.backing_dev.specs.declared.stat.BdStat.{BdStat}
use Rattle.size_class.specs.declared.stat.ClassStat.{ClassStat}
use Rattle.job_text.specs.declared.fault.Cause.{Cause}
use Rattle.job_text.specs.declared.fault.JobFault.{JobFault}
use Rattle.job_print.specs.declared.line.Refusal.{Refusal}
use Rattle.job_print.specs.declared.line.Refusal.TheVariants as refusals
use Rattle.job_print.specs.declared.line.OutLine.{OutLine}
use Rattle.job_print.specs.declared.line.OutLine.TheVariants as lines
use Rattle.job_print.specs.Texts.{hex_digit, hex_byte, word_digits, spaced, tag_word, end_words, memory_numbers, calls_numbers, device_numbers, cell_words, use_words, cause_word, refusal_words, name_of, words_of, is_filled}
use Rattle.job_print.specs.Proper.{IsProperTag, IsProperStat, AreLong, AreShort, IsProper}
use Rattle.job_print.specs.Reading.{all_in, number_in, short_in, below, bytes_in, word_in, other_sector, tag_in, end_in, letters_in, cause_in, op_in, fill_in, hex_in, order_in, memory_of, memory_in, calls_of, calls_in, device_of, device_in, refusal_in, refused_in, state_in, stat_by, class_number_in, numbered_class, are_names, class_in, fault_in, is_run, is_gen, usage_in, named_in, line_by, line_in}
use Rattle.job_print.proofs.Filled.{fill_test, other_test}
use Rattle.job_print.proofs.Digits.{some_when, bytes-hex, bytes_some, word-digits, word_some}
use Rattle.job_print.proofs.Numbers.{none_when, number-decimal, number_some, short-decimal, short_some, below_some}
use Rattle.job_print.proofs.Marks.{is_word, split-spaced, spaced_is}
use Rattle.job_print.proofs.WordLaws

-- what is read back
pub record IsRead (name : List ℕ) (words : List (List ℕ)) (line : OutLine) : Type 0 where
  pub named : name_of line ≡ name
  pub worded : words_of line ≡ words
  pub proper : IsProper line

-- ---- op

op-line : (actor op : ℕ) (end : OpEnd) → IsProper (lines.Op actor op end)
    → op_in (decimal actor ∷ decimal op ∷ end_words end) ≡ Some (lines.Op actor op end)
unfolding op_in
op-line actor op end is =
    ap (λ (o : Option ℕ). option_and_then (λ a. option_and_then (λ k. option_and_then
    (λ e. Some (lines.Op a k e)) (end_in (end_words end))) (short_in (decimal op))) o)
    (short-decimal actor is.0)
    ∙ ap (λ (o : Option ℕ). option_and_then (λ k. option_and_then
    (λ e. Some (lines.Op actor k e)) (end_in (end_words end))) o) (short-decimal op is.1)
    ∙ ap (λ (o : Option OpEnd). option_and_then (λ e. Some (lines.Op actor op e)) o)
    (WordLaws.end-words end is.2)

op_some : (words : List (List ℕ)) (line : OutLine) → op_in words ≡ Some line
    → IsRead (codes "op") words line
unfolding op_in name_of words_of
op_some [] line e = cc
op_some (actor ∷ []) line e = cc
op_some (actor ∷ op ∷ words) line e =
    option_and_then_some (λ a. option_and_then (λ k. option_and_then
    (λ d. Some (lines.Op a k d)) (end_in words)) (short_in op)) (short_in actor) line e
    (λ a one rest.
    option_and_then_some (λ k. option_and_then (λ d. Some (lines.Op a k d)) (end_in words))
    (short_in op) line rest
    (λ k two more.
    option_and_then_some (λ d. Some (lines.Op a k d)) (end_in words) line more
    (λ d three last.
    let p = short_some actor a one in
    let q = short_some op k two in
    let r = WordLaws.end_some words d three in
    subst (IsRead (codes "op") (actor ∷ op ∷ words)) (WordLaws.some_is (lines.Op a k d) line last)
    (record {
      named = refl;
      worded = ap (λ w. w ∷ decimal k ∷ end_words d) p.0
          ∙ ap (λ w. actor ∷ w ∷ end_words d) q.0 ∙ ap (λ ws. actor ∷ op ∷ ws) r.0;
      proper = (p.1, q.1, r.1);
    }))))

-- ---- fill and hex

fill-line : (word : ℕ) → word < 2 ^ 64 → fill_in (word_digits word ∷ []) ≡ Some (lines.Fill word)
unfolding fill_in
fill-line word is = ap (option_map lines.Fill) (word-digits word is)

fill_some : (words : List (List ℕ)) (line : OutLine) → fill_in words ≡ Some line
    → IsRead (codes "fill") words line
unfolding fill_in name_of words_of
fill_some [] line e = cc
fill_some (digits ∷ []) line e =
    option_and_then_some (λ n. Some (lines.Fill n)) (word_in digits) line e
    (λ n one last.
    let p = word_some digits n one in
    subst (IsRead (codes "fill") (digits ∷ [])) (WordLaws.some_is (lines.Fill n) line last)
    (record { named = refl; worded = ap (λ w. w ∷ []) p.0; proper = p.1 }))
fill_some (digits ∷ word ∷ words) line e = cc

hex-line : (bytes : List ℕ) → IsProper (lines.Hex bytes)
    → hex_in (flat_map hex_byte bytes ∷ []) ≡ Some (lines.Hex bytes)
unfolding hex_in
hex-line bytes is =
    let read = bytes-hex bytes is.1 in
    let twice = (bytes_some (flat_map hex_byte bytes) bytes read).twice in
    let size = is.0 in
    let all : length (flat_map hex_byte bytes) ≡ 1024 = omega arith in
    let test : (length (flat_map hex_byte bytes) == 1024) ≡ true = ap (λ k. k == 1024) all in
    ap (λ b. cond b (option_and_then other_sector (bytes_in (flat_map hex_byte bytes))) None) test
    ∙ ap (λ (o : Option (List ℕ)). option_and_then other_sector o) read
    ∙ ap (λ b. cond b None (Some (lines.Hex bytes))) (other_test bytes size is.2)

hex_some : (words : List (List ℕ)) (line : OutLine) → hex_in words ≡ Some line
    → IsRead (codes "hex") words line
unfolding hex_in name_of words_of
hex_some [] line e = cc
hex_some (digits ∷ []) line e =
    let parts = some_when (length digits == 1024) _ line e in
    let all : length digits ≡ 1024 = eqb-true (length digits) 1024 parts.0 in
    option_and_then_some other_sector (bytes_in digits) line parts.1
    (λ bytes read last.
    let hex = bytes_some digits bytes read in
    let twice = hex.twice in
    let size : length bytes ≡ 512 = omega arith in
    let differs = none_when (is_filled bytes) (Some (lines.Hex bytes)) line last in
    subst (IsRead (codes "hex") (digits ∷ [])) (WordLaws.some_is (lines.Hex bytes) line differs.1)
    (record {
      named = refl;
      worded = ap (λ w. w ∷ []) hex.is;
      proper = (size, hex.are, λ is. both_ways _ differs.0 (fill_test bytes size is));
    }))
hex_some (digits ∷ word ∷ words) line e = cc

-- ---- order

order-line : (page : ℕ) (tags : List Tag) → IsProper (lines.Order page tags)
    → order_in (decimal page ∷ map tag_word tags) ≡ Some (lines.Order page tags)
unfolding order_in
order-line page [] is = absurd (omega (arith, is.1))
order-line page (tag ∷ tags) is =
    ap (λ (o : Option ℕ). option_and_then (λ p. option_and_then (λ ts. Some (lines.Order p ts))
    (all_in tag_in (map tag_word (tag ∷ tags)))) o) (short-decimal page is.0)
    ∙ ap (λ (o : Option (List Tag)). option_and_then (λ ts. Some (lines.Order page ts)) o)
    (WordLaws.all_in-map tag_in tag_word IsProperTag WordLaws.tag-word (tag ∷ tags) is.2)

order_some : (words : List (List ℕ)) (line : OutLine) → order_in words ≡ Some line
    → IsRead (codes "order") words line
unfolding order_in name_of words_of
order_some [] line e = cc
order_some (page ∷ []) line e = cc
order_some (page ∷ tag ∷ tags) line e =
    option_and_then_some (λ p. option_and_then (λ ts. Some (lines.Order p ts))
    (all_in tag_in (tag ∷ tags))) (short_in page) line e
    (λ p one rest.
    option_and_then_some (λ ts. Some (lines.Order p ts)) (all_in tag_in (tag ∷ tags)) line rest
    (λ ts two last.
    let a = short_some page p one in
    let b = WordLaws.all_in_some tag_in tag_word IsProperTag WordLaws.tag_some (tag ∷ tags) ts two in
    let size : length ts ≡ length (tag ∷ tags) = sym (length-map ts tag_word) ∙ ap length b.0 in
    subst (IsRead (codes "order") (page ∷ tag ∷ tags)) (WordLaws.some_is (lines.Order p ts) line last)
    (record {
      named = refl;
      worded = ap (λ w. w ∷ map tag_word ts) a.0 ∙ ap (λ ws. page ∷ ws) b.0;
      proper = (a.1, omega (arith, size), b.1);
    })))

-- ---- statistics

-- a list of so many numbers, by their places
by_places : (n : ℕ) (ns : List ℕ) → length ns ≡ n → map (λ k. get_or ns k 0) (range_with_len 0 n) ≡ ns
by_places n ns size = same_number_lists (map (λ k. get_or ns k 0) (range_with_len 0 n)) ns
    (length-map-range_with_len (λ k. get_or ns k 0) 0 n ∙ sym size)
    (λ k lt. get_or-map-range_with_len (λ i. get_or ns i 0) 0 n k k 0
    (let l = length-map-range_with_len (λ i. get_or ns i 0) 0 n in omega (arith, lt, l)) (omega arith))

-- so many words that are numbers of 8 bytes
long_some : (n : ℕ) (words : List (List ℕ)) (ns : List ℕ) → length words ≡ n
    → all_in number_in words ≡ Some ns
    → (map decimal (map (λ k. get_or ns k 0) (range_with_len 0 n)) ≡ words)
    × AreLong (map (λ k. get_or ns k 0) (range_with_len 0 n))
long_some n words ns size e =
    let p = WordLaws.all_in_some number_in decimal (λ m. m < 2 ^ 64) number_some words ns e in
    let all : length ns ≡ n = sym (length-map ns decimal) ∙ ap length p.0 ∙ size in
    let places = by_places n ns all in
    (ap (map decimal) places ∙ p.0, subst AreLong (sym places) p.1)

-- the same of 4 bytes
brief_some : (n : ℕ) (words : List (List ℕ)) (ns : List ℕ) → length words ≡ n
    → all_in short_in words ≡ Some ns
    → (map decimal (map (λ k. get_or ns k 0) (range_with_len 0 n)) ≡ words)
    × AreShort (map (λ k. get_or ns k 0) (range_with_len 0 n))
brief_some n words ns size e =
    let p = WordLaws.all_in_some short_in decimal (λ m. m < 2 ^ 32) short_some words ns e in
    let all : length ns ≡ n = sym (length-map ns decimal) ∙ ap length p.0 ∙ size in
    let places = by_places n ns all in
    (ap (map decimal) places ∙ p.0, subst AreShort (sym places) p.1)

memory-line : (stat : MmStat) → AreLong (memory_numbers stat)
    → memory_in (map decimal (memory_numbers stat)) ≡ Some (lines.Mm stat)
unfolding memory_in
memory-line stat is = ap (option_map (λ ns. lines.Mm (memory_of ns)))
    (WordLaws.all_in-map number_in decimal (λ n. n < 2 ^ 64) number-decimal (memory_numbers stat) is)

memory_some : (words : List (List ℕ)) (line : OutLine) → memory_in words ≡ Some line
    → IsRead (codes "mm_stat") words line
unfolding memory_in name_of words_of
memory_some words line e =
    let parts = some_when (length words == 9) _ line e in
    let size : length words ≡ 9 = eqb-true (length words) 9 parts.0 in
    option_and_then_some (λ ns. Some (lines.Mm (memory_of ns))) (all_in number_in words) line parts.1
    (λ ns one last.
    let p = long_some 9 words ns size one in
    subst (IsRead (codes "mm_stat") words) (WordLaws.some_is (lines.Mm (memory_of ns)) line last)
    (record { named = refl; worded = p.0; proper = p.1 }))

calls-line : (stat : IoStat) → AreLong (calls_numbers stat)
    → calls_in (map decimal (calls_numbers stat)) ≡ Some (lines.Io stat)
unfolding calls_in
calls-line stat is = ap (option_map (λ ns. lines.Io (calls_of ns)))
    (WordLaws.all_in-map number_in decimal (λ n. n < 2 ^ 64) number-decimal (calls_numbers stat) is)

calls_some : (words : List (List ℕ)) (line : OutLine) → calls_in words ≡ Some line
    → IsRead (codes "io_stat") words line
unfolding calls_in name_of words_of
calls_some words line e =
    let parts = some_when (length words == 4) _ line e in
    let size : length words ≡ 4 = eqb-true (length words) 4 parts.0 in
    option_and_then_some (λ ns. Some (lines.Io (calls_of ns))) (all_in number_in words) line parts.1
    (λ ns one last.
    let p = long_some 4 words ns size one in
    subst (IsRead (codes "io_stat") words) (WordLaws.some_is (lines.Io (calls_of ns)) line last)
    (record { named = refl; worded = p.0; proper = p.1 }))

device-line : (stat : BdStat) → AreLong (device_numbers stat)
    → device_in (map decimal (device_numbers stat)) ≡ Some (lines.Bd stat)
unfolding device_in
device-line stat is = ap (option_map (λ ns. lines.Bd (device_of ns)))
    (WordLaws.all_in-map number_in decimal (λ n. n < 2 ^ 64) number-decimal (device_numbers stat) is)

device_some : (words : List (List ℕ)) (line : OutLine) → device_in words ≡ Some line
    → IsRead (codes "bd_stat") words line
unfolding device_in name_of words_of
device_some words line e =
    let parts = some_when (length words == 3) _ line e in
    let size : length words ≡ 3 = eqb-true (length words) 3 parts.0 in
    option_and_then_some (λ ns. Some (lines.Bd (device_of ns))) (all_in number_in words) line parts.1
    (λ ns one last.
    let p = long_some 3 words ns size one in
    subst (IsRead (codes "bd_stat") words) (WordLaws.some_is (lines.Bd (device_of ns)) line last)
    (record { named = refl; worded = p.0; proper = p.1 }))

-- ---- refusals

refused-line : (refusal : Refusal)
    → refused_in (refusal_words refusal) ≡ Some (lines.Refused refusal)
unfolding refused_in refusal_in
refused-line refusals.DisksizeBusy = refl
refused-line refusals.BackingBusy = refl
refused-line refusals.BackingRange = refl

refused_some : (words : List (List ℕ)) (line : OutLine) → refused_in words ≡ Some line
    → IsRead (codes "attr") words line
unfolding refused_in name_of words_of
refused_some (attr ∷ why ∷ []) line e =
    option_and_then_some (λ r. Some (lines.Refused r)) (refusal_in attr why) line e
    (λ r one last.
    subst (IsRead (codes "attr") (attr ∷ why ∷ [])) (WordLaws.some_is (lines.Refused r) line last)
    (record { named = refl; worded = WordLaws.refusal_some attr why r one; proper = tt }))
refused_some words line e = cc

-- ---- state

state-line : (page : ℕ) (letters : List ℕ) (touched : ℕ) → IsProper (lines.State page letters touched)
    → state_in (decimal page ∷ letters ∷ decimal touched ∷ []) ≡ Some (lines.State page letters touched)
unfolding state_in
state-line page letters touched is =
    ap (λ (o : Option ℕ). option_and_then (λ p. option_and_then (λ ls. option_and_then
    (λ t. Some (lines.State p ls t)) (number_in (decimal touched))) (letters_in letters)) o)
    (short-decimal page is.0)
    ∙ ap (λ (o : Option (List ℕ)). option_and_then (λ ls. option_and_then
    (λ t. Some (lines.State page ls t)) (number_in (decimal touched))) o)
    (WordLaws.letters-letters letters is.1)
    ∙ ap (λ (o : Option ℕ). option_and_then (λ t. Some (lines.State page letters t)) o)
    (number-decimal touched is.2)

state_some : (words : List (List ℕ)) (line : OutLine) → state_in words ≡ Some line
    → IsRead (codes "state") words line
unfolding state_in name_of words_of
state_some (page ∷ letters ∷ touched ∷ []) line e =
    option_and_then_some (λ p. option_and_then (λ ls. option_and_then
    (λ t. Some (lines.State p ls t)) (number_in touched)) (letters_in letters)) (short_in page) line e
    (λ p one rest.
    option_and_then_some (λ ls. option_and_then (λ t. Some (lines.State p ls t)) (number_in touched))
    (letters_in letters) line rest
    (λ ls two more.
    option_and_then_some (λ t. Some (lines.State p ls t)) (number_in touched) line more
    (λ t three last.
    let a = short_some page p one in
    let b = WordLaws.letters_some letters ls two in
    let c = number_some touched t three in
    subst (IsRead (codes "state") (page ∷ letters ∷ touched ∷ []))
    (WordLaws.some_is (lines.State p ls t) line last)
    (record {
      named = refl;
      worded = ap (λ w. w ∷ ls ∷ decimal t ∷ []) a.0 ∙ ap (λ w. page ∷ w ∷ decimal t ∷ []) b.0
          ∙ ap (λ w. page ∷ letters ∷ w ∷ []) c.0;
      proper = (a.1, b.1, c.1);
    }))))
state_some words line e = cc

-- ---- class

numbered-class : (stat : ClassStat) → IsProperStat stat
    → numbered_class (decimal stat.class)
    (map decimal (stat.size ∷ stat.chain ∷ stat.per ∷ stat.used ∷ stat.zspages ∷ []))
    (map decimal stat.groups) ≡ Some (lines.Class stat)
unfolding numbered_class
numbered-class stat is =
    let five = stat.size ∷ stat.chain ∷ stat.per ∷ stat.used ∷ stat.zspages ∷ [] in
    let class = is.0 in
    let read : class_number_in (decimal stat.class) ≡ Some stat.class =
    ap (λ (o : Option ℕ). option_and_then (below 256) o) (number-decimal stat.class (omega (arith, class)))
    ∙ ap (λ b. cond b (Some stat.class) None) (lt-ltb stat.class 256 class) in
    ap (λ (o : Option ℕ). option_and_then (λ k. option_and_then (λ ns. option_and_then
    (λ gs. Some (lines.Class (stat_by k ns gs))) (all_in short_in (map decimal stat.groups)))
    (all_in short_in (map decimal five))) o) read
    ∙ ap (λ (o : Option (List ℕ)). option_and_then (λ ns. option_and_then
    (λ gs. Some (lines.Class (stat_by stat.class ns gs))) (all_in short_in (map decimal stat.groups))) o)
    (WordLaws.all_in-map short_in decimal (λ n. n < 2 ^ 32) short-decimal five
    (is.1, (is.2, (is.3, (is.4, (is.5, tt))))))
    ∙ ap (λ (o : Option (List ℕ)). option_and_then
    (λ gs. Some (lines.Class (stat_by stat.class five gs))) o)
    (WordLaws.all_in-map short_in decimal (λ n. n < 2 ^ 32) short-decimal stat.groups is.7)

class-line : (stat : ClassStat) → IsProperStat stat
    → class_in (cell_words stat ++ use_words stat) ≡ Some (lines.Class stat)
unfolding class_in
class-line stat is =
    let size : length (map decimal stat.groups) ≡ 11 = length-map stat.groups decimal ∙ is.6 in
    let test : (length (map decimal stat.groups) == 11) ≡ true = ap (λ k. k == 11) size in
    ap (λ b. cond (b && true) (numbered_class (decimal stat.class)
    (map decimal (stat.size ∷ stat.chain ∷ stat.per ∷ stat.used ∷ stat.zspages ∷ []))
    (map decimal stat.groups)) None) test
    ∙ numbered-class stat is

-- the words of a class's names
named : (pages per used zspages groups : List ℕ) → are_names pages per used zspages groups ≡ true
    → (pages ≡ codes "pages") × (per ≡ codes "per") × (used ≡ codes "used")
    × (zspages ≡ codes "zspages") × (groups ≡ codes "groups")
named pages per used zspages groups e =
    let a = and_parts _ (bytes_eq groups (codes "groups")) e in
    let b = and_parts _ (bytes_eq zspages (codes "zspages")) a.0 in
    let c = and_parts _ (bytes_eq used (codes "used")) b.0 in
    let d = and_parts (bytes_eq pages (codes "pages")) (bytes_eq per (codes "per")) c.0 in (
      WordLaws.same_bytes pages (codes "pages") d.0,
      WordLaws.same_bytes per (codes "per") d.1,
      WordLaws.same_bytes used (codes "used") c.1,
      WordLaws.same_bytes zspages (codes "zspages") b.1,
      WordLaws.same_bytes groups (codes "groups") a.1,
    )

-- the words of a class's numbers
pub record IsNumbered (class size chain per used zspages : List ℕ) (groups : List (List ℕ)) (stat : ClassStat)
    : Type 0 where
  class_is : decimal stat.class ≡ class
  five : decimal stat.size ∷ decimal stat.chain ∷ decimal stat.per ∷ decimal stat.used
      ∷ decimal stat.zspages ∷ [] ≡ size ∷ chain ∷ per ∷ used ∷ zspages ∷ []
  groups_are : map decimal stat.groups ≡ groups
  proper : IsProperStat stat

numbered_some : (class size chain per used zspages : List ℕ) (groups : List (List ℕ)) (line : OutLine)
    → length groups ≡ 11
    → numbered_class class (size ∷ chain ∷ per ∷ used ∷ zspages ∷ []) groups ≡ Some line
    → (stat : ClassStat) × IsNumbered class size chain per used zspages groups stat × (lines.Class stat ≡ line)
unfolding numbered_class
numbered_some class size chain per used zspages groups line eleven e =
    option_and_then_some (λ k. option_and_then (λ ns. option_and_then
    (λ gs. Some (lines.Class (stat_by k ns gs))) (all_in short_in groups))
    (all_in short_in (size ∷ chain ∷ per ∷ used ∷ zspages ∷ []))) (class_number_in class) line e
    (λ k one rest.
    option_and_then_some (λ ns. option_and_then (λ gs. Some (lines.Class (stat_by k ns gs)))
    (all_in short_in groups)) (all_in short_in (size ∷ chain ∷ per ∷ used ∷ zspages ∷ [])) line rest
    (λ ns two more.
    option_and_then_some (λ gs. Some (lines.Class (stat_by k ns gs))) (all_in short_in groups) line more
    (λ gs three last.
    let a = below_some 256 k class one in
    let b = brief_some 5 (size ∷ chain ∷ per ∷ used ∷ zspages ∷ []) ns refl two in
    let c = WordLaws.all_in_some short_in decimal (λ n. n < 2 ^ 32) short_some groups gs three in
    let all : length gs ≡ 11 = sym (length-map gs decimal) ∙ ap length c.0 ∙ eleven in (
      stat_by k ns gs,
      record {
        class_is = a.0;
        five = b.0;
        groups_are = c.0;
        proper = (a.1, b.1.0, b.1.1.0, b.1.1.1.0, b.1.1.1.1.0, b.1.1.1.1.1.0, all, c.1);
      },
      WordLaws.some_is (lines.Class (stat_by k ns gs)) line last,
    ))))

class_some : (words : List (List ℕ)) (line : OutLine) → class_in words ≡ Some line
    → IsRead (codes "class") words line
unfolding class_in name_of words_of
class_some (class ∷ size ∷ a ∷ chain ∷ b ∷ per ∷ c ∷ used ∷ d ∷ zspages ∷ e ∷ groups) line told =
    let words = class ∷ size ∷ a ∷ chain ∷ b ∷ per ∷ c ∷ used ∷ d ∷ zspages ∷ e ∷ groups in
    let parts = some_when (length groups == 11 && are_names a b c d e) _ line told in
    let tests = and_parts (length groups == 11) (are_names a b c d e) parts.0 in
    let eleven : length groups ≡ 11 = eqb-true (length groups) 11 tests.0 in
    let names = named a b c d e tests.1 in
    let found = numbered_some class size chain per used zspages groups line eleven parts.1 in
    let stat = found.0 in
    let n = found.1 in
    subst (IsRead (codes "class") words) found.2 (record {
      named = refl;
      worded = joined stat n.class_is n.five n.groups_are names.0 names.1 names.2 names.3 names.4;
      proper = n.proper;
    })
  where
    joined : (stat : ClassStat) → decimal stat.class ≡ class
        → decimal stat.size ∷ decimal stat.chain ∷ decimal stat.per ∷ decimal stat.used
        ∷ decimal stat.zspages ∷ [] ≡ size ∷ chain ∷ per ∷ used ∷ zspages ∷ []
        → map decimal stat.groups ≡ groups → a ≡ codes "pages" → b ≡ codes "per" → c ≡ codes "used"
        → d ≡ codes "zspages" → e ≡ codes "groups"
        → cell_words stat ++ use_words stat
        ≡ class ∷ size ∷ a ∷ chain ∷ b ∷ per ∷ c ∷ used ∷ d ∷ zspages ∷ e ∷ groups
    joined stat p q r s t u v w = cc
class_some words line e = cc

-- ---- job and usage

fault-line : (fault : JobFault) → fault.line < 2 ^ 32
    → fault_in (decimal fault.line ∷ cause_word fault.cause ∷ []) ≡ Some (lines.Job fault)
unfolding fault_in
fault-line fault is =
    ap (λ (o : Option ℕ). option_and_then (λ n. option_and_then
    (λ c. Some (lines.Job (record { line = n; cause = c }))) (cause_in (cause_word fault.cause))) o)
    (short-decimal fault.line is)
    ∙ ap (λ (o : Option Cause). option_and_then
    (λ c. Some (lines.Job (record { line = fault.line; cause = c }))) o)
    (WordLaws.cause-word fault.cause)

fault_some : (words : List (List ℕ)) (line : OutLine) → fault_in words ≡ Some line
    → IsRead (codes "job") words line
unfolding fault_in name_of words_of
fault_some (number ∷ cause ∷ []) line e =
    option_and_then_some (λ n. option_and_then
    (λ c. Some (lines.Job (record { line = n; cause = c }))) (cause_in cause)) (short_in number) line e
    (λ n one rest.
    option_and_then_some (λ c. Some (lines.Job (record { line = n; cause = c }))) (cause_in cause) line rest
    (λ c two last.
    let a = short_some number n one in
    let b = WordLaws.cause_some cause c two in
    subst (IsRead (codes "job") (number ∷ cause ∷ []))
    (WordLaws.some_is (lines.Job (record { line = n; cause = c })) line last)
    (record {
      named = refl;
      worded = ap (λ w. w ∷ cause_word c ∷ []) a.0 ∙ ap (λ w. number ∷ w ∷ []) b;
      proper = a.1;
    })))
fault_some words line e = cc

-- the words of the second form of the command line
gen_words : (bar program word pages seed : List ℕ) → is_gen bar program word pages seed ≡ true
    → (bar ≡ codes "|") × (program ≡ codes "zramsim") × (word ≡ codes "gen")
    × (pages ≡ codes "PAGES") × (seed ≡ codes "SEED")
gen_words bar program word pages seed e =
    let a = and_parts _ (bytes_eq seed (codes "SEED")) e in
    let b = and_parts _ (bytes_eq pages (codes "PAGES")) a.0 in
    let c = and_parts _ (bytes_eq word (codes "gen")) b.0 in
    let d = and_parts (bytes_eq bar (codes "|")) (bytes_eq program (codes "zramsim")) c.0 in (
      WordLaws.same_bytes bar (codes "|") d.0,
      WordLaws.same_bytes program (codes "zramsim") d.1,
      WordLaws.same_bytes word (codes "gen") c.1,
      WordLaws.same_bytes pages (codes "PAGES") b.1,
      WordLaws.same_bytes seed (codes "SEED") a.1,
    )

usage_some : (words : List (List ℕ)) (line : OutLine) → usage_in words ≡ Some line
    → IsRead (codes "usage:") words line
unfolding usage_in name_of words_of
usage_some (program ∷ word ∷ bar ∷ again ∷ other ∷ pages ∷ seed ∷ []) line e =
    let parts = some_when (is_run program word && is_gen bar again other pages seed) _ line e in
    let tests = and_parts (is_run program word) (is_gen bar again other pages seed) parts.0 in
    let run = and_parts (bytes_eq program (codes "zramsim")) (bytes_eq word (codes "run")) tests.0 in
    let gen = gen_words bar again other pages seed tests.1 in
    subst (IsRead (codes "usage:") (program ∷ word ∷ bar ∷ again ∷ other ∷ pages ∷ seed ∷ []))
    (WordLaws.some_is lines.Usage line parts.1) (record {
      named = refl;
      worded = joined (WordLaws.same_bytes program (codes "zramsim") run.0)
          (WordLaws.same_bytes word (codes "run") run.1) gen.0 gen.1 gen.2 gen.3 gen.4;
      proper = tt;
    })
  where
    joined : program ≡ codes "zramsim" → word ≡ codes "run" → bar ≡ codes "|"
        → again ≡ codes "zramsim" → other ≡ codes "gen" → pages ≡ codes "PAGES"
        → seed ≡ codes "SEED" → words_of lines.Usage
        ≡ program ∷ word ∷ bar ∷ again ∷ other ∷ pages ∷ seed ∷ []
    joined p q r s t u v = cc
usage_some words line e = cc

-- ---- lines

-- what is read of a line's words after this name
named_as : (name word : List ℕ) (words : List (List ℕ)) (line : OutLine) → bytes_eq name word ≡ true
    → IsRead word words line → IsRead name words line
named_as name word words line e is =
    subst (λ n. IsRead n words line) (sym (WordLaws.same_bytes name word e)) is

named_some : (name : List ℕ) (words : List (List ℕ)) (line : OutLine) → named_in name words ≡ Some line
    → IsRead name words line
unfolding named_in
named_some name words line e =
    WordLaws.chosen (bytes_eq name (codes "fill")) _ _ line e
    (λ is told. named_as name (codes "fill") words line is (fill_some words line told))
    (λ e. WordLaws.chosen (bytes_eq name (codes "hex")) _ _ line e
    (λ is told. named_as name (codes "hex") words line is (hex_some words line told))
    (λ e. WordLaws.chosen (bytes_eq name (codes "op")) _ _ line e
    (λ is told. named_as name (codes "op") words line is (op_some words line told))
    (λ e. WordLaws.chosen (bytes_eq name (codes "order")) _ _ line e
    (λ is told. named_as name (codes "order") words line is (order_some words line told))
    (λ e. WordLaws.chosen (bytes_eq name (codes "state")) _ _ line e
    (λ is told. named_as name (codes "state") words line is (state_some words line told))
    (λ e. WordLaws.chosen (bytes_eq name (codes "class")) _ _ line e
    (λ is told. named_as name (codes "class") words line is (class_some words line told))
    (λ e. WordLaws.chosen (bytes_eq name (codes "mm_stat")) _ _ line e
    (λ is told. named_as name (codes "mm_stat") words line is (memory_some words line told))
    (λ e. WordLaws.chosen (bytes_eq name (codes "io_stat")) _ _ line e
    (λ is told. named_as name (codes "io_stat") words line is (calls_some words line told))
    (λ e. WordLaws.chosen (bytes_eq name (codes "bd_stat")) _ _ line e
    (λ is told. named_as name (codes "bd_stat") words line is (device_some words line told))
    (λ e. WordLaws.chosen (bytes_eq name (codes "attr")) _ _ line e
    (λ is told. named_as name (codes "attr") words line is (refused_some words line told))
    (λ e. WordLaws.chosen (bytes_eq name (codes "job")) _ _ line e
    (λ is told. named_as name (codes "job") words line is (fault_some words line told))
    (λ e. WordLaws.chosen (bytes_eq name (codes "usage:")) _ _ line e
    (λ is told. named_as name (codes "usage:") words line is (usage_some words line told))
    (λ none. cc))))))))))))

named-line : (line : OutLine) → IsProper line → named_in (name_of line) (words_of line) ≡ Some line
unfolding named_in name_of words_of
named-line (lines.Op actor op end) is = op-line actor op end is
named-line (lines.Fill word) is = fill-line word is
named-line (lines.Hex bytes) is = hex-line bytes is
named-line (lines.Order page tags) is = order-line page tags is
named-line (lines.Mm stat) is = memory-line stat is
named-line (lines.Io stat) is = calls-line stat is
named-line (lines.Bd stat) is = device-line stat is
named-line (lines.Refused refusal) is = refused-line refusal
named-line (lines.State page letters touched) is = state-line page letters touched is
named-line (lines.Class stat) is = class-line stat is
named-line (lines.Job fault) is = fault-line fault is
named-line lines.Usage is = unfold usage_in in refl

-- each digit of bytes is part of a word
digit_word : (d : ℕ) → d < 16 → nat_lt 32 (hex_digit d) ≡ true
digit_word d small = by (cases_lt d 10)
  where
    by : (d < 10) ⊎ (10 ≤ d) → nat_lt 32 (hex_digit d) ≡ true
    by (inl low) = let t : nat_lt d 10 ≡ true = lt-ltb d 10 low in
        ap (λ b. nat_lt 32 (cond b (48 + d) (87 + d))) t ∙ lt-ltb 32 (48 + d) (omega arith)
    by (inr high) = let t : nat_lt d 10 ≡ false = le-ltb d 10 high in
        ap (λ b. nat_lt 32 (cond b (48 + d) (87 + d))) t ∙ lt-ltb 32 (87 + d) (omega arith)

hex_word : (bytes : List ℕ) → AllByRecursion (λ b. b < 2 ^ 8) bytes
    → is_word (flat_map hex_byte bytes) ≡ true
hex_word [] are = refl
hex_word (b ∷ bytes) are =
    ap (λ t. t && (nat_lt 32 (hex_digit (b % 16)) && is_word (flat_map hex_byte bytes)))
    (digit_word (b / 16) (let small = are.0 in omega arith))
    ∙ ap (λ t. t && is_word (flat_map hex_byte bytes)) (digit_word (b % 16) (omega arith))
    ∙ hex_word bytes are.1

digits_are_word : (word : ℕ) → is_word (word_digits word) ≡ true
unfolding word_digits
digits_are_word word = hex_word (to_be_bytes w64 word)
    (omega arith, (omega arith, (omega arith, (omega arith, (omega arith, (omega arith, (omega arith, (omega arith, tt))))))))

pub name_word : (line : OutLine) → is_word (name_of line) ≡ true
unfolding name_of
name_word (lines.Op actor op end) = refl
name_word (lines.Fill word) = refl
name_word (lines.Hex bytes) = refl
name_word (lines.Order page tags) = refl
name_word (lines.Mm stat) = refl
name_word (lines.Io stat) = refl
name_word (lines.Bd stat) = refl
name_word (lines.Refused refusal) = refl
name_word (lines.State page letters touched) = refl
name_word (lines.Class stat) = refl
name_word (lines.Job fault) = refl
name_word lines.Usage = refl

pub words_words : (line : OutLine) → IsProper line → list_all is_word (words_of line) ≡ true
unfolding words_of
words_words (lines.Op actor op end) is =
    ap (λ b. b && (is_word (decimal op) && list_all is_word (end_words end))) (WordLaws.short_word actor is.0)
    ∙ ap (λ b. b && list_all is_word (end_words end)) (WordLaws.short_word op is.1)
    ∙ WordLaws.end_is_words end is.2
words_words (lines.Fill word) is = ap (λ b. b && true) (digits_are_word word)
words_words (lines.Hex bytes) is = ap (λ b. b && true) (hex_word bytes is.1)
words_words (lines.Order page tags) is =
    ap (λ b. b && list_all is_word (map tag_word tags)) (WordLaws.short_word page is.0)
    ∙ WordLaws.all_words tag_in tag_word IsProperTag WordLaws.tag_is_word tags is.2
words_words (lines.Mm stat) is =
    WordLaws.all_words number_in decimal (λ n. n < 2 ^ 64) WordLaws.long_word (memory_numbers stat) is
words_words (lines.Io stat) is =
    WordLaws.all_words number_in decimal (λ n. n < 2 ^ 64) WordLaws.long_word (calls_numbers stat) is
words_words (lines.Bd stat) is =
    WordLaws.all_words number_in decimal (λ n. n < 2 ^ 64) WordLaws.long_word (device_numbers stat) is
words_words (lines.Refused refusal) is = WordLaws.refusal_is_words refusal
words_words (lines.State page letters touched) is =
    ap (λ b. b && (is_word letters && (is_word (decimal touched) && true))) (WordLaws.short_word page is.0)
    ∙ ap (λ b. b && (is_word (decimal touched) && true)) (WordLaws.letters_word letters is.1)
    ∙ ap (λ b. b && true) (WordLaws.long_word touched is.2)
words_words (lines.Class stat) is =
    let class = is.0 in
    ap (λ b. b && list_all is_word (drop 1 (cell_words stat ++ use_words stat)))
    (WordLaws.long_word stat.class (omega (arith, class)))
    ∙ five stat.size stat.chain stat.per stat.used stat.zspages (map decimal stat.groups)
    is.1 is.2 is.3 is.4 is.5
    (WordLaws.all_words short_in decimal (λ n. n < 2 ^ 32) WordLaws.short_word stat.groups is.7)
  where
    five : (size chain per used zspages : ℕ) (groups : List (List ℕ)) → size < 2 ^ 32
        → chain < 2 ^ 32 → per < 2 ^ 32 → used < 2 ^ 32 → zspages < 2 ^ 32
        → list_all is_word groups ≡ true
        → (is_word (decimal size) && (is_word (decimal chain) && (is_word (decimal per)
        && (is_word (decimal used) && (is_word (decimal zspages) && list_all is_word groups))))) ≡ true
    five size chain per used zspages groups a b c d e f =
        simp (
          WordLaws.short_word size a,
          WordLaws.short_word chain b,
          WordLaws.short_word per c,
          WordLaws.short_word used d,
          WordLaws.short_word zspages e,
          f,
        ) refl
words_words (lines.Job fault) is =
    ap (λ b. b && (is_word (cause_word fault.cause) && true)) (WordLaws.short_word fault.line is)
    ∙ ap (λ b. b && true) (WordLaws.cause_is_word fault.cause)
words_words lines.Usage is = refl

-- ---- the laws

pub line_in-line : (line : OutLine) → IsProper line
    → line_in (name_of line ++ spaced (words_of line)) ≡ Some line
unfolding line_in
line_in-line line is =
    ap line_by (split-spaced (name_of line) (words_of line) (name_word line) (words_words line is))
    ∙ named-line line is

pub line_in_some : (text : List ℕ) (line : OutLine) → line_in text ≡ Some line
    → (name_of line ++ spaced (words_of line) ≡ text) × IsProper line
unfolding line_in
line_in_some text line e = by (slice_split (λ c. c == 32) text) refl e
  where
    by : (words : List (List ℕ)) → slice_split (λ c. c == 32) text ≡ words → line_by words ≡ Some line
        → (name_of line ++ spaced (words_of line) ≡ text) × IsProper line
    by [] split told = cc
    by (name ∷ words) split told =
        let is = named_some name words line told in (
          ap (λ n. n ++ spaced (words_of line)) is.named
              ∙ ap (λ ws. name ++ spaced ws) is.worded ∙ spaced_is text name words split,
          is.proper,
        )
