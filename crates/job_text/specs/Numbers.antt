-- The words that stand for numbers.
use Rattle.std.specs.Prelude.{ℕ, ◌+◌, ◌-◌, ◌*◌, ◌/◌, ◌^◌, Bool, not, ◌&&◌, ◌||◌, ◌==◌, nat_lt, nat_le, List, [], ◌∷◌, length, take, drop, get_or, map, position, Option, Some, None, if◌then◌else◌}
use Rattle.std.specs.List.{list_all, range_with_len}
use Rattle.zr_base.specs.declared.op.Turns.{Turns}

-- ---- digits

-- what a digit stands for, 0 to 15; 16 where it is none
abbrev pub digit_value : ℕ → ℕ
digit_value c =
    if nat_le 48 c && nat_le c 57 then c - 48
    else if nat_le 97 c && nat_le c 102 then c - 97 + 10
    else if nat_le 65 c && nat_le c 70 then c - 65 + 10
    else 16

-- whether all are digits of a base
abbrev pub are_digits : ℕ → List ℕ → Bool
are_digits base word = list_all (λ c. nat_lt (digit_value c) base) word

-- the number that digits stand for, where value stands before them
abbrev pub value_from : ℕ → ℕ → List ℕ → ℕ
value_from base value [] = value
value_from base value (c ∷ cs) = value_from base (value * base + digit_value c) cs

-- ---- numbers

-- one or more decimal digits
abbrev pub is_number : List ℕ → Bool
is_number word = not (length word == 0) && are_digits 10 word

-- the number that decimal digits stand for
abbrev pub number_of : List ℕ → ℕ
number_of word = value_from 10 0 word

-- one to sixteen hexadecimal digits of either case
abbrev pub is_word : List ℕ → Bool
is_word word = not (length word == 0) && nat_le (length word) 16 && are_digits 16 word

-- the word that hexadecimal digits stand for
abbrev pub word_of : List ℕ → ℕ
word_of word = value_from 16 0 word

-- the byte of the k-th two hexadecimal digits
abbrev pub byte_at : List ℕ → ℕ → ℕ
byte_at digits k =
    16 * digit_value (get_or digits (2 * k) 0) + digit_value (get_or digits (2 * k + 1) 0)

-- the bytes that hexadecimal digits stand for, two for each
abbrev pub bytes_by : List ℕ → List ℕ
bytes_by digits = map (byte_at digits) (range_with_len 0 (length digits / 2))

-- ---- sizes

-- what the last letter of a size, K, M or G of either case, multiplies by, where there is such a
-- letter
abbrev pub factor_of : ℕ → Option ℕ
factor_of letter =
    if letter == 75 || letter == 107 then Some (2 ^ 10)
    else if letter == 77 || letter == 109 then Some (2 ^ 20)
    else if letter == 71 || letter == 103 then Some (2 ^ 30)
    else None

-- the last letter of a word
abbrev pub last_of : List ℕ → ℕ
last_of word = get_or word (length word - 1) 0

-- a number in front of this letter, or alone
abbrev pub is_size_with : Option ℕ → List ℕ → Bool
is_size_with None word = is_number word
is_size_with (Some factor) word = is_number (take (length word - 1) word)

-- a number, and then perhaps such a letter
abbrev pub is_size : List ℕ → Bool
is_size word = is_size_with (factor_of (last_of word)) word

-- the bytes of a size with this letter, or with none
abbrev pub bytes_with : Option ℕ → List ℕ → ℕ
bytes_with None word = number_of word
bytes_with (Some factor) word = number_of (take (length word - 1) word) * factor

-- the bytes of a size
abbrev pub bytes_of : List ℕ → ℕ
bytes_of word = bytes_with (factor_of (last_of word)) word

-- a size in whole pages of 4096 bytes, rounded up
abbrev pub size_pages : List ℕ → ℕ
size_pages word = (bytes_of word + 4095) / 4096

-- ---- turns

-- where the first star of a word stands
abbrev pub star_in : List ℕ → Option ℕ
star_in word = position (λ c. c == 42) word

-- an actor's number; or that, a star that stands there, and a number of turns
abbrev pub is_turn_at : Option ℕ → List ℕ → Bool
is_turn_at None word = is_number word
is_turn_at (Some star) word = is_number (take star word) && is_number (drop (star + 1) word)

-- a word that gives turns
abbrev pub is_turn : List ℕ → Bool
is_turn word = is_turn_at (star_in word) word

-- the turns that a word gives whose star stands there, or nowhere
abbrev pub turn_at : Option ℕ → List ℕ → Turns
turn_at None word = record { actor = number_of word; times = 1 }
turn_at (Some star) word =
    record { actor = number_of (take star word); times = number_of (drop (star + 1) word) }

-- the turns that a word gives: one, where no number of them is written
abbrev pub turn_of : List ℕ → Turns
turn_of word = turn_at (star_in word) word
