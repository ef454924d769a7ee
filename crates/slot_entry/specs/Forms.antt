-- The form in which a page has to be kept, and the page that kept bytes stand for.
use Rattle.std.specs.Prelude.{◌≡◌, ◌<◌, ◌≤◌, ℕ, zero, suc, ◌-◌, ◌/◌, ◌==◌, ◌&&◌, nat_le, Bool, true, false, cond, List, [], ◌∷◌, length, replicate, All, Option, Some, None, if◌then◌else◌}
use Rattle.zr_base.specs.Plain.{words_from}
use Rattle.mem_account.specs.declared.weight.Weight.{Weight}
use Rattle.mem_account.specs.declared.weight.Weight.TheVariants as weight
use Rattle.size_class.specs.Classes.{stands_of}
use Rattle.same_fill.specs.Filled.{word_at, IsFilled}
use Rattle.bdi_page.specs.Packing.{packed, IsPage, IsPacking}
use Rattle.slot_entry.specs.declared.limits.TheConstants.{MOST_PACKED, HUGE_CLASS}

-- How a page has to be kept: as nothing, as its word, or in the pool, with the bytes of its object
-- and whether these are the page's own.
pub data PageForm : Type 0 where
  Blank : PageForm
  Word : ℕ → PageForm
  Pooled : List ℕ → Bool → PageForm

-- whether two lists have the same elements
abbrev pub same_list : List ℕ → List ℕ → Bool
same_list [] [] = true
same_list [] (y ∷ ys) = false
same_list (x ∷ xs) [] = false
same_list (x ∷ xs) (y ∷ ys) = x == y && same_list xs ys

-- the page of zeros
unfoldable pub zero_page : List ℕ
zero_page = replicate 4096 0

-- the page whose words are all this one
unfoldable pub filled_page : ℕ → List ℕ
filled_page w = words_from (λ j. w) 0 512

-- whether a page's words are all its first one
abbrev pub is_same : List ℕ → Bool
is_same page = same_list page (filled_page (word_at page 0))

-- a page in the pool: its packing where that is short enough, or else the page itself
abbrev pub pooled_by : List ℕ → List ℕ → PageForm
pooled_by bytes page =
    if nat_le (length bytes) MOST_PACKED then Pooled bytes false else Pooled page true

-- the form of a page that was written: its word where all are equal, or else one in the pool
unfoldable pub form_of : List ℕ → PageForm
form_of page = if is_same page then Word (word_at page 0) else pooled_by (packed page) page

-- the bytes of its object
abbrev pub bytes_in : PageForm → List ℕ
bytes_in Blank = []
bytes_in (Word w) = []
bytes_in (Pooled bytes huge) = bytes

-- 1 for a page that is in the pool
abbrev pub pooled : PageForm → ℕ
pooled Blank = 0
pooled (Word w) = 0
pooled (Pooled bytes huge) = 1

-- what the account counts of a form
abbrev pub form_weight : PageForm → Weight
form_weight Blank = weight.Empty
form_weight (Word w) = weight.Same
form_weight (Pooled bytes huge) = cond huge weight.Huge (weight.Packed (length bytes))

-- ---- classes

-- the class whose pool takes an object of so many bytes with its header of 8, where chains have at
-- most so many frames
unfoldable pub class_for : ℕ → ℕ → ℕ
class_for chain len = stands_of chain ((len - 9) / 16)

-- the class of an object
abbrev pub object_class : ℕ → List ℕ → Bool → ℕ
object_class chain bytes huge = cond huge HUGE_CLASS (class_for chain (length bytes))

-- the class of a form's object
abbrev pub class_in : ℕ → PageForm → ℕ
class_in chain Blank = 0
class_in chain (Word w) = 0
class_in chain (Pooled bytes huge) = object_class chain bytes huge

-- ---- the page of kept bytes

-- whether a form has these bytes
abbrev pub has_bytes : List ℕ → Bool → PageForm → Bool
has_bytes bytes huge Blank = false
has_bytes bytes huge (Word w) = false
has_bytes bytes huge (Pooled b true) = huge && same_list b bytes
has_bytes bytes huge (Pooled b false) = cond huge false (same_list b bytes)

-- the first of two that is there
abbrev pub first_there : {A : Type 0} → Option A → Option A → Option A
first_there None y = y
first_there (Some x) y = Some x

-- one more byte before what was found
abbrev pub with_byte : ℕ → Option (List ℕ) → Option (List ℕ)
with_byte b None = None
with_byte b (Some bytes) = Some (b ∷ bytes)

-- what is found with one of the numbers below n, the greatest first
unfoldable pub found_below : (ℕ → Option (List ℕ)) → ℕ → Option (List ℕ)
found_below f zero = None
found_below f (suc n) = first_there (f n) (found_below f n)

-- so many bytes that pass a test, where there are any
unfoldable pub find_bytes : (List ℕ → Bool) → ℕ → Option (List ℕ)
find_bytes test zero = if test [] then Some [] else None
find_bytes test (suc n) =
    found_below (λ b. with_byte b (find_bytes (λ bytes. test (b ∷ bytes)) n)) 256

-- what is there, or else nothing
abbrev pub or_nothing : Option (List ℕ) → List ℕ
or_nothing None = []
or_nothing (Some bytes) = bytes

-- The page that is kept as these bytes: there is no other.
unfoldable pub page_kept_as : List ℕ → Bool → List ℕ
page_kept_as bytes huge = or_nothing (find_bytes (λ page. has_bytes bytes huge (form_of page)) 4096)

-- ---- forms by a page's words and its packing

-- all words of the page are one
abbrev pub IsSame : List ℕ → Type 0
IsSame page = (word : ℕ) × IsFilled page word

-- The words of the page aren't all one, and its packing has so many bytes.
pub record PacksIn (page : List ℕ) (len : ℕ) : Type 0 where
  pub other : IsSame page → ⊥
  pub bytes : List ℕ
  pub packing : IsPacking page bytes
  pub len_is : length bytes ≡ len

-- How a page that was written weighs: as one of one word, as so many bytes where its packing is
-- short enough, or as a huge one.
abbrev pub HasForm : Weight → List ℕ → Type 0
HasForm weight.Empty page = ⊥
HasForm weight.Same page = IsSame page
HasForm (weight.Packed len) page = PacksIn page len × (len ≤ MOST_PACKED)
HasForm weight.Huge page = (len : ℕ) × PacksIn page len × (MOST_PACKED < len)
HasForm weight.Back page = ⊥

-- how a page that was written weighs
abbrev pub page_weight : List ℕ → Weight
page_weight page = form_weight (form_of page)

-- The page's packing is kept: it is short enough, and bytes.
pub record IsPacked (page bytes : List ℕ) : Type 0 where
  pub packing : IsPacking page bytes
  pub some : 32 ≤ length bytes
  pub short : length bytes ≤ MOST_PACKED
  pub below : All (λ b. b < 256) bytes

-- these are the bytes of the page's object
abbrev pub IsKeptAs : List ℕ → List ℕ → Bool → Type 0
IsKeptAs page bytes huge = IsPage page × (form_of page ≡ Pooled bytes huge)
