-- The lines that the items of a job may print, one after the other.
use Rattle.std.specs.Prelude.{◌≡◌, ℕ, ◌*◌, ◌<◌, nat_lt, zero, suc, Bool, true, false, List, [], ◌∷◌, ◌++◌}
use Rattle.zr_base.specs.declared.op.Op.{Op}
use Rattle.zr_base.specs.Plain.{zero_sector}
use Rattle.mem_account.specs.declared.weight.Weight.{Weight}
use Rattle.backing_dev.specs.Dev.{DeviceState}
use Rattle.plain_disk.specs.Output.{OutLine, AttrRefusal, disksize_busy, backing_busy, backing_range, refused}
use Rattle.plain_disk.specs.Rests.{nothing_yet, Settings, Rest, frames_of, Report, report}
use Rattle.plain_disk.specs.Phases.{IsPhase}

-- An item of a job, as the plain disk knows it.
pub data Item : Type 0 where
  -- a disk of so many pages
  disk : ℕ → Item
  -- so many blocks of the backing device are used, for the disk that is to come
  backing : ℕ → Item
  -- at most so many frames from now on, or any number where it is 0
  limit_to : ℕ → Item
  -- the greatest number of frames so far is from now on what the disk takes now
  lower_most : Item
  -- so many writes of the device are left for writebacks, where they have a limit
  budget_to : ℕ → Item
  -- whether they have one from now on
  budgeted_to : Bool → Item
  -- the time is this from now on, in seconds
  clock_to : ℕ → Item
  -- the lines of a report
  asks : Report → Item
  -- the operations of the actors of a phase
  phase : List (List Op) → Item

-- what is set before the first item: no limit, the clock at 0, chains of at most four frames, no
-- block of the backing device, and no limit on writebacks
abbrev pub first_settings : Settings
first_settings =
    record { limit = 0; clock = 0; chain = 4; backing = 0; budget = 0; budgeted = false }

-- There is no zspage yet, and nothing has happened.
pub record IsUnused (r : Rest) : Type 0 where
  pub used : (k : ℕ) → k < 255 → r.used k ≡ []
  pub most : r.most ≡ 0
  pub so_far : r.so_far ≡ nothing_yet

-- The rest before the first item, over this device: there is no disk.
pub record IsFirst (device : DeviceState) (r : Rest) : Type 0 where
  pub no_disk : r.size ≡ 0
  pub unused : IsUnused r
  pub set : r.set ≡ first_settings
  pub over : r.device ≡ device

-- A disk of so many pages of zeros, of which nothing is kept yet. What is set stays.
pub record IsNew (r : Rest) (n : ℕ) (m : Rest) : Type 0 where
  pub size : m.size ≡ n
  pub holds : (s : ℕ) → s < 8 * n → m.holds s ≡ zero_sector
  pub blank : (p : ℕ) → p < n → m.blank p ≡ true
  pub back : (p : ℕ) → p < n → m.back p ≡ false
  pub idle : (p : ℕ) → p < n → m.idle p ≡ false
  pub touched : (p : ℕ) → p < n → m.touched p ≡ 0
  pub unused : IsUnused m
  pub device : m.device ≡ r.device
  pub set : m.set ≡ r.set

-- the rest with these settings
abbrev pub sets : Rest → Settings → Rest
sets r set = record r { set = set }

-- the rest where the greatest number of frames so far is what its zspages take
abbrev pub lowered : Rest → Rest
lowered r = record r { most = frames_of r.set.chain r.used }

-- An attribute that is refused prints why, and changes nothing.
pub record IsRefused (why : AttrRefusal) (r : Rest) (lines : List OutLine) (m : Rest)
    : Type 0 where
  pub told : lines ≡ refused why ∷ []
  pub same : m ≡ r

-- the disk's size is refused where it is set already
abbrev pub GivesDisk : ℕ → Rest → ℕ → List OutLine → Rest → Type 0
GivesDisk zero r n lines m = (lines ≡ []) × IsNew r n m
GivesDisk (suc size) r n lines m = IsRefused disksize_busy r lines m

-- a backing is refused where the disk's size is set already, and else where the device has fewer
-- blocks
abbrev pub GivesBacking : ℕ → Bool → Rest → ℕ → List OutLine → Rest → Type 0
GivesBacking zero false r n lines m =
    (lines ≡ []) × (m ≡ sets r (record r.set { backing = n }))
GivesBacking zero true r n lines m = IsRefused backing_range r lines m
GivesBacking (suc size) past r n lines m = IsRefused backing_busy r lines m

-- The lines that an item may print between two rests. An attribute that is accepted prints nothing,
-- and a report prints its lines of the rest, and changes nothing.
abbrev pub ItemIsLegal : (List ℕ → Weight) → Rest → Item → List OutLine → Rest → Type 0
ItemIsLegal form r (disk n) lines m = GivesDisk r.size r n lines m
ItemIsLegal form r (backing n) lines m =
    GivesBacking r.size (nat_lt r.device.blocks n) r n lines m
ItemIsLegal form r (limit_to n) lines m =
    (lines ≡ []) × (m ≡ sets r (record r.set { limit = n }))
ItemIsLegal form r (budget_to n) lines m =
    (lines ≡ []) × (m ≡ sets r (record r.set { budget = n }))
ItemIsLegal form r (budgeted_to on) lines m =
    (lines ≡ []) × (m ≡ sets r (record r.set { budgeted = on }))
ItemIsLegal form r (clock_to n) lines m =
    (lines ≡ []) × (m ≡ sets r (record r.set { clock = n }))
ItemIsLegal form r lower_most lines m = (lines ≡ []) × (m ≡ lowered r)
ItemIsLegal form r (asks q) lines m = (lines ≡ report form r q) × (m ≡ r)
ItemIsLegal form r (phase actors) lines m = IsPhase form r actors lines m

-- the lines that a job's items may print one after the other, from one rest to the last
abbrev pub Legal : (List ℕ → Weight) → Rest → List Item → List OutLine → Rest → Type 0
Legal form r [] lines last = (lines ≡ []) × (last ≡ r)
Legal form r (item ∷ items) lines last =
    (m : Rest) × (first others : List OutLine) × ItemIsLegal form r item first m
    × Legal form m items others last × (lines ≡ first ++ others)
