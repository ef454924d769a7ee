-- What the stage of an actor's piece says of the actor's parts and of the entry that it holds.
use Rattle.std.specs.Prelude.{◌≡◌, ℕ, ◌+◌, ◌*◌, ◌<◌, ◌≤◌, ◌⊎◌, Bool, true, false, List, [], ◌∷◌, length, Option, Some, None, is_some, ⊤}
use Rattle.zr_base.specs.declared.op.Op.{Op}
use Rattle.zr_base.specs.declared.op.Op.TheVariants.{Write, Read, Discard, Idle, Writeback, Compact}
use Rattle.zr_base.specs.Plain.{is_beyond, is_marking, is_writeback, has_whole}
use Rattle.mem_account.specs.declared.weight.Weight.{Weight}
use Rattle.mem_account.specs.declared.weight.Weight.TheVariants.{Back}
use Rattle.mem_account.specs.Tally.{packed_bytes_of}
use Rattle.plain_disk.specs.Ends.{is_single}
use Rattle.plain_disk.specs.Idles.{may_write}
use Rattle.call_history.specs.declared.part.Part.{Part}
use Rattle.call_history.specs.declared.part.PartEnd.{PartEnd}
use Rattle.call_history.specs.declared.part.PartEnd.TheVariants.{Carried, AtLimit, NoMemory, Eio, Whole}
use Rattle.call_history.specs.Parts.{EndsSo}
use Rattle.lock_row.specs.declared.names.LockNo.{LockNo}
use Rattle.lock_row.specs.declared.names.LockNo.TheVariants as lock
use Rattle.lock_row.specs.declared.names.At.{At}
use Rattle.lock_row.specs.declared.names.At.TheVariants.{Start, Refusing, Seen, Pinning, Pinned, Unpinning, Leaving, Away, Fetching, Failing, Counting, Missed, Wanting, Inside, Both, Made, Old, Freeing, Backed, Releasing, Owing, Giving, Ready, Scanning, Marking, Visiting, Sweeping, Moving, Shrunk, Shrinking}
use Rattle.lock_row.specs.declared.names.Scan.{Scan}
use Rattle.lock_row.specs.declared.names.Step.{Step}
use Rattle.lock_row.specs.declared.names.Step.TheVariants as step
use Rattle.lock_row.specs.declared.names.Trip.{Trip}
use Rattle.lock_row.specs.declared.names.Compaction.{Compaction}
use Rattle.lock_row.specs.declared.names.Object.{Object}
use Rattle.lock_row.specs.declared.names.Pin.{Pin}
use Rattle.lock_row.specs.Totals.{by_option}
use Rattle.slot_entry.specs.declared.kept.Kept.{Kept}
use Rattle.slot_entry.specs.declared.kept.Kept.TheVariants as kept
use Rattle.slot_entry.specs.declared.limits.TheConstants.{MOST_PACKED}
use Rattle.slot_entry.specs.Entries.{EntryState, weight_of, is_obj, is_wb}
use Rattle.slot_entry.specs.Forms.{PageForm, Blank, Word, Pooled, object_class, form_weight}
use Rattle.page_steps.specs.Pages.{page_in, next_form}
use Rattle.page_steps.specs.Steps.{slot, is_mark_of}
use Rattle.joint_rule.specs.Begins.{Begin, ground_of, found_after, content, form_at, back_at}
use Rattle.backing_dev.specs.Dev.{IsHonestDevice}
use Rattle.bdi_page.specs.Packing.{IsPage}
use Rattle.zr_base.specs.declared.op.OpEnd.{OpEnd}
use Rattle.zr_base.specs.declared.op.OpEnd.TheVariants as ends
use Rattle.zr_base.specs.declared.op.Tag.{Tag}
use Rattle.joint_rule.specs.Weights.{Count, measure}

-- ---- kinds

-- there is nothing
abbrev pub NoneOf : {X : Type 0} → Option X → Type 0
NoneOf None = ⊤
NoneOf (Some x) = ⊥

-- there is something
abbrev pub HasSome : {X : Type 0} → Option X → Type 0
HasSome None = ⊥
HasSome (Some x) = ⊤

-- the page is kept as an object
abbrev pub IsObj : Kept → Type 0
IsObj (kept.Obj o) = ⊤
IsObj _ = ⊥

-- the page is kept as nothing
abbrev pub IsNothing : Kept → Type 0
IsNothing kept.Empty = ⊤
IsNothing _ = ⊥

-- the page is kept in a block of the device
abbrev pub IsWb : Kept → Type 0
IsWb (kept.Wb b) = ⊤
IsWb _ = ⊥

-- the page is kept neither as an object nor in a block
abbrev pub NoObj : Kept → Type 0
NoObj (kept.Obj o) = ⊥
NoObj (kept.Wb b) = ⊥
NoObj _ = ⊤

-- a page of this form is in the pool
abbrev pub IsPooled : PageForm → Type 0
IsPooled (Pooled bytes huge) = ⊤
IsPooled _ = ⊥

-- a write
abbrev pub IsWrite : Op → Type 0
IsWrite (Write start count stuff) = ⊤
IsWrite _ = ⊥

-- an operation that changes pages
abbrev pub Changes : Op → Type 0
Changes (Read start count) = ⊥
Changes (Idle age) = ⊥
Changes (Writeback m) = ⊥
Changes Compact = ⊥
Changes _ = ⊤

-- an operation that looks at pages
abbrev pub Looks : Op → Type 0
Looks (Discard start count) = ⊥
Looks (Idle age) = ⊥
Looks (Writeback m) = ⊥
Looks Compact = ⊥
Looks _ = ⊤

-- the form in which a page is kept is the one in which it has to be; a page for the pool may be on the
-- device
abbrev pub IsForm : ℕ → PageForm → Kept → Type 0
IsForm chain Blank kept.Empty = ⊤
IsForm chain Blank (kept.Same w) = ⊥
IsForm chain Blank (kept.Obj o) = ⊥
IsForm chain Blank (kept.Wb b) = ⊥
IsForm chain (Word v) kept.Empty = ⊥
IsForm chain (Word v) (kept.Same w) = w ≡ v
IsForm chain (Word v) (kept.Obj o) = ⊥
IsForm chain (Word v) (kept.Wb b) = ⊥
IsForm chain (Pooled bytes huge) kept.Empty = ⊥
IsForm chain (Pooled bytes huge) (kept.Same w) = ⊥
IsForm chain (Pooled bytes huge) (kept.Obj o) =
    (o.class ≡ object_class chain bytes huge) × (o.len ≡ length bytes) × (o.huge ≡ huge)
IsForm chain (Pooled bytes huge) (kept.Wb b) = ⊤

-- the new object of a piece is that of the form
abbrev pub Bears : ℕ → PageForm → Option Object → Type 0
Bears chain Blank x = NoneOf x
Bears chain (Word w) x = NoneOf x
Bears chain (Pooled bytes huge) None = ⊥
Bears chain (Pooled bytes huge) (Some o) =
    (o.class ≡ object_class chain bytes huge) × (o.bytes ≡ bytes)

-- the pin is of the object that the form names
abbrev pub Names : Kept → Pin → Type 0
Names (kept.Obj o) x = (x.class ≡ o.class) × (x.handle ≡ o.handle.0)
Names _ x = ⊥

-- the object that the form names is pinned
abbrev pub IsPinned : Kept → Option Pin → Type 0
IsPinned k None = ⊥
IsPinned k (Some x) = Names k x

-- nothing is pinned, or the object that the form names
abbrev pub MayPin : Kept → Option Pin → Type 0
MayPin k None = ⊤
MayPin k (Some x) = Names k x

-- ---- refusals

-- a writeback that stops before its last page tells so many pages written back and lost; it has a
-- block where the device failed, and else none
abbrev pub StopsSo : Trip → OpEnd → Type 0
StopsSo y (ends.Budget wrote lost) = (wrote ≡ y.wrote) × (lost ≡ y.lost) × NoneOf y.block
StopsSo y (ends.NoBlock wrote lost) = (wrote ≡ y.wrote) × (lost ≡ y.lost) × NoneOf y.block
StopsSo y (ends.WriteEio fault wrote lost) =
    (wrote ≡ y.wrote) × (lost ≡ y.lost) × HasSome y.block
StopsSo y _ = ⊥

module _ (g : Begin) (p : Part) where
  -- the piece may be refused so
  abbrev pub IsRefusal : PartEnd → Type 0
  IsRefusal Carried = ⊥
  IsRefusal (AtLimit charged need limit) = EndsSo (ground_of g) p (AtLimit charged need limit)
  IsRefusal NoMemory = EndsSo (ground_of g) p NoMemory
  IsRefusal (Eio fault) = ⊥
  IsRefusal (Whole end) = ⊥

  -- nothing is refused, or it is so
  abbrev pub MayFail : Option PartEnd → Type 0
  MayFail None = ⊤
  MayFail (Some x) = IsRefusal x

  -- it was refused
  abbrev pub HasFailed : Option PartEnd → Type 0
  HasFailed None = ⊥
  HasFailed (Some x) = IsRefusal x

  -- the device has failed
  abbrev pub IsFault : Option PartEnd → Type 0
  IsFault (Some (Eio fault)) = EndsSo (ground_of g) p (Eio fault)
  IsFault _ = ⊥

  -- a write was refused, and a read wasn't
  abbrev pub FailBy : Op → Option PartEnd → Type 0
  FailBy (Write start count stuff) x = HasFailed x
  FailBy (Read start count) x = NoneOf x
  FailBy (Discard start count) x = ⊥
  FailBy (Idle age) x = ⊥
  FailBy (Writeback m) x = ⊥
  FailBy Compact x = ⊥

  -- a writeback is over so, and tells what it has done
  abbrev pub IsQuit : Trip → Option PartEnd → Type 0
  IsQuit y (Some (Whole end)) = EndsSo (ground_of g) p (Whole end) × StopsSo y end
  IsQuit y _ = ⊥

  -- nothing is refused, or a writeback is over so
  abbrev pub MayQuit : Trip → Option PartEnd → Type 0
  MayQuit y None = ⊤
  MayQuit y (Some x) = IsQuit y (Some x)

  -- by the step of a writeback
  abbrev pub QuitAt : Step → Trip → Option PartEnd → Type 0
  QuitAt step.Quitting y x = IsQuit y x
  QuitAt step.Landing y x = MayQuit y x
  QuitAt step.Losing y x = MayQuit y x
  QuitAt step.Undoing y x = MayQuit y x
  QuitAt step.Releasing y x = MayQuit y x
  QuitAt s y x = NoneOf x

  -- the refusal, by the stage
  abbrev pub FailAt : At → Op → Option PartEnd → Type 0
  FailAt Pinned op x = FailBy op x
  FailAt Unpinning op x = FailBy op x
  FailAt Leaving op x = FailBy op x
  FailAt Failing op x = IsFault x
  FailAt Counting op x = IsFault x
  FailAt Missed op x = IsFault x
  FailAt Made op x = MayFail x
  FailAt (Visiting s y) op x = QuitAt s y x
  FailAt at op x = NoneOf x

-- ---- stages

-- what kind of operation, kept form and new form there is
abbrev pub KindAt : At → Op → Kept → PageForm → Type 0
KindAt Start op k f = ⊤
KindAt Refusing op k f = ⊤
KindAt Seen op k f = Looks op × IsObj k
KindAt Pinning op k f = Looks op × IsObj k
KindAt Pinned op k f = Looks op × IsObj k
KindAt Unpinning op k f = Looks op × IsObj k
KindAt Leaving op k f = Looks op
KindAt Away op k f = Looks op × IsWb k
KindAt Fetching op k f = Looks op × IsWb k
KindAt Failing op k f = Looks op × IsWb k
KindAt Counting op k f = Looks op × IsWb k
KindAt Missed op k f = Looks op × IsWb k
KindAt Wanting op k f = IsWrite op × IsPooled f
KindAt Inside op k f = IsWrite op × IsPooled f
KindAt Both op k f = IsWrite op × IsPooled f
KindAt Made op k f = IsWrite op × IsPooled f
KindAt Old op k f = Changes op × IsObj k
KindAt Freeing op k f = Changes op × IsObj k
KindAt Backed op k f = Changes op × IsWb k
KindAt Releasing op k f = Changes op × IsWb k
KindAt Owing op k f = Changes op × NoObj k
KindAt Giving op k f = Changes op × NoObj k
KindAt Ready op k f = Changes op × NoObj k
KindAt (Scanning x) op k f = ⊤
KindAt (Marking x) op k f = ⊤
KindAt (Visiting s x) op k f = ⊤
KindAt (Sweeping x) op k f = ⊤
KindAt (Moving x) op k f = ⊤
KindAt (Shrunk x) op k f = ⊤
KindAt (Shrinking x) op k f = ⊤

-- the new object, or none where the piece was refused
abbrev pub MadeBy : ℕ → Option PartEnd → PageForm → Option Object → Type 0
MadeBy chain None f x = Bears chain f x
MadeBy chain (Some e) f x = NoneOf x

-- the new object
abbrev pub MadeAt : ℕ → At → PageForm → Option PartEnd → Option Object → Type 0
MadeAt chain Made f e x = MadeBy chain e f x
MadeAt chain Old f e x = Bears chain f x
MadeAt chain Freeing f e x = Bears chain f x
MadeAt chain Backed f e x = Bears chain f x
MadeAt chain Releasing f e x = Bears chain f x
MadeAt chain Owing f e x = Bears chain f x
MadeAt chain Giving f e x = Bears chain f x
MadeAt chain Ready f e x = Bears chain f x
MadeAt chain at f e x = NoneOf x

-- that of a writeback
abbrev pub VisitPin : Step → Kept → Option Pin → Type 0
VisitPin step.Pinned k x = IsPinned k x
VisitPin step.Unpinning k x = IsPinned k x
VisitPin s k x = NoneOf x

-- the pinned cell
abbrev pub PinAt : At → Kept → Option Pin → Type 0
PinAt Pinned k x = IsPinned k x
PinAt Unpinning k x = IsPinned k x
PinAt Wanting k x = MayPin k x
PinAt Inside k x = MayPin k x
PinAt Both k x = MayPin k x
PinAt Made k x = MayPin k x
PinAt Old k x = MayPin k x
PinAt Freeing k x = MayPin k x
PinAt (Visiting s y) k x = VisitPin s k x
PinAt at k x = NoneOf x

-- whether a writeback has given up its page's object, and owes its frames
abbrev pub is_owing : Step → Bool
is_owing step.Backing = true
is_owing step.Committing = true
is_owing step.Owing = true
is_owing step.Paying = true
is_owing s = false

-- the frames that are owed, where some may be or none
abbrev pub OweBy : Bool → ℕ → ℕ → Type 0
OweBy true chain n = n ≤ chain
OweBy false chain n = n ≡ 0

-- the frames that are owed
abbrev pub OweAt : ℕ → At → ℕ → Type 0
OweAt chain Owing n = n ≤ chain
OweAt chain Giving n = n ≤ chain
OweAt chain (Visiting s x) n = OweBy (is_owing s) chain n
OweAt chain (Shrunk x) n = n ≤ chain
OweAt chain (Shrinking x) n = n ≤ chain
OweAt chain at n = n ≡ 0

-- the entry's form is the one in which its page has to be kept, until its object is given up
abbrev pub StandAt : ℕ → At → PageForm → Kept → Type 0
StandAt chain Start f k = ⊤
StandAt chain Refusing f k = ⊤
StandAt chain Owing f k = ⊤
StandAt chain Giving f k = ⊤
StandAt chain Ready f k = ⊤
StandAt chain (Scanning x) f k = ⊤
StandAt chain (Marking x) f k = ⊤
StandAt chain (Visiting s x) f k = ⊤
StandAt chain (Sweeping x) f k = ⊤
StandAt chain (Moving x) f k = ⊤
StandAt chain (Shrunk x) f k = ⊤
StandAt chain (Shrinking x) f k = ⊤
StandAt chain at f k = IsForm chain f k

-- A page is on the device where it was before the phase and its order has reads alone, and where
-- nothing is written back only there.
pub record IsBack (g : Begin) (k : Kept) (back : Bool) : Type 0 where
  pub there : back ≡ true → is_wb k ≡ true
  pub only : may_write g.given.backed g.given.actors ≡ false → is_wb k ≡ back

-- until its block is given up
abbrev pub BackAt : Begin → At → Kept → Bool → Type 0
BackAt g Start k back = ⊤
BackAt g Refusing k back = ⊤
BackAt g Owing k back = ⊤
BackAt g Giving k back = ⊤
BackAt g Ready k back = ⊤
BackAt g (Scanning x) k back = ⊤
BackAt g (Marking x) k back = ⊤
BackAt g (Visiting s x) k back = ⊤
BackAt g (Sweeping x) k back = ⊤
BackAt g (Moving x) k back = ⊤
BackAt g (Shrunk x) k back = ⊤
BackAt g (Shrinking x) k back = ⊤
BackAt g at k back = IsBack g k back

-- a page that is marked idle is in the pool
abbrev pub MayIdle : Kept → Bool → Type 0
MayIdle k idle = idle ≡ true → is_obj k ≡ true

-- A page that is marked is in the pool; and one that was idle before the phase stays so where no call
-- stands in its order, and it isn't on the device.
pub record HasMarks (g : Begin) (p : ℕ) (e : EntryState) : Type 0 where
  pub idle_one : MayIdle e.kept e.idle
  pub under_one : is_some e.under ≡ true → is_obj e.kept ≡ true
  pub stays : e.order ≡ [] → g.idle p ≡ true → is_wb e.kept ≡ false → e.idle ≡ true

-- an entry is marked so, until its object is given up
abbrev pub MarkAt : Begin → At → ℕ → EntryState → Type 0
MarkAt g Start p e = ⊤
MarkAt g Refusing p e = ⊤
MarkAt g Owing p e = ⊤
MarkAt g Giving p e = ⊤
MarkAt g Ready p e = ⊤
MarkAt g (Scanning x) p e = ⊤
MarkAt g (Marking x) p e = ⊤
MarkAt g (Visiting s x) p e = ⊤
MarkAt g (Sweeping x) p e = ⊤
MarkAt g (Moving x) p e = ⊤
MarkAt g (Shrunk x) p e = ⊤
MarkAt g (Shrinking x) p e = ⊤
MarkAt g at p e = HasMarks g p e

-- a write that reads the device has only a part of its page
abbrev pub IsPartly : Op → ℕ → Type 0
IsPartly (Write start count stuff) page = has_whole start count page ≡ false
IsPartly _ page = ⊤

-- what reads the device
abbrev pub PartlyAt : At → Op → ℕ → Type 0
PartlyAt Away op page = IsPartly op page
PartlyAt Fetching op page = IsPartly op page
PartlyAt at op page = ⊤

-- an actor may see another page than the one that is held: over a device that isn't honest, where the
-- page may be on it
abbrev pub MaySeeOther : Begin → ℕ → List Tag → Type 0
MaySeeOther g p order = (IsHonestDevice g.device → ⊥)
    × ((back_at g p order ≡ true) ⊎ (may_write g.given.backed g.given.actors ≡ true))

-- the page that the actor sees is the one that is held, or another where it may be
abbrev pub IsSeen : Type 0 → List ℕ → List ℕ → Type 0
IsSeen other page was = (page ≡ was) ⊎ (other × IsPage page)

-- the page that the actor sees is the page, where its piece depends on that
abbrev pub IsRight : Type 0 → Op → ℕ → List ℕ → List ℕ → Type 0
IsRight other (Write start count stuff) p page was =
    (has_whole start count p ≡ true) ⊎ IsSeen other page was
IsRight other (Read start count) p page was = IsSeen other page was
IsRight other (Discard start count) p page was = ⊤
IsRight other (Idle age) p page was = ⊤
IsRight other (Writeback m) p page was = ⊤
IsRight other Compact p page was = ⊤

-- nothing was read yet, or the page that the actor sees is right
abbrev pub RightAt : Type 0 → At → Op → ℕ → Option (List ℕ) → List ℕ → List ℕ → Type 0
RightAt other Start op p x page was = NoneOf x
RightAt other Refusing op p x page was = NoneOf x
RightAt other Seen op p x page was = NoneOf x
RightAt other Pinning op p x page was = NoneOf x
RightAt other Away op p x page was = NoneOf x
RightAt other Fetching op p x page was = NoneOf x
RightAt other Failing op p x page was = NoneOf x
RightAt other Counting op p x page was = NoneOf x
RightAt other Missed op p x page was = NoneOf x
RightAt other (Scanning y) op p x page was = NoneOf x
RightAt other (Marking y) op p x page was = NoneOf x
RightAt other (Visiting s y) op p x page was = ⊤
RightAt other (Sweeping y) op p x page was = NoneOf x
RightAt other (Moving y) op p x page was = NoneOf x
RightAt other (Shrunk y) op p x page was = NoneOf x
RightAt other (Shrinking y) op p x page was = NoneOf x
RightAt other at op p x page was = IsRight other op p page was

-- a packed page has at most so many bytes
abbrev pub IsSmall : Weight → Type 0
IsSmall w = packed_bytes_of w ≤ MOST_PACKED

-- where the object is given up, the entry is emptied
abbrev pub GoneBy : Option Weight → Kept → Type 0
GoneBy None k = ⊤
GoneBy (Some w) k = IsNothing k × IsSmall w

-- the object is given up
abbrev pub IsGone : Option Weight → Kept → Type 0
IsGone None k = ⊥
IsGone (Some w) k = IsNothing k × IsSmall w

-- The account counts the new form, and the entry shows the old one.
pub record Lags (x y : Option Weight) (f : PageForm) (k : Kept) : Type 0 where
  pub ahead : (q : Count) → by_option (measure q) x ≡ measure q (form_weight f)
  pub behind : (q : Count) → by_option (measure q) y ≡ measure q (weight_of k)
  pub small : IsSmall (form_weight f)

-- The account counts the page as one on the device, and the entry shows nothing.
pub record LagsBack (x y : Option Weight) (k : Kept) : Type 0 where
  pub ahead : x ≡ Some Back
  pub behind : (q : Count) → by_option (measure q) y ≡ measure q (weight_of k)

-- those of a writeback
abbrev pub VisitCount : Step → Option Weight → Option Weight → Kept → Type 0
VisitCount step.Backing x y k = IsGone x k × NoneOf y
VisitCount step.Committing x y k = IsGone x k × NoneOf y
VisitCount step.Owing x y k = IsGone x k × NoneOf y
VisitCount step.Paying x y k = IsGone x k × NoneOf y
VisitCount step.Putting x y k = LagsBack x y k
VisitCount s x y k = NoneOf x × NoneOf y

-- what the account counts of the page beside what the entry shows, and the other way round
abbrev pub CountAt : At → Option Weight → Option Weight → PageForm → Kept → Type 0
CountAt Owing x y f k = GoneBy x k × NoneOf y
CountAt Giving x y f k = GoneBy x k × NoneOf y
CountAt Ready x y f k = Lags x y f k
CountAt (Visiting s z) x y f k = VisitCount s x y k
CountAt at x y f k = NoneOf x × NoneOf y

-- whether a discard's page was blank
abbrev pub WasBlank : Op → Bool → Bool → Type 0
WasBlank (Discard start count) is blank = blank ≡ is
WasBlank _ is blank = ⊤

-- a discard whose page was blank is not counted
abbrev pub BlankBy : Op → Option Weight → Bool → Type 0
BlankBy op None blank = WasBlank op true blank
BlankBy op (Some w) blank = WasBlank op false blank

-- a discard gives up the form of a page that isn't blank
abbrev pub BlankAt : At → Op → Option Weight → Bool → Type 0
BlankAt Old op x blank = WasBlank op false blank
BlankAt Freeing op x blank = WasBlank op false blank
BlankAt Backed op x blank = WasBlank op false blank
BlankAt Releasing op x blank = WasBlank op false blank
BlankAt Owing op x blank = WasBlank op false blank
BlankAt Giving op x blank = WasBlank op false blank
BlankAt Ready op x blank = BlankBy op x blank
BlankAt at op x blank = ⊤

-- a piece that has a slot lies on the disk
abbrev pub BeginAt : ℕ → At → Part → Type 0
BeginAt size Start p = ⊤
BeginAt size Refusing p = is_beyond size p.op ≡ true
BeginAt size (Scanning x) p = is_marking p.op ≡ true
BeginAt size (Marking x) p = is_marking p.op ≡ true
BeginAt size (Visiting s x) p = is_writeback p.op ≡ true
BeginAt size (Sweeping x) p = p.op ≡ Compact
BeginAt size (Moving x) p = p.op ≡ Compact
BeginAt size (Shrunk x) p = p.op ≡ Compact
BeginAt size (Shrinking x) p = p.op ≡ Compact
BeginAt size at p = is_single size p.op ≡ false

-- A compaction is at a class, and has freed at most a chain's frames with each move.
pub record IsCompacting (chain owed : ℕ) (x : Compaction) : Type 0 where
  pub class : x.class < 255
  pub frames : x.frames + owed ≤ chain * x.moves

-- where a compaction stands
abbrev pub CompactAt : ℕ → At → ℕ → Type 0
CompactAt chain (Sweeping x) n = IsCompacting chain n x
CompactAt chain (Moving x) n = IsCompacting chain n x
CompactAt chain (Shrunk x) n = IsCompacting chain n x
CompactAt chain (Shrinking x) n = IsCompacting chain n x
CompactAt chain at n = ⊤

-- A scan that marks pages is at a page of the disk, and has marked at most those before it.
pub record IsScan (size : ℕ) (x : Scan) : Type 0 where
  pub page : x.page < size
  pub marked : x.marked ≤ x.page

-- It holds the page's entry, which is kept and marked as it has to be.
pub record Scans (g : Begin) (x : Scan) (e : EntryState) : Type 0 where
  pub scan : IsScan g.given.size x
  pub stands : IsForm g.chain (form_at g x.page e.order) e.kept
  pub backs : IsBack g e.kept (back_at g x.page e.order)
  pub marks : HasMarks g x.page e

-- where a scan stands
abbrev pub ScanAt : Begin → At → EntryState → Type 0
ScanAt g (Scanning x) e = IsScan g.given.size x
ScanAt g (Marking x) e = Scans g x e
ScanAt g at e = ⊤

-- ---- writebacks

-- A writeback is at a page of the disk, and has written at most those before it.
pub record IsTrip (size : ℕ) (x : Trip) : Type 0 where
  pub page : x.page < size
  pub few : x.wrote + x.lost ≤ x.page

-- A writeback has its page's entry, which is kept and marked as it has to be.
pub record VisitsPage (g : Begin) (x : Trip) (e : EntryState) : Type 0 where
  pub stands : IsForm g.chain (form_at g x.page e.order) e.kept
  pub backs : IsBack g e.kept (back_at g x.page e.order)
  pub marks : HasMarks g x.page e

-- A page that is to be written back is in the pool, and not under writeback.
pub record VisitsObject (g : Begin) (x : Trip) (e : EntryState) : Type 0 where
  pub page : VisitsPage g x e
  pub object : IsObj e.kept
  pub clear : NoneOf e.under

-- the page that it has copied is the one that is held
abbrev pub IsCopied : Option (List ℕ) → List ℕ → Type 0
IsCopied None was = ⊥
IsCopied (Some page) was = page ≡ was

-- where its write succeeded, its mark is gone
abbrev pub IsUnmarked : Option PartEnd → Option ℕ → Option ℕ → Type 0
IsUnmarked None block under = is_mark_of block under ≡ false
IsUnmarked (Some end) block under = ⊤

-- the page that it carries is a page
abbrev pub IsCarried : Option (List ℕ) → Type 0
IsCarried None = ⊥
IsCarried (Some page) = IsPage page

-- The mark of a writeback still stands, where its page's object isn't given up yet.
pub record HasWon (g : Begin) (x : Trip) (e : EntryState) : Type 0 where
  pub page : VisitsPage g x e
  pub object : IsObj e.kept
  pub mark : is_mark_of x.block e.under ≡ true

-- And where it is.
pub record HasEvicted (g : Begin) (x : Trip) (e : EntryState) : Type 0 where
  pub gone : IsNothing e.kept
  pub pooled : IsPooled (form_at g x.page e.order)
  pub mark : is_mark_of x.block e.under ≡ true

-- What a writeback has that has lost its mark, or whose write failed.
pub record HasLost (g : Begin) (x : Trip) (e : EntryState) (fail : Option PartEnd) : Type 0 where
  pub page : VisitsPage g x e
  pub gone : IsUnmarked fail x.block e.under

-- what a writeback has, by its step: its page's entry, its block, and the page that it has copied
abbrev pub StepAt : Begin → Step → Trip → EntryState → Option (List ℕ) → Option PartEnd → Type 0
StepAt g step.Arriving x e page fail = NoneOf x.block × NoneOf page
StepAt g step.Passing x e page fail = VisitsPage g x e × NoneOf x.block × NoneOf page
StepAt g step.Asking x e page fail = VisitsObject g x e × NoneOf x.block × NoneOf page
StepAt g step.Reserving x e page fail = VisitsObject g x e × NoneOf x.block × NoneOf page
StepAt g step.Quitting x e page fail = VisitsObject g x e × NoneOf x.block × NoneOf page
StepAt g step.Seen x e page fail = VisitsObject g x e × HasSome x.block × NoneOf page
StepAt g step.Pinning x e page fail = VisitsObject g x e × HasSome x.block × NoneOf page
StepAt g step.Pinned x e page fail = VisitsObject g x e × HasSome x.block
    × IsCopied page (content g x.page e.order)
StepAt g step.Unpinning x e page fail = VisitsObject g x e × HasSome x.block
    × IsCopied page (content g x.page e.order)
StepAt g step.Marking x e page fail = VisitsObject g x e × HasSome x.block
    × IsCopied page (content g x.page e.order)
StepAt g step.Flying x e page fail = HasSome x.block × IsCarried page
StepAt g step.Storing x e page fail = HasSome x.block × IsCarried page
StepAt g step.Landing x e page fail = HasSome x.block × IsCarried page
StepAt g step.Won x e page fail = HasWon g x e × HasSome x.block × IsCarried page
StepAt g step.Freeing x e page fail = HasWon g x e × HasSome x.block × IsCarried page
StepAt g step.Backing x e page fail = HasEvicted g x e × HasSome x.block × IsCarried page
StepAt g step.Committing x e page fail = HasEvicted g x e × HasSome x.block × IsCarried page
StepAt g step.Owing x e page fail = HasEvicted g x e × HasSome x.block × IsCarried page
StepAt g step.Paying x e page fail = HasEvicted g x e × HasSome x.block × IsCarried page
StepAt g step.Putting x e page fail = HasEvicted g x e × HasSome x.block × IsCarried page
StepAt g step.Losing x e page fail = HasLost g x e fail × HasSome x.block × IsCarried page
StepAt g step.Undoing x e page fail = HasSome x.block × NoneOf page
StepAt g step.Releasing x e page fail = HasSome x.block × NoneOf page

-- A writeback is at a step.
pub record IsVisiting (g : Begin) (s : Step) (x : Trip) (e : EntryState) (page : Option (List ℕ))
    (fail : Option PartEnd) : Type 0 where
  pub trip : IsTrip g.given.size x
  pub step : StepAt g s x e page fail

-- where a writeback stands
abbrev pub VisitAt : Begin → At → EntryState → Option (List ℕ) → Option PartEnd → Type 0
VisitAt g (Visiting s x) e page fail = IsVisiting g s x e page fail
VisitAt g at e page fail = ⊤

-- An actor at a piece, with the entry that it holds.
pub record Stage (g : Begin) (p : Part) (e : EntryState) (at : At) (fresh : Option Object)
    (pin : Option Pin) (owed : ℕ) (ahead behind : Option Weight) (page : Option (List ℕ))
    (fail : Option PartEnd) : Type 0 where
  pub kind : KindAt at p.op e.kept (next_form p page e.kept)
  pub made : MadeAt g.chain at (next_form p page e.kept) fail fresh
  pub pins : PinAt at e.kept pin
  pub owes : OweAt g.chain at owed
  pub stands : StandAt g.chain at (form_at g p.page e.order) e.kept
  pub backs : BackAt g at e.kept (back_at g p.page e.order)
  pub marks : MarkAt g at p.page e
  pub partly : PartlyAt at p.op p.page
  pub right : RightAt (MaySeeOther g p.page e.order) at p.op p.page page (page_in page e.kept)
      (content g p.page e.order)
  pub counts : CountAt at ahead behind (next_form p page e.kept) e.kept
  pub blank : BlankAt at p.op ahead (found_after g p.page e.order).blank
  pub fails : FailAt g p at p.op fail
  pub begun : BeginAt g.given.size at p
  pub scans : ScanAt g at e
  pub visits : VisitAt g at e page fail
  pub compacts : CompactAt g.chain at owed

-- An actor between two pieces, or finished.
pub record Quiet (at : At) (fresh : Option Object) (pin : Option Pin) (owed : ℕ)
    (ahead behind : Option Weight) (page : Option (List ℕ)) (fail : Option PartEnd)
    : Type 0 where
  pub begun : at ≡ Start
  pub made : NoneOf fresh
  pub pins : NoneOf pin
  pub owes : owed ≡ 0
  pub more : NoneOf ahead
  pub less : NoneOf behind
  pub seen : NoneOf page
  pub fails : NoneOf fail

-- an actor with these pieces to do
abbrev pub StageBy : Begin → List Part → EntryState → At → Option Object → Option Pin → ℕ
    → Option Weight → Option Weight → Option (List ℕ) → Option PartEnd → Type 0
StageBy g [] e at fresh pin owed ahead behind page fail =
    Quiet at fresh pin owed ahead behind page fail
StageBy g (p ∷ ps) e at fresh pin owed ahead behind page fail =
    Stage g p e at fresh pin owed ahead behind page fail

-- the locks that a writeback holds at a step, where c is the class of the page's object
abbrev pub visit_locks : Step → Trip → ℕ → List LockNo
visit_locks step.Arriving x c = []
visit_locks step.Passing x c = slot x.page ∷ []
visit_locks step.Asking x c = slot x.page ∷ []
visit_locks step.Reserving x c = lock.Blocks ∷ slot x.page ∷ []
visit_locks step.Quitting x c = slot x.page ∷ []
visit_locks step.Seen x c = slot x.page ∷ []
visit_locks step.Pinning x c = lock.Class c ∷ slot x.page ∷ []
visit_locks step.Pinned x c = slot x.page ∷ []
visit_locks step.Unpinning x c = lock.Class c ∷ slot x.page ∷ []
visit_locks step.Marking x c = slot x.page ∷ []
visit_locks step.Flying x c = []
visit_locks step.Storing x c = lock.Device ∷ []
visit_locks step.Landing x c = []
visit_locks step.Won x c = slot x.page ∷ []
visit_locks step.Freeing x c = lock.Class c ∷ slot x.page ∷ []
visit_locks step.Backing x c = slot x.page ∷ []
visit_locks step.Committing x c = lock.Blocks ∷ slot x.page ∷ []
visit_locks step.Owing x c = slot x.page ∷ []
visit_locks step.Paying x c = lock.Account ∷ slot x.page ∷ []
visit_locks step.Putting x c = slot x.page ∷ []
visit_locks step.Losing x c = slot x.page ∷ []
visit_locks step.Undoing x c = []
visit_locks step.Releasing x c = lock.Blocks ∷ []

-- the locks that an actor holds, the last taken first: c is the class of the old object, d that of
-- the new one
abbrev pub locks_at : At → Part → ℕ → ℕ → List LockNo
locks_at Start p c d = []
locks_at Refusing p c d = lock.Account ∷ []
locks_at Seen p c d = slot p.page ∷ []
locks_at Pinning p c d = lock.Class c ∷ slot p.page ∷ []
locks_at Pinned p c d = slot p.page ∷ []
locks_at Unpinning p c d = lock.Class c ∷ slot p.page ∷ []
locks_at Leaving p c d = slot p.page ∷ []
locks_at Away p c d = slot p.page ∷ []
locks_at Fetching p c d = lock.Device ∷ slot p.page ∷ []
locks_at Failing p c d = slot p.page ∷ []
locks_at Counting p c d = lock.Account ∷ slot p.page ∷ []
locks_at Missed p c d = slot p.page ∷ []
locks_at Wanting p c d = slot p.page ∷ []
locks_at Inside p c d = lock.Class d ∷ slot p.page ∷ []
locks_at Both p c d = lock.Account ∷ lock.Class d ∷ slot p.page ∷ []
locks_at Made p c d = lock.Class d ∷ slot p.page ∷ []
locks_at Old p c d = slot p.page ∷ []
locks_at Freeing p c d = lock.Class c ∷ slot p.page ∷ []
locks_at Backed p c d = slot p.page ∷ []
locks_at Releasing p c d = lock.Blocks ∷ slot p.page ∷ []
locks_at Owing p c d = slot p.page ∷ []
locks_at Giving p c d = lock.Account ∷ slot p.page ∷ []
locks_at Ready p c d = slot p.page ∷ []
locks_at (Scanning x) p c d = []
locks_at (Marking x) p c d = slot x.page ∷ []
locks_at (Visiting s x) p c d = visit_locks s x c
locks_at (Sweeping x) p c d = []
locks_at (Moving x) p c d = lock.Class x.class ∷ []
locks_at (Shrunk x) p c d = []
locks_at (Shrinking x) p c d = lock.Account ∷ []

-- the locks that an actor with these pieces to do holds
abbrev pub locks_by : List Part → At → ℕ → ℕ → List LockNo
locks_by [] at c d = []
locks_by (p ∷ ps) at c d = locks_at at p c d
