-- What the calls of an order do to one page, and sums over them.
use Rattle.std.specs.Prelude.{ℕ, ◌+◌, Bool, true, false, ◌||◌, ◌&&◌, List, [], ◌∷◌, Option, Some, if◌then◌else◌}
use Rattle.zr_base.specs.declared.op.Tag.{Tag}
use Rattle.zr_base.specs.declared.op.Op.{Op}
use Rattle.zr_base.specs.declared.op.Op.TheVariants.{Write, Read, Discard}
use Rattle.zr_base.specs.Plain.{Look, PageCalls, named, sector_after_named}
use Rattle.mem_account.specs.declared.weight.Weight.{Weight}
use Rattle.mem_account.specs.declared.weight.Weight.TheVariants.{Empty}
use Rattle.plain_disk.specs.Forms.{page_bytes, is_pooled, is_huge}

-- a page as calls find it: what the disk's sectors hold, and whether the page is blank, so that no
-- write stands after its last discard
pub record Found : Type 0 where
  pub holds : ℕ → List ℕ
  pub blank : Bool

-- whether a page is blank after a call
abbrev pub blank_by : Option Op → Bool → Bool
blank_by (Some (Write start count stuff)) blank = false
blank_by (Some (Discard start count)) blank = true
blank_by _ blank = blank

-- the page after a call that finds this
abbrev pub after : Option Op → Look → Found → Found
after op look f =
    record { holds = λ s. sector_after_named op look s (f.holds s); blank = blank_by op f.blank }

-- whether a call leaves a page where it is: only a read does
abbrev pub leaves_page : Option Op → Bool
leaves_page (Some (Read start count)) = true
leaves_page _ = false

-- whether all calls of an order do
abbrev pub leave_page : List (List Op) → List Tag → Bool
leave_page actors [] = true
leave_page actors (tag ∷ tags) = leaves_page (named actors tag) && leave_page actors tags

-- the page after the calls of an order
abbrev pub after_all : PageCalls → Found → List Tag → Found
after_all c f [] = f
after_all c f (tag ∷ tags) = after_all c (after (named c.actors tag) (c.finds tag) f) tags

-- how page p is kept: a blank page as nothing, another by its bytes
abbrev pub kept_as : (List ℕ → Weight) → ℕ → Found → Weight
kept_as form p f = if f.blank then Empty else form (page_bytes f.holds p)

-- whether page p has a form of the pool after some first calls of its order, or before them all; it may
-- be on the device then
abbrev pub ever_pooled : (List ℕ → Weight) → ℕ → PageCalls → Found → List Tag → Bool
ever_pooled form p c f [] = is_pooled (kept_as form p f)
ever_pooled form p c f (tag ∷ tags) = is_pooled (kept_as form p f)
    || ever_pooled form p c (after (named c.actors tag) (c.finds tag) f) tags

-- the sum over the calls of an order of what each gives, by the page before it and after it
abbrev pub calls_sum : (Option Op → Found → Found → ℕ) → PageCalls → Found → List Tag → ℕ
calls_sum w c f [] = 0
calls_sum w c f (tag ∷ tags) =
    w (named c.actors tag) f (after (named c.actors tag) (c.finds tag) f)
    + calls_sum w c (after (named c.actors tag) (c.finds tag) f) tags

-- one for a write after which page p is kept as its 4096 bytes
abbrev pub made_huge : (List ℕ → Weight) → ℕ → Option Op → Found → Found → ℕ
made_huge form p (Some (Write start count stuff)) before now =
    if is_huge (kept_as form p now) then 1 else 0
made_huge form p _ before now = 0

-- one for a discard of a page that wasn't blank
abbrev pub freed : Option Op → Found → Found → ℕ
freed (Some (Discard start count)) before now = if before.blank then 0 else 1
freed _ before now = 0

-- one for a read or a write: its page may be read from the device
abbrev pub may_fetch : Option Op → Found → Found → ℕ
may_fetch (Some (Write start count stuff)) before now = 1
may_fetch (Some (Read start count)) before now = 1
may_fetch _ before now = 0
