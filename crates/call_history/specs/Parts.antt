-- The pieces of operations that have events, and what is over of them.
use Rattle.std.specs.Prelude.{◌≡◌, ℕ, zero, suc, ◌+◌, ◌-◌, ◌*◌, ◌<◌, ◌≤◌, ◌==◌, Bool, true, false, ◌&&◌, min, max, List, [], ◌∷◌, ◌++◌, map, if◌then◌else◌, ⊤}
use Rattle.std.specs.List.{range_with_len}
use Rattle.zr_base.specs.declared.op.Tag.{Tag}
use Rattle.zr_base.specs.declared.op.Op.{Op}
use Rattle.zr_base.specs.declared.op.Op.TheVariants.{Write, Read, Discard, Idle, Writeback, Compact}
use Rattle.zr_base.specs.declared.op.OpEnd.{OpEnd}
use Rattle.zr_base.specs.declared.op.OpEnd.TheVariants as ends
use Rattle.call_history.specs.declared.part.Part.{Part}
use Rattle.call_history.specs.declared.part.PartEnd.{PartEnd}
use Rattle.call_history.specs.declared.part.PartEnd.TheVariants as over
use Rattle.call_history.specs.declared.part.Done.{Done}
use Rattle.zr_base.specs.Pieces.{first_page, pages_of}
use Rattle.zr_base.specs.Plain.{start_of, count_of, is_void, has_event}
use Rattle.plain_disk.specs.Ends.{Ground, Bounds, is_single, MayWant, MayBeAtLimit, MayFault, MayBeSingle, IsWithin}

-- the pieces with events of an operation on so many pages, from a page on
abbrev pub parts_from : ℕ → Op → ℕ → ℕ → List Part
parts_from nr op page zero = []
parts_from nr op page (suc n) =
    (if has_event op page then record { nr = nr; op = op; page = page } ∷ [] else [])
    ++ parts_from nr op (page + 1) n

-- the pieces of an operation that does something
abbrev pub parts_of : ℕ → ℕ → Op → List Part
parts_of pages nr op = if is_single pages op
    then record { nr = nr; op = op; page = first_page op } ∷ []
    else parts_from nr op (first_page op) (pages_of op)

-- the pieces with events of an operation on a disk of so many pages, which has a backing or none: none
-- where it does nothing, and one where it is over in one
abbrev pub parts : ℕ → Bool → ℕ → Op → List Part
parts pages backed nr op = if is_void backed op then [] else parts_of pages nr op

-- those of all operations of an actor from the nr-th on
abbrev pub program : ℕ → Bool → ℕ → List Op → List Part
program pages backed nr [] = []
program pages backed nr (op ∷ ops) =
    parts pages backed nr op ++ program pages backed (nr + 1) ops

-- without the pieces of an operation
abbrev pub without : ℕ → List Part → List Part
without nr [] = []
without nr (p ∷ ps) = if p.nr == nr then without nr ps else p ∷ without nr ps

-- whether the piece was carried out, and its operation goes on
abbrev pub is_carried : PartEnd → Bool
is_carried over.Carried = true
is_carried _ = false

-- whether an operation is a read
abbrev pub is_read : Op → Bool
is_read (Write start count stuff) = false
is_read (Read start count) = true
is_read (Discard start count) = false
is_read (Idle age) = false
is_read (Writeback mode) = false
is_read Compact = false

-- whether its tag was noted: that of a read also where the device failed
abbrev pub stands_so : Op → PartEnd → Bool
stands_so op over.Carried = true
stands_so op (over.Eio fault) = is_read op
stands_so op _ = false

-- what is left where a piece has ended so: a refusal ends its operation
abbrev pub left_by : PartEnd → ℕ → List Part → List Part
left_by end nr ps = if is_carried end then ps else without nr ps

-- the ends that a piece may have in a phase
abbrev pub EndsSo : Ground → Part → PartEnd → Type 0
EndsSo t p over.Carried = is_single t.size p.op ≡ false
EndsSo t p (over.AtLimit charged need limit) = (is_single t.size p.op ≡ false)
    × MayBeAtLimit t p.op p.page charged need limit
EndsSo t p over.NoMemory = (is_single t.size p.op ≡ false) × MayWant t.form p.op p.page
EndsSo t p (over.Eio fault) = (is_single t.size p.op ≡ false) × MayFault t p.op p.page fault
EndsSo t p (over.Whole end) = (is_single t.size p.op ≡ true) × MayBeSingle t p.op end

-- what such an end says of the whole phase
abbrev pub KeepsTo : Ground → Bounds → PartEnd → Type 0
KeepsTo t b (over.AtLimit charged need limit) = limit < t.chain * b.reach
KeepsTo t b (over.Eio fault) = fault ≤ b.faults
KeepsTo t b (over.Whole end) = IsWithin t b end
KeepsTo t b _ = ⊤

-- the pieces that are over, and those that are left, are those of the program; each ended in a way
-- that the rule of ends allows
abbrev pub Follows : (Part → PartEnd → Type 0) → List Part → List Done → List Part → Type 0
Follows So ps [] todo = todo ≡ ps
Follows So [] (d ∷ ds) todo = ⊥
Follows So (p ∷ ps) (d ∷ ds) todo = (d.part ≡ p) × So p d.end
    × Follows So (left_by d.end p.nr ps) ds todo

-- whether a piece that is over stands in the order of a page
abbrev pub is_on : ℕ → Done → Bool
is_on page d = d.part.page == page && stands_so d.part.op d.end

-- the operations of an actor that stand in the order of a page, in turn, by the pieces that are
-- over
abbrev pub noted_on : ℕ → List Done → List ℕ
noted_on page [] = []
noted_on page (d ∷ ds) = if is_on page d then d.part.nr ∷ noted_on page ds else noted_on page ds

-- those by the order
abbrev pub ops_of : ℕ → List Tag → List ℕ
ops_of a [] = []
ops_of a (t ∷ ts) = if t.actor == a then t.op ∷ ops_of a ts else ops_of a ts

-- the sectors of a request on a page
abbrev pub sectors_on : Op → ℕ → List ℕ
sectors_on op page =
    range_with_len (max (start_of op) (8 * page))
    (min (start_of op + count_of op) (8 * page + 8) - max (start_of op) (8 * page))

-- what a piece reads, where the sectors have these bytes
abbrev pub got_by : Op → ℕ → (ℕ → List ℕ) → List (List ℕ)
got_by (Read start count) page bytes = map bytes (sectors_on (Read start count) page)
got_by _ page bytes = []

-- what the pieces of an operation have read
abbrev pub got_of : ℕ → List Done → List (List ℕ)
got_of nr [] = []
got_of nr (d ∷ ds) = if d.part.nr == nr then d.got ++ got_of nr ds else got_of nr ds

-- what the end of a piece makes of its operation's end, where so many pieces were carried out
-- before it
abbrev pub op_end : PartEnd → ℕ → OpEnd
op_end over.Carried n = ends.Ok
op_end (over.AtLimit charged need limit) n = ends.AtLimit charged need limit n
op_end over.NoMemory n = ends.NoMemory n
op_end (over.Eio fault) n = ends.Eio fault n
op_end (over.Whole end) n = end

-- how an operation ends by one of its pieces and the end by the later ones
abbrev pub end_step : PartEnd → ℕ → OpEnd → OpEnd
end_step end n later = if is_carried end then later else op_end end n

-- how an operation ends by its pieces that are over
abbrev pub end_by : ℕ → ℕ → List Done → OpEnd
end_by nr n [] = ends.Ok
end_by nr n (d ∷ ds) =
    if d.part.nr == nr then end_step d.end n (end_by nr (n + 1) ds) else end_by nr n ds

-- how an operation has ended, by its pieces that are over
abbrev pub end_of : ℕ → List Done → OpEnd
end_of nr done = end_by nr 0 done

-- how an operation has ended: a writeback without a backing has no piece
abbrev pub end_as : Bool → ℕ → Op → List Done → OpEnd
end_as backed nr op done = if is_void backed op then ends.NoBacking else end_of nr done

-- how an actor's operations end, from the nr-th on
abbrev pub ends_from : Bool → ℕ → List Op → List Done → List OpEnd
ends_from backed nr [] done = []
ends_from backed nr (op ∷ ops) done =
    end_as backed nr op done ∷ ends_from backed (nr + 1) ops done

-- the sectors that are told of an operation, of those that its pieces have read
abbrev pub shown : Op → OpEnd → List (List ℕ) → List (List ℕ)
shown (Read start count) ends.Ok got = got
shown (Read start count) (ends.Eio fault done) got = got
shown _ _ got = []

-- what an actor's operations from the nr-th on tell, by their pieces
abbrev pub told_from : ℕ → List Op → List Done → List (List (List ℕ))
told_from nr [] done = []
told_from nr (op ∷ ops) done =
    shown op (end_of nr done) (got_of nr done) ∷ told_from (nr + 1) ops done

-- what a piece gives where its operation gives so much by its end: one that was carried out gives
-- nothing
abbrev pub piece_gives : (Op → OpEnd → ℕ) → Op → PartEnd → ℕ
piece_gives g op end = if is_carried end then 0 else g op (op_end end 0)

-- the sum over an actor's pieces that are over
abbrev pub done_sum : (Op → OpEnd → ℕ) → List Done → ℕ
done_sum g [] = 0
done_sum g (d ∷ ds) = piece_gives g d.part.op d.end + done_sum g ds

-- the sum over the pieces of all actors that are over
abbrev pub dones_sum : (Op → OpEnd → ℕ) → List (List Done) → ℕ
dones_sum g [] = 0
dones_sum g (done ∷ dones) = done_sum g done + dones_sum g dones
