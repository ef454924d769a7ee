-- What a giving of a writeback does, by the lock that it gives: the slot of its page, the map of blocks
-- or the device.
use Rattle.joint_rule.proofs.Balances.{none_fresh}
use Rattle.std.proofs.Common.{◌≡◌, ◌+◌, ◌≤◌, ◌<◌, ◌∷◌, ◌∙◌, ◌==◌, ℕ, true, false, List, [], Option, Some, None, slice_get, refl, sym, ap, subst, arith, inl, inr}
use Rattle.block_map.specs.BlockMap.{BlockMap}
use Rattle.backing_dev.specs.Dev.{DeviceState}
use Rattle.call_history.specs.Parts.{EndsSo}
use Rattle.call_history.specs.declared.part.Part.{Part}
use Rattle.call_history.specs.declared.part.PartEnd.{PartEnd}
use Rattle.call_history.specs.declared.part.PartEnd.TheVariants.{Whole, AtLimit, Carried, Eio, NoMemory}
use Rattle.joint_rule.proofs.Arrivals.{visit_stage}
use Rattle.joint_rule.proofs.Facts.{Known}
use Rattle.joint_rule.proofs.Gifts.{Gift, goes_on, is_over}
use Rattle.joint_rule.proofs.Trips.{SaysNone, Storage, bare_says, plain_says}
use Rattle.joint_rule.proofs.Visits.{Onward}
use Rattle.joint_rule.specs.Begins.{Begin, ever, ground_of, image}
use Rattle.joint_rule.specs.Joint.{AtHome, IsActor, Joint}
use Rattle.joint_rule.specs.Stages.{NoneOf, IsQuit}
use Rattle.joint_rule.specs.Weights.{Count, Weigh, at_place, chains, claim_by, claims, counters, ever_at, fixed, measure, mosts, nothing, object_weight, outs, pages, shown, stored, each_one, some_of}
use Rattle.lock_row.specs.Totals.{by_option, held_sum}
use Rattle.lock_row.specs.declared.names.At.TheVariants.{Visiting}
use Rattle.lock_row.specs.declared.names.LockNo.{LockNo}
use Rattle.lock_row.specs.declared.names.State.{State}
use Rattle.lock_row.specs.declared.names.Step.TheVariants as step
use Rattle.lock_row.specs.declared.names.Trip.{Trip}
use Rattle.page_steps.specs.Steps.{DiskHeld, Here, slot, spot, on, piece_over}
use Rattle.plain_disk.specs.Ends.{is_single}
use Rattle.slot_entry.specs.Entries.{EntryState, weight_of}
use Rattle.std.proofs.lemmas.Bool.{cases_eq, eqb-false}
use Rattle.zr_base.specs.Plain.{is_writeback}
use Rattle.zr_base.specs.declared.op.Op.{Op}
use Rattle.zr_base.specs.declared.op.Op.TheVariants.{Compact, Discard, Idle, Read, Write, Writeback}
use Rattle.zr_base.specs.declared.op.OpEnd.TheVariants as ends
use Rattle.lock_row.specs.declared.names.LockNo.TheVariants as lock
use Rattle.lock_row.specs.declared.names.Held.TheVariants as holds
use Rattle.joint_rule.proofs.Visits as onward

-- a writeback is over in one piece
pub writeback_single : (size : ℕ) (op : Op) → is_writeback op ≡ true → is_single size op ≡ true
writeback_single size (Write start count stuff) e = absurd (cc)
writeback_single size (Read start count) e = absurd (cc)
writeback_single size (Discard start count) e = absurd (cc)
writeback_single size (Idle age) e = absurd (cc)
writeback_single size (Writeback mode) e = refl
writeback_single size Compact e = absurd (cc)

pub no_one : {X : Type 0} (x : Option X) → NoneOf x → x ≡ None
no_one None i = refl
no_one (Some x) i = absurd i

-- What the actor makes, pins and owes is as before.
pub record SameHands (l m : Here) : Type 0 where
  pub fresh : m.fresh ≡ l.fresh
  pub pin : m.pin ≡ l.pin
  pub owed : m.owed ≡ l.owed

-- An actor has nothing in hand.
pub record IsFree (m : Here) : Type 0 where
  pub held : m.held ≡ []
  pub fresh : m.fresh ≡ None
  pub pin : m.pin ≡ None
  pub owed : m.owed ≡ 0
  pub ahead : m.ahead ≡ None
  pub behind : m.behind ≡ None

pub free_hands : (l m : Here) → NoneOf l.fresh → NoneOf l.pin → l.owed ≡ 0 → IsFree m
    → SameHands l m
free_hands l m made pins owes free = record {
  fresh = free.fresh ∙ sym (no_one l.fresh made);
  pin = free.pin ∙ sym (no_one l.pin pins);
  owed = free.owed ∙ sym owes;
}

-- an actor that makes and owes nothing has no more than was in the pool
pub lean_none : (l : Here) → NoneOf l.fresh → l.owed ≡ 0
    → by_option (object_weight each_one) l.fresh + some_of l.owed ≤ 1
lean_none l made owes = let y = none_fresh each_one l.fresh made in let z = ap some_of owes in
    omega arith

pub quit_ends : (g : Begin) (p : Part) (y : Trip) (x : PartEnd) → IsQuit g p y (Some x)
    → EndsSo (ground_of g) p x
quit_ends g p y Carried i = absurd i
quit_ends g p y (AtLimit c n l) i = absurd i
quit_ends g p y NoMemory i = absurd i
quit_ends g p y (Eio fault) i = absurd i
quit_ends g p y (Whole end) i = i.0

module _ (g : Begin) (w : State DiskHeld) (a : ℕ) (l m : Here) (fits : IsActor g a m)
    (hands : SameHands l m) where
  abbrev n : ℕ
  n = g.given.size

  -- what the account counts beside entries moves as the entries do
  abbrev pub Counted : ℕ → ℕ → Count → Type 0
  Counted was now q = by_option (measure q) l.ahead + was + by_option (measure q) m.behind
      ≡ by_option (measure q) m.ahead + now + by_option (measure q) l.behind

  -- the slot of a page goes back
  pub give_slot : (s : ℕ) (e f : EntryState) → l.held ≡ (slot s, holds.Slot e) ∷ []
      → m.held ≡ [] → AtHome g s (holds.Slot f)
      → ((h : Weigh) → claim_by h f.kept (image g s f.order) ≡ claim_by h e.kept (image g s e.order))
      → f.order ≡ e.order
      → ((q : Count) → Counted (measure q (weight_of e.kept)) (measure q (weight_of f.kept)) q)
      → Storage g w a l (slot s) (holds.Slot f) m → Gift g w a l (slot s) (holds.Slot f) m
  give_slot s e f held after home claim order counted storage = record {
    home = home;
    fits = fits;
    alone = λ i. let r = ap (held_sum (spot n) (at_place i)) held in
        let t = ap (held_sum (spot n) (at_place i)) after in omega arith;
    owners = λ h. let r = ap (held_sum (spot n) (claims g h)) held in
        let t = ap (held_sum (spot n) (claims g h)) after in
        let x = ap (held_sum (spot n) (stored h)) held in
        let y = ap (held_sum (spot n) (stored h)) after in
        let z = ap (by_option (object_weight h)) hands.fresh in let c = claim h in omega arith;
    storage = storage;
    pins = λ h. let r = ap (held_sum (spot n) (outs h)) held in
        let t = ap (held_sum (spot n) (outs h)) after in
        let x = ap (held_sum (spot n) nothing) held in
        let y = ap (held_sum (spot n) nothing) after in
        let z = ap (by_option h) hands.pin in omega arith;
    frames = let r = ap (held_sum (spot n) pages) held in
        let t = ap (held_sum (spot n) pages) after in
        let x = ap (held_sum (spot n) chains) held in
        let y = ap (held_sum (spot n) chains) after in let z = hands.owed in omega arith;
    counts = λ q. let r = ap (held_sum (spot n) (counters q)) held in
        let t = ap (held_sum (spot n) (counters q)) after in
        let x = ap (held_sum (spot n) (shown q)) held in
        let y = ap (held_sum (spot n) (shown q)) after in let z = counted q in omega arith;
    stays = λ q. let r = ap (held_sum (spot n) (fixed q)) held in
        let t = ap (held_sum (spot n) (fixed q)) after in omega arith;
    rises = let r = ap (held_sum (spot n) (ever_at g)) held in
        let t = ap (held_sum (spot n) (ever_at g)) after in
        let z = ap (ever g s) order in omega arith;
    most = inl (
      (let r = ap (held_sum (spot n) mosts) held in
          let t = ap (held_sum (spot n) mosts) after in omega arith),
      (let r = ap (held_sum (spot n) pages) held in
          let t = ap (held_sum (spot n) pages) after in omega arith),
    );
  }

  -- what counts beside entries is as before
  module _ (ahead : m.ahead ≡ l.ahead) (behind : m.behind ≡ l.behind) where
    -- the map of blocks goes back
    pub give_map : (hs : List (LockNo × DiskHeld)) (y y' : BlockMap)
        → l.held ≡ (lock.Blocks, holds.Blocks y) ∷ hs → m.held ≡ hs
        → Storage g w a l lock.Blocks (holds.Blocks y') m
        → Gift g w a l lock.Blocks (holds.Blocks y') m
    give_map hs y y' held after storage = record {
      home = record { sound = refl; stands = tt; backs = tt; marks = tt };
      fits = fits;
      alone = λ i. let r = ap (held_sum (spot n) (at_place i)) held in
          let t = ap (held_sum (spot n) (at_place i)) after in omega arith;
      owners = λ h. let r = ap (held_sum (spot n) (claims g h)) held in
          let t = ap (held_sum (spot n) (claims g h)) after in
          let x = ap (held_sum (spot n) (stored h)) held in
          let y = ap (held_sum (spot n) (stored h)) after in
          let z = ap (by_option (object_weight h)) hands.fresh in omega arith;
      storage = storage;
      pins = λ h. let r = ap (held_sum (spot n) (outs h)) held in
          let t = ap (held_sum (spot n) (outs h)) after in
          let x = ap (held_sum (spot n) nothing) held in
          let y = ap (held_sum (spot n) nothing) after in
          let z = ap (by_option h) hands.pin in omega arith;
      frames = let r = ap (held_sum (spot n) pages) held in
          let t = ap (held_sum (spot n) pages) after in
          let x = ap (held_sum (spot n) chains) held in
          let y = ap (held_sum (spot n) chains) after in let z = hands.owed in omega arith;
      counts = λ q. let r = ap (held_sum (spot n) (counters q)) held in
          let t = ap (held_sum (spot n) (counters q)) after in
          let x = ap (held_sum (spot n) (shown q)) held in
          let y = ap (held_sum (spot n) (shown q)) after in
          let z = ap (by_option (measure q)) ahead in
          let u = ap (by_option (measure q)) behind in omega arith;
      stays = λ q. let r = ap (held_sum (spot n) (fixed q)) held in
          let t = ap (held_sum (spot n) (fixed q)) after in omega arith;
      rises = let r = ap (held_sum (spot n) (ever_at g)) held in
          let t = ap (held_sum (spot n) (ever_at g)) after in omega arith;
      most = inl (
        (let r = ap (held_sum (spot n) mosts) held in
            let t = ap (held_sum (spot n) mosts) after in omega arith),
        (let r = ap (held_sum (spot n) pages) held in
            let t = ap (held_sum (spot n) pages) after in omega arith),
      );
    }

    -- the device goes back
    pub give_device : (d d' : DeviceState) → l.held ≡ (lock.Device, holds.Device d) ∷ []
        → m.held ≡ [] → AtHome g (n + 257) (holds.Device d')
        → Storage g w a l lock.Device (holds.Device d') m
        → Gift g w a l lock.Device (holds.Device d') m
    give_device d d' held after home storage = record {
      home = home;
      fits = fits;
      alone = λ i. let r = ap (held_sum (spot n) (at_place i)) held in
          let t = ap (held_sum (spot n) (at_place i)) after in omega arith;
      owners = λ h. let r = ap (held_sum (spot n) (claims g h)) held in
          let t = ap (held_sum (spot n) (claims g h)) after in
          let x = ap (held_sum (spot n) (stored h)) held in
          let y = ap (held_sum (spot n) (stored h)) after in
          let z = ap (by_option (object_weight h)) hands.fresh in omega arith;
      storage = storage;
      pins = λ h. let r = ap (held_sum (spot n) (outs h)) held in
          let t = ap (held_sum (spot n) (outs h)) after in
          let x = ap (held_sum (spot n) nothing) held in
          let y = ap (held_sum (spot n) nothing) after in
          let z = ap (by_option h) hands.pin in omega arith;
      frames = let r = ap (held_sum (spot n) pages) held in
          let t = ap (held_sum (spot n) pages) after in
          let x = ap (held_sum (spot n) chains) held in
          let y = ap (held_sum (spot n) chains) after in let z = hands.owed in omega arith;
      counts = λ q. let r = ap (held_sum (spot n) (counters q)) held in
          let t = ap (held_sum (spot n) (counters q)) after in
          let x = ap (held_sum (spot n) (shown q)) held in
          let y = ap (held_sum (spot n) (shown q)) after in
          let z = ap (by_option (measure q)) ahead in
          let u = ap (by_option (measure q)) behind in omega arith;
      stays = λ q. let r = ap (held_sum (spot n) (fixed q)) held in
          let t = ap (held_sum (spot n) (fixed q)) after in omega arith;
      rises = let r = ap (held_sum (spot n) (ever_at g)) held in
          let t = ap (held_sum (spot n) (ever_at g)) after in omega arith;
      most = inl (
        (let r = ap (held_sum (spot n) mosts) held in
            let t = ap (held_sum (spot n) mosts) after in omega arith),
        (let r = ap (held_sum (spot n) pages) held in
            let t = ap (held_sum (spot n) pages) after in omega arith),
      );
    }

-- ---- the visit of a page is over

module _ (g : Begin) (ok : Known g) (w : State DiskHeld) (j : Joint g w) (a : ℕ) (l : Here)
    (who : slice_get w.locals a ≡ Some l) (p : Part) (rest : List Part)
    (todo : l.todo ≡ p ∷ rest) (begun : is_writeback p.op ≡ true) where
  -- What the local after it is.
  pub record Went (m : Here) : Type 0 where
    pub fits : IsActor g a m
    pub free : IsFree m
    pub says : SaysNone m

  over : (m : Here) (end : PartEnd) → m ≡ piece_over l p end [] rest → EndsSo (ground_of g) p end
      → Went m
  over m end m_is so = subst Went (sym m_is) (record {
    fits = is_over g ok w j a l who p rest todo end [] so;
    free = record {
      held = refl;
      fresh = refl;
      pin = refl;
      owed = refl;
      ahead = refl;
      behind = refl;
    };
    says = plain_says _ tt;
  })

  pub ends_over : (m : Here) (end : PartEnd) → m ≡ piece_over l p end [] rest
      → EndsSo (ground_of g) p end → Went m
  ends_over m end m_is so = over m end m_is so

  module _ (y : Trip) (low : y.page ≤ g.given.size) (few : y.wrote + y.lost ≤ y.page)
      (none : NoneOf y.block) (m : Here) where
    next_low : (y.page == g.given.size) ≡ false → y.page < g.given.size
    next_low off = let z = eqb-false y.page g.given.size off in
        elim (cases_eq y.page g.given.size) [ inl q ↦ absurd (z q) | inr q ↦ omega arith ]

    pub went : Onward g l p rest y m → Went m
    went (onward.next off m_is) = subst Went (sym m_is) (record {
      fits = goes_on g ok w j a l who p rest todo (Visiting step.Arriving y) [] None None 0 None None
          None None refl tt
          (visit_stage g p None None 0 None None None None _ step.Arriving y tt tt refl (tt, tt) tt
          begun (record {
            trip = record { page = next_low off; few = few };
            step = (none, tt);
          }))
          (omega arith);
      free = record {
        held = refl;
        fresh = refl;
        pin = refl;
        owed = refl;
        ahead = refl;
        behind = refl;
      };
      says = bare_says _ step.Arriving y refl tt;
    })
    went (onward.last on m_is) = over m (Whole (ends.Written y.wrote y.lost)) m_is
        (writeback_single g.given.size p.op begun, (begun, omega arith))
