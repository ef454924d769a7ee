-- What a finished phase leaves: it is one that the plain disk allows, and its row stands for the
-- rest after it.
use Rattle.std.proofs.Common.{◌≡◌, ℕ, ◌+◌, List, [], Some, slice_get, refl, sym, ap, ◌∙◌, subst, arith}
use Rattle.std.proofs.lemmas.List.{ext_get_or}
use Rattle.std.proofs.lemmas.List.FromFn.{length-map-range_with_len, get_or-map-range_with_len}
use Rattle.zr_base.specs.declared.op.Tag.{Tag}
use Rattle.zr_base.specs.declared.op.Op.{Op}
use Rattle.plain_disk.specs.Output.{phase_lines}
use Rattle.plain_disk.specs.Rests.{Rest, is_backed, stats}
use Rattle.plain_disk.specs.Phases.{IsPhase, begun}
use Rattle.backing_dev.specs.Dev.{DeviceState}
use Rattle.call_history.specs.declared.part.Part.{Part}
use Rattle.call_history.specs.Laws.{TellsPhase, TellsAccount}
use Rattle.call_history.specs.Histories.{HasSomeEach, ends_each, told_each}
use Rattle.lock_row.specs.declared.names.Held.TheVariants as holds
use Rattle.lock_row.specs.declared.names.State.{State}
use Rattle.slot_entry.specs.Entries.{EntryState}
use Rattle.slot_entry.specs.Forms.{page_weight}
use Rattle.page_steps.specs.Pages.{new_class}
use Rattle.page_steps.specs.Steps.{DiskHeld, class_by, entry_in, plan_by}
use Rattle.joint_rule.specs.Begins.{Begin, finding, Proper, IsRoomy}
use Rattle.joint_rule.specs.Laws.{FinishedIsAtRest, FinishedAgrees, FinishedFinds, FinishedTallies, RestGoesOn, EntryGoesOn, NextIsProper}
use Rattle.joint_rule.specs.Rule.{Rule}
use Rattle.joint_rule.specs.Starts.{AtRest, Renewed, slots, accounts, pools, maps, devices}
use Rattle.joint_rule.specs.Ends.{begin_at, AllFinished, orders_of, histories, idle_in, account_of, device_in, budget_in, rest_after}
use Rattle.disk_rest.specs.Rows.{Row, NoPieceLeft, AreOrders, order_at, without_calls, without_orders}
use Rattle.disk_rest.specs.Resting.{IsPlain, StandsFor}
use Rattle.disk_rest.proofs.Asked.{no_requests}
use Rattle.disk_rest.proofs.Places.{device_there, value_is}
use Rattle.disk_rest.proofs.Maps.{at_end, blocks_kept, limit_kept}
use Rattle.disk_rest.proofs.Matches.{matched, emptied_long, emptied_at}

-- an actor without a piece is finished
all_finished : (g : Begin) (w : State DiskHeld) → NoPieceLeft w → AllFinished g w
all_finished g w over a l e =
    ap (λ (ps : List Part). plan_by g.given.size ps l.at (class_by (entry_in l.held).kept)
    (new_class g.chain l.todo l.page (entry_in l.held).kept)) (over a l e)

-- the orders of the entries are those that the row tells
orders_are : (size : ℕ) (row : Row) (orders : List (List Tag)) → AreOrders size row orders
    → orders ≡ orders_of size row
orders_are size row orders are = ext_get_or [] orders (orders_of size row)
    (are.long ∙ sym (length-map-range_with_len (order_at row) 0 size))
    (λ p lt. let long = are.long in are.each p (omega arith)
    ∙ sym (get_or-map-range_with_len (order_at row) 0 size p p [] (omega arith) (omega arith)))

-- The laws of finished phases.
pub record Ending : Type 0 where
  pub rest : FinishedIsAtRest
  pub agree : FinishedAgrees
  pub finds : FinishedFinds
  pub tallies : FinishedTallies
  pub next : RestGoesOn
  pub entry : EntryGoesOn
  pub proper : NextIsProper

module _ (laws : Ending) (r : Rest) (actors : List (List Op)) (w : State DiskHeld)
    (proper : Proper (begin_at r actors)) (rule : Rule (begin_at r actors) w)
    (over : NoPieceLeft w) where
  abbrev g : Begin
  g = begin_at r actors

  -- the phase with what its calls have found
  abbrev gf : Begin
  gf = finding g rule.finds

  abbrev m : Rest
  m = rest_after r actors rule.finds w.row

  -- what the next phase begins with
  abbrev h : Begin
  h = begin_at m []

  finished : AllFinished g w
  finished = all_finished g w over

  rest : AtRest gf w.row
  rest = laws.rest g w rule finished

  -- the device of the row is the rest's
  device_is : (k : ℕ) (d : DeviceState) → slice_get w.row k ≡ Some (Some (holds.Device d))
      → m.device ≡ d
  device_is k d at = ap (device_in r.device) (value_is w.row (r.size + 257) (holds.Device d)
      (subst (λ (j : ℕ). slice_get w.row j ≡ Some (Some (holds.Device d)))
      (rest.home k (holds.Device d) at).sound.0 at))

  -- ---- what is printed

  pub prints : TellsPhase → HasSomeEach actors → (orders : List (List Tag))
      → AreOrders r.size w.row orders
      → IsPhase page_weight r actors (phase_lines (ends_each (is_backed r) actors (histories w.locals))
      (told_each actors (histories w.locals)) orders) m
  prints tells some orders are =
      subst (λ (x : List (List Tag)). IsPhase page_weight r actors
      (phase_lines (ends_each (is_backed r) actors (histories w.locals))
      (told_each actors (histories w.locals)) x) m)
      (sym (orders_are r.size w.row orders are))
      (tells page_weight r actors rule.finds (histories w.locals) (orders_of r.size w.row)
      (account_of r.size w.row) m some (laws.finds r actors w proper rule finished)
      (laws.agree r actors w proper rule finished)
      (laws.tallies r actors w proper rule finished))

  -- ---- what the row stands for

  account_right : TellsAccount → account_of r.size w.row ≡ stats page_weight m
  account_right tells =
      tells page_weight r (begun r actors rule.finds) (histories w.locals)
      (orders_of r.size w.row) (account_of r.size w.row) m (laws.tallies r actors w proper rule finished)

  roomy : IsRoomy h
  roomy = record {
    some = λ lt. absurd (omega arith);
    least = proper.least;
    most = proper.most;
    few = let few = proper.few in omega arith;
    pieces = λ p lt. omega arith;
  }

  next_proper : Proper h
  next_proper = laws.proper r actors [] m.set w proper rule finished no_requests roomy
      (omega arith)

  plain : IsPlain m
  plain = let p = next_proper in record {
    sectors = p.before;
    blanks = p.blanks;
    times = p.times;
    least = p.least;
    most = p.most;
  }

  renewed : (k : ℕ) (v : DiskHeld) → slice_get w.row k ≡ Some (Some v)
      → Renewed gf h k v (without_calls v)
  renewed k (holds.Slot e) at =
      let emptied : EntryState = record e { order = []; room = 0 } in
      slots e emptied refl refl
      (laws.entry r actors [] m.set w k e emptied proper rule finished at
      refl refl refl refl refl)
  renewed k (holds.Class x) at = pools x refl refl
  renewed k (holds.Account x) at = accounts x x refl refl refl (λ le. le)
  renewed k (holds.Blocks x) at = maps x x refl refl refl
  renewed k (holds.Device x) at = devices x refl refl (device_is k x at)

  goes_on : AtRest h (without_orders w.row)
  goes_on =
      laws.next gf h w.row (without_orders w.row) (record { size = refl; chain = refl })
      (matched (Renewed gf h) w.row (without_orders w.row) (emptied_long w.row)
      (λ k lt. let v = rest.whole k lt in record {
        old = v.0;
        new = without_calls v.0;
        was = v.1;
        is = emptied_at w.row k v.0 v.1;
        so = renewed k v.0 v.1;
      })) rest

  pub leaves : TellsAccount → StandsFor m w.row
  leaves tells =
      let d = device_there gf w.row rest in
      let x = at_end gf w rule.ruled over rest in
      record {
        plain = plain;
        rest = goes_on;
        marks = λ p e at. sym (ap idle_in (value_is w.row p (holds.Slot e) at));
        used = λ k lt. refl;
        account = account_right tells;
        device = d.at ∙ ap (λ (x : DeviceState). Some (Some (holds.Device x)))
            (sym (device_is (r.size + 257) d.device d.at));
        map = (
          x.map,
          x.at,
          record {
            blocks = blocks_kept gf w rule.ruled over rest;
            budget = sym (ap (budget_in r.set.budget) (value_is w.row (r.size + 256) (holds.Blocks x.map) x.at));
            budgeted = limit_kept gf w rule.ruled over rest;
          },
        );
      }
