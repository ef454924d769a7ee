-- The outputs of a session's calls, one after the other.
use Rattle.std.specs.Prelude.{⊤}
use Rattle.std.proofs.Common.{◌≡◌, ℕ, Bool, false, ◌||◌, List, [], ◌∷◌, ◌++◌, map, Option, Result, Ok, Err, IfOk, OnErr, refl, sym, ap, ◌∙◌, subst, append_assoc}
use Rattle.std.proofs.KnownBytes.{Appends-nil, Appends-trans}
use Rattle.std.proofs.lemmas.List.Concat.{flat_map-append}
use Rattle.std.specs.Io.KnownBytes.{Appends}
use Rattle.backing_dev.specs.Dev.{DeviceState}
use Rattle.plain_disk.specs.Output.{OutLine, any_refusal}
use Rattle.plain_disk.specs.Rests.{Settings, Rest}
use Rattle.plain_disk.specs.Legal.{IsFirst, first_settings}
use Rattle.plain_disk.specs.Legal.{Item as PlainItem}
use Rattle.slot_entry.specs.Forms.{page_weight}
use Rattle.job_session.specs.Legal.{plain_item}
use Rattle.job_session.specs.Complete.{HaveRoom}
use Rattle.job_session.proofs.Complete.{complete}
use Rattle.job_text.specs.declared.job.Item.{Item}
use Rattle.job_print.specs.Texts.{text, line_text}
use Rattle.job_session.specs.declared.stop.Stop.{Stop}
use Rattle.job_session.specs.Stands.{Stands}
use Rattle.job_session.specs.Stepped.{Disk, without_pages}
use Rattle.job_session.specs.Runs.{Seen, Shows, IsUncounted, BeginsWith, IsWritten, IsCut}
use Rattle.job_session.specs.Sessions.{Place, done_at, Extends, GoesOn, GivesUp}
use Rattle.job_session.specs.Advances.{IsSoFar, IsCutSoFar, SessionRan}
use Rattle.job_session.proofs.Lent.{job_refs}
use Rattle.job_session.proofs.Lines.{any_refusal-append}

-- before the first item
pub nothing_yet : (first : Rest) (d : Disk) (u : Option (List ℕ)) → Stands first d
    → d ≡ without_pages first.device → IsSoFar first [] d (Appends u u) false
nothing_yet first d u stands bare = record {
  lines = [];
  last = first;
  legal = (refl, refl);
  stands = stands;
  turns = [];
  stepped = (refl, refl, bare);
  own = refl;
  refused_is = refl;
  output = Appends-nil u;
}

-- ---- on and on

pub text_both : (xs ys : List OutLine) → text xs ++ text ys ≡ text (xs ++ ys)
text_both xs ys = sym (flat_map-append line_text xs ys)

module _ (first : Rest) (p : Place) (d : Disk) (turns : List (List ℕ)) (Own : Type 0)
    (Before : List ℕ → Type 0) (so_far : IsSoFar first (done_at p) d Before p.refused)
    (own : Own) where
  -- what it is with these lines more, whatever is known to be written
  extended : (whole : List Item) (last : Disk) (lines : List OutLine) (Writes : List ℕ → Type 0)
      → Extends (done_at p) whole d turns Own lines last → Writes (text (so_far.lines ++ lines))
      → IsSoFar first whole last Writes (any_refusal (so_far.lines ++ lines))
  extended whole last lines Writes extends output =
      let legal = extends.legal first so_far.last so_far.lines so_far.legal so_far.stands in
      record {
        lines = so_far.lines ++ lines;
        last = legal.0;
        legal = legal.1;
        stands = legal.2;
        turns = so_far.turns ++ turns;
        stepped = extends.stepped (without_pages first.device) so_far.turns so_far.lines
            so_far.stepped;
        own = extends.own so_far.turns so_far.own own;
        refused_is = refl;
        output = output;
      }

  module _ (m : Disk) (After : List ℕ → Type 0) where
    -- the lines go on, whatever is written of them
    pub led_on : (q : Place) → GoesOn p q d turns Own m After
        → IsSoFar first (done_at q) m (λ bytes. ⊤) q.refused
    led_on q g =
        subst (IsSoFar first (done_at q) m (λ bytes. ⊤))
        (any_refusal-append so_far.lines g.lines
        ∙ ap (λ (b : Bool). b || any_refusal g.lines) (sym so_far.refused_is) ∙ sym g.refused)
        (extended (done_at q) m g.lines (λ bytes. ⊤) g.extends tt)

    pub led_out : (job : List Item) → p.job ≡ job → GivesUp p d turns Own m After
        → IsCutSoFar first job m (λ bytes. ⊤)
    led_out job same g = record {
      front = g.front;
      later = g.later;
      parts = sym same ∙ g.parts;
      refused = any_refusal (so_far.lines ++ g.lines);
      last = g.last;
      so_far = extended g.front g.last g.lines (λ bytes. ⊤) g.extends tt;
      device = g.device;
    }

module _ (first : Rest) (p : Place) (d m : Disk) (turns : List (List ℕ)) (Own : Type 0)
    (u v w : Option (List ℕ)) (so_far : IsSoFar first (done_at p) d (Appends u v) p.refused)
    (own : Own) where
  pub went_on : (q : Place) → GoesOn p q d turns Own m (Appends v w)
      → IsSoFar first (done_at q) m (Appends u w) q.refused
  went_on q g =
      subst (IsSoFar first (done_at q) m (Appends u w))
      (any_refusal-append so_far.lines g.lines
      ∙ ap (λ (b : Bool). b || any_refusal g.lines) (sym so_far.refused_is) ∙ sym g.refused)
      (extended first p d turns Own (Appends u v) so_far own (done_at q) m g.lines (Appends u w)
      g.extends
      (subst (Appends u w) (text_both so_far.lines g.lines)
      (Appends-trans u v w (text so_far.lines) (text g.lines) so_far.output g.output)))

  pub gave_up : (job : List Item) → p.job ≡ job → GivesUp p d turns Own m (BeginsWith v w)
      → IsCutSoFar first job m (BeginsWith u w)
  gave_up job same g = record {
    front = g.front;
    later = g.later;
    parts = sym same ∙ g.parts;
    refused = any_refusal (so_far.lines ++ g.lines);
    last = g.last;
    so_far = extended first p d turns Own (Appends u v) so_far own g.front g.last g.lines
        (BeginsWith u w) g.extends (record {
          sent = text so_far.lines ++ g.output.sent;
          rest = g.output.rest;
          parts = sym (text_both so_far.lines g.lines)
              ∙ ap (λ (x : List ℕ). text so_far.lines ++ x) g.output.parts
              ∙ sym (append_assoc (text so_far.lines) g.output.sent g.output.rest);
          appended = Appends-trans u v w (text so_far.lines) g.output.sent so_far.output
              g.output.appended;
        });
    device = g.device;
  }

-- ---- the whole job

-- the references by which a device is reached
abbrev pub refs : DeviceState → List ℕ
refs d = d.references

-- the device is reached as before
pub reached : (first : Rest) (job : List Item) (d : Disk) (Writes : List ℕ → Type 0) (refused : Bool)
    → IsSoFar first job d Writes refused → refs d.device ≡ refs first.device
reached first job d Writes refused s =
    ap refs (sym s.stands.device) ∙ job_refs job first s.lines s.last s.legal

pub ran_over : (first : Rest) (job : List Item) (m : Disk) (u w : Option (List ℕ))
    (r : Result Bool Stop) → SessionRan first job m u w r → refs m.device ≡ refs first.device
ran_over first job m u w (Ok refused) s = reached first job m (Appends u w) refused s
ran_over first job m u w (Err stop) s =
    ap refs (sym s.device) ∙ reached first s.front s.last (BeginsWith u w) s.refused s.so_far

-- so the reference that is given back is the one that was lent
pub lent_back : (lent back : ℕ) (old new now was : List ℕ) → now ≡ was → was ≡ lent ∷ old
    → back ∷ new ≡ now → (lent ≡ back) × (new ≡ old)
lent_back lent back old new now was same is given =
    let e : back ∷ new ≡ lent ∷ old = given ∙ same ∙ is in (
      let q : lent ≡ back = cc in q,
      let q : new ≡ old = cc in q,
    )

-- the first rest is as it has to be over its own device
pub first_over : (device : DeviceState) (r : Rest) → IsFirst device r → IsFirst r.device r
first_over device r is = record {
  no_disk = is.no_disk;
  unused = is.unused;
  set = is.set;
  over = refl;
}

module _ (first : Rest) (is_first : IsFirst first.device first) (entry exit : Seen)
    (at_entry : IsUncounted entry first.device) where
  -- what items ask for before the first rest, over what is seen of the device
  pub room_first : (items : List PlainItem) → HaveRoom entry.blocks 0 first_settings items
      → HaveRoom first.device.blocks first.size first.set items
  room_first items room = subst (λ (n : ℕ). HaveRoom n first.size first.set items)
      (sym at_entry.shows.blocks) (subst (λ (n : ℕ). HaveRoom entry.blocks n first.set items)
      (sym is_first.no_disk) (subst (λ (s : Settings). HaveRoom entry.blocks 0 s items)
      (sym is_first.set) room))

  abbrev pub as_written : (job : List Item) (d : Disk) (Writes : List ℕ → Type 0) (refused : Bool)
      → Shows exit d.device → IsSoFar first job d Writes refused
      → IsWritten job entry exit Writes refused
  as_written job d Writes refused at_exit s = record {
    lines = s.lines;
    first = first;
    last = s.last;
    is_first = is_first;
    at_entry = at_entry;
    legal = s.legal;
    at_exit = subst (Shows exit) (sym s.stands.device) at_exit;
    turns = s.turns;
    disk = d;
    stepped = s.stepped;
    over = sym s.stands.device;
    own = s.own;
    refused_is = s.refused_is;
    complete = λ room calm. complete page_weight first (map plain_item job) s.lines s.last s.legal
        (room_first (map plain_item job) room)
        (ap (λ (d : DeviceState). d.faults) s.stands.device ∙ at_exit.faults ∙ calm
        ∙ sym at_entry.shows.faults);
    output = s.output;
  }

  pub as_cut : (job : List Item) (m : Disk) (Writes : List ℕ → Type 0) → Shows exit m.device
      → IsCutSoFar first job m Writes → IsCut job entry exit Writes
  as_cut job m Writes at_exit s = record {
    front = s.front;
    later = s.later;
    parts = s.parts;
    refused = s.refused;
    run = as_written s.front s.last Writes s.refused (subst (Shows exit) (sym s.device) at_exit)
        s.so_far;
  }

  pub run_written : (job : List Item) (m : Disk) (u w : Option (List ℕ)) (r : Result Bool Stop)
      → Shows exit m.device → SessionRan first job m u w r
      → IfOk r (IsWritten job entry exit (Appends u w))
  run_written job m u w (Ok refused) at_exit s = as_written job m (Appends u w) refused at_exit s
  run_written job m u w (Err stop) at_exit s = tt

  pub run_cut : (job : List Item) (m : Disk) (u w : Option (List ℕ)) (r : Result Bool Stop)
      → Shows exit m.device → SessionRan first job m u w r
      → OnErr r (IsCut job entry exit (BeginsWith u w))
  run_cut job m u w (Ok refused) at_exit s = tt
  run_cut job m u w (Err stop) at_exit s = as_cut job m (BeginsWith u w) at_exit s
