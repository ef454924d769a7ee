-- What is known of a phase that begins where another has ended.
use Rattle.std.proofs.Common.{◌≡◌, ℕ, ◌+◌, ◌-◌, ◌*◌, ◌/◌, ◌^◌, ◌<◌, ◌≤◌, Bool, true, cond, List, [], ◌∷◌, length, Option, Some, None, slice_get, refl, sym, ap, ◌∙◌, subst, arith}
use Rattle.std.specs.List.{AllByRecursion}
use Rattle.std.specs.Prelude.{option_and_then}
use Rattle.zr_base.specs.declared.op.Tag.{Tag}
use Rattle.zr_base.specs.declared.op.Op.{Op}
use Rattle.zr_base.specs.declared.op.Op.TheVariants.{Write, Read, Discard, Idle, Writeback, Compact}
use Rattle.zr_base.specs.Plain.{Look, Finds, PageCalls, content, named, has_whole, sector_after, sector_after_named, zero_sector, IsRequest, IsSector}
use Rattle.mem_account.specs.Counters.{Counters}
use Rattle.plain_disk.specs.Calls.{Found, after, after_all, blank_by}
use Rattle.plain_disk.specs.Phases.{calls_on, held_after}
use Rattle.actor_steps.specs.Places.{IsWork}
use Rattle.joint_rule.specs.Begins.{Begin, finding, found, found_after, HasEvent, AreCarried, AreRequests, FindsRight, Proper, pieces_each}
use Rattle.joint_rule.specs.Laws.{RequestsAreProper}

-- a call that is carried out leaves zeros where it leaves the page blank
blank_one : (p k : ℕ) (f : Found) (o : Option Op) (look : Look) → k < 8 → HasEvent p o
    → (f.blank ≡ true → f.holds (8 * p + k) ≡ zero_sector) → blank_by o f.blank ≡ true
    → sector_after_named o look (8 * p + k) (f.holds (8 * p + k)) ≡ zero_sector
blank_one p k f None look lt does zeros e = zeros e
blank_one p k f (Some (Write start count stuff)) look lt does zeros e = absurd (cc)
blank_one p k f (Some (Read start count)) look lt does zeros e = zeros e
blank_one p k f (Some (Idle age)) look lt does zeros e = zeros e
blank_one p k f (Some (Writeback mode)) look lt does zeros e = zeros e
blank_one p k f (Some Compact) look lt does zeros e = zeros e
blank_one p k f (Some (Discard start count)) look lt does zeros e =
    ap (λ (b : Bool). cond b zero_sector (f.holds (8 * p + k)))
    (ap (has_whole start count) (let q : (8 * p + k) / 8 ≡ p = omega arith in q) ∙ does)

blank_zeros : (c : PageCalls) (p k : ℕ) (f : Found) (order : List Tag) → k < 8
    → AllByRecursion (λ t. HasEvent p (named c.actors t)) order
    → (f.blank ≡ true → f.holds (8 * p + k) ≡ zero_sector)
    → (after_all c f order).blank ≡ true
    → content c (8 * p + k) (f.holds (8 * p + k)) order ≡ zero_sector
blank_zeros c p k f [] lt does zeros e = zeros e
blank_zeros c p k f (tag ∷ tags) lt does zeros e =
    blank_zeros c p k (after (named c.actors tag) (c.finds tag) f) tags lt does.1
    (blank_one p k f (named c.actors tag) (c.finds tag) lt does.0 zeros) e

-- a call leaves a sector where it finds one
sector_one : (o : Option Op) (look : Look) (s : ℕ) (old : List ℕ)
    → ((op : Op) (b : List ℕ) → o ≡ Some op → IsSector b → IsSector (sector_after op s b))
    → ((b : List ℕ) → IsSector b → IsSector (look s b)) → IsSector old
    → IsSector (sector_after_named o look s old)
sector_one None look s old puts finds ok = ok
sector_one (Some (Write start count stuff)) look s old puts finds ok =
    puts (Write start count stuff) (look s old) refl (finds old ok)
sector_one (Some (Read start count)) look s old puts finds ok =
    puts (Read start count) old refl ok
sector_one (Some (Discard start count)) look s old puts finds ok =
    puts (Discard start count) old refl ok
sector_one (Some (Idle age)) look s old puts finds ok = puts (Idle age) old refl ok
sector_one (Some (Writeback mode)) look s old puts finds ok = puts (Writeback mode) old refl ok
sector_one (Some Compact) look s old puts finds ok = puts Compact old refl ok

-- so do the calls of an order
sector_all : (c : PageCalls) (s : ℕ) (old : List ℕ) (order : List Tag)
    → ((t : Tag) (op : Op) (b : List ℕ) → named c.actors t ≡ Some op → IsSector b
    → IsSector (sector_after op s b))
    → ((t : Tag) (b : List ℕ) → IsSector b → IsSector (c.finds t s b)) → IsSector old
    → IsSector (content c s old order)
sector_all c s old [] puts finds ok = ok
sector_all c s old (t ∷ ts) puts finds ok =
    sector_all c s (sector_after_named (named c.actors t) (c.finds t) s old) ts puts finds
    (sector_one (named c.actors t) (c.finds t) s old (puts t) (finds t) ok)

-- what is known of a phase is known of it whatever its calls find, where they find sectors
pub proper_finding : (g : Begin) (finds : ℕ → Finds) → Proper g → FindsRight (finding g finds)
    → Proper (finding g finds)
proper_finding g finds proper right = record {
  some = proper.some;
  times = proper.times;
  blanks = proper.blanks;
  before = proper.before;
  puts = proper.puts;
  finds = right;
  least = proper.least;
  most = proper.most;
  few = proper.few;
  pieces = proper.pieces;
}

-- and so it is at another account, or another limit on writebacks
pub proper_so : (g : Begin) (c : Counters) (n : ℕ) (on tight : Bool) → Proper g
    → Proper (record g { was = c; budget = n; budgeted = on; tight = tight })
proper_so g c n on tight proper = record {
  some = proper.some;
  times = proper.times;
  blanks = proper.blanks;
  before = proper.before;
  puts = proper.puts;
  finds = record { sectors = proper.finds.sectors; honest = proper.finds.honest };
  least = proper.least;
  most = proper.most;
  few = proper.few;
  pieces = proper.pieces;
}

-- calls that find what is held find sectors
finds_right : (h : Begin)
    → ((p : ℕ) (t : Tag) (s : ℕ) (old : List ℕ) → h.given.finds p t s old ≡ old) → FindsRight h
finds_right h held = record {
  sectors = λ p t s old ok. subst IsSector (sym (held p t s old)) ok;
  honest = λ yes p t s old. held p t s old;
}

module _ (law : RequestsAreProper) (g : Begin) (proper : Proper g) where
  -- the requests of a phase, by tags
  requests : (actors : List (List Op)) → IsWork actors → AreRequests actors
  requests actors work tag op e = by (slice_get actors tag.actor) refl where
    by : (x : Option (List Op)) → slice_get actors tag.actor ≡ x → IsRequest op
    by None is = absurd (let q : None ≡ Some op = sym
        (ap (option_and_then (λ (ops : List Op). slice_get ops tag.op)) is) ∙ e in cc)
    by (Some ops) is = work.requests tag.actor ops is tag.op op
        (sym (ap (option_and_then (λ (ops : List Op). slice_get ops tag.op)) is) ∙ e)

  -- a phase of these actors on the same disk
  pub begins_proper : (h : Begin) → (work : IsWork h.given.actors)
      → ((p : ℕ) (t : Tag) (s : ℕ) (old : List ℕ) → h.given.finds p t s old ≡ old)
      → h.given.before ≡ g.given.before → h.blank ≡ g.blank → h.chain ≡ g.chain
      → ((p : ℕ) → p < h.given.size → h.touched p ≤ h.clock)
      → (0 < length h.given.actors → 0 < h.given.size)
      → h.given.size + length h.given.actors < 2 ^ 32 - 1
      → ((p : ℕ) → p < h.given.size → pieces_each h.given.size h.given.backed h.given.actors p < 2 ^ 32)
      → Proper h
  begins_proper h work held before blank chain times some few pieces =
      law h (requests h.given.actors work) (finds_right h held)
      (λ s. subst IsSector (sym (ap (λ (f : ℕ → List ℕ). f s) before)) (proper.before s))
      (λ p k lt e. ap (λ (f : ℕ → List ℕ). f (8 * p + k)) before
      ∙ proper.blanks p k lt (sym (ap (λ (f : ℕ → Bool). f p) blank) ∙ e))
      times (record {
        some = some;
        least = (let q = proper.least in omega arith);
        most = (let q = proper.most in omega arith);
        few = few;
        pieces = pieces;
      })

  -- the disk that calls in these orders leave
  pub leaves_proper : (h : Begin) (order : ℕ → List Tag) → h.given.actors ≡ []
      → h.given.size ≡ g.given.size → h.chain ≡ g.chain
      → ((p : ℕ) → AreCarried g p (order p))
      → ((p : ℕ) → h.blank p ≡ (found_after g p (order p)).blank)
      → ((s : ℕ) → h.given.before s ≡ held_after g.given (s / 8) (order (s / 8)) s)
      → ((p : ℕ) (t : Tag) (s : ℕ) (old : List ℕ) → h.given.finds p t s old ≡ old)
      → ((p : ℕ) → p < h.given.size → h.touched p ≤ h.clock)
      → Proper h
  leaves_proper h order none size chain carried blank before held times =
      law h (λ tag op e. absurd (let q : None ≡ Some op =
      sym (ap (λ (xs : List (List Op)). named xs tag) none) ∙ e in cc))
      (finds_right h held)
      (λ s. subst IsSector (sym (before s))
      (sector_all (calls_on g.given (s / 8)) s (g.given.before s) (order (s / 8))
      (λ t op b. proper.puts t op s b) (λ t b. proper.finds.sectors (s / 8) t s b)
      (proper.before s)))
      (λ p k lt e. before (8 * p + k)
      ∙ ap (λ (q : ℕ). held_after g.given q (order q) (8 * p + k))
      (let q : (8 * p + k) / 8 ≡ p = omega arith in q)
      ∙ blank_zeros (calls_on g.given p) p k (found g p) (order p) lt (carried p)
      (proper.blanks p k lt) (sym (blank p) ∙ e))
      times (record {
        some = λ lt. absurd (let n = ap length none in let no : ⊥ = omega arith in no);
        least = (let q = proper.least in omega arith);
        most = (let q = proper.most in omega arith);
        few = (let q = proper.few in let n = ap length none in omega arith);
        pieces = λ p lt. subst (λ (xs : List (List Op)). pieces_each h.given.size h.given.backed xs p < 2 ^ 32)
            (sym none) (omega arith);
      })
