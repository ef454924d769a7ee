-- The call of a piece before its first event.
use Rattle.std.proofs.Common.{◌≡◌, ℕ, ◌+◌, ◌<◌, ◌≤◌, true, false, List, Option, Some, slice_get, refl, sym, ap, ◌∙◌, subst}
use Rattle.zr_base.specs.declared.op.Op.{Op}
use Rattle.zr_base.specs.declared.op.Mode.{Mode}
use Rattle.zr_base.specs.declared.op.Op.TheVariants.{Idle, Writeback, Compact}
use Rattle.zr_base.specs.declared.op.Tag.{Tag}
use Rattle.zr_base.specs.declared.op.Piece.{Piece}
use Rattle.zr_base.specs.Plain.{is_beyond, is_maintenance}
use Rattle.page_steps.specs.declared.stage.Work.{Work}
use Rattle.page_steps.specs.Calls.{is_count, Asks, started, counting}
use Rattle.post_steps.specs.declared.compact.CompactCall.{CompactCall}
use Rattle.post_steps.specs.declared.compact.CompactStage.{CompactStage}
use Rattle.post_steps.specs.declared.compact.CompactStage.TheVariants as stage
use Rattle.post_steps.specs.declared.idle.IdleCall.{IdleCall}
use Rattle.post_steps.specs.declared.idle.IdleStage.TheVariants as scan
use Rattle.post_steps.specs.declared.writeback.WritebackCall.{WritebackCall}
use Rattle.post_steps.specs.declared.writeback.WritebackStage.TheVariants as visit
use Rattle.actor_steps.specs.declared.call.Call.{Call}
use Rattle.actor_steps.specs.declared.call.Call.TheVariants as call
use Rattle.actor_steps.specs.Workers.{IsBegun}
use Rattle.actor_steps.proofs.Places.{request_beyond}

module _ {D : Type 0} (size now : ℕ) (tag : Tag) (op : Op) (page : ℕ) (fresh : List ℕ) where
  pub begun_count : is_beyond size op ≡ true → IsBegun {D = D} size now tag op page fresh (call.Page counting)
  begun_count on = record {
    going = tt;
    fit = λ r few. refl;
    start = λ x r. refl;
    work = λ x r s n c o p t f. record {
      chain = c;
      request = ap is_maintenance o ∙ request_beyond size op on;
      beyond = (λ i. is_beyond (s i) (o i)) ∙ on;
      call = λ (off : true ≡ false). absurd (cc);
    };
  }

  pub begun_as : (w : Work) (p : Piece) → is_maintenance op ≡ false → is_beyond size op ≡ false
      → is_count w ≡ false
      → p.page.0 ≡ page → p.first + p.count ≤ 8 → Asks w p fresh op
      → IsBegun {D = D} size now tag op page fresh (call.Page (started w p tag now))
  begun_as w p request off piece at within asks = record {
    going = tt;
    fit = λ r few. (piece, within);
    start = λ x r. refl;
    work = λ x r s n c o q t f. record {
      chain = c;
      request = ap is_maintenance o ∙ request;
      beyond = (λ i. is_beyond (s i) (o i)) ∙ off ∙ sym piece;
      call = λ e. record {
        tag = t;
        page = at ∙ sym q;
        clock = sym n;
        asks = subst (λ (y : List ℕ × Op). Asks w p y.0 y.1) (λ i. (sym f i, sym o i)) asks;
      };
    };
  }

  pub begun_idle : (c : IdleCall) (age : Option ℕ) → 0 < size → c ≡ record {
    head = record { pages = size; now = now; age = age };
    stage = scan.Start;
  } → op ≡ Idle age → IsBegun {D = D} size now tag op page fresh (call.Idle c)
  begun_idle c age some start on =
      subst (λ (d : IdleCall). IsBegun {D = D} size now tag op page fresh (call.Idle d)) (sym start)
      (record {
        going = tt;
        fit = λ r few. some;
        start = λ x r. refl;
        work = λ x r s n c o p t f. record { pages = sym s; clock = sym n; op = o ∙ on };
      })

  pub begun_writeback : (c : WritebackCall D) (mode : Mode) → 0 < size → c ≡ record {
    head = record { pages = size; mode = mode };
    stage = visit.Start;
  } → op ≡ Writeback mode → IsBegun {D = D} size now tag op page fresh (call.Writeback c)
  begun_writeback c mode some start on =
      subst (λ (d : WritebackCall D). IsBegun {D = D} size now tag op page fresh (call.Writeback d))
      (sym start)
      (record {
        going = tt;
        fit = λ r few. some;
        start = λ x r. refl;
        work = λ x r s n c o p t f. record { pages = sym s; op = o ∙ on };
      })

  pub begun_compact : (c : CompactCall) → c.stage ≡ stage.Start → op ≡ Compact
      → IsBegun {D = D} size now tag op page fresh (call.Compact c)
  begun_compact c start on =
      subst (λ (s : CompactStage). IsBegun {D = D} size now tag op page fresh
      (call.Compact (record { stage = s }))) (sym start) (record {
        going = tt;
        fit = λ r few. few;
        start = λ x r. refl;
        work = λ x r s n c o p t f. record { chain_is = c; op = o ∙ on };
      })

-- for the operation that is the nr-th
pub begun_for : {D : Type 0} (size now : ℕ) (tag : Tag) (page : ℕ) (fresh : List ℕ) (ops : List Op) (nr : ℕ)
    (op : Op) → slice_get ops nr ≡ Some op → (c d : Call D) → d ≡ c
    → IsBegun size now tag op page fresh d → (o : Op) → slice_get ops nr ≡ Some o
    → IsBegun size now tag o page fresh c
begun_for {D} size now tag page fresh ops nr op at c d is begins o named =
    subst (λ (y : Op × Call D). IsBegun size now tag y.0 page fresh y.1)
    (λ i. ((let q : op ≡ o = (let h : Some op ≡ Some o = sym at ∙ named in cc) in q) i, is i)) begins
