use Rattle.std.proofs.Common.{◌≡◌, ℕ, ◌+◌, ◌-◌, List, [], ◌++◌, length, take, drop, sym, ap, ◌∙◌, subst, arith, length-drop}
use Rattle.std.specs.Io.KnownBytes.{Appends}
use Rattle.std.proofs.lemmas.List.{append-nil, take-append-drop, take_rest}
use Rattle.std.proofs.Math.Seq.{take-add}
use Rattle.std.proofs.KnownBytes.{Appends-trans}
use Rattle.job_session.proofs.io.send.Goals as goal

pub returns-in_err-at-clause-some : goal.returns-in_err-at-clause-some
returns-in_err-at-clause-some g c =
    let at : ℕ = c.loop-at.at in
    let P : List ℕ → Type 0 = λ xs. Appends (g.K.Sink.written c.args.out.now)
    (g.K.Sink.written c.send_some.new.out) xs in record {
      sent = take c.loop-at.at c.args.bytes.now;
      rest = drop c.loop-at.at c.args.bytes.now;
      parts = sym (take-append-drop c.loop-at.at c.args.bytes.now);
      appended = subst P (append-nil (take at c.args.bytes.now))
          (Appends-trans _ _ _ (take at c.args.bytes.now) [] c.loop-at.invariant.3
          c.in_err-at.ensures.none);
    }

-- some more of what is left
taken_more : (bytes : List ℕ) (at n : ℕ)
    → take at bytes ++ take n (take (length bytes - at) (drop at bytes)) ≡ take (at + n) bytes
taken_more bytes at n = ap (λ (xs : List ℕ). take at bytes ++ take n xs) (take_rest bytes at)
    ∙ sym (take-add at n bytes)

pub loop-at-preserved : goal.loop-at-preserved
loop-at-preserved g c =
    let at : ℕ = c.loop-at.at in
    let n : ℕ = c.in_ok-at.field-0 in
    let fits : length (take (length c.args.bytes.now - at) (drop at c.args.bytes.now))
    ≡ length c.args.bytes.now - at =
    ap length (take_rest c.args.bytes.now at) ∙ length-drop at c.args.bytes.now in
    let P : List ℕ
    → Type 0 = λ xs. Appends (g.K.Sink.written c.args.out.now)
    (g.K.Sink.written c.send_some.new.out) xs in (
      omega (arith, fits, c.in_ok-at.ensures.some, c.loop-at.invariant.0),
      omega (arith, c.loop-at.invariant.1, c.send_some.ensures.later),
      λ was. c.send_some.ensures.stays (c.loop-at.invariant.2 was),
      subst P (taken_more c.args.bytes.now at n)
          (Appends-trans (g.K.Sink.written c.args.out.now) (g.K.Sink.written c.loop-at.out)
          (g.K.Sink.written c.send_some.new.out) (take at c.args.bytes.now) _
          c.loop-at.invariant.3 c.in_ok-at.ensures.sent),
    )
