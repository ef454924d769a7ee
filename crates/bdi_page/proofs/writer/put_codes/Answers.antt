-- One code more is written, and at the end all are.
use Rattle.std.proofs.Common.{◌≡◌, ℕ, ◌+◌, ◌∷◌, [], ◌++◌, ◌<◌, List, length, take, drop, get_or, set, sym, ap, ◌∙◌, arith}
use Rattle.std.proofs.lemmas.List.{take_all, drop_all, append-nil, take-append-drop, take_more, take_more_set, drop-set-lt, length-set}
use Rattle.bdi_page.proofs.writer.put_codes.Goals as goal

-- the items of a vector whose slice was written
refilled : (xs ws : List ℕ) → length ws ≡ length xs
    → take (length xs) (ws ++ drop (length ws) xs) ≡ ws
refilled xs ws e =
    ap (λ l. take (length xs) (ws ++ l)) (drop_all (length ws) xs (omega arith))
    ∙ ap (take (length xs)) (append-nil ws)
    ∙ take_all (length xs) ws (omega arith)

pub loop-k-preserved : goal.loop-k-preserved
loop-k-preserved c =
    let xs = c.loop-k.out.items in
    let k = c.loop-k.k in
    let code = get_or c.args.codes.now k 0 in
    let here = c.loop-k.invariant in
    let lt : k < length xs = omega (arith, here.len) in
    let ws = set c.deref_mut.result.now k code in
    let now : ws ≡ set xs k code = ap (λ l. set l k code) c.deref_mut.ensures.value in
    let new : take (length xs) (ws ++ drop (length ws) xs) ≡ set xs k code =
    refilled xs ws (ap length now ∙ length-set xs k code) ∙ now in
    record {
      len = ap length new ∙ length-set xs k code ∙ here.len;
      front = ap (take (k + 1)) new ∙ take_more_set xs k code lt
          ∙ ap (λ l. l ++ code ∷ []) here.front
          ∙ sym (take_more c.args.codes.now k 0 (omega arith));
      back = ap (drop 32) new ∙ drop-set-lt 32 xs k code c.loop-k-test.true ∙ here.back;
    }

pub returns : goal.returns
returns c =
    let xs = c.loop-k.out.items in
    let here = c.loop-k.invariant in
    let all : c.loop-k.k ≡ 32 = omega arith in
    sym (take-append-drop 32 xs)
    ∙ ap (λ l. l ++ drop 32 xs) (ap (λ n. take n xs) (sym all) ∙ here.front
    ∙ take_all c.loop-k.k c.args.codes.now (omega arith))
    ∙ ap (λ l. c.args.codes.now ++ l) here.back
