-- The chunks that are appended are the sectors.
use Rattle.std.proofs.Common.{◌≡◌, ℕ, ◌+◌, ◌-◌, ◌/◌, List, ◌++◌, length, take, drop, ap, ◌∙◌, arith}
use Rattle.std.specs.Simd.{first_chunks}
use Rattle.actor_steps.proofs.Sectors.{chunks_are}
use Rattle.actor_steps.proofs.work.append_sectors.Goals as goal

pub returns-clause-items : goal.returns-clause-items
returns-clause-items c =
    let page = c.args.page.now in
    let first = c.args.first in
    let count = c.args.count in
    let n : length page / 512 ≡ 8 = ap (λ k. k / 512) c.bytes.ensures.size in
    let here = λ (xs : List (List ℕ)). take count (drop first xs) in
    let size : first + count - first ≡ count = omega arith in
    (rw c.unwrap.ensures at c.extend_from_slice.ensures.items)
    ∙ ap (λ (xs : List (List ℕ)). c.args.sectors.now.items ++ xs)
    (ap (λ k. take k (drop first c.as_chunks.result.0.now)) size
    ∙ ap here (c.as_chunks.ensures.front
    ∙ ap (λ (xs : List ℕ). first_chunks 512 (length xs / 512) xs) c.bytes.ensures.bytes
    ∙ ap (λ k. first_chunks 512 k page) n)
    ∙ chunks_are count first 8 page (omega arith))
