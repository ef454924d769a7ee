-- The tree has room for the place, whose leaf has the rank, and the other leaves stay.
use Rattle.std.proofs.Common.{◌≡◌, ◌<◌, length, ap, ◌∙◌, arith}
use Rattle.tournament.specs.Tree.{IsTournament, node}
use Rattle.tournament.proofs.TreeLaws.{written, push_placed, at_len, at_half}
use Rattle.tournament.proofs.Tournament.push.Goals as goal
use Rattle.tournament.proofs.Tournament.push.Goals.{then-place-room+else-room-ge-MOST+in_ok-nodes, else-place-room}

pub invariant_of-self-2 : goal.invariant_of-self-2
invariant_of-self-2 c =
    let room = c.if-place-room.room in
    let inside = c.if-place-room.self-inside in
    let place = c.len-place.result in
    let is = c.len-place.ensures ∙ c.self.inside.ranks.ok.0 in
    let long = c.len-room.ensures ∙ c.self.inside.nodes.ok.0 in
    let had = c.self.invariant in
    let has : IsTournament room inside.ranks.items inside.nodes.items
    × (place < room) × (place ≡ length inside.ranks.items) =
    elim c.if-place-room.branch [
      | then-place-room+else-room-ge-MOST+in_ok-nodes w ↦
          rw (w.room-is, w.self-inside-is) (
            rw w.deref.ensures.value at w.in_ok-nodes.ensures,
            omega (arith, w.if-place-room.true),
            is,
          )
      | else-place-room w ↦
          rw (w.room-is, w.self-inside-is) (
            at_len _ _ _ had long,
            omega (arith, is, had.fits, w.if-place-room.false, long),
            is,
          )
    ] in
    rw (written inside.nodes.len c.put.new.nodes inside.nodes.items
    (omega (arith, inside.nodes.ok, c.put.ensures.len, has.0.long)))
    (rw c.in_ok-push.ensures.items
    (at_half _ _ _ (push_placed _ _ _ _ inside.nodes.items _ has.0 has.1 has.2 c.put.ensures.len
    c.put.ensures.tree (c.put.ensures.here ∙ c.leaf.ensures)
    (λ k leaf high other. c.put.ensures.others k leaf high other
    ∙ ap (λ ns. node ns k) c.deref_mut.ensures.value))))
