-- A tree stays one as a leaf's path is renewed, and its root is the winner.
use Rattle.std.proofs.Common.{◌≡◌, ◌≢◌, ℕ, zero, suc, ◌+◌, ◌-◌, ◌*◌, ◌/◌, ◌<◌, ◌≤◌, ◌⊎◌, List, ◌++◌, ◌∷◌, [], length, take, drop, slice_index, refl, sym, ◌∙◌, ap, subst, inl, inr, arith, get_or-set_same, get_or-set_other}
use Rattle.std.proofs.Math.ListN.{set, length-set}
use Rattle.std.proofs.Math.Seq.{take-append_seam}
use Rattle.std.proofs.lemmas.List.{length-take-le, get_or-take, length_push, get_or_push, get_or_append_left}
use Rattle.std.proofs.lemmas.Bool.{cases_eq, cases_lt}
use Rattle.tournament.specs.declared.tree.Node.{Node}
use Rattle.tournament.specs.Tree.{Beats, HasSameFirst, HasSameLast, IsBetter, IsTree, IsTreeBut, node, leaf, spare, IsTournament}
use Rattle.tournament.specs.Winner.{IsWinner, IsLastWinner}

pub node-set_same : (nodes : List Node) (p : ℕ) (n : Node) → p < length nodes
    → node (set nodes p n) p ≡ n
node-set_same nodes p n low = rw get_or-set_same refl

pub node-set_other : (nodes : List Node) (p q : ℕ) (n : Node) → q ≢ p
    → node (set nodes p n) q ≡ node nodes q
node-set_other nodes p q n other = rw get_or-set_other refl

-- one node higher
pub climb : (room at up : ℕ) (nodes : List Node) (n : Node) → IsTreeBut room nodes at
    → length nodes ≡ 2 * room
    → 1 ≤ up → up < room → (2 * up ≡ at) ⊎ (2 * up + 1 ≡ at)
    → IsBetter n (node nodes (2 * up)) (node nodes (2 * up + 1))
    → IsTreeBut room (set nodes up n) up
climb room at up nodes n tree long some low is better p some_p low_p left right =
    elim (cases_eq p up) [
      | inl e ↦
          let l : 2 * up ≢ up = omega arith in
          let r : 2 * up + 1 ≢ up = omega arith in
          let within : up < length nodes = omega arith in
          rw e (rw (
            node-set_same nodes up n within,
            node-set_other nodes up (2 * up) n l,
            node-set_other nodes up (2 * up + 1) n r,
          ) better)
      | inr other ↦
          rw (
            node-set_other nodes up p n other,
            node-set_other nodes up (2 * p) n left,
            node-set_other nodes up (2 * p + 1) n right,
          )
          (tree p some_p low_p (λ e. elim is [ inl f ↦ other (omega arith) | inr f ↦ omega arith ])
          (λ e. elim is [ inl f ↦ omega arith | inr f ↦ other (omega arith) ]))
    ]

-- the room is half of the nodes
pub at_len : (n : ℕ) (ranks : List ℕ) (nodes : List Node)
    → IsTournament (length nodes / 2) ranks nodes → n ≡ length nodes
    → IsTournament (n / 2) ranks nodes
at_len n ranks nodes t is = subst (λ k. IsTournament (k / 2) ranks nodes) (sym is) t

pub at_half : (room : ℕ) (ranks : List ℕ) (nodes : List Node) → IsTournament room ranks nodes
    → IsTournament (length nodes / 2) ranks nodes
at_half room ranks nodes t =
    let half : room ≡ length nodes / 2 = omega (arith, t.long) in
    subst (λ r. IsTournament r ranks nodes) half t

-- ---- one place changes

-- a list that was written as a whole is what was written
pub written : (n : ℕ) (new old : List Node) → n ≡ length new
    → take n (new ++ drop (length new) old) ≡ new
written n new old is = ap (λ k. take k (new ++ drop (length new) old)) is
    ∙ take-append_seam new (drop (length new) old)

-- the leaves are right where the one of a place is, and the others have stayed
pub placed : (room place : ℕ) (ranks ranks' : List ℕ) (nodes new : List Node)
    → IsTournament room ranks nodes
    → length ranks' ≤ room → length new ≡ 2 * room → IsTree room new
    → ((k : ℕ) → room ≤ k → k < 2 * room → (k ≡ room + place → ⊥) → node new k ≡ node nodes k)
    → (place < length ranks' → node new (room + place) ≡ leaf (slice_index ranks' place) place)
    → (length ranks' ≤ place → node new (room + place) ≡ spare place)
    → ((k : ℕ) → k ≢ place → k < length ranks' → (k < length ranks)
    × (slice_index ranks' k ≡ slice_index ranks k))
    → ((k : ℕ) → k ≢ place → length ranks' ≤ k → length ranks ≤ k)
    → IsTournament room ranks' new
placed room place ranks ranks' nodes new t fits long tree others here gone stay past = record {
  long = long;
  fits = fits;
  small = t.small;
  tree = tree;
  leaves = λ i low.
      elim (cases_eq i place) [
        | inl e ↦ let within : place < length ranks' = omega arith in rw e (here within)
        | inr other ↦
            let was = stay i other low in
            others (room + i) (omega arith) (omega arith) (λ e. other (omega arith))
            ∙ t.leaves i was.0 ∙ ap (λ r. leaf r i) (sym was.1)
      ];
  spares = λ i high low.
      elim (cases_eq i place) [
        | inl e ↦ let behind : length ranks' ≤ place = omega arith in rw e (gone behind)
        | inr other ↦
            others (room + i) (omega arith) (omega arith) (λ e. other (omega arith))
            ∙ t.spares i (past i other high) low
      ];
}

pub set_placed : (room place rank : ℕ) (ranks : List ℕ) (nodes new : List Node)
    → IsTournament room ranks nodes
    → place < length ranks → length new ≡ 2 * room → IsTree room new
    → node new (room + place) ≡ leaf rank place
    → ((k : ℕ) → room ≤ k → k < 2 * room → (k ≡ room + place → ⊥) → node new k ≡ node nodes k)
    → IsTournament room (set ranks place rank) new
set_placed room place rank ranks nodes new t low long tree here others =
    placed room place ranks (set ranks place rank) nodes new t (rw length-set t.fits)
    long tree others
    (λ within. rw get_or-set_same here)
    (λ behind. absurd (omega (arith, length-set ranks place rank)))
    (λ k other within. (omega (arith, length-set ranks place rank), rw get_or-set_other refl))
    (λ k other behind. omega (arith, length-set ranks place rank))

pub pop_placed : (room place : ℕ) (ranks : List ℕ) (nodes new : List Node)
    → IsTournament room ranks nodes
    → place + 1 ≡ length ranks → length new ≡ 2 * room → IsTree room new
    → node new (room + place) ≡ spare place
    → ((k : ℕ) → room ≤ k → k < 2 * room → (k ≡ room + place → ⊥) → node new k ≡ node nodes k)
    → IsTournament room (take place ranks) new
pop_placed room place ranks nodes new t last long tree here others =
    let short : length (take place ranks) ≡ place = length-take-le place ranks (omega arith) in
    placed room place ranks (take place ranks) nodes new t (omega (arith, t.fits)) long tree others
    (λ within. absurd (omega arith))
    (λ behind. here)
    (λ k other within. (omega arith, get_or-take place ranks k 0 (omega arith)))
    (λ k other behind. omega arith)

pub push_placed : (room place rank : ℕ) (ranks : List ℕ) (nodes new : List Node)
    → IsTournament room ranks nodes
    → place < room → place ≡ length ranks → length new ≡ 2 * room → IsTree room new
    → node new (room + place) ≡ leaf rank place
    → ((k : ℕ) → room ≤ k → k < 2 * room → (k ≡ room + place → ⊥) → node new k ≡ node nodes k)
    → IsTournament room (ranks ++ rank ∷ []) new
push_placed room place rank ranks nodes new t low last long tree here others =
    let longer : length (ranks ++ rank ∷ []) ≡ length ranks + 1 = length_push ranks rank in
    placed room place ranks (ranks ++ rank ∷ []) nodes new t (omega arith) long tree others
    (λ within. rw (get_or_push ranks rank 0 place (sym last)) here)
    (λ behind. absurd (omega arith))
    (λ k other within. (omega arith, get_or_append_left ranks (rank ∷ []) 0 k (omega arith)))
    (λ k other behind. omega arith)

-- ---- the root

beats_itself : (a : Node) → Beats a a
beats_itself a = inr (refl, omega arith, omega arith)

beats_along : (a b c : Node) → Beats a b → Beats b c → Beats a c
beats_along a b c ab bc = grind arith

root_beats_below : (n room : ℕ) (nodes : List Node) → IsTree room nodes → (q : ℕ) → q ≤ n → 1 ≤ q
    → q < 2 * room
    → Beats (node nodes 1) (node nodes q)
root_beats_below zero room nodes tree q small some low = absurd (omega arith)
root_beats_below (suc n) room nodes tree q small some low =
    elim (cases_eq q 1) [
      | inl e ↦ rw e (beats_itself (node nodes 1))
      | inr other ↦
          let half : (q ≡ 2 * (q / 2)) ⊎ (q ≡ 2 * (q / 2) + 1) =
          elim (cases_eq q (2 * (q / 2))) [ inl e ↦ inl e | inr odd ↦ inr (omega arith) ] in
          let up : Beats (node nodes 1) (node nodes (q / 2)) =
          root_beats_below n room nodes tree (q / 2) (omega arith) (omega arith) (omega arith) in
          let step : IsBetter (node nodes (q / 2)) (node nodes (2 * (q / 2)))
          (node nodes (2 * (q / 2) + 1)) =
          tree (q / 2) (omega arith) (omega arith) in
          beats_along (node nodes 1) (node nodes (q / 2)) (node nodes q) up
          (elim half [
            | inl e ↦ subst (λ k. Beats (node nodes (q / 2)) (node nodes k)) (sym e) step.over_left
            | inr e ↦ subst (λ k. Beats (node nodes (q / 2)) (node nodes k)) (sym e) step.over_right
          ])
    ]

-- what a node has from one of the two below it, it has from some leaf
leaf_below : (Same : Node → Node → Type 0) (n room : ℕ) (nodes : List Node)
    → ((a : Node) → Same a a) → ((a b c : Node) → Same a b → Same b c → Same a c)
    → ((p : ℕ) → 1 ≤ p → p < room → Same (node nodes p) (node nodes (2 * p))
    ⊎ Same (node nodes p) (node nodes (2 * p + 1)))
    → (q : ℕ) → 2 * room ≤ q + n → 1 ≤ q → q < 2 * room → (i : ℕ) × (i < room)
    × Same (node nodes q) (node nodes (room + i))
leaf_below Same zero room nodes itself along step q near some low = absurd (omega arith)
leaf_below Same (suc n) room nodes itself along step q near some low =
    elim (cases_lt q room) [
      | inl inner ↦
          elim (step q some inner) [
            | inl e ↦
                let rest : (i : ℕ) × (i < room) × Same (node nodes (2 * q))
                (node nodes (room + i)) =
                leaf_below Same n room nodes itself along step (2 * q) (omega arith) (omega arith)
                (omega arith) in (
                  rest.0,
                  rest.1,
                  along (node nodes q) (node nodes (2 * q))
                      (node nodes (room + rest.0)) e rest.2,
                )
            | inr e ↦
                let rest : (i : ℕ) × (i < room) × Same (node nodes (2 * q + 1))
                (node nodes (room + i)) =
                leaf_below Same n room nodes itself along step (2 * q + 1) (omega arith)
                (omega arith) (omega arith) in (
                  rest.0,
                  rest.1,
                  along (node nodes q) (node nodes (2 * q + 1))
                      (node nodes (room + rest.0)) e rest.2,
                )
          ]
      | inr leaf_here ↦
          let e : q ≡ room + (q - room) = omega arith in (
            q - room,
            omega arith,
            subst (λ k. Same (node nodes q) (node nodes k)) e
                (itself (node nodes q)),
          )
    ]

-- the root has its first place from a leaf
root_first : (room : ℕ) (ranks : List ℕ) (nodes : List Node) → IsTournament room ranks nodes
    → 0 < length ranks
    → (i : ℕ) × (i < room) × HasSameFirst (node nodes 1) (node nodes (room + i))
root_first room ranks nodes t some =
    leaf_below HasSameFirst (2 * room) room nodes (λ a. (refl, refl))
    (λ a b c ab bc. (ab.0 ∙ bc.0, ab.1 ∙ bc.1))
    (λ p one low. (t.tree p one low).first_is) 1 (omega arith) (omega arith) (omega (arith, t.fits))

-- and its last place
root_last : (room : ℕ) (ranks : List ℕ) (nodes : List Node) → IsTournament room ranks nodes
    → 0 < length ranks
    → (i : ℕ) × (i < room) × HasSameLast (node nodes 1) (node nodes (room + i))
root_last room ranks nodes t some =
    leaf_below HasSameLast (2 * room) room nodes (λ a. (refl, refl))
    (λ a b c ab bc. (ab.0 ∙ bc.0, ab.1 ∙ bc.1))
    (λ p one low. (t.tree p one low).last_is) 1 (omega arith) (omega arith) (omega (arith, t.fits))

-- the root beats the leaf of each rank
root_over : (room : ℕ) (ranks : List ℕ) (nodes : List Node) → IsTournament room ranks nodes
    → (k : ℕ) → k < length ranks → Beats (node nodes 1) (leaf (slice_index ranks k) k)
root_over room ranks nodes t k low =
    subst (λ b. Beats (node nodes 1) b) (t.leaves k low)
    (root_beats_below (2 * room) room nodes t.tree (room + k) (omega (arith, t.fits))
    (omega (arith, t.fits)) (omega (arith, t.fits)))

-- the root's first place is the winner of the ranks
pub root_wins : (room : ℕ) (ranks : List ℕ) (nodes : List Node) → IsTournament room ranks nodes
    → 0 < length ranks
    → IsWinner ranks (node nodes 1).first
root_wins room ranks nodes t some =
    let at : (i : ℕ) × (i < room) × HasSameFirst (node nodes 1) (node nodes (room + i)) =
    root_first room ranks nodes t some in
    let over : (k : ℕ) → k < length ranks
    → Beats (node nodes 1) (leaf (slice_index ranks k) k) = root_over room ranks nodes t in
    elim (cases_lt at.0 (length ranks)) [
      | inl low ↦
          let here : node nodes (room + at.0) ≡ leaf (slice_index ranks at.0) at.0 =
          t.leaves at.0 low in
          let rank : (node nodes 1).rank ≡ slice_index ranks at.0 = at.2.0
          ∙ ap (λ n. n.rank) here in
          let first : (node nodes 1).first ≡ at.0 = at.2.1 ∙ ap (λ n. n.first) here in
          rw first (record {
            within = low;
            highest = λ k within. elim (over k within)
                [ inl less ↦ omega arith | inr same ↦ omega arith ];
            first = λ k before. elim (over k (omega arith))
                [ inl less ↦ omega arith | inr same ↦ absurd (omega arith) ];
          })
      | inr past ↦
          let here : node nodes (room + at.0) ≡ spare at.0 = t.spares at.0 past at.1 in
          let rank : (node nodes 1).rank ≡ 0 = at.2.0 ∙ ap (λ n. n.rank) here in
          let first : (node nodes 1).first ≡ at.0 = at.2.1 ∙ ap (λ n. n.first) here in
          absurd (elim (over 0 some) [ inl less ↦ omega arith | inr same ↦ omega arith ])
    ]

-- the root's last place is the last winner
pub root_wins_last : (room : ℕ) (ranks : List ℕ) (nodes : List Node)
    → IsTournament room ranks nodes → 0 < length ranks
    → IsLastWinner ranks (node nodes 1).last
root_wins_last room ranks nodes t some =
    let at : (i : ℕ) × (i < room) × HasSameLast (node nodes 1) (node nodes (room + i)) =
    root_last room ranks nodes t some in
    let over : (k : ℕ) → k < length ranks
    → Beats (node nodes 1) (leaf (slice_index ranks k) k) = root_over room ranks nodes t in
    elim (cases_lt at.0 (length ranks)) [
      | inl low ↦
          let here : node nodes (room + at.0) ≡ leaf (slice_index ranks at.0) at.0 =
          t.leaves at.0 low in
          let rank : (node nodes 1).rank ≡ slice_index ranks at.0 = at.2.0
          ∙ ap (λ n. n.rank) here in
          let last : (node nodes 1).last ≡ at.0 = at.2.1 ∙ ap (λ n. n.last) here in
          rw last (record {
            within = low;
            highest = λ k within. elim (over k within)
                [ inl less ↦ omega arith | inr same ↦ omega arith ];
            last = λ k after within. elim (over k within)
                [ inl less ↦ omega arith | inr same ↦ absurd (omega arith) ];
          })
      | inr past ↦
          let here : node nodes (room + at.0) ≡ spare at.0 = t.spares at.0 past at.1 in
          let rank : (node nodes 1).rank ≡ 0 = at.2.0 ∙ ap (λ n. n.rank) here in
          let last : (node nodes 1).last ≡ 0 = at.2.1 ∙ ap (λ n. n.last) here in
          let none : (k : ℕ) → k < length ranks → (slice_index ranks k ≡ 0) × (k ≡ 0) =
          λ k within. elim (over k within) [
            | inl less ↦ absurd (omega arith)
            | inr same ↦
                (omega arith, omega arith)
          ] in
          rw last (record {
            within = some;
            highest = λ k within. omega (arith, (none k within).0);
            last = λ k after within. absurd (omega (arith, (none k within).1));
          })
    ]
