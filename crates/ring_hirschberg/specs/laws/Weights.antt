-- Weights of messages: a node's messages weighed against those that it took, and those that one
-- neighbour took weighed against those that the other sent. Nothing here knows the algorithm.
use Rattle.std.specs.Prelude.{◌≡◌, ◌+◌, ◌*◌, ◌<◌, ◌≤◌, ℕ, zero, suc, true, false, if◌then◌else◌, List, [], ◌∷◌, ◌++◌, length, Option, Some, None, slice_get, refl}
use Rattle.std.proofs.Common.{◌∙◌, ap, arith, append-nil}
use Rattle.ring_id.specs.declared.side.Side.{Side}
use Rattle.ring_id.specs.Sides.{other, same_side}
use Rattle.ring_roster.specs.Ring.{neighbour}
use Rattle.ring_election.specs.Tables.{Table, to_side}
use Rattle.ring_election.specs.Traces.{listed, sent_after, sent_from, taken_from}
use Rattle.ring_election.specs.Families.{IsComplete, IsSound}
use Rattle.ring_election.proofs.Rings.{neighbour-below, neighbour-neighbour}
use Rattle.ring_hirschberg.specs.laws.Walks.{other_other}
use Rattle.ring_hirschberg.specs.laws.Receipts.{EachReceipt}

-- the sum of the weights of some messages
abbrev pub weight : {M : Type 0} → (M → ℕ) → List M → ℕ
weight f [] = 0
weight f (m ∷ ms) = f m + weight f ms

pub weight-append : {M : Type 0} (f : M → ℕ) (ms ns : List M) → weight f (ms ++ ns) ≡ weight f ms + weight f ns
weight-append f [] ns = omega arith
weight-append f (m ∷ ms) ns = omega (arith, weight-append f ms ns)

-- a message weighs no more than the list that it is in
pub weight-at : {M : Type 0} (f : M → ℕ) (ms : List M) (k : ℕ) (m : M) → slice_get ms k ≡ Some m → f m ≤ weight f ms
weight-at f [] k m there = absurd (cc)
weight-at f (n ∷ ms) zero m there = let e : f n ≡ f m = ap f (cc) in omega arith
weight-at f (n ∷ ms) (suc k) m there = omega (arith, weight-at f ms k m there)

-- the sum of two weights is a weight
pub weight-plus : {M : Type 0} (f g : M → ℕ) (ms : List M) → weight (λ m. f m + g m) ms ≡ weight f ms + weight g ms
weight-plus f g [] = refl
weight-plus f g (m ∷ ms) = omega (arith, weight-plus f g ms)

-- if each message weighs less, so do all together
pub weight-less : {M : Type 0} (f g : M → ℕ) (ms : List M) → ((m : M) → f m ≤ g m) → weight f ms ≤ weight g ms
weight-less f g [] less = omega arith
weight-less f g (m ∷ ms) less = omega (arith, less m, weight-less f g ms less)

-- if no message weighs anything, neither do all together
pub weight-zero : {M : Type 0} (ms : List M) → weight (λ m. 0) ms ≡ 0
weight-zero [] = refl
weight-zero (m ∷ ms) = omega (arith, weight-zero ms)

-- if each weighs at most c, a list of them weighs at most its length times c
pub weight-bound : {M : Type 0} (f : M → ℕ) (c : ℕ) (ms : List M) → ((k : ℕ) (m : M) → slice_get ms k ≡ Some m → f m ≤ c) → weight f ms ≤ length ms * c
weight-bound f c [] each = omega arith
weight-bound f c (m ∷ ms) each = omega (arith, each 0 m refl, weight-bound f c ms (λ k n there. each (suc k) n there))

-- one receipt, weighed if it came from this side
abbrev pub by_side : {M : Type 0} → (M → ℕ) → Side → Side → M → ℕ
by_side f side from m = if same_side side from then f m else 0

pub weight-taken : {M : Type 0} (f : M → ℕ) (side from : Side) (m : M) (receipts : List (Side × M)) →
    weight f (taken_from side ((from, m) ∷ receipts)) ≡ by_side f side from m + weight f (taken_from side receipts)
weight-taken f side from m receipts =
    elim (same_side side from) as (λ same. weight f (if same then m ∷ taken_from side receipts else taken_from side receipts) ≡ (if same then f m else 0) + weight f (taken_from side receipts)) [
      | true ↦ refl
      | false ↦ omega arith
    ]

-- the weight of the message, if there is one
abbrev pub weight_of : {M : Type 0} → (M → ℕ) → Option M → ℕ
weight_of f None = 0
weight_of f (Some m) = f m

pub weight-listed : {M : Type 0} (f : M → ℕ) (first : Option M) (rest : List M) → weight f (listed first ++ rest) ≡ weight_of f first + weight f rest
weight-listed f None rest = omega arith
weight-listed f (Some m) rest = refl

-- The messages that a node sends to side `a` are weighed by f, those to side `b` by g. Those that
-- it took from side `c` are weighed by h, those from side `d` by l. A relation that holds for each
-- receipt holds for any number of them.
module _ {S M : Type 0} (t : Table S M) (I : S → Type 0) (P : Side → M → Type 0) (keeps : (s : S) (from : Side) (m : M) → I s → P from m → I (t.next s from m)) (f g h l : M → ℕ) (a b c d : Side) where
  pub sent_weight-less :
      ((s : S) (from : Side) (m : M) → I s → P from m → weight_of f (to_side a (t.next_sends s from m)) + weight_of g (to_side b (t.next_sends s from m)) ≤ by_side h c from m + by_side l d from m) →
      (s : S) (receipts : List (Side × M)) → I s → EachReceipt P receipts →
      weight f (sent_from t a s receipts) + weight g (sent_from t b s receipts) ≤ weight h (taken_from c receipts) + weight l (taken_from d receipts)
  sent_weight-less less s [] is each = omega arith
  sent_weight-less less s (r ∷ receipts) is each =
      let next : S = t.next s r.0 r.1 in
      rw (
        weight-listed f (to_side a (t.next_sends s r.0 r.1)) (sent_from t a next receipts),
        weight-listed g (to_side b (t.next_sends s r.0 r.1)) (sent_from t b next receipts),
        weight-taken h c r.0 r.1 receipts,
        weight-taken l d r.0 r.1 receipts,
      )
      (omega (arith, less s r.0 r.1 is each.0, sent_weight-less less next receipts (keeps s r.0 r.1 is each.0) each.1))

  pub sent_weight-same :
      ((s : S) (from : Side) (m : M) → I s → P from m → weight_of f (to_side a (t.next_sends s from m)) + weight_of g (to_side b (t.next_sends s from m)) ≡ by_side h c from m + by_side l d from m) →
      (s : S) (receipts : List (Side × M)) → I s → EachReceipt P receipts →
      weight f (sent_from t a s receipts) + weight g (sent_from t b s receipts) ≡ weight h (taken_from c receipts) + weight l (taken_from d receipts)
  sent_weight-same same s [] is each = refl
  sent_weight-same same s (r ∷ receipts) is each =
      let next : S = t.next s r.0 r.1 in
      rw (
        weight-listed f (to_side a (t.next_sends s r.0 r.1)) (sent_from t a next receipts),
        weight-listed g (to_side b (t.next_sends s r.0 r.1)) (sent_from t b next receipts),
        weight-taken h c r.0 r.1 receipts,
        weight-taken l d r.0 r.1 receipts,
      )
      (omega (arith, same s r.0 r.1 is each.0, sent_weight-same same next receipts (keeps s r.0 r.1 is each.0) each.1))

-- Two neighbours: position i and the next one to a side. In a sound family the messages that one
-- took from the other are a prefix of those sent. In a complete family they are all of them.
module _ {S M : Type 0} (t : Table S M) (ring : List ℕ) (family : ℕ → List (Side × M)) (i : ℕ) (side : Side) (below : i < length ring) where
  abbrev ahead : ℕ
  ahead = neighbour (length ring) i side

  came_from : neighbour (length ring) ahead (other side) ≡ i
  came_from = neighbour-neighbour (length ring) i side below

  -- the messages that the next position took from here are those that position i sent to the side
  sent_behind : (sender : ℕ) → sent_after t sender (other (other side)) (family (neighbour (length ring) ahead (other side))) ≡ sent_after t sender side (family i)
  sent_behind sender =
      ap (λ to. sent_after t sender to (family (neighbour (length ring) ahead (other side)))) (other_other side) ∙
      ap (λ j. sent_after t sender side (family j)) came_from

  first_part : (taken rest sent : List M) (f : M → ℕ) → taken ++ rest ≡ sent → weight f taken ≤ weight f sent
  first_part taken rest sent f e = omega (arith, ap (weight f) e, weight-append f taken rest)

  -- the messages taken from ahead weigh no more than those sent there
  pub from_ahead : (f : M → ℕ) (sender : ℕ) → IsSound t ring family → slice_get ring ahead ≡ Some sender →
      weight f (taken_from side (family i)) ≤ weight f (sent_after t sender (other side) (family ahead))
  from_ahead f sender sound there =
      let part = sound.taken i side sender below there in
      first_part (taken_from side (family i)) part.0 (sent_after t sender (other side) (family ahead)) f part.1

  -- the messages that the position ahead took from this one
  pub from_behind : (f : M → ℕ) (sender : ℕ) → IsSound t ring family → slice_get ring i ≡ Some sender →
      weight f (taken_from (other side) (family ahead)) ≤ weight f (sent_after t sender side (family i))
  from_behind f sender sound there =
      let part = sound.taken ahead (other side) sender (neighbour-below (length ring) i side below) (ap (slice_get ring) came_from ∙ there) in
      first_part (taken_from (other side) (family ahead)) part.0 (sent_after t sender side (family i)) f (part.1 ∙ sent_behind sender)

  -- the same in a complete family
  pub all_ahead : (sender : ℕ) → IsComplete t ring family → slice_get ring ahead ≡ Some sender →
      taken_from side (family i) ≡ sent_after t sender (other side) (family ahead)
  all_ahead sender complete there = complete.taken i side sender below there

  pub all_behind : (sender : ℕ) → IsComplete t ring family → slice_get ring i ≡ Some sender →
      taken_from (other side) (family ahead) ≡ sent_after t sender side (family i)
  all_behind sender complete there =
      complete.taken ahead (other side) sender (neighbour-below (length ring) i side below) (ap (slice_get ring) came_from ∙ there) ∙ sent_behind sender

-- a complete family is sound
pub complete_sound : {S M : Type 0} (t : Table S M) (ring : List ℕ) (family : ℕ → List (Side × M)) → IsComplete t ring family → IsSound t ring family
complete_sound t ring family complete = record {
  taken = λ i from sender below there. ([], append-nil (taken_from from (family i)) ∙ complete.taken i from sender below there);
}
