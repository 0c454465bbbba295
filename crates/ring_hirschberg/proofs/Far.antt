-- How many of a member's tokens cross the links away from it: those of each phase cross no more links
-- than they have hops.
use Rattle.std.proofs.Common.{◌≡◌, ◌≢◌, ◌+◌, ◌^◌, ◌<◌, ◌≤◌, ◌⊎◌, ◌==◌, ℕ, zero, suc, cond, min, nat_le, List, [], ◌∷◌, length, Some, slice_get, ap, inl, inr, arith}
use Rattle.std.proofs.lemmas.Bool.Decides.{nat_tests}
use Rattle.std.proofs.lemmas.Nat.{pow_pos}
use Rattle.std.proofs.lemmas.Option.{slice_get_within}
use Rattle.ring_id.specs.declared.side.Side.{Side}
use Rattle.ring_id.specs.Sides.{other}
use Rattle.ring_roster.specs.Ring.{IsRing}
use Rattle.ring_election.specs.Families.{IsSound}
use Rattle.ring_election.specs.Tables.{to_side}
use Rattle.ring_election.specs.Traces.{sent_after, sent_from, state_after, state_from, taken_from}
use Rattle.ring_election.proofs.Sums.{sum_to, sum_to-constant, sum_to-less, sum_to-same, sum_to-swap}
use Rattle.ring_hirschberg.specs.declared.hirschberg.HirschbergMsg.{HirschbergMsg}
use Rattle.ring_hirschberg.specs.declared.hirschberg.HirschbergMsg.TheVariants.{Back, Out}
use Rattle.ring_hirschberg.specs.declared.hirschberg.HirschbergState.{HirschbergState}
use Rattle.ring_hirschberg.specs.Hirschberg.{hirschberg_first, hirschberg_first_sends, hirschberg_next, hirschberg_sends, hirschberg_table, phase}
use Rattle.ring_hirschberg.specs.laws.Homecomings.{member_at, other_member}
use Rattle.ring_hirschberg.specs.laws.Passing.{is_out}
use Rattle.ring_hirschberg.specs.laws.Receipts.{any_receipt}
use Rattle.ring_hirschberg.specs.laws.States.{IsOwn, own_first, own_next}
use Rattle.ring_hirschberg.specs.laws.Tokens.{own_out}
use Rattle.ring_hirschberg.specs.laws.Walks.{walk, walk_below}
use Rattle.ring_hirschberg.specs.laws.Weights.{by_side, from_behind, sent_weight-less, weight, weight-listed, weight-zero, weight_of}

-- a token of v on its way out with at least this many hops left
abbrev is_far : ℕ → ℕ → HirschbergMsg → ℕ
is_far v least (Out w hops) = cond (w == v) (cond (nat_le least hops) 1 0) 0
is_far v least (Back w) = 0

-- whether the token of phase l begins with at least this many hops
abbrev pub begins : ℕ → ℕ → ℕ
begins least l = cond (nat_le least (2 ^ l)) 1 0

-- ---- At other positions

first_far : (side : Side) (x v least : ℕ) → x ≢ v → weight_of (is_far v least) (to_side side (hirschberg_first_sends x)) ≡ 0
first_far side x v least not = grind (arith, nat_tests)

first_out : (side : Side) (x v : ℕ) → x ≢ v → weight_of (is_out v) (to_side side (hirschberg_first_sends x)) ≡ 0
first_out side x v not = grind (arith, nat_tests)

-- a token that goes on with some hops came with one more
receipt_far : (side : Side) (x v least : ℕ) → x ≢ v → (s : HirschbergState) (from : Side) (m : HirschbergMsg) → IsOwn x s → Unit {0} →
    weight_of (is_far v (suc least)) (to_side side (hirschberg_sends s from m)) + weight_of (λ m. 0) (to_side side (hirschberg_sends s from m)) ≤
    by_side (is_far v (suc (suc least))) (other side) from m + by_side (λ m. 0) (other side) from m
receipt_far side x v least not s from m is _ = let same : s.me ≡ x = is.same in grind (arith, nat_tests)

-- a token that goes on came with at least two hops
receipt_out : (side : Side) (x v : ℕ) → x ≢ v → (s : HirschbergState) (from : Side) (m : HirschbergMsg) → IsOwn x s → Unit {0} →
    weight_of (is_out v) (to_side side (hirschberg_sends s from m)) + weight_of (λ m. 0) (to_side side (hirschberg_sends s from m)) ≤
    by_side (is_far v 2) (other side) from m + by_side (λ m. 0) (other side) from m
receipt_out side x v not s from m is _ = let same : s.me ≡ x = is.same in grind (arith, nat_tests)

-- all receipts of a node with another identity than v
module _ (side : Side) (x v : ℕ) (receipts : List (Side × HirschbergMsg)) where
  passes_far : (least : ℕ) → x ≢ v → weight (is_far v (suc least)) (sent_after hirschberg_table x side receipts) ≤ weight (is_far v (suc (suc least))) (taken_from (other side) receipts)
  passes_far least not =
      rw (weight-listed (is_far v (suc least)) (to_side side (hirschberg_first_sends x)) (sent_from hirschberg_table side (hirschberg_first x) receipts))
      (omega (
        arith,
        first_far side x v (suc least) not,
        weight-zero (taken_from (other side) receipts),
        sent_weight-less hirschberg_table (IsOwn x) (λ from m. Unit {0}) (λ s from m is _. own_next x s from m is)
            (is_far v (suc least)) (λ m. 0) (is_far v (suc (suc least))) (λ m. 0) side side (other side) (other side)
            (receipt_far side x v least not) (hirschberg_first x) receipts (own_first x) (any_receipt receipts),
      ))

  passes_out_far : x ≢ v → weight (is_out v) (sent_after hirschberg_table x side receipts) ≤ weight (is_far v 2) (taken_from (other side) receipts)
  passes_out_far not =
      rw (weight-listed (is_out v) (to_side side (hirschberg_first_sends x)) (sent_from hirschberg_table side (hirschberg_first x) receipts))
      (omega (
        arith,
        first_out side x v not,
        weight-zero (taken_from (other side) receipts),
        sent_weight-less hirschberg_table (IsOwn x) (λ from m. Unit {0}) (λ s from m is _. own_next x s from m is)
            (is_out v) (λ m. 0) (is_far v 2) (λ m. 0) side side (other side) (other side)
            (receipt_out side x v not) (hirschberg_first x) receipts (own_first x) (any_receipt receipts),
      ))

-- ---- At home

-- From phase p on to phase q. Either the phase stays and no own token is sent, or it rises and an
-- own token is sent. That token begins with two to the power of the new phase hops.
abbrev IsFarStep : ℕ → ℕ → ℕ → ℕ → Type 0
IsFarStep least p q sent = ((q ≡ p) × (sent ≡ 0)) ⊎ ((q ≡ suc p) × (sent ≡ begins least (suc p)))

receipt_far_steps : (side : Side) (me least : ℕ) (s : HirschbergState) (from : Side) (m : HirschbergMsg) → s.me ≡ me →
    IsFarStep least (phase s) (phase (hirschberg_next s from m)) (weight_of (is_far me least) (to_side side (hirschberg_sends s from m)))
receipt_far_steps side me least s from m is = grind (arith, nat_tests)

-- a step adds to the sum over the phases what it sends
far_step : (least p q sent : ℕ) → IsFarStep least p q sent → sent + sum_to (begins least) (suc p) ≡ sum_to (begins least) (suc q)
far_step least p q sent step =
    elim step [
      | inl stays ↦ let same : sum_to (begins least) (suc q) ≡ sum_to (begins least) (suc p) = ap (λ k. sum_to (begins least) (suc k)) stays.0 in omega (arith, stays.1)
      | inr rises ↦ let more : sum_to (begins least) (suc q) ≡ sum_to (begins least) (suc (suc p)) = ap (λ k. sum_to (begins least) (suc k)) rises.0 in omega (arith, rises.1)
    ]

first_far_own : (side : Side) (me least : ℕ) → weight_of (is_far me least) (to_side side (hirschberg_first_sends me)) ≡ begins least 0
first_far_own side me least = grind (arith, nat_tests)

module _ (side : Side) (me least : ℕ) where
  far_from : (s : HirschbergState) (receipts : List (Side × HirschbergMsg)) → IsOwn me s →
      weight (is_far me least) (sent_from hirschberg_table side s receipts) + sum_to (begins least) (suc (phase s)) ≡ sum_to (begins least) (suc (phase (state_from hirschberg_table s receipts)))
  far_from s [] is = omega arith
  far_from s (r ∷ receipts) is =
      let next : HirschbergState = hirschberg_next s r.0 r.1 in
      let sent : ℕ = weight_of (is_far me least) (to_side side (hirschberg_sends s r.0 r.1)) in
      let step = far_step least (phase s) (phase next) sent (receipt_far_steps side me least s r.0 r.1 is.same) in
      let rest = far_from next receipts (own_next me s r.0 r.1 is) in
      rw (weight-listed (is_far me least) (to_side side (hirschberg_sends s r.0 r.1)) (sent_from hirschberg_table side next receipts))
      (omega arith)

  -- of its own tokens a node has sent one for each phase that begins with at least this many hops
  own_far : (receipts : List (Side × HirschbergMsg)) →
      weight (is_far me least) (sent_after hirschberg_table me side receipts) ≡ sum_to (begins least) (suc (phase (state_after hirschberg_table me receipts)))
  own_far receipts =
      let first = first_far_own side me least in
      let rest = far_from (hirschberg_first me) receipts (own_first me) in
      rw (weight-listed (is_far me least) (to_side side (hirschberg_first_sends me)) (sent_from hirschberg_table side (hirschberg_first me) receipts))
      (omega arith)

-- every token begins with one hop at least
all_begin : (l : ℕ) → begins 1 l ≡ 1
all_begin l = let some : 0 < 2 ^ l = pow_pos l in grind (arith, nat_tests)

-- ---- Along the ring

-- the tokens of one member v in a sound family
module _ (ring : List ℕ) (is : IsRing ring) (family : ℕ → List (Side × HirschbergMsg)) (sound : IsSound hirschberg_table ring family) (p v : ℕ) (here : slice_get ring p ≡ Some v) where
  -- the phase that it has come to
  abbrev reached : ℕ
  reached = phase (state_after hirschberg_table v (family p))

  -- the position this many steps from home
  abbrev at : Side → ℕ → ℕ
  at side steps = walk (length ring) p side steps

  at_below : (side : Side) (steps : ℕ) → at side steps < length ring
  at_below side steps = walk_below (length ring) p side steps (slice_get_within ring p v here)

  -- some steps from home, tokens sent on with more than a number of hops began with as many more
  far : (side : Side) (steps least x : ℕ) → steps < length ring → slice_get ring (at side steps) ≡ Some x →
      weight (is_far v (suc least)) (sent_after hirschberg_table x side (family (at side steps))) ≤ sum_to (begins (suc (least + steps))) (suc reached)
  far side zero least x below there =
      let same : x ≡ v = cc in
      let own = own_far side v (suc least) (family p) in
      let count : weight (is_far v (suc least)) (sent_after hirschberg_table x side (family p)) ≡ weight (is_far v (suc least)) (sent_after hirschberg_table v side (family p)) =
      ap (λ w. weight (is_far v (suc least)) (sent_after hirschberg_table w side (family p))) same in
      let sum : sum_to (begins (suc (least + 0))) (suc reached) ≡ sum_to (begins (suc least)) (suc reached) =
      ap (λ k. sum_to (begins k) (suc reached)) (let e : suc (least + 0) ≡ suc least = omega arith in e) in
      omega arith
  far side (suc steps) least x below there =
      let before = member_at ring (at side steps) (at_below side steps) in
      let here_less = passes_far side x v (family (at side (suc steps))) least (other_member ring is p v here side (suc steps) x (omega arith) below there) in
      let came = from_behind hirschberg_table ring family (at side steps) side (at_below side steps) (is_far v (suc (suc least))) before.0 sound before.1 in
      let sent = far side steps (suc least) before.0 (omega arith) before.1 in
      let sum : sum_to (begins (suc (suc least + steps))) (suc reached) ≡ sum_to (begins (suc (least + suc steps))) (suc reached) =
      ap (λ k. sum_to (begins k) (suc reached)) (let e : suc (suc least + steps) ≡ suc (least + suc steps) = omega arith in e) in
      omega arith

  -- some steps from home, no more are sent on than began with more hops than that
  pub outs : (side : Side) (steps x : ℕ) → steps < length ring → slice_get ring (at side steps) ≡ Some x →
      weight (is_out v) (sent_after hirschberg_table x side (family (at side steps))) ≤ sum_to (begins (suc steps)) (suc reached)
  outs side zero x below there =
      let same : x ≡ v = cc in
      let own = own_out v (family p) side in
      let count : weight (is_out v) (sent_after hirschberg_table x side (family p)) ≡ weight (is_out v) (sent_after hirschberg_table v side (family p)) =
      ap (λ w. weight (is_out v) (sent_after hirschberg_table w side (family p))) same in
      let ones = sum_to-same (begins 1) (λ l. 1) (suc reached) (λ l inside. all_begin l) in
      let all = sum_to-constant 1 (suc reached) in
      omega arith
  outs side (suc steps) x below there =
      let before = member_at ring (at side steps) (at_below side steps) in
      let here_less = passes_out_far side x v (family (at side (suc steps))) (other_member ring is p v here side (suc steps) x (omega arith) below there) in
      let came = from_behind hirschberg_table ring family (at side steps) side (at_below side steps) (is_far v 2) before.0 sound before.1 in
      let sent = far side steps 1 before.0 (omega arith) before.1 in
      let sum : sum_to (begins (suc (1 + steps))) (suc reached) ≡ sum_to (begins (suc (suc steps))) (suc reached) =
      ap (λ k. sum_to (begins k) (suc reached)) (let e : suc (1 + steps) ≡ suc (suc steps) = omega arith in e) in
      omega arith

-- a token crosses at most as many links as it begins with hops
crosses : (n most : ℕ) → sum_to (λ d. cond (nat_le (suc d) most) 1 0) n ≡ min n most
crosses zero most = omega arith
crosses (suc n) most = let before = crosses n most in grind (arith, nat_tests)

-- over all links, the tokens of the phases up to a last one cross as many as these begin with hops
pub crossings : (n phases : ℕ) → sum_to (λ d. sum_to (begins (suc d)) phases) n ≤ sum_to (λ l. 2 ^ l) phases
crossings n phases =
    let swapped = sum_to-swap (λ d l. begins (suc d) l) n phases in
    let less = sum_to-less (λ l. sum_to (λ d. begins (suc d) l) n) (λ l. 2 ^ l) phases (λ l inside. (let few = crosses n (2 ^ l) in omega arith)) in
    omega arith
