-- All messages: counted by the owners of their tokens, then by the phases of an owner, then by the
-- owners that came to a phase.
use Rattle.std.proofs.Common.{◌≡◌, ◌+◌, ◌-◌, ◌*◌, ◌^◌, ◌<◌, ◌≤◌, ℕ, zero, suc, cond, nat_le, List, length, Some, slice_get, get_or, sym, ap, ◌∙◌, arith}
use Rattle.std.proofs.lemmas.Bool.Decides.{nat_tests}
use Rattle.std.proofs.lemmas.Option.{slice_get-get_or}
use Rattle.ring_id.specs.declared.side.Side.{Side}
use Rattle.ring_id.specs.declared.side.Side.TheVariants.{Left, Right}
use Rattle.ring_id.specs.Sides.{other}
use Rattle.ring_roster.specs.Ring.{IsRing, neighbour}
use Rattle.ring_election.specs.Families.{FamilyFits, IsSound, taken_in_all}
use Rattle.ring_election.specs.Traces.{sent_after, taken_from}
use Rattle.ring_election.proofs.Families.{length-taken}
use Rattle.ring_election.proofs.Sums.{sum_to, sum_to-constant, sum_to-first, sum_to-less, sum_to-plus, sum_to-round, sum_to-same, sum_to-swap, sum_to-times, taken-sum}
use Rattle.ring_hirschberg.specs.declared.hirschberg.HirschbergMsg.{HirschbergMsg}
use Rattle.ring_hirschberg.specs.laws.Bounded.{members_cover, owner_is_member, tokens_of}
use Rattle.ring_hirschberg.specs.Hirschberg.{ceil_log2, hirschberg_fits, hirschberg_table}
use Rattle.ring_hirschberg.specs.laws.Homecomings.{back_near}
use Rattle.ring_hirschberg.specs.laws.Passing.{is_back, is_near, is_out, near_is_out}
use Rattle.ring_hirschberg.specs.laws.Walks.{walk, walk_below}
use Rattle.ring_hirschberg.specs.laws.Weights.{from_behind, weight, weight-less}
use Rattle.ring_hirschberg.specs.Work.{phase_at, reaching}
use Rattle.ring_hirschberg.proofs.Far.{begins, crossings, outs}
use Rattle.ring_hirschberg.proofs.Packing.{phase_few, phases_rare, reaching-sum}
use Rattle.ring_hirschberg.proofs.Sums.{walk_sum, weight-sum}

-- what the tokens of the phases up to p may travel to one side
abbrev travel : ℕ → ℕ
travel p = sum_to (λ l. 2 ^ l) (suc p)

-- the tokens of phase l, if phase p is reached
abbrev share : ℕ → ℕ → ℕ
share p l = 2 ^ l * cond (nat_le l p) 1 0

-- summed over all phases up to p and any number of later ones
travel-shares : (p more : ℕ) → sum_to (share p) (suc p + more) ≡ travel p
travel-shares p zero =
    let each = sum_to-same (share p) (λ l. 2 ^ l) (suc p) (λ l inside. grind (arith, nat_tests)) in
    ap (sum_to (share p)) (let e : suc p + 0 ≡ suc p = omega arith in e) ∙ each
travel-shares p (suc more) =
    let before = travel-shares p more in
    let longer : sum_to (share p) (suc p + suc more) ≡ sum_to (share p) (suc (suc p + more)) = ap (sum_to (share p)) (let e : suc p + suc more ≡ suc (suc p + more) = omega arith in e) in
    let none : share p (suc p + more) ≡ 0 = grind (arith, nat_tests) in
    omega arith

module _ (ring : List ℕ) (is : IsRing ring) (family : ℕ → List (Side × HirschbergMsg)) (sound : IsSound hirschberg_table ring family) where
  abbrev n : ℕ
  n = length ring

  -- the member at a position
  abbrev member : ℕ → ℕ
  member i = get_or ring i 0

  stands : (i : ℕ) → i < n → slice_get ring i ≡ Some (member i)
  stands i below = slice_get-get_or ring i 0 below

  -- ---- The tokens of one member, the one at position p

  -- a position some steps away sends on no more of them than began with more hops
  sent_few : (p : ℕ) → p < n → (side : Side) (steps : ℕ) → steps < n →
      weight (is_out (member p)) (sent_after hirschberg_table (member (walk n p side steps)) side (family (walk n p side steps))) ≤ sum_to (begins (suc steps)) (suc (phase_at ring family p))
  sent_few p below side steps inside =
      outs ring is family sound p (member p) (stands p below) side steps (member (walk n p side steps)) inside (stands (walk n p side steps) (walk_below n p side steps below))

  -- on their way out to one side, all positions together take no more than they may travel
  out_travel : (p : ℕ) → p < n → (side : Side) → sum_to (λ i. weight (is_out (member p)) (taken_from (other side) (family i))) n ≤ travel (phase_at ring family p)
  out_travel p below side =
      let v : ℕ = member p in
      let shifted = sum_to-round (λ i. weight (is_out v) (taken_from (other side) (family i))) n side in
      let came = sum_to-less (λ i. weight (is_out v) (taken_from (other side) (family (neighbour n i side)))) (λ i. weight (is_out v) (sent_after hirschberg_table (member i) side (family i))) n
      (λ i inside. from_behind hirschberg_table ring family i side inside (is_out v) (member i) sound (stands i inside)) in
      let along = walk_sum (λ i. weight (is_out v) (sent_after hirschberg_table (member i) side (family i))) n p side below in
      let less = sum_to-less (λ d. weight (is_out v) (sent_after hirschberg_table (member (walk n p side d)) side (family (walk n p side d)))) (λ d. sum_to (begins (suc d)) (suc (phase_at ring family p))) n
      (λ d inside. sent_few p below side d inside) in
      let crossed = crossings n (suc (phase_at ring family p)) in
      omega arith

  -- on their way home from one side, no more either, since they were sent on that way before
  back_travel : (p : ℕ) → p < n → (side : Side) → sum_to (λ i. weight (is_back (member p)) (taken_from side (family i))) n ≤ travel (phase_at ring family p)
  back_travel p below side =
      let v : ℕ = member p in
      let along = walk_sum (λ i. weight (is_back v) (taken_from side (family i))) n p side below in
      let less = sum_to-less (λ d. weight (is_back v) (taken_from side (family (walk n p side d)))) (λ d. sum_to (begins (suc d)) (suc (phase_at ring family p))) n
      (λ d inside.
      let at : ℕ = walk n p side d in
      let there = stands at (walk_below n p side d below) in
      let near = back_near ring is p v (stands p below) side family sound d (n - 1 - d) (member at) (omega arith) there in
      let out = weight-less (is_near v (n - 1 - d)) (is_out v) (sent_after hirschberg_table (member at) side (family at)) (near_is_out v (n - 1 - d)) in
      let sent = sent_few p below side d inside in
      omega arith) in
      let crossed = crossings n (suc (phase_at ring family p)) in
      omega arith

  -- the tokens of the member at position p that position i takes
  abbrev takes : ℕ → ℕ → ℕ
  takes i p = tokens_of (taken_from Left (family i)) (member p) + tokens_of (taken_from Right (family i)) (member p)

  -- all positions together take at most four times what they may travel to one side
  takes_travel : (p : ℕ) → p < n → sum_to (λ i. takes i p) n ≤ 4 * travel (phase_at ring family p)
  takes_travel p below =
      let v : ℕ = member p in
      let sides = sum_to-plus (λ i. tokens_of (taken_from Left (family i)) v) (λ i. tokens_of (taken_from Right (family i)) v) n in
      let left = sum_to-plus (λ i. weight (is_out v) (taken_from Left (family i))) (λ i. weight (is_back v) (taken_from Left (family i))) n in
      let right = sum_to-plus (λ i. weight (is_out v) (taken_from Right (family i))) (λ i. weight (is_back v) (taken_from Right (family i))) n in
      omega (arith, out_travel p below Left, out_travel p below Right, back_travel p below Left, back_travel p below Right)

  -- ---- The tokens of all members

  -- what a position takes is tokens of members
  takes_cover : FamilyFits hirschberg_fits ring family → (i : ℕ) → i < n → length (family i) ≤ sum_to (takes i) n
  takes_cover fit i below =
      let cover : (side : Side) → length (taken_from side (family i)) ≤ weight (tokens_of (taken_from side (family i))) ring =
      λ side. members_cover ring (taken_from side (family i)) (λ k m there. owner_is_member ring (neighbour n i side) (other side) m ((fit.at i below).each side k m there)) in
      let left = weight-sum (tokens_of (taken_from Left (family i))) ring in
      let right = weight-sum (tokens_of (taken_from Right (family i))) ring in
      let both = sum_to-plus (λ p. tokens_of (taken_from Left (family i)) (member p)) (λ p. tokens_of (taken_from Right (family i)) (member p)) n in
      omega (arith, length-taken (family i), cover Left, cover Right)

  -- all messages are at most four times what the tokens of all members may travel to one side
  all_travel : FamilyFits hirschberg_fits ring family → taken_in_all n family ≤ 4 * sum_to (λ p. travel (phase_at ring family p)) n
  all_travel fit =
      let whole = taken-sum n family in
      let cover = sum_to-less (λ i. length (family i)) (λ i. sum_to (takes i) n) n (takes_cover fit) in
      let swapped = sum_to-swap takes n n in
      let each = sum_to-less (λ p. sum_to (λ i. takes i p) n) (λ p. 4 * travel (phase_at ring family p)) n takes_travel in
      let four = sum_to-times 4 (λ p. travel (phase_at ring family p)) n in
      omega arith

  -- ---- The members that come to a phase

  -- of all members, the tokens of phase l
  abbrev of_phase : ℕ → ℕ
  of_phase l = sum_to (λ p. share (phase_at ring family p) l) n

  -- it is as many times two to the power of l as members come to it
  of_phase-reaching : (l : ℕ) → of_phase l ≡ 2 ^ l * reaching ring family l n
  of_phase-reaching l = sum_to-times (2 ^ l) (λ p. cond (nat_le l (phase_at ring family p)) 1 0) n ∙ ap (λ c. 2 ^ l * c) (sym (reaching-sum ring is family sound l n))

  -- phase 0 has a token of one hop for each member
  first_phase : of_phase 0 ≤ n
  first_phase =
      let each = sum_to-less (λ p. share (phase_at ring family p) 0) (λ p. 1) n (λ p below. grind (arith, nat_tests)) in
      let ones = sum_to-constant 1 n in
      omega arith

  -- a later phase has at most two hops for each member of the ring
  later_phase : (k : ℕ) → of_phase (suc k) ≤ 2 * n
  later_phase k =
      let count = of_phase-reaching (suc k) in
      let rare = phases_rare ring is family sound k in
      twice (2 ^ k) (reaching ring family (suc k) n) rare (count ∙ ap (λ a. a * reaching ring family (suc k) n) (let e : 2 ^ suc k ≡ 2 * 2 ^ k = omega arith in e))
    where
      twice : (a c : ℕ) → c * (a + 1) ≤ n → of_phase (suc k) ≡ 2 * a * c → of_phase (suc k) ≤ 2 * n
      twice a c few is_product = omega arith

  -- what the tokens of all members may travel to one side
  travel_few : sum_to (λ p. travel (phase_at ring family p)) n ≤ n + 2 * n * ceil_log2 n
  travel_few =
      let last : ℕ = ceil_log2 n in
      let shares = sum_to-same (λ p. travel (phase_at ring family p)) (λ p. sum_to (share (phase_at ring family p)) (suc last)) n
      (λ p below.
      let small = phase_few ring is family sound p below in
      let more : ℕ = last - phase_at ring family p in
      sym (travel-shares (phase_at ring family p) more) ∙ ap (sum_to (share (phase_at ring family p))) (let e : suc (phase_at ring family p) + more ≡ suc last = omega arith in e)) in
      let swapped = sum_to-swap (λ p l. share (phase_at ring family p) l) n (suc last) in
      let first = sum_to-first of_phase last in
      let later = sum_to-less (λ k. of_phase (suc k)) (λ k. 2 * n) last (λ k inside. later_phase k) in
      let all = sum_to-constant (2 * n) last in
      omega (arith, first_phase)

  -- at most this many messages are taken
  pub messages_few : FamilyFits hirschberg_fits ring family → taken_in_all n family ≤ 4 * n + 8 * n * ceil_log2 n
  messages_few fit = omega (arith, all_travel fit, travel_few)
