-- A position's own tokens: one for each phase, and one count for each that came home.
use Rattle.std.specs.Prelude.{◌≡◌, ◌+◌, ◌^◌, ◌<◌, ◌≤◌, ◌⊎◌, ℕ, zero, suc, min, List, [], ◌∷◌, refl}
use Rattle.std.proofs.Common.{◌∙◌, ap, arith, pow_mono}
use Rattle.std.proofs.lemmas.Bool.Decides.{nat_tests}
use Rattle.std.proofs.lemmas.Nat.{pow_pos}
use Rattle.ring_id.specs.declared.side.Side.{Side}
use Rattle.ring_id.specs.declared.side.Side.TheVariants.{Left, Right}
use Rattle.ring_election.specs.Tables.{to_side}
use Rattle.ring_election.specs.Traces.{sent_after, sent_from, state_after, state_from, taken_from}
use Rattle.ring_hirschberg.specs.declared.hirschberg.HirschbergMsg.{HirschbergMsg}
use Rattle.ring_hirschberg.specs.declared.hirschberg.HirschbergMsg.TheVariants.{Out}
use Rattle.ring_hirschberg.specs.declared.hirschberg.HirschbergState.{HirschbergState}
use Rattle.ring_hirschberg.specs.Hirschberg.{hirschberg_first, hirschberg_first_sends, hirschberg_next, hirschberg_sends, hirschberg_table, phase}
use Rattle.ring_hirschberg.specs.laws.Logarithm.{below_from_powers}
use Rattle.ring_hirschberg.specs.laws.States.{IsOwn, own_first, own_next}
use Rattle.ring_hirschberg.specs.laws.Passing.{is_back, is_near, is_out}
use Rattle.ring_hirschberg.specs.laws.Weights.{by_side, weight, weight-listed, weight-taken, weight_of}

-- the count of one side
abbrev pub count_of : Side → HirschbergState → ℕ
count_of Left s = s.left
count_of Right s = s.right

-- One receipt of the node with identity `me`. Its phase rises by one if it sends a token of its
-- own, to either side; otherwise the phase stays.
receipt_opens : (side : Side) (me : ℕ) (s : HirschbergState) (from : Side) (m : HirschbergMsg) → s.me ≡ me →
    weight_of (is_out me) (to_side side (hirschberg_sends s from m)) + phase s ≡ phase (hirschberg_next s from m)
receipt_opens side me s from m is = grind (arith, nat_tests)

-- it sends none of its own tokens home
receipt_sends_none_home : (side : Side) (me : ℕ) (s : HirschbergState) (from : Side) (m : HirschbergMsg) → s.me ≡ me →
    weight_of (is_back me) (to_side side (hirschberg_sends s from m)) ≡ 0
receipt_sends_none_home side me s from m is = grind (arith, nat_tests)

-- the count of a side rises by the own tokens that come home from there, up to 16
receipt_counts : (side : Side) (me : ℕ) (s : HirschbergState) (from : Side) (m : HirschbergMsg) → s.me ≡ me → count_of side s ≤ 16 →
    count_of side (hirschberg_next s from m) ≡ min 16 (count_of side s + by_side (is_back me) side from m)
receipt_counts side me s from m is most = grind (arith, nat_tests)

-- From phase p on to phase q. Either the phase stays and no own token is sent, or it rises and an
-- own token is sent. That token has two to the power of the new phase hops.
abbrev IsStep : ℕ → ℕ → ℕ → ℕ → ℕ → Type 0
IsStep me most p q sent =
    ((q ≡ p) × (sent ≡ 0)) ⊎ ((q ≡ suc p) × (sent ≡ is_near me most (Out me (2 ^ suc p))))

receipt_steps : (side : Side) (me most : ℕ) (s : HirschbergState) (from : Side) (m : HirschbergMsg) → s.me ≡ me →
    IsStep me most (phase s) (phase (hirschberg_next s from m)) (weight_of (is_near me most) (to_side side (hirschberg_sends s from m)))
receipt_steps side me most s from m is = grind (arith, nat_tests)

-- a token is near if it has no more than this many hops
near_weight : (me most phase : ℕ) → ((2 ^ phase ≤ most) × (is_near me most (Out me (2 ^ phase)) ≡ 1)) ⊎ ((most < 2 ^ phase) × (is_near me most (Out me (2 ^ phase)) ≡ 0))
near_weight me most phase = let some : 0 < 2 ^ phase = pow_pos phase in grind (arith, nat_tests)

-- only the token of a phase below l may have fewer than two to the power of l hops
low_step : (me most l p q sent : ℕ) → most < 2 ^ l →
    IsStep me most p q sent → sent + min l (suc p) ≤ min l (suc q)
low_step me most l p q sent few step =
    let near = near_weight me most (suc p) in
    let low : 2 ^ suc p < 2 ^ l → suc p < l = below_from_powers (suc p) l in
    grind arith

-- the token of a phase that is reached has no more hops than that of the last
high_step : (me most p q last sent : ℕ) → q ≤ last → 2 ^ last ≤ most →
    IsStep me most p q sent → q ≤ sent + p
high_step me most p q last sent reached many step =
    let near = near_weight me most (suc p) in
    let short : 2 ^ q ≤ 2 ^ last = pow_mono reached in
    grind arith

-- from any state of the node with identity `me` on
module _ (side : Side) (me : ℕ) where
  -- each phase that begins is one more own token to each side
  opened : (s : HirschbergState) (receipts : List (Side × HirschbergMsg)) → IsOwn me s →
      weight (is_out me) (sent_from hirschberg_table side s receipts) + phase s ≡ phase (state_from hirschberg_table s receipts)
  opened s [] is = omega arith
  opened s (r ∷ receipts) is =
      let next : HirschbergState = hirschberg_next s r.0 r.1 in
      rw (weight-listed (is_out me) (to_side side (hirschberg_sends s r.0 r.1)) (sent_from hirschberg_table side next receipts))
      (omega (arith, receipt_opens side me s r.0 r.1 is.same, opened next receipts (own_next me s r.0 r.1 is)))

  -- no own token is sent home
  none_back : (s : HirschbergState) (receipts : List (Side × HirschbergMsg)) → IsOwn me s → weight (is_back me) (sent_from hirschberg_table side s receipts) ≡ 0
  none_back s [] is = refl
  none_back s (r ∷ receipts) is =
      let next : HirschbergState = hirschberg_next s r.0 r.1 in
      rw (weight-listed (is_back me) (to_side side (hirschberg_sends s r.0 r.1)) (sent_from hirschberg_table side next receipts))
      (omega (arith, receipt_sends_none_home side me s r.0 r.1 is.same, none_back next receipts (own_next me s r.0 r.1 is)))

  -- the count of a side is the number of own tokens that came home from there, up to 16
  counted_all : (s : HirschbergState) (receipts : List (Side × HirschbergMsg)) → IsOwn me s → count_of side s ≤ 16 →
      count_of side (state_from hirschberg_table s receipts) ≡ min 16 (count_of side s + weight (is_back me) (taken_from side receipts))
  counted_all s [] is most = omega arith
  counted_all s (r ∷ receipts) is most =
      let next : HirschbergState = hirschberg_next s r.0 r.1 in
      let here = receipt_counts side me s r.0 r.1 is.same most in
      rw (weight-taken (is_back me) side r.0 r.1 receipts)
      (omega (arith, here, counted_all next receipts (own_next me s r.0 r.1 is) (omega (arith, here))))

  -- few own tokens have few hops
  few_low : (most l : ℕ) → most < 2 ^ l → (s : HirschbergState) (receipts : List (Side × HirschbergMsg)) → IsOwn me s →
      weight (is_near me most) (sent_from hirschberg_table side s receipts) + min l (suc (phase s)) ≤ l
  few_low most l few s [] is = omega arith
  few_low most l few s (r ∷ receipts) is =
      let next : HirschbergState = hirschberg_next s r.0 r.1 in
      rw (weight-listed (is_near me most) (to_side side (hirschberg_sends s r.0 r.1)) (sent_from hirschberg_table side next receipts))
      (omega (
        arith,
        low_step me most l (phase s) (phase next) (weight_of (is_near me most) (to_side side (hirschberg_sends s r.0 r.1))) few (receipt_steps side me most s r.0 r.1 is.same),
        few_low most l few next receipts (own_next me s r.0 r.1 is),
      ))

  -- no own token has more hops than that of the last phase
  all_near : (most : ℕ) (s : HirschbergState) (receipts : List (Side × HirschbergMsg)) → IsOwn me s → 2 ^ phase (state_from hirschberg_table s receipts) ≤ most →
      phase (state_from hirschberg_table s receipts) ≤ weight (is_near me most) (sent_from hirschberg_table side s receipts) + phase s
  all_near most s [] is many = omega arith
  all_near most s (r ∷ receipts) is many =
      let next : HirschbergState = hirschberg_next s r.0 r.1 in
      let last : ℕ = phase (state_from hirschberg_table next receipts) in
      let own : IsOwn me next = own_next me s r.0 r.1 is in
      let reached : phase next ≤ last = omega (arith, opened next receipts own) in
      rw (weight-listed (is_near me most) (to_side side (hirschberg_sends s r.0 r.1)) (sent_from hirschberg_table side next receipts))
      (omega (
        arith,
        high_step me most (phase s) (phase next) last (weight_of (is_near me most) (to_side side (hirschberg_sends s r.0 r.1))) reached many (receipt_steps side me most s r.0 r.1 is.same),
        all_near most next receipts own many,
      ))

-- the weight of a node's first messages
first_out_own : (side : Side) (me : ℕ) → weight_of (is_out me) (to_side side (hirschberg_first_sends me)) ≡ 1
first_out_own side me = grind (arith, nat_tests)

first_back_own : (side : Side) (me : ℕ) → weight_of (is_back me) (to_side side (hirschberg_first_sends me)) ≡ 0
first_back_own side me = grind (arith, nat_tests)

first_near_own : (side : Side) (me most : ℕ) → weight_of (is_near me most) (to_side side (hirschberg_first_sends me)) ≡ min 1 most
first_near_own side me most = grind (arith, nat_tests)

-- all receipts of the node with identity `me`
module _ (me : ℕ) (receipts : List (Side × HirschbergMsg)) where
  abbrev last_state : HirschbergState
  last_state = state_after hirschberg_table me receipts

  -- it has sent one token more than its phase to each side
  pub own_out : (side : Side) → weight (is_out me) (sent_after hirschberg_table me side receipts) ≡ suc (phase (state_after hirschberg_table me receipts))
  own_out side =
      rw (weight-listed (is_out me) (to_side side (hirschberg_first_sends me)) (sent_from hirschberg_table side (hirschberg_first me) receipts))
      (omega (arith, first_out_own side me, opened side me (hirschberg_first me) receipts (own_first me)))

  -- it sends none of its tokens home
  pub own_back : (side : Side) → weight (is_back me) (sent_after hirschberg_table me side receipts) ≡ 0
  own_back side =
      rw (weight-listed (is_back me) (to_side side (hirschberg_first_sends me)) (sent_from hirschberg_table side (hirschberg_first me) receipts))
      (omega (arith, first_back_own side me, none_back side me (hirschberg_first me) receipts (own_first me)))

  -- at most l of its tokens have fewer than two to the power of l hops
  pub own_low : (side : Side) (most l : ℕ) → most < 2 ^ l → weight (is_near me most) (sent_after hirschberg_table me side receipts) ≤ l
  own_low side most l few =
      rw (weight-listed (is_near me most) (to_side side (hirschberg_first_sends me)) (sent_from hirschberg_table side (hirschberg_first me) receipts))
      (omega (arith, first_near_own side me most, first_low most l few, few_low side me most l few (hirschberg_first me) receipts (own_first me)))
    where
      first_low : (most l : ℕ) → most < 2 ^ l → min 1 most ≤ min 1 l
      first_low most zero few = omega arith
      first_low most (suc l) few = omega arith

  -- all of its tokens are near if two to the power of its phase is
  pub own_near : (side : Side) (most : ℕ) → 2 ^ phase (state_after hirschberg_table me receipts) ≤ most →
      suc (phase (state_after hirschberg_table me receipts)) ≤ weight (is_near me most) (sent_after hirschberg_table me side receipts)
  own_near side most many =
      rw (weight-listed (is_near me most) (to_side side (hirschberg_first_sends me)) (sent_from hirschberg_table side (hirschberg_first me) receipts))
      (omega (arith, pow_pos (phase last_state), first_near_own side me most, all_near side me most (hirschberg_first me) receipts (own_first me) many))

  count_is : (side : Side) → count_of side last_state ≡ min 16 (weight (is_back me) (taken_from side receipts))
  count_is side =
      counted_all side me (hirschberg_first me) receipts (own_first me) (omega (arith, first_count side)) ∙ ap (λ c. min 16 (c + weight (is_back me) (taken_from side receipts))) (first_count side) ∙ ap (min 16) (omega arith)
    where
      first_count : (side : Side) → count_of side (hirschberg_first me) ≡ 0
      first_count Left = refl
      first_count Right = refl

  -- its phase is at most the number of its tokens that came home from either side
  pub phase_back : (side : Side) → phase (state_after hirschberg_table me receipts) ≤ weight (is_back me) (taken_from side receipts)
  phase_back Left = omega (arith, count_is Left)
  phase_back Right = omega (arith, count_is Right)

  -- it is at least that number, if the number is at most 16
  pub back_phase : (b : ℕ) → b ≤ weight (is_back me) (taken_from Left receipts) → b ≤ weight (is_back me) (taken_from Right receipts) →
      min 16 b ≤ phase (state_after hirschberg_table me receipts)
  back_phase b left right = omega (arith, count_is Left, count_is Right)
