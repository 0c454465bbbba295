-- The laws that keep the leader unique, for Hirschberg-Sinclair (Lynch, Distributed Algorithms, 3.4).
use Rattle.std.specs.Prelude.{◌≡◌, ◌-◌, ◌^◌, ◌<◌, ◌≤◌, ◌==◌, ℕ, zero, suc, true, false, if◌then◌else◌, nat_lt, List, length, Some, slice_get, refl}
use Rattle.std.proofs.Common.{sym, ◌∙◌, ap, subst, inl, inr, arith, eqb-true}
use Rattle.std.proofs.lemmas.Bool.Decides.{nat_tests}
use Rattle.std.proofs.lemmas.Bool.{cases_lt}
use Rattle.std.proofs.lemmas.Nat.{pow_pos}
use Rattle.std.proofs.lemmas.Option.{slice_get_within}
use Rattle.ring_id.specs.declared.side.Side.{Side}
use Rattle.ring_id.specs.declared.side.Side.TheVariants.{Left, Right}
use Rattle.ring_id.specs.Sides.{other}
use Rattle.ring_roster.specs.Ring.{IsRing, neighbour, greatest_of}
use Rattle.ring_election.specs.declared.sends.Sends.{Sends}
use Rattle.ring_election.specs.Tables.{nothing, to_side}
use Rattle.ring_election.specs.Traces.{sent_after, state_after}
use Rattle.ring_election.specs.Families.{AllFit}
use Rattle.ring_election.specs.Laws.{Lawful}
use Rattle.ring_election.proofs.Rings.{greatest-at_least, greatest-is_in, greatest-unique, same_position}
use Rattle.ring_hirschberg.specs.declared.hirschberg.HirschbergMsg.{HirschbergMsg}
use Rattle.ring_hirschberg.specs.declared.hirschberg.HirschbergMsg.TheVariants.{Out, Back}
use Rattle.ring_hirschberg.specs.declared.hirschberg.HirschbergState.{HirschbergState}
use Rattle.ring_hirschberg.specs.Hirschberg.{IsMember, Reaches, own, over, allows, counted, hirschberg_first, hirschberg_fits, hirschberg_next, hirschberg_sends, hirschberg_table, new_token, one_to, passed, phase, to_both}
use Rattle.ring_hirschberg.specs.laws.States.{IsOwn, decision_stays, own_after, own_first, own_next}
use Rattle.ring_hirschberg.specs.laws.Walks.{walk, walk_first, walk_away, walk_reaches, other_other}
use Rattle.ring_hirschberg.specs.laws.Receipts.{each_fits, each_sent_after, state_keeps}

-- a token that came this far is a member's
pub member_of : (ring : List ℕ) (side : Side) (v i : ℕ) → Reaches ring side v i → IsMember ring v
member_of ring side v i (own here) = (i, here)
member_of ring side v i (over before here less) = member_of ring side v (neighbour (length ring) i (other side)) before

-- Walking from i that way, one meets v after some steps, and only smaller identities before it.
record IsOver (ring : List ℕ) (way : Side) (v i : ℕ) : Type 0 where
  steps : ℕ
  there : slice_get ring (walk (length ring) i way steps) ≡ Some v
  smaller : (e x : ℕ) → e < steps → slice_get ring (walk (length ring) i way e) ≡ Some x → x < v

-- one more smaller identity
one_over : (ring : List ℕ) (way : Side) (v i x : ℕ) → IsOver ring way v (neighbour (length ring) i way) → slice_get ring i ≡ Some x → x < v → IsOver ring way v i
one_over ring way v i x past here less = record {
  steps = suc past.steps;
  there = ap (slice_get ring) (sym (walk_first (length ring) i way past.steps)) ∙ past.there;
  smaller = smaller;
}
  where
    smaller : (e y : ℕ) → e < suc past.steps → slice_get ring (walk (length ring) i way e) ≡ Some y → y < v
    smaller zero y lt there = let e : x ≡ y = cc in omega arith
    smaller (suc e) y lt there = past.smaller e y (omega arith) (ap (slice_get ring) (walk_first (length ring) i way e) ∙ there)

-- a token that came this far came over smaller identities from its own position
over_of : (ring : List ℕ) (side : Side) (v i : ℕ) → Reaches ring side v i → IsOver ring (other side) v i
over_of ring side v i (own here) = record { steps = 0; there = here; smaller = λ e x lt there. absurd (omega arith) }
over_of ring side v i (over {x = x} before here less) = one_over ring (other side) v i x (over_of ring side v (neighbour (length ring) i (other side)) before) here less

-- one position of a ring, with the member that is there
module _ (ring : List ℕ) (i me : ℕ) (here : slice_get ring i ≡ Some me) where
  -- a message that arrives from that side was on the link from the neighbour there
  abbrev Arrives : Side → HirschbergMsg → Type 0
  Arrives from m = allows ring (neighbour (length ring) i from) (other from) m

  -- each message of these may be on its link
  abbrev AllAllowed : Sends HirschbergMsg → Type 0
  AllAllowed sends =
      (to : Side) (m : HirschbergMsg) → to_side to sends ≡ Some m → allows ring i to m

  -- so it is of no message, of one, and of the node's own token to both sides
  nothing_allowed : AllAllowed (nothing HirschbergMsg)
  nothing_allowed Left m e = absurd (cc)
  nothing_allowed Right m e = absurd (cc)

  one_allowed : (side : Side) (m : HirschbergMsg) → allows ring i side m → AllAllowed (one_to side m)
  one_allowed Left m fit Left n e = subst (λ m. allows ring i Left m) (cc) fit
  one_allowed Left m fit Right n e = absurd (cc)
  one_allowed Right m fit Left n e = absurd (cc)
  one_allowed Right m fit Right n e = subst (λ m. allows ring i Right m) (cc) fit

  own_token_allowed : (v hops : ℕ) → v ≡ me → 1 ≤ hops → AllAllowed (to_both (Out v hops))
  own_token_allowed v hops same some Left m e =
      let sent : Out v hops ≡ m = cc in
      subst (λ m. allows ring i Left m) sent (some, own (here ∙ ap Some (sym same)))
  own_token_allowed v hops same some Right m e =
      let sent : Out v hops ≡ m = cc in
      subst (λ m. allows ring i Right m) sent (some, own (here ∙ ap Some (sym same)))

  -- a greater token that arrives goes on over this position
  goes_on : (from : Side) (v : ℕ) → me < v → Reaches ring (other from) v (neighbour (length ring) i from) → Reaches ring (other from) v i
  goes_on Left v less came = over came here less
  goes_on Right v less came = over came here less

  -- the next step of a greater token, and a new token of the node's own, may be on its link
  passed_allowed : (from : Side) (v hops : ℕ) → me < v → Arrives from (Out v hops) → AllAllowed (passed from v hops)
  passed_allowed from v hops less came =
      elim (nat_lt 1 hops) as (λ b. nat_lt 1 hops ≡ b → AllAllowed (if b then one_to (other from) (Out v (hops - 1)) else if hops == 1 then one_to from (Back v) else nothing HirschbergMsg)) [
        | true ↦ λ many. one_allowed (other from) (Out v (hops - 1)) (left_over hops many, goes_on from v less came.1)
        | false ↦ λ few. elim (hops == 1) as (λ b. AllAllowed (if b then one_to from (Back v) else nothing HirschbergMsg)) [
          | true ↦ one_allowed from (Back v) (member_of ring (other from) v (neighbour (length ring) i from) came.1)
          | false ↦ nothing_allowed
        ]
      ] refl
    where
      left_over : (hops : ℕ) → nat_lt 1 hops ≡ true → 1 ≤ hops - 1
      left_over hops many = grind (arith, nat_tests)

  new_token_allowed : (s next : HirschbergState) → s.me ≡ me → AllAllowed (new_token s next)
  new_token_allowed s next same =
      elim (nat_lt (phase s) (phase next)) as (λ b. AllAllowed (if b then to_both (Out s.me (2 ^ phase next)) else nothing HirschbergMsg)) [
        | true ↦ own_token_allowed s.me (2 ^ phase next) same (pow_pos (phase next))
        | false ↦ nothing_allowed
      ]

  -- a message that one receipt causes may be on its link
  sends_allowed : (s : HirschbergState) (from : Side) (m : HirschbergMsg) → s.me ≡ me → Arrives from m → AllAllowed (hirschberg_sends s from m)
  sends_allowed s from (Out v hops) same came =
      elim (v == s.me) as (λ b. AllAllowed (if b then nothing HirschbergMsg else if nat_lt s.me v then passed from v hops else nothing HirschbergMsg)) [
        | true ↦ nothing_allowed
        | false ↦ elim (nat_lt s.me v) as (λ b. nat_lt s.me v ≡ b → AllAllowed (if b then passed from v hops else nothing HirschbergMsg)) [
          | true ↦ λ greater. passed_allowed from v hops (less s.me v greater same) came
          | false ↦ λ _. nothing_allowed
        ] refl
      ]
    where
      less : (x v : ℕ) → nat_lt x v ≡ true → x ≡ me → me < v
      less x v greater same = grind (arith, nat_tests)
  sends_allowed s from (Back v) same came =
      elim (v == s.me) as (λ b. AllAllowed (if b then new_token s (counted s from) else one_to (other from) (Back v))) [
        | true ↦ new_token_allowed s (counted s from) same
        | false ↦ one_allowed (other from) (Back v) came
      ]

  -- every message that the node sends may be on its link
  all_allowed : (receipts : List (Side × HirschbergMsg)) → AllFit hirschberg_fits ring i receipts →
      (to : Side) (k : ℕ) (m : HirschbergMsg) → slice_get (sent_after hirschberg_table me to receipts) k ≡ Some m → allows ring i to m
  all_allowed receipts fit =
      each_sent_after hirschberg_table (IsOwn me) Arrives (λ to m. allows ring i to m) (λ s from m is _. own_next me s from m is)
      (λ s from m to sent is came. sends_allowed s from m is.same came to sent)
      me receipts (own_first me) (own_token_allowed me 1 refl (omega arith)) (each_fits (allows) ring i receipts fit)

  -- a token of this member came to its neighbour, on the way to this position
  record HasCome : Type 0 where
    from : Side
    reached : Reaches ring (other from) me (neighbour (length ring) i from)

  -- the states of this node: it has decided only if its token came
  record IsReached (s : HirschbergState) : Type 0 where
    is_own : IsOwn me s
    came : (v : ℕ) → s.decided ≡ Some v → HasCome

  -- they are so from the first state on, receipt by receipt
  reached_first : IsReached (hirschberg_first me)
  reached_first = record { is_own = own_first me; came = λ v e. absurd (cc) }

  reached_next : (s : HirschbergState) (from : Side) (m : HirschbergMsg) → IsReached s → Arrives from m → IsReached (hirschberg_next s from m)
  reached_next s from m is arrived = record { is_own = own_next me s from m is.is_own; came = came s from m is arrived }
    where
      same_decision : (s : HirschbergState) (side : Side) → (counted s side).decided ≡ s.decided
      same_decision s Left = refl
      same_decision s Right = refl

      came : (s : HirschbergState) (from : Side) (m : HirschbergMsg) → IsReached s → Arrives from m → (v : ℕ) → (hirschberg_next s from m).decided ≡ Some v → HasCome
      came s from (Out w hops) is arrived v =
          elim (w == s.me) as (λ b. w == s.me ≡ b → (if b then record s { decided = Some s.me } else s).decided ≡ Some v → HasCome) [
            | true ↦ λ home _. record { from = from; reached = subst (λ w. Reaches ring (other from) w (neighbour (length ring) i from)) (eqb-true w s.me home ∙ is.is_own.same) arrived.1 }
            | false ↦ λ _ e. is.came v e
          ] refl
      came s from (Back w) is arrived v =
          elim (w == s.me) as (λ b. (if b then counted s from else s).decided ≡ Some v → HasCome) [
            | true ↦ λ e. is.came v (sym (same_decision s from) ∙ e)
            | false ↦ λ e. is.came v e
          ]

  -- A token that came here went all round, since a walk past the last position below it leads home.
  -- So all other identities are smaller.
  round_steps : (from : Side) → IsRing ring → (past : IsOver ring from me (neighbour (length ring) i from)) → length ring ≤ suc past.steps
  round_steps from is past =
      elim (cases_lt (suc past.steps) (length ring)) [
        | inl few ↦ absurd (walk_away (length ring) i from (suc past.steps) (slice_get_within ring i me here) (omega arith) few home)
        | inr many ↦ many
      ]
    where
      home : walk (length ring) i from (suc past.steps) ≡ i
      home = same_position ring (walk (length ring) i from (suc past.steps)) i me is
          (ap (slice_get ring) (sym (walk_first (length ring) i from past.steps)) ∙ past.there) here

  -- a member no further round than v came is not greater
  smaller_past : (from : Side) (past : IsOver ring from me (neighbour (length ring) i from)) (steps j x : ℕ) → steps ≤ past.steps →
      walk (length ring) i from steps ≡ j → slice_get ring j ≡ Some x → x ≤ me
  smaller_past from past zero j x few at there = let e : x ≡ me = cc in omega arith
  smaller_past from past (suc steps) j x few at there =
      let less : x < me = past.smaller steps x (omega arith) (ap (slice_get ring) (walk_first (length ring) i from steps ∙ at) ∙ there) in
      omega arith

  -- so no member is greater
  all_round : IsRing ring → HasCome → (j x : ℕ) → slice_get ring j ≡ Some x → x ≤ me
  all_round is came j x there =
      let past : IsOver ring came.from me (neighbour (length ring) i came.from) =
      subst (λ way. IsOver ring way me (neighbour (length ring) i came.from)) (other_other came.from)
      (over_of ring (other came.from) me (neighbour (length ring) i came.from) came.reached) in
      let reached = walk_reaches (length ring) i came.from j (slice_get_within ring i me here) (slice_get_within ring j x there) in
      let many = round_steps came.from is past in
      smaller_past came.from past reached.0 j x (omega (arith, reached.1)) reached.2 there

  -- a node decides only on the greatest member
  decides_greatest : IsRing ring → (receipts : List (Side × HirschbergMsg)) (v : ℕ) → AllFit hirschberg_fits ring i receipts →
      (state_after hirschberg_table me receipts).decided ≡ Some v → v ≡ greatest_of ring
  decides_greatest is receipts v fit decided =
      let reached : IsReached (state_after hirschberg_table me receipts) =
      state_keeps hirschberg_table IsReached Arrives Arrives reached_next (hirschberg_first me) receipts reached_first (each_fits allows ring i receipts fit) in
      reached.is_own.decides v decided ∙ greatest-unique ring me (record { place = i; there = here }) (λ w other_one. all_round is (reached.came v decided) other_one.place w other_one.there)

-- it is two-way, so that any message may fit on a left link
one_way : true ≡ false → (ring : List ℕ) (i k : ℕ) (m : HirschbergMsg) → hirschberg_fits ring i Left k m → ⊥
one_way never ring i k m fit = absurd (cc)

-- Hirschberg-Sinclair is lawful: it sends both ways and elects the greatest member
pub hirschberg_lawful : Lawful true true hirschberg_table hirschberg_fits greatest_of
hirschberg_lawful = record {
  start_undecided = λ me. refl;
  decision_stays = λ me receipts side m v. decision_stays me (state_after hirschberg_table me receipts) side m v (own_after me receipts);
  one_way = one_way;
  first_sends_fit = λ ring i me side m is here sent. own_token_allowed ring i me here me 1 refl (omega arith) side m sent;
  sends_fit = λ ring i me receipts side k m is here fit sent. all_allowed ring i me here receipts fit side k m sent;
  decides_winner = λ ring i me receipts v is here fit decided. decides_greatest ring i me here is receipts v fit decided;
  winner_is_member = λ ring is. let top = greatest-is_in ring is.some in (top.place, top.there);
  winner_is_greatest = λ _ ring i v is here. greatest-at_least ring v (record { place = i; there = here });
}
