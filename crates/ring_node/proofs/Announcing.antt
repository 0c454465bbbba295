-- Announcements among the packets that a node sends. There is at most one, and its place gives how
-- many messages of the algorithm were sent before each packet.
use Rattle.std.proofs.Common.{◌≡◌, ◌+◌, ◌-◌, ◌≤◌, ℕ, zero, suc, cond, nat_lt, List, [], ◌∷◌, ◌++◌, length, take, Option, Some, None, option_map, refl, sym, ap, ◌∙◌, arith}
use Rattle.std.proofs.lemmas.Bool.Decides.{nat_tests}
use Rattle.ring_id.specs.declared.side.Side.{Side}
use Rattle.ring_id.specs.declared.side.Side.TheVariants.{Left, Right}
use Rattle.ring_election.specs.Tables.{Table, to_side}
use Rattle.ring_node.specs.declared.packet.Packet.{Packet}
use Rattle.ring_node.specs.declared.packet.Packet.TheVariants.{Algo, Leader}
use Rattle.ring_node.specs.Journals.{algo_count, algo_sends, announcement, brought, kept_or, leader_count, news, packets_after, packets_from, state_on}
use Rattle.ring_node.specs.private.Journals.{leader_place}
use Rattle.ring_node.specs.Ports.{all_algos}
use Rattle.ring_node.proofs.Receipts.{leader_count-append}

-- a message that is sent leaves the place of the announcement
pub leader_place-message : {M : Type 0} (ps : List (Packet M)) (m : M) → leader_place (ps ++ Algo m ∷ []) ≡ leader_place ps
leader_place-message [] m = refl
leader_place-message (Algo x ∷ ps) m = ap (option_map suc) (leader_place-message ps m)
leader_place-message (Leader v ∷ ps) m = ap (λ (o : Option ℕ). kept_or (option_map suc o) (Some 0)) (leader_place-message ps m)

-- an announcement comes after all packets that were sent before
pub leader_place-announcement : {M : Type 0} (ps : List (Packet M)) (v : ℕ) → leader_place (ps ++ Leader v ∷ []) ≡ Some (length ps)
leader_place-announcement [] v = refl
leader_place-announcement (Algo x ∷ ps) v = ap (option_map suc) (leader_place-announcement ps v)
leader_place-announcement (Leader w ∷ ps) v = ap (λ (o : Option ℕ). kept_or (option_map suc o) (Some 0)) (leader_place-announcement ps v)

-- without an announcement there is no place, and all packets are messages
no_place : {M : Type 0} (ps : List (Packet M)) → leader_count ps ≡ 0 → leader_place ps ≡ None
no_place [] none = refl
no_place (Algo m ∷ ps) none = ap (option_map suc) (no_place ps none)
no_place (Leader v ∷ ps) none = absurd (omega arith)

all_messages : {M : Type 0} (ps : List (Packet M)) (k : ℕ) → leader_count ps ≡ 0 → k ≤ length ps → algo_count (take k ps) ≡ k
all_messages ps zero none within = refl
all_messages [] (suc k) none within = absurd (omega arith)
all_messages (Algo m ∷ ps) (suc k) none within = omega (arith, all_messages ps k none (omega arith))
all_messages (Leader v ∷ ps) (suc k) none within = absurd (omega arith)

-- how many of the first packets are messages, if the announcement has this place
abbrev pub messages_before : Option ℕ → ℕ → ℕ
messages_before None k = k
messages_before (Some place) k = cond (nat_lt place k) (k - 1) k

one_message_more : (place : Option ℕ) (k : ℕ) → messages_before (option_map suc place) (suc k) ≡ messages_before place k + 1
one_message_more None k = omega arith
one_message_more (Some place) k = grind (arith, nat_tests)

none_before_first : (place : Option ℕ) → messages_before place 0 ≡ 0
none_before_first None = refl
none_before_first (Some place) = grind (arith, nat_tests)

-- if there is at most one announcement, its place gives how many messages were sent before
pub counted_before : {M : Type 0} (ps : List (Packet M)) (k : ℕ) → leader_count ps ≤ 1 → k ≤ length ps → algo_count (take k ps) ≡ messages_before (leader_place ps) k
counted_before ps zero once within = sym (none_before_first (leader_place ps))
counted_before [] (suc k) once within = absurd (omega arith)
counted_before (Algo m ∷ ps) (suc k) once within =
    ap (λ (n : ℕ). n + 1) (counted_before ps k once (omega arith)) ∙ sym (one_message_more (leader_place ps) k)
counted_before (Leader v ∷ ps) (suc k) once within =
    let none : leader_count ps ≡ 0 = omega arith in
    let all = all_messages ps k none (omega arith) in
    rw (no_place ps none) (all ∙ grind (arith, nat_tests))

-- what the algorithm sends has no announcement
leader_count-all_algos : {M : Type 0} (o : Option M) → leader_count (all_algos o) ≡ 0
leader_count-all_algos None = refl
leader_count-all_algos (Some m) = refl

leader_count-none : (M : Type 0) (to : Side) → leader_count (announcement {M = M} to None) ≡ 0
leader_count-none M Left = refl
leader_count-none M Right = refl

leader_count-some : (M : Type 0) (to : Side) (v : ℕ) → leader_count (announcement {M = M} to (Some v)) ≤ 1
leader_count-some M Left v = omega arith
leader_count-some M Right v = omega arith

module _ {S M : Type 0} (t : Table S M) where
  leader_count-algo_sends : (to : Side) (s : S) (side : Side) (p : Packet M) → leader_count (algo_sends t to s side p) ≡ 0
  leader_count-algo_sends to s side (Algo m) = leader_count-all_algos (to_side to (t.next_sends s side m))
  leader_count-algo_sends to s side (Leader v) = refl

  -- announcements among three lists that are sent one after another
  counted_three : (xs ys zs : List (Packet M)) → leader_count ((xs ++ ys) ++ zs) ≡ leader_count xs + leader_count ys + leader_count zs
  counted_three xs ys zs = leader_count-append (xs ++ ys) zs ∙ ap (λ (n : ℕ). n + leader_count zs) (leader_count-append xs ys)

  -- a node that knows the leader announces no more
  none_later : (to : Side) (s : S) (v : ℕ) (js : List (Side × Packet M)) → leader_count (packets_from t to s (Some v) js) ≡ 0
  none_later to s v [] = refl
  none_later to s v (r ∷ js) =
      omega (
        arith,
        counted_three (algo_sends t to s r.0 r.1) (announcement to None) (packets_from t to (state_on t s r.0 r.1) (Some v) js),
        leader_count-algo_sends to s r.0 r.1,
        leader_count-none M to,
        none_later to (state_on t s r.0 r.1) v js,
      )

  -- a node that does not know the leader yet announces at most once
  once_from : (to : Side) (s : S) (js : List (Side × Packet M)) → leader_count (packets_from t to s None js) ≤ 1
  once_from to s [] = omega arith
  once_from to s (r ∷ js) =
      let s' : S = state_on t s r.0 r.1 in
      let rest = once_from to s' js in
      let sends : List (Packet M) = algo_sends t to s r.0 r.1 in
      let silent = leader_count-algo_sends to s r.0 r.1 in
      elim (brought t s r.0 r.1) as (λ o. leader_count ((sends ++ announcement to (news None o)) ++ packets_from t to s' (kept_or None o) js) ≤ 1) [
        | None ↦ omega (arith, counted_three sends (announcement to None) (packets_from t to s' None js), silent, leader_count-none M to, rest)
        | Some v ↦ omega (arith, counted_three sends (announcement to (Some v)) (packets_from t to s' (Some v) js), silent, leader_count-some M to v, none_later to s' v js)
      ]

  -- a node announces at most once
  pub announced_once : (me : ℕ) (to : Side) (js : List (Side × Packet M)) → leader_count (packets_after t me to js) ≤ 1
  announced_once me to js =
      omega (arith, leader_count-append (all_algos (to_side to (t.first_sends me))) (packets_from t to (t.first me) None js), leader_count-all_algos (to_side to (t.first_sends me)), once_from to (t.first me) js)
