-- A node of the sum whose receipts are those of one algorithm, put into the sum, knows what the node of that
-- algorithm knows, and has sent what that has sent, put into the sum.
use Rattle.std.specs.Prelude.{◌≡◌, ℕ, true, false, cond, List, [], ◌∷◌, ◌++◌, length, map, Option, Some, None, option_map, slice_get, refl}
use Rattle.std.proofs.Common.{◌∙◌, ap, ap₂, sym}
use Rattle.std.proofs.lemmas.List.{map-append}
use Rattle.std.proofs.lemmas.Option.{slice_get-map}
use Rattle.ring_id.specs.declared.side.Side.{Side}
use Rattle.ring_id.specs.declared.side.Side.TheVariants.{Left, Right}
use Rattle.ring_id.specs.Sides.{other, same_side}
use Rattle.ring_roster.specs.Ring.{neighbour}
use Rattle.ring_election.specs.Families.{AllFit, Fitting}
use Rattle.ring_election.specs.Tables.{Table, to_side}
use Rattle.ring_election.specs.Traces.{taken_from}
use Rattle.ring_node.specs.declared.packet.Packet.{Packet}
use Rattle.ring_node.specs.declared.packet.Packet.TheVariants.{Algo, Leader}
use Rattle.ring_node.specs.Journals.{algo_part, algo_receipt, algo_sends, announcement, brought, kept_or, known_after, known_from, news, packets_after, packets_from, state_on}
use Rattle.ring_node.specs.Ports.{all_algos}
use Rattle.ring_any.specs.Variants.{Variant, lift_table}
use Rattle.ring_any.specs.laws.Lifted.{option_map-some}
use Rattle.ring_any.specs.laws.Lowered.{to_side-put_sends}
use Rattle.ring_schedule.specs.Under.{put_journal, put_packet}

-- what is taken from a side, where each message is exchanged for another
taken_from-map : {A B : Type 0} (f : A → B) (side : Side) (rs : List (Side × A)) → taken_from side (map (λ (r : Side × A). (r.0, f r.1)) rs) ≡ map f (taken_from side rs)
taken_from-map f side [] = refl
taken_from-map {A} {B} f side (r ∷ rs) =
    let rest = taken_from-map f side rs in
    elim (same_side side r.0) as (λ b. cond b (f r.1 ∷ taken_from side (map (λ (r : Side × A). (r.0, f r.1)) rs)) (taken_from side (map (λ (r : Side × A). (r.0, f r.1)) rs)) ≡ map f (cond b (r.1 ∷ taken_from side rs) (taken_from side rs))) [
      | true ↦ ap (λ (l : List B). f r.1 ∷ l) rest
      | false ↦ rest
    ]

module _ {WM M : Type 0} (messages : Variant WM M) where
  -- messages that are sent, as packets
  all_algos-put : (o : Option M) → all_algos (option_map messages.put o) ≡ map (put_packet messages) (all_algos o)
  all_algos-put None = refl
  all_algos-put (Some m) = refl

  -- an announcement is the same
  announcement-put : (to : Side) (o : Option ℕ) → announcement to o ≡ map (put_packet messages) (announcement to o)
  announcement-put Left o = refl
  announcement-put Right None = refl
  announcement-put Right (Some v) = refl

  -- what was taken from a side
  pub taken_from-put : (side : Side) (js : List (Side × Packet M)) → taken_from side (put_journal messages js) ≡ map (put_packet messages) (taken_from side js)
  taken_from-put side js = taken_from-map (put_packet messages) side js

  -- the algorithm's part of a receipt, and of a journal
  algo_receipt-put : (side : Side) (p : Packet M) → algo_receipt side (put_packet messages p) ≡ map (λ (r : Side × M). (r.0, messages.put r.1)) (algo_receipt side p)
  algo_receipt-put side (Algo m) = refl
  algo_receipt-put side (Leader v) = refl

  algo_part-put : (js : List (Side × Packet M)) → algo_part (put_journal messages js) ≡ map (λ (r : Side × M). (r.0, messages.put r.1)) (algo_part js)
  algo_part-put [] = refl
  algo_part-put (r ∷ rs) =
      ap₂ (λ (a b : List (Side × WM)). a ++ b) (algo_receipt-put r.0 r.1) (algo_part-put rs)
      ∙ sym (map-append (λ (r : Side × M). (r.0, messages.put r.1)) (algo_receipt r.0 r.1) (algo_part rs))

  -- where each message of a journal fits, it fits once it is put into the sum
  pub fitting-put : (fits : Fitting M) (on_sum : Fitting WM) → ((ring : List ℕ) (i : ℕ) (side : Side) (k : ℕ) (m : M) → fits ring i side k m → on_sum ring i side k (messages.put m))
      → (ring : List ℕ) (i : ℕ) (js : List (Side × Packet M)) → AllFit fits ring i (algo_part js) → AllFit on_sum ring i (algo_part (put_journal messages js))
  fitting-put fits on_sum put ring i js all = record {
    each = λ side k m taken.
        let of_sum : option_map messages.put (slice_get (taken_from side (algo_part js)) k) ≡ Some m =
        sym (slice_get-map messages.put (taken_from side (algo_part js)) k)
        ∙ ap (λ (l : List WM). slice_get l k) (sym (ap (taken_from side) (algo_part-put js) ∙ taken_from-map messages.put side (algo_part js)))
        ∙ taken in
        let own = option_map-some messages.put (slice_get (taken_from side (algo_part js)) k) m of_sum in
        rw own.2 (put ring (neighbour (length ring) i side) (other side) k own.0 (all.each side k own.0 own.1));
  }

module _ {WS S WM M : Type 0} (states : Variant WS S) (messages : Variant WM M) (t : Table S M) where
  -- the state after a packet
  state_on-put : (s : S) (side : Side) (p : Packet M) → state_on (lift_table states messages t) (states.put s) side (put_packet messages p) ≡ states.put (state_on t s side p)
  state_on-put s side (Algo m) = rw (states.of_put s, messages.of_put m) refl
  state_on-put s side (Leader v) = refl

  -- the leader that a packet brings
  brought-put : (s : S) (side : Side) (p : Packet M) → brought (lift_table states messages t) (states.put s) side (put_packet messages p) ≡ brought t s side p
  brought-put s side (Algo m) = rw (states.of_put s, messages.of_put m, states.of_put (t.next s side m)) refl
  brought-put s side (Leader v) = refl

  -- what is sent because of it
  algo_sends-put : (to : Side) (s : S) (side : Side) (p : Packet M) → algo_sends (lift_table states messages t) to (states.put s) side (put_packet messages p) ≡ map (put_packet messages) (algo_sends t to s side p)
  algo_sends-put to s side (Algo m) =
      rw (states.of_put s, messages.of_put m)
      (ap all_algos (to_side-put_sends messages to (t.next_sends s side m)) ∙ all_algos-put messages (to_side to (t.next_sends s side m)))
  algo_sends-put to s side (Leader v) = refl

  known_from-put : (s : S) (known : Option ℕ) (js : List (Side × Packet M)) → known_from (lift_table states messages t) (states.put s) known (put_journal messages js) ≡ known_from t s known js
  known_from-put s known [] = refl
  known_from-put s known (r ∷ rs) =
      ap₂ (λ (after : WS) (coming : Option ℕ). known_from (lift_table states messages t) after (kept_or known coming) (put_journal messages rs)) (state_on-put s r.0 r.1) (brought-put s r.0 r.1)
      ∙ known_from-put (state_on t s r.0 r.1) (kept_or known (brought t s r.0 r.1)) rs

  packets_from-put : (to : Side) (s : S) (known : Option ℕ) (js : List (Side × Packet M)) → packets_from (lift_table states messages t) to (states.put s) known (put_journal messages js) ≡ map (put_packet messages) (packets_from t to s known js)
  packets_from-put to s known [] = refl
  packets_from-put to s known (r ∷ rs) =
      let sends = algo_sends t to s r.0 r.1 in
      let leader = announcement {M = M} to (news known (brought t s r.0 r.1)) in
      rw (state_on-put s r.0 r.1, brought-put s r.0 r.1)
      (ap₂ (λ (a b : List (Packet WM)). a ++ b)
      (ap₂ (λ (a b : List (Packet WM)). a ++ b) (algo_sends-put to s r.0 r.1) (announcement-put messages to (news known (brought t s r.0 r.1)))
      ∙ sym (map-append (put_packet messages) sends leader))
      (packets_from-put to (state_on t s r.0 r.1) (kept_or known (brought t s r.0 r.1)) rs)
      ∙ sym (map-append (put_packet messages) (sends ++ leader) (packets_from t to (state_on t s r.0 r.1) (kept_or known (brought t s r.0 r.1)) rs)))

  -- the leader that the node knows
  pub known_after-put : (me : ℕ) (js : List (Side × Packet M)) → known_after (lift_table states messages t) me (put_journal messages js) ≡ known_after t me js
  known_after-put me js = known_from-put (t.first me) None js

  -- all that it has sent to a side
  pub packets_after-put : (me : ℕ) (to : Side) (js : List (Side × Packet M)) → packets_after (lift_table states messages t) me to (put_journal messages js) ≡ map (put_packet messages) (packets_after t me to js)
  packets_after-put me to js =
      ap₂ (λ (a b : List (Packet WM)). a ++ b)
      (ap all_algos (to_side-put_sends messages to (t.first_sends me)) ∙ all_algos-put messages (to_side to (t.first_sends me)))
      (packets_from-put to (t.first me) None js)
      ∙ sym (map-append (put_packet messages) (all_algos (to_side to (t.first_sends me))) (packets_from t to (t.first me) None js))
