-- What a node's journal says of announcements: who took one knows the leader, and who knows the
-- leader has sent one announcement to the right. None to the left, whatever was received.
use Rattle.std.proofs.Common.{◌≡◌, ℕ, true, false, cond, List, [], ◌∷◌, ◌++◌, Option, Some, None, refl, sym, ap, ap₂, ◌∙◌}
use Rattle.std.proofs.lemmas.List.{append-nil}
use Rattle.std.proofs.lemmas.List.Elements.{filter-append}
use Rattle.ring_id.specs.declared.side.Side.{Side}
use Rattle.ring_id.specs.declared.side.Side.TheVariants.{Left, Right}
use Rattle.ring_id.specs.Sides.{same_side}
use Rattle.ring_election.specs.Tables.{Table, to_side}
use Rattle.ring_election.specs.Traces.{state_from, state_after, taken_from}
use Rattle.ring_node.specs.declared.packet.Packet.{Packet}
use Rattle.ring_node.specs.declared.packet.Packet.TheVariants.{Algo, Leader}
use Rattle.ring_node.specs.Journals.{algo_part, algo_receipt, algo_sends, brought, kept_or, known_after, known_from, news, packets_after, packets_from, state_on}
use Rattle.ring_node.specs.private.Journals.{algos_of}
use Rattle.ring_node.specs.Ports.{all_algos, all_leaders}
use Rattle.ring_world.specs.declared.packet_kind.PacketKind.{PacketKind}
use Rattle.ring_world.specs.declared.packet_kind.PacketKind.TheVariants.{Message, Announcement}
use Rattle.ring_world.specs.PacketKinds.{is_of, of_kind}

-- ---- The two kinds

pub of_kind-append : {M : Type 0} (kind : PacketKind) (ps qs : List (Packet M)) → of_kind kind (ps ++ qs) ≡ of_kind kind ps ++ of_kind kind qs
of_kind-append kind ps qs = filter-append (is_of kind) ps qs

-- the algorithm's messages among packets are those among the packets of their kind
pub algos_of-of_kind : {M : Type 0} (ps : List (Packet M)) → algos_of ps ≡ algos_of (of_kind Message ps)
algos_of-of_kind [] = refl
algos_of-of_kind {M} (Algo m ∷ ps) = ap (λ (l : List M). m ∷ l) (algos_of-of_kind ps)
algos_of-of_kind (Leader v ∷ ps) = algos_of-of_kind ps

-- one receipt more, on both sides of the next lemma
taken_more : {M : Type 0} (side from : Side) (p : Packet M) (receipts : List (Side × M)) (packets : List (Packet M)) → taken_from side receipts ≡ algos_of packets
    → taken_from side (algo_receipt from p ++ receipts) ≡ algos_of (cond (same_side side from) (p ∷ packets) packets)
taken_more {M} side from (Algo m) receipts packets same =
    elim (same_side side from) as (λ b. cond b (m ∷ taken_from side receipts) (taken_from side receipts) ≡ algos_of (cond b (Algo m ∷ packets) packets)) [
      | true ↦ ap (λ (l : List M). m ∷ l) same
      | false ↦ same
    ]
taken_more side from (Leader v) receipts packets same =
    elim (same_side side from) as (λ b. taken_from side receipts ≡ algos_of (cond b (Leader v ∷ packets) packets)) [
      | true ↦ same
      | false ↦ same
    ]

-- what the algorithm took from a side are its messages among the packets that were taken there
pub taken_from-algo_part : {M : Type 0} (side : Side) (js : List (Side × Packet M)) → taken_from side (algo_part js) ≡ algos_of (taken_from side js)
taken_from-algo_part side [] = refl
taken_from-algo_part side (r ∷ js) = taken_more side r.0 r.1 (algo_part js) (taken_from side js) (taken_from-algo_part side js)

no_announcement : {M : Type 0} (o : Option M) → of_kind Announcement (all_algos o) ≡ []
no_announcement None = refl
no_announcement (Some m) = refl

announces : (M : Type 0) (o : Option ℕ) → of_kind {M = M} Announcement (all_leaders o) ≡ all_leaders o
announces M None = refl
announces M (Some v) = refl

-- ---- Who knows

module _ {S M : Type 0} (t : Table S M) where
  -- what is known stays known
  stays_known : (s : S) (v : ℕ) (js : List (Side × Packet M)) → known_from t s (Some v) js ≡ Some v
  stays_known s v [] = refl
  stays_known s v (r ∷ js) = stays_known (state_on t s r.0 r.1) v js

  decided_from : (s : S) (js : List (Side × Packet M)) (v : ℕ) → t.decided s ≡ None → t.decided (state_from t s (algo_part js)) ≡ Some v → (w : ℕ) × (known_from t s None js ≡ Some w)
  decided_from s [] v none some = cc
  decided_from s ((side, Leader w) ∷ js) v none some = (w, stays_known s w js)
  decided_from s ((side, Algo m) ∷ js) v none some =
      elim (t.decided (t.next s side m)) as (λ o. t.decided (t.next s side m) ≡ o → (w : ℕ) × (known_from t (t.next s side m) (kept_or None o) js ≡ Some w)) [
        | None ↦ λ e. decided_from (t.next s side m) js v e some
        | Some w ↦ λ e. (w, stays_known (t.next s side m) w js)
      ] refl

  -- a node whose algorithm has decided knows the leader
  pub decided_knows : (me : ℕ) (js : List (Side × Packet M)) (v : ℕ) → t.decided (t.first me) ≡ None → t.decided (state_after t me (algo_part js)) ≡ Some v → (w : ℕ) × (known_after t me js ≡ Some w)
  decided_knows me js v none some = decided_from (t.first me) js v none some

  -- one packet from a side, which may be this one
  not_this : (side from : Side) (m : M) (js : List (Side × Packet M)) → of_kind Announcement (taken_from side js) ≡ [] → of_kind Announcement (cond (same_side side from) (Algo m ∷ taken_from side js) (taken_from side js)) ≡ []
  not_this side from m js rest =
      elim (same_side side from) as (λ b. of_kind Announcement (cond b (Algo m ∷ taken_from side js) (taken_from side js)) ≡ []) [
        | true ↦ rest
        | false ↦ rest
      ]

  unknown_from : (s : S) (js : List (Side × Packet M)) (side : Side) → known_from t s None js ≡ None → of_kind Announcement (taken_from side js) ≡ []
  unknown_from s [] side none = refl
  unknown_from s ((from, Leader w) ∷ js) side none = let known = stays_known s w js in cc
  unknown_from s ((from, Algo m) ∷ js) side none =
      elim (t.decided (t.next s from m)) as (λ o. known_from t (t.next s from m) (kept_or None o) js ≡ None → of_kind Announcement (taken_from side ((from, Algo m) ∷ js)) ≡ []) [
        | None ↦ λ e. not_this side from m js (unknown_from (t.next s from m) js side e)
        | Some w ↦ λ e. let known = stays_known (t.next s from m) w js in cc
      ] none

  -- a node that doesn't know the leader has taken no announcement
  pub unknown_took_none : (me : ℕ) (js : List (Side × Packet M)) (side : Side) → known_after t me js ≡ None → of_kind Announcement (taken_from side js) ≡ []
  unknown_took_none me js side none = unknown_from (t.first me) js side none

  -- ---- Who announces

  sends_none : (to : Side) (s : S) (side : Side) (p : Packet M) → of_kind Announcement (algo_sends t to s side p) ≡ []
  sends_none to s side (Algo m) = no_announcement (to_side to (t.next_sends s side m))
  sends_none to s side (Leader v) = refl

  -- what is announced first is all that is announced
  first_news : (s : S) (known coming : Option ℕ) (js : List (Side × Packet M))
      → all_leaders {M = M} (news known coming) ++ all_leaders (news (kept_or known coming) (known_from t s (kept_or known coming) js)) ≡ all_leaders (news known (known_from t s (kept_or known coming) js))
  first_news s None None js = refl
  first_news s None (Some v) js = ap (λ (o : Option ℕ). all_leaders {M = M} o) (sym (stays_known s v js))
  first_news s (Some v) coming js = refl

  announced_from : (s : S) (known : Option ℕ) (js : List (Side × Packet M)) → of_kind Announcement (packets_from t Right s known js) ≡ all_leaders (news known (known_from t s known js))
  announced_from s None [] = refl
  announced_from s (Some v) [] = refl
  announced_from s known (r ∷ js) =
      let sends : List (Packet M) = algo_sends t Right s r.0 r.1 in
      let coming : Option ℕ = brought t s r.0 r.1 in
      let later : List (Packet M) = packets_from t Right (state_on t s r.0 r.1) (kept_or known coming) js in
      let first : of_kind Announcement (sends ++ all_leaders (news known coming)) ≡ all_leaders (news known coming) =
      of_kind-append Announcement sends (all_leaders (news known coming)) ∙ ap₂ (λ (a b : List (Packet M)). a ++ b) (sends_none Right s r.0 r.1) (announces M (news known coming)) in
      of_kind-append Announcement (sends ++ all_leaders (news known coming)) later
      ∙ ap₂ (λ (a b : List (Packet M)). a ++ b) first (announced_from (state_on t s r.0 r.1) (kept_or known coming) js)
      ∙ first_news (state_on t s r.0 r.1) known coming js

  -- a node has announced to the right what it knows, once
  pub announced_right : (me : ℕ) (js : List (Side × Packet M)) → of_kind Announcement (packets_after t me Right js) ≡ all_leaders (known_after t me js)
  announced_right me js =
      of_kind-append Announcement (all_algos (to_side Right (t.first_sends me))) (packets_from t Right (t.first me) None js)
      ∙ ap₂ (λ (a b : List (Packet M)). a ++ b) (no_announcement (to_side Right (t.first_sends me))) (announced_from (t.first me) None js)

  unannounced_from : (s : S) (known : Option ℕ) (js : List (Side × Packet M)) → of_kind Announcement (packets_from t Left s known js) ≡ []
  unannounced_from s known [] = refl
  unannounced_from s known (r ∷ js) =
      let sends : List (Packet M) = algo_sends t Left s r.0 r.1 in
      let later : List (Packet M) = packets_from t Left (state_on t s r.0 r.1) (kept_or known (brought t s r.0 r.1)) js in
      of_kind-append Announcement (sends ++ []) later
      ∙ ap₂ (λ (a b : List (Packet M)). a ++ b) (ap (of_kind Announcement) (append-nil sends) ∙ sends_none Left s r.0 r.1) (unannounced_from (state_on t s r.0 r.1) (kept_or known (brought t s r.0 r.1)) js)

  -- and nothing to the left
  pub announced_left : (me : ℕ) (js : List (Side × Packet M)) → of_kind Announcement (packets_after t me Left js) ≡ []
  announced_left me js =
      of_kind-append Announcement (all_algos (to_side Left (t.first_sends me))) (packets_from t Left (t.first me) None js)
      ∙ ap₂ (λ (a b : List (Packet M)). a ++ b) (no_announcement (to_side Left (t.first_sends me))) (unannounced_from (t.first me) None js)
