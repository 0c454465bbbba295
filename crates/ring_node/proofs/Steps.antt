-- One step of a node keeps the invariant of its type, with any lawful algorithm.
use Rattle.std.proofs.Common.{◌≡◌, ◌+◌, ℕ, Bool, false, List, [], ◌∷◌, ◌++◌, length, Option, Some, None, IfSome, slice_get, take, refl, sym, ap, ap₂, ◌∙◌, append_assoc}
use Rattle.std.proofs.lemmas.List.{append-nil}
use Rattle.std.proofs.lemmas.Option.{slice_get_within}
use Rattle.ring_id.specs.declared.side.Side.{Side}
use Rattle.ring_id.specs.declared.side.Side.TheVariants.{Left, Right}
use Rattle.ring_id.specs.Sides.{other}
use Rattle.ring_roster.specs.Ring.{IsRing, neighbour}
use Rattle.ring_election.specs.Families.{AllFit, Fitting}
use Rattle.ring_election.specs.Laws.{Lawful}
use Rattle.ring_election.specs.Tables.{Table, to_side}
use Rattle.ring_election.specs.Traces.{taken_from}
use Rattle.ring_node.specs.declared.charter.Charter.{Charter}
use Rattle.ring_node.specs.declared.packet.Packet.{Packet}
use Rattle.ring_node.specs.declared.packet.Packet.TheVariants.{Algo, Leader}
use Rattle.ring_node.specs.declared.port.Port.{Port}
use Rattle.ring_node.specs.private.Envelopes.{AllSendable}
use Rattle.ring_node.specs.Envelopes.{IsProper, IsSendable, index_after}
use Rattle.ring_node.specs.Journals.{algo_count, algo_part, algo_sends, announcement, brought, kept_or, known_after, leader_count, news, packets_after, state_on}
use Rattle.ring_node.specs.private.Kept.{AllName, IsPort, IsSeated}
use Rattle.ring_node.specs.Nodes.{Seated}
use Rattle.ring_node.specs.Ports.{all_algos, all_leaders}
use Rattle.ring_node.specs.Reports.{IsTruthful}
use Rattle.ring_node.proofs.Receipts.{AllFit-snoc, algo_at, algos_of-packets_after, leader_at, AllName-all_algos, AllName-announcement, AllName-append, algo_count-append, algo_part-snoc, known_after-snoc, leader_count-append, length-taken_from-algo_part, packets_after-snoc, state_after-snoc, taken_from-append}

-- what the algorithm sends has no announcement
AllName-algo_sends : {S M : Type 0} (t : Table S M) (w : ℕ) (to : Side) (s : S) (side : Side) (p : Packet M) → AllName w (algo_sends t to s side p)
AllName-algo_sends t w to s side (Algo m) = AllName-all_algos w (to_side to (t.next_sends s side m))
AllName-algo_sends t w to s side (Leader v) = tt

-- what a step counts is what it takes
pub port_counts : {M : Type 0} (to from : Side) (p : Packet M) (js : List (Side × Packet M)) → algo_count (taken_from to (js ++ (from, p) ∷ [])) ≡ algo_count (taken_from to js) + algo_count (taken_from to ((from, p) ∷ []))
port_counts to from p js = ap algo_count (taken_from-append to js ((from, p) ∷ [])) ∙ algo_count-append (taken_from to js) (taken_from to ((from, p) ∷ []))

pub port_leaders : {M : Type 0} (to from : Side) (p : Packet M) (js : List (Side × Packet M)) → leader_count (taken_from to (js ++ (from, p) ∷ [])) ≡ leader_count (taken_from to js) + leader_count (taken_from to ((from, p) ∷ []))
port_leaders to from p js = ap leader_count (taken_from-append to js ((from, p) ∷ [])) ∙ leader_count-append (taken_from to js) (taken_from to ((from, p) ∷ []))

-- a node that has started has sent what its algorithm sends first
pub seated_first : {S M : Type 0} (t : Table S M) (fits : Fitting M) (winner : List ℕ → ℕ) (ring : List ℕ) (position me : ℕ)
    → IsRing ring
    → slice_get ring position ≡ Some me
    → (state : S) → state ≡ t.first me
    → (left right : Port M)
    → left.sent.items ≡ all_algos (to_side Left (t.first_sends me)) × (left.algos ≡ 0) × (left.leaders ≡ 0)
    → right.sent.items ≡ all_algos (to_side Right (t.first_sends me)) × (right.algos ≡ 0) × (right.leaders ≡ 0)
    → IsSeated t fits winner ring position me state [] left right None
seated_first t fits winner ring position me is_ring here state state_is left right left_is right_is = record {
  is_ring = is_ring;
  here = here;
  state_is = state_is;
  known_is = refl;
  left_is = record { sent_is = left_is.0 ∙ sym (append-nil _); algos_is = left_is.1; leaders_is = left_is.2 };
  right_is = record { sent_is = right_is.0 ∙ sym (append-nil _); algos_is = right_is.1; leaders_is = right_is.2 };
  fitting = record { each = λ side k m h. cc };
  knows = λ v h. cc;
  names = λ to. AllName-append (winner ring) (all_algos (to_side to (t.first_sends me))) [] (AllName-all_algos (winner ring) (to_side to (t.first_sends me))) tt;
}

-- a node of which a step has changed nothing is seated still
pub seated_still : {S M : Type 0} (t : Table S M) (fits : Fitting M) (winner : List ℕ → ℕ) (ring : List ℕ) (position me : ℕ) (state : S) (js : List (Side × Packet M)) (left right : Port M) (known : Option ℕ)
    → IsSeated t fits winner ring position me state js left right known
    → (state' : S) → state' ≡ state
    → (js' : List (Side × Packet M)) → js' ≡ js
    → (left' right' : Port M)
    → (left'.sent.items ≡ left.sent.items) × (left'.algos ≡ left.algos) × (left'.leaders ≡ left.leaders)
    → (right'.sent.items ≡ right.sent.items) × (right'.algos ≡ right.algos) × (right'.leaders ≡ right.leaders)
    → IsSeated t fits winner ring position me state' js' left' right' known
seated_still t fits winner ring position me state js left right known old state' same_state js' same_journal left' right' same_left same_right =
    rw (same_state, same_journal)
    (record {
      is_ring = old.is_ring;
      here = old.here;
      state_is = old.state_is;
      known_is = old.known_is;
      left_is = record { sent_is = same_left.0 ∙ old.left_is.sent_is; algos_is = same_left.1 ∙ old.left_is.algos_is; leaders_is = same_left.2 ∙ old.left_is.leaders_is };
      right_is = record { sent_is = same_right.0 ∙ old.right_is.sent_is; algos_is = same_right.1 ∙ old.right_is.algos_is; leaders_is = same_right.2 ∙ old.right_is.leaders_is };
      fitting = old.fitting;
      knows = old.knows;
      names = old.names;
    })

-- a node with the same journal is the same
pub journal_seen : (E M : Type 0) (charter : Charter E) (position : ℕ) (js js' : List (Side × Packet M)) → js' ≡ js
    → ◌≡◌ {A = Seated E M} (record { charter = charter; position = position; journal = js' }) (record { charter = charter; position = position; journal = js })
journal_seen E M charter position js js' same = rw same refl

-- what is news is the winner, if it is there
pub truthful_news : (winner : List ℕ → ℕ) (ring : List ℕ) (position me : ℕ) → IsRing ring → slice_get ring position ≡ Some me
    → (leader : Option ℕ) → ((v : ℕ) → leader ≡ Some v → v ≡ winner ring) → IfSome leader (IsTruthful winner ring me)
truthful_news winner ring position me is_ring here None wins = tt
truthful_news winner ring position me is_ring here (Some v) wins = record { is_ring = is_ring; inside = (position, here); wins = wins v refl }

-- one of packets that can be sent can be sent
pub sendable_at : {M : Type 0} (fits : Fitting M) (winner : List ℕ → ℕ) (ring : List ℕ) (from : ℕ) (side : Side) (packets : List (Packet M)) (k : ℕ)
    → AllSendable fits winner ring from side packets
    → (packet : Option (Packet M)) → packet ≡ slice_get packets k
    → IfSome packet (λ p. IsSendable fits winner ring from side (index_after (take k packets) p) p)
sendable_at fits winner ring from side packets k all None is = tt
sendable_at fits winner ring from side packets k all (Some p) is = all.each k p (sym is)

-- the leader known after a step is news if none was known before it
news_of_kept : (known coming : Option ℕ) → news known (kept_or known coming) ≡ news known coming
news_of_kept None coming = refl
news_of_kept (Some v) coming = refl

-- an element after a list is at its length
after_all : {A : Type 0} (xs : List A) (y : A) (ys : List A) → slice_get (xs ++ y ∷ ys) (length xs) ≡ Some y
after_all [] y ys = refl
after_all (x ∷ xs) y ys = after_all xs y ys

module _ {S M : Type 0} {two_way greatest : Bool} (t : Table S M) (fits : Fitting M) (winner : List ℕ → ℕ) (lawful : Lawful two_way greatest t fits winner)
    (ring : List ℕ) (position me : ℕ) (state : S) (js : List (Side × Packet M)) (left right : Port M) (known : Option ℕ)
    (old : IsSeated t fits winner ring position me state js left right known) (from : Side) where
  -- what the algorithm has taken still fits
  pub fits_after : (p : Packet M) → IsProper fits winner ring (neighbour (length ring) position from) (other from) (index_after (taken_from from js) p) p → AllFit fits ring position (algo_part (js ++ (from, p) ∷ []))
  fits_after (Algo m) proper =
      rw algo_part-snoc (AllFit-snoc fits ring position (algo_part js) m old.fitting from (rw (length-taken_from-algo_part from js) proper))
  fits_after (Leader v) proper = rw (algo_part-snoc, append-nil) old.fitting

  -- the leader that a packet brings is the winner
  pub brought_wins : (p : Packet M) → IsProper fits winner ring (neighbour (length ring) position from) (other from) (index_after (taken_from from js) p) p → (v : ℕ) → brought t state from p ≡ Some v → v ≡ winner ring
  brought_wins (Algo m) proper v h =
      lawful.decides_winner ring position me (algo_part (js ++ (from, Algo m) ∷ [])) v old.is_ring old.here (fits_after (Algo m) proper)
      (ap t.decided (state_after-snoc t me js from (Algo m)) ∙ ap (λ (s : S). t.decided (t.next s from m)) (sym old.state_is) ∙ h)
  brought_wins (Leader w) proper v h = let same : w ≡ v = cc in sym same ∙ proper.0

  kept_wins : (known' : Option ℕ) (coming : Option ℕ) → ((v : ℕ) → known' ≡ Some v → v ≡ winner ring) → ((v : ℕ) → coming ≡ Some v → v ≡ winner ring) → (v : ℕ) → kept_or known' coming ≡ Some v → v ≡ winner ring
  kept_wins None coming a b v h = b v h
  kept_wins (Some w) coming a b v h = a v h

  news_wins : (known' : Option ℕ) (coming : Option ℕ) → ((v : ℕ) → coming ≡ Some v → v ≡ winner ring) → (v : ℕ) → news known' coming ≡ Some v → v ≡ winner ring
  news_wins None coming b v h = b v h
  news_wins (Some w) coming b v h = cc

  -- the news of a step is the winner
  pub news_is_winner : (p : Packet M) → IsProper fits winner ring (neighbour (length ring) position from) (other from) (index_after (taken_from from js) p) p → (v : ℕ) → news known (brought t state from p) ≡ Some v → v ≡ winner ring
  news_is_winner p proper = news_wins known (brought t state from p) (brought_wins p proper)

  -- what is sent after the step
  pub sent_next : (to : Side) (p : Packet M) → packets_after t me to (js ++ (from, p) ∷ []) ≡ packets_after t me to js ++ (algo_sends t to state from p ++ announcement to (news known (brought t state from p)))
  sent_next to p = rw (old.state_is, old.known_is) (packets_after-snoc t me to js from p)

  -- what is known after the step
  pub known_next : (p : Packet M) → known_after t me (js ++ (from, p) ∷ []) ≡ kept_or known (brought t state from p)
  known_next p = rw (old.state_is, old.known_is) (known_after-snoc t me js from p)

  names_after : (p : Packet M) → IsProper fits winner ring (neighbour (length ring) position from) (other from) (index_after (taken_from from js) p) p → (to : Side) → AllName (winner ring) (packets_after t me to (js ++ (from, p) ∷ []))
  names_after p proper to =
      rw (sent_next to p)
      (AllName-append (winner ring) (packets_after t me to js) _ (old.names to)
      (AllName-append (winner ring) (algo_sends t to state from p) _ (AllName-algo_sends t (winner ring) to state from p)
      (AllName-announcement M (winner ring) to (news known (brought t state from p)) (news_is_winner p proper))))

  -- an algorithm that isn't two-way sends nothing to the left
  left_none : two_way ≡ false → (m : M) → IsProper fits winner ring (neighbour (length ring) position from) (other from) (index_after (taken_from from js) (Algo m)) (Algo m)
      → (o : Option M) → to_side Left (t.next_sends state from m) ≡ o → all_algos o ≡ []
  left_none one_way m proper None is = refl
  left_none one_way m proper (Some x) is =
      let all : List (Side × Packet M) = js ++ (from, Algo m) ∷ [] in
      let k = length (packets_after t me Left js) in
      let sends : algo_sends t Left state from (Algo m) ≡ Algo x ∷ [] = ap (λ (o : Option M). all_algos o) is in
      let here : slice_get (packets_after t me Left all) k ≡ Some (Algo x) = rw (sent_next Left (Algo m), sends) (after_all (packets_after t me Left js) (Algo x) _) in
      absurd (lawful.one_way one_way ring position (algo_count (take k (packets_after t me Left all))) x
      (lawful.sends_fit ring position me (algo_part all) Left (algo_count (take k (packets_after t me Left all))) x old.is_ring old.here (fits_after (Algo m) proper)
      (ap (λ (l : List M). slice_get l (algo_count (take k (packets_after t me Left all)))) (sym (algos_of-packets_after t me Left all)) ∙ algo_at (packets_after t me Left all) k x here)))

  pub nothing_left : two_way ≡ false → (p : Packet M) → IsProper fits winner ring (neighbour (length ring) position from) (other from) (index_after (taken_from from js) p) p → algo_sends t Left state from p ≡ []
  nothing_left one_way (Algo m) proper = left_none one_way m proper (to_side Left (t.next_sends state from m)) refl
  nothing_left one_way (Leader v) proper = refl

  -- a port after the step
  port_after : (to : Side) (p : Packet M) (port port' : Port M)
      → IsPort (packets_after t me to js) (taken_from to js) port
      → port'.sent.items ≡ (port.sent.items ++ algo_sends t to state from p) ++ announcement to (news known (brought t state from p))
      → port'.algos ≡ port.algos + algo_count (taken_from to ((from, p) ∷ []))
      → port'.leaders ≡ port.leaders + leader_count (taken_from to ((from, p) ∷ []))
      → IsPort (packets_after t me to (js ++ (from, p) ∷ [])) (taken_from to (js ++ (from, p) ∷ [])) port'
  port_after to p port port' is sent algos leaders = record {
    sent_is =
        sent
        ∙ append_assoc port.sent.items (algo_sends t to state from p) (announcement to (news known (brought t state from p)))
        ∙ ap (λ (l : List (Packet M)). l ++ (algo_sends t to state from p ++ announcement to (news known (brought t state from p)))) is.sent_is
        ∙ sym (sent_next to p);
    algos_is = algos ∙ ap (λ (n : ℕ). n + algo_count (taken_from to ((from, p) ∷ []))) is.algos_is ∙ sym (port_counts to from p js);
    leaders_is = leaders ∙ ap (λ (n : ℕ). n + leader_count (taken_from to ((from, p) ∷ []))) is.leaders_is ∙ sym (port_leaders to from p js);
  }

  -- the node after the step
  seated_after : (p : Packet M) → IsProper fits winner ring (neighbour (length ring) position from) (other from) (index_after (taken_from from js) p) p
      → (state' : S) (left' right' : Port M) (known' : Option ℕ)
      → state' ≡ state_on t state from p
      → known' ≡ kept_or known (brought t state from p)
      → IsPort (packets_after t me Left (js ++ (from, p) ∷ [])) (taken_from Left (js ++ (from, p) ∷ [])) left'
      → IsPort (packets_after t me Right (js ++ (from, p) ∷ [])) (taken_from Right (js ++ (from, p) ∷ [])) right'
      → IsSeated t fits winner ring position me state' (js ++ (from, p) ∷ []) left' right' known'
  seated_after p proper state' left' right' known' state_is known_is left_is right_is = record {
    is_ring = old.is_ring;
    here = old.here;
    state_is = state_is ∙ ap (λ (s : S). state_on t s from p) old.state_is ∙ sym (state_after-snoc t me js from p);
    known_is = known_is ∙ sym (known_next p);
    left_is = left_is;
    right_is = right_is;
    fitting = fits_after p proper;
    knows = λ v h. kept_wins known (brought t state from p) old.knows (brought_wins p proper) v (sym known_is ∙ h);
    names = names_after p proper;
  }

  -- the node after a step: what was made ready, the algorithm's part, the announcement and the counts, one after another
  pub seated_step : (p : Packet M) → IsProper fits winner ring (neighbour (length ring) position from) (other from) (index_after (taken_from from js) p) p
      → (given : Table S M) → given ≡ t
      → (state' : S) → state' ≡ state_on given state from p
      → (came : Option ℕ) → came ≡ brought given state from p
      → (known' : Option ℕ) → known' ≡ kept_or known came
      → (told : Option ℕ) → told ≡ news known came
      → (ready-left ran-left left' : Port M)
      → (ready-left.sent.items ≡ left.sent.items) × (ready-left.algos ≡ left.algos) × (ready-left.leaders ≡ left.leaders)
      → ran-left.sent.items ≡ ready-left.sent.items ++ algo_sends given Left state from p
      → (ran-left.algos ≡ ready-left.algos) × (ran-left.leaders ≡ ready-left.leaders)
      → left'.sent.items ≡ ran-left.sent.items
      → left'.algos ≡ ran-left.algos + algo_count (taken_from Left ((from, p) ∷ []))
      → left'.leaders ≡ ran-left.leaders + leader_count (taken_from Left ((from, p) ∷ []))
      → (ready-right ran-right told-right right' : Port M)
      → (ready-right.sent.items ≡ right.sent.items) × (ready-right.algos ≡ right.algos) × (ready-right.leaders ≡ right.leaders)
      → ran-right.sent.items ≡ ready-right.sent.items ++ algo_sends given Right state from p
      → (ran-right.algos ≡ ready-right.algos) × (ran-right.leaders ≡ ready-right.leaders)
      → told-right.sent.items ≡ ran-right.sent.items ++ all_leaders told
      → told-right.algos ≡ ran-right.algos
      → told-right.leaders ≡ ran-right.leaders
      → right'.sent.items ≡ told-right.sent.items
      → right'.algos ≡ told-right.algos + algo_count (taken_from Right ((from, p) ∷ []))
      → right'.leaders ≡ told-right.leaders + leader_count (taken_from Right ((from, p) ∷ []))
      → (js' : List (Side × Packet M)) → js' ≡ js ++ (from, p) ∷ []
      → IsSeated t fits winner ring position me state' js' left' right' known'
  seated_step p proper given same state' state_is came came_is known' known_is told told_is
      ready-left ran-left left' ready_left ran_left counts_left sent_left algos_left leaders_left
      ready-right ran-right told-right right' ready_right ran_right counts_right told_right told_algos told_leaders sent_right algos_right leaders_right js' journal =
      let brought_is : came ≡ brought t state from p = rw same at came_is in
      rw journal
      (seated_after p proper state' left' right' known' (rw same at state_is) (known_is ∙ ap (kept_or known) brought_is)
      (port_after Left p left left' old.left_is (sent_left ∙ (rw (same, ready_left.0) at ran_left) ∙ sym (append-nil _))
      (algos_left ∙ ap (λ (n : ℕ). n + algo_count (taken_from Left ((from, p) ∷ []))) (counts_left.0 ∙ ready_left.1))
      (leaders_left ∙ ap (λ (n : ℕ). n + leader_count (taken_from Left ((from, p) ∷ []))) (counts_left.1 ∙ ready_left.2)))
      (port_after Right p right right' old.right_is
      (sent_right ∙ told_right ∙ ap₂ (λ (l : List (Packet M)) (o : Option ℕ). l ++ all_leaders o) (rw (same, ready_right.0) at ran_right) (told_is ∙ ap (news known) brought_is))
      (algos_right ∙ ap (λ (n : ℕ). n + algo_count (taken_from Right ((from, p) ∷ []))) (told_algos ∙ counts_right.0 ∙ ready_right.1))
      (leaders_right ∙ ap (λ (n : ℕ). n + leader_count (taken_from Right ((from, p) ∷ []))) (told_leaders ∙ counts_right.1 ∙ ready_right.2))))

  -- the news of the step, by the leaders known before and after it
  pub news_next : (p : Packet M) → news (known_after t me js) (known_after t me (js ++ (from, p) ∷ [])) ≡ news known (brought t state from p)
  news_next p = rw (known_next p, ← old.known_is) (news_of_kept known (brought t state from p))

  -- every packet that was sent is proper on its link
  pub sent_proper : (to : Side) (k : ℕ) (p : Packet M) → slice_get (packets_after t me to js) k ≡ Some p → IsProper fits winner ring position to (index_after (take k (packets_after t me to js)) p) p
  sent_proper to k (Algo m) h =
      lawful.sends_fit ring position me (algo_part js) to (algo_count (take k (packets_after t me to js))) m old.is_ring old.here old.fitting
      (ap (λ (l : List M). slice_get l (algo_count (take k (packets_after t me to js)))) (sym (algos_of-packets_after t me to js)) ∙ algo_at (packets_after t me to js) k m h)
  sent_proper to k (Leader v) h = (leader_at (winner ring) (packets_after t me to js) k v (old.names to) h, refl)

  -- and so it can be sent
  pub sent_sendable : (to : Side) → AllSendable fits winner ring position to (packets_after t me to js)
  sent_sendable to = record { each = λ k p h. record { inside = slice_get_within ring position me old.here; proper = sent_proper to k p h } }
