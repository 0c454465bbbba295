-- One turn of a worker, and a sending, continue its run.
use Rattle.std.proofs.Common.{◌≡◌, ◌<◌, ◌≤◌, ℕ, List, [], ◌∷◌, ◌++◌, map, Option, Some, None, refl, sym, ap, ◌∙◌, subst, inl, inr, append_assoc, arith}
use Rattle.std.specs.Prelude.{option_to_list}
use Rattle.std.proofs.lemmas.List.{append-nil, map-append}
use Rattle.ring_election.specs.Tables.{Table}
use Rattle.ring_inbox.specs.Values.{ReceiverLog, SenderLog}
use Rattle.ring_node.specs.declared.charter.Charter.{Charter}
use Rattle.ring_node.specs.Envelopes.{Sent}
use Rattle.ring_node.specs.Nodes.{Seated}
use Rattle.ring_workers.specs.declared.item.Item.{Item}
use Rattle.ring_workers.specs.declared.item.Item.TheVariants.{Begin, Packet, Stop}
use Rattle.ring_workers.specs.Holdings.{Holding, charters_of, nodes_of}
use Rattle.ring_workers.specs.private.Holdings.{IsOlder, Steps}
use Rattle.ring_workers.specs.Lists.{IsOneOf}
use Rattle.ring_workers.specs.Runs.{AllDone, IsDone, OneTerm, Ran, charter_of}
use Rattle.ring_workers.specs.private.Runs.{IsHandled, Turns}
use Rattle.ring_workers.specs.private.Sends.{Sends}
use Rattle.ring_workers.specs.Goings.{IsSent}
use Rattle.ring_workers.specs.Seatings.{HasNodeAt}
use Rattle.ring_workers.proofs.Among.{among_append, among_last, among_left, among_none, among_one, among_right}
use Rattle.ring_workers.proofs.Fates.{handled_well}
use Rattle.ring_workers.proofs.Growing.{received_later, seated_later}
use Rattle.ring_workers.proofs.Running.{stored_none, stored_on}

-- the items that were taken, without their senders' numbers
abbrev items_in : {E S M : Type 0} → List (ℕ × Item E M S) → List (Item E M S)
items_in taken = map (λ pair. pair.1) taken

-- at the start nothing was taken
pub ran_none : {E S M : Type 0} (t : E → Table S M) (number workers : ℕ) (from : ReceiverLog (Item E M S)) (passes : List (SenderLog (Item E M S))) (holding : Holding E M)
    → holding.number ≡ number → holding.workers ≡ workers → holding.groups ≡ []
    → Ran t number workers from from passes passes holding [] 0 None
ran_none {E} {S} {M} t number workers from passes holding number_is workers_is empty = record {
  number_is = number_is;
  workers_is = workers_is;
  taken = [];
  took = ap (λ (l : List (ℕ × Item E M S)). record from { taken = l }) (sym (append-nil from.taken));
  handled = [];
  rest = refl;
  sent = [];
  passes = stored_none workers passes;
  posted = λ node there e sent. absurd (among_none (let h : IsOneOf (nodes_of holding) node = there in rw empty at h));
  done = record { each = λ _ item c there _ _. absurd (among_none there) };
  source = λ c there. absurd (among_none (let h : IsOneOf (charters_of holding) c = there in rw empty at h));
}

-- what waited was sent on
pub ran_send : {E S M : Type 0} (t : E → Table S M) (number workers : ℕ) (from to : ReceiverLog (Item E M S)) (old mid new : List (SenderLog (Item E M S)))
    (holding : Holding E M) (outbox after : List (Sent E M)) (dropped : ℕ) (held : Option (Item E M S))
    → Ran t number workers from to old mid holding outbox dropped held → Sends workers outbox after mid new
    → Ran t number workers from to old new holding after dropped held
ran_send {E} {S} {M} t number workers from to old mid new holding outbox after dropped held ran sends = record {
  number_is = ran.number_is;
  workers_is = ran.workers_is;
  taken = ran.taken;
  took = ran.took;
  handled = ran.handled;
  rest = ran.rest;
  sent = ran.sent ++ sends.sent;
  passes = stored_on workers ran.sent sends.sent old mid new ran.passes sends.passes;
  posted = λ node there e sent.
      subst (λ (l : List (Sent E M)). IsOneOf l e) (ap (λ (l : List (Sent E M)). ran.sent ++ l) sends.front ∙ sym (append_assoc ran.sent sends.sent after))
      (ran.posted node there e sent);
  done = ran.done;
  source = ran.source;
}

-- an envelope that was stored or waits does so when more waits
posted_more : {E M : Type 0} (sent outbox more : List (Sent E M)) (e : Sent E M) → IsOneOf (sent ++ outbox) e → IsOneOf (sent ++ (outbox ++ more)) e
posted_more {E} {M} sent outbox more e posted =
    subst (λ (l : List (Sent E M)). IsOneOf l e) (append_assoc sent outbox more) (among_left (sent ++ outbox) more e posted)

-- of fewer items, too, those of a group are of one term
one_term_before : {E S M : Type 0} (items more : List (Item E M S)) (c : Charter E) → OneTerm (items ++ more) c → OneTerm items c
one_term_before items more c one = record { each = λ item d there is. one.each item d (among_left items more item there) is }

-- what was done stays done, where a step is of no other term of its group
done_on : {E S M : Type 0} (t : E → Table S M) (number workers : ℕ) (charter c : Charter E) (old new : Holding E M) (waiting after : List (Sent E M)) (item : Item E M S)
    → Steps t charter old new waiting after → charter_of item ≡ Some c → (charter.group ≡ c.group → charter.term ≡ c.term)
    → IsDone number workers (nodes_of old) item → IsDone number workers (nodes_of new) item
done_on t number workers charter c old new waiting after (Begin b) steps is one done = record {
  each = λ p member there owned.
      let h : HasNodeAt (nodes_of old) b.value p = done.each p member there owned in
      let same : b.value ≡ c = cc in
      seated_later (nodes_of old) (nodes_of new) b.value p h
      (steps.stays h.node h.there (λ group. ap (λ d. d.term) (h.charter_is ∙ same) ∙ sym (one (sym group ∙ ap (λ d. d.group) (h.charter_is ∙ same)))));
}
done_on t number workers charter c old new waiting after (Packet e) steps is one done =
    let same : e.charter ≡ c = cc in
    let own : done.node.charter ≡ c = sym done.led.charter ∙ same in
    received_later (nodes_of old) (nodes_of new) e done
    (steps.stays done.node done.there (λ group. ap (λ d. d.term) own ∙ sym (one (sym group ∙ ap (λ d. d.group) own))))
done_on t number workers charter c old new waiting after Stop steps is one done = tt

-- where the items of a group are of one term, no held charter of it is newer
not_older : {E S M : Type 0} (items : List (Item E M S)) (charters : List (Charter E)) (c : Charter E)
    → ((d : Charter E) → IsOneOf charters d → (item : Item E M S) × (s : Charter E) × IsOneOf items item × (charter_of item ≡ Some s) × (s.group ≡ d.group) × (s.term ≡ d.term))
    → OneTerm items c → IsOlder charters c → ⊥
not_older items charters c source one older =
    let from : (item : _) × (s : Charter _) × IsOneOf items item × (charter_of item ≡ Some s) × (s.group ≡ older.newer.group) × (s.term ≡ older.newer.term) = source older.newer older.held in
    let same : from.1.term ≡ c.term = one.each from.0 from.1 from.2 from.3 (from.4 ∙ older.group) in
    let newer : from.1.term ≡ older.newer.term = from.5 in
    let above : c.term < older.newer.term = older.term in
    omega arith

-- the items that were taken, and one more
items_more : {E S M : Type 0} (taken : List (ℕ × Item E M S)) (sender : ℕ) (item : Item E M S) → items_in (taken ++ (sender, item) ∷ []) ≡ items_in taken ++ item ∷ []
items_more taken sender item = map-append (λ pair. pair.1) taken ((sender, item) ∷ [])

-- What an item does to the run, said of its charter: the item is handled, or held.
module _ {E S M : Type 0} (t : E → Table S M) (number workers : ℕ) (from to next : ReceiverLog (Item E M S)) (passes sent : List (SenderLog (Item E M S)))
    (old new : Holding E M) (outbox after : List (Sent E M)) (before dropped sender : ℕ) (item : Item E M S) (charter : Charter E)
    (ran : Ran t number workers from to passes sent old outbox before None)
    (comes : next ≡ record to { taken = to.taken ++ (sender, item) ∷ [] })
    (is : charter_of item ≡ Some charter) (steps : Steps t charter old new outbox after) (grows : before ≤ dropped) where
  items : List (Item E M S)
  items = items_in (ran.taken ++ (sender, item) ∷ [])

  took_more : next ≡ record from { taken = from.taken ++ (ran.taken ++ (sender, item) ∷ []) }
  took_more =
      comes ∙ ap (λ (r : ReceiverLog (Item E M S)). record r { taken = r.taken ++ (sender, item) ∷ [] }) ran.took
      ∙ ap (λ (l : List (ℕ × Item E M S)). record from { taken = l }) (append_assoc from.taken ran.taken ((sender, item) ∷ []))

  posted_after : (node : Seated E M) → IsOneOf (nodes_of new) node → (e : Sent E M) → IsSent t node e → IsOneOf (ran.sent ++ after) e
  posted_after node there e sends =
      rw steps.behind
      (elim (steps.posted node there e sends) [
        | inl earlier ↦ posted_more ran.sent outbox steps.more e (ran.posted earlier.0 earlier.1 e earlier.2)
        | inr waits ↦ among_right ran.sent (outbox ++ steps.more) e (among_right outbox steps.more e waits)
      ])

  among_items : (x : Item E M S) → IsOneOf (items_in ran.taken) x → IsOneOf items x
  unfolding items
  among_items x there = rw (items_more ran.taken sender item) (among_left (items_in ran.taken) (item ∷ []) x there)

  source_after : (c : Charter E) → IsOneOf (charters_of new) c → (x : Item E M S) × (d : Charter E) × IsOneOf items x × (charter_of x ≡ Some d) × (d.group ≡ c.group) × (d.term ≡ c.term)
  unfolding items
  source_after c there =
      elim (steps.source c there) [
        | inl held ↦
            let s : (x : Item E M S) × (d : Charter E) × IsOneOf (items_in ran.taken) x × (charter_of x ≡ Some d) × (d.group ≡ c.group) × (d.term ≡ c.term) = ran.source c held in
            (s.0, s.1, among_items s.0 s.2, s.3, s.4, s.5)
        | inr own ↦ (item, charter, rw (items_more ran.taken sender item) (among_last (items_in ran.taken) item), is, sym own.0, sym own.1)
      ]

  -- what was done before stays done
  done_before : dropped ≡ 0 → (x : Item E M S) (c : Charter E) → IsOneOf ran.handled x → charter_of x ≡ Some c → OneTerm items c → IsDone number workers (nodes_of new) x
  unfolding items
  done_before none x c there own one =
      let zero_before : before ≡ 0 = omega arith in
      let all : OneTerm (items_in ran.taken ++ item ∷ []) c = rw (items_more ran.taken sender item) at one in
      let earlier : OneTerm (items_in ran.taken) c = one_term_before (items_in ran.taken) (item ∷ []) c all in
      done_on t number workers charter c old new outbox after x steps own (all.each item charter (among_last (items_in ran.taken) item) is)
      (ran.done.each zero_before x c there own earlier)

  -- the item is done
  done_now : IsHandled old new before dropped item → dropped ≡ 0 → (c : Charter E) → charter_of item ≡ Some c → OneTerm items c → IsDone number workers (nodes_of new) item
  unfolding items
  done_now handled none c own one =
      let all : OneTerm (items_in ran.taken ++ item ∷ []) c = rw (items_more ran.taken sender item) at one in
      elim (handled_well old new before dropped item handled none c own) [
        | inl older ↦ absurd (not_older (items_in ran.taken) (charters_of old) c ran.source (one_term_before (items_in ran.taken) (item ∷ []) c all) older)
        | inr done ↦
            subst (λ (n : ℕ). IsDone n workers (nodes_of new) item) (steps.number_is ∙ ran.number_is)
            (subst (λ (w : ℕ). IsDone new.number w (nodes_of new) item) (steps.workers_is ∙ ran.workers_is) done)
      ]

  done_after : (handled : IsHandled old new before dropped item) → AllDone number workers (nodes_of new) dropped items (ran.handled ++ item ∷ [])
  done_after handled = record {
    each = λ none x c there own one. elim (among_append ran.handled (item ∷ []) x there) [
      | inl earlier ↦ done_before none x c earlier own one
      | inr now ↦
          let same : item ≡ x = among_one item x now in
          let own_now : charter_of item ≡ Some c = ap charter_of same ∙ own in
          subst (λ (y : Item E M S). IsDone number workers (nodes_of new) y) same (done_now handled none c own_now one)
    ];
  }

  -- held, it is not handled
  pub ran_held : Ran t number workers from next passes sent new after dropped (Some item)
  unfolding items
  ran_held = record {
    number_is = steps.number_is ∙ ran.number_is;
    workers_is = steps.workers_is ∙ ran.workers_is;
    taken = ran.taken ++ (sender, item) ∷ [];
    took = took_more;
    handled = ran.handled;
    rest = items_more ran.taken sender item ∙ ap (λ l. l ++ item ∷ []) (ran.rest ∙ append-nil ran.handled);
    sent = ran.sent;
    passes = ran.passes;
    posted = posted_after;
    done = record { each = done_before };
    source = source_after;
  }

  -- handled, nothing is held
  pub ran_handled : IsHandled old new before dropped item → Ran t number workers from next passes sent new after dropped None
  unfolding items
  ran_handled handled = record {
    number_is = steps.number_is ∙ ran.number_is;
    workers_is = steps.workers_is ∙ ran.workers_is;
    taken = ran.taken ++ (sender, item) ∷ [];
    took = took_more;
    handled = ran.handled ++ item ∷ [];
    rest = items_more ran.taken sender item ∙ ap (λ l. l ++ item ∷ []) (ran.rest ∙ append-nil ran.handled) ∙ sym (append-nil (ran.handled ++ item ∷ []));
    sent = ran.sent;
    passes = ran.passes;
    posted = posted_after;
    done = done_after handled;
    source = source_after;
  }

-- an item of no charter changes nothing but what was taken
ran_stop : {E S M : Type 0} (t : E → Table S M) (number workers : ℕ) (from to next : ReceiverLog (Item E M S)) (passes sent : List (SenderLog (Item E M S)))
    (holding : Holding E M) (outbox : List (Sent E M)) (before dropped sender : ℕ) (item : Item E M S) (held : Option (Item E M S)) (handled : List (Item E M S))
    → (ran : Ran t number workers from to passes sent holding outbox before None)
    → next ≡ record to { taken = to.taken ++ (sender, item) ∷ [] } → charter_of item ≡ None → before ≤ dropped
    → ran.handled ++ item ∷ [] ≡ handled ++ option_to_list held
    → ((x : Item E M S) (c : Charter E) → IsOneOf handled x → charter_of x ≡ Some c → IsOneOf ran.handled x)
    → Ran t number workers from next passes sent holding outbox dropped held
ran_stop {E} {S} {M} t number workers from to next passes sent holding outbox before dropped sender item held handled ran comes is grows rest earlier =
    let more : List (ℕ × Item E M S) = (sender, item) ∷ [] in
    record {
      number_is = ran.number_is;
      workers_is = ran.workers_is;
      taken = ran.taken ++ more;
      took = comes ∙ ap (λ (r : ReceiverLog (Item E M S)). record r { taken = r.taken ++ more }) ran.took
          ∙ ap (λ (l : List (ℕ × Item E M S)). record from { taken = l }) (append_assoc from.taken ran.taken more);
      handled = handled;
      rest = items_more ran.taken sender item ∙ ap (λ l. l ++ item ∷ []) (ran.rest ∙ append-nil ran.handled) ∙ rest;
      sent = ran.sent;
      passes = ran.passes;
      posted = ran.posted;
      done = record {
        each = λ none x c there own one.
            let zero_before : before ≡ 0 = omega arith in
            let all : OneTerm (items_in ran.taken ++ item ∷ []) c = rw (items_more ran.taken sender item) at one in
            ran.done.each zero_before x c (earlier x c there own) own (one_term_before (items_in ran.taken) (item ∷ []) c all);
      };
      source = λ c there.
          let s : (x : Item E M S) × (d : Charter E) × IsOneOf (items_in ran.taken) x × (charter_of x ≡ Some d) × (d.group ≡ c.group) × (d.term ≡ c.term) = ran.source c there in
          (s.0, s.1, rw (items_more ran.taken sender item) (among_left (items_in ran.taken) (item ∷ []) s.0 s.2), s.3, s.4, s.5);
    }

-- an item that was handled, of a charter, stood among the handled before one of no charter
handled_before : {E S M : Type 0} (handled : List (Item E M S)) (item x : Item E M S) (c : Charter E)
    → charter_of item ≡ None → IsOneOf (handled ++ item ∷ []) x → charter_of x ≡ Some c → IsOneOf handled x
handled_before handled item x c is there own =
    elim (among_append handled (item ∷ []) x there) [
      | inl earlier ↦ earlier
      | inr now ↦
          let same : item ≡ x = among_one item x now in
          let none : None ≡ Some c = sym is ∙ ap charter_of same ∙ own in
          cc
    ]

-- one turn continues the run
pub ran_turn : {E S M : Type 0} (t : E → Table S M) (number workers : ℕ) (from to next : ReceiverLog (Item E M S)) (passes sent : List (SenderLog (Item E M S)))
    (old new : Holding E M) (outbox after : List (Sent E M)) (before dropped sender : ℕ) (item : Item E M S) (held : Option (Item E M S))
    → Ran t number workers from to passes sent old outbox before None
    → next ≡ record to { taken = to.taken ++ (sender, item) ∷ [] }
    → Turns t item old new outbox after before dropped held
    → Ran t number workers from next passes sent new after dropped held
ran_turn t number workers from to next passes sent old new outbox after before dropped sender (Begin b) held ran comes turn =
    elim turn.end [
      | inl is ↦ rw is.0 (ran_held t number workers from to next passes sent old new outbox after before dropped sender (Begin b) b.value ran comes refl turn.steps turn.grows)
      | inr is ↦ rw is.0 (ran_handled t number workers from to next passes sent old new outbox after before dropped sender (Begin b) b.value ran comes refl turn.steps turn.grows is.1)
    ]
ran_turn t number workers from to next passes sent old new outbox after before dropped sender (Packet e) held ran comes turn =
    elim turn.end [
      | inl is ↦ rw is.0 (ran_held t number workers from to next passes sent old new outbox after before dropped sender (Packet e) e.charter ran comes refl turn.steps turn.grows)
      | inr is ↦ rw is.0 (ran_handled t number workers from to next passes sent old new outbox after before dropped sender (Packet e) e.charter ran comes refl turn.steps turn.grows is.1)
    ]
ran_turn {E} {S} {M} t number workers from to next passes sent old new outbox after before dropped sender Stop held ran comes turn =
    rw (turn.steps.0, turn.steps.1)
    (elim turn.end [
      | inl is ↦ rw is.0
          (ran_stop t number workers from to next passes sent old outbox before dropped sender Stop (Some Stop) ran.handled ran comes refl turn.grows refl (λ x c there own. there))
      | inr is ↦ rw is.0
          (ran_stop t number workers from to next passes sent old outbox before dropped sender Stop None (ran.handled ++ Stop ∷ []) ran comes refl turn.grows (sym (append-nil (ran.handled ++ Stop ∷ [])))
          (λ x c there own. handled_before ran.handled Stop x c refl there own))
    ])
