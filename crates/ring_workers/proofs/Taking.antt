-- A node is seated, or takes an envelope: what it sends joins the outbox.
use Rattle.std.proofs.Common.{◌≡◌, ◌<◌, ◌≤◌, ℕ, zero, suc, List, [], ◌∷◌, ◌++◌, length, set, take, Option, Some, None, slice_get, refl, sym, ap, ◌∙◌, subst, inl, inr, ◌⊎◌, arith, append_assoc}
use Rattle.std.specs.Prelude.{option_map, Result, Ok, Err, IfErr, OnOk}
use Rattle.std.proofs.lemmas.List.{take-append-le}
use Rattle.ring_id.specs.declared.side.Side.{Side}
use Rattle.ring_id.specs.declared.side.Side.TheVariants.{Left, Right}
use Rattle.ring_id.specs.Sides.{other}
use Rattle.ring_election.specs.Tables.{Table}
use Rattle.ring_node.specs.declared.packet.Packet.{Packet}
use Rattle.ring_node.specs.Envelopes.{Sent, index_after}
use Rattle.ring_node.specs.Nodes.{Gains, IsNext, Seated, envelope_of, member_of, sent_of, taken_of}
use Rattle.ring_workers.specs.private.Goings.{Goes, Grows, HandsTo, HasTakenOver}
use Rattle.ring_workers.specs.Goings.{HasReceived, IsSent}
use Rattle.ring_workers.specs.Owners.{owner_of}
use Rattle.ring_node.specs.declared.charter.Charter.{Charter}
use Rattle.ring_node.specs.declared.fault.TakeFault.{TakeFault}
use Rattle.ring_node.specs.Reports.{Told}
use Rattle.ring_workers.specs.Lists.{IsOneOf}
use Rattle.ring_workers.specs.private.Posts.{Posts}
use Rattle.ring_workers.proofs.Among.{among_none, among_first, among_one, among_left, among_right}
use Rattle.ring_workers.proofs.Goings.{goes_among, goes_none, received_among}
use Rattle.ring_workers.proofs.Seatings.{seated_in-append, split_at}
use Rattle.ring_workers.specs.private.Seatings.{IsPlaced}
use Rattle.ring_workers.specs.Seatings.{seated_in}

-- what stands in a list stands there when the list is longer
get_before : {A : Type 0} (xs ys : List A) (k : ℕ) → k < length xs → slice_get (xs ++ ys) k ≡ slice_get xs k
get_before [] ys k h = absurd (omega arith)
get_before (z ∷ xs) ys zero h = refl
get_before (z ∷ xs) ys (suc k) h = get_before xs ys k (omega arith)

-- the element behind a list
get_behind : {A : Type 0} (xs : List A) (x : A) → slice_get (xs ++ x ∷ []) (length xs) ≡ Some x
get_behind [] x = refl
get_behind (z ∷ xs) x = get_behind xs x

-- and what stands before it
take_before : {A : Type 0} (xs : List A) (x : A) → take (length xs) (xs ++ x ∷ []) ≡ xs
take_before [] x = refl
take_before (z ∷ xs) x = ap (λ l. z ∷ l) (take_before xs x)

-- a place is below a number, or not
below_or : (k n : ℕ) → (k < n) ⊎ (n ≤ k)
below_or k zero = inr (omega arith)
below_or zero (suc n) = inl (omega arith)
below_or (suc k) (suc n) =
    elim (below_or k n) [
      | inl below ↦ (let h : suc k < suc n = omega arith in inl h)
      | inr past ↦ (let h : suc n ≤ suc k = omega arith in inr h)
    ]

module _ {E S M : Type 0} (t : E → Table S M) where
  -- what an envelope says, of the packets that a node has sent to its side
  abbrev says : Seated E M → Side → ℕ → List (Packet M) → Option (Sent E M)
  says node side place sent =
      option_map (λ packet. record { charter = node.charter; from = node.position; side = side; index = index_after (take place sent) packet; packet = packet })
      (slice_get sent place)

  -- a node that is seated: what it has sent has joined the outbox
  pub goes_seat : (node : Seated E M) (u v w : List (Sent E M)) → Posts (envelope_of t node Left) 0 u v → Posts (envelope_of t node Right) 0 v w → Goes t [] (node ∷ []) u w
  goes_seat node u v w left right = record {
    more = left.more ++ right.more;
    behind = right.behind ∙ ap (λ l. l ++ right.more) left.behind ∙ append_assoc u left.more right.more;
    stays = λ other_node h. absurd (among_none h);
    posted = λ one h e sent. posted e (subst (λ n. IsSent t n e) (sym (among_one node one h)) sent);
  }
    where
      at : (side : Side) (place : ℕ) (e : Sent E M) → envelope_of t node side place ≡ Some e → IsOneOf (left.more ++ right.more) e
      at Left place e h = among_left left.more right.more e (left.each place e (omega arith) h)
      at Right place e h = among_right left.more right.more e (right.each place e (omega arith) h)

      posted : (e : Sent E M) → IsSent t node e → ((before : Seated E M) × IsOneOf [] before × IsSent t before e) ⊎ IsOneOf (left.more ++ right.more) e
      posted e sent = inr (at sent.side sent.place e sent.sent)

  -- an envelope of what was sent, when more has been sent
  says_before : (node : Seated E M) (side : Side) (place : ℕ) (sent more : List (Packet M)) → place < length sent → says node side place (sent ++ more) ≡ says node side place sent
  says_before node side place sent more within =
      ap (λ o. option_map (λ packet. record { charter = node.charter; from = node.position; side = side; index = index_after (take place (sent ++ more)) packet; packet = packet }) o) (get_before sent more place within)
      ∙ ap (λ l. option_map (λ packet. record { charter = node.charter; from = node.position; side = side; index = index_after l packet; packet = packet }) (slice_get sent place)) (take-append-le place sent more (omega arith))

  -- what a node that took a packet has sent, it had sent before, or it is what joined the outbox
  sent_or_new : (old new : Seated E M) (side : Side) (more : List (Packet M)) → new.charter ≡ old.charter → new.position ≡ old.position → sent_of t new side ≡ sent_of t old side ++ more
      → (waiting after : List (Sent E M)) (posts : Posts (envelope_of t new side) (length (sent_of t old side)) waiting after)
      → (place : ℕ) (e : Sent E M) → envelope_of t new side place ≡ Some e → IsSent t old e ⊎ IsOneOf posts.more e
  sent_or_new old new side more charter position grown waiting after posts place e sent =
      elim (below_or place (length (sent_of t old side))) [
        | inl within ↦ inl (record {
          side = side;
          place = place;
          sent = sym (says_before old side place (sent_of t old side) more within) ∙ ap (says old side place) (sym grown) ∙ sym (same_says charter position) ∙ sent;
        })
        | inr past ↦ inr (posts.each place e past sent)
      ]
    where
      same_says : new.charter ≡ old.charter → new.position ≡ old.position → says new side place (sent_of t new side) ≡ says old side place (sent_of t new side)
      same_says p q = λ i. option_map (λ packet. record { charter = p i; from = q i; side = side; index = index_after (take place (sent_of t new side)) packet; packet = packet }) (slice_get (sent_of t new side) place)

  -- a node that takes an envelope: what it sends because of it has joined the outbox
  pub goes_hand : (old new : Seated E M) (envelope : Sent E M) (u w : List (Sent E M)) → HasTakenOver t old envelope new u w → Gains t old (other envelope.side) envelope.packet new
      → Goes t (old ∷ []) (new ∷ []) u w
  goes_hand old new envelope u w taken gains = record {
    more = taken.left.more ++ taken.right.more;
    behind = taken.right.behind ∙ ap (λ l. l ++ taken.right.more) taken.left.behind ∙ append_assoc u taken.left.more taken.right.more;
    stays = λ node h. (new, among_first new [], subst (λ n. Grows n new) (among_one old node h) grows);
    posted = λ node h e sent. posted e (subst (λ n. IsSent t n e) (sym (among_one new node h)) sent);
  }
    where
      grows : Grows old new
      grows = record {
        more = (other envelope.side, envelope.packet) ∷ [];
        charter_is = ap (λ n. n.charter) taken.journal;
        position_is = ap (λ n. n.position) taken.journal;
        journal_is = ap (λ n. n.journal) taken.journal;
      }

      at : (side : Side) (place : ℕ) (e : Sent E M) → envelope_of t new side place ≡ Some e → IsSent t old e ⊎ IsOneOf (taken.left.more ++ taken.right.more) e
      at Left place e h =
          elim (sent_or_new old new Left gains.left.more grows.charter_is grows.position_is gains.left.behind u taken.between taken.left place e h) [
            | inl before ↦ inl before
            | inr among ↦ inr (among_left taken.left.more taken.right.more e among)
          ]
      at Right place e h =
          elim (sent_or_new old new Right gains.right.more grows.charter_is grows.position_is gains.right.behind taken.between w taken.right place e h) [
            | inl before ↦ inl before
            | inr among ↦ inr (among_right taken.left.more taken.right.more e among)
          ]

      posted : (e : Sent E M) → IsSent t new e → ((before : Seated E M) × IsOneOf (old ∷ []) before × IsSent t before e) ⊎ IsOneOf (taken.left.more ++ taken.right.more) e
      posted e sent =
          elim (at sent.side sent.place e sent.sent) [
            | inl before ↦ inl (old, among_first old [], before)
            | inr among ↦ inr among
          ]

  -- the envelope is a receipt of the node that took it
  pub received_hand : (old new : Seated E M) (envelope : Sent E M) (u w : List (Sent E M)) → HasTakenOver t old envelope new u w → Gains t old (other envelope.side) envelope.packet new
      → HasReceived (new ∷ []) envelope
  received_hand old new envelope u w taken gains = record {
    node = new;
    there = among_first new [];
    led = record { charter = taken.led.charter ∙ sym (ap (λ n. n.charter) taken.journal); link = taken.led.link ∙ sym (ap (λ n. n.position) taken.journal) };
    place = length (taken_of old (other envelope.side));
    taken = ap (λ l. slice_get l (length (taken_of old (other envelope.side)))) gains.taken ∙ get_behind (taken_of old (other envelope.side)) envelope.packet;
    index = subst (λ (l : List (Packet M)). IsNext l envelope.index envelope.packet)
        (sym (ap (λ l. take (length (taken_of old (other envelope.side))) l) gains.taken ∙ take_before (taken_of old (other envelope.side)) envelope.packet))
        taken.next;
  }

-- what was written at a place stands there
pub get_set-same : {A : Type 0} (xs : List A) (place : ℕ) (y : A) → place < length xs → slice_get (set xs place y) place ≡ Some y
get_set-same [] place y h = absurd (omega arith)
get_set-same (z ∷ xs) zero y h = refl
get_set-same (z ∷ xs) (suc k) y h = get_set-same xs k y (omega arith)

-- what is seated around a place
seated_around : {A : Type 0} (before after : List (Option A)) (x : A) → seated_in (before ++ Some x ∷ after) ≡ seated_in before ++ ((x ∷ []) ++ seated_in after)
seated_around before after x = seated_in-append before (Some x ∷ after)

module _ {E S M : Type 0} (t : E → Table S M) where
  -- nothing happens
  pub goes_still : (old new : List (Seated E M)) (u w : List (Sent E M)) → new ≡ old → w ≡ u → Goes t old new u w
  goes_still old new u w same still = subst (λ l. Goes t old l u w) (sym same) (subst (λ l. Goes t old old u l) (sym still) (goes_none t old u))

  -- a node is seated at an empty place
  pub goes_seated : (places : List (Option (Seated E M))) (place : ℕ) (node : Seated E M) (u v w : List (Sent E M)) → slice_get places place ≡ Some None
      → Posts (envelope_of t node Left) 0 u v → Posts (envelope_of t node Right) 0 v w → Goes t (seated_in places) (seated_in (set places place (Some node))) u w
  goes_seated places place node u v w empty left right =
      let s = split_at places place None empty in
      let before : seated_in places ≡ seated_in s.before ++ ([] ++ seated_in s.after) = ap seated_in s.whole ∙ seated_in-append s.before (None ∷ s.after) in
      let after : seated_in (set places place (Some node)) ≡ seated_in s.before ++ ((node ∷ []) ++ seated_in s.after) = ap seated_in (s.written (Some node)) ∙ seated_around s.before s.after node in
      subst (λ l. Goes t l (seated_in (set places place (Some node))) u w) (sym before)
      (subst (λ l. Goes t (seated_in s.before ++ ([] ++ seated_in s.after)) l u w) (sym after)
      (goes_among t (seated_in s.before) [] (node ∷ []) (seated_in s.after) u w (goes_seat t node u v w left right)))

  -- the node at a place takes an envelope
  pub goes_taken : (places : List (Option (Seated E M))) (place : ℕ) (old new : Seated E M) (envelope : Sent E M) (u w : List (Sent E M)) → slice_get places place ≡ Some (Some old)
      → HasTakenOver t old envelope new u w → Gains t old (other envelope.side) envelope.packet new → Goes t (seated_in places) (seated_in (set places place (Some new))) u w
  goes_taken places place old new envelope u w there taken gains =
      let s = split_at places place (Some old) there in
      let before : seated_in places ≡ seated_in s.before ++ ((old ∷ []) ++ seated_in s.after) = ap seated_in s.whole ∙ seated_around s.before s.after old in
      let after : seated_in (set places place (Some new)) ≡ seated_in s.before ++ ((new ∷ []) ++ seated_in s.after) = ap seated_in (s.written (Some new)) ∙ seated_around s.before s.after new in
      subst (λ l. Goes t l (seated_in (set places place (Some new))) u w) (sym before)
      (subst (λ l. Goes t (seated_in s.before ++ ((old ∷ []) ++ seated_in s.after)) l u w) (sym after)
      (goes_among t (seated_in s.before) (old ∷ []) (new ∷ []) (seated_in s.after) u w (goes_hand t old new envelope u w taken gains)))

  -- the envelope is then a receipt
  pub received_taken : (places : List (Option (Seated E M))) (place : ℕ) (old new : Seated E M) (envelope : Sent E M) (u w : List (Sent E M)) → slice_get places place ≡ Some (Some old)
      → HasTakenOver t old envelope new u w → Gains t old (other envelope.side) envelope.packet new → HasReceived (seated_in (set places place (Some new))) envelope
  received_taken places place old new envelope u w there taken gains =
      let s = split_at places place (Some old) there in
      let after : seated_in (set places place (Some new)) ≡ seated_in s.before ++ ((new ∷ []) ++ seated_in s.after) = ap seated_in (s.written (Some new)) ∙ seated_around s.before s.after new in
      subst (λ l. HasReceived l envelope) (sym after) (received_among (seated_in s.before) (new ∷ []) (seated_in s.after) envelope (received_hand t old new envelope u w taken gains))

module _ {E S M : Type 0} (t : E → Table S M) (places : List (Option (Seated E M))) (place : ℕ) (old new : Seated E M) (there : slice_get places place ≡ Some (Some old))
    (envelope : Sent E M) (u w : List (Sent E M)) where
  -- what was written back changes nothing
  pub written_back : new ≡ old → set places place (Some new) ≡ places
  written_back same =
      let s = split_at places place (Some old) there in
      ap (λ n. set places place (Some n)) same ∙ s.written (Some old) ∙ sym s.whole

  -- the node at a place is handed an envelope, which it takes or not
  pub goes_handed : (result : Result (Option (Told E)) (TakeFault × Sent E M)) → HandsTo t old envelope result new u w → OnOk result (Gains t old (other envelope.side) envelope.packet new)
      → Goes t (seated_in places) (seated_in (set places place (Some new))) u w
  goes_handed (Ok report) handed gains = goes_taken t places place old new envelope u w there handed gains
  goes_handed (Err fault) handed gains = goes_still t (seated_in places) (seated_in (set places place (Some new))) u w (ap seated_in (written_back handed.1)) handed.2

  -- the envelope is a receipt where it was taken
  pub received_handed : (result : Result (Option (Told E)) (TakeFault × Sent E M)) → HandsTo t old envelope result new u w → OnOk result (Gains t old (other envelope.side) envelope.packet new)
      → OnOk result (HasReceived (seated_in (set places place (Some new))) envelope)
  received_handed (Ok report) handed gains = received_taken t places place old new envelope u w there handed gains
  received_handed (Err fault) handed gains = tt

  -- it comes back where it was not
  pub back_handed : (result : Result (Option (Told E)) (TakeFault × Sent E M)) → HandsTo t old envelope result new u w → IfErr result (λ fault. fault.1 ≡ envelope)
  back_handed (Ok report) handed = tt
  back_handed (Err fault) handed = handed.0

  -- the node stays at its place
  pub placed_handed : (result : Result (Option (Told E)) (TakeFault × Sent E M)) → HandsTo t old envelope result new u w
      → (number workers : ℕ) (charter : Charter E) → IsPlaced number workers charter place old → IsPlaced number workers charter place new
  placed_handed (Ok report) handed number workers charter placed =
      let charter_is = ap (λ n. n.charter) handed.journal in
      let position_is = ap (λ n. n.position) handed.journal in
      record {
        charter_is = charter_is ∙ placed.charter_is;
        position_is = position_is ∙ placed.position_is;
        owned = ap (λ n. owner_of workers (member_of n)) handed.journal ∙ placed.owned;
      }
  placed_handed (Err fault) handed number workers charter placed = subst (λ n. IsPlaced number workers charter place n) (sym handed.1) placed
