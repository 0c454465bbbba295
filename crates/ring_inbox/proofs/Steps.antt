-- The two steps of an inbox keep it legal, and what a full or an empty queue says of what was
-- heard.
use Rattle.std.proofs.Common.{◌≡◌, ◌≢◌, ◌==◌, ℕ, zero, suc, ◌+◌, ◌<◌, ◌≤◌, Bool, true, false, if◌then◌else◌, List, [], ◌∷◌, ◌++◌, length, length-append, append_assoc, le_refl, le_trans, slice_index_or, sym, refl, ap, ◌∙◌, eq-eqb, ne_eqb, arith}
use Rattle.ring_inbox.specs.Inbox.{Moment, IsLegal, IsSenderAt, IsReceiverAt, items_of, with_stored, after_store, after_take}
use Rattle.ring_inbox.specs.private.Rule.{HaveStored}

module _ {T : Type 0} where
  -- an item before a list and an item after it make no difference to each other
  before_and_behind : (b c : Bool) (y x : T) (l : List T) → (if b then y ∷ (if c then l ++ x ∷ [] else l) else (if c then l ++ x ∷ [] else l)) ≡ (if c then (if b then y ∷ l else l) ++ x ∷ [] else (if b then y ∷ l else l))
  before_and_behind true true y x l = refl
  before_and_behind true false y x l = refl
  before_and_behind false true y x l = refl
  before_and_behind false false y x l = refl

  -- Numbered items and one more after them: a sender's are those that it had, and that one if it is
  -- its own.
  pub items_of-push : (sender p : ℕ) (x : T) (ms : List (ℕ × T)) → items_of sender (ms ++ (p, x) ∷ []) ≡ (if p == sender then items_of sender ms ++ x ∷ [] else items_of sender ms)
  items_of-push sender p x [] = refl
  items_of-push sender p x (m ∷ ms) = ap (λ (l : List T). (if m.0 == sender then m.1 ∷ l else l)) (items_of-push sender p x ms) ∙ before_and_behind (m.0 == sender) (p == sender) m.1 x (items_of sender ms)

  -- Stored items stay the taken ones and then those in the queue, if an item joins at the back or
  -- is of another sender.
  joins_at_back : (b : Bool) (stored taken queue : List T) (x : T) → stored ≡ taken ++ queue → (if b then stored ++ x ∷ [] else stored) ≡ taken ++ (if b then queue ++ x ∷ [] else queue)
  joins_at_back true stored taken queue x e = ap (λ (l : List T). l ++ x ∷ []) e ∙ append_assoc taken queue (x ∷ [])
  joins_at_back false stored taken queue x e = e

  -- the same if an item goes from the front of the queue to those taken
  leaves_at_front : (b : Bool) (stored taken queue : List T) (x : T) → stored ≡ taken ++ (if b then x ∷ queue else queue) → stored ≡ (if b then taken ++ x ∷ [] else taken) ++ queue
  leaves_at_front true stored taken queue x e = e ∙ sym (append_assoc taken (x ∷ []) queue)
  leaves_at_front false stored taken queue x e = e

  -- if there is room, an inbox stays legal when a sender stores
  pub legal_after_store : (capacity sender : ℕ) (x : T) (now : Moment T) → IsLegal capacity now → length now.queue < capacity → IsLegal capacity (after_store sender x now)
  legal_after_store capacity sender x now legal room = record {
    in_order = λ p. joins_at_back (sender == p) (now.stored p) (items_of p now.taken) (items_of p now.queue) x (legal.in_order p) ∙ ap (λ (l : List T). items_of p now.taken ++ l) (sym (items_of-push p sender x now.queue));
    within = omega (arith, length-append now.queue ((sender, x) ∷ []), room);
  }

  -- an inbox stays legal when the receiver takes the front of the queue
  pub legal_after_take : (capacity sender : ℕ) (x : T) (rest : List (ℕ × T)) (now : Moment T) → IsLegal capacity now → now.queue ≡ (sender, x) ∷ rest → IsLegal capacity (after_take sender x rest now)
  legal_after_take capacity sender x rest now legal front = record {
    in_order = λ p. leaves_at_front (sender == p) (now.stored p) (items_of p now.taken) (items_of p rest) x (legal.in_order p ∙ ap (λ (q : List (ℕ × T)). items_of p now.taken ++ items_of p q) front) ∙ ap (λ (l : List T). l ++ items_of p rest) (sym (items_of-push p sender x now.taken));
    within = let shorter : length now.queue ≡ length ((sender, x) ∷ rest) = ap length front in omega (arith, shorter, legal.within);
  }

  -- the sender that stored has one item more
  pub with_stored-own : (sender : ℕ) (x : T) (stored : ℕ → List T) → with_stored sender x stored sender ≡ stored sender ++ x ∷ []
  with_stored-own sender x stored = ap (λ (b : Bool). (if b then stored sender ++ x ∷ [] else stored sender)) (eq-eqb sender sender refl)

  -- the other senders have what they had
  pub with_stored-other : (sender p : ℕ) (x : T) (stored : ℕ → List T) → sender ≢ p → with_stored sender x stored p ≡ stored p
  with_stored-other sender p x stored other = ap (λ (b : Bool). (if b then stored p ++ x ∷ [] else stored p)) (ne_eqb sender p other)

  -- no sender has less than it had
  pub with_stored-longer : (sender : ℕ) (x : T) (stored : ℕ → List T) (p : ℕ) → length (stored p) ≤ length (with_stored sender x stored p)
  with_stored-longer sender x stored p = longer (sender == p) (stored p)
    where
      longer : (b : Bool) (l : List T) → length l ≤ length (if b then l ++ x ∷ [] else l)
      longer true l = omega (arith, length-append l (x ∷ []))
      longer false l = le_refl _

  -- a heard number stays true if each sender has as many items or more
  pub have_stored_more : (heard : List (ℕ × ℕ)) (old new : ℕ → List T) → ((p : ℕ) → length (old p) ≤ length (new p)) → HaveStored old heard → HaveStored new heard
  have_stored_more heard old new more all k d lt = le_trans (all k d lt) (more (slice_index_or heard k d).0)

  -- if the queue is empty, all items were taken that the receiver heard to be stored
  pub all_taken_if_empty : (capacity senders : ℕ) (taken : List (ℕ × T)) (heard : List (ℕ × ℕ)) (now : Moment T) → IsReceiverAt capacity senders taken heard now → now.queue ≡ []
      → HaveStored (λ p. items_of p taken) heard
  all_taken_if_empty capacity senders taken heard now is none =
      have_stored_more heard now.stored (λ p. items_of p taken) (λ p.
      let order : length (now.stored p) ≡ length (items_of p now.taken ++ items_of p now.queue) = ap length (is.legal.in_order p) in
      let queue : length (items_of p now.queue) ≡ 0 = ap (λ (q : List (ℕ × T)). length (items_of p q)) none in
      let own : length (items_of p now.taken) ≡ length (items_of p taken) = ap (λ (l : List (ℕ × T)). length (items_of p l)) is.own in
      omega (arith, order, queue, own, length-append (items_of p now.taken) (items_of p now.queue))) is.told

  -- of numbered items all are of number 0 if none is of another
  all_of_first : (ms : List (ℕ × T)) → ((k : ℕ) → length (items_of (suc k) ms) ≡ 0) → length (items_of 0 ms) ≡ length ms
  all_of_first [] none = refl
  all_of_first ((zero, x) ∷ ms) none = ap suc (all_of_first ms (λ k. sym (ap (λ (b : Bool). length (if b then x ∷ items_of (suc k) ms else items_of (suc k) ms)) (ne_eqb 0 (suc k) (λ same. omega arith))) ∙ none k))
  all_of_first ((suc p, x) ∷ ms) none = absurd (
      let one : length (if suc p == suc p then x ∷ items_of (suc p) ms else items_of (suc p) ms) ≡ 0 = none p in
      let own : length (if suc p == suc p then x ∷ items_of (suc p) ms else items_of (suc p) ms) ≡ suc (length (items_of (suc p) ms)) =
      ap (λ (b : Bool). length (if b then x ∷ items_of (suc p) ms else items_of (suc p) ms)) (eq-eqb (suc p) (suc p) refl) in
      omega (arith, one, own))

  -- an only sender has stored what the queue holds, and what it heard to be taken, or more
  pub room_if_alone : (capacity senders number : ℕ) (stored : List T) (heard : ℕ) (now : Moment T) → IsSenderAt capacity senders number stored heard now → senders ≡ 1
      → length now.queue + heard ≤ length stored
  room_if_alone capacity senders number stored heard now is one =
      let lengths : (p : ℕ) → length (now.stored p) ≡ length (items_of p now.taken) + length (items_of p now.queue) =
      λ p. ap length (is.legal.in_order p) ∙ length-append (items_of p now.taken) (items_of p now.queue) in
      let others : (k : ℕ) → length (now.stored (suc k)) ≡ 0 = λ k. ap length (is.others (suc k) (omega arith)) in
      let queue : length (items_of 0 now.queue) ≡ length now.queue = all_of_first now.queue (λ k. let sum = lengths (suc k) in let none = others k in omega (arith, sum, none)) in
      let taken : length (items_of 0 now.taken) ≡ length now.taken = all_of_first now.taken (λ k. let sum = lengths (suc k) in let none = others k in omega (arith, sum, none)) in
      let first : number ≡ 0 = let numbered = is.numbered in omega arith in
      let own : length (now.stored 0) ≡ length stored = ap (λ (p : ℕ). length (now.stored p)) (sym first) ∙ ap length is.own in
      let sum = lengths 0 in
      let seen = is.told in
      omega (arith, sum, queue, taken, own, seen)

  -- one item more at most makes a list one longer at most
  longer_by_one : (b : Bool) (x : T) (l : List T) (n : ℕ) → length l ≤ n → length (if b then x ∷ l else l) ≤ suc n
  longer_by_one true x l n short = omega (arith, short)
  longer_by_one false x l n short = omega (arith, short)

  -- a sender has no more items than there are
  pub items_of-shorter : (sender : ℕ) (ms : List (ℕ × T)) → length (items_of sender ms) ≤ length ms
  items_of-shorter sender [] = le_refl _
  items_of-shorter sender (m ∷ ms) = longer_by_one (m.0 == sender) m.1 (items_of sender ms) (length ms) (items_of-shorter sender ms)
