-- The look of a call that does not store or take gives a fact about the inbox.
use Rattle.std.proofs.Common.{◌≡◌, ℕ, ◌+◌, ◌≤◌, List, [], ◌∷◌, length, refl, ap, ◌∙◌, subst, arith}
use Rattle.crossbeam_channel.specs.Fifo.{Held}
use Rattle.ring_inbox.specs.declared.rule.Known.{Known}
use Rattle.ring_inbox.specs.Inbox.{IsSenderAt, IsReceiverAt, StoredOnce, WasFull, TakenOnce, WasEmpty, items_of}
use Rattle.ring_inbox.specs.private.Rule.{HaveStored, SenderSees, ReceiverSees}

-- a list without elements is empty
none_of_length : {A : Type 0} (l : List A) → length l ≡ 0 → l ≡ []
none_of_length [] e = refl
none_of_length (x ∷ l) e = absurd (omega (arith, e))

module _ {T : Type 0} where
  -- the capacity and the number by which the pass's own fields name them
  pub stored_once : (v : Known T) (capacity number : ℕ) (item : T) → v.capacity ≡ capacity → v.number ≡ number → StoredOnce v.capacity v.senders v.number v.stored v.seen item
      → StoredOnce capacity v.senders number v.stored v.seen item
  stored_once v capacity number item size own = subst (λ (n : ℕ × ℕ). StoredOnce n.0 v.senders n.1 v.stored v.seen item) (λ i. (size i, own i))

  -- a look at a queue with as many items as the inbox holds is a moment at which it was full
  pub was_full : (v : Known T) (capacity number : ℕ) → v.capacity ≡ capacity → v.number ≡ number → Held capacity (SenderSees v) → WasFull capacity v.senders number v.stored v.seen
  was_full v capacity number size own held = record {
    moment = held.2.moment;
    is = subst (λ (n : ℕ × ℕ). IsSenderAt n.0 v.senders n.1 v.stored v.seen held.2.moment) (λ i. (size i, own i)) held.2.is;
    full = ap (λ (q : List (ℕ × T)). length q) held.2.queue_is ∙ held.1;
  }

  -- of an only sender it says how much is stored
  pub full_if_alone : (v : Known T) (capacity : ℕ) → Held capacity (SenderSees v) → v.senders ≡ 1 → capacity + v.seen ≤ length v.stored
  full_if_alone v capacity held one = subst (λ (n : ℕ). n + v.seen ≤ length v.stored) held.1 (held.2.alone one)

  pub taken_once : (v : Known T) (capacity sender : ℕ) (item : T) → v.capacity ≡ capacity → TakenOnce v.capacity v.senders v.taken v.heard sender item → TakenOnce capacity v.senders v.taken v.heard sender item
  taken_once v capacity sender item size = subst (λ (n : ℕ). TakenOnce n v.senders v.taken v.heard sender item) size

  -- a look at a queue without items is a moment at which the inbox was empty
  pub was_empty : (v : Known T) (capacity : ℕ) → v.capacity ≡ capacity → Held 0 (ReceiverSees v) → WasEmpty capacity v.senders v.taken v.heard
  was_empty v capacity size held = record {
    moment = held.2.moment;
    is = subst (λ (n : ℕ). IsReceiverAt n v.senders v.taken v.heard held.2.moment) size held.2.is;
    empty = held.2.queue_is ∙ none_of_length held.0 held.1;
  }

  -- and it says that the receiver has taken all items that it heard of
  pub taken_all : (v : Known T) → Held 0 (ReceiverSees v) → HaveStored (λ p. items_of p v.taken) v.heard
  taken_all v held = held.2.all (none_of_length held.0 held.1)
