-- The steps of an inbox's rule, and the facts that its passes keep.
use Rattle.std.specs.Prelude.{◌≡◌, ℕ, ◌+◌, ◌<◌, ◌≤◌, true, List, [], ◌∷◌, ◌++◌, length}
use Rattle.std.specs.List.{All}
use mathlib.Core.Option.{some}
use lib.ListN.{get_elem?}
use mathlib.Core.List.{IsPrefix}
use Rattle.ring_inbox.specs.declared.rule.Known.{Known}
use Rattle.ring_inbox.specs.Inbox.{Moment, IsLegal, IsSenderAt, IsReceiverAt, StoredOnce, TakenOnce, items_of}
use Rattle.ring_inbox.specs.Rule.{receiver, sender}

-- The parts of an inbox other than its queue. `seat` is the pass of each sender and `reader` the
-- pass of the receiver; `made` counts the senders so far.
pub record Ledger (T : Type 0) : Type 0 where
  pub capacity : ℕ
  pub senders : ℕ
  pub made : ℕ
  pub reader : ℕ
  pub seat : ℕ → ℕ
  pub stored : ℕ → List T
  pub taken : List (ℕ × T)

module _ {T : Type 0} where
  -- the knowledge of a sender's pass that took in the receiver's
  abbrev pub met : ℕ → ℕ → ℕ → List T → ℕ → ℕ → List (ℕ × T) → List (ℕ × ℕ) → Known T
  met capacity senders number stored seen made taken heard =
      record {
        sends = true;
        gets = true;
        capacity = capacity;
        senders = senders;
        number = number;
        stored = stored;
        seen = seen;
        made = made;
        taken = taken;
        heard = heard;
      }

  -- the moment of the inbox, by its queue and the other parts
  abbrev pub moment_of : Ledger T → List (ℕ × T) → Moment T
  moment_of ledger queue = record { queue = queue; stored = ledger.stored; taken = ledger.taken }

  -- each sender that was heard has stored at least as many items as it had then
  abbrev pub HaveStored : (ℕ → List T) → List (ℕ × ℕ) → Type 0
  HaveStored stored heard = All (λ h. h.1 ≤ length (stored h.0)) heard

  -- A pass that may send is the one with its number, and knows the items that sender stored. It
  -- heard of no more items than were taken.
  pub record IsSender (ledger : Ledger T) (pass : ℕ) (v : Known T) : Type 0 where
    pub capacity : v.capacity ≡ ledger.capacity
    pub senders : v.senders ≡ ledger.senders
    pub numbered : v.number < ledger.made
    pub seated : ledger.seat v.number ≡ pass
    pub stored : v.stored ≡ ledger.stored v.number
    pub seen : v.seen ≤ length ledger.taken

  -- A pass that may receive is the only one, and knows the items taken. It heard of no more items
  -- than were stored.
  pub record IsReceiver (ledger : Ledger T) (pass : ℕ) (v : Known T) : Type 0 where
    pub capacity : v.capacity ≡ ledger.capacity
    pub senders : v.senders ≡ ledger.senders
    pub made : v.made ≡ ledger.made
    pub seated : pass ≡ ledger.reader
    pub taken : v.taken ≡ ledger.taken
    pub heard : HaveStored ledger.stored v.heard

  -- the knowledge of a pass is true
  pub record Fits (ledger : Ledger T) (pass : ℕ) (v : Known T) : Type 0 where
    pub sends : v.sends ≡ true → IsSender ledger pass v
    pub gets : v.gets ≡ true → IsReceiver ledger pass v

  -- The rule: the inbox is legal, and has at most its number of senders. A number without a sender
  -- has stored nothing, and the knowledge of each pass is true.
  pub record Holds (queue : List (ℕ × T)) (views : List (Known T)) : Type 0 where
    pub ledger : Ledger T
    pub legal : IsLegal ledger.capacity (moment_of ledger queue)
    pub few : ledger.made ≤ ledger.senders
    pub later : (p : ℕ) → ledger.made ≤ p → ledger.stored p ≡ []
    pub fits : (pass : ℕ) (v : Known T) → get_elem? views pass ≡ some v → Fits ledger pass v

  -- The fact that a look at the queue gives a sender: a moment with this queue. The only sender has
  -- stored the items that the queue has, and at least as many others as it heard to be taken.
  pub record SenderSees (v : Known T) (queue : List (ℕ × T)) : Type 0 where
    pub moment : Moment T
    pub queue_is : moment.queue ≡ queue
    pub is : IsSenderAt v.capacity v.senders v.number v.stored v.seen moment
    pub alone : v.senders ≡ 1 → length queue + v.seen ≤ length v.stored

  -- The fact that a look at the queue gives the receiver: a moment with this queue. If the queue is
  -- empty, all items were taken that the receiver heard to be stored.
  pub record ReceiverSees (v : Known T) (queue : List (ℕ × T)) : Type 0 where
    pub moment : Moment T
    pub queue_is : moment.queue ≡ queue
    pub is : IsReceiverAt v.capacity v.senders v.taken v.heard moment
    pub all : queue ≡ [] → HaveStored (λ p. items_of p v.taken) v.heard

  -- the fact that a send gives its pass
  abbrev pub IsStored : Known T → ℕ × T → Known T → Type 0
  IsStored v m w =
      (w ≡ sender v.capacity v.senders v.number (v.stored ++ m.1 ∷ []) v.seen)
      × StoredOnce v.capacity v.senders v.number v.stored v.seen m.1

  -- the fact that a receive gives its pass
  abbrev pub IsTaken : Known T → ℕ × T → Known T → Type 0
  IsTaken v m w =
      (w ≡ receiver v.capacity v.senders v.made (v.taken ++ m ∷ []) v.heard) × (m.0 < v.made)
      × TakenOnce v.capacity v.senders v.taken v.heard m.0 m.1

  -- the items taken of the sender are a prefix of those that it stored, and no more are left than
  -- the inbox has room for
  abbrev pub Compares : Known T → Type 0
  Compares v =
      IsPrefix (items_of v.number v.taken) v.stored
      × (length v.stored ≤ length (items_of v.number v.taken) + v.capacity)
