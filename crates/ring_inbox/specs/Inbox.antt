-- An inbox with one receiver and numbered senders, at one moment, and the two steps that change it.
use Rattle.std.specs.Prelude.{◌≡◌, ◌==◌, ℕ, ◌<◌, ◌≤◌, if◌then◌else◌, List, [], ◌∷◌, ◌++◌, length}
use Rattle.std.specs.List.{All}

-- the items of one sender among numbered items, in order
abbrev pub items_of : {T : Type 0} → ℕ → List (ℕ × T) → List T
items_of sender [] = []
items_of sender (m ∷ ms) = (if m.0 == sender then m.1 ∷ items_of sender ms else items_of sender ms)

-- one moment: the items in the queue, oldest first, the items that each sender has stored, and
-- those that the receiver has taken
pub record Moment (T : Type 0) : Type 0 where
  pub queue : List (ℕ × T)
  pub stored : ℕ → List T
  pub taken : List (ℕ × T)

module _ {T : Type 0} where
  -- The items that a sender stored are those taken of it, followed by those in the queue. The queue
  -- is within the capacity.
  pub record IsLegal (capacity : ℕ) (now : Moment T) : Type 0 where
    pub in_order : (sender : ℕ)
        → now.stored sender ≡ items_of sender now.taken ++ items_of sender now.queue
    pub within : length now.queue ≤ capacity

  -- the lists of all senders, after one of them stored one more item
  abbrev pub with_stored : ℕ → T → (ℕ → List T) → ℕ → List T
  with_stored sender item stored p = (if sender == p then stored p ++ item ∷ [] else stored p)

  -- the step of a sender that stores: the item joins at the back of the queue and of that sender's
  -- list
  abbrev pub after_store : ℕ → T → Moment T → Moment T
  after_store sender item now =
      record {
        queue = now.queue ++ (sender, item) ∷ [];
        stored = with_stored sender item now.stored;
        taken = now.taken;
      }

  -- the step of a receiver that takes the first item: `rest` is the queue after it
  abbrev pub after_take : ℕ → T → List (ℕ × T) → Moment T → Moment T
  after_take sender item rest now =
      record { queue = rest; stored = now.stored; taken = now.taken ++ (sender, item) ∷ [] }

  -- This moment is one of a legal inbox whose sender with this number has stored this list. No
  -- fewer items were taken than the sender heard, and numbers without a sender have stored nothing.
  pub record IsSenderAt (capacity senders number : ℕ) (stored : List T) (heard : ℕ) (now : Moment T)
      : Type 0 where
    pub legal : IsLegal capacity now
    pub own : now.stored number ≡ stored
    pub told : heard ≤ length now.taken
    pub numbered : number < senders
    pub others : (p : ℕ) → senders ≤ p → now.stored p ≡ []

  -- This moment is one of a legal inbox whose receiver has taken this list. No sender has stored
  -- fewer items than the receiver heard, and numbers without a sender have stored nothing.
  pub record IsReceiverAt (capacity senders : ℕ) (taken : List (ℕ × T)) (heard : List (ℕ × ℕ))
      (now : Moment T) : Type 0 where
    pub legal : IsLegal capacity now
    pub own : now.taken ≡ taken
    pub told : All (λ h. h.1 ≤ length (now.stored h.0)) heard
    pub others : (p : ℕ) → senders ≤ p → now.stored p ≡ []

  -- at one moment, with room in the queue, this sender stored the item, and the inbox was legal
  -- after it
  pub record StoredOnce (capacity senders number : ℕ) (stored : List T) (heard : ℕ) (item : T)
      : Type 0 where
    pub moment : Moment T
    pub is : IsSenderAt capacity senders number stored heard moment
    pub room : length moment.queue < capacity
    pub legal_after : IsLegal capacity (after_store number item moment)

  -- at one moment the inbox of this sender was full
  pub record WasFull (capacity senders number : ℕ) (stored : List T) (heard : ℕ) : Type 0 where
    pub moment : Moment T
    pub is : IsSenderAt capacity senders number stored heard moment
    pub full : length moment.queue ≡ capacity

  -- at one moment the receiver took this item of a sender from the front of the queue, and the
  -- inbox was legal after it
  pub record TakenOnce (capacity senders : ℕ) (taken : List (ℕ × T)) (heard : List (ℕ × ℕ))
      (sender : ℕ) (item : T) : Type 0 where
    pub moment : Moment T
    pub rest : List (ℕ × T)
    pub is : IsReceiverAt capacity senders taken heard moment
    pub front : moment.queue ≡ (sender, item) ∷ rest
    pub legal_after : IsLegal capacity (after_take sender item rest moment)

  -- at one moment the inbox of this receiver was empty
  pub record WasEmpty (capacity senders : ℕ) (taken : List (ℕ × T)) (heard : List (ℕ × ℕ))
      : Type 0 where
    pub moment : Moment T
    pub is : IsReceiverAt capacity senders taken heard moment
    pub empty : moment.queue ≡ []
