-- The result of each call, and the pass after it.
use Rattle.std.specs.Prelude.{◌≡◌, ◌+◌, ◌<◌, ◌≤◌, [], ◌∷◌, ◌++◌, length}
use Rattle.std.specs.List.{All}
use Rattle.ring_inbox.specs.declared.passes.Put.{Put}
use Rattle.ring_inbox.specs.declared.passes.Put.TheVariants as put
use Rattle.ring_inbox.specs.declared.passes.Take.{Take}
use Rattle.ring_inbox.specs.declared.passes.Take.TheVariants as take
use Rattle.ring_inbox.specs.declared.passes.TryTake.{TryTake}
use Rattle.ring_inbox.specs.declared.passes.TryTake.TheVariants as try_take
use Rattle.ring_inbox.specs.Inbox.{StoredOnce, WasFull, TakenOnce, WasEmpty, items_of}
use Rattle.ring_inbox.specs.Values.{SenderLog, ReceiverLog}

module _ {T : Type 0} where
  -- a stored item joins at the end of the pass's list; one that was not stored is given back, and
  -- nothing changes
  abbrev pub AfterPut : SenderLog T → T → Put T → SenderLog T → Type 0
  AfterPut old item put.Stored new = new ≡ record old { stored = old.stored ++ item ∷ [] }
  AfterPut old item (put.Full back) new = (back ≡ item) × (new ≡ old)
  AfterPut old item (put.Gone back) new = (back ≡ item) × (new ≡ old)

  -- a taken item joins the pass's list with its sender's number; otherwise nothing changes
  abbrev pub AfterTake : ReceiverLog T → Take T → ReceiverLog T → Type 0
  AfterTake old (take.Taken sender item) new =
      new ≡ record old { taken = old.taken ++ (sender, item) ∷ [] }
  AfterTake old take.Closed new = new ≡ old

  -- a taken item is of a sender of this inbox
  abbrev pub IsNumbered : ReceiverLog T → Take T → Type 0
  IsNumbered old (take.Taken sender item) = sender < old.senders
  IsNumbered old take.Closed = Unit {0}

  -- the same for a take that does not wait
  abbrev pub AfterTryTake : ReceiverLog T → TryTake T → ReceiverLog T → Type 0
  AfterTryTake old (try_take.Taken sender item) new =
      new ≡ record old { taken = old.taken ++ (sender, item) ∷ [] }
  AfterTryTake old try_take.Empty new = new ≡ old

  abbrev pub IsNumberedIfTaken : ReceiverLog T → TryTake T → Type 0
  IsNumberedIfTaken old (try_take.Taken sender item) = sender < old.senders
  IsNumberedIfTaken old try_take.Empty = Unit {0}

  -- the moment of the whole inbox that a put reports; Gone reports none
  abbrev pub PutMoment : SenderLog T → T → Put T → Type 0
  PutMoment old item put.Stored =
      StoredOnce old.inbox.capacity old.inbox.senders old.number old.stored old.heard item
  PutMoment old item (put.Full _) =
      WasFull old.inbox.capacity old.inbox.senders old.number old.stored old.heard
  PutMoment old item (put.Gone _) = Unit {0}

  -- the moment of the whole inbox that a take reports
  abbrev pub TakeMoment : ReceiverLog T → Take T → Type 0
  TakeMoment old (take.Taken sender item) =
      TakenOnce old.inbox.capacity old.inbox.senders old.taken old.heard sender item
  TakeMoment old take.Closed = WasEmpty old.inbox.capacity old.inbox.senders old.taken old.heard

  -- the moment that a take reports that does not wait
  abbrev pub TryTakeMoment : ReceiverLog T → TryTake T → Type 0
  TryTakeMoment old (try_take.Taken sender item) =
      TakenOnce old.inbox.capacity old.inbox.senders old.taken old.heard sender item
  TryTakeMoment old try_take.Empty =
      WasEmpty old.inbox.capacity old.inbox.senders old.taken old.heard

  -- the only sender of an inbox gets Full only if it has stored at least `capacity` items more than
  -- it heard to be taken
  abbrev pub IsFullIfAlone : SenderLog T → Put T → Type 0
  IsFullIfAlone old (put.Full _) =
      old.inbox.senders ≡ 1 → old.inbox.capacity + old.heard ≤ length old.stored
  IsFullIfAlone old _ = Unit {0}

  -- of each sender that the receiver heard, at least as many items were taken as that sender had
  -- stored then
  abbrev pub HasTakenAll : ReceiverLog T → Type 0
  HasTakenAll receiver = All (λ h. h.1 ≤ length (items_of h.0 receiver.taken)) receiver.heard

  -- Closed comes only if all items are taken that the receiver heard to be stored
  abbrev pub IsClosedAfterAll : ReceiverLog T → Take T → Type 0
  IsClosedAfterAll old take.Closed = HasTakenAll old
  IsClosedAfterAll old _ = Unit {0}

  -- Empty comes only if all items are taken that the receiver heard to be stored
  abbrev pub IsEmptyAfterAll : ReceiverLog T → TryTake T → Type 0
  IsEmptyAfterAll old try_take.Empty = HasTakenAll old
  IsEmptyAfterAll old _ = Unit {0}
