-- The results of the workers when a service is closed.
use Rattle.std.specs.Prelude.{◌≡◌, ℕ, List, [], All, Some, length, map, slice_get}
use Rattle.ring_any.specs.Any.{any_table}
use Rattle.ring_any.specs.declared.any.Any.{Any}
use Rattle.ring_any.specs.declared.any.AnyMsg.{AnyMsg}
use Rattle.ring_any.specs.declared.any.AnyState.{AnyState}
use Rattle.ring_inbox.specs.Values.{ReceiverLog, SenderLog, fresh_sender}
use Rattle.ring_workers.specs.Handed.{Hands}
use Rattle.ring_workers.specs.declared.handed.Handed.{Handed}
use Rattle.ring_workers.specs.declared.item.Item.{Item}

-- The result of the worker with this number, which began with these passes. There are `workers`
-- workers.
pub record HandsFrom (number workers : ℕ) (from : ReceiverLog (Item Any AnyMsg AnyState))
    (old : List (SenderLog (Item Any AnyMsg AnyState)))
    (handed : Handed Any AnyMsg AnyState) : Type 0 where
  pub to : ReceiverLog (Item Any AnyMsg AnyState)
  pub new : List (SenderLog (Item Any AnyMsg AnyState))
  pub hands : Hands any_table number workers from to old new handed

-- The result of the worker with this number, given the receivers of all inboxes. It began with the
-- receiver at its own place. Its pass at each place was a sender of the inbox of the worker with
-- that number, and its own number was the sender's. No pass had stored anything.
pub record HandsAmong (inboxes : List (ReceiverLog (Item Any AnyMsg AnyState))) (number : ℕ)
    (handed : Handed Any AnyMsg AnyState) : Type 0 where
  pub own : ReceiverLog (Item Any AnyMsg AnyState)
  pub there : slice_get inboxes number ≡ Some own
  pub hands : HandsFrom number (length inboxes) own
      (map (λ receiver. fresh_sender receiver.inbox number) inboxes) handed

-- The results of all workers, in the order of their numbers, from the first item of each inbox on.
pub record AllHand (handed : List (Handed Any AnyMsg AnyState)) : Type 0 where
  pub inboxes : List (ReceiverLog (Item Any AnyMsg AnyState))
  pub fresh : All (λ receiver. receiver.taken ≡ []) inboxes
  pub count : length handed ≡ length inboxes
  pub each : (number : ℕ) (one : Handed Any AnyMsg AnyState) → slice_get handed number ≡ Some one
      → HandsAmong inboxes number one
