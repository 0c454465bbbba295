-- Pools: the threads of the workers, and the results that they promised.
use Rattle.std.specs.Prelude.{◌≡◌, ◌+◌, ◌<◌, ℕ, List, [], ◌∷◌, ◌++◌, All, Some, length, slice_get}
use Rattle.std.specs.declared.thread.PromisedHandle.{PromisedHandle}
use Rattle.ring_any.specs.declared.any.Any.{Any}
use Rattle.ring_any.specs.declared.any.AnyMsg.{AnyMsg}
use Rattle.ring_any.specs.declared.any.AnyState.{AnyState}
use Rattle.ring_inbox.specs.Values.{ReceiverLog}
use Rattle.ring_service.specs.Handing.{HandsAmong}
use Rattle.ring_service.specs.declared.pool.Work.{Work}
use Rattle.ring_workers.specs.declared.handed.Handed.{Handed}
use Rattle.ring_workers.specs.declared.item.Item.{Item}

-- the receivers of the workers' inboxes, by the promise of a worker's thread
abbrev pub inboxes_of : Work → List (ReceiverLog (Item Any AnyMsg AnyState))
inboxes_of work = work.inboxes.value.value.items

-- the worker's number
abbrev pub number_of : Work → ℕ
number_of work = work.worker.value.owner.number

-- the result of a thread keeps its promise
abbrev pub Keeps : Work → Handed Any AnyMsg AnyState → Type 0
Keeps work handed = HandsAmong (inboxes_of work) (number_of work) handed

-- a thread was started for the worker of this number among these inboxes
pub record StartsOne (inboxes : List (ReceiverLog (Item Any AnyMsg AnyState))) (number : ℕ)
    (old new : List (PromisedHandle (Handed Any AnyMsg AnyState) Work)) : Type 0 where
  pub thread : PromisedHandle (Handed Any AnyMsg AnyState) Work
  pub added : new ≡ old ++ thread ∷ []
  pub inboxes_are : inboxes_of thread.promise ≡ inboxes
  pub number_is : number_of thread.promise ≡ number

-- these threads are of the workers of these inboxes, from the last one down
pub record IsManned (inboxes : List (ReceiverLog (Item Any AnyMsg AnyState)))
    (threads : List (PromisedHandle (Handed Any AnyMsg AnyState) Work)) : Type 0 where
  pub each : (place : ℕ) (thread : PromisedHandle (Handed Any AnyMsg AnyState) Work)
      → slice_get threads place ≡ Some thread
      → (inboxes_of thread.promise ≡ inboxes)
      × (number_of thread.promise + (place + 1) ≡ length inboxes)

-- there is a thread for each worker, and nothing was taken of the inboxes at first
pub record IsWhole
    (threads : List (PromisedHandle (Handed Any AnyMsg AnyState) Work)) : Type 0 where
  pub inboxes : List (ReceiverLog (Item Any AnyMsg AnyState))
  pub fresh : All (λ receiver. receiver.taken ≡ []) inboxes
  pub manned : IsManned inboxes threads
  pub count : length threads ≡ length inboxes

-- all threads were joined, from the last one to the first
pub record Joins (threads : List (PromisedHandle (Handed Any AnyMsg AnyState) Work))
    (handed : List (Handed Any AnyMsg AnyState)) : Type 0 where
  pub count : length handed ≡ length threads
  pub each : (place behind : ℕ) (thread : PromisedHandle (Handed Any AnyMsg AnyState) Work)
      (one : Handed Any AnyMsg AnyState) → place + (behind + 1) ≡ length threads
      → slice_get threads behind ≡ Some thread → slice_get handed place ≡ Some one
      → Keeps thread.promise one
