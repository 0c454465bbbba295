-- Handed: the nodes and all else that a worker hands over.
use Rattle.std.specs.Prelude.{◌≡◌, ℕ, List, [], ◌∷◌, ◌++◌, Option, None}
use Rattle.ring_election.specs.Tables.{Table}
use Rattle.ring_inbox.specs.Values.{ReceiverLog, SenderLog}
use Rattle.ring_workers.specs.declared.handed.Handed.{Handed}
use Rattle.ring_workers.specs.declared.handed.Rest.{Rest}
use Rattle.ring_workers.specs.declared.handed.Why.{Why}
use Rattle.ring_workers.specs.declared.handed.Why.TheVariants.{Closed}
use Rattle.ring_workers.specs.declared.item.Item.{Item}
use Rattle.ring_workers.specs.Holdings.{AllOwned, NoTwoAlike, nodes_of}
use Rattle.ring_workers.specs.Runs.{IsEnd, Ran}

-- all that was handed over except the nodes
abbrev pub rest_of : {E M S : Type 0} → Handed E M S → Rest E M S
rest_of handed = record {
  number = handed.number;
  workers = handed.workers;
  outbox = handed.outbox;
  held = handed.held;
  unfiled = handed.unfiled;
  dropped = handed.dropped;
  why = handed.why;
}

-- it took items, and for this reason it ended at the last of them, with this item in hand
pub record EndedAtLast {E M S : Type 0} (why : Why) (from to : ReceiverLog (Item E M S)) (held : Option (Item E M S)) : Type 0 where
  pub earlier : List (ℕ × Item E M S)
  pub sender : ℕ
  pub last : Item E M S
  pub took : to.taken ≡ (from.taken ++ earlier) ++ (sender, last) ∷ []
  pub ends : IsEnd why last held

-- the end of a worker: at the last item that it took, or with nothing in hand if its inbox was
-- closed
abbrev pub Ended : {E M S : Type 0} → Why → ReceiverLog (Item E M S) → ReceiverLog (Item E M S) → Option (Item E M S) → Type 0
Ended Closed from to held = held ≡ None
Ended why from to held = EndedAtLast why from to held

-- A worker of this number, among `workers`, hands over its own nodes, no two alike. The record says
-- how it ran from the first item to the last, and why it ended.
pub record Hands {E M S : Type 0} (t : E → Table S M) (number workers : ℕ) (from to : ReceiverLog (Item E M S)) (old new : List (SenderLog (Item E M S))) (handed : Handed E M S) : Type 0 where
  pub number_is : handed.number ≡ number
  pub workers_is : handed.workers ≡ workers
  pub owned : AllOwned number workers (nodes_of handed.nodes)
  pub apart : NoTwoAlike (nodes_of handed.nodes)
  pub ran : Ran t number workers from to old new handed.nodes handed.outbox.items handed.dropped handed.held
  pub ended : Ended handed.why from to handed.held
