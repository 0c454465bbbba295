-- Runs: the work of a worker on the items that it took.
use Rattle.std.specs.Prelude.{◌≡◌, ℕ, List, ◌++◌, map, Option, None, Some, option_to_list}
use Rattle.ring_election.specs.Tables.{Table}
use Rattle.ring_inbox.specs.Values.{ReceiverLog, SenderLog}
use Rattle.ring_node.specs.declared.charter.Charter.{Charter}
use Rattle.ring_node.specs.Envelopes.{Sent}
use Rattle.ring_node.specs.Nodes.{Seated}
use Rattle.ring_workers.specs.declared.handed.Why.{Why}
use Rattle.ring_workers.specs.declared.handed.Why.TheVariants.{Stopped, Closed, Halted, Starved, Spent}
use Rattle.ring_workers.specs.declared.item.Item.{Item}
use Rattle.ring_workers.specs.declared.item.Item.TheVariants.{Begin, Packet, Stop}
use Rattle.ring_workers.specs.Goings.{HasReceived, IsSent}
use Rattle.ring_workers.specs.Holdings.{AllSeated, Holding, charters_of, nodes_of}
use Rattle.ring_workers.specs.Lists.{IsOneOf}
use Rattle.ring_workers.specs.Sends.{Stored}

module _ {E M S : Type 0} where
  -- the charter of an item, if it has one
  abbrev pub charter_of : Item E M S → Option (Charter E)
  charter_of (Begin c) = Some c.value
  charter_of (Packet e) = Some e.charter
  charter_of Stop = None

  -- the item is done among these nodes: each node that the worker owns of a charter that begins is
  -- there, and an envelope is a receipt of the node to which its link leads
  abbrev pub IsDone : ℕ → ℕ → List (Seated E M) → Item E M S → Type 0
  IsDone number workers nodes (Begin c) = AllSeated number workers nodes c.value
  IsDone number workers nodes (Packet e) = HasReceived nodes e
  IsDone number workers nodes Stop = Unit {0}

  -- all items of the charter's group are of its term
  pub record OneTerm (items : List (Item E M S)) (charter : Charter E) : Type 0 where
    pub each : (item : Item E M S) (c : Charter E) → IsOneOf items item → charter_of item ≡ Some c → c.group ≡ charter.group → c.term ≡ charter.term

  -- if nothing was dropped and the items of a group that were taken are of one term, each of them
  -- that was handled is done
  pub record AllDone (number workers : ℕ) (nodes : List (Seated E M)) (dropped : ℕ) (taken handled : List (Item E M S)) : Type 0 where
    pub each : dropped ≡ 0 → (item : Item E M S) (c : Charter E) → IsOneOf handled item → charter_of item ≡ Some c → OneTerm taken c → IsDone number workers nodes item

  -- A worker ends at this item for this reason, with this item in hand. The word to stop was
  -- handled, as was an item whose report spent the desk's turns. If the gate halted it or an
  -- allocation failed, the item is in hand still.
  abbrev pub IsEnd : Why → Item E M S → Option (Item E M S) → Type 0
  IsEnd Stopped item held = (item ≡ Stop) × (held ≡ None)
  IsEnd Closed item held = ⊥
  IsEnd Halted item held = held ≡ Some item
  IsEnd Starved item held = held ≡ Some item
  IsEnd Spent item held = held ≡ None

  module _ (t : E → Table S M) where
    -- The work of a worker of this number since its receiver's pass was `from` and its senders'
    -- passes were `old`. Each item that it took was handled or is in hand. Its passes stored
    -- packets alone, each by the pass to its receiver's owner. Each packet that a node of it has
    -- sent was stored so or waits. Each item that was handled is done. It holds charters of groups
    -- and terms of items alone.
    pub record Ran (number workers : ℕ) (from to : ReceiverLog (Item E M S)) (old new : List (SenderLog (Item E M S)))
        (holding : Holding E M) (outbox : List (Sent E M)) (dropped : ℕ) (held : Option (Item E M S)) : Type 0 where
      pub number_is : holding.number ≡ number
      pub workers_is : holding.workers ≡ workers
      pub taken : List (ℕ × Item E M S)
      pub took : to ≡ record from { taken = from.taken ++ taken }
      pub handled : List (Item E M S)
      pub rest : map (λ pair. pair.1) taken ≡ handled ++ option_to_list held
      pub sent : List (Sent E M)
      pub passes : Stored workers sent old new
      pub posted : (node : Seated E M) → IsOneOf (nodes_of holding) node → (e : Sent E M) → IsSent t node e → IsOneOf (sent ++ outbox) e
      pub done : AllDone number workers (nodes_of holding) dropped (map (λ pair. pair.1) taken) handled
      pub source : (c : Charter E) → IsOneOf (charters_of holding) c →
          (item : Item E M S) × (d : Charter E) × IsOneOf (map (λ pair. pair.1) taken) item × (charter_of item ≡ Some d) × (d.group ≡ c.group) × (d.term ≡ c.term)
