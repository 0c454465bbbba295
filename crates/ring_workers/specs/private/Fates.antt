-- Fates: what became of an item, if no allocation failed, and how many items were dropped.
use Rattle.std.specs.Prelude.{◌≡◌, ◌+◌, ◌-◌, ◌^◌, ◌⊎◌, ℕ, List, min}
use Rattle.ring_id.specs.Sides.{other}
use Rattle.ring_node.specs.declared.charter.Charter.{Charter}
use Rattle.ring_node.specs.Envelopes.{Sent}
use Rattle.ring_node.specs.Nodes.{IsForNode, IsNext, Seated, taken_of}
use Rattle.ring_workers.specs.declared.term_nodes.Fate.{Fate}
use Rattle.ring_workers.specs.declared.term_nodes.Fate.TheVariants.{Done, Older, Strange}
use Rattle.ring_workers.specs.Goings.{HasReceived}
use Rattle.ring_workers.specs.Holdings.{AllSeated, Holding, charters_of, nodes_of}
use Rattle.ring_workers.specs.Lists.{IsOneOf}
use Rattle.ring_workers.specs.Owners.{owner_of, receiver_of}
use Rattle.ring_workers.specs.private.Holdings.{IsOlder}

-- among these nodes is the one to which the envelope's link leads, and the packet is not the next
-- of the link: it was taken before, or one before it was not
pub record IsOutOfTurn {E M : Type 0} (nodes : List (Seated E M)) (envelope : Sent E M) : Type 0 where
  pub node : Seated E M
  pub there : IsOneOf nodes node
  pub led : IsForNode node envelope
  pub late : IsNext (taken_of node (other envelope.side)) envelope.index envelope.packet → ⊥

-- these nodes, which are of this charter, do not take the envelope: it is of another charter, or
-- out of turn
abbrev pub IsTurnedAway : {E M : Type 0} → List (Seated E M) → Charter E → Sent E M → Type 0
IsTurnedAway nodes charter envelope = (charter ≡ envelope.charter → ⊥) ⊎ IsOutOfTurn nodes envelope

-- a charter of the envelope's group and term is held, whose nodes do not take the envelope
pub record IsStranger {E M : Type 0} (holding : Holding E M) (envelope : Sent E M) : Type 0 where
  pub held : Charter E
  pub there : IsOneOf (charters_of holding) held
  pub group : held.group ≡ envelope.charter.group
  pub term : held.term ≡ envelope.charter.term
  pub away : IsTurnedAway (nodes_of holding) held envelope

-- another charter of the same group and term is held
pub record HasOther {E M : Type 0} (holding : Holding E M) (charter : Charter E) : Type 0 where
  pub held : Charter E
  pub there : IsOneOf (charters_of holding) held
  pub group : held.group ≡ charter.group
  pub term : held.term ≡ charter.term
  pub differs : held ≡ charter → ⊥

-- the fate of a charter that begins: each node that the worker owns is seated, or a newer term was
-- held, or another charter of its term is held
abbrev pub IsFate : {E M : Type 0} → Holding E M → Holding E M → Charter E → Fate → Type 0
IsFate old new charter Done = AllSeated new.number new.workers (nodes_of new) charter
IsFate old new charter Older = IsOlder (charters_of old) charter
IsFate old new charter Strange = HasOther new charter

-- the fate of an envelope: it is a receipt, or a newer term was held, or the nodes of its term do
-- not take it
abbrev pub IsEnvelopeFate : {E M : Type 0} → Holding E M → Holding E M → Sent E M → Fate → Type 0
IsEnvelopeFate old new envelope Done = HasReceived (nodes_of new) envelope
IsEnvelopeFate old new envelope Older = IsOlder (charters_of old) envelope.charter
IsEnvelopeFate old new envelope Strange = IsStranger new envelope

-- how many items were dropped after an item of this fate, up to the greatest `u64`
abbrev pub dropped_by : Fate → ℕ → ℕ
dropped_by Done dropped = dropped
dropped_by Older dropped = dropped
dropped_by Strange dropped = min (dropped + 1) (2 ^ 64 - 1)

-- a charter has one of these fates, and is counted if it is strange
abbrev pub IsBegun : {E M : Type 0} → Holding E M → Holding E M → ℕ → ℕ → Charter E → Type 0
IsBegun old new before dropped charter = (fate : Fate) × IsFate old new charter fate × (dropped ≡ dropped_by fate before)

-- an envelope has one of these fates, or is for a node of another worker; it is counted if it is
-- strange or for such a node
abbrev pub IsDelivered : {E M : Type 0} → Holding E M → Holding E M → ℕ → ℕ → Sent E M → Type 0
IsDelivered old new before dropped envelope =
    ((fate : Fate) × IsEnvelopeFate old new envelope fate × (dropped ≡ dropped_by fate before))
    ⊎ ((owner_of new.workers (receiver_of envelope) ≡ new.number → ⊥) × (dropped ≡ dropped_by Strange before))
