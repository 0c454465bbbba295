-- The promises of inner functions of a worker on its work in a run.
use Rattle.std.specs.Prelude.{◌≡◌, ◌≤◌, ◌⊎◌, ℕ, List, [], ◌∷◌, ◌++◌, Option, None, Some}
use Rattle.ring_election.specs.Tables.{Table}
use Rattle.ring_inbox.specs.Values.{ReceiverLog}
use Rattle.ring_node.specs.Envelopes.{Sent}
use Rattle.ring_workers.specs.declared.handed.Why.{Why}
use Rattle.ring_workers.specs.declared.item.Item.{Item}
use Rattle.ring_workers.specs.declared.item.Item.TheVariants.{Begin, Packet, Stop}
use Rattle.ring_workers.specs.declared.run.Next.{Next}
use Rattle.ring_workers.specs.declared.run.Next.TheVariants as next
use Rattle.ring_workers.specs.Holdings.{Holding}
use Rattle.ring_workers.specs.private.Fates.{IsBegun, IsDelivered}
use Rattle.ring_workers.specs.private.Holdings.{Steps}
use Rattle.ring_workers.specs.Runs.{IsEnd}

module _ {E M S : Type 0} where
  -- an item that comes is taken; else nothing changes
  abbrev pub Gives : ReceiverLog (Item E M S) → Next E M S → ReceiverLog (Item E M S) → Type 0
  Gives old (next.Item item) new = (sender : ℕ) × (new ≡ record old { taken = old.taken ++ (sender, item) ∷ [] })
  Gives old next.Nothing new = new ≡ old
  Gives old next.Closed new = new ≡ old

  -- the item that a worker has in hand when it ends
  abbrev pub held_of : Option (Why × Option (Item E M S)) → Option (Item E M S)
  held_of None = None
  held_of (Some end) = end.1

  -- it ends at this item, or goes on; after the word to stop it never goes on
  abbrev pub EndsAt : Item E M S → Option (Why × Option (Item E M S)) → Type 0
  EndsAt item None = item ≡ Stop → ⊥
  EndsAt item (Some end) = IsEnd end.0 item end.1

  -- the fate of the item, and whether it was counted as dropped
  abbrev pub IsHandled : Holding E M → Holding E M → ℕ → ℕ → Item E M S → Type 0
  IsHandled old new before dropped (Begin c) = IsBegun old new before dropped c.value
  IsHandled old new before dropped (Packet e) = IsDelivered old new before dropped e
  IsHandled old new before dropped Stop = dropped ≡ before

  module _ (t : E → Table S M) where
    -- the effect of an item on the nodes and the outbox
    abbrev pub StepsFor : Item E M S → Holding E M → Holding E M → List (Sent E M) → List (Sent E M) → Type 0
    StepsFor (Begin c) old new waiting after = Steps t c.value old new waiting after
    StepsFor (Packet e) old new waiting after = Steps t e.charter old new waiting after
    StepsFor Stop old new waiting after = (new ≡ old) × (after ≡ waiting)

    -- one turn of a worker: the item has its effect, and it is in hand still and not counted as
    -- dropped, or it was handled
    pub record Turns (item : Item E M S) (old new : Holding E M) (waiting after : List (Sent E M)) (before dropped : ℕ) (held : Option (Item E M S)) : Type 0 where
      pub steps : StepsFor item old new waiting after
      pub grows : before ≤ dropped
      pub end : ((held ≡ Some item) × (dropped ≡ before)) ⊎ ((held ≡ None) × IsHandled old new before dropped item)
