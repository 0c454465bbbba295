-- Sends: packets leave the outbox for the inboxes of their receivers' owners.
use Rattle.std.specs.Prelude.{◌≡◌, ◌==◌, ℕ, List, [], ◌∷◌, ◌++◌, if◌then◌else◌, length, Some, slice_get}
use Rattle.ring_inbox.specs.Values.{SenderLog}
use Rattle.ring_node.specs.Envelopes.{Sent}
use Rattle.ring_workers.specs.declared.item.Item.{Item}
use Rattle.ring_workers.specs.declared.item.Item.TheVariants.{Packet}
use Rattle.ring_workers.specs.Owners.{owner_of, receiver_of}

module _ {E M S : Type 0} where
  -- those of these packets that go to the worker of this number, among `workers`, in their order
  abbrev pub packets_to : ℕ → ℕ → List (Sent E M) → List (Item E M S)
  packets_to workers number [] = []
  packets_to workers number (e ∷ sent) =
      if owner_of workers (receiver_of e) == number then Packet e ∷ packets_to workers number sent else packets_to workers number sent

  -- each pass has stored those of these packets that go to its worker, in this order, and nothing
  -- else
  pub record Stored (workers : ℕ) (sent : List (Sent E M)) (old new : List (SenderLog (Item E M S))) : Type 0 where
    pub count : length new ≡ length old
    pub each : (v : ℕ) (pass : SenderLog (Item E M S)) → slice_get old v ≡ Some pass → slice_get new v ≡ Some (record pass { stored = pass.stored ++ packets_to workers v sent })
