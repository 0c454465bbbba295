-- The promises of inner functions of a worker on sending.
use Rattle.std.specs.Prelude.{◌≡◌, ℕ, List, [], ◌∷◌, ◌++◌, Option, None, Some}
use Rattle.ring_inbox.specs.Values.{SenderLog}
use Rattle.ring_node.specs.Envelopes.{Sent}
use Rattle.ring_workers.specs.declared.item.Item.{Item}
use Rattle.ring_workers.specs.declared.item.Item.TheVariants.{Packet}
use Rattle.ring_workers.specs.Sends.{Stored}

module _ {E M S : Type 0} where
  -- an envelope is stored after all that the pass stored before, or it comes back and nothing
  -- changes
  abbrev pub PutsOne : SenderLog (Item E M S) → Sent E M → Option (Sent E M) → SenderLog (Item E M S) → Type 0
  PutsOne old envelope None new = new ≡ record old { stored = old.stored ++ Packet envelope ∷ [] }
  PutsOne old envelope (Some back) new = (back ≡ envelope) × (new ≡ old)

  -- the first of the packets that waited were stored by the passes to their receivers' owners; the
  -- rest waits still
  pub record Sends (workers : ℕ) (waiting after : List (Sent E M)) (old new : List (SenderLog (Item E M S))) : Type 0 where
    pub sent : List (Sent E M)
    pub front : waiting ≡ sent ++ after
    pub passes : Stored workers sent old new
