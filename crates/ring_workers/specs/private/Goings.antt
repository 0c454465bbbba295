-- The promises of inner functions of a worker on how it goes on.
use Rattle.std.specs.Prelude.{◌≡◌, List, ◌++◌, ◌⊎◌, length, Option, Result, Ok, Err}
use Rattle.ring_id.specs.declared.side.Side.{Side}
use Rattle.ring_id.specs.declared.side.Side.TheVariants.{Left, Right}
use Rattle.ring_id.specs.Sides.{other}
use Rattle.ring_election.specs.Tables.{Table}
use Rattle.ring_node.specs.declared.fault.TakeFault.{TakeFault}
use Rattle.ring_node.specs.declared.packet.Packet.{Packet}
use Rattle.ring_node.specs.Envelopes.{Sent}
use Rattle.ring_node.specs.Nodes.{IsForNode, IsNext, Seated, envelope_of, receiving, sent_of, taken_of}
use Rattle.ring_node.specs.Reports.{Told}
use Rattle.ring_workers.specs.Lists.{IsOneOf}
use Rattle.ring_workers.specs.private.Posts.{Posts}
use Rattle.ring_workers.specs.Goings.{IsSent}

-- the same node later: its journal has grown
pub record Grows {E M : Type 0} (old new : Seated E M) : Type 0 where
  pub more : List (Side × Packet M)
  pub charter_is : new.charter ≡ old.charter
  pub position_is : new.position ≡ old.position
  pub journal_is : new.journal ≡ old.journal ++ more

module _ {E S M : Type 0} (t : E → Table S M) where
  -- These nodes became those, and the outbox grew at its end: each node stays and may have received
  -- more, and each packet that a node has sent was sent before, or has joined the outbox.
  pub record Goes (old new : List (Seated E M)) (waiting after : List (Sent E M)) : Type 0 where
    pub more : List (Sent E M)
    pub behind : after ≡ waiting ++ more
    pub stays : (node : Seated E M) → IsOneOf old node → (later : Seated E M) × IsOneOf new later × Grows node later
    pub posted : (node : Seated E M) → IsOneOf new node → (e : Sent E M) → IsSent t node e →
        ((before : Seated E M) × IsOneOf old before × IsSent t before e) ⊎ IsOneOf more e

  -- the node took the envelope, and the packets that it sends because of it joined the outbox
  pub record HasTakenOver (old : Seated E M) (envelope : Sent E M) (new : Seated E M) (waiting after : List (Sent E M)) : Type 0 where
    pub between : List (Sent E M)
    pub led : IsForNode old envelope
    pub next : IsNext (taken_of old (other envelope.side)) envelope.index envelope.packet
    pub journal : new ≡ receiving old (other envelope.side) envelope.packet
    pub left : Posts (envelope_of t new Left) (length (sent_of t old Left)) waiting between
    pub right : Posts (envelope_of t new Right) (length (sent_of t old Right)) between after

  -- the node takes the envelope and posts the packets that it sends, or the envelope comes back and
  -- nothing changes
  abbrev pub HandsTo : Seated E M → Sent E M → Result (Option (Told E)) (TakeFault × Sent E M) → Seated E M → List (Sent E M) → List (Sent E M) → Type 0
  HandsTo old envelope (Ok report) new waiting after = HasTakenOver old envelope new waiting after
  HandsTo old envelope (Err fault) new waiting after = (fault.1 ≡ envelope) × (new ≡ old) × (after ≡ waiting)
