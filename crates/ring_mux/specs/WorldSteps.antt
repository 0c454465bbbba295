-- The runs of a mux below the election object: which journals an event changes, which link it cuts,
-- and what the numbers in its reply count. All events except a start, a delivery, a cut and a drain
-- leave all worlds as they are.
use Rattle.std.specs.Prelude.{◌≡◌, ◌<◌, ℕ, Bool, false, if◌then◌else◌, List, [], ◌∷◌, Some}
use Rattle.std.specs.Str.{bytes_eq}
use Rattle.ring_id.specs.declared.refusal.Refusal.TheVariants.{NoMemory}
use Rattle.ring_id.specs.declared.side.Side.{Side}
use Rattle.ring_roster.specs.Ring.{position_of}
use Rattle.ring_election.specs.Tables.{Table}
use Rattle.ring_node.specs.declared.charter.Charter.{Charter}
use Rattle.ring_world.specs.Quiet.{IsQuiet}
use Rattle.ring_world.specs.Worlds.{Running, after_cut, most_deliveries}
use Rattle.ring_terms.specs.Charters.{running_charter}
use Rattle.ring_terms.specs.Object.{OfGroup}
use Rattle.ring_mux.specs.declared.carried.Carried.{Carried}
use Rattle.ring_mux.specs.declared.carried.Carried.TheVariants as carried
use Rattle.ring_events.specs.declared.event.Command.{Command}
use Rattle.ring_events.specs.declared.event.Command.TheVariants.{Start}
use Rattle.ring_events.specs.declared.event.Event.{Event}
use Rattle.ring_events.specs.declared.event.Event.TheVariants as event
use Rattle.ring_events.specs.declared.reply.Reply.{Reply}
use Rattle.ring_events.specs.declared.reply.Reply.TheVariants as reply
use Rattle.ring_mux.specs.Journeys.{Carries, Makes, begun_of, with_world}
use Rattle.ring_mux.specs.Quiet.{QuietIsKnown}
use Rattle.ring_terms.specs.Steps.{Step}
use Rattle.ring_mux.specs.Views.{Held, IsHeld, IsPendingIn, world_in}

-- the group has the world of the term that it has started, before any delivery and any cut; the
-- worlds of all other groups stay
pub record BeginsWorld {E M : Type 0} (name : List ℕ) (old new : Held E M) : Type 0 where
  pub charter : Charter E
  pub started : OfGroup name (λ group. running_charter name group ≡ Some charter) new.object
  pub worlds : (other : List ℕ) → world_in other new.worlds ≡ if bytes_eq name other then Some (begun_of charter) else world_in other old.worlds

-- start: the term in the reply has its new world
abbrev pub StartOfWorlds : {E M : Type 0} → List ℕ → Held E M → Reply → Held E M → Type 0
StartOfWorlds name old (reply.Term term) new = BeginsWorld name old new
StartOfWorlds name old other new = new.worlds ≡ old.worlds

-- a command of a client
abbrev pub CommandOfWorlds : {E M : Type 0} → Held E M → Command E → Reply → Held E M → Type 0
CommandOfWorlds old (Start name) answer new = StartOfWorlds name old answer new
CommandOfWorlds old other answer new = new.worlds ≡ old.worlds

-- a cut at a member cuts the link into its position, in the world of its group; no other world
-- changes
pub record CutsAt {E M : Type 0} (name : List ℕ) (node : ℕ) (side : Side) (old new : Held E M) : Type 0 where
  pub world : Running E M
  pub position : ℕ
  pub found : world_in name old.worlds ≡ Some world
  pub placed : position_of node world.charter.roster ≡ Some position
  pub worlds : new.worlds ≡ with_world name (after_cut world position side) old.worlds

-- cut: the link is cut, or it is refused
abbrev pub CutOfWorlds : {E M : Type 0} → List ℕ → ℕ → Side → Held E M → Reply → Held E M → Type 0
CutOfWorlds name node side old reply.Done new = CutsAt name node side old new
CutOfWorlds name node side old (reply.Refused refusal) new = new ≡ old
CutOfWorlds name node side old other new = ⊥

module _ {E S M : Type 0} (t : E → Table S M) (two_way greatest : E → Bool) where
  -- a delivery at a member is a delivery on the link into its position, in the world of its group
  pub record CarriesAt (name : List ℕ) (node : ℕ) (side : Side) (old : Held E M) (done : Carried) (new : Held E M) : Type 0 where
    pub world : Running E M
    pub position : ℕ
    pub found : world_in name old.worlds ≡ Some world
    pub placed : position_of node world.charter.roster ≡ Some position
    pub carries : Carries t two_way greatest name position side world old done new

  -- deliver: it moves a packet of that link, or nothing is in flight there; no-memory is answered
  -- only if something is
  abbrev pub DeliverOfWorlds : List ℕ → ℕ → Side → Held E M → Reply → Held E M → Type 0
  DeliverOfWorlds name node side old reply.Moved new = CarriesAt name node side old carried.Moved new
  DeliverOfWorlds name node side old reply.Idle new = CarriesAt name node side old carried.Idle new
  DeliverOfWorlds name node side old (reply.Refused refusal) new = (new ≡ old) × (refusal ≡ NoMemory → CarriesAt name node side old (carried.Refused NoMemory) new)
  DeliverOfWorlds name node side old other new = ⊥

  -- pending: the number of packets in flight or stuck
  abbrev pub PendingOfWorlds : List ℕ → Held E M → Reply → Held E M → Type 0
  PendingOfWorlds name old (reply.Pending number) new = (new ≡ old) × IsPendingIn t name number old
  PendingOfWorlds name old (reply.Refused refusal) new = new ≡ old
  PendingOfWorlds name old other new = ⊥

  -- drain: its deliveries, each at the link that was ready at that moment, and how many packets
  -- remain
  abbrev pub DrainOfWorlds : List ℕ → ℕ → Held E M → Reply → Held E M → Type 0
  DrainOfWorlds name count old (reply.Drained done left starved) new = Makes t greatest name count done starved old new × IsPendingIn t name left new
  DrainOfWorlds name count old (reply.Refused refusal) new = new ≡ old
  DrainOfWorlds name count old other new = ⊥

  -- any event
  abbrev pub StepOfWorlds : Held E M → Event E → Reply → Held E M → Type 0
  StepOfWorlds old (event.Client command) answer new = CommandOfWorlds old command answer new
  StepOfWorlds old (event.Deliver name node side) answer new = DeliverOfWorlds name node side old answer new
  StepOfWorlds old (event.Cut name node side) answer new = CutOfWorlds name node side old answer new
  StepOfWorlds old (event.Pending name) answer new = PendingOfWorlds name old answer new
  StepOfWorlds old (event.Drain name count) answer new = DrainOfWorlds name count old answer new

  -- One event of a run is a step of the object and of the worlds at once. In the state after it a
  -- member of a running term is informed exactly if its own node knows the leader, and quiet means
  -- known.
  pub record HasStepped (old : Held E M) (event : Event E) (answer : Reply) (new : Held E M) : Type 0 where
    pub object : Step two_way greatest old.object event answer new.object
    pub worlds : StepOfWorlds old event answer new
    pub informed : IsHeld t new.object new.worlds
    pub quiet : QuietIsKnown t new

  -- a run: one reply for each event, and each event is such a step
  abbrev pub RunOfWorlds : Held E M → List (Event E) → List Reply → Held E M → Type 0
  RunOfWorlds old [] [] new = new ≡ old
  RunOfWorlds old [] (answer ∷ answers) new = ⊥
  RunOfWorlds old (event ∷ events) [] new = ⊥
  RunOfWorlds old (event ∷ events) (answer ∷ answers) new = (mid : Held E M) × HasStepped old event answer mid × RunOfWorlds mid events answers new

-- a drain of more packets than the world of a group can take leaves nothing that can move, unless
-- an allocation failed
pub record LeavesQuiet {E S M : Type 0} (t : E → Table S M) (bound : E → ℕ → ℕ) (name : List ℕ) (count : ℕ) (old new : List (List ℕ × Running E M)) (answer : Reply) : Type 0 where
  pub each : (world : Running E M) → world_in name old ≡ Some world → most_deliveries bound world < count → (done left : ℕ) → answer ≡ reply.Drained done left false
      → (after : Running E M) → world_in name new ≡ Some after → IsQuiet t after
