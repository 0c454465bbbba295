-- The runs of the election object. A step defines which reply an event may get and what each reply
-- changes. Nothing else changes. The first refusal that holds is answered and no other, and a reply
-- of another kind never comes.
use Rattle.std.specs.Prelude.{◌≡◌, ◌≤◌, ◌<◌, ◌⊎◌, ℕ, zero, suc, Bool, true, false, List, [], ◌∷◌, Option, Some, None, length, slice_get}
use Rattle.ring_id.specs.declared.refusal.Refusal.{Refusal}
use Rattle.ring_id.specs.declared.refusal.Refusal.TheVariants as refused
use Rattle.ring_id.specs.declared.side.Side.{Side}
use Rattle.ring_id.specs.Refusals.{IsRefusal, unless_some}
use Rattle.ring_roster.specs.Ring.{position_of}
use Rattle.ring_node.specs.Links.{link_refusal}
use Rattle.ring_terms.specs.declared.standing.Standing.{Standing}
use Rattle.ring_terms.specs.declared.standing.Standing.TheVariants as standing
use Rattle.ring_terms.specs.Object.{GroupView, InGroup, Object, OfGroup, OfLast, TermView, last_term, leaders, names}
use Rattle.ring_terms.specs.Commands.{Creates, Joins, Leaves, Starts, create_refusal, in_group, join_refusal, leave_refusal, never_refused, running_refusal, start_refusal, who_refusal}
use Rattle.ring_terms.specs.Moves.{Moves}
use Rattle.ring_terms.specs.Standings.{Tells}
use Rattle.ring_events.specs.declared.event.Command.{Command}
use Rattle.ring_events.specs.declared.event.Command.TheVariants.{Create, Join, Leave, Start, Who, Members, Terms, Groups}
use Rattle.ring_events.specs.declared.event.Event.{Event}
use Rattle.ring_events.specs.declared.event.Event.TheVariants.{Client, Deliver, Cut, Pending, Drain}
use Rattle.ring_events.specs.declared.reply.Reply.{Reply}
use Rattle.ring_events.specs.declared.reply.Reply.TheVariants as reply

-- A refused event changes nothing. It is refused for the first reason that holds. If none holds and
-- the event allocates, it may be refused for memory. Any other reply is the event's effect.
abbrev pub Replies : {S : Type 0} → Option Refusal → Bool → S → Reply → S → (Reply → Type 0)
    → Type 0
Replies first grows old (reply.Refused refusal) new does =
    (new ≡ old) × IsRefusal first grows refusal
Replies first grows old other new does = (first ≡ None) × does other

-- the reply that gives a standing
abbrev pub standing_reply : Standing → Reply
standing_reply (standing.Leader term leader) = reply.Leader term leader
standing_reply (standing.Undecided term) = reply.Undecided term

-- who: the reply gives the member's standing in the last term
pub record TellsReply {E : Type 0} (node : ℕ) (answer : Reply) (group : GroupView E) : Type 0 where
  pub said : Standing
  pub reply_is : answer ≡ standing_reply said
  pub tells : Tells node said group

-- deliver and cut: no term was started; its number is not in the ring of the last one; no packet
-- arrives from that side
abbrev pub deliver_refusal : {E : Type 0} → (E → Bool) → ℕ → Side → GroupView E → Option Refusal
deliver_refusal two_way node side group =
    unless_some (last_term group) refused.NoTerm
    (λ t. unless_some (position_of node t.ring) refused.NotInTerm
    (λ _. link_refusal (two_way group.algorithm) side))

-- a delivery at a member moves a group; it names the greatest if the algorithm promises that
abbrev pub MovesOf : {E : Type 0} → (E → Bool) → ℕ → GroupView E → GroupView E → Type 0
MovesOf greatest node old new = Moves (greatest old.algorithm) node old new

-- a term is known at all its members
pub record IsKnown (term : TermView) : Type 0 where
  pub each : (i : ℕ) → i < length term.ring → slice_get term.informed i ≡ Some true

-- `number` packets are in flight or stuck in the running term of this group. If there are none, the
-- term is known at all its members.
abbrev pub KnownIfNone : {E : Type 0} → List ℕ → ℕ → Object E → Type 0
KnownIfNone name number object = number ≡ 0 → OfGroup name (OfLast IsKnown) object

-- one delivery at some member
pub record MovesOnce {E : Type 0} (greatest : E → Bool) (old new : GroupView E) : Type 0 where
  pub node : ℕ
  pub moves : MovesOf greatest node old new

-- n deliveries, one after another, at some members
abbrev pub MovesTimes : {E : Type 0} → (E → Bool) → ℕ → GroupView E → GroupView E → Type 0
MovesTimes greatest zero old new = new ≡ old
MovesTimes {E} greatest (suc n) old new =
    (mid : GroupView E) × MovesTimes greatest n old mid × MovesOnce greatest mid new

-- A drain makes at most `count` deliveries. If it starved, deliveries were still to be made and
-- packets remain. If no packet is left, the term is known.
pub record Drains {E : Type 0} (greatest : E → Bool) (name : List ℕ) (count : ℕ) (answer : Reply)
    (old new : Object E) : Type 0 where
  pub done : ℕ
  pub left : ℕ
  pub starved : Bool
  pub reply_is : answer ≡ reply.Drained done left starved
  pub within : done ≤ count
  pub moves : InGroup name (MovesTimes greatest done) old new
  pub stopped : starved ≡ true → (done < count) × (0 < left)
  pub known : KnownIfNone name left new

module _ {E : Type 0} (two_way greatest : E → Bool) where
  -- a command of a client
  abbrev pub StepOf : Object E → Command E → Reply → Object E → Type 0
  StepOf old (Create name algorithm) answer new =
      Replies (create_refusal name old) true old answer new
      (λ r. (r ≡ reply.Done) × Creates name algorithm old new)
  StepOf old (Join name node) answer new =
      Replies (in_group name (join_refusal node) old) true old answer new
      (λ r. (r ≡ reply.Done) × InGroup name (Joins node) old new)
  StepOf old (Leave name node) answer new =
      Replies (in_group name (leave_refusal node) old) false old answer new
      (λ r. (r ≡ reply.Done) × InGroup name (Leaves node) old new)
  StepOf old (Start name) answer new =
      Replies (in_group name start_refusal old) true old answer new
      (λ r. (term : ℕ) × (r ≡ reply.Term term) × InGroup name (Starts term) old new)
  StepOf old (Who name node) answer new =
      Replies (in_group name (who_refusal node) old) false old answer new
      (λ r. (new ≡ old) × OfGroup name (TellsReply node r) old)
  StepOf old (Members name) answer new =
      Replies (in_group name never_refused old) true old answer new
      (λ r. (new ≡ old) × OfGroup name (λ group. r ≡ reply.Members group.members) old)
  StepOf old (Terms name) answer new =
      Replies (in_group name never_refused old) true old answer new
      (λ r. (new ≡ old) × OfGroup name (λ group. r ≡ reply.Terms (leaders group)) old)
  StepOf old Groups answer new =
      Replies None true old answer new (λ r. (new ≡ old) × (r ≡ reply.Groups (names old)))

  -- any event
  abbrev pub Step : Object E → Event E → Reply → Object E → Type 0
  Step old (Client command) answer new = StepOf old command answer new
  Step old (Deliver name node side) answer new =
      Replies (in_group name (deliver_refusal two_way node side) old) true old answer new
      (λ r. ((r ≡ reply.Idle) × (new ≡ old))
      ⊎ ((r ≡ reply.Moved) × InGroup name (MovesOf greatest node) old new))
  Step old (Cut name node side) answer new =
      Replies (in_group name (deliver_refusal two_way node side) old) false old answer new
      (λ r. (r ≡ reply.Done) × (new ≡ old))
  Step old (Pending name) answer new =
      Replies (in_group name running_refusal old) false old answer new
      (λ r. (new ≡ old) × (number : ℕ) × (r ≡ reply.Pending number)
      × KnownIfNone name number old)
  Step old (Drain name count) answer new =
      Replies (in_group name running_refusal old) false old answer new
      (λ r. Drains greatest name count r old new)

  -- a run: one reply for each event, each a step
  abbrev pub Run : Object E → List (Event E) → List Reply → Object E → Type 0
  Run old [] [] new = new ≡ old
  Run old [] (answer ∷ answers) new = ⊥
  Run old (event ∷ events) [] new = ⊥
  Run old (event ∷ events) (answer ∷ answers) new =
      (mid : Object E) × Step old event answer mid × Run mid events answers new
