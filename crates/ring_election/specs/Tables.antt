-- An algorithm as one table of functions, and the messages that a step sends.
use Rattle.std.specs.Prelude.{ℕ, Option, Some, None}
use Rattle.ring_id.specs.declared.side.Side.{Side}
use Rattle.ring_id.specs.declared.side.Side.TheVariants.{Left, Right}
use Rattle.ring_election.specs.declared.sends.Sends.{Sends}

-- the table of an algorithm with states S and messages M
pub record Table (S M : Type 0) : Type 0 where
  -- the first state of the node with this identity
  pub first : ℕ → S
  -- its messages when it starts
  pub first_sends : ℕ → Sends M
  -- the state after a receipt from that side
  pub next : S → Side → M → S
  -- the messages sent because of that receipt
  pub next_sends : S → Side → M → Sends M
  -- the decision of a state
  pub decided : S → Option ℕ

-- the message to that side
abbrev pub to_side : {M : Type 0} → Side → Sends M → Option M
to_side Left sends = sends.left
to_side Right sends = sends.right

-- no message
abbrev pub nothing : (M : Type 0) → Sends M
nothing M = record { left = None; right = None }

-- one message, to the right
abbrev pub rightward : {M : Type 0} → M → Sends M
rightward m = record { left = None; right = Some m }
