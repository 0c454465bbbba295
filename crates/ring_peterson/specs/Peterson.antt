-- Peterson's election as a table (PetersonLeader; Lynch, Distributed Algorithms, 15.1.3). Lynch's
-- uid(1), uid(2) and uid(3) are `uid1`, `uid2` and the message that comes when `uid2` is there.
use Rattle.std.specs.Prelude.{ℕ, Bool, false, if◌then◌else◌, nat_lt, ◌==◌, ◌&&◌, ◌||◌, Option, Some, None}
use Rattle.ring_id.specs.declared.side.Side.{Side}
use Rattle.ring_id.specs.declared.side.Side.TheVariants.{Left, Right}
use Rattle.ring_election.specs.declared.sends.Sends.{Sends}
use Rattle.ring_election.specs.Tables.{Table, nothing, rightward}
use Rattle.ring_peterson.specs.declared.peterson.Mode.{Mode}
use Rattle.ring_peterson.specs.declared.peterson.Mode.TheVariants.{Active, Relay}
use Rattle.ring_peterson.specs.declared.peterson.PetersonState.{PetersonState}

-- a node begins active, with its own identity as its value
abbrev pub peterson_first : ℕ → PetersonState
peterson_first me = record { me = me; mode = Active; uid1 = me; uid2 = None; chosen = false }

-- the second of three values is greater than both the others
abbrev pub is_peak : ℕ → ℕ → ℕ → Bool
is_peak own second third = nat_lt own second && nat_lt third second

-- An active node that has its own value, its left neighbour's and now that one's left neighbour's.
-- If the second is the greatest, it takes the second over; otherwise it becomes a relay.
abbrev pub third_next : PetersonState → ℕ → ℕ → PetersonState
third_next s second third =
    if is_peak s.uid1 second third then record s { uid1 = second; uid2 = None }
    else record s { mode = Relay }

-- it sends the value that it took over
abbrev pub third_sends : PetersonState → ℕ → ℕ → Sends ℕ
third_sends s second third = if is_peak s.uid1 second third then rightward second else nothing ℕ

-- An active node without a second value keeps this one. If this is its own value, it is chosen.
abbrev pub active_next : PetersonState → Option ℕ → ℕ → PetersonState
active_next s None v = record s { uid2 = Some v; chosen = s.chosen || (v == s.uid1) }
active_next s (Some second) v = third_next s second v

-- it passes its left neighbour's value on
abbrev pub active_sends : PetersonState → Option ℕ → ℕ → Sends ℕ
active_sends s None v = rightward v
active_sends s (Some second) v = third_sends s second v

-- a receipt from the left, by the node's mode: a relay stays as it is
abbrev pub left_next : PetersonState → Mode → ℕ → PetersonState
left_next s Active v = active_next s s.uid2 v
left_next s Relay v = s

-- a relay passes each message on
abbrev pub left_sends : PetersonState → Mode → ℕ → Sends ℕ
left_sends s Active v = active_sends s s.uid2 v
left_sends s Relay v = rightward v

-- a receipt: a message from the right changes nothing
abbrev pub peterson_next : PetersonState → Side → ℕ → PetersonState
peterson_next s Left v = left_next s s.mode v
peterson_next s Right v = s

-- a message from the right is not answered
abbrev pub peterson_sends : PetersonState → Side → ℕ → Sends ℕ
peterson_sends s Left v = left_sends s s.mode v
peterson_sends s Right v = nothing ℕ

-- a chosen node decides on itself, whichever value it holds
abbrev pub peterson_decided : PetersonState → Option ℕ
peterson_decided s = if s.chosen then Some s.me else None

-- the table
abbrev pub peterson_table : Table PetersonState ℕ
peterson_table =
    record {
      first = peterson_first;
      first_sends = λ me. rightward me;
      next = peterson_next;
      next_sends = peterson_sends;
      decided = peterson_decided;
    }
