-- Owners: the worker that owns a node, and the node to which an envelope goes.
use Rattle.std.specs.Prelude.{ℕ, ◌%◌, length, slice_index}
use Rattle.ring_id.specs.Identity.{number_of}
use Rattle.ring_roster.specs.Ring.{neighbour}
use Rattle.ring_node.specs.Envelopes.{Sent}

-- the number of the worker that owns a member: the member's number modulo the number of workers
abbrev pub owner_of : ℕ → ℕ → ℕ
owner_of workers member = number_of member % workers

-- the position to which an envelope's link leads
abbrev pub position_of : {E M : Type 0} → Sent E M → ℕ
position_of e = neighbour (length e.charter.roster) e.from e.side

-- the member there
abbrev pub receiver_of : {E M : Type 0} → Sent E M → ℕ
receiver_of e = slice_index e.charter.roster (position_of e)
