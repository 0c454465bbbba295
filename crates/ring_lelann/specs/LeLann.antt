-- LeLann's algorithm as a table (LeLann, Distributed systems: towards a formal approach, IFIP
-- 1977), and the messages on its links.
use Rattle.std.specs.Prelude.{◌≡◌, ◌*◌, ◌==◌, ℕ, if◌then◌else◌, List, [], ◌∷◌, ◌++◌, Option, Some, None, unwrap_or, slice_get}
use Rattle.ring_id.specs.declared.side.Side.{Side}
use Rattle.ring_id.specs.declared.side.Side.TheVariants.{Left, Right}
use Rattle.ring_roster.specs.Ring.{greatest_of, leftward}
use Rattle.ring_election.specs.declared.sends.Sends.{Sends}
use Rattle.ring_election.specs.Tables.{Table, nothing, rightward}

-- the knowledge of a node: its own identity, those that it has seen, and its decision
pub record Knowledge : Type 0 where
  pub me : ℕ
  pub seen : List ℕ
  pub decided : Option ℕ

-- a node that starts has seen nothing and decided nothing
abbrev pub lelann_first : ℕ → Knowledge
lelann_first me = record { me = me; seen = []; decided = None }

-- one more identity seen
abbrev pub with_seen : Knowledge → ℕ → Knowledge
with_seen s v = record s { seen = s.seen ++ v ∷ [] }

-- an earlier decision stays; otherwise the greatest known identity
abbrev pub with_decision : Knowledge → Knowledge
with_decision s = record s { decided = Some (unwrap_or s.decided (greatest_of (s.me ∷ s.seen))) }

-- the state after a receipt: the own identity decides, another's is added to those seen
abbrev pub lelann_next : Knowledge → Side → ℕ → Knowledge
lelann_next s Left v = if v == s.me then with_decision s else with_seen s v
lelann_next s Right v = s

-- the messages sent because of it: another's identity is passed on
abbrev pub lelann_sends : Knowledge → Side → ℕ → Sends ℕ
lelann_sends s Left v = if v == s.me then nothing ℕ else rightward v
lelann_sends s Right v = nothing ℕ

-- the table of the algorithm
abbrev pub lelann_table : Table Knowledge ℕ
lelann_table = record {
  first = lelann_first;
  first_sends = λ me. rightward me;
  next = lelann_next;
  next_sends = lelann_sends;
  decided = λ s. s.decided;
}

-- The k-th message of a right link is the identity k places to the left of the sender, for k below
-- the length of the ring. Nothing fits on a left link.
abbrev pub lelann_fits : List ℕ → ℕ → Side → ℕ → ℕ → Type 0
lelann_fits ring i Left k v = ⊥
lelann_fits ring i Right k v = slice_get (leftward ring i) k ≡ Some v

-- each of n identities crosses each of n links at most once
abbrev pub lelann_bound : ℕ → ℕ
lelann_bound n = n * n
