-- The algorithm of Chang and Roberts as a table, and the messages that fit its links (Lynch,
-- Distributed Algorithms, 3.3 and 15.1.1: the LCR algorithm, AsynchLCR).
use Rattle.std.specs.Prelude.{◌≡◌, ◌*◌, ◌==◌, ℕ, if◌then◌else◌, nat_lt, List, [], ◌∷◌, Some, None, slice_get}
use Rattle.ring_id.specs.declared.side.Side.{Side}
use Rattle.ring_id.specs.declared.side.Side.TheVariants.{Left, Right}
use Rattle.ring_roster.specs.Ring.{leftward}
use Rattle.ring_election.specs.declared.sends.Sends.{Sends}
use Rattle.ring_election.specs.Tables.{Table, nothing, rightward}
use Rattle.ring_chang.specs.declared.chang.ChangState.{ChangState}

-- a node that starts knows itself and has decided nothing
abbrev pub chang_first : ℕ → ChangState
chang_first me = record { me = me; decided = None }

-- it decides on itself if its own identity comes back
abbrev pub chang_next : ChangState → Side → ℕ → ChangState
chang_next s Left v = if v == s.me then record s { decided = Some s.me } else s
chang_next s Right v = s

-- it passes on identities that are greater than its own
abbrev pub chang_sends : ChangState → Side → ℕ → Sends ℕ
chang_sends s Left v = if nat_lt s.me v then rightward v else nothing ℕ
chang_sends s Right v = nothing ℕ

-- the table: a node starts by sending its own identity, and nothing goes to the left
abbrev pub chang_table : Table ChangState ℕ
chang_table =
    record {
      first = chang_first;
      first_sends = λ me. rightward me;
      next = chang_next;
      next_sends = chang_sends;
      decided = λ s. s.decided;
    }

-- of identities read in this order, those that are greater than m and than all read before them
abbrev pub records_above : ℕ → List ℕ → List ℕ
records_above m [] = []
records_above m (x ∷ xs) = if nat_lt m x then x ∷ records_above x xs else records_above m xs

-- of identities read in this order, those that are greater than all read before them
abbrev pub records : List ℕ → List ℕ
records [] = []
records (x ∷ xs) = x ∷ records_above x xs

-- The k-th message on the right link of position i is the k-th record of the identities read from
-- there to the left, all round. Nothing fits on a left link.
abbrev pub chang_fits : List ℕ → ℕ → Side → ℕ → ℕ → Type 0
chang_fits ring i Left k m = ⊥
chang_fits ring i Right k m = slice_get (records (leftward ring i)) k ≡ Some m

-- an election on a ring of n takes at most this many messages (3.3, communication complexity)
abbrev pub chang_bound : ℕ → ℕ
chang_bound n = n * n
