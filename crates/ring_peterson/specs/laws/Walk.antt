-- The rounds as walks: one pass over the entries, from left to right, that carries the two values
-- met last. `Reading` proves that these are the rounds. All other proofs are about the walks.
use Rattle.std.specs.Prelude.{◌+◌, ℕ, zero, suc, if◌then◌else◌, nat_lt, [], ◌∷◌, length, Option, Some, None}
use Rattle.ring_peterson.specs.Rounds.{Round, Two, stays_active, two_of}

-- the two values met last on a walk over the entries below p that begins with these two
abbrev pub two_below : Two → Round → ℕ → Two
two_below two [] p = two
two_below two ((q, v) ∷ round) p = if nat_lt q p then two_below (two_of two.last v) round p else two

-- the two values met last on a walk over all entries
abbrev pub two_after : Two → Round → Two
two_after two [] = two
two_after two ((q, v) ∷ round) = two_after (two_of two.last v) round

-- the last two values of a round: those to the left of its first position
abbrev pub two_ends : Round → Two
two_ends [] = two_of 0 0
two_ends ((q, v) ∷ round) = two_after (two_of v v) ((q, v) ∷ round)

-- the entries that stay on a walk that begins with these two, each with its predecessor's value
abbrev pub kept : Two → Round → Round
kept two [] = []
kept two ((q, v) ∷ round) =
    if stays_active v two then (q, two.last) ∷ kept (two_of two.last v) round
    else kept (two_of two.last v) round

-- the next round
abbrev pub walk_next : Round → Round
walk_next round = kept (two_ends round) round

-- the values of the two active positions to the left of position p
abbrev pub two_before : Round → ℕ → Two
two_before round p = two_below (two_ends round) round p

-- the k-th message on the right link of position i, from this round on
abbrev pub walk_message : Round → ℕ → ℕ → Option ℕ
walk_message [] i k = None
walk_message (e ∷ round) i zero = Some (two_before (e ∷ round) (i + 1)).last
walk_message (e ∷ round) i (suc zero) = Some (two_before (e ∷ round) (i + 1)).before
walk_message (e ∷ round) i (suc (suc k)) = walk_message (walk_next (e ∷ round)) i k

-- the last round of one position, at most this many rounds later
abbrev pub walk_last : ℕ → Round → Round
walk_last zero round = round
walk_last (suc limit) round =
    if nat_lt 1 (length round) then walk_last limit (walk_next round) else round
