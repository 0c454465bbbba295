-- The rounds of Peterson's election (Lynch, Distributed Algorithms, 15.1.3), the messages of each
-- link, the winner and the bound. Lynch's phases are read here as whole rounds of the ring. The
-- code sees one message at a time.
use Rattle.std.specs.Prelude.{◌≡◌, ◌+◌, ◌*◌, ◌^◌, ◌≤◌, ℕ, zero, suc, Bool, if◌then◌else◌, nat_lt, ◌&&◌, List, [], ◌∷◌, ◌++◌, length, reverse, slice_index, Option, Some, None}
use Rattle.ring_id.specs.declared.side.Side.{Side}
use Rattle.ring_id.specs.declared.side.Side.TheVariants.{Left, Right}
use Rattle.ring_roster.specs.Ring.{IsRing}

-- a round: the positions that are still active, in their order, each with its value
abbrev pub Round : Type 0
Round = List (ℕ × ℕ)

-- these identities at the positions from p on
abbrev pub numbered : ℕ → List ℕ → Round
numbered p [] = []
numbered p (x ∷ xs) = (p, x) ∷ numbered (p + 1) xs

-- in the first round each position holds its own identity
abbrev pub first_round : List ℕ → Round
first_round ring = numbered 0 ring

-- the values at positions below p
abbrev pub values_below : ℕ → Round → List ℕ
values_below p [] = []
values_below p ((q, v) ∷ round) =
    if nat_lt q p then v ∷ values_below p round else values_below p round

-- the values at position p and above
abbrev pub values_from : ℕ → Round → List ℕ
values_from p [] = []
values_from p ((q, v) ∷ round) = if nat_lt q p then values_from p round else v ∷ values_from p round

-- the values met from just left of position p on, walking to the left, all round
abbrev pub leftwards : Round → ℕ → List ℕ
leftwards round p = reverse (values_below p round) ++ reverse (values_from p round)

-- the values of two active positions that follow one another
pub record Two : Type 0 where
  pub before : ℕ
  pub last : ℕ

-- these two
abbrev pub two_of : ℕ → ℕ → Two
two_of before last = record { before = before; last = last }

-- The first two values met: the predecessor's, and that of the predecessor's predecessor. If one
-- position is left, it is its own predecessor.
abbrev pub first_two : List ℕ → Two
first_two [] = two_of 0 0
first_two (a ∷ []) = two_of a a
first_two (a ∷ (b ∷ values)) = two_of b a

-- the values of the two active positions to the left of position p
abbrev pub two_left : Round → ℕ → Two
two_left round p = first_two (leftwards round p)

-- whether a position that holds v stays, if these two values are to its left
abbrev pub stays_active : ℕ → Two → Bool
stays_active v two = nat_lt v two.last && nat_lt two.before two.last

-- those of these entries of a whole round that stay, each with its predecessor's value
abbrev pub staying : Round → Round → Round
staying whole [] = []
staying whole ((q, v) ∷ round) =
    if stays_active v (two_left whole q) then (q, (two_left whole q).last) ∷ staying whole round
    else staying whole round

-- the next round; after a round of one it is empty
abbrev pub next_round : Round → Round
next_round round = staying round round

-- the round this many rounds later
abbrev pub rounds : ℕ → Round → Round
rounds zero round = round
rounds (suc n) round = rounds n (next_round round)

-- The k-th message on the right link of position i, from this round on. Let q be the nearest active
-- position at or to the left of i. A round has two messages: the value of q and its predecessor's.
abbrev pub message_of : Round → ℕ → ℕ → Option ℕ
message_of [] i k = None
message_of (e ∷ round) i zero = Some (two_left (e ∷ round) (i + 1)).last
message_of (e ∷ round) i (suc zero) = Some (two_left (e ∷ round) (i + 1)).before
message_of (e ∷ round) i (suc (suc k)) = message_of (next_round (e ∷ round)) i k

-- Which message fits as the k-th of the right link of a position. Nothing fits past the last round
-- or on a left link.
abbrev pub peterson_fits : List ℕ → ℕ → Side → ℕ → ℕ → Type 0
peterson_fits ring i Left k m = ⊥
peterson_fits ring i Right k m = message_of (first_round ring) i k ≡ Some m

-- the last round of one position, at most `limit` rounds later
abbrev pub last_round : ℕ → Round → Round
last_round zero round = round
last_round (suc limit) round =
    if nat_lt 1 (length round) then last_round limit (next_round round) else round

-- the identity at the first position of a round
abbrev pub identity_of : List ℕ → Round → ℕ
identity_of ring [] = 0
identity_of ring ((p, v) ∷ round) = slice_index ring p

-- the winner: the identity at the position of the last round, whichever value it holds
abbrev pub peterson_winner : List ℕ → ℕ
peterson_winner ring = identity_of ring (last_round (length ring) (first_round ring))

-- the greatest power of two, by its exponent, that is at most n, of those up to a limit
abbrev pub log2_up_to : ℕ → ℕ → ℕ
log2_up_to zero n = 0
log2_up_to (suc limit) n = if nat_lt n (2 ^ suc limit) then log2_up_to limit n else suc limit

-- the binary logarithm, rounded down
abbrev pub floor_log2 : ℕ → ℕ
floor_log2 n = log2_up_to n n

-- Two messages on each link in each round, and at most this many rounds.
abbrev pub peterson_bound : ℕ → ℕ
peterson_bound n = 2 * n * (floor_log2 n + 1)

-- the round after one of two or more positions
pub record Shrinks (before after : Round) : Type 0 where
  -- at least one of them
  pub some : 1 ≤ length after
  -- and at most half
  pub half : 2 * length after ≤ length before

-- each round of a ring shrinks, as long as it has two or more positions
abbrev pub RoundsShrink : Type 0
RoundsShrink =
    (ring : List ℕ) (p : ℕ) → IsRing ring → 2 ≤ length (rounds p (first_round ring))
    → Shrinks (rounds p (first_round ring)) (rounds (p + 1) (first_round ring))

-- the last round of a ring has one position, the one whose member wins
abbrev pub LastRoundIsOne : Type 0
LastRoundIsOne =
    (ring : List ℕ) → IsRing ring → length (last_round (length ring) (first_round ring)) ≡ 1

-- Two messages on each link for each round (Lynch, Distributed Algorithms, 15.1.3): those numbered
-- 2p and 2p + 1 are the first and the second of round p.
abbrev pub MessagesAreOfRounds : Type 0
MessagesAreOfRounds =
    (ring : List ℕ) (p i : ℕ)
    → (message_of (first_round ring) i (2 * p) ≡ message_of (rounds p (first_round ring)) i 0)
    × (message_of (first_round ring) i (2 * p + 1)
    ≡ message_of (rounds p (first_round ring)) i 1)

-- The logarithm of n rounded down is the greatest exponent whose power of two is not above n.
abbrev pub LogarithmIsGreatest : Type 0
LogarithmIsGreatest =
    (n : ℕ) → 1 ≤ n → (2 ^ floor_log2 n ≤ n) × ((e : ℕ) → 2 ^ e ≤ n → e ≤ floor_log2 n)
