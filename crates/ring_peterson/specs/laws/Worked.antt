-- Peterson's rounds, worked on four rings: every line holds by computation.
use Rattle.std.specs.Prelude.{◌≡◌, ◌-◌, ℕ, List, [], ◌∷◌, ◌++◌, drop, length, map, replicate, take, Option, Some, None}
use Rattle.std.proofs.Common.{refl}
use Rattle.ring_id.specs.declared.side.Side.TheVariants.{Left, Right}
use Rattle.ring_election.specs.Traces.{sent_after}
use Rattle.ring_peterson.specs.Peterson.{peterson_table}
use Rattle.ring_peterson.specs.Rounds.{first_round, floor_log2, message_of, peterson_bound, peterson_winner, rounds}

-- the first seven messages of the right links of these positions
abbrev links : List ℕ → List ℕ → List (List (Option ℕ))
links ring positions =
    map (λ i. map (λ k. message_of (first_round ring) i k) (0 ∷ 1 ∷ 2 ∷ 3 ∷ 4 ∷ 5 ∷ 6 ∷ []))
    positions

-- seven messages: these first, and then none
abbrev seven : List (List ℕ) → List (List (Option ℕ))
seven rows = map (λ row. map (λ v. Some v) row ++ replicate (7 - length row) None) rows

-- the messages that each node sends to the right, if it takes these from the left
abbrev answers : List ℕ → List (List ℕ) → List (List ℕ)
answers [] rows = []
answers (me ∷ ring) [] = []
answers (me ∷ ring) (row ∷ rows) =
    sent_after peterson_table me Right (map (λ m. (Left, m)) row) ∷ answers ring rows

-- the messages that come to each position from its left neighbour, if the positions send these
abbrev from_left : List (List ℕ) → List (List ℕ)
from_left rows = drop (length rows - 1) rows ++ take (length rows - 1) rows

-- ---- The ring 3, 1, 2

abbrev three : List ℕ
three = 3 ∷ 1 ∷ 2 ∷ []

-- the messages that each position sends to the right in an election
abbrev three_sends : List (List ℕ)
three_sends =
    (3 ∷ 2 ∷ 3 ∷ 3 ∷ [])
    ∷ (1 ∷ 3 ∷ 3 ∷ 3 ∷ [])
    ∷ (2 ∷ 1 ∷ 3 ∷ 3 ∷ [])
    ∷ []

three-rounds : map (λ p. rounds p (first_round three)) (0 ∷ 1 ∷ 2 ∷ []) ≡ ((0, 3) ∷ (1, 1) ∷ (2, 2) ∷ []) ∷ ((1, 3) ∷ []) ∷ [] ∷ []
three-rounds = refl

three-links : links three (0 ∷ 1 ∷ 2 ∷ []) ≡ seven three_sends
three-links = refl

three-answers : answers three (from_left three_sends) ≡ three_sends
three-answers = refl

three-winner : peterson_winner three ≡ 1
three-winner = refl

three-bound : peterson_bound 3 ≡ 12
three-bound = refl

-- ---- The ring 4, 1, 3, 2

abbrev four : List ℕ
four = 4 ∷ 1 ∷ 3 ∷ 2 ∷ []

abbrev four_sends : List (List ℕ)
four_sends =
    (4 ∷ 2 ∷ 3 ∷ 4 ∷ 4 ∷ 4 ∷ [])
    ∷ (1 ∷ 4 ∷ 4 ∷ 3 ∷ 4 ∷ 4 ∷ [])
    ∷ (3 ∷ 1 ∷ 4 ∷ 3 ∷ 4 ∷ 4 ∷ [])
    ∷ (2 ∷ 3 ∷ 3 ∷ 4 ∷ 4 ∷ 4 ∷ [])
    ∷ []

four-rounds : map (λ p. rounds p (first_round four)) (0 ∷ 1 ∷ 2 ∷ 3 ∷ []) ≡ ((0, 4) ∷ (1, 1) ∷ (2, 3) ∷ (3, 2) ∷ []) ∷ ((1, 4) ∷ (3, 3) ∷ []) ∷ ((3, 4) ∷ []) ∷ [] ∷ []
four-rounds = refl

four-links : links four (0 ∷ 1 ∷ 2 ∷ 3 ∷ []) ≡ seven four_sends
four-links = refl

four-answers : answers four (from_left four_sends) ≡ four_sends
four-answers = refl

four-winner : peterson_winner four ≡ 2
four-winner = refl

four-bound : peterson_bound 4 ≡ 24
four-bound = refl

-- ---- The ring 5, 9: the predecessor's predecessor is the position itself

abbrev two : List ℕ
two = 5 ∷ 9 ∷ []

abbrev two_sends : List (List ℕ)
two_sends =
    (5 ∷ 9 ∷ 9 ∷ 9 ∷ [])
    ∷ (9 ∷ 5 ∷ 9 ∷ 9 ∷ [])
    ∷ []

two-rounds : map (λ p. rounds p (first_round two)) (0 ∷ 1 ∷ 2 ∷ []) ≡ ((0, 5) ∷ (1, 9) ∷ []) ∷ ((0, 9) ∷ []) ∷ [] ∷ []
two-rounds = refl

two-links : links two (0 ∷ 1 ∷ []) ≡ seven two_sends
two-links = refl

two-answers : answers two (from_left two_sends) ≡ two_sends
two-answers = refl

two-winner : peterson_winner two ≡ 5
two-winner = refl

two-bound : peterson_bound 2 ≡ 8
two-bound = refl

-- ---- The ring 7: the position is its own predecessor

abbrev one : List ℕ
one = 7 ∷ []

abbrev one_sends : List (List ℕ)
one_sends = (7 ∷ 7 ∷ []) ∷ []

one-rounds : map (λ p. rounds p (first_round one)) (0 ∷ 1 ∷ []) ≡ ((0, 7) ∷ []) ∷ [] ∷ []
one-rounds = refl

one-links : links one (0 ∷ []) ≡ seven one_sends
one-links = refl

one-answers : answers one (from_left one_sends) ≡ one_sends
one-answers = refl

one-winner : peterson_winner one ≡ 7
one-winner = refl

one-bound : peterson_bound 1 ≡ 2
one-bound = refl

-- ---- The logarithm

floor_log2-255 : floor_log2 255 ≡ 7
floor_log2-255 = refl

floor_log2-256 : floor_log2 256 ≡ 8
floor_log2-256 = refl
