-- The ring of a term (Lynch, Distributed Algorithms, 3.1): a list of identities, read cyclically.
use Rattle.std.specs.Prelude.{◌≡◌, ◌+◌, ◌-◌, ◌<◌, ◌≤◌, ◌==◌, ◌||◌, ℕ, Bool, false, if◌then◌else◌, nat_lt, max, List, [], ◌∷◌, ◌++◌, length, reverse, take, drop, Option, None}
use Rattle.std.specs.List.{list_any, position}
use Rattle.ring_id.specs.declared.refusal.Refusal.{Refusal}
use Rattle.ring_id.specs.declared.refusal.Refusal.TheVariants as refused
use Rattle.ring_id.specs.declared.side.Side.{Side}
use Rattle.ring_id.specs.declared.side.Side.TheVariants.{Left, Right}
use Rattle.ring_id.specs.Identity.{number_of}
use Rattle.ring_id.specs.Refusals.{refused_if}

-- whether the member has this number
abbrev pub is_numbered : ℕ → ℕ → Bool
is_numbered number member = number_of member == number

-- whether the member has this identity's number, whatever their weights
abbrev pub has_number : ℕ → ℕ → Bool
has_number node member = is_numbered (number_of node) member

-- whether two members have one number
abbrev pub has_repeat : List ℕ → Bool
has_repeat [] = false
has_repeat (member ∷ others) = list_any (has_number member) others || has_repeat others

-- the first position whose member has this number
abbrev pub position_of : ℕ → List ℕ → Option ℕ
position_of number ring = position (is_numbered number) ring

-- 1 to 256 identities with different numbers
pub record IsRing (ring : List ℕ) : Type 0 where
  pub some : 0 < length ring
  pub short : length ring ≤ 256
  pub distinct : has_repeat ring ≡ false

-- the first reason why these identities are no ring
abbrev pub ring_refusal : List ℕ → Option Refusal
ring_refusal members =
    refused_if (length members == 0) refused.Empty
    (refused_if (nat_lt 256 (length members)) refused.RingFull
    (refused_if (has_repeat members) refused.Member None))

-- in a ring of n, the next position; right of the last is the first
abbrev pub right_of : ℕ → ℕ → ℕ
right_of n i = if i + 1 == n then 0 else i + 1

-- in a ring of n, the position before; left of the first is the last
abbrev pub left_of : ℕ → ℕ → ℕ
left_of n i = if i == 0 then n - 1 else i - 1

-- the position at that side
abbrev pub neighbour : ℕ → ℕ → Side → ℕ
neighbour n i Left = left_of n i
neighbour n i Right = right_of n i

-- the identities met from position i on, walking to the left, all round
abbrev pub leftward : List ℕ → ℕ → List ℕ
leftward ring i = reverse (take (i + 1) ring) ++ reverse (drop (i + 1) ring)

-- the greatest of some identities, or 0 if there are none
abbrev pub greatest_of : List ℕ → ℕ
greatest_of [] = 0
greatest_of (member ∷ others) = max member (greatest_of others)
