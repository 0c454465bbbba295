-- The Hirschberg-Sinclair algorithm without rounds (Lynch, Distributed Algorithms, 3.4): its table,
-- the messages that may be on a link, its winner and the bound on its work.
use Rattle.std.specs.Prelude.{◌≡◌, ◌+◌, ◌-◌, ◌*◌, ◌^◌, ◌<◌, ◌≤◌, ◌==◌, ℕ, zero, suc, if◌then◌else◌, min, nat_lt, List, length, Some, None, slice_get, Option}
use Rattle.ring_id.specs.declared.side.Side.{Side}
use Rattle.ring_id.specs.declared.side.Side.TheVariants.{Left, Right}
use Rattle.ring_id.specs.Sides.{other}
use Rattle.ring_roster.specs.Ring.{neighbour}
use Rattle.ring_election.specs.declared.sends.Sends.{Sends}
use Rattle.ring_election.specs.Tables.{Table, nothing}
use Rattle.ring_hirschberg.specs.declared.hirschberg.HirschbergMsg.{HirschbergMsg}
use Rattle.ring_hirschberg.specs.declared.hirschberg.HirschbergMsg.TheVariants.{Out, Back}
use Rattle.ring_hirschberg.specs.declared.hirschberg.HirschbergState.{HirschbergState}

-- one message, to that side
abbrev pub one_to : Side → HirschbergMsg → Sends HirschbergMsg
one_to Left m = record { left = Some m; right = None }
one_to Right m = record { left = None; right = Some m }

-- the same message to both sides
abbrev pub to_both : HirschbergMsg → Sends HirschbergMsg
to_both m = record { left = Some m; right = Some m }

-- the phase of a node: how often both of its tokens came home
abbrev pub phase : HirschbergState → ℕ
phase s = min s.left s.right

-- a count of tokens come home, raised by one; it stays at 16
abbrev pub risen : ℕ → ℕ
risen count = if nat_lt count 16 then count + 1 else count

-- one more own token came home from that side
abbrev pub counted : HirschbergState → Side → HirschbergState
counted s Left = record s { left = risen s.left }
counted s Right = record s { right = risen s.right }

-- a node that starts is in phase 0
abbrev pub hirschberg_first : ℕ → HirschbergState
hirschberg_first me = record { me = me; left = 0; right = 0; decided = None }

-- it sends its token one hop to both sides
abbrev pub hirschberg_first_sends : ℕ → Sends HirschbergMsg
hirschberg_first_sends me = to_both (Out me 1)

-- The state after a receipt. A node decides on itself if its own token reaches it on the way out.
-- It counts its own tokens that come home. Nothing else changes it.
abbrev pub hirschberg_next : HirschbergState → Side → HirschbergMsg → HirschbergState
hirschberg_next s side (Out v hops) = if v == s.me then record s { decided = Some s.me } else s
hirschberg_next s side (Back v) = if v == s.me then counted s side else s

-- The next step of a greater token that came from that side with this many hops left. It goes on
-- with one hop less, is turned at its last hop, or is dropped if it has no hop left.
abbrev pub passed : Side → ℕ → ℕ → Sends HirschbergMsg
passed side v hops =
    if nat_lt 1 hops then one_to (other side) (Out v (hops - 1))
    else if hops == 1 then one_to side (Back v) else nothing HirschbergMsg

-- a node that comes to phase l sends its token 2 ^ l hops to both sides
abbrev pub new_token : HirschbergState → HirschbergState → Sends HirschbergMsg
new_token old new =
    if nat_lt (phase old) (phase new) then to_both (Out old.me (2 ^ phase new))
    else nothing HirschbergMsg

-- The messages sent because of a receipt. Smaller nodes pass a token on its way out, and greater
-- ones drop it. All nodes but its own pass a token on its way home.
abbrev pub hirschberg_sends : HirschbergState → Side → HirschbergMsg → Sends HirschbergMsg
hirschberg_sends s side (Out v hops) =
    if v == s.me then nothing HirschbergMsg
    else if nat_lt s.me v then passed side v hops else nothing HirschbergMsg
hirschberg_sends s side (Back v) =
    if v == s.me then new_token s (counted s side) else one_to (other side) (Back v)

-- the decision of a state
abbrev pub hirschberg_decided : HirschbergState → Option ℕ
hirschberg_decided s = s.decided

-- the table of the algorithm
abbrev pub hirschberg_table : Table HirschbergState HirschbergMsg
hirschberg_table = record {
  first = hirschberg_first;
  first_sends = hirschberg_first_sends;
  next = hirschberg_next;
  next_sends = hirschberg_sends;
  decided = hirschberg_decided;
}

-- v is at a position from which a walk to that side leads to i over smaller identities only. Either
-- v is at i itself, or v reaches the position before i on that walk and i is smaller.
pub data Reaches (ring : List ℕ) (side : Side) (v : ℕ) : ℕ → Type 0 where
  own : {i : ℕ} → slice_get ring i ≡ Some v → Reaches ring side v i
  over : {i x : ℕ} → Reaches ring side v (neighbour (length ring) i (other side))
      → slice_get ring i ≡ Some x → x < v → Reaches ring side v i

-- v is a member
abbrev pub IsMember : List ℕ → ℕ → Type 0
IsMember ring v = (p : ℕ) × (slice_get ring p ≡ Some v)

-- which message may be on the link from position i to that side
abbrev pub allows : List ℕ → ℕ → Side → HirschbergMsg → Type 0
allows ring i side (Out v hops) = (1 ≤ hops) × Reaches ring side v i
allows ring i side (Back v) = IsMember ring v

-- whether the message fits as the k-th of the link; k does not matter
abbrev pub hirschberg_fits : List ℕ → ℕ → Side → ℕ → HirschbergMsg → Type 0
hirschberg_fits ring i side k m = allows ring i side m

-- an exponent, raised by one if its power of two is below n
abbrev pub raised : ℕ → ℕ → ℕ
raised n e = if nat_lt (2 ^ e) n then e + 1 else e

-- the least exponent up to k whose power of two is not below n, or k
abbrev pub least_power : ℕ → ℕ → ℕ
least_power n zero = 0
least_power n (suc k) = raised n (least_power n k)

-- the logarithm of n to the base 2, rounded up
abbrev pub ceil_log2 : ℕ → ℕ
ceil_log2 n = least_power n n

-- the most messages that an election on a ring of n takes
abbrev pub hirschberg_bound : ℕ → ℕ
hirschberg_bound n = 4 * (n * n) * (1 + ceil_log2 n)
