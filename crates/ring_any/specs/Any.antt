-- The sum of the ring elections: each kind is its algorithm, on its own states and messages.
use Rattle.std.specs.Prelude.{◌==◌, ℕ, Bool, true, false, not, List, codes}
use Rattle.ring_id.specs.declared.side.Side.{Side}
use Rattle.ring_id.specs.declared.side.Side.TheVariants.{Left}
use Rattle.ring_roster.specs.Ring.{greatest_of}
use Rattle.ring_election.specs.Tables.{Table}
use Rattle.ring_chang.specs.Chang.{chang_bound, chang_fits, chang_table}
use Rattle.ring_hirschberg.specs.Hirschberg.{hirschberg_bound, hirschberg_fits, hirschberg_table}
use Rattle.ring_lelann.specs.LeLann.{lelann_bound, lelann_fits, lelann_table}
use Rattle.ring_peterson.specs.Peterson.{peterson_table}
use Rattle.ring_peterson.specs.Rounds.{peterson_bound, peterson_fits, peterson_winner}
use Rattle.ring_any.specs.declared.any.Any.{Any}
use Rattle.ring_any.specs.declared.any.Any.TheVariants.{LeLann, Chang, Hirschberg, Peterson}
use Rattle.ring_any.specs.declared.any.AnyMsg.{AnyMsg}
use Rattle.ring_any.specs.declared.any.AnyMsg.TheVariants as message
use Rattle.ring_any.specs.declared.any.AnyState.{AnyState}
use Rattle.ring_any.specs.declared.any.AnyState.TheVariants as state
use Rattle.ring_any.specs.Kinds.{chang_messages, chang_states, hirschberg_messages, hirschberg_states, lelann_messages, lelann_states, peterson_messages, peterson_states}
use Rattle.ring_any.specs.Variants.{lift_fits, lift_table}

-- the word of each kind in a line
abbrev pub word_of : Any → List ℕ
word_of LeLann = codes "lelann"
word_of Chang = codes "chang"
word_of Hirschberg = codes "hirschberg"
word_of Peterson = codes "peterson"

-- the kinds that send to the left
abbrev pub any_two_way : Any → Bool
any_two_way LeLann = false
any_two_way Chang = false
any_two_way Hirschberg = true
any_two_way Peterson = false

-- the kinds that promise the greatest identity
abbrev pub any_greatest : Any → Bool
any_greatest LeLann = true
any_greatest Chang = true
any_greatest Hirschberg = true
any_greatest Peterson = false

-- the table of each kind: a state or a message of another kind changes, sends and decides nothing
abbrev pub any_table : Any → Table AnyState AnyMsg
any_table LeLann = lift_table lelann_states lelann_messages lelann_table
any_table Chang = lift_table chang_states chang_messages chang_table
any_table Hirschberg = lift_table hirschberg_states hirschberg_messages hirschberg_table
any_table Peterson = lift_table peterson_states peterson_messages peterson_table

-- the messages that fit on the links of each kind: no message of another kind
abbrev pub any_fits : Any → List ℕ → ℕ → Side → ℕ → AnyMsg → Type 0
any_fits LeLann = lift_fits lelann_messages lelann_fits
any_fits Chang = lift_fits chang_messages chang_fits
any_fits Hirschberg = lift_fits hirschberg_messages hirschberg_fits
any_fits Peterson = lift_fits peterson_messages peterson_fits

-- the winner of a ring
abbrev pub any_winner : Any → List ℕ → ℕ
any_winner LeLann = greatest_of
any_winner Chang = greatest_of
any_winner Hirschberg = greatest_of
any_winner Peterson = peterson_winner

-- the most messages on a ring of n
abbrev pub any_bound : Any → ℕ → ℕ
any_bound LeLann = lelann_bound
any_bound Chang = chang_bound
any_bound Hirschberg = hirschberg_bound
any_bound Peterson = peterson_bound

-- whether a receipt has to store an identity: only LeLann's does, for another's identity from the
-- left
abbrev pub grows : Any → AnyState → Side → AnyMsg → Bool
grows LeLann (state.LeLann s) Left (message.LeLann v) = not (v == s.me)
grows _ _ _ _ = false
