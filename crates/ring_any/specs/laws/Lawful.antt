-- The laws that keep the leader unique, for every kind.
use Rattle.std.specs.Prelude.{true, false}
use Rattle.ring_roster.specs.Ring.{greatest_of}
use Rattle.ring_election.specs.Laws.{Lawful}
use Rattle.ring_chang.specs.Chang.{chang_fits, chang_table}
use Rattle.ring_chang.specs.laws.Lawful.{chang_lawful}
use Rattle.ring_hirschberg.specs.Hirschberg.{hirschberg_fits, hirschberg_table}
use Rattle.ring_hirschberg.specs.laws.Lawful.{hirschberg_lawful}
use Rattle.ring_lelann.specs.LeLann.{lelann_fits, lelann_table}
use Rattle.ring_lelann.specs.laws.Lawful.{lelann_lawful}
use Rattle.ring_peterson.specs.laws.Lawful.{peterson_lawful}
use Rattle.ring_peterson.specs.Peterson.{peterson_table}
use Rattle.ring_peterson.specs.Rounds.{peterson_fits, peterson_winner}
use Rattle.ring_any.specs.declared.any.Any.{Any}
use Rattle.ring_any.specs.declared.any.Any.TheVariants.{LeLann, Chang, Hirschberg, Peterson}
use Rattle.ring_any.specs.Any.{any_fits, any_greatest, any_table, any_two_way, any_winner}
use Rattle.ring_any.specs.Kinds.{chang_messages, chang_states, hirschberg_messages, hirschberg_states, lelann_messages, lelann_states, peterson_messages, peterson_states}
use Rattle.ring_any.specs.laws.Lifted.{lift_lawful}

-- each kind keeps a leader unique, as its algorithm does
pub any_lawful : (kind : Any) → Lawful (any_two_way kind) (any_greatest kind) (any_table kind) (any_fits kind) (any_winner kind)
any_lawful LeLann = lift_lawful lelann_states lelann_messages lelann_table lelann_fits false true greatest_of lelann_lawful
any_lawful Chang = lift_lawful chang_states chang_messages chang_table chang_fits false true greatest_of chang_lawful
any_lawful Hirschberg = lift_lawful hirschberg_states hirschberg_messages hirschberg_table hirschberg_fits true true greatest_of hirschberg_lawful
any_lawful Peterson = lift_lawful peterson_states peterson_messages peterson_table peterson_fits false false peterson_winner peterson_lawful
