-- If every sent message was taken, every kind has decided.
use Rattle.ring_election.specs.Laws.{Deciding}
use Rattle.ring_chang.specs.Chang.{chang_fits, chang_table}
use Rattle.ring_chang.specs.laws.Deciding.{chang_deciding}
use Rattle.ring_hirschberg.specs.Hirschberg.{hirschberg_fits, hirschberg_table}
use Rattle.ring_hirschberg.specs.laws.Deciding.{hirschberg_deciding}
use Rattle.ring_lelann.specs.LeLann.{lelann_fits, lelann_table}
use Rattle.ring_lelann.specs.laws.Deciding.{lelann_deciding}
use Rattle.ring_peterson.specs.laws.Deciding.{peterson_deciding}
use Rattle.ring_peterson.specs.Peterson.{peterson_table}
use Rattle.ring_peterson.specs.Rounds.{peterson_fits}
use Rattle.ring_any.specs.declared.any.Any.{Any}
use Rattle.ring_any.specs.declared.any.Any.TheVariants.{LeLann, Chang, Hirschberg, Peterson}
use Rattle.ring_any.specs.Any.{any_fits, any_table}
use Rattle.ring_any.specs.Kinds.{chang_messages, chang_states, hirschberg_messages, hirschberg_states, lelann_messages, lelann_states, peterson_messages, peterson_states}
use Rattle.ring_any.specs.laws.Lifted.{lift_deciding}

-- each kind decides, as its algorithm does
pub any_deciding : (kind : Any) → Deciding (any_table kind) (any_fits kind)
any_deciding LeLann = lift_deciding lelann_states lelann_messages lelann_table lelann_fits lelann_deciding
any_deciding Chang = lift_deciding chang_states chang_messages chang_table chang_fits chang_deciding
any_deciding Hirschberg = lift_deciding hirschberg_states hirschberg_messages hirschberg_table hirschberg_fits hirschberg_deciding
any_deciding Peterson = lift_deciding peterson_states peterson_messages peterson_table peterson_fits peterson_deciding
