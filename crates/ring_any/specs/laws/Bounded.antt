-- The number of messages of every kind is bounded.
use Rattle.ring_election.specs.Laws.{Bounded}
use Rattle.ring_chang.specs.Chang.{chang_bound, chang_fits, chang_table}
use Rattle.ring_chang.specs.laws.Bounded.{chang_bounded}
use Rattle.ring_hirschberg.specs.Hirschberg.{hirschberg_bound, hirschberg_fits, hirschberg_table}
use Rattle.ring_hirschberg.specs.laws.Bounded.{hirschberg_bounded}
use Rattle.ring_lelann.specs.LeLann.{lelann_bound, lelann_fits, lelann_table}
use Rattle.ring_lelann.specs.laws.Bounded.{lelann_bounded}
use Rattle.ring_peterson.specs.laws.Bounded.{peterson_bounded}
use Rattle.ring_peterson.specs.Peterson.{peterson_table}
use Rattle.ring_peterson.specs.Rounds.{peterson_bound, peterson_fits}
use Rattle.ring_any.specs.declared.any.Any.{Any}
use Rattle.ring_any.specs.declared.any.Any.TheVariants.{LeLann, Chang, Hirschberg, Peterson}
use Rattle.ring_any.specs.Any.{any_bound, any_fits, any_table}
use Rattle.ring_any.specs.Kinds.{chang_messages, chang_states, hirschberg_messages, hirschberg_states, lelann_messages, lelann_states, peterson_messages, peterson_states}
use Rattle.ring_any.specs.laws.Lifted.{lift_bounded}

-- each kind takes no more messages than its algorithm
pub any_bounded : (kind : Any) → Bounded (any_table kind) (any_fits kind) (any_bound kind)
any_bounded LeLann = lift_bounded lelann_states lelann_messages lelann_table lelann_fits lelann_bound lelann_bounded
any_bounded Chang = lift_bounded chang_states chang_messages chang_table chang_fits chang_bound chang_bounded
any_bounded Hirschberg = lift_bounded hirschberg_states hirschberg_messages hirschberg_table hirschberg_fits hirschberg_bound hirschberg_bounded
any_bounded Peterson = lift_bounded peterson_states peterson_messages peterson_table peterson_fits peterson_bound peterson_bounded
