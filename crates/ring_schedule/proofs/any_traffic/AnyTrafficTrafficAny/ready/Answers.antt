-- The link that is ready first in the circle of the algorithm is so under its kind.
use Rattle.ring_chang.specs.Chang.{chang_table}
use Rattle.ring_hirschberg.specs.Hirschberg.{hirschberg_table}
use Rattle.ring_lelann.specs.LeLann.{lelann_table}
use Rattle.ring_peterson.specs.Peterson.{peterson_table}
use Rattle.ring_any.specs.Any.{any_table}
use Rattle.ring_any.specs.declared.any.Any.TheVariants.{LeLann, Chang, Hirschberg, Peterson}
use Rattle.ring_any.specs.Kinds.{chang_messages, chang_states, hirschberg_messages, hirschberg_states, lelann_messages, lelann_states, peterson_messages, peterson_states}
use Rattle.ring_schedule.proofs.EachKind.{chang_kind, hirschberg_kind, lelann_kind, peterson_kind}
use Rattle.ring_schedule.proofs.Passing.{ready_under}
use Rattle.ring_schedule.proofs.any_traffic.AnyTrafficTrafficAny.ready.Goals as goal

pub returns-in-LeLann : goal.returns-in-LeLann
returns-in-LeLann c = rw (← c.self.view_is, c.in-LeLann.is) (ready_under lelann_states lelann_messages (λ _. lelann_table) any_table LeLann lelann_kind c.in-LeLann.circle c.ready.result c.ready.ensures)

pub returns-in-Chang : goal.returns-in-Chang
returns-in-Chang c = rw (← c.self.view_is, c.in-Chang.is) (ready_under chang_states chang_messages (λ _. chang_table) any_table Chang chang_kind c.in-Chang.circle c.ready-in-Chang.result c.ready-in-Chang.ensures)

pub returns-in-Hirschberg : goal.returns-in-Hirschberg
returns-in-Hirschberg c = rw (← c.self.view_is, c.in-Hirschberg.is) (ready_under hirschberg_states hirschberg_messages (λ _. hirschberg_table) any_table Hirschberg hirschberg_kind c.in-Hirschberg.circle c.ready-in-Hirschberg.result c.ready-in-Hirschberg.ensures)

pub returns-in-Peterson : goal.returns-in-Peterson
returns-in-Peterson c = rw (← c.self.view_is, c.in-Peterson.is) (ready_under peterson_states peterson_messages (λ _. peterson_table) any_table Peterson peterson_kind c.in-Peterson.circle c.ready-in-Peterson.result c.ready-in-Peterson.ensures)
