-- The traffic of each kind, seen as traffic of the sum.
use Rattle.ring_any.specs.declared.any.Any.{Any}
use Rattle.ring_any.specs.declared.any.Any.TheVariants.{LeLann, Chang, Hirschberg, Peterson}
use Rattle.ring_any.specs.declared.any.AnyMsg.{AnyMsg}
use Rattle.ring_any.specs.Kinds.{chang_messages, hirschberg_messages, lelann_messages, peterson_messages}
use Rattle.ring_world.specs.Worlds.{Running}
use Rattle.ring_schedule.specs.declared.any_traffic.Kind.{Kind}
use Rattle.ring_schedule.specs.declared.any_traffic.Kind.TheVariants as circle
use Rattle.ring_schedule.specs.Under.{running_under}

-- the traffic of an algorithm, under its kind
abbrev pub any_running : Kind → Running Any AnyMsg
any_running (circle.LeLann running) = running_under LeLann lelann_messages running
any_running (circle.Chang running) = running_under Chang chang_messages running
any_running (circle.Hirschberg running) = running_under Hirschberg hirschberg_messages running
any_running (circle.Peterson running) = running_under Peterson peterson_messages running
