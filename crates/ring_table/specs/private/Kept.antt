-- Which replies can be kept.
use Rattle.ring_events.specs.declared.reply.Reply.{Reply}
use Rattle.ring_events.specs.declared.reply.Reply.TheVariants as reply

-- the replies that a client's command can have
abbrev pub IsKeepable : Reply → Type 0
IsKeepable reply.Moved = ⊥
IsKeepable reply.Idle = ⊥
IsKeepable (reply.Pending count) = ⊥
IsKeepable (reply.Drained done left starved) = ⊥
IsKeepable other = Unit {0}

-- the replies that have a list
abbrev pub IsList : Reply → Type 0
IsList (reply.Members members) = Unit {0}
IsList (reply.Terms leaders) = Unit {0}
IsList (reply.Groups names) = Unit {0}
IsList other = ⊥
