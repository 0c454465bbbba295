use Rattle.std.proofs.Common.{◌≡◌, [], map}
use Rattle.std.specs.List.{range_with_len}
use Rattle.crossbeam_channel.specs.Claims.{view, IsSeatAt}
use Rattle.crossbeam_channel.specs.Ends.{sends_on, ruled_capacity}
use Rattle.ring_inbox.specs.Rule.{receiver}
use Rattle.ring_inbox.specs.Values.{name_of, fresh_sender}
use Rattle.ring_inbox.proofs.opening.inbox.Given as goal

-- the pass of the receiver, which makes the senders, has the channel's capacity, and knows how many senders were asked for
abbrev pub ghosts-size : goal.ghosts-size
ghosts-size g a = record { capacity = ruled_capacity (sends_on a.to.now); senders = a.senders }

abbrev pub invariant-loop-number : goal.invariant-loop-number
invariant-loop-number g l =
    IsSeatAt (sends_on l.to) l.pass
    × (view l.pass ≡ receiver (ruled_capacity (sends_on l.to)) l.senders l.number [] [])
    × (l.all.items ≡ map (fresh_sender (name_of (ruled_capacity (sends_on l.to)) l.senders l.pass)) (range_with_len 0 l.number))
