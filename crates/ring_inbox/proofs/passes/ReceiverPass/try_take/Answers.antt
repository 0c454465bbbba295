-- A take keeps the inbox. The item follows those taken before, or nothing changed.
use Rattle.std.proofs.Common.{◌≡◌, refl, ap, sym, ◌∙◌}
use Rattle.crossbeam_channel.specs.Claims.{view}
use Rattle.crossbeam_channel.specs.Ends.{receives_on, ruled_capacity}
use Rattle.ring_inbox.specs.Values.{name_of}
use Rattle.ring_inbox.proofs.Looks.{taken_once, was_empty, taken_all}
use Rattle.ring_inbox.proofs.Calls.{takes_as}
use Rattle.ring_inbox.proofs.Values.{name_of-same_channel}
use Rattle.ring_inbox.proofs.passes.ReceiverPass.try_take.Goals as goal
use Rattle.ring_inbox.proofs.passes.ReceiverPass.try_take.Goals.{in-Ok, in-Err}

pub try_recv_as-requires-clause-rule : goal.try_recv_as-requires-clause-rule
try_recv_as-requires-clause-rule g c = takes_as _ _ _ _ _ _ _ c.self.invariant.1

-- the pass stays at its channel, and what it knows is what the call told it
pub returns-clause-pass : goal.returns-clause-pass
returns-clause-pass g c =
    let room = ruled_capacity (receives_on c.self.inside.from) in
    let before = c.self.inside.pass in
    let now = c.try_recv_as.new.pass in
    let at = c.try_recv_as.ensures.channel.0 in
    let was = c.self.invariant.0 in
    let name : (view now).senders ≡ (view before).senders → name_of room (view now).senders now ≡ name_of room (view before).senders before =
    λ places. name_of-same_channel room room (view now).senders (view before).senders now before refl places (at.0 ∙ sym was.0) (at.1 ∙ sym was.1) in
    elim c.match-try_recv_as.branch [
      | in-Ok w ↦ let told = w.in-Ok.ensures.rule.0 in
          rw (w.result-is, ← c.self.view_is) (λ i. record { inbox = name (λ j. (told j).senders) i; senders = (told i).made; taken = (told i).taken; heard = (told i).heard })
      | in-Err w ↦ let told = w.in-Err.ensures.rule.0 in
          rw (w.result-is, ← c.self.view_is) (λ i. record { inbox = name (λ j. (told j).senders) i; senders = (told i).made; taken = (told i).taken; heard = (told i).heard })
    ]

-- the call told the pass that the item's sender was made
pub returns-clause-sender : goal.returns-clause-sender
returns-clause-sender g c = elim c.match-try_recv_as.branch [
  | in-Ok w ↦ rw (w.result-is, ← c.self.view_is) w.in-Ok.ensures.rule.1
  | in-Err w ↦ rw w.result-is tt
]

-- the call made one step of the inbox, or saw it empty
pub returns-clause-moment : goal.returns-clause-moment
returns-clause-moment g c =
    let before = c.self.inside.pass in
    let room = ruled_capacity (receives_on c.self.inside.from) in
    let size : (view before).capacity ≡ room = ap (λ v. v.capacity) c.self.invariant.1 in
    elim c.match-try_recv_as.branch [
      | in-Ok w ↦ rw (w.result-is, ← c.self.view_is) (taken_once (view before) room _ _ size w.in-Ok.ensures.rule.2)
      | in-Err w ↦ rw (w.result-is, ← c.self.view_is) (was_empty (view before) room size w.in-Err.ensures.rule.1)
    ]

-- it saw the queue empty, so all items that it heard of were taken
pub returns-clause-empty : goal.returns-clause-empty
returns-clause-empty g c = elim c.match-try_recv_as.branch [
  | in-Ok w ↦ rw w.result-is tt
  | in-Err w ↦ rw (w.result-is, ← c.self.view_is) (taken_all (view c.self.inside.pass) w.in-Err.ensures.rule.1)
]
