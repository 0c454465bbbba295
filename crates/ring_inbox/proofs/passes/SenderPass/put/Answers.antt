-- A put keeps the inbox. The item was stored, or nothing changed.
use Rattle.std.proofs.Common.{◌≡◌, refl, ap, sym, ◌∙◌, subst}
use Rattle.crossbeam_channel.specs.Claims.{view}
use Rattle.crossbeam_channel.specs.Err.{IsFull, try_send_message}
use Rattle.crossbeam_channel.specs.Ends.{sends_on, ruled_capacity}
use Rattle.ring_inbox.specs.Values.{name_of}
use Rattle.ring_inbox.proofs.Looks.{stored_once, was_full, full_if_alone}
use Rattle.ring_inbox.proofs.Calls.{stores_as}
use Rattle.ring_inbox.proofs.Values.{name_of-same_channel}
use Rattle.ring_inbox.proofs.passes.SenderPass.put.Goals as goal
use Rattle.ring_inbox.proofs.passes.SenderPass.put.Goals.{in-Ok, in-Err-Full, in-Err}

pub try_send_as-requires-clause-rule : goal.try_send_as-requires-clause-rule
try_send_as-requires-clause-rule g c = stores_as _ _ _ _ _ _ _ _ c.self.invariant.1

-- the pass stays at its channel, and what it knows is what the call told it
pub returns-clause-pass : goal.returns-clause-pass
returns-clause-pass g c =
    let room = ruled_capacity (sends_on c.self.inside.to) in
    let before = c.self.inside.pass in
    let now = c.try_send_as.new.pass in
    let at = c.try_send_as.ensures.channel.0 in
    let was = c.self.invariant.0 in
    let name : (view now).senders ≡ (view before).senders → name_of room (view now).senders now ≡ name_of room (view before).senders before =
    λ places. name_of-same_channel room room (view now).senders (view before).senders now before refl places (at.0 ∙ sym was.0) (at.1 ∙ sym was.1) in
    elim c.match-try_send_as.branch [
      | in-Ok w ↦ let told = w.in-Ok.ensures.rule.0 in
          rw (w.result-is, ← c.self.view_is) (λ i. record { inbox = name (λ j. (told j).senders) i; number = c.self.inside.number; stored = (told i).stored; heard = (told i).seen })
      | in-Err-Full w ↦ let same = w.in-Err-Full.ensures.rule.1 in
          rw (w.result-is, ← c.self.view_is) (
            ap (λ m. m.1) (ap (λ e. try_send_message e) (sym w.in-Err-Full.field-0-is) ∙ w.in-Err-Full.ensures.rule.0),
            λ i. record { inbox = name (λ j. (same j).senders) i; number = c.self.inside.number; stored = (same i).stored; heard = (same i).seen },
          )
      | in-Err w ↦ let same = w.in-Err.ensures.rule.1 in
          rw (w.result-is, ← c.self.view_is) (
            ap (λ m. m.1) (w.into_inner.ensures ∙ w.in-Err.ensures.rule.0),
            λ i. record { inbox = name (λ j. (same j).senders) i; number = c.self.inside.number; stored = (same i).stored; heard = (same i).seen },
          )
    ]

-- the call made one step of the inbox, or saw it full
pub returns-clause-moment : goal.returns-clause-moment
returns-clause-moment g c =
    let before = c.self.inside.pass in
    let room = ruled_capacity (sends_on c.self.inside.to) in
    let size : (view before).capacity ≡ room = ap (λ v. v.capacity) c.self.invariant.1 in
    let own : (view before).number ≡ c.self.inside.number = ap (λ v. v.number) c.self.invariant.1 in
    elim c.match-try_send_as.branch [
      | in-Ok w ↦ rw (w.result-is, ← c.self.view_is) (stored_once (view before) room _ _ size own w.in-Ok.ensures.rule.1)
      | in-Err-Full w ↦ rw (w.result-is, ← c.self.view_is) (was_full (view before) room _ size own (w.in-Err-Full.ensures.rule.2 (subst IsFull (sym w.in-Err-Full.field-0-is) tt)))
      | in-Err w ↦ rw w.result-is tt
    ]

-- it saw the queue full, which says of an only sender how much it has stored
pub returns-clause-full : goal.returns-clause-full
returns-clause-full g c = elim c.match-try_send_as.branch [
  | in-Ok w ↦ rw w.result-is tt
  | in-Err-Full w ↦ rw (w.result-is, ← c.self.view_is) (full_if_alone (view c.self.inside.pass) (ruled_capacity (sends_on c.self.inside.to)) (w.in-Err-Full.ensures.rule.2 (subst IsFull (sym w.in-Err-Full.field-0-is) tt)))
  | in-Err w ↦ rw w.result-is tt
]
