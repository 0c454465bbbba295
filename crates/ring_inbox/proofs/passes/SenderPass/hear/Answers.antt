use Rattle.std.proofs.Common.{◌≡◌, ap, sym, ◌∙◌}
use Rattle.crossbeam_channel.specs.Claims.{view}
use Rattle.crossbeam_channel.specs.Ends.{sends_on, receives_on, ruled_capacity}
use Rattle.ring_inbox.specs.Values.{name_of}
use Rattle.ring_inbox.proofs.Calls.{meets_as, tells_as, receiver_again}
use Rattle.ring_inbox.proofs.Values.{table_of_name, key_of_name}
use Rattle.ring_inbox.proofs.passes.SenderPass.hear.Goals as goal

pub absorb-requires-clause-channel : goal.absorb-requires-clause-channel
absorb-requires-clause-channel g c =
    let s = c.self.inside.pass in
    let r = c.receiver.inside.pass in
    let at = c.self.invariant.0 in
    let room = ruled_capacity (receives_on c.receiver.inside.from) in
    let capacity = ruled_capacity (sends_on c.self.inside.to) in
    let same : name_of room (view r).senders r ≡ name_of capacity (view s).senders s = ap (λ v. v.inbox) c.receiver.view_is ∙ c.requires ∙ sym (ap (λ v. v.inbox) c.self.view_is) in
    (at, (table_of_name room capacity _ _ r s same ∙ at.0, key_of_name room capacity _ _ r s same ∙ at.1, c.receiver.invariant.0.2, at.3))

pub absorb-requires-clause-rule : goal.absorb-requires-clause-rule
absorb-requires-clause-rule g c = meets_as _ _ _ _ _ _ _ _ _ _ _ _ _ _ c.self.invariant.1 c.receiver.invariant.1

pub another-pass-requires-clause-rule : goal.another-pass-requires-clause-rule
another-pass-requires-clause-rule g c = tells_as _ _ _ _ _ _ _ _ _ _ c.absorb.ensures.rule

pub invariant_of-result : goal.invariant_of-result
invariant_of-result g c =
    let s = c.self.inside.pass in
    let r = c.receiver.inside.pass in
    let at = c.another-pass.ensures.channel.2 in
    let met_at = c.self.invariant.0 in
    let there = c.receiver.invariant.0 in
    let room = ruled_capacity (receives_on c.receiver.inside.from) in
    let capacity = ruled_capacity (sends_on c.self.inside.to) in
    let same : name_of room (view r).senders r ≡ name_of capacity (view s).senders s = ap (λ v. v.inbox) c.receiver.view_is ∙ c.requires ∙ sym (ap (λ v. v.inbox) c.self.view_is) in (
      (
        at.0 ∙ sym met_at.0 ∙ sym (table_of_name room capacity _ _ r s same) ∙ there.0,
        at.1 ∙ sym met_at.1 ∙ sym (key_of_name room capacity _ _ r s same) ∙ there.1,
        at.2,
        there.3,
      ),
      receiver_again (view s) (view r) (view c.absorb.new.pass) (view c.another-pass.result) room _ c.absorb.ensures.rule c.another-pass.ensures.rule.1
          (ap (λ v. v.capacity) c.self.invariant.1 ∙ sym (ap (λ n. n.capacity) same)),
    )
