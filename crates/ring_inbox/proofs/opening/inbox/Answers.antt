use Rattle.std.proofs.Common.{◌≡◌, ◌+◌, [], map, refl, ap, sym, ◌∙◌, arith}
use Rattle.crossbeam_channel.specs.Claims.{view}
use Rattle.crossbeam_channel.specs.Ends.{sends_on, ruled_capacity}
use Rattle.ring_inbox.specs.Rule.{receiver, sender}
use Rattle.std.specs.List.{range_with_len}
use Rattle.ring_inbox.specs.Values.{name_of, fresh_sender}
use Rattle.ring_inbox.proofs.Calls.{makes_as}
use Rattle.ring_inbox.proofs.Moves.{begins}
use Rattle.ring_inbox.proofs.Values.{name_of-same_channel, fresh_senders_more}
use Rattle.ring_inbox.proofs.opening.inbox.Goals as goal

pub bounded_with-requires-clause-rule : goal.bounded_with-requires-clause-rule
bounded_with-requires-clause-rule g c = begins

pub another-requires-clause-rule : goal.another-requires-clause-rule
another-requires-clause-rule g c = makes_as _ _ _ _ _ _ _ c.loop-number.invariant.1 (omega (arith, c.loop-number-test))

pub loop-number-preserved : goal.loop-number-preserved
loop-number-preserved g c =
    let was = c.loop-number.invariant in
    let at = c.another.ensures.channel in
    let before = c.loop-number.pass in
    let now = c.another.new.pass in
    let new = c.another.result in
    let capacity = ruled_capacity (sends_on c.in_ok-to.to) in
    let senders = c.args.senders in
    let room = ruled_capacity (sends_on c.in_ok-try_clone.field-0) in
    let name : name_of capacity senders before ≡ name_of capacity senders now = name_of-same_channel capacity capacity senders senders before now refl refl (was.0.0 ∙ sym at.0.0) (was.0.1 ∙ sym at.0.1) in
    let places : (view new).senders ≡ senders = ap (λ v. v.senders) (c.another.ensures.rule.1 ∙ ap (λ v. sender v.capacity v.senders v.made [] 0) was.1) in
    let new_name : name_of room (view new).senders new ≡ name_of capacity senders now = name_of-same_channel room capacity (view new).senders senders new now (ap (λ r. ruled_capacity r) c.in_ok-try_clone.ensures) places (at.2.0 ∙ sym at.0.0) (at.2.1 ∙ sym at.0.1) in
    let stored : (view new).stored ≡ [] = ap (λ v. v.stored) c.another.ensures.rule.1 in
    let seen : (view new).seen ≡ 0 = ap (λ v. v.seen) c.another.ensures.rule.1 in (
      at.0,
      c.another.ensures.rule.0 ∙ ap (λ v. receiver v.capacity v.senders (v.made + 1) v.taken v.heard) was.1,
      c.in_ok-push.ensures.items ∙ fresh_senders_more _ _ _ _ _ was.2 name (λ i. record { inbox = new_name i; number = c.loop-number.number; stored = stored i; heard = seen i }),
    )

-- the new pass is at the channel, and knows the number of senders before it, the channel's capacity, and that it stored nothing
pub invariant_of-one : goal.invariant_of-one
invariant_of-one g c =
    let capacity = ruled_capacity (sends_on c.in_ok-to.to) in
    let knows : view c.another.result ≡ sender capacity c.args.senders c.loop-number.number [] 0 = c.another.ensures.rule.1 ∙ ap (λ v. sender v.capacity v.senders v.made [] 0) c.loop-number.invariant.1 in
    rw c.in_ok-try_clone.ensures (c.another.ensures.channel.2, knows ∙ (λ i. sender capacity ((sym knows i).senders) c.loop-number.number ((sym knows i).stored) ((sym knows i).seen)))

-- the loop made all senders that were asked for
pub returns-clause-senders : goal.returns-clause-senders
returns-clause-senders g c =
    let all_made : c.loop-number.number ≡ c.args.senders = omega (arith, c.loop-number-test.false, c.loop-number.auto.number-end) in
    let pass = c.loop-number.pass in
    let known : c.args.senders ≡ (view pass).senders = sym (ap (λ v. v.senders) c.loop-number.invariant.1) in
    rw (c.in_ok-to.ensures.0, ← all_made)
    (c.loop-number.invariant.2 ∙ ap (λ n. map (fresh_sender (name_of (ruled_capacity (sends_on c.in_ok-to.to)) n pass)) (range_with_len 0 c.loop-number.number)) known)
