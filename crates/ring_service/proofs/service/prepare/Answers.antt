-- The service has the last sender of each inbox, and the others are left.
use Rattle.std.proofs.Common.{◌≡◌, ap, ◌∙◌, arith, length}
use Rattle.ring_service.proofs.Meshing.{senders_counted, senders_left, taken_all}
use Rattle.ring_service.proofs.service.prepare.Goals as goal

pub take_last-requires : goal.take_last-requires
take_last-requires c =
    let long : length c.in-Ok-open.mesh.senders.items ≡ length c.in-Ok-open.mesh.receivers.items = omega (arith, c.in-Ok-open.ensures.senders, c.in-Ok-open.ensures.receivers, c.in-Ok-open.mesh.senders.ok.0, c.in-Ok-open.mesh.receivers.ok.0) in
    senders_counted _ _ _ long c.in-Ok-open.ensures.left

pub returns-clause-senders : goal.returns-clause-senders
returns-clause-senders c =
    let long : length c.in-Ok-open.mesh.senders.items ≡ length c.in-Ok-open.mesh.receivers.items = omega (arith, c.in-Ok-open.ensures.senders, c.in-Ok-open.ensures.receivers, c.in-Ok-open.mesh.senders.ok.0, c.in-Ok-open.mesh.receivers.ok.0) in
    senders_left c.args.workers c.in-Ok-open.mesh.receivers.items c.in-Ok-open.mesh.senders.items c.take_last.new.inboxes.items c.in-Ok-take_last.passes.items long c.in-Ok-open.ensures.left c.in-Ok-take_last.ensures.lasts

pub returns-clause-pending : goal.returns-clause-pending
returns-clause-pending c =
    let long : length c.in-Ok-open.mesh.senders.items ≡ length c.in-Ok-open.mesh.receivers.items = omega (arith, c.in-Ok-open.ensures.senders, c.in-Ok-open.ensures.receivers, c.in-Ok-open.mesh.senders.ok.0, c.in-Ok-open.mesh.receivers.ok.0) in
    let count : length c.in-Ok-take_last.passes.items ≡ length c.in-Ok-open.mesh.receivers.items = omega (arith, c.in-Ok-take_last.ensures.one, long, c.in-Ok-open.mesh.senders.ok.0, c.in-Ok-take_last.passes.ok.0) in
    ap (λ passes. passes.items) c.new-pending.ensures.passes
    ∙ taken_all c.args.workers c.in-Ok-open.mesh.receivers.items c.in-Ok-open.mesh.senders.items c.take_last.new.inboxes.items c.in-Ok-take_last.passes.items long count c.in-Ok-open.ensures.left c.in-Ok-take_last.ensures.lasts
