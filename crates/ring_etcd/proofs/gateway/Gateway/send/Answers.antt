use Rattle.std.proofs.Common.{◌++◌, ◌∙◌, ap}
use Rattle.ring_etcd.specs.private.Http.{request_text}
use Rattle.ring_etcd.proofs.gateway.Gateway.send.Goals as goal

pub returns-in-Ok : goal.returns-in-Ok
returns-in-Ok g c =
    let request = request_text c.args.path.now c.args.body.now in
    let sent = c.as_slice.ensures.value ∙ c.in_ok-write.ensures.bytes ∙ ap (λ l. l ++ request) c.clear.ensures.items in
    let same = ap g.S.Write.contents c.in_ok-write.ensures.same in
    rw same at (rw sent at c.in-Ok.ensures.bytes)
