use Rattle.ring_etcd.proofs.Sending.{sent}
use Rattle.ring_etcd.proofs.gateway.Gateway.write.Goals as goal

pub returns-in-Ok-write_end-clause-bytes : goal.returns-in-Ok-write_end-clause-bytes
returns-in-Ok-write_end-clause-bytes g c =
    let path = c.as_bytes.ensures.value in
    let body = c.as_bytes-2.ensures.value in
    sent _ _ _ _ _ _ _ c.args.path.now c.args.body.now _ _ _ (rw path at c.in-Ok.ensures.outcome)
    (rw path at c.in-Ok.ensures.ok) c.in-Ok.ensures.next
    (rw body at c.in-Ok-write_data.ensures.ok) (rw body at c.in-Ok-write_data.ensures.counted) c.in-Ok-write_end.ensures.ok
