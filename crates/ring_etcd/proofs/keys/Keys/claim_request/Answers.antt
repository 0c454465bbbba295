use Rattle.ring_etcd.proofs.keys.Keys.claim_request.Goals as goal

pub returns : goal.returns
returns c =
    simp (
      c.as_str.ensures.value,
      c.as_str-2.ensures.value,
      c.in_ok-key.ensures,
      c.in_ok-value.ensures,
    ) at c.claim.ensures
