use Rattle.ring_etcd.proofs.keys.Keys.first_base_request.Goals as goal

pub returns : goal.returns
returns c =
    simp (
      c.as_str.ensures.value,
      c.as_str-2.ensures.value,
      c.as_str-3.ensures.value,
      c.as_str-4.ensures.value,
      c.in_ok-key.ensures,
      c.in_ok-value.ensures,
      c.in_ok-from.ensures,
      c.in_ok-to.ensures,
    ) at c.put_first.ensures
