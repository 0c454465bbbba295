use Rattle.std.proofs.Common.{◌∙◌}
use Rattle.ring_etcd.proofs.Telling.{told_switched}
use Rattle.ring_etcd.proofs.store.Store.switch.Goals as goal

pub returns : goal.returns
returns g c = record {
  is_next = c.in_ok-said.ensures.ok.is_next;
  reads = record {
    json = c.in_ok-said.ensures.ok.reads.json;
    is_read = c.in_ok-said.ensures.ok.reads.is_read;
    says = λ yes. told_switched _ _ _ _ c.in_ok-said.ensures.ok.reads.says
        (c.as_bytes.ensures.value ∙ c.as_str-2.ensures.value ∙ c.in_ok-value.ensures)
        (c.is_base.ensures.0 yes);
  };
}
