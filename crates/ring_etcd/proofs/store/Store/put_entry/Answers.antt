use Rattle.std.proofs.Common.{◌∙◌}
use Rattle.ring_etcd.proofs.Telling.{told_put}
use Rattle.ring_etcd.proofs.store.Store.put_entry.Goals as goal

pub returns-clause-told : goal.returns-clause-told
returns-clause-told g c = record {
  is_next = c.in_ok-said.ensures.ok.is_next;
  reads = record {
    json = c.in_ok-said.ensures.ok.reads.json;
    is_read = c.in_ok-said.ensures.ok.reads.is_read;
    says = told_put _ _ _ _ _ _ c.in_ok-said.ensures.ok.reads.says
        (c.as_bytes.ensures.value ∙ c.as_str-2.ensures.value ∙ c.in_ok-counts.ensures) c.put_of.ensures;
  };
}
