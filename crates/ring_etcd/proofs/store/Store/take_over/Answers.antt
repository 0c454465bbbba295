use Rattle.std.proofs.Common.{refl, subst, ◌∙◌}
use Rattle.std.specs.Prelude.{string_bytes}
use Rattle.ring_etcd.specs.Readings.{AreEntries}
use Rattle.ring_etcd.specs.declared.keys.Keys.{Keys}
use Rattle.ring_etcd.specs.Bases.{base_text}
use Rattle.ring_etcd.proofs.Gathering.{entries_behind, no_entries, put_behind}
use Rattle.ring_etcd.proofs.store.Store.take_over.Goals as goal

pub loop-init : goal.loop-init
loop-init g c = record {
  keys = refl;
  read = no_entries (string_bytes c.args.self.now.keys.name) c.args.base.text c.args.next c.args.found.now.items;
}

pub loop-preserved : goal.loop-preserved
loop-preserved g c = record {
  keys = c.in_ok-next-in-Other.ensures.keys ∙ c.in_ok-put_entry.ensures.keys ∙ c.loop.invariant.keys;
  read = entries_behind (string_bytes c.args.self.now.keys.name) c.args.base.text c.args.next c.loop.next c.in_ok-next-in-Other.next
      c.args.found.now.items c.loop.found.items c.read_entries.new.found.items c.loop.invariant.read
      (subst (λ (k : Keys). AreEntries (string_bytes k.name) c.args.base.text c.loop.next c.in_ok-next-in-Other.next c.loop.found.items c.read_entries.new.found.items)
      (c.in_ok-put_entry.ensures.keys ∙ c.loop.invariant.keys) c.in_ok-next-in-Other.ensures.read);
}

pub returns-in-Ours-clause-put : goal.returns-in-Ours-clause-put
returns-in-Ours-clause-put g c =
    put_behind (string_bytes c.args.self.now.keys.name) c.args.base.text (base_text c.args.base.text c.args.base.pieces) c.args.mark.now
    c.args.next c.loop.next c.in_ok-after-in-Ours.field-0 c.args.found.now.items c.loop.found.items c.in_ok-put_entry.field-0
    c.in_ok-put_entry.ensures.told.reads.json c.loop.invariant.read c.in_ok-put_entry.ensures.told.reads.says c.in-Ours.is
    c.in_ok-after-in-Ours.ensures
