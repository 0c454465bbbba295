use Rattle.std.proofs.lemmas.Grind.{common_steps}
use Rattle.std.proofs.Common.{arith}
use Rattle.std.specs.Prelude.{string_bytes}
use Rattle.ring_etcd.specs.Keys.{entry_code}
use Rattle.ring_etcd.proofs.Gathering.{next_code, next_entry}
use Rattle.ring_etcd.proofs.store.Store.add_entries.Goals as goal

pub loop-pair-preserved : goal.loop-pair-preserved
loop-pair-preserved g c = record {
  count = omega (arith, c.in_ok-next.ensures, c.loop-pair.invariant.count);
  keys = next_code (entry_code (string_bytes c.args.self.now.keys.name) c.args.text) c.args.page.now c.loop-pair.pair-index
      c.args.next c.loop-pair.next c.pair-item.result c.loop-pair-test.true c.pair-item.is c.loop-pair.invariant.count
      (c.in_ok-is_part.ensures.0 c.if-not-branch.false) c.loop-pair.invariant.keys;
  bytes = next_entry c.args.page.now c.loop-pair.pair-index c.pair-item.result c.deref.result.now c.args.found.now.items
      c.loop-pair.found.items c.add_entry.new.found.items c.loop-pair-test.true c.pair-item.is c.deref.ensures.value
      c.loop-pair.invariant.bytes c.in_ok-add_entry.ensures;
}

pub returns-clause-number : goal.returns-clause-number
returns-clause-number g c = grind (arith, common_steps)

pub returns-clause-keys : goal.returns-clause-keys
returns-clause-keys g c = grind (arith, common_steps)

pub returns-clause-bytes : goal.returns-clause-bytes
returns-clause-bytes g c = grind (arith, common_steps)
