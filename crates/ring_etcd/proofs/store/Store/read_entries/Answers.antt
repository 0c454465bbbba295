use Rattle.std.proofs.Common.{◌≡◌, refl, subst, ◌∙◌}
use Rattle.std.specs.Prelude.{string_bytes}
use Rattle.ring_etcd.specs.Keys.{codes_from, entry_code}
use Rattle.ring_etcd.specs.declared.keys.Keys.{Keys}
use Rattle.ring_etcd.specs.private.Paging.{keys_of, values_of}
use Rattle.ring_etcd.proofs.Gathering.{more_entries, no_entries}
use Rattle.ring_etcd.proofs.store.Store.read_entries.Goals as goal

pub loop-init : goal.loop-init
loop-init g c = record {
  keys = refl;
  read = no_entries (string_bytes c.args.self.now.keys.name) c.args.base.text c.args.first c.args.found.now.items;
}

pub loop-preserved : goal.loop-preserved
loop-preserved g c = record {
  keys = c.in_ok-page.ensures.keys ∙ c.loop.invariant.keys;
  read = more_entries (string_bytes c.args.self.now.keys.name) c.args.base.text c.args.first c.loop.next c.in_ok-next.next c.args.found.now.items
      c.loop.found.items c.add_entries.new.found.items c.in_ok-page.ensures.pairs.reads.json c.in_ok-page.field-0.pairs.items c.deref.result.now
      c.loop.invariant.read c.in_ok-page.ensures.pairs.reads.says c.deref.ensures.value c.in_ok-next.ensures.number
      (subst (λ (k : Keys). keys_of c.deref.result.now ≡ codes_from (entry_code (string_bytes k.name) c.args.base.text) c.loop.next (values_of c.deref.result.now))
      (c.in_ok-page.ensures.keys ∙ c.loop.invariant.keys) c.in_ok-next.ensures.keys)
      c.in_ok-next.ensures.bytes;
}

pub returns-then-len-lt-PAGE-clause-read : goal.returns-then-len-lt-PAGE-clause-read
returns-then-len-lt-PAGE-clause-read g c =
    more_entries (string_bytes c.args.self.now.keys.name) c.args.base.text c.args.first c.loop.next c.in_ok-next.next c.args.found.now.items
    c.loop.found.items c.add_entries.new.found.items c.in_ok-page.ensures.pairs.reads.json c.in_ok-page.field-0.pairs.items c.deref.result.now
    c.loop.invariant.read c.in_ok-page.ensures.pairs.reads.says c.deref.ensures.value c.in_ok-next.ensures.number
    (subst (λ (k : Keys). keys_of c.deref.result.now ≡ codes_from (entry_code (string_bytes k.name) c.args.base.text) c.loop.next (values_of c.deref.result.now))
    (c.in_ok-page.ensures.keys ∙ c.loop.invariant.keys) c.in_ok-next.ensures.keys)
    c.in_ok-next.ensures.bytes
