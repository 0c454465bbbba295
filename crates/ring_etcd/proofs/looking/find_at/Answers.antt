use Rattle.std.proofs.Common.{List, ℕ, subst}
use Rattle.std.specs.Prelude.{string_bytes}
use Rattle.ring_etcd.specs.Readings.{IsRead}
use Rattle.ring_etcd.proofs.looking.find_at.Goals as goal

pub returns-in_ok-counts-in-Ok-clause-found : goal.returns-in_ok-counts-in-Ok-clause-found
returns-in_ok-counts-in-Ok-clause-found g c = λ yes. record {
  next = c.in-Ok._next;
  was_read = subst (λ (old : List ℕ). IsRead (string_bytes c.args.store.now.keys.name) c.args.base.text c.args.base.pieces c.in-Ok._next old c.read.new.found.items)
      c.clear.ensures.items c.in-Ok.ensures.read;
  reply = c.in_ok-counts-in-Ok.ensures.told.reads.json;
  counts = c.in_ok-counts-in-Ok.ensures.told.reads.says yes;
}
