use Rattle.std.proofs.Common.{subst, ◌∙◌}
use Rattle.std.specs.Prelude.{IfOk, IfSome, string_bytes}
use Rattle.ring_etcd.specs.declared.keys.Keys.{Keys}
use Rattle.ring_etcd.specs.private.Taking.{IsPutBehind}
use Rattle.ring_etcd.proofs.Gathering.{taken_is}
use Rattle.ring_etcd.proofs.place.taken.Goals as goal

pub returns-in-Ok-clause-taken : goal.returns-in-Ok-clause-taken
returns-in-Ok-clause-taken g c =
    taken_is c.take_over.result (string_bytes c.args.store.now.keys.name) c.args.base.text c.args.base.pieces
    c.args.identity c.in-Ok.next c.as_bytes.result.now c.args.found.now.items c.read.new.found.items c.take_over.new.found.items
    c.in-Ok.ensures.read (c.as_bytes.ensures.value ∙ c.as_str.ensures.value ∙ c.in_ok-mark.ensures.ok)
    (subst (λ (k : Keys). IfOk c.take_over.result (λ put. IfSome put (λ next. IsPutBehind (string_bytes k.name) c.args.base.text c.as_bytes.result.now c.in-Ok.next next c.read.new.found.items c.take_over.new.found.items)))
    c.in-Ok.ensures.keys c.take_over.ensures.put)
