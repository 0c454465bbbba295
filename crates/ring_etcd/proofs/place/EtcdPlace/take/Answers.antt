use Rattle.std.proofs.Common.{ℕ, List, ap, subst, ◌∙◌}
use Rattle.std.specs.Prelude.{[], string_bytes}
use Rattle.ring_etcd.specs.Readings.{IsTakenBy}
use Rattle.ring_etcd.specs.declared.keys.Keys.{Keys}
use Rattle.ring_etcd.proofs.place.EtcdPlace.take.Goals as goal

pub returns : goal.returns
returns g c =
    let old = ap (λ (k : Keys). string_bytes k.name) c.in_ok-identity.ensures.keys ∙ c.in_ok-store.ensures in
    record {
      has_name = ap (λ (k : Keys). string_bytes k.name) c.in_ok-base.ensures.keys ∙ old;
      was_taken = subst (λ (n : List ℕ). IsTakenBy n c.in_ok-base.base.text c.in_ok-base.base.pieces c.in_ok-identity.field-0.0 c.in_ok-base.next [] c.taken_over.new.found.items) old c.in_ok-base.ensures.taken;
    }
