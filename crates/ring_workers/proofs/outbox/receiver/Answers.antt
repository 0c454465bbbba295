use Rattle.std.proofs.Common.{sym, ap, ◌∙◌, subst}
use Rattle.std.specs.Prelude.{IsSome}
use Rattle.ring_workers.proofs.Posting.{is_within}
use Rattle.ring_workers.proofs.Sending.{receiver_found}
use Rattle.ring_workers.proofs.outbox.receiver.Goals as goal

pub unwrap-requires : goal.unwrap-requires
unwrap-requires g c = subst (λ o. IsSome o) (sym c.at.ensures.value) (is_within c.roster-ring.result.now c.neighbour-position.result c.neighbour-position.ensures.inside)

pub returns : goal.returns
returns g c =
    receiver_found c.args.envelope.now c.roster-ring.result.now c.neighbour-position.result c.from.result c.side.result c.at.result c.unwrap.result
    (c.roster-ring.ensures ∙ ap (λ ch. ch.roster) (c.deref.ensures ∙ c.charter.ensures)) c.from.ensures c.side.ensures c.neighbour-position.ensures.value c.at.ensures.value c.unwrap.ensures
