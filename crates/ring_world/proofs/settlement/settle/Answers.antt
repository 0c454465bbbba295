-- All positions are settled, and so every node of the charter knows; a shared position never is.
use Rattle.std.proofs.Common.{refl}
use Rattle.ring_world.proofs.Settlements.{settled_knows, settled_reports, shared_unsettled}
use Rattle.ring_world.proofs.settlement.settle.Goals as goal

pub are_settled-requires : goal.are_settled-requires
are_settled-requires g c = c.in-Some.ensures.places

pub returns-in-Some-clause-settled : goal.returns-in-Some-clause-settled
returns-in-Some-clause-settled g c = (λ same. c.if-are_settled.ensures.settled.0 refl, λ settled. refl)

pub returns-in-Some-clause-knows : goal.returns-in-Some-clause-knows
returns-in-Some-clause-knows g c = λ answer.
    let charter = c.args.charter.now in
    settled_knows g.E.RingElection.table g.E.RingElection.fits g.E.RingElection.winner charter c.args.nodes.now
    (g.met.E.RingElection.deciding charter.algorithm)
    (g.met.E.RingElection.lawful charter.algorithm).start_undecided
    c.if-are_settled.ensures.ring
    c.in-Some.ensures.faithful
    (c.if-are_settled.ensures.settled.0 refl)

pub returns-in-Some-clause-reports : goal.returns-in-Some-clause-reports
returns-in-Some-clause-reports g c = λ answer.
    settled_reports g.E.RingElection.table g.E.RingElection.fits g.E.RingElection.winner c.args.charter.now c.args.nodes.now
    (c.if-are_settled.ensures.settled.0 refl)
    (returns-in-Some-clause-knows g c answer)

pub returns-in_default-clause-settled : goal.returns-in_default-clause-settled
returns-in_default-clause-settled g c = (λ never. cc, λ settled. let never = c.if-are_settled.ensures.settled.1 settled in cc)

pub returns-in_default-clause-knows : goal.returns-in_default-clause-knows
returns-in_default-clause-knows g c = λ never. cc

pub returns-in_default-clause-reports : goal.returns-in_default-clause-reports
returns-in_default-clause-reports g c = λ never. cc

pub returns-in_default-2-clause-settled : goal.returns-in_default-2-clause-settled
returns-in_default-2-clause-settled g c =
    let shared = rw c.in_default.is at c.of.ensures.places in
    (λ never. cc, λ settled. absurd (shared_unsettled g.E.RingElection.table c.args.charter.now c.args.nodes.now shared settled))

pub returns-in_default-2-clause-knows : goal.returns-in_default-2-clause-knows
returns-in_default-2-clause-knows g c = λ never. cc

pub returns-in_default-2-clause-reports : goal.returns-in_default-2-clause-reports
returns-in_default-2-clause-reports g c = λ never. cc
