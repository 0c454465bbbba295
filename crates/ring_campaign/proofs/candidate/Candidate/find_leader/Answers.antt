-- A start, where the leader is no member any more.
use Rattle.std.proofs.Common.{inl, sym, ◌∙◌}
use Rattle.ring_campaign.proofs.Looking.{seeks_start}
use Rattle.ring_campaign.proofs.candidate.Candidate.find_leader.Goals as goal

pub returns-in-Some-false-clause-seeks : goal.returns-in-Some-false-clause-seeks
returns-in-Some-false-clause-seeks g c =
    let says = c.in-Some-false.ensures in
    seeks_start _ _ _ _ _ _ _ _ _ says.0 (sym says.2 ∙ c.in-Some-false.field-0-test) (rw says.1 at c.in-Some.ensures.asks) c.start.ensures.starts

pub returns-in-Some-true-clause-seeks : goal.returns-in-Some-true-clause-seeks
returns-in-Some-true-clause-seeks g c =
    let says = c.in-Some-true.ensures in
    inl (record { members = says.0; such = sym says.2 ∙ c.in-Some-true.field-0-test; gained = rw says.1 at c.in-Some.ensures.asks })
