-- The charter that was planned is the one that the term starts with and that the clones have.
use Rattle.ring_table.proofs.Chartering.{plan_allowed, planned_hands, planned_steps}
use Rattle.ring_table.proofs.charters.start_shared.Goals as goal

pub start_planned-requires : goal.start_planned-requires
start_planned-requires g c = record { planned = plan_allowed c.args.group c.args.book.now c.in-Ok.charter.value c.in-Ok.ensures.0 c.in-Ok.ensures.1 }

pub returns-clause-step : goal.returns-clause-step
returns-clause-step g c =
    rw (c.term-term.ensures, c.deref.ensures)
    (planned_steps c.args.group c.args.book.now c.start_planned.new.self c.in-Ok.charter.value c.in-Ok.ensures.1 c.in-Ok-start_planned.ensures.started
    g.E.RingElection.is_two_way g.E.RingElection.is_greatest c.in-Ok.ensures.0)

pub returns-clause-charters : goal.returns-clause-charters
returns-clause-charters g c =
    rw (c.term-term.ensures, c.deref.ensures)
    (planned_hands c.args.group c.args.book.now c.start_planned.new.self c.in-Ok.charter.value c.in-Ok.ensures.1 c.in-Ok-start_planned.ensures.started
    c.args.copies _ c.in-Ok-share.ensures)
