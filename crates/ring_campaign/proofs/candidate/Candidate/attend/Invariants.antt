use Rattle.std.proofs.Common.{◌≡◌, List, true}
use Rattle.std.specs.List.{list_all}
use Rattle.ring_lines.specs.Ends.{CallsLead, Reading, goes_on}
use Rattle.ring_campaign.specs.declared.attending.Turn.TheVariants as turn
use Rattle.ring_campaign.specs.private.Telling.{HasTurned}
use Rattle.ring_campaign.proofs.candidate.Candidate.attend.Given as goal

-- the turns so far, and the read calls between them
abbrev pub invariant-loop : goal.invariant-loop
invariant-loop g l = record {
  has : g.A.Access.has_seat l.fn.self.caller.access.now l.seat;
  turned : HasTurned g.O.Outlet.write_gives l.fn.self.caller.session l.fn.self.group l.fn.self.number (g.A.Access.mine l.fn.seat) l.fn.writer turn.On l.follows l.last (g.A.Access.mine l.seat) l.writer;
  calls : List Reading;
  led : CallsLead g.I.Intake.read_gives l.fn.reader calls l.reader;
  went_on : list_all goes_on calls ≡ true;
}
