use Rattle.std.proofs.Common.{◌≡◌, ◌++◌, List, drop}
use Rattle.ring_any.specs.declared.any.Any.{Any}
use Rattle.ring_table.specs.declared.entry.Entry.{Entry}
use Rattle.ring_campaign.specs.Clearing.{LetsGo}
use Rattle.ring_campaign.proofs.caller.Caller.let_go.Given as goal

-- The members so far have left: what takes out the rest completes it.
abbrev pub invariant-loop-member : goal.invariant-loop-member
invariant-loop-member g l = record {
  has : g.A.Access.has_seat l.fn.self.access.now l.seat;
  added : List (Entry Any);
  gained : g.A.Access.mine l.seat ≡ g.A.Access.mine l.fn.seat ++ added;
  completes : (rest : List (Entry Any)) → LetsGo l.fn.self.session l.fn.group (drop l.member-index l.members) rest → LetsGo l.fn.self.session l.fn.group l.members (added ++ rest);
}
