use Rattle.std.proofs.Common.{◌≡◌, ◌++◌, List, drop}
use Rattle.ring_any.specs.declared.any.Any.{Any}
use Rattle.ring_table.specs.declared.entry.Entry.{Entry}
use Rattle.ring_campaign.specs.Clearing.{ClearsGroups}
use Rattle.ring_campaign.proofs.caller.Caller.clear_groups.Given as goal

-- The groups so far are cleared: what clears the rest completes it.
abbrev pub invariant-loop-name : goal.invariant-loop-name
invariant-loop-name g l = record {
  has : g.A.Access.has_seat l.fn.self.access.now l.seat;
  added : List (Entry Any);
  gained : g.A.Access.mine l.seat ≡ g.A.Access.mine l.fn.seat ++ added;
  completes : (rest : List (Entry Any)) → ClearsGroups l.fn.self.session (drop l.name-index l.names) rest → ClearsGroups l.fn.self.session l.names (added ++ rest);
}
