use Rattle.test_cases.proofs.table.election_rows.are_known.Given as goal

-- the seat stays one of the access
abbrev pub invariant-loop-node : goal.invariant-loop-node
invariant-loop-node g l = g.A.Access.has_seat l.fn.access l.seat
