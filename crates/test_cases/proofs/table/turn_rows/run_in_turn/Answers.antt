use Rattle.std.proofs.Common.{rules, ◌≡◌, []}
use Rattle.ring_turn.specs.Seats.{fresh_seats}
use Rattle.ring_turn.proofs.Returning.{all_are_of_lock}
use Rattle.ring_turn.proofs.Sharing.{table_sync}
use Rattle.test_cases.proofs.table.turn_rows.run_in_turn.Goals as goal

-- the lock may be shared among threads
pub run-requires-sync-A : goal.run-requires-sync-A
run-requires-sync-A g c κs within = record { shared = table_sync.shared }

-- its seats are its own
pub run-requires-clause-seats : goal.run-requires-clause-seats
run-requires-clause-seats g c κs within =
    let fresh : c.in-Ok.seats.items ≡ fresh_seats c.in-Ok.lock.id c.args.turns [] 4 = search rules in
    all_are_of_lock c.in-Ok.lock.id c.args.turns 4 [] c.in-Ok.seats.items fresh
