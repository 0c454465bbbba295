use Rattle.ring_turn.proofs.Sharing.{table_sync}
use Rattle.test_cases.proofs.table.thread_rows.two_threads_take_turns.Goals as goal

-- the lock may be shared among threads
pub join_in_two-first-requires-sync-L : goal.join_in_two-first-requires-sync-L
join_in_two-first-requires-sync-L g c κs = record { shared = table_sync.shared }
