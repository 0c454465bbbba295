use denote.Param.Send.{sendable}
use Rattle.test_cases.proofs.Crossing.{locked_seat_send}
use Rattle.test_cases.proofs.table.sharing_rows.two_sessions_share_a_locked_table.Goals as goal

-- its seats may go to threads
pub share-access-requires-send-A-Seat : goal.share-access-requires-send-A-Seat
share-access-requires-send-A-Seat g c κs = search (sendable, locked_seat_send) depth 20
