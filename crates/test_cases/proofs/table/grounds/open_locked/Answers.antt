use denote.Param.Send.{sendable}
use Rattle.test_cases.proofs.Crossing.{locked_seat_send}
use Rattle.test_cases.proofs.table.grounds.open_locked.Goals as goal

-- its seats may go to threads
pub open-requires-send-A-Seat : goal.open-requires-send-A-Seat
open-requires-send-A-Seat g c κs within = search (sendable, locked_seat_send) depth 20
