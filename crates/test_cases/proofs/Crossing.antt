-- A seat of a locked table may go to another thread.
use denote.RattleType.{RattleType}
use denote.Param.Send.{AllSend, IsSend, recorded_send, struct_send, view_send}
use denote.Struct.Declared.{Declared, shape}
use denote.Struct.Struct.{Struct}
use Rattle.std.proofs.Crossing.{crosses}
use Rattle.ring_any.specs.contracts.any.Any as any
use Rattle.ring_table.specs.contracts.locked.LockedSeat as seat

pub seat_send : (E : RattleType) → IsSend (seat.the_row E)
seat_send E =
    let T : Declared = seat.TheInside.the_type E in
    let fields : AllSend (shape T).fields = search crosses depth 20 in
    let inside : IsSend (seat.TheInside.the_row E) = recorded_send (Struct (shape T)) T.D T.to T.to_one (struct_send (shape T) fields) in
    view_send (seat.TheInside.the_row E) _ _ _ _ inside

pub locked_seat_send : IsSend (seat.the_row any.the_row)
locked_seat_send = seat_send any.the_row
