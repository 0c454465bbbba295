-- The medium on a file may go to another thread if the handle that replaces its file may go there.
use denote.RattleType.{RattleType}
use denote.Param.Send.{AllSend, AllSync, IsSend, IsSync, recorded_send, recorded_sync, sendable, struct_send, struct_sync, view_send, view_sync}
use denote.Struct.Declared.{Declared, shape}
use denote.Struct.Struct.{Struct}
use Rattle.std.proofs.Crossing.{crosses}
use Rattle.ring_file.specs.contracts.medium.FileMedium as medium

pub file_send : (R : RattleType) → IsSend R → IsSend (medium.the_row R)
file_send R send =
    let T : Declared = medium.TheInside.the_type R in
    let fields : AllSend (shape T).fields = (send, search (sendable, crosses) depth 20) in
    let inside : IsSend (medium.TheInside.the_row R) = recorded_send (Struct (shape T)) T.D T.to T.to_one (struct_send (shape T) fields) in
    view_send (medium.TheInside.the_row R) _ _ _ _ inside

pub file_sync : (R : RattleType) → IsSync R → IsSync (medium.the_row R)
file_sync R sync =
    let T : Declared = medium.TheInside.the_type R in
    let fields : AllSync (shape T).fields = (sync, search (sendable, crosses) depth 20) in
    let inside : IsSync (medium.TheInside.the_row R) = recorded_sync (Struct (shape T)) T.D T.to T.to_one (struct_sync (shape T) fields) in
    view_sync (medium.TheInside.the_row R) _ _ _ _ inside
