-- A medium that is counted may go to another thread, or be shared, if the medium and its clock may.
use denote.RattleType.{RattleType}
use denote.Param.Send.{AllSend, AllSync, IsSend, IsSync, recorded_send, recorded_sync, struct_send, struct_sync, view_send, view_sync}
use denote.Struct.Declared.{Declared, shape}
use denote.Struct.Struct.{Struct}
use Rattle.std.proofs.Crossing.{crosses}
use Rattle.ring_journal.specs.declared.medium.Medium as medium
use Rattle.ring_server.specs.contracts.metering.Metered as metered
use Rattle.ring_server.proofs.metering.Meter.TheSendSync as meter_crosses

module _ (D R : RattleType) (m : medium.Ghosts D.Denot) where
  pub metered_send : IsSend D → IsSend R → IsSend (metered.the_row D R m)
  metered_send send clock =
      let T : Declared = metered.TheInside.the_type D R m in
      let fields : AllSend (shape T).fields = (send, (clock, (search (crosses, meter_crosses.the_send, meter_crosses.the_sync), tt))) in
      let inside : IsSend (metered.TheInside.the_row D R m) = recorded_send (Struct (shape T)) T.D T.to T.to_one (struct_send (shape T) fields) in
      view_send (metered.TheInside.the_row D R m) _ _ _ _ inside

  pub metered_sync : IsSync D → IsSync R → IsSync (metered.the_row D R m)
  metered_sync sync clock =
      let T : Declared = metered.TheInside.the_type D R m in
      let fields : AllSync (shape T).fields = (sync, (clock, (search (crosses, meter_crosses.the_send, meter_crosses.the_sync), tt))) in
      let inside : IsSync (metered.TheInside.the_row D R m) = recorded_sync (Struct (shape T)) T.D T.to T.to_one (struct_sync (shape T) fields) in
      view_sync (metered.TheInside.the_row D R m) _ _ _ _ inside
