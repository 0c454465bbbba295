-- The medium on etcd and a lease may go to another thread, or be shared, if their handle of sockets
-- and clocks may.
use denote.RattleType.{RattleType}
use denote.Param.Send.{AllSend, AllSync, IsSend, IsSync, recorded_send, recorded_sync, sendable, struct_send, struct_sync, view_send, view_sync}
use denote.Struct.Declared.{Declared, shape}
use denote.Struct.Struct.{Struct}
use Rattle.std.proofs.Crossing.{crosses}
use Rattle.ring_etcd.specs.declared.engine.Engine as engine
use Rattle.ring_etcd.specs.contracts.etcd.Etcd as etcd
use Rattle.ring_etcd.specs.contracts.lease.Lease as lease
use Rattle.ring_etcd.specs.contracts.medium.EtcdMedium as medium
use Rattle.ring_etcd.proofs.base.Base.TheSendSync as base_crosses
use Rattle.ring_etcd.proofs.medium.Standing.TheSendSync as standing_crosses
use Rattle.ring_etcd.proofs.store.Store.TheSendSync as store_crosses

pub etcd_send : (R : RattleType) → IsSend R → IsSend (etcd.the_row R)
etcd_send R send =
    let T : Declared = etcd.TheInside.the_type R in
    let fields : AllSend (shape T).fields = (store_crosses.the_field_send R send, (base_crosses.the_field_send, search (sendable, crosses) depth 20)) in
    let inside : IsSend (etcd.TheInside.the_row R) = recorded_send (Struct (shape T)) T.D T.to T.to_one (struct_send (shape T) fields) in
    view_send (etcd.TheInside.the_row R) _ _ _ _ inside

pub etcd_sync : (R : RattleType) → IsSync R → IsSync (etcd.the_row R)
etcd_sync R sync =
    let T : Declared = etcd.TheInside.the_type R in
    let fields : AllSync (shape T).fields = (store_crosses.the_field_sync R sync, (base_crosses.the_field_sync, search (sendable, crosses) depth 20)) in
    let inside : IsSync (etcd.TheInside.the_row R) = recorded_sync (Struct (shape T)) T.D T.to T.to_one (struct_sync (shape T) fields) in
    view_sync (etcd.TheInside.the_row R) _ _ _ _ inside

pub lease_send : (R : RattleType) → IsSend R → IsSend (lease.the_row R)
lease_send R send =
    let T : Declared = lease.TheInside.the_type R in
    let fields : AllSend (shape T).fields = (store_crosses.the_field_send R send, search (sendable, crosses) depth 20) in
    let inside : IsSend (lease.TheInside.the_row R) = recorded_send (Struct (shape T)) T.D T.to T.to_one (struct_send (shape T) fields) in
    view_send (lease.TheInside.the_row R) _ _ _ _ inside

module _ (E : RattleType) (g : engine.Ghosts E.Denot) where
  pub medium_send : IsSend E → IsSend (medium.the_row E g)
  medium_send send =
      let T : Declared = medium.TheInside.the_type E g in
      let fields : AllSend (shape T).fields = (send, search (sendable, crosses, standing_crosses.the_send, standing_crosses.the_sync) depth 20) in
      let inside : IsSend (medium.TheInside.the_row E g) = recorded_send (Struct (shape T)) T.D T.to T.to_one (struct_send (shape T) fields) in
      view_send (medium.TheInside.the_row E g) _ _ _ _ inside

  pub medium_sync : IsSync E → IsSync (medium.the_row E g)
  medium_sync sync =
      let T : Declared = medium.TheInside.the_type E g in
      let fields : AllSync (shape T).fields = (sync, search (sendable, crosses, standing_crosses.the_send, standing_crosses.the_sync) depth 20) in
      let inside : IsSync (medium.TheInside.the_row E g) = recorded_sync (Struct (shape T)) T.D T.to T.to_one (struct_sync (shape T) fields) in
      view_sync (medium.TheInside.the_row E g) _ _ _ _ inside
