-- A handler of a table may go to a thread: its seat, and the front that all sessions share.
use denote.RattleType.{RattleType}
use denote.Param.Send.{AllSend, AllSync, IsSend, IsSync, recorded_send, recorded_sync, sendable, struct_send, struct_sync, view_send, view_sync}
use denote.Struct.Declared.{Declared, shape}
use denote.Struct.Struct.{Struct}
use Rattle.std.proofs.Crossing.{crosses}
use denote.Ref.{NamedLft}
use Rattle.std.below.core.specs.contracts.clone.Clone+copy.TheImpl as copy
use Rattle.ring_any.specs.contracts.any.Any as any
use Rattle.ring_any.specs.contracts.any.AnyMsg as message
use Rattle.ring_any.specs.contracts.any.AnyState as state
use Rattle.ring_any.specs.contracts.any.AnyRingElection.TheImpl as election
use Rattle.ring_any.specs.contracts.any.AnyPartialEq.TheImpl as same
use Rattle.ring_any.specs.contracts.any.AnyMsgPartialEq.TheImpl as same_message
use Rattle.ring_table.specs.declared.tabled.Tabled as tabled
use Rattle.ring_server.specs.contracts.hosting.CampaignHandler as campaign_handler
use Rattle.ring_server.specs.contracts.sessions.SessionHandler as handler
use Rattle.ring_server.specs.contracts.viewing.Seated as seated
use Rattle.ring_server.specs.contracts.viewing.Viewer as viewer
use Rattle.ring_server.specs.contracts.watched.Watched as watched
use Rattle.ring_server.proofs.watching.Watch.TheSendSync as watch_crosses
use Rattle.ring_turn.specs.contracts.seat.Seat as seat
use Rattle.ring_turn.specs.contracts.lock.TurnLock as lock
use Rattle.ring_turn.proofs.lock.TurnLock.TheSendSync as lock_crosses
use Rattle.ring_turn.proofs.seat.Seat.TheSendSync as seat_crosses
use Rattle.ring_turn.proofs.Sharing.{any_sync}
use Rattle.ring_service.specs.contracts.front.Front as front
use Rattle.ring_service.proofs.front.Front.TheSendSync as front_crosses

module _ (T : RattleType) (shows : tabled.Ghosts T.Denot any.the_row.Denot message.the_row.Denot state.the_row.Denot) where
  pub seat_send : IsSend T → IsSend (seat.the_row any.the_row T message.the_row state.the_row election.ghosts same.ghosts same_message.ghosts shows)
  seat_send send = seat_crosses.the_send any.the_row T message.the_row state.the_row election.ghosts same.ghosts same_message.ghosts shows send

  abbrev the_lock : RattleType
  the_lock = lock.the_row any.the_row T message.the_row state.the_row election.ghosts (copy.ghosts any.the_row) (record {}) same.ghosts (copy.ghosts message.the_row) (record {}) same_message.ghosts shows

  lock_send : IsSend T → IsSend the_lock
  lock_send send = lock_crosses.the_send any.the_row T message.the_row state.the_row election.ghosts (copy.ghosts any.the_row) (record {}) same.ghosts (copy.ghosts message.the_row) (record {}) same_message.ghosts shows send

  abbrev the_access : RattleType
  the_access = watched.the_row T shows

  -- the access to the table may go to a thread
  pub access_send : IsSend T → IsSend the_access
  access_send send =
      let D : Declared = watched.TheInside.the_type T shows in
      let fields : AllSend (shape D).fields = (lock_send send, (search (crosses, watch_crosses.the_send, watch_crosses.the_sync), tt)) in
      let inside : IsSend (watched.TheInside.the_row T shows) = recorded_send (Struct (shape D)) D.D D.to D.to_one (struct_send (shape D) fields) in
      view_send (watched.TheInside.the_row T shows) _ _ _ _ inside

  -- and threads may share it
  pub access_sync : IsSend T → IsSync the_access
  access_sync send =
      let D : Declared = watched.TheInside.the_type T shows in
      let fields : AllSync (shape D).fields = (any_sync T shows send, (search (crosses, watch_crosses.the_send, watch_crosses.the_sync), tt)) in
      let inside : IsSync (watched.TheInside.the_row T shows) = recorded_sync (Struct (shape D)) D.D D.to D.to_one (struct_sync (shape D) fields) in
      view_sync (watched.TheInside.the_row T shows) _ _ _ _ inside

  pub front_sync : IsSend T → IsSync (front.the_row the_access)
  front_sync send = front_crosses.the_sync the_access (access_send send) (access_sync send)

  -- a handler may go to a thread
  pub handler_send : (a : NamedLft) → IsSend T → IsSend (handler.the_row a T shows)
  handler_send a send =
      let fronts = front_sync send in
      let seats = seat_send send in
      let D : Declared = handler.the_type a T shows in
      let fields : AllSend (shape D).fields = (search (crosses, sendable, fronts) depth 20, (seats, search (crosses, sendable, watch_crosses.the_sync) depth 20)) in
      recorded_send (Struct (shape D)) D.D D.to D.to_one (struct_send (shape D) fields)

  -- and so may a handler of campaigns
  pub campaign_send : (a : NamedLft) → IsSend T → IsSend (campaign_handler.the_row a T shows)
  campaign_send a send =
      let fronts = front_sync send in
      let seats = seat_send send in
      let D : Declared = campaign_handler.the_type a T shows in
      let fields : AllSend (shape D).fields = (search (crosses, sendable) depth 20, (search (crosses, sendable, fronts) depth 20, (seats, search (crosses, sendable, watch_crosses.the_sync) depth 20))) in
      recorded_send (Struct (shape D)) D.D D.to D.to_one (struct_send (shape D) fields)

  -- and so may a seat with its front
  pub seated_send : (a : NamedLft) → IsSend T → IsSend (seated.the_row a T shows)
  seated_send a send =
      let fronts = front_sync send in
      let seats = seat_send send in
      let D : Declared = seated.the_type a T shows in
      let fields : AllSend (shape D).fields = search (crosses, sendable, fronts, seats) depth 20 in
      recorded_send (Struct (shape D)) D.D D.to D.to_one (struct_send (shape D) fields)

  -- and so may a viewer
  pub viewer_send : (a : NamedLft) → IsSend T → IsSend (viewer.the_row a T shows)
  viewer_send a send =
      let parts = seated_send a send in
      let D : Declared = viewer.the_type a T shows in
      let fields : AllSend (shape D).fields = search (crosses, sendable, parts, watch_crosses.the_sync) depth 20 in
      recorded_send (Struct (shape D)) D.D D.to D.to_one (struct_send (shape D) fields)
