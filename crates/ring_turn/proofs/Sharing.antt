-- A lock over a table of the algorithms of this repository may be shared among threads, as programs and tests share it.
use denote.RattleType.{RattleType}
use denote.Param.Send.{AllSend, IsSend, IsSync, recorded_send, struct_send, view_send}
use denote.Struct.Declared.{Declared, shape}
use denote.Struct.Struct.{Struct}
use Rattle.std.proofs.Crossing.{crosses}
use Rattle.std.below.core.specs.contracts.clone.Clone+copy.TheImpl as copy
use Rattle.ring_any.specs.contracts.any.Any as any
use Rattle.ring_any.specs.contracts.any.AnyMsg as message
use Rattle.ring_any.specs.contracts.any.AnyState as state
use Rattle.ring_any.specs.contracts.any.AnyRingElection.TheImpl as election
use Rattle.ring_any.specs.contracts.any.AnyPartialEq.TheImpl as same
use Rattle.ring_any.specs.contracts.any.AnyMsgPartialEq.TheImpl as same_message
use Rattle.ring_any.proofs.any.Any.TheSendSync as any_crosses
use Rattle.ring_table.specs.contracts.table.Table as table
use Rattle.ring_table.proofs.table.Table.TheSendSync as table_crosses
use Rattle.ring_table.specs.declared.recorder.Recorder as recorder_of
use Rattle.ring_table.specs.declared.tabled.Tabled as tabled
use Rattle.ring_table.specs.contracts.tabled.TableTabled.TheImpl as table_tabled
use Rattle.ring_table.specs.contracts.recorded.Recorded as recorded
use Rattle.ring_table.proofs.recorded.Recorded.TheSendSync as recorded_crosses
use Rattle.ring_table.specs.contracts.recorder.Unkept as unkept
use Rattle.ring_table.specs.contracts.recorder.UnkeptRecorder.TheImpl as recorder
use Rattle.ring_table.specs.contracts.tabled.RecordedTabled.TheImpl as recorded_tabled
use Rattle.ring_turn.specs.contracts.lock.TurnLock as lock
use Rattle.ring_turn.proofs.Crossing.{lock_sync}

-- a lock over a table of this type
abbrev over : (T : RattleType) → tabled.Ghosts T.Denot any.the_row.Denot message.the_row.Denot state.the_row.Denot → RattleType
over T shows = lock.the_row any.the_row T message.the_row state.the_row election.ghosts (copy.ghosts any.the_row) (record {}) same.ghosts (copy.ghosts message.the_row) (record {}) same_message.ghosts shows

-- a lock may be shared where its table may cross to another thread
pub any_sync : (T : RattleType) (shows : tabled.Ghosts T.Denot any.the_row.Denot message.the_row.Denot state.the_row.Denot) → IsSend T → IsSync (over T shows)
any_sync T shows send = lock_sync any.the_row T message.the_row state.the_row election.ghosts (copy.ghosts any.the_row) (record {}) same.ghosts (copy.ghosts message.the_row) (record {}) same_message.ghosts shows send

abbrev the_table : RattleType
the_table = table.the_row any.the_row message.the_row state.the_row election.ghosts same.ghosts same_message.ghosts

pub table_send : IsSend the_table
table_send = table_crosses.the_send any.the_row message.the_row state.the_row election.ghosts same.ghosts same_message.ghosts any_crosses.the_send any_crosses.the_sync

-- what contracts see of such a table
abbrev kept_shows : tabled.Ghosts the_table.Denot any.the_row.Denot message.the_row.Denot state.the_row.Denot
kept_shows = table_tabled.ghosts any.the_row message.the_row state.the_row election.ghosts table_tabled.no_dict (copy.ghosts any.the_row) table_tabled.no_dict (record {}) table_tabled.no_dict same.ghosts table_tabled.no_dict (copy.ghosts message.the_row) table_tabled.no_dict (record {}) table_tabled.no_dict same_message.ghosts table_tabled.no_dict table_tabled.no_dict

-- a lock over a table that keeps its history
pub table_sync : IsSync (over the_table kept_shows)
table_sync = any_sync the_table kept_shows table_send

abbrev no_history : RattleType
no_history = unkept.the_row any.the_row

unkept_send : IsSend no_history
unkept_send =
    let T : Declared = unkept.TheInside.the_type any.the_row in
    let fields : AllSend (shape T).fields = search crosses depth 20 in
    let inside : IsSend (unkept.TheInside.the_row any.the_row) = recorded_send (Struct (shape T)) T.D T.to T.to_one (struct_send (shape T) fields) in
    view_send (unkept.TheInside.the_row any.the_row) _ _ _ _ inside

abbrev records : recorder_of.Ghosts no_history.Denot any.the_row.Denot message.the_row.Denot state.the_row.Denot
records = recorder.ghosts any.the_row message.the_row state.the_row election.ghosts recorder.no_dict (copy.ghosts any.the_row) recorder.no_dict (record {}) recorder.no_dict same.ghosts recorder.no_dict (copy.ghosts message.the_row) recorder.no_dict (record {}) recorder.no_dict same_message.ghosts recorder.no_dict recorder.no_dict

abbrev the_recorded : RattleType
the_recorded = recorded.the_row any.the_row no_history message.the_row state.the_row election.ghosts same.ghosts same_message.ghosts records

pub unkept_table_send : IsSend the_recorded
unkept_table_send = recorded_crosses.the_send any.the_row no_history message.the_row state.the_row election.ghosts same.ghosts same_message.ghosts records any_crosses.the_send unkept_send any_crosses.the_sync

-- what contracts see of such a table
abbrev unkept_shows : tabled.Ghosts the_recorded.Denot any.the_row.Denot message.the_row.Denot state.the_row.Denot
unkept_shows = recorded_tabled.ghosts any.the_row no_history message.the_row state.the_row election.ghosts recorded_tabled.no_dict (copy.ghosts any.the_row) recorded_tabled.no_dict (record {}) recorded_tabled.no_dict same.ghosts recorded_tabled.no_dict (copy.ghosts message.the_row) recorded_tabled.no_dict (record {}) recorded_tabled.no_dict same_message.ghosts recorded_tabled.no_dict records recorded_tabled.no_dict recorded_tabled.no_dict recorded_tabled.no_dict

-- a lock over a table that keeps none
pub unkept_table_sync : IsSync (over the_recorded unkept_shows)
unkept_table_sync = any_sync the_recorded unkept_shows unkept_table_send
