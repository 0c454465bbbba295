-- A recorder may cross to another thread if its medium may, and so may a table over it.
use denote.RattleType.{RattleType}
use denote.Param.Send.{AllSend, IsSend, recorded_send, sendable, struct_send, view_send}
use denote.Struct.Declared.{Declared, shape}
use denote.Struct.Struct.{Struct}
use Rattle.std.proofs.Crossing.{crosses}
use Rattle.ring_any.specs.contracts.any.Any as any
use Rattle.ring_any.specs.contracts.any.AnyMsg as message
use Rattle.ring_any.specs.contracts.any.AnyState as state
use Rattle.ring_any.specs.contracts.any.AnyRingElection.TheImpl as election
use Rattle.ring_any.specs.contracts.any.AnyPartialEq.TheImpl as same
use Rattle.ring_any.specs.contracts.any.AnyMsgPartialEq.TheImpl as same_message
use Rattle.ring_any.proofs.any.Any.TheSendSync as any_crosses
use Rattle.ring_journal.specs.declared.medium.Medium as medium
use Rattle.ring_journal.proofs.journal.Journal.TheSendSync as journal_crosses
use Rattle.ring_change.proofs.check.Check.TheSendSync as check_crosses
use Rattle.ring_table.specs.contracts.recorded.Recorded as recorded
use Rattle.ring_table.specs.contracts.recorder.Unkept as unkept
use Rattle.ring_table.proofs.recorded.Recorded.TheSendSync as recorded_crosses
use Rattle.ring_recovery.specs.contracts.written.Written as written
use Rattle.ring_recovery.specs.contracts.written.WrittenRecorderAny.TheImpl as recorder
use Rattle.ring_recovery.proofs.alarm.Alarm.TheSendSync as alarm_crosses
use Rattle.ring_recovery.proofs.life.Life.TheSendSync as life_crosses

abbrev no_history : RattleType
no_history = unkept.the_row any.the_row

unkept_send : IsSend no_history
unkept_send =
    let T : Declared = unkept.TheInside.the_type any.the_row in
    let fields : AllSend (shape T).fields = search crosses depth 20 in
    let inside : IsSend (unkept.TheInside.the_row any.the_row) = recorded_send (Struct (shape T)) T.D T.to T.to_one (struct_send (shape T) fields) in
    view_send (unkept.TheInside.the_row any.the_row) _ _ _ _ inside

-- a recorder on a medium
pub written_send : (D : RattleType) (m : medium.Ghosts D.Denot) → IsSend D → IsSend (written.the_row D m)
written_send D m send =
    let T : Declared = written.TheInside.the_type D m in
    let fields : AllSend (shape T).fields = (unkept_send, (journal_crosses.the_send D m send, (check_crosses.the_send, (search sendable, (life_crosses.the_send, (search sendable, (search sendable, (search (crosses, alarm_crosses.the_send, alarm_crosses.the_sync), tt)))))))) in
    let inside : IsSend (written.TheInside.the_row D m) = recorded_send (Struct (shape T)) T.D T.to T.to_one (struct_send (shape T) fields) in
    view_send (written.TheInside.the_row D m) _ _ _ _ inside

-- a table over such a recorder
abbrev over : (D : RattleType) → medium.Ghosts D.Denot → RattleType
over D m = recorded.the_row any.the_row (written.the_row D m) message.the_row state.the_row election.ghosts same.ghosts same_message.ghosts (recorder.ghosts D m recorder.no_dict recorder.no_dict)

pub written_table_send : (D : RattleType) (m : medium.Ghosts D.Denot) → IsSend D → IsSend (over D m)
written_table_send D m send =
    recorded_crosses.the_send any.the_row (written.the_row D m) message.the_row state.the_row election.ghosts same.ghosts same_message.ghosts (recorder.ghosts D m recorder.no_dict recorder.no_dict) any_crosses.the_send (written_send D m send) any_crosses.the_sync
