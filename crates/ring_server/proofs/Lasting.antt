-- A table over a journal may be shared among threads if its medium may.
use denote.RattleType.{RattleType}
use denote.Param.Send.{AllSync, IsSync, recorded_sync, sendable, struct_sync, view_sync}
use denote.Struct.Declared.{Declared, shape}
use denote.Struct.Struct.{Struct}
use Rattle.std.proofs.Crossing.{crosses, Vec-sync}
use Rattle.ring_any.specs.contracts.any.Any as any
use Rattle.ring_any.specs.contracts.any.AnyMsg as message
use Rattle.ring_any.specs.contracts.any.AnyState as state
use Rattle.ring_any.specs.contracts.any.AnyRingElection.TheImpl as election
use Rattle.ring_any.specs.contracts.any.AnyPartialEq.TheImpl as same
use Rattle.ring_any.specs.contracts.any.AnyMsgPartialEq.TheImpl as same_message
use Rattle.ring_any.proofs.any.Any.TheSendSync as any_crosses
use Rattle.ring_journal.specs.declared.medium.Medium as medium
use Rattle.ring_journal.proofs.journal.Journal.TheSendSync as journal_crosses
use Rattle.ring_change.proofs.check.Check.TheSendSync as check_crosses
use Rattle.ring_table.specs.contracts.recorded.Recorded as recorded
use Rattle.ring_table.specs.contracts.recorder.Unkept as unkept
use Rattle.ring_table.proofs.recorded.Recorded.TheSendSync as recorded_crosses
use Rattle.ring_recovery.specs.contracts.written.Written as written
use Rattle.ring_recovery.specs.contracts.written.WrittenRecorderAny.TheImpl as recorder
use Rattle.ring_recovery.proofs.alarm.Alarm.TheSendSync as alarm_crosses
use Rattle.ring_recovery.proofs.life.Life.TheSendSync as life_crosses

abbrev no_history : RattleType
no_history = unkept.the_row any.the_row

unkept_sync : IsSync no_history
unkept_sync =
    let T : Declared = unkept.TheInside.the_type any.the_row in
    let fields : AllSync (shape T).fields = (Vec-sync _ (search (sendable, crosses) depth 20), tt) in
    let inside : IsSync (unkept.TheInside.the_row any.the_row) = recorded_sync (Struct (shape T)) T.D T.to T.to_one (struct_sync (shape T) fields) in
    view_sync (unkept.TheInside.the_row any.the_row) _ _ _ _ inside

-- a recorder on a medium
written_sync : (D : RattleType) (m : medium.Ghosts D.Denot) → IsSync D → IsSync (written.the_row D m)
written_sync D m sync =
    let T : Declared = written.TheInside.the_type D m in
    let fields : AllSync (shape T).fields = (unkept_sync, (journal_crosses.the_sync D m sync, (check_crosses.the_sync, (search sendable, (life_crosses.the_sync, (search sendable, (search sendable, (search (crosses, alarm_crosses.the_send, alarm_crosses.the_sync), tt)))))))) in
    let inside : IsSync (written.TheInside.the_row D m) = recorded_sync (Struct (shape T)) T.D T.to T.to_one (struct_sync (shape T) fields) in
    view_sync (written.TheInside.the_row D m) _ _ _ _ inside

-- a table over such a recorder
abbrev over : (D : RattleType) → medium.Ghosts D.Denot → RattleType
over D m = recorded.the_row any.the_row (written.the_row D m) message.the_row state.the_row election.ghosts same.ghosts same_message.ghosts (recorder.ghosts D m recorder.no_dict recorder.no_dict)

pub written_table_sync : (D : RattleType) (m : medium.Ghosts D.Denot) → IsSync D → IsSync (over D m)
written_table_sync D m sync =
    recorded_crosses.the_sync any.the_row (written.the_row D m) message.the_row state.the_row election.ghosts same.ghosts same_message.ghosts (recorder.ghosts D m recorder.no_dict recorder.no_dict) any_crosses.the_send any_crosses.the_sync (written_sync D m sync)
