-- What passes in the circle of the algorithm passes under its kind.
use Rattle.std.proofs.Common.{true, false}
use Rattle.ring_chang.specs.Chang.{chang_table}
use Rattle.ring_hirschberg.specs.Hirschberg.{hirschberg_table}
use Rattle.ring_lelann.specs.LeLann.{lelann_table}
use Rattle.ring_peterson.specs.Peterson.{peterson_table}
use Rattle.ring_any.specs.Any.{any_table}
use Rattle.ring_any.specs.declared.any.Any.TheVariants.{LeLann, Chang, Hirschberg, Peterson}
use Rattle.ring_any.specs.Kinds.{chang_messages, chang_states, hirschberg_messages, hirschberg_states, lelann_messages, lelann_states, peterson_messages, peterson_states}
use Rattle.ring_schedule.proofs.EachKind.{chang_kind, chang_sound, hirschberg_kind, hirschberg_sound, lelann_kind, lelann_sound, peterson_kind, peterson_sound}
use Rattle.ring_schedule.proofs.Passing.{passes_under}
use Rattle.ring_schedule.proofs.any_traffic.AnyTrafficTrafficAny.pass.Goals as goal
use Rattle.ring_schedule.proofs.any_traffic.AnyTrafficTrafficAny.pass.Goals.{in-LeLann, in-Chang, in-Hirschberg, in-Peterson}

pub returns-clause-passes : goal.returns-clause-passes
returns-clause-passes c =
    elim c.match-self.branch [
      | in-LeLann w ↦
          rw (w.result-is, w.self-inside-is, ← c.self.view_is, w.in-LeLann.is)
          (passes_under lelann_states lelann_messages (λ _. lelann_table) any_table LeLann lelann_kind false c.args.may_tell w.in-LeLann.circle c.args.position c.args.side w.pass.result w.pass.new.self w.pass.ensures.passes)
      | in-Chang w ↦
          rw (w.result-is, w.self-inside-is, ← c.self.view_is, w.in-Chang.is)
          (passes_under chang_states chang_messages (λ _. chang_table) any_table Chang chang_kind false c.args.may_tell w.in-Chang.circle c.args.position c.args.side w.pass-in-Chang.result w.pass-in-Chang.new.self w.pass-in-Chang.ensures.passes)
      | in-Hirschberg w ↦
          rw (w.result-is, w.self-inside-is, ← c.self.view_is, w.in-Hirschberg.is)
          (passes_under hirschberg_states hirschberg_messages (λ _. hirschberg_table) any_table Hirschberg hirschberg_kind true c.args.may_tell w.in-Hirschberg.circle c.args.position c.args.side w.pass-in-Hirschberg.result w.pass-in-Hirschberg.new.self w.pass-in-Hirschberg.ensures.passes)
      | in-Peterson w ↦
          rw (w.result-is, w.self-inside-is, ← c.self.view_is, w.in-Peterson.is)
          (passes_under peterson_states peterson_messages (λ _. peterson_table) any_table Peterson peterson_kind false c.args.may_tell w.in-Peterson.circle c.args.position c.args.side w.pass-in-Peterson.result w.pass-in-Peterson.new.self w.pass-in-Peterson.ensures.passes)
    ]

pub returns-clause-sound : goal.returns-clause-sound
returns-clause-sound c =
    elim c.match-self.branch [
      | in-LeLann w ↦ rw w.self-inside-is (lelann_sound _ w.pass.ensures.sound)
      | in-Chang w ↦ rw w.self-inside-is (chang_sound _ w.pass-in-Chang.ensures.sound)
      | in-Hirschberg w ↦ rw w.self-inside-is (hirschberg_sound _ w.pass-in-Hirschberg.ensures.sound)
      | in-Peterson w ↦ rw w.self-inside-is (peterson_sound _ w.pass-in-Peterson.ensures.sound)
    ]
