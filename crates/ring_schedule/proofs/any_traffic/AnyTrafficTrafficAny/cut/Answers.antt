-- A cut in the circle of the algorithm is a cut under its kind, and the circle is sound there too.
use Rattle.std.proofs.Common.{true, false}
use Rattle.ring_any.specs.declared.any.Any.TheVariants.{LeLann, Chang, Hirschberg, Peterson}
use Rattle.ring_any.specs.Kinds.{chang_messages, hirschberg_messages, lelann_messages, peterson_messages}
use Rattle.ring_schedule.proofs.EachKind.{chang_sound, hirschberg_sound, lelann_sound, peterson_sound}
use Rattle.ring_schedule.proofs.Passing.{cuts_under}
use Rattle.ring_schedule.proofs.any_traffic.AnyTrafficTrafficAny.cut.Goals as goal
use Rattle.ring_schedule.proofs.any_traffic.AnyTrafficTrafficAny.cut.Goals.{in-LeLann, in-Chang, in-Hirschberg, in-Peterson}

-- What a circle answers to a cut is what is said of it under its kind.
pub returns-clause-cuts : goal.returns-clause-cuts
returns-clause-cuts c =
    elim c.match-self.branch [
      | in-LeLann w ↦
          rw (w.result-is, w.self-inside-is, ← c.self.view_is, w.in-LeLann.is)
          (cuts_under lelann_messages LeLann false w.in-LeLann.circle c.args.position c.args.side w.cut.result w.cut.new.self w.cut.ensures.cuts)
      | in-Chang w ↦
          rw (w.result-is, w.self-inside-is, ← c.self.view_is, w.in-Chang.is)
          (cuts_under chang_messages Chang false w.in-Chang.circle c.args.position c.args.side w.cut-in-Chang.result w.cut-in-Chang.new.self w.cut-in-Chang.ensures.cuts)
      | in-Hirschberg w ↦
          rw (w.result-is, w.self-inside-is, ← c.self.view_is, w.in-Hirschberg.is)
          (cuts_under hirschberg_messages Hirschberg true w.in-Hirschberg.circle c.args.position c.args.side w.cut-in-Hirschberg.result w.cut-in-Hirschberg.new.self w.cut-in-Hirschberg.ensures.cuts)
      | in-Peterson w ↦
          rw (w.result-is, w.self-inside-is, ← c.self.view_is, w.in-Peterson.is)
          (cuts_under peterson_messages Peterson false w.in-Peterson.circle c.args.position c.args.side w.cut-in-Peterson.result w.cut-in-Peterson.new.self w.cut-in-Peterson.ensures.cuts)
    ]

pub returns-clause-sound : goal.returns-clause-sound
returns-clause-sound c =
    elim c.match-self.branch [
      | in-LeLann w ↦ rw w.self-inside-is (lelann_sound _ w.cut.ensures.sound)
      | in-Chang w ↦ rw w.self-inside-is (chang_sound _ w.cut-in-Chang.ensures.sound)
      | in-Hirschberg w ↦ rw w.self-inside-is (hirschberg_sound _ w.cut-in-Hirschberg.ensures.sound)
      | in-Peterson w ↦ rw w.self-inside-is (peterson_sound _ w.cut-in-Peterson.ensures.sound)
    ]
