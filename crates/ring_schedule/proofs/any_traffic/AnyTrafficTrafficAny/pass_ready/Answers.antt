-- What passes on the links that are ready in the circle of the algorithm passes on them under its kind.
use Rattle.ring_roster.specs.Ring.{greatest_of}
use Rattle.ring_chang.specs.Chang.{chang_fits, chang_table}
use Rattle.ring_hirschberg.specs.Hirschberg.{hirschberg_fits, hirschberg_table}
use Rattle.ring_lelann.specs.LeLann.{lelann_fits, lelann_table}
use Rattle.ring_peterson.specs.Peterson.{peterson_table}
use Rattle.ring_peterson.specs.Rounds.{peterson_fits, peterson_winner}
use Rattle.ring_any.specs.Any.{any_fits, any_table, any_winner}
use Rattle.ring_any.specs.declared.any.Any.TheVariants.{LeLann, Chang, Hirschberg, Peterson}
use Rattle.ring_any.specs.Kinds.{chang_messages, chang_states, hirschberg_messages, hirschberg_states, lelann_messages, lelann_states, peterson_messages, peterson_states}
use Rattle.ring_schedule.proofs.EachKind.{chang_kind, chang_sound, hirschberg_kind, hirschberg_sound, lelann_kind, lelann_sound, peterson_kind, peterson_sound}
use Rattle.ring_schedule.proofs.Passing.{passes_ready_under}
use Rattle.ring_schedule.proofs.any_traffic.AnyTrafficTrafficAny.pass_ready.Goals as goal
use Rattle.ring_schedule.proofs.any_traffic.AnyTrafficTrafficAny.pass_ready.Goals.{in-LeLann, in-Chang, in-Hirschberg, in-Peterson}

pub returns-clause-passes : goal.returns-clause-passes
returns-clause-passes c =
    elim c.match-self.branch [
      | in-LeLann w ↦
          rw (w.result-is, w.self-inside-is, ← c.self.view_is, w.in-LeLann.is)
          (passes_ready_under lelann_states lelann_messages (λ _. lelann_table) any_table LeLann lelann_kind (λ _. lelann_fits) any_fits (λ _. greatest_of) any_winner lelann_sound c.args.most w.in-LeLann.circle w.pass_ready.result w.pass_ready.new.self w.pass_ready.ensures.passes)
      | in-Chang w ↦
          rw (w.result-is, w.self-inside-is, ← c.self.view_is, w.in-Chang.is)
          (passes_ready_under chang_states chang_messages (λ _. chang_table) any_table Chang chang_kind (λ _. chang_fits) any_fits (λ _. greatest_of) any_winner chang_sound c.args.most w.in-Chang.circle w.pass_ready-in-Chang.result w.pass_ready-in-Chang.new.self w.pass_ready-in-Chang.ensures.passes)
      | in-Hirschberg w ↦
          rw (w.result-is, w.self-inside-is, ← c.self.view_is, w.in-Hirschberg.is)
          (passes_ready_under hirschberg_states hirschberg_messages (λ _. hirschberg_table) any_table Hirschberg hirschberg_kind (λ _. hirschberg_fits) any_fits (λ _. greatest_of) any_winner hirschberg_sound c.args.most w.in-Hirschberg.circle w.pass_ready-in-Hirschberg.result w.pass_ready-in-Hirschberg.new.self w.pass_ready-in-Hirschberg.ensures.passes)
      | in-Peterson w ↦
          rw (w.result-is, w.self-inside-is, ← c.self.view_is, w.in-Peterson.is)
          (passes_ready_under peterson_states peterson_messages (λ _. peterson_table) any_table Peterson peterson_kind (λ _. peterson_fits) any_fits (λ _. peterson_winner) any_winner peterson_sound c.args.most w.in-Peterson.circle w.pass_ready-in-Peterson.result w.pass_ready-in-Peterson.new.self w.pass_ready-in-Peterson.ensures.passes)
    ]

pub returns-clause-sound : goal.returns-clause-sound
returns-clause-sound c =
    elim c.match-self.branch [
      | in-LeLann w ↦ rw w.self-inside-is (lelann_sound _ w.pass_ready.ensures.sound)
      | in-Chang w ↦ rw w.self-inside-is (chang_sound _ w.pass_ready-in-Chang.ensures.sound)
      | in-Hirschberg w ↦ rw w.self-inside-is (hirschberg_sound _ w.pass_ready-in-Hirschberg.ensures.sound)
      | in-Peterson w ↦ rw w.self-inside-is (peterson_sound _ w.pass_ready-in-Peterson.ensures.sound)
    ]
