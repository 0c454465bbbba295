-- The circle of the algorithm has begun, and so it has under its kind.
use Rattle.std.proofs.Common.{ap, sym, ◌∙◌}
use Rattle.ring_any.specs.declared.any.Any.TheVariants.{LeLann, Chang, Hirschberg, Peterson}
use Rattle.ring_any.specs.Kinds.{chang_messages, hirschberg_messages, lelann_messages, peterson_messages}
use Rattle.ring_schedule.proofs.EachKind.{begun_as, chang_sound, hirschberg_sound, lelann_sound, peterson_sound}
use Rattle.ring_schedule.proofs.any_traffic.AnyTrafficTrafficAny.begin.Goals as goal
use Rattle.ring_schedule.proofs.any_traffic.AnyTrafficTrafficAny.begin.Goals.{in-LeLann+in_ok-circle_under-in-LeLann, in-Chang+in_ok-circle_under-in-Chang, in-Hirschberg+in_ok-circle_under-in-Hirschberg, in-Peterson+in_ok-circle_under-in-Peterson}

pub returns-clause-started : goal.returns-clause-started
returns-clause-started c =
    elim c.match-algorithm.branch [
      | in-LeLann+in_ok-circle_under-in-LeLann w ↦
          rw w.kind-is
          (begun_as lelann_messages LeLann _ c.args.charter.value (sym (c.algorithm.ensures ∙ ap (λ charter. charter.algorithm) c.deref.ensures) ∙ w.in-LeLann.is) _ (rw w.deref-in-LeLann.ensures at w.in_ok-circle_under-in-LeLann.ensures.started))
      | in-Chang+in_ok-circle_under-in-Chang w ↦
          rw w.kind-is
          (begun_as chang_messages Chang _ c.args.charter.value (sym (c.algorithm.ensures ∙ ap (λ charter. charter.algorithm) c.deref.ensures) ∙ w.in-Chang.is) _ (rw w.deref-in-Chang.ensures at w.in_ok-circle_under-in-Chang.ensures.started))
      | in-Hirschberg+in_ok-circle_under-in-Hirschberg w ↦
          rw w.kind-is
          (begun_as hirschberg_messages Hirschberg _ c.args.charter.value (sym (c.algorithm.ensures ∙ ap (λ charter. charter.algorithm) c.deref.ensures) ∙ w.in-Hirschberg.is) _ (rw w.deref-in-Hirschberg.ensures at w.in_ok-circle_under-in-Hirschberg.ensures.started))
      | in-Peterson+in_ok-circle_under-in-Peterson w ↦
          rw w.kind-is
          (begun_as peterson_messages Peterson _ c.args.charter.value (sym (c.algorithm.ensures ∙ ap (λ charter. charter.algorithm) c.deref.ensures) ∙ w.in-Peterson.is) _ (rw w.deref-in-Peterson.ensures at w.in_ok-circle_under-in-Peterson.ensures.started))
    ]

pub returns-clause-sound : goal.returns-clause-sound
returns-clause-sound c =
    elim c.match-algorithm.branch [
      | in-LeLann+in_ok-circle_under-in-LeLann w ↦ rw w.kind-is (lelann_sound _ w.in_ok-circle_under-in-LeLann.ensures.sound)
      | in-Chang+in_ok-circle_under-in-Chang w ↦ rw w.kind-is (chang_sound _ w.in_ok-circle_under-in-Chang.ensures.sound)
      | in-Hirschberg+in_ok-circle_under-in-Hirschberg w ↦ rw w.kind-is (hirschberg_sound _ w.in_ok-circle_under-in-Hirschberg.ensures.sound)
      | in-Peterson+in_ok-circle_under-in-Peterson w ↦ rw w.kind-is (peterson_sound _ w.in_ok-circle_under-in-Peterson.ensures.sound)
    ]
