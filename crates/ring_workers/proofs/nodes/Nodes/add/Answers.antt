-- A group that is added stands last.
use Rattle.std.proofs.Common.{◌++◌, ◌∷◌, [], slice_get, sym, ap, ◌∙◌, subst, refl}
use Rattle.std.specs.Map.{lookup}
use Rattle.std.specs.Str.{bytes_eq}
use Rattle.std.proofs.lemmas.Result.{err_from_is_err_and}
use Rattle.indexmap.proofs.CallerLemmas.{insert_entry-new}
use Rattle.ring_workers.specs.private.Holdings.{IsGroupAt, IsHolding, Steps}
use Rattle.ring_workers.proofs.Groups.{empty_group, get_pushed, holding_push, other_name}
use Rattle.ring_workers.proofs.GroupSteps.{steps_none, steps_push}
use Rattle.ring_workers.proofs.nodes.Nodes.add.Goals as goal

pub returns-in_default-clause-steps : goal.returns-in_default-clause-steps
returns-in_default-clause-steps g c =
    steps_none g.E.RingElection.table c.args.charter.now.value c.args.self.now _ _ _
    (ap (λ es. record { number = c.self.inside.owner.number; workers = c.self.inside.owner.workers; groups = es }) c.in_default.ensures.err ∙ c.self.view_is) refl

pub invariant_of-self-2 : goal.invariant_of-self-2
invariant_of-self-2 g c =
    let name_is = c.group.ensures ∙ ap (λ ch. ch.group) c.deref.ensures in
    let absent = ap (λ n. lookup (bytes_eq n) c.self.inside.groups.entries) name_is ∙ ap (λ h. lookup (bytes_eq c.args.charter.now.value.group) h.groups) c.self.view_is ∙ c.requires in
    let grown = c.in-Ok.ensures.entries ∙ insert_entry-new bytes_eq c.self.inside.groups c.group.result c.in_ok-seats.seats absent in
    let group = empty_group c.self.inside.owner.number c.self.inside.owner.workers c.args.charter.now.value c.in_ok-seats.seats c.in_ok-seats.ensures.empty c.in_ok-seats.ensures.kept in
    subst (IsHolding c.self.inside.owner.number c.self.inside.owner.workers) (sym grown)
    (holding_push c.self.inside.owner.number c.self.inside.owner.workers c.self.inside.groups.entries c.group.result c.in_ok-seats.seats
    (other_name c.self.inside.groups.entries c.group.result absent) c.self.invariant
    (subst (λ n. IsGroupAt c.self.inside.owner.number c.self.inside.owner.workers n c.in_ok-seats.seats) (sym name_is) group))

pub returns-clause-steps : goal.returns-clause-steps
returns-clause-steps g c =
    let name_is = c.group.ensures ∙ ap (λ ch. ch.group) c.deref.ensures in
    let absent = ap (λ n. lookup (bytes_eq n) c.self.inside.groups.entries) name_is ∙ ap (λ h. lookup (bytes_eq c.args.charter.now.value.group) h.groups) c.self.view_is ∙ c.requires in
    let grown = c.in-Ok.ensures.entries ∙ insert_entry-new bytes_eq c.self.inside.groups c.group.result c.in_ok-seats.seats absent in
    subst (λ h. Steps g.E.RingElection.table c.args.charter.now.value h (record { number = c.self.inside.owner.number; workers = c.self.inside.owner.workers; groups = c.insert.new.self.entries }) [] []) c.self.view_is
    (subst (λ es. Steps g.E.RingElection.table c.args.charter.now.value (record { number = c.self.inside.owner.number; workers = c.self.inside.owner.workers; groups = c.self.inside.groups.entries }) (record { number = c.self.inside.owner.number; workers = c.self.inside.owner.workers; groups = es }) [] []) (sym grown)
    (steps_push g.E.RingElection.table c.args.charter.now.value c.self.inside.owner.number c.self.inside.owner.workers c.self.inside.groups.entries c.group.result c.in_ok-seats.seats c.in_ok-seats.ensures.empty))

pub returns-clause-place : goal.returns-clause-place
returns-clause-place g c =
    let name_is = c.group.ensures ∙ ap (λ ch. ch.group) c.deref.ensures in
    let absent = ap (λ n. lookup (bytes_eq n) c.self.inside.groups.entries) name_is ∙ ap (λ h. lookup (bytes_eq c.args.charter.now.value.group) h.groups) c.self.view_is ∙ c.requires in
    let grown = c.in-Ok.ensures.entries ∙ insert_entry-new bytes_eq c.self.inside.groups c.group.result c.in_ok-seats.seats absent in
    record {
      name = c.group.result;
      seats = c.in_ok-seats.seats;
      there =
          ap (λ es. slice_get es c.len-place.result) grown
          ∙ ap (λ k. slice_get (c.self.inside.groups.entries ++ (c.group.result, c.in_ok-seats.seats) ∷ []) k) c.len-place.ensures.len
          ∙ get_pushed c.self.inside.groups.entries (c.group.result, c.in_ok-seats.seats);
      group = ap (λ s. s.charter.group) c.in_ok-seats.ensures.empty;
      term = ap (λ s. s.charter.term) c.in_ok-seats.ensures.empty;
    }

pub returns-in_err-seats : goal.returns-in_err-seats
returns-in_err-seats g c =
    let p = err_from_is_err_and c.from_residual.result c.from_residual.ensures.1 in
    rw p.1
    (record {
      steps = steps_none g.E.RingElection.table c.args.charter.now.value c.args.self.now c.args.self.now _ _ refl refl;
      place = tt;
    })
