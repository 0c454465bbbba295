use Rattle.std.proofs.Common.{ap, ◌∙◌, ◌≤◌, length, subst, sym}
use Rattle.std.specs.Option.{unwrap_or}
use Rattle.ring_journal.proofs.Fronts.{front_within, zero_place}
use Rattle.ring_journal.proofs.reading.front_len.Goals as goal

pub returns-clause-len : goal.returns-clause-len
returns-clause-len c = c.unwrap_or.ensures ∙ ap (λ place. unwrap_or place (length c.args.found.now)) c.place_of.ensures ∙ zero_place c.args.found.now

pub returns-clause-within : goal.returns-clause-within
returns-clause-within c = subst (λ n. n ≤ length c.args.found.now) (sym (returns-clause-len c)) (front_within c.args.found.now)
