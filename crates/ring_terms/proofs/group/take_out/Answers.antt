-- The members that stay are those with another number.
use Rattle.std.proofs.Common.{not, rules}
use Rattle.std.proofs.lemmas.Fn.{filter_same}
use Rattle.ring_roster.specs.Ring.{is_numbered}
use Rattle.ring_terms.proofs.group.take_out.Goals as goal

pub returns : goal.returns
returns c = filter_same _ (λ member. not (is_numbered c.args.node member)) _ (λ x b g h. search rules) _ _ c.retain.ensures.filtered
