use Rattle.std.proofs.Common.{◌∙◌, ap, sym, rules}
use Rattle.ring_recovery.specs.private.Reading.{first_of}
use Rattle.ring_recovery.proofs.Headed.{zeros_no_lines}
use Rattle.ring_recovery.proofs.heading.next_life.Goals as goal

pub fault_of-requires-clause-some : goal.fault_of-requires-clause-some
fault_of-requires-clause-some c = λ zeros. let none = sym (zeros_no_lines c.args.found.now zeros) ∙ c.requires.1 in absurd (cc)

pub fault_of-requires-clause-other : goal.fault_of-requires-clause-other
fault_of-requires-clause-other c = λ life lines counted is. c.in_default.ensures.none life counted (ap first_of (sym c.requires.1 ∙ is))

pub returns-in-Some-next-clause-ok : goal.returns-in-Some-next-clause-ok
returns-in-Some-next-clause-ok c = search rules
