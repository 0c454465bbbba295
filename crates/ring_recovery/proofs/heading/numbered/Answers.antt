use Rattle.std.proofs.Common.{◌∙◌, arith, subst, sym}
use Rattle.std.proofs.lemmas.Fmt.{decimal_injective}
use Rattle.ring_recovery.specs.Life.{IsLife}
use Rattle.ring_recovery.proofs.Headed.{none_map}
use Rattle.ring_recovery.proofs.heading.numbered.Goals as goal

pub returns-in-Some-clause-none : goal.returns-in-Some-clause-none
returns-in-Some-clause-none c =
    none_map c.new.result c.new.ensures.none
    (λ none life counted is. none (subst IsLife (decimal_injective life c.in-Some.number (omega (arith, counted.1)) (omega arith) (sym is ∙ c.in-Some.ensures.some)) counted))
