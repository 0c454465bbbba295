-- The test is whether the error's kind is the one for memory.
use Rattle.std.proofs.Common.{refl, sym, ◌∙◌}
use denote.Enum.Bare.{same_false, same_true}
use Rattle.clap.specs.contracts.error.kind.ErrorKind.{the_type}
use Rattle.clap.specs.declared.error.kind.ErrorKind.TheVariants.{OutOfMemory}
use Rattle.command_line.proofs.words.WordsFaultFromClapError.from.Goals as goal

pub returns-then-eq : goal.returns-then-eq
returns-then-eq c = sym c.kind.ensures ∙ same_true the_type tt c.kind.result OutOfMemory (sym c.eq.ensures ∙ c.if-eq.true)

-- Any other error is returned as it came.
pub returns-else-eq : goal.returns-else-eq
returns-else-eq c = (refl, λ is. same_false the_type c.kind.result OutOfMemory (sym c.eq.ensures ∙ c.if-eq.false) (c.kind.ensures ∙ is))
