-- A term is new exactly if its number is greater than the last one's.
use Rattle.std.proofs.lemmas.Bool.Decides.{Decides-ltb}
use Rattle.ringctl.proofs.told.Told.take.Goals as goal

pub returns-clause-started : goal.returns-clause-started
returns-clause-started c = Decides-ltb c.args.self.now.term c.args.term.number
