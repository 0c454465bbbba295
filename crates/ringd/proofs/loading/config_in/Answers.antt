-- A text is refused as bad only if the call that reads it refuses it as bad.
use Rattle.std.proofs.Common.{◌≡◌, Err}
use Rattle.ring_config.specs.declared.config.ConfigFault.TheVariants as config
use Rattle.ringd.proofs.Causes.{of_config}
use Rattle.ringd.proofs.loading.config_in.Goals as goal

pub returns-in-Err-Bad-clause-bad : goal.returns-in-Err-Bad-clause-bad
returns-in-Err-Bad-clause-bad c = λ _. let is : c.read_config.result ≡ Err config.Bad = cc in c.read_config.ensures.bad is

pub returns-in-Err-Bad-clause-fault : goal.returns-in-Err-Bad-clause-fault
returns-in-Err-Bad-clause-fault c = let is : c.read_config.result ≡ Err config.Bad = cc in of_config c.args.text.now c.requires (c.read_config.ensures.bad is)
