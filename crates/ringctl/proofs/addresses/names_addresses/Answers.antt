-- A text that is not one address may still be several.
use Rattle.ringctl.proofs.Cuts.{several}
use Rattle.ringctl.proofs.addresses.names_addresses.Goals as goal

pub returns-else-is_address : goal.returns-else-is_address
returns-else-is_address c =
    several _ _ _ _ c.if-is_address.false c.is_address.ensures c.are_addresses.ensures
