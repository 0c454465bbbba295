-- A begin that is not stored comes back, and nothing changes.
use Rattle.std.proofs.Common.{rules}
use Rattle.ring_service.proofs.pending.put_begin.Goals as goal

pub returns-in-Full-Begin : goal.returns-in-Full-Begin
returns-in-Full-Begin g c = search rules
