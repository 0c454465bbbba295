-- A replay's fault becomes the program's fault of its kind.
use Rattle.ringd.proofs.run.replay_ends.Goals as goal

pub returns-in-Ok : goal.returns-in-Ok
returns-in-Ok g c = (c.in-Ok.field-0, c.in-Ok.ensures)

pub returns-in-Err : goal.returns-in-Err
returns-in-Err g c = (c.in-Err.fault, c.from.ensures, c.in-Err.ensures)
