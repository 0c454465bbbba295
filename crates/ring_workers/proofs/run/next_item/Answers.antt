-- What was taken without waiting is given.
use Rattle.ring_workers.proofs.run.next_item.Goals as goal

pub returns-in-Taken-try_take : goal.returns-in-Taken-try_take
returns-in-Taken-try_take g c = (c.in-Taken-try_take.field-0, c.in-Taken-try_take.ensures.pass)
