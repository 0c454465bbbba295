use Rattle.ring_table.proofs.Growing.{calls_grow}
use Rattle.ring_table.proofs.tabled.TableTabled.begin.Goals as goal

pub returns-clause-sure : goal.returns-clause-sure
returns-clause-sure g c = calls_grow _ _ _ _ _ _ _ c.begin.ensures.called
