use Rattle.ring_table.proofs.Growing.{files_grow}
use Rattle.ring_table.proofs.tabled.TableTabled.report.Goals as goal

pub returns-clause-sure : goal.returns-clause-sure
returns-clause-sure g c = files_grow _ _ _ _ _ c.report.ensures
