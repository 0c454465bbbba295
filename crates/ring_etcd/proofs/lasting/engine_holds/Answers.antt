use Rattle.ring_etcd.proofs.Following.{entries_held, texts_held}
use Rattle.ring_etcd.proofs.lasting.engine_holds.Goals as goal

pub returns-clause-entry : goal.returns-clause-entry
returns-clause-entry c = entries_held

pub returns-clause-text : goal.returns-clause-text
returns-clause-text c = texts_held
