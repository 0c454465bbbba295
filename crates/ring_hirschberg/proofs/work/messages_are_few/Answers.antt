use Rattle.ring_hirschberg.proofs.Messages.{messages_few}
use Rattle.ring_hirschberg.proofs.Packing.{phases_rare}
use Rattle.ring_hirschberg.proofs.work.messages_are_few.Goals as goal

pub returns-clause-messages : goal.returns-clause-messages
returns-clause-messages c = λ ring family is fit sound. messages_few ring is family sound fit

pub returns-clause-phases : goal.returns-clause-phases
returns-clause-phases c = λ ring family k is sound. phases_rare ring is family sound k
