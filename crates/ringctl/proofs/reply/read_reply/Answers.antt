-- The rest after `no` and a space is the word of a refusal.
use Rattle.ringctl.proofs.reply.read_reply.Goals as goal

pub returns-in-Some-clause-refused : goal.returns-in-Some-clause-refused
returns-in-Some-clause-refused c = λ _ _. record {}
