-- A line that spells no event is refused, and nothing changes.
use Rattle.std.proofs.Common.{inr, refl, subst}
use Rattle.ring_schedule.specs.private.Asking.{AsksEvent}
use Rattle.ring_schedule.proofs.replaying.reply_to.Goals as goal

pub returns-in-None : goal.returns-in-None
returns-in-None c = λ line asks. inr (record { none = subst (AsksEvent line) c.in-None.is asks; refused = refl; same = refl })
