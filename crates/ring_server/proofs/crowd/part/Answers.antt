-- A property of all seats is one of the seats of each part.
use Rattle.std.proofs.Common.{◌≡◌, All, subst, sym}
use Rattle.std.proofs.lemmas.List.Elements.{All-drop, All-take}
use Rattle.ring_server.proofs.crowd.part.Goals as goal

pub returns-clause-ours : goal.returns-clause-ours
returns-clause-ours g c id all = subst (All (λ seat. seat.lock ≡ id)) (sym c.in_ok-theirs.ensures.items) (All-take (λ seat. seat.lock ≡ id) _ _ all)

pub returns-clause-theirs : goal.returns-clause-theirs
returns-clause-theirs g c id all = subst (All (λ seat. seat.lock ≡ id)) (sym c.in_ok-theirs.ensures.tail) (All-drop (λ seat. seat.lock ≡ id) _ _ all)
