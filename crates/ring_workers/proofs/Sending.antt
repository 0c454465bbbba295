-- Sending: to whom an envelope goes.
use Rattle.std.proofs.Common.{◌≡◌, ℕ, List, length, Option, Some, slice_get, sym, ap, ◌∙◌}
use Rattle.std.proofs.lemmas.Option.{get_or_from_slice_get}
use Rattle.ring_id.specs.declared.side.Side.{Side}
use Rattle.ring_roster.specs.Ring.{neighbour}
use Rattle.ring_node.specs.Envelopes.{Sent}
use Rattle.ring_workers.specs.Owners.{position_of, receiver_of}

-- the member to which an envelope's link leads, looked up step by step
pub receiver_found : {E M : Type 0} (e : Sent E M) (ring : List ℕ) (place from : ℕ) (side : Side) (found : Option ℕ) (member : ℕ)
    → ring ≡ e.charter.roster → from ≡ e.from → side ≡ e.side → place ≡ neighbour (length ring) from side → found ≡ slice_get ring place → found ≡ Some member
    → member ≡ receiver_of e
receiver_found e ring place from side found member ring_is from_is side_is place_is found_is is =
    let at : place ≡ position_of e =
    place_is ∙ ap (λ r. neighbour (length r) from side) ring_is ∙ ap (λ f. neighbour (length e.charter.roster) f side) from_is ∙ ap (λ s. neighbour (length e.charter.roster) e.from s) side_is in
    let there : slice_get e.charter.roster (position_of e) ≡ Some member =
    ap (λ k. slice_get e.charter.roster k) (sym at) ∙ ap (λ r. slice_get r place) (sym ring_is) ∙ sym found_is ∙ is in
    sym (get_or_from_slice_get e.charter.roster (position_of e) member 0 there)
