-- What was said of a node is said of it after more receipts.
use Rattle.std.proofs.Common.{◌≡◌, ◌<◌, ℕ, zero, suc, List, [], ◌∷◌, ◌++◌, length, take, Some, slice_get, sym, ap, ◌∙◌, subst, arith}
use Rattle.std.proofs.lemmas.List.{take-append-le}
use Rattle.std.proofs.lemmas.Option.{slice_get_within}
use Rattle.ring_id.specs.declared.side.Side.{Side}
use Rattle.ring_id.specs.Sides.{other}
use Rattle.ring_node.specs.declared.charter.Charter.{Charter}
use Rattle.ring_node.specs.declared.packet.Packet.{Packet}
use Rattle.ring_node.specs.Envelopes.{Sent}
use Rattle.ring_node.specs.Nodes.{IsNext, Seated, taken_of}
use Rattle.ring_election.specs.Traces.{taken_from}
use Rattle.ring_node.proofs.Receipts.{taken_from-append}
use Rattle.ring_workers.specs.Lists.{IsOneOf}
use Rattle.ring_workers.specs.private.Goings.{Grows}
use Rattle.ring_workers.specs.Goings.{HasReceived}
use Rattle.ring_workers.specs.Seatings.{HasNodeAt}

-- an element of a list stands at its place when the list is longer
get_longer : {A : Type 0} (xs ys : List A) (k : ℕ) (x : A) → slice_get xs k ≡ Some x → slice_get (xs ++ ys) k ≡ Some x
get_longer [] ys k x e = cc
get_longer (z ∷ xs) ys zero x e = e
get_longer (z ∷ xs) ys (suc k) x e = get_longer xs ys k x e

-- what was taken from a side before more receipts
taken_longer : {E M : Type 0} (old new : Seated E M) (side : Side) (grows : Grows old new) → taken_of new side ≡ taken_of old side ++ taken_from side grows.more
taken_longer old new side grows = ap (λ l. taken_from side l) grows.journal_is ∙ taken_from-append side old.journal grows.more

-- the node at a position is there when it has grown
pub seated_later : {E M : Type 0} (old new : List (Seated E M)) (charter : Charter E) (position : ℕ) (h : HasNodeAt old charter position)
    → ((later : Seated E M) × IsOneOf new later × Grows h.node later) → HasNodeAt new charter position
seated_later old new charter position h stays = record {
  node = stays.0;
  there = stays.1;
  charter_is = stays.2.charter_is ∙ h.charter_is;
  position_is = stays.2.position_is ∙ h.position_is;
}

-- a receipt is one when the node has grown
pub received_later : {E M : Type 0} (old new : List (Seated E M)) (envelope : Sent E M) (h : HasReceived old envelope)
    → ((later : Seated E M) × IsOneOf new later × Grows h.node later) → HasReceived new envelope
received_later {E} {M} old new envelope h stays =
    let side : Side = other envelope.side in
    let longer : taken_of stays.0 side ≡ taken_of h.node side ++ taken_from side stays.2.more = taken_longer h.node stays.0 side stays.2 in
    let within : h.place < length (taken_of h.node side) = slice_get_within (taken_of h.node side) h.place envelope.packet h.taken in
    record {
      node = stays.0;
      there = stays.1;
      led = record { charter = h.led.charter ∙ sym stays.2.charter_is; link = h.led.link ∙ sym stays.2.position_is };
      place = h.place;
      taken = ap (λ l. slice_get l h.place) longer ∙ get_longer (taken_of h.node side) (taken_from side stays.2.more) h.place envelope.packet h.taken;
      index = subst (λ (l : List (Packet M)). IsNext l envelope.index envelope.packet)
          (sym (ap (λ l. take h.place l) longer ∙ take-append-le h.place (taken_of h.node side) (taken_from side stays.2.more) (omega arith)))
          h.index;
    }
