-- Dropping: why an envelope or a charter is dropped.
use Rattle.std.proofs.Common.{◌≡◌, ℕ, zero, suc, Bool, false, List, [], ◌∷◌, Option, Some, Result, Ok, Err, slice_get, set, refl, sym, ◌∙◌, subst, inl, inr, ◌⊎◌, arith}
use Rattle.std.specs.Prelude.{IfErr, IfOk}
use Rattle.std.proofs.lemmas.Option.{none-some, same_Some}
use Rattle.ring_id.specs.declared.refusal.NoMemory.{NoMemory}
use Rattle.ring_id.specs.Sides.{other}
use Rattle.ring_election.specs.Tables.{Table}
use Rattle.ring_node.specs.declared.charter.Charter.{Charter}
use Rattle.ring_node.specs.declared.fault.TakeFault.{TakeFault}
use Rattle.ring_node.specs.declared.fault.TakeFault.TheVariants as fault
use Rattle.ring_node.specs.declared.packet.Packet.{Packet}
use Rattle.ring_node.specs.declared.packet.Packet.TheVariants.{Algo, Leader}
use Rattle.ring_node.specs.Envelopes.{Sent}
use Rattle.ring_node.specs.Nodes.{IsEarly, IsFault, IsNext, IsRepeated, Seated, taken_of}
use Rattle.ring_node.specs.Reports.{Told}
use Rattle.ring_workers.specs.Lists.{IsOneOf}
use Rattle.ring_workers.specs.Owners.{position_of}
use Rattle.ring_workers.specs.Seatings.{Seating, seated_in}
use Rattle.ring_workers.specs.Holdings.{charters_in}
use Rattle.ring_workers.specs.private.Fates.{HasOther, IsStranger, IsTurnedAway}
use Rattle.ring_workers.specs.private.Goings.{HandsTo}
use Rattle.ring_workers.specs.private.Seatings.{IsPlaced}
use Rattle.ring_workers.proofs.Among.{among_first, among_rest}
use Rattle.ring_workers.proofs.Groups.{among_groups}
use Rattle.ring_workers.proofs.Seatings.{seated_at}
use Rattle.ring_workers.proofs.Taking.{written_back}

-- what was taken before is not the next of its link
taken_before : {M : Type 0} (taken : List (Packet M)) (index : ℕ) (packet : Packet M) → IsRepeated taken index packet → IsNext taken index packet → ⊥
taken_before taken index (Algo m) before next = omega (arith, before, next)
taken_before taken index (Leader v) before next = omega (arith, before, next)

-- nor is what leaves others out
leaves_out : {M : Type 0} (taken : List (Packet M)) (index : ℕ) (packet : Packet M) → IsEarly taken index packet → IsNext taken index packet → ⊥
leaves_out taken index (Algo m) early next = omega (arith, early, next)
leaves_out taken index (Leader v) early next = early

-- a node at the position to which an envelope's link leads was refused memory, or its charter's nodes do not take it
turned_away : {E M : Type 0} (nodes : List (Seated E M)) (charter : Charter E) (envelope : Sent E M) (node : Seated E M) (why : TakeFault)
    → IsOneOf nodes node → node.charter ≡ charter → node.position ≡ position_of envelope → IsFault node envelope why
    → (why ≡ fault.NoMemory) ⊎ IsTurnedAway nodes charter envelope
turned_away nodes charter envelope node fault.Stranger there charter_is position_is is =
    inr (inl (λ same. is (record { charter = sym (charter_is ∙ same); link = sym position_is })))
turned_away nodes charter envelope node fault.Repeat there charter_is position_is is =
    inr (inr (record { node = node; there = there; led = is.0; late = taken_before (taken_of node (other envelope.side)) envelope.index envelope.packet is.1 }))
turned_away nodes charter envelope node fault.Gap there charter_is position_is is =
    inr (inr (record { node = node; there = there; led = is.0; late = leaves_out (taken_of node (other envelope.side)) envelope.index envelope.packet is.1 }))
turned_away nodes charter envelope node fault.NoMemory there charter_is position_is is = inl refl

-- what a node answers that is handed an envelope
pub away_handed : {E S M : Type 0} (t : E → Table S M) (places : List (Option (Seated E M))) (place : ℕ) (old new : Seated E M) (there : slice_get places place ≡ Some (Some old))
    (envelope : Sent E M) (u w : List (Sent E M)) (result : Result (Option (Told E)) (TakeFault × Sent E M)) → HandsTo t old envelope result new u w → IfErr result (λ r. IsFault old envelope r.0)
    → (number workers : ℕ) (charter : Charter E) → IsPlaced number workers charter place old → place ≡ position_of envelope
    → IfErr result (λ r. (r.0 ≡ fault.NoMemory) ⊎ IsTurnedAway (seated_in (set places place (Some new))) charter envelope)
away_handed t places place old new there envelope u w (Ok report) handed why number workers charter placed led = tt
away_handed t places place old new there envelope u w (Err r) handed why number workers charter placed led =
    subst (λ l. (r.0 ≡ fault.NoMemory) ⊎ IsTurnedAway (seated_in l) charter envelope) (sym (written_back t places place old new there envelope u w handed.1))
    (turned_away (seated_in places) charter envelope old r.0 (seated_at places place old there) placed.charter_is (placed.position_is ∙ led) why)

-- the charter of a group is held
charter_among : {E M : Type 0} (groups : List (List ℕ × Seating E M)) (place : ℕ) (name : List ℕ) (seats : Seating E M) → slice_get groups place ≡ Some (name, seats) → IsOneOf (charters_in groups) seats.charter
charter_among [] place name seats there = absurd (none-some (name, seats) there)
charter_among (g ∷ groups) zero name seats there =
    subst (λ v. IsOneOf (g.1.charter ∷ charters_in groups) v.1.charter) (same_Some g (name, seats) there) (among_first g.1.charter (charters_in groups))
charter_among (g ∷ groups) (suc place) name seats there = among_rest g.1.charter (charter_among groups place name seats there)

module _ {E M : Type 0} (number workers : ℕ) (groups : List (List ℕ × Seating E M)) (place : ℕ) (name : List ℕ) (seats : Seating E M) (there : slice_get groups place ≡ Some (name, seats)) where
  -- the seats of a group take no other charter of its term
  pub other_held : (charter : Charter E) (result : Result Bool NoMemory) → seats.charter.group ≡ charter.group → seats.charter.term ≡ charter.term
      → IfOk result (λ own. own ≡ false → seats.charter ≡ charter → ⊥)
      → IfOk result (λ own. own ≡ false → HasOther (record { number = number; workers = workers; groups = groups }) charter)
  other_held charter (Ok own) group term h =
      λ no. record { held = seats.charter; there = charter_among groups place name seats there; group = group; term = term; differs = h no }
  other_held charter (Err fault) group term h = tt

  -- what its nodes do not take is taken by none that is held
  stranger_held : (e : Sent E M) → seats.charter.group ≡ e.charter.group → seats.charter.term ≡ e.charter.term → IsTurnedAway (seated_in seats.places) seats.charter e
      → IsStranger (record { number = number; workers = workers; groups = groups }) e
  stranger_held e group term (inl differs) = record { held = seats.charter; there = charter_among groups place name seats there; group = group; term = term; away = inl differs }
  stranger_held e group term (inr late) = record {
    held = seats.charter;
    there = charter_among groups place name seats there;
    group = group;
    term = term;
    away = inr (record { node = late.node; there = among_groups groups place name seats there late.node late.there; led = late.led; late = late.late });
  }

  pub stranger_held_if : (e : Sent E M) (result : Result (Bool × Option (Told E)) (Sent E M)) → seats.charter.group ≡ e.charter.group → seats.charter.term ≡ e.charter.term
      → IfOk result (λ r. r.0 ≡ false → IsTurnedAway (seated_in seats.places) seats.charter e)
      → IfOk result (λ r. r.0 ≡ false → IsStranger (record { number = number; workers = workers; groups = groups }) e)
  stranger_held_if e (Ok r) group term h = λ no. stranger_held e group term (h no)
  stranger_held_if e (Err back) group term h = tt
