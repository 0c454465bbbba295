-- Fates: an item that was not counted as dropped was of an older term, or is done.
use Rattle.std.proofs.Common.{◌≡◌, ℕ, Some, refl, subst, inl, inr, ◌⊎◌, arith}
use Rattle.ring_node.specs.declared.charter.Charter.{Charter}
use Rattle.ring_node.specs.Envelopes.{Sent}
use Rattle.ring_workers.specs.declared.item.Item.{Item}
use Rattle.ring_workers.specs.declared.item.Item.TheVariants.{Begin, Packet, Stop}
use Rattle.ring_workers.specs.declared.term_nodes.Fate.{Fate}
use Rattle.ring_workers.specs.declared.term_nodes.Fate.TheVariants.{Done, Older, Strange}
use Rattle.ring_workers.specs.Goings.{HasReceived}
use Rattle.ring_workers.specs.Holdings.{AllSeated, Holding, charters_of, nodes_of}
use Rattle.ring_workers.specs.private.Fates.{IsEnvelopeFate, IsFate, dropped_by}
use Rattle.ring_workers.specs.private.Holdings.{IsOlder}
use Rattle.ring_workers.specs.private.Runs.{IsHandled}
use Rattle.ring_workers.specs.Runs.{IsDone, charter_of}

-- where nothing was ever dropped, an item with one of these fates was of an older term, or is done
undropped : (fate : Fate) (before dropped : ℕ) → dropped ≡ dropped_by fate before → dropped ≡ 0 → fate ≡ Strange → ⊥
undropped Done before dropped counted none strange = cc
undropped Older before dropped counted none strange = cc
undropped Strange before dropped counted none strange = omega (arith, counted, none)

begun_well : {E M : Type 0} (old new : Holding E M) (charter : Charter E) (fate : Fate) → IsFate old new charter fate → (fate ≡ Strange → ⊥)
    → IsOlder (charters_of old) charter ⊎ AllSeated new.number new.workers (nodes_of new) charter
begun_well old new charter Done is not = inr is
begun_well old new charter Older is not = inl is
begun_well old new charter Strange is not = absurd (not refl)

delivered_well : {E M : Type 0} (old new : Holding E M) (envelope : Sent E M) (fate : Fate) → IsEnvelopeFate old new envelope fate → (fate ≡ Strange → ⊥)
    → IsOlder (charters_of old) envelope.charter ⊎ HasReceived (nodes_of new) envelope
delivered_well old new envelope Done is not = inr is
delivered_well old new envelope Older is not = inl is
delivered_well old new envelope Strange is not = absurd (not refl)

pub handled_well : {E S M : Type 0} (old new : Holding E M) (before dropped : ℕ) (item : Item E M S) → IsHandled old new before dropped item
    → dropped ≡ 0 → (c : Charter E) → charter_of item ≡ Some c → IsOlder (charters_of old) c ⊎ IsDone new.number new.workers (nodes_of new) item
handled_well old new before dropped (Begin b) handled none c is =
    let same : b.value ≡ c = cc in
    elim (begun_well old new b.value handled.0 handled.1 (undropped handled.0 before dropped handled.2 none)) [
      | inl older ↦ inl (subst (λ (d : Charter _). IsOlder (charters_of old) d) same older)
      | inr seated ↦ inr seated
    ]
handled_well old new before dropped (Packet e) (inl handled) none c is =
    let same : e.charter ≡ c = cc in
    elim (delivered_well old new e handled.0 handled.1 (undropped handled.0 before dropped handled.2 none)) [
      | inl older ↦ inl (subst (λ (d : Charter _). IsOlder (charters_of old) d) same older)
      | inr received ↦ inr received
    ]
handled_well old new before dropped (Packet e) (inr other) none c is = absurd (undropped Strange before dropped other.1 none refl)
handled_well old new before dropped Stop handled none c is = absurd (cc)
