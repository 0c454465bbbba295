-- A drain of more than all that a world can take leaves nothing that can move: each delivery is one receipt more.
use Rattle.std.proofs.Common.{◌≡◌, ◌+◌, ◌<◌, ℕ, zero, suc, Bool, false, List, [], ◌∷◌, ◌++◌, length, Some, get_or, slice_set, refl, sym, ap, ◌∙◌, arith, inl, inr}
use Rattle.std.proofs.Math.ListN.{length-set}
use Rattle.std.proofs.lemmas.List.{length_push}
use Rattle.ring_id.specs.declared.side.Side.{Side}
use Rattle.ring_election.specs.Laws.{Bounded}
use Rattle.ring_election.specs.Tables.{Table}
use Rattle.ring_election.specs.Families.{Fitting}
use Rattle.ring_node.specs.declared.packet.Packet.{Packet}
use Rattle.ring_world.specs.Worlds.{Running, delivered_of, most_deliveries, receipts_in, size_of}
use Rattle.ring_world.proofs.Work.{work_bounded}
use Rattle.ring_mux.specs.Journeys.{CarriesTimes, Makes}
use Rattle.ring_mux.specs.private.Views.{AreSound}
use Rattle.ring_mux.specs.Views.{Held, world_in}
use Rattle.ring_mux.specs.WorldSteps.{LeavesQuiet}
use Rattle.ring_events.specs.declared.reply.Reply.TheVariants.{Drained}
use Rattle.ring_mux.proofs.Carrying.{same_found, written_found}

-- one journal is longer by one
receipts_in-set : {M : Type 0} (journals : List (List (Side × Packet M))) (i : ℕ) (receipt : Side × Packet M) → i < length journals
    → receipts_in (slice_set journals i (get_or journals i [] ++ receipt ∷ [])) ≡ receipts_in journals + 1
receipts_in-set [] i receipt below = absurd (omega arith)
receipts_in-set (journal ∷ journals) zero receipt below = omega (arith, length_push journal receipt)
receipts_in-set (journal ∷ journals) (suc i) receipt below = omega (arith, receipts_in-set journals i receipt (omega arith))

-- a world after so many deliveries: its charter stays, and it has so many receipts more
record HasTaken {E M : Type 0} (name : List ℕ) (n : ℕ) (world : Running E M) (worlds : List (List ℕ × Running E M)) : Type 0 where
  after : Running E M
  found : world_in name worlds ≡ Some after
  charter : after.charter ≡ world.charter
  count : length after.journals ≡ size_of after
  taken : delivered_of after ≡ delivered_of world + n

module _ {E S M : Type 0} (t : E → Table S M) (name : List ℕ) where
  has_taken : (greatest : E → Bool) (n : ℕ) (old new : Held E M) → CarriesTimes t greatest name n old new → (world : Running E M) → world_in name old.worlds ≡ Some world → length world.journals ≡ size_of world → HasTaken name n world new.worlds
  has_taken greatest zero old new same world found count = record { after = world; found = ap (λ (h : Held E M). world_in name h.worlds) same ∙ found; charter = refl; count = count; taken = omega arith }
  has_taken greatest (suc n) old new carries world found count =
      let before = has_taken greatest n old (carries.0) (carries.1) world found count in
      let position = carries.2.position in
      let ready = carries.2.ready in
      let once = carries.2.carried in
      let same : once.before ≡ before.after = same_found (world_in name (carries.0).worlds) once.before before.after once.found before.found in
      let moved = once.moved.journals in
      let inside : position < length once.before.journals = let there = ready.inside in let long = rw (← same) at before.count in omega (arith, there, long) in
      let more : delivered_of once.after ≡ delivered_of once.before + 1 = ap (λ (w : Running E M). delivered_of w) moved ∙ receipts_in-set once.before.journals position (carries.2.side, once.moved.packet) inside in
      let here : delivered_of once.before ≡ delivered_of world + n = ap (λ (w : Running E M). delivered_of w) same ∙ before.taken in
      record {
        after = once.after;
        found = ap (world_in name) once.worlds ∙ written_found name ((carries.0).worlds) once.before once.after once.found;
        charter = ap (λ (w : Running E M). w.charter) moved ∙ ap (λ (w : Running E M). w.charter) same ∙ before.charter;
        count =
            rw moved (length-set once.before.journals position _
            ∙ ap (λ (w : Running E M). length w.journals) same
            ∙ before.count
            ∙ ap (λ (w : Running E M). size_of w) (sym same));
        taken = omega (arith, more, here);
      }

  -- a drain that isn't starved and is of more than the bound allows leaves nothing that can move
  pub leaves_quiet : (fits : E → Fitting M) (winner : E → List ℕ → ℕ) (bound : E → ℕ → ℕ) → ((a : E) → Bounded (t a) (fits a) (bound a)) → (greatest : E → Bool) (count done left : ℕ) (starved : Bool) (old new : Held E M)
      → AreSound t fits winner old.worlds
      → AreSound t fits winner new.worlds
      → Makes t greatest name count done starved old new
      → LeavesQuiet t bound name count old.worlds new.worlds (Drained done left starved)
  leaves_quiet fits winner bound bounded greatest count done left starved old new sound_old sound_new makes = record {
    each = λ world found many done' left' says.
        let taken = has_taken greatest done old new makes.made world found (sound_old.each name world found).count in
        let calm : starved ≡ false = cc in
        let work = work_bounded t fits winner taken.after (sound_new.each name taken.after taken.found) bound (bounded taken.after.charter.algorithm) in
        let most : most_deliveries bound taken.after ≡ most_deliveries bound world = rw taken.charter refl in
        elim (makes.ended calm) [
          | inl all ↦ absurd (let more = taken.taken in omega (arith, work, most, more, all, many))
          | inr quiet ↦ quiet
        ];
  }
