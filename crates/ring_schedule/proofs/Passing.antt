-- What the calls of one algorithm's traffic answer, they answer under its kind of the sum.
use Rattle.std.specs.Prelude.{◌≡◌, ℕ, zero, suc, Bool, List, [], ◌∷◌, ◌++◌, length, map, replicate, Option, Some, None, Result, Ok, Err, refl}
use Rattle.std.proofs.Common.{◌∙◌, ap, ap₂, subst, sym}
use Rattle.std.proofs.lemmas.List.{length-map, map-append}
use Rattle.ring_id.specs.declared.refusal.Refusal.{Refusal}
use Rattle.ring_id.specs.declared.side.Side.{Side}
use Rattle.ring_election.specs.Families.{Fitting}
use Rattle.ring_election.specs.Tables.{Table}
use Rattle.ring_node.specs.declared.charter.Charter.{Charter}
use Rattle.ring_node.specs.declared.packet.Packet.{Packet}
use Rattle.ring_node.specs.Journals.{news}
use Rattle.ring_node.specs.Nodes.{IsFaithful}
use Rattle.ring_world.specs.declared.passage.Passage.{Passage}
use Rattle.ring_world.specs.declared.passage.Passage.TheVariants.{Moved, Idle, Refused}
use Rattle.ring_world.specs.declared.passage.Passages.{Passages}
use Rattle.ring_world.specs.declared.passage.PassagesEnd.{PassagesEnd}
use Rattle.ring_world.specs.declared.passage.PassagesEnd.TheVariants as ended
use Rattle.ring_world.specs.Worlds.{Cuts, EndsPassages, HasPassed, HasPassedFirst, IsReady, IsSoundWorld, Passes, PassesReady, PassesSilently, Running, in_flight, no_cuts, node_at, on_link, taken_at}
use Rattle.ring_any.specs.Variants.{Variant}
use Rattle.ring_schedule.specs.Under.{charter_under, put_journal, put_packet, running_under}
use Rattle.ring_schedule.proofs.Placing.{IsKindOf, after_receipt-under, in_flight-under, known_at-under, known_of-under, length-in_flight-under, node_at-under, node_under, on_link-under, sent_into-under, taken_by-under}
use Rattle.ring_schedule.proofs.Putting.{fitting-put}

-- nothing was received
map-nothing : {A B : Type 0} (f : List A → List B) → f [] ≡ [] → (n : ℕ) → map f (replicate n []) ≡ replicate n []
map-nothing f none zero = refl
map-nothing f none (suc n) = ap₂ (λ x l. x ∷ l) none (map-nothing f none n)

module _ {E F WM M : Type 0} (messages : Variant WM M) (kind : F) where
  -- traffic that began
  pub begun_under : (charter : Charter E) → running_under kind messages (record { charter = charter; journals = replicate (length charter.roster) []; cut = no_cuts (length charter.roster) })
      ≡ (record { charter = charter_under kind charter; journals = replicate (length charter.roster) []; cut = no_cuts (length charter.roster) })
  begun_under charter =
      ap (λ (journals : List (List (Side × Packet WM))). record { charter = charter_under kind charter; journals = journals; cut = no_cuts (length charter.roster) })
      (map-nothing (put_journal messages) refl (length charter.roster))

  -- what a cut answers
  pub cuts_under : (two_way : Bool) (old : Running E M) (i : ℕ) (side : Side) (result : Result (Unit {0}) Refusal) (new : Running E M) → Cuts two_way old i side result new
      → Cuts two_way (running_under kind messages old) i side result (running_under kind messages new)
  cuts_under two_way old i side (Ok done) new cuts = (cuts.0, ap (running_under kind messages) cuts.1)
  cuts_under two_way old i side (Err refusal) new cuts = (cuts.0, ap (running_under kind messages) cuts.1)

module _ {E F S WS M WM : Type 0} (states : Variant WS S) (messages : Variant WM M) (t : E → Table S M) (on_sum : F → Table WS WM) (kind : F) (is : IsKindOf states messages t on_sum kind) where
  -- a packet that passed
  has_passed_under : (old : Running E M) (i : ℕ) (side : Side) (leader : Option ℕ) (new : Running E M) → HasPassed t old i side leader new
      → HasPassed on_sum (running_under kind messages old) i side leader (running_under kind messages new)
  has_passed_under old i side leader new passed = record {
    packet = put_packet messages passed.packet;
    rest = map (put_packet messages) passed.rest;
    front = in_flight-under states messages t on_sum kind is old i side ∙ ap (map (put_packet messages)) passed.front;
    journals = ap (running_under kind messages) passed.journals ∙ after_receipt-under messages kind old i side passed.packet;
    leader_is = passed.leader_is ∙ sym (ap₂ news (known_at-under states messages t on_sum kind is old i) (known_at-under states messages t on_sum kind is new i));
  }

  -- what a passage answers
  pub passes_under : (two_way may_tell : Bool) (old : Running E M) (i : ℕ) (side : Side) (passage : Passage) (new : Running E M) → Passes t two_way may_tell old i side passage new
      → Passes on_sum two_way may_tell (running_under kind messages old) i side passage (running_under kind messages new)
  passes_under two_way may_tell old i side (Moved leader) new passes = (passes.0, passes.1, has_passed_under old i side leader new passes.2)
  passes_under two_way may_tell old i side Idle new passes =
      (passes.0, in_flight-under states messages t on_sum kind is old i side ∙ ap (map (put_packet messages)) passes.1, ap (running_under kind messages) passes.2)
  passes_under two_way may_tell old i side (Refused refusal) new passes =
      (rw (length-in_flight-under states messages t on_sum kind is old i side) passes.0, ap (running_under kind messages) passes.1)

  -- a link on which nothing is in flight
  none_under : (world : Running E M) (i : ℕ) (side : Side) → in_flight t world i side ≡ [] → in_flight on_sum (running_under kind messages world) i side ≡ []
  none_under world i side none = in_flight-under states messages t on_sum kind is world i side ∙ ap (map (put_packet messages)) none

  -- the first link with something in flight
  pub ready_under : (world : Running E M) (found : Option (ℕ × Side)) → IsReady t world found → IsReady on_sum (running_under kind messages world) found
  ready_under world None idle = λ i side inside. none_under world i side (idle i side inside)
  ready_under world (Some link) first = record {
    inside = first.inside;
    waits = rw (length-in_flight-under states messages t on_sum kind is world link.0 link.1) first.waits;
    least = λ j from before. none_under world j from (first.least j from before);
  }

  module _ (fits : E → Fitting M) (fits_on_sum : F → Fitting WM) (winner : E → List ℕ → ℕ) (winner_on_sum : F → List ℕ → ℕ)
      (sound : (world : Running E M) → IsSoundWorld t fits winner world → IsSoundWorld on_sum fits_on_sum winner_on_sum (running_under kind messages world)) where
    -- a packet that passed on the first link
    has_passed_first_under : (old : Running E M) (i : ℕ) (leader : Option ℕ) (new : Running E M) → HasPassedFirst t fits winner old i leader new
        → HasPassedFirst on_sum fits_on_sum winner_on_sum (running_under kind messages old) i leader (running_under kind messages new)
    has_passed_first_under old i leader new first = record {
      side = first.side;
      first = ready_under old (Some (i, first.side)) first.first;
      passed = has_passed_under old i first.side leader new first.passed;
      sound = sound new first.sound;
    }

    -- so many that told no leader
    passes_silently_under : (old : Running E M) (n : ℕ) (new : Running E M) → PassesSilently t fits winner old n new
        → PassesSilently on_sum fits_on_sum winner_on_sum (running_under kind messages old) n (running_under kind messages new)
    passes_silently_under old zero new same = ap (running_under kind messages) same
    passes_silently_under old (suc n) new passes =
        (running_under kind messages passes.0, passes.1, passes_silently_under old n passes.0 passes.2, has_passed_first_under passes.0 passes.1 None new passes.3)

    -- what ended them
    ends_passages_under : (most : ℕ) (old : Running E M) (done : ℕ) (end : PassagesEnd) (new : Running E M) → EndsPassages t fits winner most old done end new
        → EndsPassages on_sum fits_on_sum winner_on_sum most (running_under kind messages old) done end (running_under kind messages new)
    ends_passages_under most old done (ended.Told i leader) new ends =
        (ends.0, running_under kind messages ends.1, ends.2, passes_silently_under old ends.0 ends.1 ends.3, has_passed_first_under ends.1 i (Some leader) new ends.4)
    ends_passages_under most old done ended.Made new ends = (ends.0, passes_silently_under old done new ends.1)
    ends_passages_under most old done ended.Quiet new ends = (passes_silently_under old done new ends.0, ready_under new None ends.1)
    ends_passages_under most old done ended.Starved new ends =
        (ends.0, passes_silently_under old done new ends.1, ends.2, ends.3, ready_under new (Some (ends.2, ends.3)) ends.4)

    -- what passages on the links that are ready answer
    pub passes_ready_under : (most : ℕ) (old : Running E M) (result : Passages) (new : Running E M) → PassesReady t fits winner most old result new
        → PassesReady on_sum fits_on_sum winner_on_sum most (running_under kind messages old) result (running_under kind messages new)
    passes_ready_under most old result new passes = record { within = passes.within; ends = ends_passages_under most old result.done result.end new passes.ends }

  -- sound traffic
  pub sound_under : (fits : E → Fitting M) (fits_on_sum : F → Fitting WM) (winner : E → List ℕ → ℕ) (winner_on_sum : F → List ℕ → ℕ)
      → ((a : E) (ring : List ℕ) (i : ℕ) (side : Side) (k : ℕ) (m : M) → fits a ring i side k m → fits_on_sum kind ring i side k (messages.put m))
      → ((a : E) (ring : List ℕ) → winner a ring ≡ winner_on_sum kind ring)
      → (world : Running E M) → IsSoundWorld t fits winner world → IsSoundWorld on_sum fits_on_sum winner_on_sum (running_under kind messages world)
  sound_under fits fits_on_sum winner winner_on_sum fit wins world sound = record {
    is_ring = sound.is_ring;
    count = length-map world.journals (put_journal messages) ∙ sound.count;
    each_link = sound.each_link;
    links = record {
      taken_first = λ i side inside.
          ap₂ (λ (taken stands : List (Packet WM)). taken ++ stands) (taken_by-under messages kind world i side) (on_link-under states messages t on_sum kind is world i side)
          ∙ sym (map-append (put_packet messages) (taken_at t world i side) (on_link t world i side))
          ∙ ap (map (put_packet messages)) (sound.links.taken_first i side inside)
          ∙ sym (sent_into-under states messages t on_sum kind is world i side);
    };
    faithful = λ i inside.
        let faithful = sound.faithful i inside in
        let here : IsFaithful on_sum fits_on_sum winner_on_sum (node_under kind messages (node_at world i)) = record {
          is_ring = faithful.is_ring;
          inside = faithful.inside;
          fitting = fitting-put messages (fits world.charter.algorithm) (fits_on_sum kind) (fit world.charter.algorithm) world.charter.roster i ((node_at world i).journal) faithful.fitting;
          knows = λ v known. faithful.knows v (sym (known_of-under states messages t on_sum kind is (node_at world i)) ∙ known) ∙ wins world.charter.algorithm world.charter.roster;
        } in
        subst (IsFaithful on_sum fits_on_sum winner_on_sum) (sym (node_at-under messages kind world i)) here;
  }
