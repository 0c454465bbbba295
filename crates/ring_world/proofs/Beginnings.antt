-- A world that begins: every journal is empty, and nothing was taken.
use Rattle.std.proofs.Common.{◌≡◌, ◌+◌, ◌*◌, ◌<◌, ℕ, zero, suc, Bool, List, [], ◌∷◌, ◌++◌, length, replicate, get_or, refl, sym, ap, ◌∙◌, arith}
use Rattle.std.proofs.lemmas.Grind.{replicate_next}
use Rattle.std.proofs.lemmas.List.{length-replicate}
use Rattle.ring_id.specs.declared.side.Side.{Side}
use Rattle.ring_roster.specs.Ring.{IsRing}
use Rattle.ring_election.specs.Tables.{Table}
use Rattle.ring_election.specs.Traces.{taken_from}
use Rattle.ring_election.specs.Families.{Fitting}
use Rattle.ring_node.specs.declared.charter.Charter.{Charter}
use Rattle.ring_node.specs.declared.packet.Packet.{Packet}
use Rattle.ring_node.specs.Nodes.{IsFaithful, Seated}
use Rattle.ring_world.specs.Worlds.{IsSoundWorld, Running, nodes_from, sent_into, taken_at}
use Rattle.ring_world.specs.private.Worlds.{IsWorld, journals_of}
use Rattle.ring_world.proofs.Links.{first_part, journals_of-nodes_from, nodes_from-snoc}

-- an empty list among empty lists
get_or-empties : {A : Type 0} (n i : ℕ) → get_or (replicate {A = List A} n []) i [] ≡ []
get_or-empties zero i = refl
get_or-empties (suc n) zero = refl
get_or-empties (suc n) (suc i) = get_or-empties n i

-- one more node that has started
pub started_more : {E M : Type 0} (charter : Charter E) (n : ℕ) (node : Seated E M) → node ≡ record { charter = charter; position = n; journal = [] }
    → nodes_from charter 0 (replicate n []) ++ node ∷ [] ≡ nodes_from charter 0 (replicate (n + 1) [])
started_more {E} {M} charter n node is =
    let empties : List (List (Side × Packet M)) = replicate n [] in
    let at : 0 + length empties ≡ n = omega (arith, length-replicate {A = List (Side × Packet M)} n []) in
    rw is
    (sym (ap (λ (l : List (List (Side × Packet M))). nodes_from charter 0 l) (replicate_next n [])
    ∙ nodes_from-snoc charter 0 empties []
    ∙ ap (λ (p : ℕ). nodes_from charter 0 empties ++ record { charter = charter; position = p; journal = [] } ∷ []) at))

-- the journals of nodes that have started
pub started_journals : {E M : Type 0} (charter : Charter E) (n : ℕ) (nodes : List (Seated E M)) → nodes ≡ nodes_from charter 0 (replicate n []) → journals_of nodes ≡ replicate n []
started_journals charter n nodes are = ap journals_of are ∙ journals_of-nodes_from charter 0 (replicate n [])

module _ {E S M : Type 0} (t : E → Table S M) (fits : E → Fitting M) (winner : E → List ℕ → ℕ) (charter : Charter E) (is_ring : IsRing charter.roster)
    (faithful : (i : ℕ) → i < length charter.roster → IsFaithful t fits winner (record { charter = charter; position = i; journal = [] })) (cut : List Bool) (each_link : length cut ≡ 2 * length charter.roster) where
  -- a world in which nothing was received is sound
  started_sound : IsSoundWorld t fits winner (record { charter = charter; journals = replicate (length charter.roster) []; cut = cut })
  started_sound =
      let world : Running E M = record { charter = charter; journals = replicate (length charter.roster) []; cut = cut } in
      record {
        is_ring = is_ring;
        count = length-replicate (length charter.roster) [];
        each_link = each_link;
        links = record {
          taken_first = λ i side below.
              let none : taken_at t world i side ≡ [] = ap (taken_from side) (get_or-empties (length charter.roster) i) in
              rw none (first_part [] (sent_into t world i side) (sent_into t world i side) refl);
        };
        faithful = λ i below. rw (get_or-empties (length charter.roster) i) (faithful i below);
      }

  -- nodes that have started are those of such a world
  pub started_world : (nodes : List (Seated E M)) → nodes ≡ nodes_from charter 0 (replicate (length charter.roster) []) → IsWorld t fits winner charter nodes cut
  started_world nodes are = record {
    nodes_are = are ∙ ap (λ (l : List (List (Side × Packet M))). nodes_from charter 0 l) (sym (started_journals charter (length charter.roster) nodes are));
    sound = rw (started_journals charter (length charter.roster) nodes are) started_sound;
  }
