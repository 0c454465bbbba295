-- The marks of links: how one link is marked, what the marks say of what is in flight, and the marks after a
-- cut. A mark is a bit that is set exactly if something is in flight on the link.
use Rattle.std.proofs.Common.{◌≡◌, ◌≢◌, ◌*◌, ◌^◌, ◌<◌, ◌≤◌, ℕ, zero, suc, Bool, true, cond, List, [], ◌∷◌, length, Some, None, refl, sym, ap, ◌∙◌, arith, inl, inr}
use Rattle.std.specs.Prelude.{not}
use Rattle.std.proofs.lemmas.Bool.{cases_lt}
use Rattle.std.proofs.lemmas.List.{length-drop}
use Rattle.ring_id.specs.declared.side.Side.{Side}
use Rattle.ring_id.specs.declared.side.Side.TheVariants.{Left, Right}
use Rattle.ring_id.specs.Sides.{other}
use Rattle.ring_roster.specs.Ring.{neighbour}
use Rattle.ring_election.specs.Tables.{Table}
use Rattle.ring_election.proofs.Rings.{neighbour-below, neighbour-neighbour}
use Rattle.ring_election.specs.Families.{Fitting}
use Rattle.ring_node.specs.Nodes.{sent_of}
use Rattle.ring_world.specs.private.LinkSets.{IsFirst, bit_of}
use Rattle.ring_world.specs.private.Tallies.{HasMarked, IsMarked, IsMarkedAll, IsTallied, some_or_none}
use Rattle.ring_world.specs.Worlds.{IsBefore, IsReady, Running, after_cut, in_flight, is_cut, link_place, node_at, on_link, pending_below, size_of, taken_at}
use Rattle.ring_world.proofs.Cuts.{cut_elsewhere, cut_here, cut_pending, cut_sound, mark_of_some, pending_stands, place_below, same_place}
use Rattle.ring_world.proofs.Links.{same_or_not}

-- ---- One link is marked

place_past : (n i : ℕ) (side : Side) → n ≤ i → 2 * n ≤ link_place i side
place_past n i Left past = omega arith
place_past n i Right past = omega arith

-- where one bit is put as its link is, the link is marked and the other marks stay
pub one_marked : {E S M : Type 0} (t : E → Table S M) (world : Running E M) (old new : List ℕ) (i : ℕ) (side : Side) → i < size_of world → IsMarked t world new i side
    → ((place : ℕ) → place ≢ link_place i side → bit_of new place ≡ bit_of old place)
    → HasMarked t world old i side new
one_marked t world old new i side inside marked others = record {
  marked = marked;
  kept = λ j from before.
      elim (same_or_not (link_place j from) (link_place i side)) [
        | inl here ↦ let link = same_place j i from side here in rw (link.0, link.1) marked
        | inr differ ↦ record { bit = others (link_place j from) differ ∙ before.bit; few = before.few }
      ];
  beyond = λ place past. let below = place_below (size_of world) i side inside in others place (omega arith);
}

-- the packets on a link from a node are among those that it has sent there
flight_within : {E S M : Type 0} (t : E → Table S M) (world : Running E M) (i : ℕ) (to : Side) → i < size_of world
    → length (on_link t world (neighbour (size_of world) i to) (other to)) ≤ length (sent_of t (node_at world i) to)
flight_within t world i Left inside = rw (neighbour-neighbour (size_of world) i Left inside)
    (let rest = length-drop (length (taken_at t world (neighbour (size_of world) i Left) Right)) (sent_of t (node_at world i) Left) in omega (arith, rest))
flight_within t world i Right inside = rw (neighbour-neighbour (size_of world) i Right inside)
    (let rest = length-drop (length (taken_at t world (neighbour (size_of world) i Right) Left)) (sent_of t (node_at world i) Right) in omega (arith, rest))

-- where the bit of a link on which something stands is put unless it is cut, the link is marked
pub one_put : {E S M : Type 0} (t : E → Table S M) (world : Running E M) (old new : List ℕ) (i : ℕ) (to : Side) → i < size_of world
    → 0 < length (on_link t world (neighbour (size_of world) i to) (other to))
    → length (sent_of t (node_at world i) to) < 2 ^ 64
    → bit_of new (link_place (neighbour (size_of world) i to) (other to)) ≡ cond (not (is_cut world (neighbour (size_of world) i to) (other to))) 1 0
    → ((place : ℕ) → place ≢ link_place (neighbour (size_of world) i to) (other to) → bit_of new place ≡ bit_of old place)
    → HasMarked t world old (neighbour (size_of world) i to) (other to) new
one_put t world old new i to inside waits few put others =
    let stands = on_link t world (neighbour (size_of world) i to) (other to) in
    let cut = is_cut world (neighbour (size_of world) i to) (other to) in
    one_marked t world old new (neighbour (size_of world) i to) (other to) (neighbour-below (size_of world) i to inside)
    (record { bit = put ∙ mark_of_some cut stands waits; few = let within = flight_within t world i to inside in omega (arith, within, few) }) others

-- ---- What the marks tell

none_of_0 : {A : Type 0} (xs : List A) → some_or_none xs ≡ 0 → xs ≡ []
none_of_0 [] e = refl
none_of_0 (x ∷ xs) e = absurd (omega arith)

some_of_1 : {A : Type 0} (xs : List A) → some_or_none xs ≡ 1 → 0 < length xs
some_of_1 [] e = absurd (omega arith)
some_of_1 (x ∷ xs) e = omega arith

-- links that come before have a lesser place
record ComesBefore (j : ℕ) (from : Side) (i : ℕ) (side : Side) : Type 0 where
  place : link_place j from < link_place i side
  position : j ≤ i

comes_before : {E S M : Type 0} (t : E → Table S M) (j i : ℕ) (from side : Side) → IsBefore t j from i side → ComesBefore j from i side
comes_before t j i Left Left (inl less) = record { place = omega arith; position = omega arith }
comes_before t j i Left Right (inl less) = record { place = omega arith; position = omega arith }
comes_before t j i Right Left (inl less) = record { place = omega arith; position = omega arith }
comes_before t j i Right Right (inl less) = record { place = omega arith; position = omega arith }
comes_before t j i from side (inr beside) = rw (beside.0, beside.1, beside.2) (record { place = omega arith; position = omega arith })

module _ {E S M : Type 0} (t : E → Table S M) (world : Running E M) (words : List ℕ) (marked : IsMarkedAll t world words) where
  -- without a bit nothing is in flight
  pub no_link : IsFirst words None → IsReady t world None
  no_link none = λ i side below. none_of_0 (in_flight t world i side) (sym (marked.each i side below).bit ∙ none (link_place i side))

  -- the first bit is that of the first link
  pub first_link : (i : ℕ) (side : Side) → IsFirst words (Some (link_place i side)) → IsReady t world (Some (i, side))
  first_link i side first =
      elim (cases_lt i (size_of world)) [
        | inr past ↦ let none = marked.beyond (link_place i side) (place_past (size_of world) i side past) in absurd (omega (arith, none, first.0))
        | inl inside ↦ record {
          inside = inside;
          waits = some_of_1 (in_flight t world i side) (sym (marked.each i side inside).bit ∙ first.0);
          least = λ j from before.
              let less = comes_before t j i from side before in
              none_of_0 (in_flight t world j from) (sym (marked.each j from (let low = less.position in omega arith)).bit ∙ first.1 (link_place j from) less.place);
        }
      ]

-- where each link has less than 2 ^ 64 packets, there are not too many to count
pub pending_few : {E S M : Type 0} (t : E → Table S M) (world : Running E M) (words : List ℕ) → IsMarkedAll t world words → (n : ℕ) → n ≤ size_of world → pending_below t world n ≤ 36893488147419103232 * n
pending_few t world words marked zero low = omega arith
pending_few t world words marked (suc n) low =
    omega
    (arith, pending_few t world words marked n (omega arith), pending_stands t world n Left, pending_stands t world n Right, (marked.each n Left (omega arith)).few, (marked.each n Right (omega arith)).few)

-- ---- A world after a cut

-- where the bit of a link is cleared that is cut, the links are marked
cut_marks : {E S M : Type 0} (t : E → Table S M) (world : Running E M) (words new : List ℕ) (i : ℕ) (side : Side) → i < size_of world → length world.cut ≡ 2 * size_of world → IsMarkedAll t world words
    → bit_of new (link_place i side) ≡ 0
    → ((place : ℕ) → place ≢ link_place i side → bit_of new place ≡ bit_of words place)
    → IsMarkedAll t (after_cut world i side) new
cut_marks {M = M} t world words new i side inside each_link marked cleared others = record {
  each = λ j from below.
      let old = marked.each j from below in
      elim (same_or_not (link_place j from) (link_place i side)) [
        | inl here ↦
            let link = same_place j i from side here in
            let cut : is_cut (after_cut world i side) j from ≡ true = rw (link.0, link.1) (cut_here world i side each_link inside) in
            record { bit = ap (bit_of new) here ∙ cleared ∙ ap (λ (b : Bool). some_or_none (cond b [] (on_link t world j from))) (sym cut); few = old.few }
        | inr differ ↦ record {
          bit = others (link_place j from) differ ∙ old.bit ∙ ap (λ (b : Bool). some_or_none (cond b [] (on_link t world j from))) (sym (cut_elsewhere world i side j from differ));
          few = old.few;
        }
      ];
  beyond = λ place past. let below = place_below (size_of world) i side inside in others place (omega arith) ∙ marked.beyond place past;
}

-- what is kept is kept where a link was cut and its bit cleared
pub tally_cut : {E S M : Type 0} (t : E → Table S M) (fits : E → Fitting M) (winner : E → List ℕ → ℕ) (world : Running E M) (pending : ℕ) (words new : List ℕ) (i : ℕ) (side : Side)
    → IsTallied t world fits winner pending words → i < size_of world
    → bit_of new (link_place i side) ≡ 0
    → ((place : ℕ) → place ≢ link_place i side → bit_of new place ≡ bit_of words place)
    → (after : Running E M) → after ≡ after_cut world i side → IsTallied t after fits winner pending new
tally_cut t fits winner world pending words new i side tallied inside cleared others after is = rw is (record {
  sound = cut_sound t world i side fits winner tallied.sound;
  counted = tallied.counted ∙ sym (cut_pending t world i side (size_of world));
  marked = cut_marks t world words new i side inside tallied.sound.each_link tallied.marked cleared others;
})
