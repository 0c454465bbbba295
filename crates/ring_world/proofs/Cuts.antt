-- Links that are cut: what is in flight and what is stuck on a link is together what stands there, and a
-- cut changes no journal.
use Rattle.std.proofs.Common.{◌≡◌, ◌≢◌, ◌+◌, ◌*◌, ◌<◌, ◌≤◌, ◌==◌, ℕ, zero, suc, Bool, true, false, cond, nat_lt, List, [], ◌∷◌, length, replicate, Some, None, Result, Ok, Err, slice_get, slice_set, get_or, refl, sym, ap, ap₂, ◌∙◌, arith, get_or-set_other, get_or-set_same}
use Rattle.std.proofs.Math.ListN.{length-set}
use Rattle.std.proofs.lemmas.List.{get_or-replicate}
use Rattle.std.specs.Prelude.{not}
use Rattle.std.proofs.lemmas.Bool.Decides.{nat_tests}
use Rattle.ring_id.specs.declared.refusal.Refusal.{Refusal}
use Rattle.ring_id.specs.declared.side.Side.{Side}
use Rattle.ring_id.specs.declared.side.Side.TheVariants.{Left, Right}
use Rattle.ring_election.specs.Tables.{Table}
use Rattle.ring_election.specs.Families.{Fitting}
use Rattle.ring_node.specs.declared.charter.Charter.{Charter}
use Rattle.ring_node.specs.declared.packet.Packet.{Packet}
use Rattle.ring_node.specs.Nodes.{Seated}
use Rattle.ring_world.specs.private.LinkSets.{bit_of, bits_from}
use Rattle.ring_world.specs.Quiet.{IsEmptied, IsQuiet}
use Rattle.ring_world.specs.private.Tallies.{some_or_none}
use Rattle.ring_world.specs.Worlds.{Cuts, IsSoundWorld, IsUncut, Running, after_cut, is_cut, link_place, no_cuts, on_link, pending_below, pending_on, size_of}
use Rattle.ring_world.specs.private.Worlds.{IsWorld, journals_of}

-- ---- Links and their bits

-- two links with one place are one
pub same_place : (j i : ℕ) (from side : Side) → link_place j from ≡ link_place i side → (j ≡ i) × (from ≡ side)
same_place j i Left Left e = (omega arith, refl)
same_place j i Left Right e = absurd (omega arith)
same_place j i Right Left e = absurd (omega arith)
same_place j i Right Right e = (omega arith, refl)

pub place_below : (n i : ℕ) (side : Side) → i < n → link_place i side < 2 * n
place_below n i Left below = omega arith
place_below n i Right below = omega arith

pub length-bits_from : (words : List ℕ) (a n : ℕ) → length (bits_from words a n) ≡ n
length-bits_from words a zero = refl
length-bits_from words a (suc n) = ap suc (length-bits_from words (a + 1) n)

-- no link is cut where a world begins
pub no_cut : {E M : Type 0} (charter : Charter E) (journals : List (List (Side × Packet M))) (world : Running E M) → world ≡ record { charter = charter; journals = journals; cut = no_cuts (length charter.roster) }
    → (i : ℕ) (side : Side) → i < size_of world → is_cut world i side ≡ false
no_cut charter journals world begun i side inside = rw begun (get_or-replicate (2 * length charter.roster) (link_place i side) false false (place_below (length charter.roster) i side (rw begun at inside)))

-- what a bit says
get_or-bits_from : (words : List ℕ) (a n k : ℕ) → k < n → get_or (bits_from words a n) k false ≡ (bit_of words (a + k) == 1)
get_or-bits_from words a zero k below = absurd (omega arith)
get_or-bits_from words a (suc n) zero below = let at : a ≡ a + 0 = omega arith in ap (λ (place : ℕ). bit_of words place == 1) at
get_or-bits_from words a (suc n) (suc k) below =
    let at : (a + 1) + k ≡ a + suc k = omega arith in
    get_or-bits_from words (a + 1) n k (omega arith) ∙ ap (λ (place : ℕ). bit_of words place == 1) at

pub bit_says : (words : List ℕ) (n i : ℕ) (side : Side) → i < n → get_or (bits_from words 0 (2 * n)) (link_place i side) false ≡ (bit_of words (link_place i side) == 1)
bit_says words n i side below =
    let at : 0 + link_place i side ≡ link_place i side = omega arith in
    get_or-bits_from words 0 (2 * n) (link_place i side) (place_below n i side below) ∙ ap (λ (place : ℕ). bit_of words place == 1) at

-- where no bit is set
pub no_bits : (words : List ℕ) (a n : ℕ) → ((place : ℕ) → bit_of words place ≡ 0) → bits_from words a n ≡ replicate n false
no_bits words a zero none = refl
no_bits words a (suc n) none = ap₂ (λ (b : Bool) (l : List Bool). b ∷ l) (ap (λ (m : ℕ). m == 1) (none a)) (no_bits words (a + 1) n none)

-- where the bits from a place on are the same
same_bits : (words new : List ℕ) (a n : ℕ) → ((place : ℕ) → a ≤ place → bit_of new place ≡ bit_of words place) → bits_from new a n ≡ bits_from words a n
same_bits words new a zero same = refl
same_bits words new a (suc n) same =
    ap₂ (λ (b : Bool) (l : List Bool). b ∷ l) (ap (λ (m : ℕ). m == 1) (same a (omega arith))) (same_bits words new (a + 1) n (λ place past. same place (omega arith)))

-- where one bit is put
one_bit : (words new : List ℕ) (a n k : ℕ) → bit_of new (a + k) ≡ 1 → ((place : ℕ) → place ≢ a + k → bit_of new place ≡ bit_of words place) → bits_from new a n ≡ slice_set (bits_from words a n) k true
one_bit words new a zero k put others = refl
one_bit words new a (suc n) zero put others =
    let at : a + 0 ≡ a = omega arith in
    ap₂ (λ (b : Bool) (l : List Bool). b ∷ l) (ap (λ (place : ℕ). bit_of new place == 1) (sym at) ∙ ap (λ (m : ℕ). m == 1) put) (same_bits words new (a + 1) n (λ place past. others place (λ e. omega (arith, e, past))))
one_bit words new a (suc n) (suc k) put others =
    let at : (a + 1) + k ≡ a + suc k = omega arith in
    ap₂ (λ (b : Bool) (l : List Bool). b ∷ l)
    (ap (λ (m : ℕ). m == 1) (others a (λ e. omega (arith, e))))
    (one_bit words new (a + 1) n k (ap (bit_of new) at ∙ put) (λ place differ. others place (λ e. differ (e ∙ sym at))))

pub link_put : (words new : List ℕ) (n i : ℕ) (side : Side) → bit_of new (link_place i side) ≡ 1 → ((place : ℕ) → place ≢ link_place i side → bit_of new place ≡ bit_of words place)
    → bits_from new 0 (2 * n) ≡ slice_set (bits_from words 0 (2 * n)) (link_place i side) true
link_put words new n i side put others =
    let at : 0 + link_place i side ≡ link_place i side = omega arith in
    one_bit words new 0 (2 * n) (link_place i side) (ap (bit_of new) at ∙ put) (λ place differ. others place (λ e. differ (e ∙ sym at)))

-- where what is put is there already nothing changes
put_again : (flags : List Bool) (k : ℕ) → get_or flags k false ≡ true → slice_set flags k true ≡ flags
put_again [] k there = refl
put_again (b ∷ flags) zero there = ap (λ (c : Bool). c ∷ flags) (sym there)
put_again (b ∷ flags) (suc k) there = ap (λ (l : List Bool). b ∷ l) (put_again flags k there)

-- ---- What stands on a link

-- where something is first in flight the link isn't cut
pub front_uncut : {A : Type 0} (cut : Bool) (xs : List A) (x : A) → slice_get (cond cut [] xs) 0 ≡ Some x → cut ≡ false
front_uncut true xs x h = cc
front_uncut false xs x h = refl

-- and it stands there first
pub front_stands : {A : Type 0} (cut : Bool) (xs : List A) (x : A) → slice_get (cond cut [] xs) 0 ≡ Some x → slice_get xs 0 ≡ Some x
front_stands true xs x h = cc
front_stands false xs x h = h

-- where something is in flight the link isn't cut
pub waits_uncut : {A : Type 0} (cut : Bool) (xs : List A) → 0 < length (cond cut [] xs) → cut ≡ false
waits_uncut true xs waits = absurd (omega arith)
waits_uncut false xs waits = refl

-- and something stands there
pub waits_stands : {A : Type 0} (cut : Bool) (xs : List A) → 0 < length (cond cut [] xs) → slice_get xs 0 ≢ None
waits_stands true xs waits = absurd (omega arith)
waits_stands false [] waits = absurd (omega arith)
waits_stands false (x ∷ xs) waits = λ none. cc

in_parts : {A : Type 0} (cut : Bool) (xs : List A) → length (cond cut [] xs) + length (cond cut xs []) ≡ length xs
in_parts true xs = omega arith
in_parts false xs = omega arith

-- on a link that isn't cut all that stands there is in flight
pub all_flies : {A : Type 0} (cut : Bool) (xs : List A) → cut ≡ false → cond cut [] xs ≡ xs
all_flies true xs uncut = cc
all_flies false xs uncut = refl

-- on one that is cut nothing is
pub none_flies : {A : Type 0} (cut : Bool) (xs : List A) → cut ≡ true → cond cut [] xs ≡ []
none_flies true xs cut = refl
none_flies false xs cut = cc

-- the mark of a link that isn't cut
pub mark_by_length : {A : Type 0} (cut : Bool) (xs : List A) → cut ≡ false → cond (nat_lt 0 (length xs)) 1 0 ≡ some_or_none (cond cut [] xs)
mark_by_length true xs uncut = cc
mark_by_length false [] uncut = grind (arith, nat_tests)
mark_by_length false (x ∷ xs) uncut = grind (arith, nat_tests)

-- and of one on which something stands
pub mark_of_some : {A : Type 0} (cut : Bool) (xs : List A) → 0 < length xs → cond (not cut) 1 0 ≡ some_or_none (cond cut [] xs)
mark_of_some cut [] h = absurd (omega arith)
mark_of_some true (x ∷ xs) h = refl
mark_of_some false (x ∷ xs) h = refl

-- and of one on which nothing does
pub mark_emptied : {A : Type 0} (cut : Bool) (xs : List A) → length xs ≡ 0 → 0 ≡ some_or_none (cond cut [] xs)
mark_emptied true xs h = refl
mark_emptied false [] h = refl
mark_emptied false (x ∷ xs) h = absurd (omega (arith, h))

-- and of one that isn't cut
pub mark_standing : {A : Type 0} (cut : Bool) (xs : List A) → cut ≡ false → 0 < length xs → 1 ≡ some_or_none (cond cut [] xs)
mark_standing cut [] uncut h = absurd (omega arith)
mark_standing true (x ∷ xs) uncut h = cc
mark_standing false (x ∷ xs) uncut h = refl

module _ {E S M : Type 0} (t : E → Table S M) where
  -- what is in flight on a link or stuck there is what stands there
  pub pending_stands : (world : Running E M) (i : ℕ) (side : Side) → pending_on t world i side ≡ length (on_link t world i side)
  pending_stands world i side = in_parts (is_cut world i side) (on_link t world i side)

  -- in a quiet world without a cut nothing stands on a link
  pub quiet_emptied : (world : Running E M) → IsUncut world → IsQuiet t world → IsEmptied t world
  quiet_emptied world uncut quiet = record {
    taken = λ i side below. ap (λ (b : Bool). cond b [] (on_link t world i side)) (sym (uncut.uncut i side below)) ∙ quiet.idle i side below;
  }

-- ---- A world after a cut

module _ {E M : Type 0} (world : Running E M) (i : ℕ) (side : Side) where
  -- that link is cut
  pub cut_here : length world.cut ≡ 2 * size_of world → i < size_of world → is_cut (after_cut world i side) i side ≡ true
  cut_here each_link inside = get_or-set_same world.cut (link_place i side) true false (let below = place_below (size_of world) i side inside in omega (arith, below, each_link))

  -- every other is or isn't, as before
  pub cut_elsewhere : (j : ℕ) (from : Side) → link_place j from ≢ link_place i side → is_cut (after_cut world i side) j from ≡ is_cut world j from
  cut_elsewhere j from differ = get_or-set_other world.cut (link_place i side) (link_place j from) true false differ

  -- a link that is cut once more changes nothing
  pub cut_again : is_cut world i side ≡ true → after_cut world i side ≡ world
  cut_again cut = ap (λ (flags : List Bool). record world { cut = flags }) (put_again world.cut (link_place i side) cut)

  -- and whatever `cut` answers, the world is as it was
  pub cuts_again : is_cut world i side ≡ true → (two_way : Bool) (result : Result (Unit {0}) Refusal) (new : Running E M) → Cuts two_way world i side result new → new ≡ world
  cuts_again cut two_way (Ok done) new cuts = cuts.1 ∙ cut_again cut
  cuts_again cut two_way (Err refusal) new cuts = cuts.1

module _ {E S M : Type 0} (t : E → Table S M) (world : Running E M) (i : ℕ) (side : Side) where
  -- as many packets are in flight or stuck as before
  pub cut_pending : (n : ℕ) → pending_below t (after_cut world i side) n ≡ pending_below t world n
  cut_pending zero = refl
  cut_pending (suc n) =
      let new = after_cut world i side in
      let left : pending_on t new n Left ≡ pending_on t world n Left = pending_stands t new n Left ∙ sym (pending_stands t world n Left) in
      let right : pending_on t new n Right ≡ pending_on t world n Right = pending_stands t new n Right ∙ sym (pending_stands t world n Right) in
      omega (arith, cut_pending n, left, right)

  -- it is as sound as before
  pub cut_sound : (fits : E → Fitting M) (winner : E → List ℕ → ℕ) → IsSoundWorld t fits winner world → IsSoundWorld t fits winner (after_cut world i side)
  cut_sound fits winner sound = record {
    is_ring = sound.is_ring;
    count = sound.count;
    each_link = length-set world.cut (link_place i side) true ∙ sound.each_link;
    links = record { taken_first = sound.links.taken_first };
    faithful = sound.faithful;
  }

-- the nodes of a world are those of the world after a cut
pub world_cut : {E S M : Type 0} (t : E → Table S M) (fits : E → Fitting M) (winner : E → List ℕ → ℕ) (charter : Charter E) (nodes : List (Seated E M)) (cut : List Bool) (i : ℕ) (side : Side)
    → IsWorld t fits winner charter nodes cut → IsWorld t fits winner charter nodes (slice_set cut (link_place i side) true)
world_cut t fits winner charter nodes cut i side world = record {
  nodes_are = world.nodes_are;
  sound = cut_sound t (record { charter = charter; journals = journals_of nodes; cut = cut }) i side fits winner world.sound;
}
