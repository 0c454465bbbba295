-- Settled terms: the comparison of a kind of packet, and why every node knows where all positions are
-- settled.
use Rattle.std.proofs.Common.{◌≡◌, ◌≢◌, ◌+◌, ◌<◌, ◌≤◌, ◌==◌, ◌↔◌, ℕ, zero, suc, Bool, true, false, cond, IsTrue, List, [], ◌∷◌, length, drop, Option, Some, None, not, is_some, option_map, slice_get, slice_index, refl, sym, ap, ap₂, ◌∙◌, subst, arith, rules, inl, inr}
use denote.Enum.Bare.{sameb, same_false, same_true}
use Rattle.std.proofs.lemmas.Bool.Decides.{nat_tests}
use Rattle.std.proofs.lemmas.List.{drop_all}
use Rattle.std.proofs.lemmas.Option.{get_or_from_slice_get, same_Some, slice_get_within}
use Rattle.ring_id.specs.contracts.side.Side.{the_type}
use Rattle.ring_id.specs.declared.side.Side.{Side}
use Rattle.ring_id.specs.declared.side.Side.TheVariants.{Left, Right}
use Rattle.ring_id.specs.Sides.{other, same_side}
use Rattle.ring_roster.specs.Ring.{IsRing, neighbour}
use Rattle.ring_election.specs.Families.{FamilyFits, Fitting}
use Rattle.ring_election.specs.Laws.{Deciding}
use Rattle.ring_election.specs.Tables.{Table}
use Rattle.ring_election.specs.Traces.{taken_from}
use Rattle.ring_election.proofs.Rings.{neighbour-below}
use Rattle.ring_node.specs.declared.charter.Charter.{Charter}
use Rattle.ring_node.specs.declared.packet.Packet.{Packet}
use Rattle.ring_node.specs.Journals.{algo_part}
use Rattle.ring_node.specs.Nodes.{IsFaithful, Seated, known_of, member_of, sent_of, taken_of}
use Rattle.ring_node.specs.Reports.{Told}
use Rattle.ring_world.specs.declared.packet_kind.PacketKind.{PacketKind}
use Rattle.ring_world.specs.declared.packet_kind.PacketKind.TheVariants.{Message, Announcement}
use Rattle.ring_world.specs.private.Settlements.{AllFaithful, IsNextOf}
use Rattle.ring_world.specs.Settlements.{EachKnows, EachReports, IsAlone, IsFed, IsSettled, IsSettledAt}
use Rattle.ring_world.specs.private.Places.{IsShared}
use Rattle.ring_world.specs.PacketKinds.{is_of, of_kind}
use Rattle.ring_world.proofs.Links.{same_or_not}
use Rattle.ring_world.proofs.Quiet.{IsMatched, matched_informed}

-- ---- The packets of a kind

drop_at : {A : Type 0} (xs : List A) (k : ℕ) (x : A) → slice_get xs k ≡ Some x → drop k xs ≡ x ∷ drop (k + 1) xs
drop_at [] k x h = cc
drop_at {A} (y ∷ xs) zero x h = let same : y ≡ x = cc in ap (λ (z : A). z ∷ xs) same
drop_at (y ∷ xs) (suc k) x h = let more : suc k + 1 ≡ suc (k + 1) = omega arith in rw more (drop_at xs k x h)

-- a packet of the kind is the first of them from its place on
pub of_kind_here : {M : Type 0} (kind : PacketKind) (ps : List (Packet M)) (k : ℕ) (p : Packet M) → slice_get ps k ≡ Some p → is_of kind p ≡ true → of_kind kind (drop k ps) ≡ p ∷ of_kind kind (drop (k + 1) ps)
of_kind_here kind ps k p there is =
    ap (of_kind kind) (drop_at ps k p there) ∙ ap (λ b. cond b (p ∷ of_kind kind (drop (k + 1) ps)) (of_kind kind (drop (k + 1) ps))) is

-- past the last packet there is none
pub of_kind_none : {M : Type 0} (kind : PacketKind) (ps : List (Packet M)) (k : ℕ) → slice_get ps k ≡ None → of_kind kind (drop k ps) ≡ []
of_kind_none kind [] zero none = refl
of_kind_none kind [] (suc k) none = refl
of_kind_none kind (p ∷ ps) zero none = cc
of_kind_none kind (p ∷ ps) (suc k) none = of_kind_none kind ps k none

-- another is passed over
pub of_kind_past : {M : Type 0} (kind : PacketKind) (ps : List (Packet M)) (k : ℕ) (p : Packet M) → slice_get ps k ≡ Some p → is_of kind p ≡ false → of_kind kind (drop k ps) ≡ of_kind kind (drop (k + 1) ps)
of_kind_past kind ps k p there is =
    ap (of_kind kind) (drop_at ps k p there) ∙ ap (λ b. cond b (p ∷ of_kind kind (drop (k + 1) ps)) (of_kind kind (drop (k + 1) ps))) is

module _ {M : Type 0} (kind : PacketKind) (side : Side) (js : List (Side × Packet M)) (k : ℕ) (r : Side × Packet M) (there : slice_get js k ≡ Some r) where
  -- the packet of a receipt from the side is the next that was taken there
  taken_here : same_side side r.0 ≡ true → taken_from side (drop k js) ≡ r.1 ∷ taken_from side (drop (k + 1) js)
  taken_here here = ap (taken_from side) (drop_at js k r there) ∙ ap (λ b. cond b (r.1 ∷ taken_from side (drop (k + 1) js)) (taken_from side (drop (k + 1) js))) here

  -- and it is the next of its kind
  pub taken_next : same_side side r.0 ≡ true → is_of kind r.1 ≡ true → of_kind kind (taken_from side (drop k js)) ≡ r.1 ∷ of_kind kind (taken_from side (drop (k + 1) js))
  taken_next here is =
      ap (of_kind kind) (taken_here here)
      ∙ ap (λ b. cond b (r.1 ∷ of_kind kind (taken_from side (drop (k + 1) js))) (of_kind kind (taken_from side (drop (k + 1) js)))) is

  -- one of the other kind is passed over
  pub taken_other : same_side side r.0 ≡ true → is_of kind r.1 ≡ false → of_kind kind (taken_from side (drop k js)) ≡ of_kind kind (taken_from side (drop (k + 1) js))
  taken_other here is =
      ap (of_kind kind) (taken_here here)
      ∙ ap (λ b. cond b (r.1 ∷ of_kind kind (taken_from side (drop (k + 1) js))) (of_kind kind (taken_from side (drop (k + 1) js)))) is

  -- so is a receipt from the other side
  pub taken_elsewhere : same_side side r.0 ≡ false → of_kind kind (taken_from side (drop k js)) ≡ of_kind kind (taken_from side (drop (k + 1) js))
  taken_elsewhere away =
      ap (of_kind kind)
      (ap (taken_from side) (drop_at js k r there) ∙ ap (λ b. cond b (r.1 ∷ taken_from side (drop (k + 1) js)) (taken_from side (drop (k + 1) js))) away)

-- what the comparison of two sides says
pub compared_same : (from side : Side) → true ≡ sameb the_type from side → from ≡ side
compared_same from side is = same_true the_type (search rules) from side (sym is)

pub compared_other : (from side : Side) → false ≡ sameb the_type from side → from ≡ side → ⊥
compared_other from side is = same_false the_type from side (sym is)

-- a side is itself, and another is not
pub side_itself : (side : Side) → same_side side side ≡ true
side_itself Left = refl
side_itself Right = refl

pub sides_differ : (side from : Side) → (from ≡ side → ⊥) → same_side side from ≡ false
sides_differ Left Left differ = absurd (differ refl)
sides_differ Left Right differ = refl
sides_differ Right Left differ = refl
sides_differ Right Right differ = absurd (differ refl)

-- where all receipts were passed, nothing is left that was taken
pub passed_all : {M : Type 0} (kind : PacketKind) (side : Side) (js : List (Side × Packet M)) (k : ℕ) → length js ≤ k → of_kind kind (taken_from side (drop k js)) ≡ []
passed_all {M = M} kind side js k all = ap (λ (l : List (Side × Packet M)). of_kind kind (taken_from side l)) (drop_all k js all)

-- then the packets are the same exactly where nothing is left that was sent
pub none_left : {M : Type 0} (P : Type 0) (kind : PacketKind) (sent : List (Packet M)) (from : ℕ) (next : Option (ℕ × Packet M)) (ended : Bool) → P ↔ ([] ≡ of_kind kind (drop from sent)) → IsNextOf kind sent from next
    → is_some next ≡ not ended → IsTrue ended ↔ P
none_left P kind sent from None true exactly ends is = (λ ended. exactly.1 (sym ends), λ same. refl)
none_left P kind sent from None false exactly ends is = cc
none_left P kind sent from (Some next) true exactly more is = cc
none_left P kind sent from (Some next) false exactly more is = (λ never. cc, λ same. let both = exactly.0 same ∙ more in cc)

module _ {M : Type 0} (P : Type 0) (taken sent : List (Packet M)) (exactly : P ↔ (taken ≡ sent)) where
  -- a packet is left that was taken, and none that was sent
  pub one_left : (p : Packet M) (ps : List (Packet M)) → taken ≡ p ∷ ps → sent ≡ [] → IsTrue false ↔ P
  one_left p ps some none = (λ never. cc, λ holds. let same = exactly.0 holds in cc)

  -- the next that was sent is another
  pub another_next : (p q : Packet M) (ps qs : List (Packet M)) → taken ≡ p ∷ ps → sent ≡ q ∷ qs → q ≢ p → IsTrue false ↔ P
  another_next p q ps qs some next differ = (λ never. cc, λ holds. let same = exactly.0 holds in absurd (differ cc))

  -- the next that was sent is the one that was taken
  pub same_next : (p q : Packet M) (ps qs : List (Packet M)) → taken ≡ p ∷ ps → sent ≡ q ∷ qs → q ≡ p → P ↔ (ps ≡ qs)
  same_next p q ps qs some next is = (λ holds. let same = exactly.0 holds in cc, λ same. exactly.1 (let whole : taken ≡ sent = cc in whole))

  -- one that was taken is of the other kind
  pub passed_over : (ps : List (Packet M)) → taken ≡ ps → P ↔ (ps ≡ sent)
  passed_over ps is = (λ holds. sym is ∙ exactly.0 holds, λ same. exactly.1 (is ∙ same))

-- ---- The one node of a position

module _ {E M : Type 0} (charter : Charter E) (nodes : List (Seated E M)) (position : ℕ) where
  -- two nodes that are alone at a position are one
  pub alone_same : (one another : Seated E M) → IsAlone charter nodes position one → IsAlone charter nodes position another → one ≡ another
  alone_same one another first second =
      let place = second.alone first.place one first.there first.charter_is first.position_is in
      same_Some one another (sym first.there ∙ ap (slice_get nodes) place ∙ second.there)

-- ---- Positions that are settled

module _ {E S M : Type 0} (t : E → Table S M) (charter : Charter E) (nodes : List (Seated E M)) where
  module _ (node : Seated E M) (side : Side) (sender : Seated E M) (only : IsAlone charter nodes (neighbour (length charter.roster) node.position side) sender) where
    -- a node that has taken both kinds from its neighbour
    pub fed_both : of_kind Message (taken_of node side) ≡ of_kind Message (sent_of t sender (other side)) → of_kind Announcement (taken_of node side) ≡ of_kind Announcement (sent_of t sender (other side)) → IsFed t charter nodes node side
    fed_both messages announcements = record {
      sender = sender;
      alone = only;
      taken = elim [ Message ↦ messages | Announcement ↦ announcements ];
    }

    pub fed_each : IsFed t charter nodes node side → (kind : PacketKind) → of_kind kind (taken_of node side) ≡ of_kind kind (sent_of t sender (other side))
    fed_each fed kind =
        fed.taken kind
        ∙ ap (λ (x : Seated E M). of_kind kind (sent_of t x (other side))) (alone_same charter nodes (neighbour (length charter.roster) node.position side) fed.sender sender fed.alone only)

  module _ (position : ℕ) (node : Seated E M) (only : IsAlone charter nodes position node) where
    pub settled_both : IsFed t charter nodes node Left → IsFed t charter nodes node Right → IsSettledAt t charter nodes position
    settled_both left right = record { node = node; alone = only; fed = elim [ Left ↦ left | Right ↦ right ] }

    pub settled_each : IsSettledAt t charter nodes position → (side : Side) → IsFed t charter nodes node side
    settled_each settled side = subst (λ (x : Seated E M). IsFed t charter nodes x side) (alone_same charter nodes position settled.node node settled.alone only) (settled.fed side)

-- where no node stands alone at some position, the term is not settled
pub shared_unsettled : {E S M : Type 0} (t : E → Table S M) (charter : Charter E) (nodes : List (Seated E M)) → IsShared charter nodes → IsSettled t charter nodes → ⊥
shared_unsettled t charter nodes shared settled = let here = settled.each shared.position shared.inside in shared.shared here.node here.alone

-- ---- Settled means known

-- where there is something for each number below n, a function gives it
choose : {A : Type 0} (P : ℕ → A → Type 0) (d : A) (n : ℕ) → ((i : ℕ) → i < n → (a : A) × P i a) → (f : ℕ → A) × ((i : ℕ) → i < n → P i (f i))
choose P d zero each = (λ i. d, λ i below. absurd (omega arith))
choose {A} P d (suc n) each =
    let rest = choose P d n (λ i below. each i (omega arith)) in
    let last = each n (omega arith) in (
      λ i. cond (i == n) last.0 (rest.0 i),
      λ i below.
          elim (same_or_not i n) [
            | inl here ↦ let is : (i == n) ≡ true = grind (arith, nat_tests) in rw (is, here) last.1
            | inr differ ↦ let is : (i == n) ≡ false = grind (arith, nat_tests) in rw is (rest.1 i (omega arith))
          ],
    )

-- a node that is alone at its position and has taken all that was sent to it
record IsAtRest {E S M : Type 0} (t : E → Table S M) (charter : Charter E) (nodes : List (Seated E M)) (position : ℕ) (node : Seated E M) : Type 0 where
  alone : IsAlone charter nodes position node
  fed : (side : Side) → IsFed t charter nodes node side

-- a node that is alone at its position, by its journal
node_alone : {E M : Type 0} (charter : Charter E) (nodes : List (Seated E M)) (position : ℕ) (node : Seated E M) → IsAlone charter nodes position node → node ≡ record { charter = charter; position = position; journal = node.journal }
node_alone {E} charter nodes position node only = ap₂ (λ (c : Charter E) (p : ℕ). record { charter = c; position = p; journal = node.journal }) only.charter_is only.position_is

module _ {E S M : Type 0} (t : E → Table S M) (fits : E → Fitting M) (winner : E → List ℕ → ℕ) (charter : Charter E) (nodes : List (Seated E M)) where
  module _ (node_at : ℕ → Seated E M) (rest : (i : ℕ) → i < length charter.roster → IsAtRest t charter nodes i (node_at i)) where
    -- all that was sent on a link was taken
    rest_matched : IsMatched (t charter.algorithm) charter.roster (λ i. (node_at i).journal)
    rest_matched = record {
      each = λ i side kind below.
          let next : ℕ = neighbour (length charter.roster) i side in
          let here = rest i below in
          let there = rest next (neighbour-below (length charter.roster) i side below) in
          let fed = here.fed side in
          let only = subst (λ (p : ℕ). IsAlone charter nodes (neighbour (length charter.roster) p side) fed.sender) here.alone.position_is fed.alone in
          fed.taken kind
          ∙ ap (λ (x : Seated E M). of_kind kind (sent_of t x (other side))) (alone_same charter nodes next fed.sender (node_at next) only there.alone ∙ node_alone charter nodes next (node_at next) there.alone);
    }

    -- what each position took fits
    rest_fits : AllFaithful t fits winner nodes → FamilyFits (fits charter.algorithm) charter.roster (λ i. algo_part (node_at i).journal)
    rest_fits faithful = record {
      at = λ i below.
          let only = (rest i below).alone in
          (subst (λ (x : Seated E M). IsFaithful t fits winner x) (node_alone charter nodes i (node_at i) only) (faithful.each only.place (node_at i) only.there)).fitting;
    }

    -- each node of the charter knows
    rest_knows : Deciding (t charter.algorithm) (fits charter.algorithm) → ((me : ℕ) → (t charter.algorithm).decided ((t charter.algorithm).first me) ≡ None)
        → IsRing charter.roster → AllFaithful t fits winner nodes → EachKnows t winner charter nodes
    rest_knows deciding undecided is_ring faithful = record {
      each = λ k node there charter_is.
          let fact = faithful.each k node there in
          let inside : node.position < length charter.roster = subst (λ (c : Charter E). node.position < length c.roster) charter_is fact.inside in
          let only = (rest node.position inside).alone in
          let place = only.alone k node there charter_is refl in
          let same = same_Some node (node_at node.position) (sym there ∙ ap (slice_get nodes) place ∙ only.there) in
          let informed = matched_informed (t charter.algorithm) (fits charter.algorithm) charter.roster (λ i. (node_at i).journal) rest_matched deciding undecided is_ring (rest_fits faithful) node.position inside in
          let knows : known_of t node ≡ Some informed.leader = ap (known_of t) (same ∙ node_alone charter nodes node.position (node_at node.position) only) ∙ informed.knows in
          knows ∙ ap (λ (v : ℕ). Some v) (fact.knows informed.leader knows ∙ ap (λ (c : Charter E). winner c.algorithm c.roster) charter_is);
    }

  -- Settled means known: where all positions are settled, each node of the charter knows the winner.
  pub settled_knows : Deciding (t charter.algorithm) (fits charter.algorithm) → ((me : ℕ) → (t charter.algorithm).decided ((t charter.algorithm).first me) ≡ None)
      → IsRing charter.roster → AllFaithful t fits winner nodes → IsSettled t charter nodes → EachKnows t winner charter nodes
  settled_knows deciding undecided is_ring faithful settled =
      let chosen = choose (IsAtRest t charter nodes) (record { charter = charter; position = 0; journal = [] }) (length charter.roster)
      (λ i below. let here = settled.each i below in (here.node, record { alone = here.alone; fed = here.fed })) in
      rest_knows chosen.0 chosen.1 deciding undecided is_ring faithful

  -- where each node of the charter knows the winner, the node of each position reports it
  pub settled_reports : IsSettled t charter nodes → EachKnows t winner charter nodes → EachReports t winner charter nodes
  settled_reports settled known = record {
    each = λ i member there.
        let here = settled.each i (slice_get_within charter.roster i member there) in
        let w : ℕ = winner charter.algorithm charter.roster in
        let told : Charter E → ℕ → Option (Told E) = λ c m. Some (record { charter = c; member = m; leader = w }) in
        let knows = known.each here.alone.place here.node here.alone.there here.alone.charter_is in
        record {
          node = here.node;
          alone = here.alone;
          reports =
              ap (option_map (λ v. record { charter = here.node.charter; member = member_of here.node; leader = v })) knows
              ∙ ap₂ (λ (c : Charter E) (p : ℕ). told c (slice_index c.roster p)) here.alone.charter_is here.alone.position_is
              ∙ ap (told charter) (get_or_from_slice_get charter.roster i member 0 there);
        };
  }
