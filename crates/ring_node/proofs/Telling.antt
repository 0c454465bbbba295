-- The reports of a node on itself and on the packets that it takes, by the fields that it keeps.
use Rattle.std.proofs.Common.{◌≡◌, ◌∙◌, ℕ, List, length, ap, ap₂, refl, sym, subst, Option, None, Some, IfSome, Result, Ok}
use Rattle.std.specs.Prelude.{option_map, slice_get}
use Rattle.std.proofs.lemmas.Option.{get_or_from_slice_get}
use Rattle.ring_id.specs.declared.side.Side.{Side}
use Rattle.ring_id.specs.declared.side.Side.TheVariants.{Left, Right}
use Rattle.ring_id.specs.Sides.{other}
use Rattle.ring_roster.specs.Ring.{neighbour}
use Rattle.ring_election.proofs.Rings.{neighbour-neighbour}
use Rattle.ring_election.specs.Families.{Fitting}
use Rattle.ring_election.specs.Tables.{Table}
use Rattle.ring_node.specs.declared.charter.Charter.{Charter}
use Rattle.ring_node.specs.declared.fault.TakeFault.{TakeFault}
use Rattle.ring_node.specs.declared.packet.Packet.{Packet}
use Rattle.ring_node.specs.declared.packet.Packet.TheVariants.{Algo, Leader}
use Rattle.ring_node.specs.Envelopes.{IsProper, IsSendable, Sent, index_after}
use Rattle.ring_node.specs.Journals.{known_after}
use Rattle.ring_node.specs.Nodes.{Gains, IsComing, IsForNode, IsNext, Seated, Takes, member_of, news_of, receiving, report_of, taken_of}
use Rattle.ring_node.specs.Reports.{IsTruthful, Told}

-- if the member at its position knows a leader, its report is of that leader
pub tells_known : {E S M : Type 0} (t : E → Table S M) (node : Seated E M) (charter : Charter E) (me leader : ℕ) (told : Told E) → charter ≡ node.charter
    → slice_get node.charter.roster node.position ≡ Some me → known_after (t node.charter.algorithm) me node.journal ≡ Some leader
    → told ≡ record { charter = charter; member = me; leader = leader } → Some told ≡ report_of t node
tells_known {E = E} t node charter me leader told same here knows is =
    let of_charter : Charter E → Told E = λ (c : Charter E). record { charter = c; member = me; leader = leader } in
    rw (get_or_from_slice_get _ _ _ 0 here, knows) (ap (λ (r : Told E). Some r) (is ∙ ap of_charter same))

-- if it knows none, there is no report
pub tells_unknown : {E S M : Type 0} (t : E → Table S M) (node : Seated E M) (me : ℕ)
    → slice_get node.charter.roster node.position ≡ Some me → known_after (t node.charter.algorithm) me node.journal ≡ None → None ≡ report_of t node
tells_unknown t node me here unknown = rw (get_or_from_slice_get _ _ _ 0 here, unknown) refl

-- reported news names the winner, as the member's own place on the ring shows
pub tells_truly : {E : Type 0} (winner : E → List ℕ → ℕ) (term kept sent : Charter E) → kept ≡ term → sent ≡ term
    → (position me : ℕ) → slice_get kept.roster position ≡ Some me
    → (member : ℕ) (news : Option ℕ) (leader : ℕ) → news ≡ Some leader → IfSome news (IsTruthful (winner term.algorithm) term.roster member)
    → IsTruthful (winner sent.algorithm) sent.roster me leader
tells_truly winner term kept sent kept_is sent_is position me here member news leader news_is truthful =
    let told : IsTruthful (winner term.algorithm) term.roster member leader = rw news_is at truthful in
    rw sent_is (record { is_ring = told.is_ring; inside = (position, rw kept_is at here); wins = told.wins })

-- what is the next of its sort and proper at its own index is proper at the next index
proper_next : {M : Type 0} (fits : Fitting M) (winner : List ℕ → ℕ) (ring : List ℕ) (from : ℕ) (side : Side) (taken : List (Packet M)) (index : ℕ) (p : Packet M)
    → IsNext taken index p → IsProper fits winner ring from side index p → IsProper fits winner ring from side (index_after taken p) p
proper_next fits winner ring from side taken index (Algo m) next proper = rw next at proper
proper_next fits winner ring from side taken index (Leader v) next proper = (proper.0, refl)

other-other : (side : Side) → other (other side) ≡ side
other-other Left = refl
other-other Right = refl

-- the next packet to a node is proper on its link
pub coming_proper : {E M : Type 0} (fits : E → Fitting M) (winner : E → List ℕ → ℕ) (node : Seated E M) (envelope : Sent E M) (from : Side) (packet : Packet M)
    → from ≡ other envelope.side → packet ≡ envelope.packet
    → IsForNode node envelope × IsNext (taken_of node (other envelope.side)) envelope.index envelope.packet
    → IsSendable (fits envelope.charter.algorithm) (winner envelope.charter.algorithm) envelope.charter.roster envelope.from envelope.side envelope.index envelope.packet
    → IsComing fits winner node from packet
coming_proper fits winner node envelope from packet from_is packet_is coming sendable =
    let n = length envelope.charter.roster in
    let back : neighbour n node.position (other envelope.side) ≡ envelope.from =
    ap (λ (p : ℕ). neighbour n p (other envelope.side)) (sym coming.0.link) ∙ neighbour-neighbour n envelope.from envelope.side sendable.inside in
    rw (from_is, packet_is, ← coming.0.charter, back, other-other envelope.side)
    (proper_next (fits envelope.charter.algorithm) (winner envelope.charter.algorithm) envelope.charter.roster envelope.from envelope.side (taken_of node (other envelope.side)) envelope.index envelope.packet coming.1 sendable.proper)

module _ {E S M : Type 0} (t : E → Table S M) (old new : Seated E M) (envelope : Sent E M) (from : Side) (packet : Packet M)
    (from_is : from ≡ other envelope.side) (packet_is : packet ≡ envelope.packet) where
  -- what a receipt adds is what the envelope adds
  pub gains_taken : Gains t old from packet new → Gains t old (other envelope.side) envelope.packet new
  gains_taken gains = rw (from_is, packet_is) at gains

  module _ (result : Result (Option (Told E)) (TakeFault × Sent E M))
      (coming : IsForNode old envelope × IsNext (taken_of old (other envelope.side)) envelope.index envelope.packet) (journal : new ≡ receiving old from packet) where
    -- the next envelope is taken, and there is no report without news
    pub takes_silently : None ≡ news_of t old new → result ≡ Ok None → Takes t old envelope result new
    takes_silently news result_is =
        rw result_is (record {
          here = coming.0;
          next = coming.1;
          journal = rw (from_is, packet_is) at journal;
          report_is = ap (λ (o : Option ℕ). option_map (λ (v : ℕ). record { charter = old.charter; member = member_of old; leader = v }) o) news;
        })

    -- if there is news, it is reported
    pub takes_news : (charter : Charter E) (position : ℕ) (before : List (Side × Packet M)) → record { charter = charter; position = position; journal = before } ≡ new
        → (me : ℕ) → slice_get charter.roster position ≡ Some me
        → (leader : ℕ) → Some leader ≡ news_of t old new
        → (sent : Charter E) → sent ≡ envelope.charter
        → (told : Told E) → told ≡ record { charter = sent; member = me; leader = leader }
        → result ≡ Ok (Some told) → Takes t old envelope result new
    takes_news charter position before view me here leader news sent sent_is told told_is result_is =
        let here' : slice_get old.charter.roster old.position ≡ Some me = subst (λ (node : Seated E M). slice_get node.charter.roster node.position ≡ Some me) (view ∙ journal) here in
        let tells : Charter E → ℕ → Told E = λ (c : Charter E) (m : ℕ). record { charter = c; member = m; leader = leader } in
        let is : told ≡ tells old.charter (member_of old) = told_is ∙ ap₂ tells (sent_is ∙ coming.0.charter) (sym (get_or_from_slice_get old.charter.roster old.position me 0 here')) in
        rw result_is (record {
          here = coming.0;
          next = coming.1;
          journal = rw (from_is, packet_is) at journal;
          report_is = ap (λ (r : Told E). Some r) is ∙ ap (λ (o : Option ℕ). option_map (λ (v : ℕ). record { charter = old.charter; member = member_of old; leader = v }) o) news;
        })
