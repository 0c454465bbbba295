-- A report of a term's own charter: the member that it names becomes informed, and the leader is the
-- winner of the ring.
use Rattle.std.proofs.Common.{◌≡◌, ◌<◌, ℕ, Bool, true, false, List, length, get_or, Option, None, Some, is_some, refl, sym, ◌∙◌, ap, subst, true≢false}
use Rattle.std.specs.Prelude.{slice_get, IsSome}
use Rattle.std.proofs.lemmas.List.{length-set}
use Rattle.std.proofs.lemmas.Option.{same_Some, slice_get-get_or}
use Rattle.ring_roster.specs.Ring.{IsRing, position_of}
use Rattle.ring_election.specs.Tables.{Table}
use Rattle.ring_election.specs.Laws.{Lawful}
use Rattle.ring_election.specs.Families.{Fitting}
use Rattle.ring_terms.specs.Object.{TermView}
use Rattle.ring_terms.specs.Kept.{IsTermKept}
use Rattle.ring_terms.specs.Moves.{IsNamed, InformsIn, LeadsAfter, inform}
use Rattle.ring_terms.specs.Standings.{IsInformedIn}
use Rattle.ring_terms.proofs.Objects.{set_here}

-- the winner of a ring may be named
pub winner_named : {S M : Type 0} {two_way greatest : Bool} {t : Table S M} {fits : Fitting M} {winner : List ℕ → ℕ} → Lawful two_way greatest t fits winner → (ring : List ℕ) → IsRing ring → IsNamed greatest ring (winner ring)
winner_named laws ring is_ring = record {
  inside = laws.winner_is_member ring is_ring;
  tops = λ promised i v there. laws.winner_is_greatest promised ring i v is_ring there;
}

-- if the leader that is there is the winner, the winner leads after
leads_after : (greatest : Bool) (ring : List ℕ) (winner : ℕ) (was : Option ℕ) → ((leader : ℕ) → was ≡ Some leader → leader ≡ winner) → IsNamed greatest ring winner → LeadsAfter greatest ring was winner
leads_after greatest ring winner None wins named = named
leads_after greatest ring winner (Some leader) wins named = sym (wins leader refl)

-- if there is a leader, and it can only be the winner, it is the winner
leader_is : (winner : ℕ) (was : Option ℕ) → ((leader : ℕ) → was ≡ Some leader → leader ≡ winner) → IsSome was → was ≡ Some winner
leader_is winner None wins there = absurd (true≢false (sym there))
leader_is winner (Some leader) wins there = ap Some (wins leader refl)

-- if there is no leader, a position's mark is not set
unset_mark : (term : TermView) (position : ℕ) (mark : Bool) → ((p : ℕ) → slice_get term.informed p ≡ Some true → IsSome term.leader) → term.leader ≡ None → slice_get term.informed position ≡ Some mark → slice_get term.informed position ≡ Some false
unset_mark term position false led none there = there
unset_mark term position true led none there = absurd (true≢false (sym (led position there) ∙ ap (λ v. is_some v) none))

-- if there is no leader, no member is informed
pub uninformed_without_leader : (winner : List ℕ → ℕ) (term : TermView) → IsTermKept winner term → (position : ℕ) → position < length term.ring → term.leader ≡ None → slice_get term.informed position ≡ Some false
uninformed_without_leader winner term kept position within none = unset_mark term position (get_or term.informed position false) kept.led none (slice_get-get_or term.informed position false (rw kept.marked within))

-- a term in which a member becomes informed of the winner keeps what terms keep
pub inform_kept : (winner : List ℕ → ℕ) (term : TermView) → IsTermKept winner term → (position leader : ℕ) → position < length term.ring → leader ≡ winner term.ring → IsTermKept winner (inform position leader term)
inform_kept winner term kept position leader inside leads = record {
  is_ring = kept.is_ring;
  marked = length-set term.informed position true ∙ kept.marked;
  wins = λ other same. sym (same_Some leader other same) ∙ leads;
  led = λ p there. refl;
  heard = λ _. (position, set_here term.informed position true (rw kept.marked inside));
}

module _ (winner : List ℕ → ℕ) (term : TermView) (kept : IsTermKept winner term) (member leader position : ℕ)
    (placed : position_of member term.ring ≡ Some position) (leads : leader ≡ winner term.ring) where
  -- the member was informed already
  pub known : slice_get term.informed position ≡ Some true → IsInformedIn member leader term
  known informed = record {
    position = position;
    placed = placed;
    informed = informed;
    leads = leader_is (winner term.ring) term.leader kept.wins (kept.led position informed) ∙ ap Some (sym leads);
  }

  -- the member becomes informed
  pub noted : (greatest : Bool) → IsNamed greatest term.ring (winner term.ring) → slice_get term.informed position ≡ Some false → InformsIn greatest member leader term (inform position leader term)
  noted greatest named uninformed = record {
    position = position;
    placed = placed;
    uninformed = uninformed;
    leads = subst (λ v. LeadsAfter greatest term.ring term.leader v) (sym leads) (leads_after greatest term.ring (winner term.ring) term.leader kept.wins named);
    changed = refl;
  }
