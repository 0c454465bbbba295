-- Terms of the last group start, one after another.
use Rattle.std.proofs.Common.{◌≡◌, ◌+◌, ℕ, suc, Bool, true, false, List, [], ◌∷◌, ◌++◌, Option, Some, None, get_or, is_some, length, replicate, slice_get, refl, ap, sym, ◌∙◌, subst, append_assoc, length-append}
use Rattle.std.specs.Prelude.{IsSome}
use Rattle.std.proofs.lemmas.Bool.{true≢false}
use Rattle.std.proofs.lemmas.List.{append-nil}
use Rattle.std.proofs.lemmas.Option.{slice_get-get_or}
use Rattle.ring_roster.specs.Ring.{IsRing, has_repeat}
use Rattle.ring_election.specs.Families.{Fitting}
use Rattle.ring_election.specs.Laws.{Lawful}
use Rattle.ring_election.specs.Tables.{Table}
use Rattle.ring_terms.specs.Kept.{IsTermKept}
use Rattle.ring_terms.specs.Moves.{IsNamed}
use Rattle.ring_terms.specs.Object.{GroupView, Object, TermView, find, new_term}
use Rattle.ring_change.specs.declared.change.Change.TheVariants.{Start}
use Rattle.ring_lives.specs.Replays.{Replays}
use Rattle.ring_recovery.specs.BookChanges.{moves, news_of, term_changes, terms_changes}
use Rattle.ring_recovery.proofs.Alike.{chain}
use Rattle.ring_recovery.proofs.book_changes.LastGroup.{after, in_last_group}
use Rattle.ring_recovery.proofs.book_changes.Moving.{moving}
use Rattle.ring_recovery.proofs.book_changes.Telling.{all_told, none_set}

-- if there is no leader, no mark is set
unset_mark : (term : TermView) (position : ℕ) (mark : Bool) → ((p : ℕ) → slice_get term.informed p ≡ Some true → IsSome term.leader) → term.leader ≡ None → slice_get term.informed position ≡ Some mark → slice_get term.informed position ≡ Some false
unset_mark term position false led none there = there
unset_mark term position true led none there = absurd (true≢false (sym (led position there) ∙ ap (λ v. is_some v) none))

-- the winner of each ring may be named
pub record MayLead (greatest : Bool) (winner : List ℕ → ℕ) : Type 0 where
  pub named : (ring : List ℕ) → IsRing ring → IsNamed greatest ring (winner ring)

-- the winners of a lawful election may be named
pub may_lead : {S M : Type 0} {two_way greatest : Bool} {t : Table S M} {fits : Fitting M} {winner : List ℕ → ℕ} → Lawful two_way greatest t fits winner → MayLead greatest winner
may_lead laws = record {
  named = λ ring is_ring. record {
    inside = laws.winner_is_member ring is_ring;
    tops = λ promised i v there. laws.winner_is_greatest promised ring i v is_ring there;
  };
}

module _ {E : Type 0} (greatest : E → Bool) (winner : E → List ℕ → ℕ) (name : List ℕ) (old : Object E) (free : find name old ≡ None) (algorithm : E) (leads : MayLead (greatest algorithm) (winner algorithm)) where
  -- the last group with these members and these terms
  abbrev group_at : List ℕ → List TermView → GroupView E
  group_at members terms = record { algorithm = algorithm; members = members; terms = terms }

  abbrev at : List ℕ → List TermView → Object E
  at members terms = after old name (group_at members terms)

  -- the members of a term that started come to know its leader
  told : (terms : List TermView) (term : TermView) (was : Option ℕ) → term.leader ≡ was → IsTermKept (winner algorithm) term
      → Replays greatest (at term.ring (terms ++ new_term term.ring ∷ [])) (news_of name (length terms + 1) was term.ring term.informed) (at term.ring (terms ++ term ∷ []))
  told terms term None is kept =
      let unset : term.informed ≡ replicate (length term.ring) false = none_set term.informed (length term.ring) kept.marked (λ position below. unset_mark term position (get_or term.informed position false) kept.led is (slice_get-get_or term.informed position false (rw kept.marked below))) in
      (λ j. at term.ring (terms ++ record { ring = term.ring; leader = is j; informed = unset j } ∷ []))
  told terms term (Some leader) is kept =
      let wins : leader ≡ winner algorithm term.ring = kept.wins leader is in
      let named : IsNamed (greatest algorithm) term.ring leader = subst (λ (l : ℕ). IsNamed (greatest algorithm) term.ring l) (sym wins) (leads.named term.ring kept.is_ring) in
      let heard = kept.heard (rw is refl) in
      subst (λ (was : Option ℕ). Replays greatest (at term.ring (terms ++ new_term term.ring ∷ [])) (news_of name (length terms + 1) (Some leader) term.ring term.informed) (at term.ring (terms ++ record { ring = term.ring; leader = was; informed = term.informed } ∷ []))) (sym is)
      (all_told greatest name old free (group_at term.ring []) terms (length terms + 1) term.ring leader refl kept.is_ring.distinct named term.informed heard.0 kept.marked heard.1)

  -- a term starts on a ring of its own
  starting : (before : List ℕ) (terms : List TermView) (term : TermView) → has_repeat before ≡ false → IsTermKept (winner algorithm) term
      → Replays greatest (at before terms) (term_changes name (length terms + 1) before term) (at term.ring (terms ++ term ∷ []))
  starting before terms term distinct kept =
      chain greatest (moves name before term.ring) (Start name ∷ news_of name (length terms + 1) term.leader term.ring term.informed) (at before terms) (at term.ring terms) (at term.ring (terms ++ term ∷ []))
      (moving greatest name old free (group_at [] terms) [] before term.ring distinct) (
        at term.ring (terms ++ new_term term.ring ∷ []),
        (length terms + 1, in_last_group name old (group_at term.ring terms) (group_at term.ring (terms ++ new_term term.ring ∷ [])) free (record { numbered = refl; started = refl })),
        told terms term term.leader refl kept,
      )

  -- terms start after others, and the last ring becomes the members
  pub story : (before : List ℕ) (terms more : List TermView) (members : List ℕ) (number : ℕ) → length terms + 1 ≡ number → has_repeat before ≡ false
      → ((place : ℕ) (term : TermView) → slice_get more place ≡ Some term → IsTermKept (winner algorithm) term)
      → Replays greatest (at before terms) (terms_changes name number before more members) (at members (terms ++ more))
  story before terms [] members number numbered distinct kept =
      subst (λ (all : List TermView). Replays greatest (at before terms) (moves name before members) (at members all)) (sym (append-nil terms))
      (moving greatest name old free (group_at [] terms) [] before members distinct)
  story before terms (term ∷ more) members number numbered distinct kept =
      let first = kept 0 term refl in
      let begun = subst (λ (n : ℕ). Replays greatest (at before terms) (term_changes name n before term) (at term.ring (terms ++ term ∷ []))) numbered (starting before terms term distinct first) in
      let rest = story term.ring (terms ++ term ∷ []) more members (number + 1) (ap (λ (n : ℕ). n + 1) (length-append terms (term ∷ []) ∙ numbered)) first.is_ring.distinct (λ place other there. kept (suc place) other there) in
      chain greatest (term_changes name number before term) (terms_changes name (number + 1) term.ring more members) (at before terms) (at term.ring (terms ++ term ∷ [])) (at members (terms ++ term ∷ more)) begun
      (subst (λ (all : List TermView). Replays greatest (at term.ring (terms ++ term ∷ [])) (terms_changes name (number + 1) term.ring more members) (at members all)) (append_assoc terms (term ∷ []) more) rest)
