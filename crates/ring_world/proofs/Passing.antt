-- Passages, alone and one after another: none of them changes the charter, and what they tell is true.
use Rattle.std.proofs.Common.{◌≡◌, ◌<◌, ℕ, zero, suc, Bool, List, Option, Some, None, option_map, slice_index, ap, sym, ◌∙◌}
use Rattle.std.proofs.lemmas.Option.{slice_get-get_or}
use Rattle.ring_id.specs.declared.side.Side.{Side}
use Rattle.ring_election.specs.Families.{Fitting}
use Rattle.ring_election.specs.Tables.{Table}
use Rattle.ring_node.specs.declared.charter.Charter.{Charter}
use Rattle.ring_node.specs.Journals.{news}
use Rattle.ring_node.specs.Reports.{IsTruthful, Told as Report}
use Rattle.ring_world.specs.declared.passage.Passage.{Passage}
use Rattle.ring_world.specs.declared.passage.Passage.TheVariants as passage
use Rattle.ring_world.specs.declared.passage.Passages.{Passages}
use Rattle.ring_world.specs.declared.passage.PassagesEnd.{PassagesEnd}
use Rattle.ring_world.specs.declared.passage.PassagesEnd.TheVariants.{Told, Made, Quiet, Starved}
use Rattle.ring_world.specs.private.Worlds.{IsTold}
use Rattle.ring_world.specs.Worlds.{EndsPassages, HasMoved, HasPassed, IsSoundWorld, Passes, PassesReady, PassesSilently, Running, size_of}

module _ {E S M : Type 0} (t : E → Table S M) (fits : E → Fitting M) (winner : E → List ℕ → ℕ) (old : Running E M) where
  silently_charter : (n : ℕ) (new : Running E M) → PassesSilently t fits winner old n new → new.charter ≡ old.charter
  silently_charter zero new same = ap (λ (w : Running E M). w.charter) same
  silently_charter (suc n) new passes = ap (λ (w : Running E M). w.charter) passes.3.passed.journals ∙ silently_charter n passes.0 passes.2

  -- however they end
  ended_charter : (most done : ℕ) (end : PassagesEnd) (new : Running E M) → EndsPassages t fits winner most old done end new → new.charter ≡ old.charter
  ended_charter most done (Told i leader) new ends = ap (λ (w : Running E M). w.charter) ends.4.passed.journals ∙ silently_charter ends.0 ends.1 ends.3
  ended_charter most done Made new ends = silently_charter done new ends.1
  ended_charter most done Quiet new ends = silently_charter done new ends.0
  ended_charter most done Starved new ends = silently_charter done new ends.1

  pub ready_charter : (most : ℕ) (result : Passages) (new : Running E M) → PassesReady t fits winner most old result new → new.charter ≡ old.charter
  ready_charter most result new passes = ended_charter most result.done result.end new passes.ends

-- a leader that is news is known
news_known : (before after : Option ℕ) (leader : ℕ) → Some leader ≡ news before after → after ≡ Some leader
news_known None after leader is = sym is
news_known (Some v) after leader is = cc

module _ {E S M : Type 0} (t : E → Table S M) (old : Running E M) (i : ℕ) (side : Side) where
  passage_charter : (two_way may_tell : Bool) (result : Passage) (new : Running E M) → Passes t two_way may_tell old i side result new → new.charter ≡ old.charter
  passage_charter two_way may_tell (passage.Moved leader) new passes = ap (λ (w : Running E M). w.charter) passes.2.journals
  passage_charter two_way may_tell passage.Idle new passes = ap (λ (w : Running E M). w.charter) passes.2
  passage_charter two_way may_tell (passage.Refused refusal) new passes = ap (λ (w : Running E M). w.charter) passes.1

  -- so whoever told of the world before it tells of the world after it
  pub told_after : (two_way may_tell : Bool) (result : Passage) (fits : E → Fitting M) (winner : E → List ℕ → ℕ) (charter : Charter E) → charter ≡ old.charter → (new : Running E M)
      → Passes t two_way may_tell old i side result new → IsSoundWorld t fits winner new → IsTold t fits winner charter new
  told_after two_way may_tell result fits winner charter same new passes sound = record { charter_is = same ∙ sym (passage_charter two_way may_tell result new passes); sound = sound }

  -- the leader that is told is the winner
  pub passed_truthful : (fits : E → Fitting M) (winner : E → List ℕ → ℕ) → i < size_of old → (leader : ℕ) (new : Running E M) → HasPassed t old i side (Some leader) new → IsSoundWorld t fits winner new
      → IsTruthful (winner old.charter.algorithm) old.charter.roster (slice_index old.charter.roster i) leader
  passed_truthful fits winner inside leader new passed sound =
      let there = rw passed.journals at sound in
      let told = rw passed.journals at passed.leader_is in
      record {
        is_ring = there.is_ring;
        inside = (i, slice_get-get_or old.charter.roster i 0 inside);
        wins = (there.faithful i inside).knows leader (news_known _ _ leader told);
      }

  -- and a report tells it where one is made of each leader
  pub passed_moved : (leader : Option ℕ) (new : Running E M) → HasPassed t old i side leader new → (report : Option (Report E))
      → report ≡ option_map (λ v. record { charter = old.charter; member = slice_index old.charter.roster i; leader = v }) leader
      → HasMoved t old i side report new
  passed_moved leader new passed report is = record {
    packet = passed.packet;
    rest = passed.rest;
    front = passed.front;
    journals = passed.journals;
    report_is = is ∙ ap (option_map (λ v. record { charter = old.charter; member = slice_index old.charter.roster i; leader = v })) passed.leader_is;
  }
