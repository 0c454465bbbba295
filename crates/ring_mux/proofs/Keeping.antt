-- The worlds of a mux are sound, and so a running term with nothing in flight and no cut link is known at
-- all its members.
use Rattle.std.proofs.Common.{◌≡◌, ◌<◌, ℕ, true, false, cond, List, Option, Some, None, is_some, sym, ap, ◌∙◌}
use Rattle.std.specs.Str.{bytes_eq}
use Rattle.std.specs.Map.{set_value}
use Rattle.ring_election.specs.Laws.{Deciding}
use Rattle.ring_election.specs.Tables.{Table}
use Rattle.ring_election.specs.Families.{Fitting}
use Rattle.ring_world.specs.Quiet.{AllKnow}
use Rattle.ring_world.specs.Worlds.{IsSoundWorld, Running, pending_of, size_of}
use Rattle.ring_world.proofs.Quiet.{emptied_knows, none_pending_emptied, quiet_knows}
use Rattle.ring_terms.specs.Commands.{running_refusal}
use Rattle.ring_terms.specs.Object.{GroupView, Object, OfGroup, TermView, last_term}
use Rattle.ring_mux.specs.Quiet.{QuietIsKnown}
use Rattle.ring_terms.specs.Steps.{IsKnown, KnownIfNone}
use Rattle.ring_mux.specs.private.Views.{AreSound, IsSoundHeld}
use Rattle.ring_mux.specs.Views.{IsWorldOf, world_in}
use Rattle.ring_mux.proofs.Carrying.{looked_up, running_ring}
use Rattle.ring_mux.proofs.Drains.{the_term}

module _ {E S M : Type 0} (t : E → Table S M) (fits : E → Fitting M) (winner : E → List ℕ → ℕ) where
  -- worlds stay sound where a sound one is put under a name and the others stay
  pub sound_updated : (name : List ℕ) (worlds after : List (List ℕ × Running E M)) (world : Running E M) → AreSound t fits winner worlds → IsSoundWorld t fits winner world
      → ((other : List ℕ) → world_in other after ≡ cond (bytes_eq name other) (Some world) (world_in other worlds))
      → AreSound t fits winner after
  sound_updated name worlds after world sound is_sound updates = record {
    each = λ other found here.
        elim (bytes_eq name other) as (λ b. cond b (Some world) (world_in other worlds) ≡ Some found → IsSoundWorld t fits winner found) [
          | true ↦ λ it. let same : world ≡ found = cc in rw (← same) is_sound
          | false ↦ λ it. sound.each other found it
        ] (sym (updates other) ∙ here);
  }

  -- and so where a world is written over the one that stood there
  pub sound_written : (name : List ℕ) (worlds : List (List ℕ × Running E M)) (world after : Running E M) → AreSound t fits winner worlds → world_in name worlds ≡ Some world → IsSoundWorld t fits winner after
      → AreSound t fits winner (set_value (bytes_eq name) worlds after)
  sound_written name worlds world after sound found is_sound =
      sound_updated name worlds (set_value (bytes_eq name) worlds after) after sound is_sound (λ other. looked_up name other worlds world after found)

  module _ (deciding : (a : E) → Deciding (t a) (fits a)) (undecided : (a : E) (me : ℕ) → (t a).decided ((t a).first me) ≡ None) (object : Object E) (worlds : List (List ℕ × Running E M)) (kept : IsSoundHeld t fits winner object worlds) where
    -- the running term of a group is known where each node of its world knows
    term_known : (name : List ℕ) (group : GroupView E) (term : TermView) (of : IsWorldOf t name group term worlds) → last_term group ≡ Some term → AllKnow t winner of.world → IsKnown term
    term_known name group term of last all =
        let charter = running_ring name group term of.world.charter last of.charter in
        record {
          each = λ i below.
              let inside : i < size_of of.world = rw charter below in
              of.marks i below ∙ ap (λ (o : Option ℕ). Some (is_some o)) (all.each i inside);
        }

    -- quiet means known
    pub quiet_is_known : QuietIsKnown t (record { object = object; worlds = worlds })
    quiet_is_known = record {
      each = λ name group term at last.
          let of = kept.held.each name group term at last in
          record {
            world = of.world;
            found = of.found;
            charter = of.charter;
            known = λ uncut quiet.
                term_known name group term of last
                (quiet_knows t fits winner of.world (deciding of.world.charter.algorithm) (undecided of.world.charter.algorithm) (kept.sound.each name of.world of.found) uncut quiet);
          };
    }

    -- where the number of packets in flight or stuck is none, the running term is known
    pub none_known : (name : List ℕ) (number : ℕ) → OfGroup name (λ g. running_refusal g ≡ None) object → ((w : Running E M) → world_in name worlds ≡ Some w → number ≡ pending_of t w) → KnownIfNone name number object
    none_known name number runs counted none =
        let term = the_term t object worlds kept.held name runs in
        let of = kept.held.each name runs.group (term.0) runs.found (term.1) in
        let emptied = none_pending_emptied t of.world (sym (counted of.world of.found) ∙ none) in
        let all = emptied_knows t fits winner of.world (deciding of.world.charter.algorithm) (undecided of.world.charter.algorithm) (kept.sound.each name of.world of.found) emptied in
        record { group = runs.group; found = runs.found; says = record { term = term.0; found = term.1; says = term_known name runs.group (term.0) of (term.1) all } }
