-- What a delivery in a group's world answers, and what a mux keeps through it.
use Rattle.std.proofs.Common.{◌≡◌, ◌<◌, ℕ, Bool, List, length, Option, Some, None, refl, sym, ap, ◌∙◌, inl, subst}
use Rattle.std.specs.Map.{set_value}
use Rattle.std.specs.Str.{bytes_eq}
use Rattle.std.proofs.Math.ListN.{length-set}
use Rattle.std.proofs.lemmas.Map.Steps.{set_value_same}
use Rattle.ring_id.specs.declared.side.Side.{Side}
use Rattle.ring_roster.specs.Ring.{IsRing, position_of}
use Rattle.ring_election.specs.Tables.{Table}
use Rattle.ring_election.specs.Families.{Fitting}
use Rattle.ring_node.specs.Nodes.{told_of}
use Rattle.ring_node.specs.Reports.{Told}
use Rattle.ring_node.specs.declared.charter.Charter.{Charter}
use Rattle.ring_world.specs.Worlds.{HasMoved, IsSoundWorld, Running, after_receipt, node_at, size_of}
use Rattle.ring_terms.specs.declared.standing.Noting.{Noting}
use Rattle.ring_terms.specs.declared.standing.Noting.TheVariants.{Noted}
use Rattle.ring_terms.specs.Notes.{Notes, NotesOf}
use Rattle.ring_terms.specs.Object.{InGroup, Object}
use Rattle.ring_mux.specs.Journeys.{Files, HasCarried, with_world}
use Rattle.ring_terms.specs.Steps.{MovesOf}
use Rattle.ring_mux.specs.Views.{Held, IsHeld, world_in}
use Rattle.ring_mux.specs.private.Views.{IsSeat}
use Rattle.ring_mux.proofs.Carrying.{held_silent, noted, same_found, seat_inside, silent_knows, told_knows, world_of}

-- what is so of the world that was found is so of whatever is found under its name
pub of_found : {E M : Type 0} (name : List ℕ) (worlds : List (List ℕ × Running E M)) (world : Running E M) → world_in name worlds ≡ Some world → (P : Running E M → Type 0) → P world
    → (w : Running E M) → world_in name worlds ≡ Some w → P w
of_found name worlds world found P p w other = rw (same_found (world_in name worlds) w world other found) p

module _ {E S M : Type 0} (t : E → Table S M) (object : Object E) (worlds : List (List ℕ × Running E M)) (held : IsHeld t object worlds) (name : List ℕ) (world : Running E M) (found : world_in name worlds ≡ Some world)
    (i : ℕ) (seat : IsSeat name i object) (side : Side) (worlds' : List (List ℕ × Running E M)) (after : Running E M) (written : worlds' ≡ set_value (bytes_eq name) worlds after) where
  -- a world that stays is written over itself
  pub stays : after ≡ world → worlds' ≡ worlds
  stays same = written ∙ ap (λ (w : Running E M). set_value (bytes_eq name) worlds w) same ∙ set_value_same (bytes_eq name) worlds world found

  pub held_stays : after ≡ world → IsHeld t object worlds'
  held_stays same = rw (stays same) held

  pub view_stays : after ≡ world → (let now : Held E M = record { object = object; worlds = worlds' } in now ≡ record { object = object; worlds = worlds })
  view_stays same = ap (λ (l : List (List ℕ × Running E M)). record { object = object; worlds = l }) (stays same)

  module _ (fits : E → Fitting M) (winner : E → List ℕ → ℕ) (sound : IsSoundWorld t fits winner after) (report : Option (Told E)) (moved : HasMoved t world i side report after) where
    -- the receiver has a journal
    within : i < length world.journals
    within =
        let count = rw moved.journals at sound.count in
        let same : length world.journals ≡ size_of world = sym (length-set world.journals i _) ∙ count in
        rw same (seat_inside t object worlds held name world found i seat)

    ring : IsRing world.charter.roster
    ring = rw moved.journals at sound.is_ring

    -- what the receipt tells
    told : told_of t (node_at world i) (node_at (after_receipt world i side moved.packet) i) ≡ report
    told = ap (λ (w : Running E M). told_of t (node_at world i) (node_at w i)) (sym moved.journals) ∙ sym moved.report_is

    -- a delivery that tells nothing
    pub held_unheard : report ≡ None → IsHeld t object worlds'
    held_unheard none =
        rw (written, moved.journals)
        (held_silent t object worlds held name world found (after_receipt world i side moved.packet) refl (silent_knows t world i within side moved.packet (told ∙ none)))

    pub carried_unheard : report ≡ None → (greatest : E → Bool) → HasCarried t greatest name i side (record { object = object; worlds = worlds }) (record { object = object; worlds = worlds' })
    carried_unheard none greatest = record {
      before = world;
      after = after;
      report = report;
      found = found;
      moved = moved;
      worlds = written;
      filed = rw none refl;
      object = λ node placed. record {
        before = seat.group;
        after = seat.group;
        found = seat.found;
        does = inl refl;
        rest = sym (set_value_same (bytes_eq name) object seat.group seat.found);
      };
    }

    -- the news is of this group
    pub heard_group : (news : Told E) → report ≡ Some news → news.charter.group ≡ name
    heard_group news heard =
        ap (λ (c : Charter E). c.group)
        ((told_knows t world i within side moved.packet news (told ∙ heard)).2 ∙ (world_of t object worlds held name world found seat.group seat.says.term seat.found seat.says.found).0)

    -- a delivery that tells something, which is noted
    module _ (news : Told E) (heard : report ≡ Some news) (greatest : E → Bool) (noting : Noting) (object' : Object E) (notes : Notes greatest news object noting object') where
      both : IsHeld t object' (with_world name (after_receipt world i side moved.packet) worlds)
          × ((node : ℕ) → position_of node world.charter.roster ≡ Some i → InGroup name (MovesOf greatest node) object object')
          × (noting ≡ Noted)
      both =
          noted t object worlds held name world found i within side moved.packet seat.group seat.says.term seat.found seat.says.found seat.says.says ring news (told ∙ heard) greatest noting object'
          (subst (λ (n : List ℕ). NotesOf greatest n news object noting object') (heard_group news heard) notes)

      filed : Files greatest report object object'
      filed = rw heard (subst (λ (n : Noting). Notes greatest news object n object') both.2 notes)

      pub held_heard : IsHeld t object' worlds'
      held_heard = rw (written, moved.journals) (both.0)

      pub carried_heard : HasCarried t greatest name i side (record { object = object; worlds = worlds }) (record { object = object'; worlds = worlds' })
      carried_heard = record { before = world; after = after; report = report; found = found; moved = moved; worlds = written; filed = filed; object = both.1 }
